-- The tokens of a file have one tree.
use Rattle.std.proofs.Common.{◌≡◌, ◌⊎◌, ℕ, List, [], ◌∷◌, inl, inr, refl, sym, ◌∙◌, ap, subst}
use Rattle.ftn_base.specs.declared.place.Range.{Range}
use Rattle.ftn_tree.specs.declared.form.Form.{Form}
use Rattle.ftn_tree.specs.declared.token.Token.{Token}
use Rattle.ftn_tree.specs.declared.token.Tokens.{Tokens}
use Rattle.ftn_tree.specs.declared.unit.FileTree.{FileTree}
use Rattle.ftn_tree.specs.declared.unit.Statement.{Statement}
use Rattle.ftn_tree.specs.declared.unit.Unit.{Unit as UnitTree}
use Rattle.ftn_tree.specs.Nesting.{Nested}
use Rattle.ftn_tree.specs.NestFaults.{marks_of, same_name}
use Rattle.ftn_tree.specs.FileFaults.{row_in, is_statement, IsRead, AreRead, IsFileTree}
use Rattle.spec_parse.proofs.OneForm as specifications
use Rattle.exec_parse.proofs.OneForm as executables
use Rattle.unit_parse.proofs.Apart.{apart}
use Rattle.unit_parse.proofs.Exact.{one_reading}

pub one_statement : (one other : Form) (at : ℕ) (row : List Token) → is_statement one at row → is_statement other at row → one ≡ other
one_statement one other at row (inl says) (inl is) = specifications.one_form one other at row says is
one_statement one other at row (inl says) (inr is) = absurd (apart one other at row says is)
one_statement one other at row (inr says) (inl is) = absurd (apart other one at row is says)
one_statement one other at row (inr says) (inr is) = executables.one_form one other at row says is

abbrev statement : Form → Range → Statement
statement form range = record { form = form; tokens = range }

abbrev file : Tokens → List Statement → List UnitTree → FileTree
file tokens statements units = record { tokens = tokens; statements = statements; units = units }

module _ (tokens : Tokens) where
  pub same_statement : (range : Range) (one other : Statement) → IsRead tokens range one → IsRead tokens range other → one ≡ other
  same_statement range one other is was =
      let forms : one.form ≡ other.form = one_statement one.form other.form range.start (row_in tokens range) is.says was.says in
      let ranges : one.tokens ≡ other.tokens = is.place ∙ sym was.place in
      ap (λ (f : Form). statement f one.tokens) forms ∙ ap (λ (r : Range). statement other.form r) ranges

  pub same_read : (ranges : List Range) (one other : List Statement) → AreRead tokens ranges one → AreRead tokens ranges other → one ≡ other
  same_read [] [] [] are were = refl
  same_read [] [] (t ∷ other) are were = absurd were
  same_read [] (s ∷ one) other are were = absurd are
  same_read (range ∷ ranges) [] other are were = absurd are
  same_read (range ∷ ranges) (s ∷ one) [] are were = absurd were
  same_read (range ∷ ranges) (s ∷ one) (t ∷ other) are were =
      ap (λ (s : Statement). s ∷ one) (same_statement range s t are.0 were.0) ∙ ap (λ (l : List Statement). t ∷ l) (same_read ranges one other are.1 were.1)

  pub one_tree : (one other : FileTree) → IsFileTree tokens one → IsFileTree tokens other → one ≡ other
  one_tree one other is was =
      let statements = same_read tokens.statements one.statements other.statements is.read was.read in
      let nested = subst (λ (l : List Statement). Nested (same_name tokens) (marks_of l) one.units) statements is.nested in
      let units = one_reading (same_name tokens) (marks_of other.statements) one.units other.units nested was.nested in
      ap (λ (t : Tokens). file t one.statements one.units) (is.tokens_are ∙ sym was.tokens_are)
      ∙ ap (λ (l : List Statement). file other.tokens l one.units) statements
      ∙ ap (λ (l : List UnitTree). file other.tokens other.statements l) units
