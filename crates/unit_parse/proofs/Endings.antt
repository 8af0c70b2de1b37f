-- The end of a file that was read to its end.
use Rattle.std.proofs.Common.{◌≡◌, ◌⊎◌, ◌<◌, ◌≤◌, ℕ, suc, ◌+◌, Bool, List, [], ◌∷◌, ◌++◌, length, map, take, drop, slice_get, get_or, Option, Some, None, Result, Ok, Err, inl, inr, refl, sym, ◌∙◌, ap, subst, arith}
use Rattle.std.specs.Option.{option_map_or}
use Rattle.std.proofs.lemmas.Option.{slice_get_cases}
use Rattle.ftn_base.specs.declared.fault.FaultKind.{FaultKind}
use Rattle.ftn_base.specs.declared.place.Range.{Range}
use Rattle.ftn_tree.specs.declared.mark.Mark.{Mark}
use Rattle.ftn_tree.specs.declared.mark.Mark.TheVariants as mark
use Rattle.ftn_tree.specs.declared.token.Tokens.{Tokens}
use Rattle.ftn_tree.specs.declared.unit.FileTree.{FileTree}
use Rattle.ftn_tree.specs.declared.unit.Statement.{Statement}
use Rattle.ftn_tree.specs.declared.unit.Unit.{Unit as UnitTree}
use Rattle.ftn_tree.specs.Nesting.{Nested}
use Rattle.ftn_tree.specs.NestFaults.{Path, marks_of, same_name, innermost, IsUnfinished}
use Rattle.ftn_tree.specs.FileFaults.{IsFileTree, IsEndFault, AreRead, first_bytes, no_bytes}
use Rattle.unit_parse.specs.declared.fault.NestFault.{NestFault}
use Rattle.unit_parse.specs.declared.fault.NestFault.TheVariants as nest
use Rattle.unit_parse.specs.declared.statements.Reading.{Reading}
use Rattle.unit_parse.specs.Parsing.{HasNoTree, IsParseFault}
use Rattle.unit_parse.specs.steps.Unclosed.{unclosed_from}
use Rattle.unit_parse.specs.steps.Progress.{Holds, bytes_of, unfinished}
use Rattle.unit_parse.specs.Taking.{State, Answer, start, take_all, finish, finish_all, Finishes}
use Rattle.unit_parse.proofs.NextStatement.{marks_length}
use Rattle.unit_parse.proofs.LeftOpen.{path_found}
use Rattle.unit_parse.proofs.Answers.{nested_ok, unfinished_at}

-- ---- an opening without an ending is one of the statements

abbrev AreBelow : ℕ → Path → Type 0
AreBelow n [] = Unit {0}
AreBelow n (one ∷ around) = (one.0 < n) × AreBelow n around

below_more : (around : Path) (n : ℕ) → AreBelow n around → AreBelow (n + 1) around
below_more [] n are = tt
below_more (one ∷ around) n are = (omega (arith, are.0), below_more around n are.1)

below_less : (around : Path) (n : ℕ) → AreBelow n around → AreBelow n (drop 1 around)
below_less [] n are = tt
below_less (one ∷ around) n are = are.1

within : (marks : List Mark) (around : Path) (n at : ℕ) → AreBelow n around → innermost (unclosed_from around n marks) ≡ Some at → at < n + length marks
within [] [] n at are e = absurd (cc e)
within [] (one ∷ around) n at are e = let is : one.0 ≡ at = cc e in let low = are.0 in omega arith
within (mark.Open what ∷ marks) around n at are e =
    let low = within marks ((n, what) ∷ around) (n + 1) at (omega arith, below_more around n are) e in omega arith
within (mark.PlainEnd ∷ marks) around n at are e =
    let low = within marks (drop 1 around) (n + 1) at (below_more (drop 1 around) n (below_less around n are)) e in omega arith
within (mark.End by ∷ marks) around n at are e =
    let low = within marks (drop 1 around) (n + 1) at (below_more (drop 1 around) n (below_less around n are)) e in omega arith
within (m ∷ marks) around n at are e =
    let low = within marks around (n + 1) at (below_more around n are) e in omega arith

there : (statements : List Statement) (at : ℕ) → at < length statements → (statement : Statement) × (slice_get statements at ≡ Some statement)
there [] at low = absurd (omega arith)
there statements at low = on (slice_get_cases statements at).1
  where
    on : ((s : Statement) × (at < length statements) × (slice_get statements at ≡ Some s) × (get_or statements at s ≡ s)) ⊎ ((length statements ≤ at) × (slice_get statements at ≡ None)) → (statement : Statement) × (slice_get statements at ≡ Some statement)
    on (inl is) = (is.0, is.2)
    on (inr is) = absurd (omega (arith, is.0))

module _ (tokens : Tokens) (reading : Reading) (holds : Holds tokens tokens.statements reading) where
  finishes : finish_all (take_all (same_name tokens) start 0 (marks_of reading.statements)) ≡ finish reading.nesting
  finishes = ap (λ (a : Answer). finish_all a) holds.taken

  pub tree_of : (units : List UnitTree) → finish reading.nesting ≡ Ok units → IsFileTree tokens (record { tokens = tokens; statements = reading.statements; units = units })
  tree_of units e = record {
    tokens_are = refl;
    read = holds.read;
    nested = nested_ok (same_name tokens) (marks_of reading.statements) units (finishes ∙ e);
  }

  unfinished_as : (kind : FaultKind) (number : ℕ) → finish reading.nesting ≡ Err (kind, number) → IsUnfinished (same_name tokens) (marks_of reading.statements) kind number
  unfinished_as kind number e =
      unfinished_at (same_name tokens) (marks_of reading.statements) kind number reading.nesting.here reading.nesting.frames (finishes ∙ e) holds.taken e

  opening_of : (kind : FaultKind) (number : ℕ) → IsUnfinished (same_name tokens) (marks_of reading.statements) kind number
      → (statement : Statement) × (slice_get reading.statements number ≡ Some statement)
  opening_of kind number is =
      there reading.statements number
      (let low = within (marks_of reading.statements) [] 0 number tt
      (ap (λ (path : Path). innermost path) (sym (path_found (same_name tokens) is.path (marks_of reading.statements) is.leaves)) ∙ is.place) in
      let many = marks_length reading.statements in
      omega arith)

  fault_at : (kind : FaultKind) (number : ℕ) → finish reading.nesting ≡ Err (kind, number) → IsEndFault tokens kind (bytes_of tokens reading.statements number)
  fault_at kind number e =
      let is = unfinished_as kind number e in
      let opening = opening_of kind number is in
      record {
        statements = reading.statements;
        read = holds.read;
        at = number;
        unfinished = is;
        opening = opening.0;
        opened = opening.1;
        place = ap (λ (o : Option Statement). option_map_or (λ statement. first_bytes tokens statement.tokens) o no_bytes) opening.1;
      }

  pub end_tree : (found : NestFault) → Finishes (finish reading.nesting) (Err found) → HasNoTree tokens (unfinished found tokens reading.statements)
  end_tree (nest.At kind number) is = λ tree file.
      (unfinished_as kind number is).unfinished tree.units
      (subst (λ (l : List Statement). Nested (same_name tokens) (marks_of l) tree.units) (holds.only tree.statements file.read) file.nested)
  end_tree nest.NoMemory is = tt

  pub end_fault : (found : NestFault) → Finishes (finish reading.nesting) (Err found) → IsParseFault tokens (unfinished found tokens reading.statements)
  end_fault (nest.At kind number) is = inr (fault_at kind number is)
  end_fault nest.NoMemory is = tt
