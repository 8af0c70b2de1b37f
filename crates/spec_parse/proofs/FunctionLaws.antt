-- FUNCTION statements are read as they are written.
use Rattle.std.proofs.Common.{◌≡◌, refl, sym, ◌∙◌, ap, subst, ℕ, ◌+◌, Bool, true, false, List, [], ◌∷◌, ◌++◌, length, Option, Some, None, codes, if◌then◌else◌}
use Rattle.std.proofs.lemmas.List.{append-nil}
use Rattle.std.proofs.lemmas.Option.{some_pair_parts}
use Rattle.std.proofs.lemmas.Bool.{and_from}
use denote.Hole.Carrier
use Rattle.ftn_tree.specs.declared.token.Token.{Token}
use Rattle.ftn_tree.specs.declared.form.Form.{Form, out-Form}
use Rattle.ftn_tree.specs.declared.form.Form.TheOpen.{Form-F}
use Rattle.ftn_tree.specs.declared.form.Form.TheVariants as form
use Rattle.ftn_tree.specs.declared.lexeme.Lexeme.{Lexeme}
use Rattle.ftn_tree.specs.declared.lexeme.Lexeme.TheVariants.{Word}
use Rattle.ftn_tree.specs.declared.parts.TypeSpec.{TypeSpec}
use Rattle.ftn_tree.specs.Lexemes.{lexeme_of, is_word, same_lexeme}
use Rattle.ftn_tree.specs.Phrases.{Phrase, nothing, ◌·◌, word, name, maybe, in_parens, commas_or_none}
use Rattle.ftn_tree.specs.TypeForms.{type_text}
use Rattle.ftn_tree.specs.Layers.{FormLayer}
use Rattle.ftn_tree.specs.SpecificationForms.{declaration_at}
use Rattle.ftn_tree.specs.UnitForms.{unit_form_at}
use Rattle.expr_parse.specs.steps.Input.{Input, input, Reader, Outcome, and_then, ◌>>◌, pure, finish, is_done, done_at}
use Rattle.expr_parse.proofs.AllKinds.{apart}
use Rattle.expr_parse.proofs.Operands.{ReadsExpressions}
use Rattle.expr_parse.proofs.Pieces.{Took, Apart, begins, bind_some, took_both}
use Rattle.expr_parse.proofs.Tokens.{only, is_same, word_kind}
use Rattle.spec_parse.specs.steps.Names.{dummies}
use Rattle.spec_parse.specs.steps.Rows.{begins_function, typed_row}
use Rattle.spec_parse.specs.steps.Types.{type_spec}
use Rattle.spec_parse.specs.steps.Declaring.{declare_from}
use Rattle.spec_parse.specs.steps.Units.{function, function_parts, result_name}
use Rattle.spec_parse.proofs.DeclareLaws.{declare_took}
use Rattle.ftn_tree.proofs.PhraseLaws.{led_by, drop_none, add_none, placed}
use Rattle.spec_parse.proofs.TypePieces.{type_piece}
use Rattle.spec_parse.proofs.UnitPieces as pieces
use Rattle.spec_parse.proofs.Wholes.{Sound, GivesForm, row_sound, row_complete, image, made_of}

abbrev Parts : Type 0
Parts = ℕ × (List ℕ × Option ℕ)

abbrev function_form : Option TypeSpec → Parts → Form
function_form ty parts = form.Function ty parts.0 parts.1.0 parts.1.1

-- what follows the type
abbrev pub rest_of_function : ℕ → List ℕ → Option ℕ → Phrase
rest_of_function n listed answer = word (codes "function") · name n · in_parens (commas_or_none name listed) · maybe (λ named. word (codes "result") · in_parens (name named)) answer

-- ---- without a type

untyped_made : (parts : Parts) (at : ℕ) (tokens : List Token) → pieces.function_parts.phrase parts at tokens → unit_form_at (out-Form (function_form None parts)) at tokens
unfolding out-Form denote.Hole.Carrier.out
untyped_made all at tokens says = add_none (rest_of_function all.0 all.1.0 all.1.1) at tokens says

pub sound_function : Sound (function None)
unfolding function function_parts result_name dummies
sound_function = row_sound pieces.function_parts (function_form None) untyped_made

pub complete_function : (n : ℕ) (listed : List ℕ) (answer : Option ℕ) (at : ℕ) (tokens : List Token) → (nothing · rest_of_function n listed answer) at tokens → GivesForm (function None) at tokens (form.Function None n listed answer)
unfolding function function_parts result_name dummies
complete_function n listed answer at tokens says =
    row_complete pieces.function_parts (function_form None) (n, (listed, answer)) at tokens (drop_none (rest_of_function n listed answer) at tokens says)

-- ---- after a type

-- what is written after a type is read so
gives_rest : (ty : TypeSpec) (n : ℕ) (listed : List ℕ) (answer : Option ℕ) (at : ℕ) (tokens : List Token) → rest_of_function n listed answer at tokens → GivesForm (function (Some ty)) at tokens (form.Function (Some ty) n listed answer)
unfolding function function_parts result_name dummies
gives_rest ty n listed answer at tokens says = row_complete pieces.function_parts (function_form (Some ty)) (n, (listed, answer)) at tokens says

is_function : (n : ℕ) (listed : List ℕ) (answer : Option ℕ) (at : ℕ) (tokens : List Token) → rest_of_function n listed answer at tokens → begins_function tokens ≡ true
unfolding begins_function
is_function n listed answer at tokens (b1, a1, s1, (t1, o1, i1), (b2, a2, s2, (t2, o2, i2), says)) =
    subst (λ tokens. begins_function tokens ≡ true) (sym (led_by t1 b1 a1 (t2 ∷ a2) tokens s1 o1 (led_by t2 b2 a2 a2 a1 s2 o2 refl)))
    (and_from (is_word (codes "function") t1) (same_lexeme (lexeme_of t2) Word) i1 (is_same (lexeme_of t2) Word i2.1))

begins_word : (n : ℕ) (listed : List ℕ) (answer : Option ℕ) (at : ℕ) (tokens : List Token) → rest_of_function n listed answer at tokens → begins (only Word) tokens ≡ true
begins_word n listed answer at tokens (b1, a1, s1, (t1, o1, i1), says) =
    subst (λ tokens. begins (only Word) tokens ≡ true) (sym (led_by t1 b1 a1 a1 tokens s1 o1 refl)) (word_kind (codes "function") t1 i1)

stops_at : (more : Lexeme → Bool) (tokens : List Token) → Apart (only Word) more → begins (only Word) tokens ≡ true → begins more tokens ≡ false
stops_at more [] apart e = absurd (cc e)
stops_at more (here ∷ rest) apart e = apart (lexeme_of here) e

abbrev end_if : Bool → Input → Outcome (Unit {0})
end_if done i = if done then Some (tt, i) else None

-- what was read was all
ended : (made form : Form) (k j : Input) → and_then (finish k) (λ u. pure made) ≡ Some (form, j) → (k.rest ≡ []) × (made ≡ form)
unfolding finish is_done
ended made form k j e = by k.rest refl e where
  by : (rest : List Token) → k.rest ≡ rest → and_then (end_if (done_at rest) k) (λ u. pure made) ≡ Some (form, j) → (k.rest ≡ []) × (made ≡ form)
  by [] is e = (is, (some_pair_parts made form k j e).0)
  by (here ∷ rest) is e = absurd (cc e)

took_all : (phrase : Form → Phrase) (made form : Form) (at : ℕ) (tokens : List Token) (k j : Input) → Took (phrase made) (input at tokens) k → and_then (finish k) (λ u. pure made) ≡ Some (form, j) → phrase form at tokens
took_all phrase made form at tokens k j took e =
    let end = ended made form k j e in
    let all : tokens ≡ took.tokens = took.rest ∙ ap (λ rest. took.tokens ++ rest) end.0 ∙ append-nil took.tokens in
    subst (λ form. phrase form at tokens) end.1 (subst (λ tokens. phrase made at tokens) (sym all) took.says)

abbrev choosing : TypeSpec → Reader Form
choosing ty j = if begins_function j.rest then function (Some ty) j else declare_from ty j

abbrev ending : Form → Reader Form
ending form = finish >> pure form

typed_made : (ty : TypeSpec) (form : Form) (at : ℕ) (tokens : List Token) → (type_text ty · image pieces.function_parts (function_form (Some ty)) form) at tokens → unit_form_at (out-Form form) at tokens
unfolding out-Form denote.Hole.Carrier.out
typed_made ty form at tokens (before, after, split, says, (all, same, says_rest)) = subst (λ form. unit_form_at (out-Form form) at tokens) same (before, after, split, says, says_rest)

-- a declaration is written as a specification
declared_is : (layer : FormLayer) (at : ℕ) (tokens : List Token) → declaration_at layer at tokens → unit_form_at layer at tokens
declared_is (Form-F.BlockData joined n) at tokens says = absurd says
declared_is (Form-F.Program n) at tokens says = absurd says
declared_is (Form-F.ModuleProcedure names) at tokens says = absurd says
declared_is (Form-F.Module n) at tokens says = absurd says
declared_is (Form-F.Subroutine n listed) at tokens says = absurd says
declared_is (Form-F.Function ty n listed answer) at tokens says = absurd says
declared_is Form-F.Contains at tokens says = absurd says
declared_is (Form-F.End found) at tokens says = absurd says
declared_is (Form-F.UseAll n items) at tokens says = absurd says
declared_is (Form-F.UseOnly n items) at tokens says = absurd says
declared_is (Form-F.Implicit groups) at tokens says = absurd says
declared_is (Form-F.Interface n) at tokens says = absurd says
declared_is _ at tokens says = says

module _ (laws : ReadsExpressions) where
  function_took : (ty : TypeSpec) (form : Form) (i j k : Input) → type_spec i ≡ Some (ty, j) → function (Some ty) j ≡ Some (form, k) → Took (λ at tokens. unit_form_at (out-Form form) at tokens) i k
  unfolding function function_parts result_name dummies
  function_took ty form i j k typed read =
      let took = took_both (type_text ty) (image pieces.function_parts (function_form (Some ty)) form) i j k ((type_piece laws).sound i ty j typed)
      ((made_of pieces.function_parts (function_form (Some ty))).sound j form k read) in
      record { tokens = took.tokens; rest = took.rest; at = took.at; says = typed_made ty form i.at took.tokens took.says }

  either_took : (ty : TypeSpec) (form : Form) (i j k : Input) → type_spec i ≡ Some (ty, j) → choosing ty j ≡ Some (form, k) → Took (λ at tokens. unit_form_at (out-Form form) at tokens) i k
  either_took ty form i j k typed chosen = by (begins_function j.rest) refl where
    by : (first : Bool) → begins_function j.rest ≡ first → Took (λ at tokens. unit_form_at (out-Form form) at tokens) i k
    by true is = function_took ty form i j k typed (sym (ap (λ first. if first then function (Some ty) j else declare_from ty j) is) ∙ chosen)
    by false is =
        let took = declare_took laws ty form i j k typed (sym (ap (λ first. if first then function (Some ty) j else declare_from ty j) is) ∙ chosen) in
        record { tokens = took.tokens; rest = took.rest; at = took.at; says = declared_is (out-Form form) i.at took.tokens took.says }

  pub sound_typed : Sound typed_row
  unfolding typed_row
  sound_typed at tokens form j e =
      let (made, k, read, ends) = bind_some (typed_row (input at tokens)) ending form j e in
      let (ty, l, typed, chosen) = bind_some (type_spec (input at tokens)) choosing made k read in
      took_all (λ form at tokens. unit_form_at (out-Form form) at tokens) made form at tokens k j (either_took ty made (input at tokens) l k typed chosen) ends

  type_no_word : Apart (only Word) (type_piece laws).more
  unfolding same_lexeme
  type_no_word = apart (only Word) (type_piece laws).more refl

  function_by : (ty : TypeSpec) (n : ℕ) (listed : List ℕ) (answer : Option ℕ) (at : ℕ) (before after : List Token) → type_text ty at before → rest_of_function n listed answer (at + length before) after
      → GivesForm typed_row at (before ++ after) (form.Function (Some ty) n listed answer)
  unfolding typed_row
  function_by ty n listed answer at before after says says_rest =
      let place = input (at + length before) after in
      let typed = (type_piece laws).complete ty at before after says (stops_at (type_piece laws).more after type_no_word (begins_word n listed answer (at + length before) after says_rest)) in
      let chosen = ap (λ first. and_then (if first then function (Some ty) place else declare_from ty place) ending) (is_function n listed answer (at + length before) after says_rest) in
      ap (λ found. and_then (and_then found choosing) ending) typed ∙ chosen ∙ gives_rest ty n listed answer (at + length before) after says_rest
      ∙ ap (λ place. Some (form.Function (Some ty) n listed answer, input place [])) (placed at before after)

  pub complete_typed : (ty : TypeSpec) (n : ℕ) (listed : List ℕ) (answer : Option ℕ) (at : ℕ) (tokens : List Token) → (type_text ty · rest_of_function n listed answer) at tokens
      → GivesForm typed_row at tokens (form.Function (Some ty) n listed answer)
  complete_typed ty n listed answer at tokens (before, after, split, says, says_rest) =
      subst (λ tokens. GivesForm typed_row at tokens (form.Function (Some ty) n listed answer)) (sym split) (function_by ty n listed answer at before after says says_rest)
