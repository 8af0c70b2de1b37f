-- Type declarations are read as they are written.
use Rattle.std.proofs.Common.{◌≡◌, refl, sym, ◌∙◌, ap, subst, ℕ, ◌+◌, Bool, true, false, List, [], ◌∷◌, ◌++◌, length, Some, ◌⊎◌, inl, inr, codes, if◌then◌else◌}
use Rattle.std.proofs.lemmas.Option.{some_pair_parts}
use Rattle.std.proofs.lemmas.Bool.{and_left, and_right}
use Rattle.std.proofs.lemmas.List.{append-nil}
use denote.Hole.Carrier
use Rattle.ftn_tree.specs.declared.token.Token.{Token}
use Rattle.ftn_tree.specs.declared.form.Form.{Form, out-Form}
use Rattle.ftn_tree.specs.declared.form.Form.TheOpen.{Form-F}
use Rattle.ftn_tree.specs.declared.form.Form.TheVariants as made
use Rattle.ftn_tree.specs.declared.parts.TypeSpec.{TypeSpec}
use Rattle.ftn_tree.specs.declared.parts.Attribute.{Attribute}
use Rattle.ftn_tree.specs.declared.parts.EntityDecl.{EntityDecl}
use Rattle.ftn_tree.specs.declared.lexeme.Lexeme.TheVariants.{Word, Comma, Colons}
use Rattle.ftn_tree.specs.Lexemes.{lexeme_of, is_word, same_lexeme}
use Rattle.ftn_tree.specs.Phrases.{Phrase, ◌·◌, mark, whether, commas, provided}
use Rattle.ftn_tree.specs.TypeForms.{type_text}
use Rattle.ftn_tree.specs.SpecificationForms as form
use Rattle.ftn_tree.specs.SpecificationForms.{declaration_at}
use Rattle.ftn_tree.proofs.PhraseLaws.{placed}
use Rattle.expr_parse.specs.steps.Input.{Input, input, Reader, and_then, pure, ◌>>◌, finish}
use Rattle.expr_parse.proofs.Pieces.{Piece, Took, Apart, begins, bind_some, took_both, stops_before}
use Rattle.expr_parse.proofs.AllKinds.{apart}
use Rattle.expr_parse.proofs.Tokens.{only}
use Rattle.expr_parse.proofs.Commas.{tail}
use Rattle.expr_parse.proofs.Operands.{ReadsExpressions}
use Rattle.spec_parse.specs.steps.Types.{type_spec}
use Rattle.spec_parse.specs.steps.Declaring as spec
use Rattle.spec_parse.specs.steps.Declaring.{declare_from, Parts}
use Rattle.spec_parse.specs.steps.Rows.{typed_row, begins_function}
use Rattle.spec_parse.specs.steps.Units.{function}
use Rattle.spec_parse.proofs.Choices.{checked_piece}
use Rattle.spec_parse.proofs.Flags.{flag}
use Rattle.spec_parse.proofs.Wholes.{GivesForm, row_complete}
use Rattle.spec_parse.proofs.TypePieces.{type_piece}
use Rattle.spec_parse.proofs.StatementPieces.{after_type, after_name, entity_piece, attributes_piece, comma_no_entity}
use Rattle.spec_parse.proofs.Seen.{no_word_at}

comma_no_word : Apart (only Comma) (only Word)
unfolding same_lexeme
comma_no_word = apart (only Comma) (only Word) refl

colons_no_word : Apart (only Colons) (only Word)
unfolding same_lexeme
colons_no_word = apart (only Colons) (only Word) refl

-- what doesn't begin with a word doesn't begin with FUNCTION and a name
other_first : (tokens : List Token) → begins (only Word) tokens ≡ false → begins_function tokens ≡ false
unfolding begins_function
other_first [] e = refl
other_first (here ∷ []) e = refl
other_first (here ∷ next ∷ rest) e = and_left (is_word (codes "function") here) (same_lexeme (lexeme_of next) Word) (no_word_at (codes "function") here (is_word (codes "function") here) refl e)

-- nor does what has no word as its second token
other_second : (here : Token) (rest : List Token) → begins (only Word) rest ≡ false → begins_function (here ∷ rest) ≡ false
unfolding begins_function
other_second here [] e = refl
other_second here (next ∷ rest) e = and_right (is_word (codes "function") here) (same_lexeme (lexeme_of next) Word) e

module _ (laws : ReadsExpressions) where
  -- what follows a type in a declaration of that type
  abbrev pub rest_parts : TypeSpec → Piece Parts
  rest_parts ty = checked_piece (spec.may_follow ty) (after_type laws)

  after_name_no_word : Apart (after_name laws).first (only Word)
  unfolding same_lexeme
  after_name_no_word = apart (after_name laws).first (only Word) refl

  -- no list of entities begins with FUNCTION and a name
  entities_no_function : (entities : List EntityDecl) (at : ℕ) (tokens : List Token) → commas form.entity entities at tokens → begins_function tokens ≡ false
  entities_no_function [] at tokens says = absurd says
  entities_no_function (e ∷ more) at tokens (before, after, split, (named, follow, split_entity, (here, is_one, is_name), says_follow), says_more) =
      subst (λ tokens. begins_function tokens ≡ false) (sym (split ∙ ap (λ before. before ++ after) (split_entity ∙ ap (λ named. named ++ follow) is_one)))
      (other_second here (follow ++ after) (by ((after_name laws).begun (e.bounds, (e.length, e.value)) (at + length named) follow says_follow))) where
        by_more : (begins (only Comma) after ≡ true) ⊎ ((after ≡ []) × (true ≡ true)) → begins (only Word) after ≡ false
        by_more (inl e) = subst (λ after. begins (only Word) after ≡ false) (append-nil after) (stops_before (only Comma) (only Word) after [] comma_no_word e)
        by_more (inr e) = ap (begins (only Word)) e.0

        by : (begins (after_name laws).first follow ≡ true) ⊎ ((follow ≡ []) × ((after_name laws).empty ≡ true)) → begins (only Word) (follow ++ after) ≡ false
        by (inl e) = stops_before (after_name laws).first (only Word) follow after after_name_no_word e
        by (inr e) = ap (λ follow. begins (only Word) (follow ++ after)) e.0 ∙ by_more ((tail (entity_piece laws) (comma_no_entity laws)).begun more (at + length before) after says_more)

  colons_no_function : (colons : Bool) (entities : List EntityDecl) (at : ℕ) (tokens : List Token) → (whether colons (mark Colons) · commas form.entity entities) at tokens → begins_function tokens ≡ false
  colons_no_function colons entities at tokens (before, after, split, says, says_entities) =
      subst (λ tokens. begins_function tokens ≡ false) (sym split) (by ((flag Colons).begun colons at before says)) where
        by : (begins (only Colons) before ≡ true) ⊎ ((before ≡ []) × (true ≡ true)) → begins_function (before ++ after) ≡ false
        by (inl e) = other_first (before ++ after) (stops_before (only Colons) (only Word) before after colons_no_word e)
        by (inr e) = subst (λ before. begins_function (before ++ after) ≡ false) (sym e.0) (entities_no_function entities (at + length before) after says_entities)

  -- nor does what follows the type
  rest_no_function : (parts : Parts) (at : ℕ) (tokens : List Token) → (after_type laws).phrase parts at tokens → begins_function tokens ≡ false
  rest_no_function parts at tokens (before, after, split, says, says_rest) =
      subst (λ tokens. begins_function tokens ≡ false) (sym split) (by ((attributes_piece laws).begun parts.0 at before says)) where
        by : (begins (only Comma) before ≡ true) ⊎ ((before ≡ []) × (true ≡ true)) → begins_function (before ++ after) ≡ false
        by (inl e) = other_first (before ++ after) (stops_before (only Comma) (only Word) before after comma_no_word e)
        by (inr e) = subst (λ before. begins_function (before ++ after) ≡ false) (sym e.0) (colons_no_function parts.1.0 parts.1.1 (at + length before) after says_rest)

  -- ---- sound

  moved_out : (holds : Bool) (one other : Phrase) (at : ℕ) (tokens : List Token) → (one · provided holds other) at tokens → provided holds (one · other) at tokens
  moved_out holds one other at tokens (before, after, split, says, (passes, says_other)) = (passes, (before, after, split, says, says_other))

  declare_made : (ty : TypeSpec) (parts : Parts) (at : ℕ) (tokens : List Token) → (type_text ty · (rest_parts ty).phrase parts) at tokens → declaration_at (out-Form (spec.declaration_of ty parts)) at tokens
  unfolding out-Form denote.Hole.Carrier.out
  declare_made ty parts at tokens says = moved_out (spec.may_follow ty parts) (type_text ty) ((after_type laws).phrase parts) at tokens says

  -- what is read after a type makes a declaration of it
  pub declare_took : (ty : TypeSpec) (form : Form) (i j k : Input) → type_spec i ≡ Some (ty, j) → declare_from ty j ≡ Some (form, k) → Took (λ at tokens. declaration_at (out-Form form) at tokens) i k
  unfolding declare_from
  declare_took ty form i j k typed declared =
      let (parts, l, read, gives) = bind_some ((rest_parts ty).read j) (λ parts. pure (spec.declaration_of ty parts)) form k declared in
      let same = some_pair_parts (spec.declaration_of ty parts) form l k gives in
      let took = took_both (type_text ty) ((rest_parts ty).phrase parts) i j l ((type_piece laws).sound i ty j typed) ((rest_parts ty).sound j parts l read) in
      subst (λ form. Took (λ at tokens. declaration_at (out-Form form) at tokens) i k) same.0 (subst (λ k. Took (λ at tokens. declaration_at (out-Form (spec.declaration_of ty parts)) at tokens) i k) same.1
      (record { tokens = took.tokens; rest = took.rest; at = took.at; says = declare_made ty parts i.at took.tokens took.says }))

  -- ---- complete

  pub type_stops : Apart (after_type laws).first (type_piece laws).more
  unfolding same_lexeme
  type_stops = apart (after_type laws).first (type_piece laws).more refl

  stops : (parts : Parts) (at : ℕ) (tokens : List Token) → (after_type laws).phrase parts at tokens → begins (type_piece laws).more tokens ≡ false
  stops parts at tokens says = by tokens ((after_type laws).begun parts at tokens says) where
    by : (tokens : List Token) → (begins (after_type laws).first tokens ≡ true) ⊎ ((tokens ≡ []) × ((after_type laws).empty ≡ true)) → begins (type_piece laws).more tokens ≡ false
    by [] e = refl
    by (here ∷ rest) (inl e) = type_stops (lexeme_of here) e
    by (here ∷ rest) (inr e) = absurd (cc e.0)

  declare_rest : (ty : TypeSpec) (parts : Parts) (at : ℕ) (tokens : List Token) → (rest_parts ty).phrase parts at tokens → GivesForm (declare_from ty) at tokens (spec.declaration_of ty parts)
  unfolding declare_from
  declare_rest ty parts at tokens says = row_complete (rest_parts ty) (spec.declaration_of ty) parts at tokens says

  abbrev ending : Form → Reader Form
  ending form = finish >> pure form

  abbrev choosing : TypeSpec → Reader Form
  choosing ty j = if begins_function j.rest then function (Some ty) j else declare_from ty j

  -- a declaration is read as one
  declare_by : (ty : TypeSpec) (parts : Parts) (at : ℕ) (before after : List Token) → type_text ty at before → (rest_parts ty).phrase parts (at + length before) after
      → GivesForm typed_row at (before ++ after) (spec.declaration_of ty parts)
  unfolding typed_row
  declare_by ty parts at before after says (passes, says_rest) =
      let place = input (at + length before) after in
      let typed = (type_piece laws).complete ty at before after says (stops parts (at + length before) after says_rest) in
      let declared = ap (λ is_function. and_then (if is_function then function (Some ty) place else declare_from ty place) ending) (rest_no_function parts (at + length before) after says_rest) in
      ap (λ found. and_then (and_then found choosing) ending) typed ∙ declared ∙ declare_rest ty parts (at + length before) after (passes, says_rest)
      ∙ ap (λ place. Some (spec.declaration_of ty parts, input place [])) (placed at before after)

  pub declare_complete : (ty : TypeSpec) (attributes : List Attribute) (colons : Bool) (entities : List EntityDecl) (at : ℕ) (tokens : List Token)
      → declaration_at (Form-F.Declare ty attributes colons entities) at tokens → GivesForm typed_row at tokens (made.Declare ty attributes colons entities)
  declare_complete ty attributes colons entities at tokens (passes, (before, after, split, says, says_rest)) =
      subst (λ tokens. GivesForm typed_row at tokens (made.Declare ty attributes colons entities)) (sym split)
      (declare_by ty (attributes, (colons, entities)) at before after says (passes, says_rest))
