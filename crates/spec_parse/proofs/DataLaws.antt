-- DATA is read as it is written.
use Rattle.std.proofs.Common.{◌≡◌, refl, ℕ, Bool, true, false, not, List, [], ◌∷◌, ◌+◌, length, codes}
use denote.Hole.Carrier
use Rattle.ftn_tree.specs.declared.token.Token.{Token}
use Rattle.ftn_tree.specs.declared.form.Form.{out-Form}
use Rattle.ftn_tree.specs.declared.form.Form.TheOpen.{Form-F}
use Rattle.ftn_tree.specs.declared.form.Form.TheVariants as made
use Rattle.ftn_tree.specs.declared.parts.Designator.{Designator}
use Rattle.ftn_tree.specs.declared.parts.DataValue.{DataValue}
use Rattle.ftn_tree.specs.declared.parts.DataGroup.{DataGroup}
use Rattle.ftn_tree.specs.declared.lexeme.Lexeme.TheVariants.{Comma, Divide}
use Rattle.ftn_tree.specs.Lexemes.{same_lexeme}
use Rattle.ftn_tree.specs.Phrases.{Phrase, ◌·◌, provided, mark, commas}
use Rattle.ftn_tree.specs.UnitForms.{unit_form_at}
use Rattle.ftn_tree.specs.SpecificationForms as form
use Rattle.ftn_tree.specs.SpecificationForms.{declaration_at}
use Rattle.expr_parse.specs.steps.Input.{Input}
use Rattle.expr_parse.proofs.Pieces.{Piece, Apart, mapped, reread, seq}
use Rattle.expr_parse.proofs.AllKinds.{apart}
use Rattle.expr_parse.proofs.Tokens.{only, apart_none, before_mark, after_word}
use Rattle.expr_parse.proofs.Lists.{list}
use Rattle.expr_parse.proofs.Operands.{ReadsExpressions}
use Rattle.spec_parse.specs.steps.Data as spec
use Rattle.spec_parse.proofs.DataValues.{value_piece}
use Rattle.spec_parse.proofs.Each.{row_phrase, row_piece}
use Rattle.spec_parse.proofs.Either.{rephrased}
use Rattle.spec_parse.proofs.Flags.{flag}
use Rattle.ftn_tree.proofs.PhraseLaws.{to_right, to_left, add_none, drop_none}
use Rattle.spec_parse.proofs.StatementPieces.{designators_piece}
use Rattle.spec_parse.proofs.Wholes.{Sound, GivesForm, row_sound, row_complete}

comma_no_value : Apart (only Comma) value_piece.more
unfolding same_lexeme
comma_no_value = apart (only Comma) value_piece.more refl

abbrev values_piece : Piece (List DataValue)
values_piece = list value_piece refl comma_no_value

slash_no_value : Apart (only Divide) values_piece.more
unfolding same_lexeme
slash_no_value = apart (only Divide) values_piece.more refl

abbrev values_closed : Piece (List DataValue)
values_closed = before_mark values_piece Divide slash_no_value

-- objects and values, each before a slash
abbrev objects_text : List Designator → Phrase
objects_text objects = commas form.designator objects

abbrev values_text : List DataValue → Phrase
values_text values = commas form.data_value values

abbrev pairing_text : List Designator → List DataValue → Phrase
pairing_text objects values = objects_text objects · mark Divide · values_text values · mark Divide

module _ (laws : ReadsExpressions) where
  slash_no_object : Apart (only Divide) (designators_piece laws).more
  unfolding same_lexeme
  slash_no_object = apart (only Divide) (designators_piece laws).more refl

  abbrev objects_closed : Piece (List Designator)
  objects_closed = before_mark (designators_piece laws) Divide slash_no_object

  abbrev pairing_parts : Piece (List Designator × List DataValue)
  pairing_parts = seq objects_closed values_closed (apart_none values_closed.first)

  pairing_read : (i : Input) → spec.pairing i ≡ pairing_parts.read i
  unfolding spec.pairing
  pairing_read i = refl

  abbrev pairing_piece : Piece (List Designator × List DataValue)
  pairing_piece = reread pairing_parts spec.pairing pairing_read

  regrouped : (objects : List Designator) (values : List DataValue) (at : ℕ) (tokens : List Token) → pairing_piece.phrase (objects, values) at tokens → pairing_text objects values at tokens
  regrouped objects values at tokens says = to_right (objects_text objects) (mark Divide) (values_text values · mark Divide) at tokens says

  grouped : (objects : List Designator) (values : List DataValue) (at : ℕ) (tokens : List Token) → pairing_text objects values at tokens → pairing_piece.phrase (objects, values) at tokens
  grouped objects values at tokens says = to_left (objects_text objects) (mark Divide) (values_text values · mark Divide) at tokens says

  -- ---- the first group

  abbrev first_text : DataGroup → Phrase
  first_text g = provided (not g.comma) (form.data_group g)

  first_made : (both : List Designator × List DataValue) (at : ℕ) (tokens : List Token) → pairing_piece.phrase both at tokens → first_text (spec.first_of both) at tokens
  first_made both at tokens says = (refl, add_none (pairing_text both.0 both.1) at tokens (regrouped both.0 both.1 at tokens says))

  first_back_by : (comma : Bool) (objects : List Designator) (values : List DataValue) (at : ℕ) (tokens : List Token) → first_text (spec.group_of (comma, (objects, values))) at tokens
      → (both : List Designator × List DataValue) × (spec.first_of both ≡ spec.group_of (comma, (objects, values))) × pairing_piece.phrase both at tokens
  first_back_by true objects values at tokens (is, says) = absurd (cc is)
  first_back_by false objects values at tokens (is, says) = ((objects, values), refl, grouped objects values at tokens (drop_none (pairing_text objects values) at tokens says))

  first_back : (g : DataGroup) (at : ℕ) (tokens : List Token) → first_text g at tokens → (both : List Designator × List DataValue) × (spec.first_of both ≡ g) × pairing_piece.phrase both at tokens
  first_back g at tokens says = first_back_by g.comma g.objects g.values at tokens says

  abbrev first_mapped : Piece DataGroup
  first_mapped = mapped pairing_piece spec.first_of first_text first_made first_back

  first_read : (i : Input) → spec.first_group i ≡ first_mapped.read i
  unfolding spec.first_group
  first_read i = refl

  abbrev first_piece : Piece DataGroup
  first_piece = reread first_mapped spec.first_group first_read

  -- ---- a later group

  object_no_comma : Apart pairing_piece.first (flag Comma).more
  unfolding same_lexeme
  object_no_comma = apart pairing_piece.first (flag Comma).more refl

  abbrev later_parts : Piece (Bool × (List Designator × List DataValue))
  later_parts = seq (flag Comma) pairing_piece object_no_comma

  later_made : (parts : Bool × (List Designator × List DataValue)) (at : ℕ) (tokens : List Token) → later_parts.phrase parts at tokens → form.data_group (spec.group_of parts) at tokens
  later_made parts at tokens (before, after, split, says, says_rest) = (before, after, split, says, regrouped parts.1.0 parts.1.1 (at + length before) after says_rest)

  later_back : (g : DataGroup) (at : ℕ) (tokens : List Token) → form.data_group g at tokens → (parts : Bool × (List Designator × List DataValue)) × (spec.group_of parts ≡ g) × later_parts.phrase parts at tokens
  later_back g at tokens (before, after, split, says, says_rest) =
      ((g.comma, (g.objects, g.values)), refl, (before, after, split, says, grouped g.objects g.values (at + length before) after says_rest))

  abbrev later_mapped : Piece DataGroup
  later_mapped = mapped later_parts spec.group_of form.data_group later_made later_back

  later_read : (i : Input) → spec.later_group i ≡ later_mapped.read i
  unfolding spec.later_group
  later_read i = refl

  abbrev later_piece : Piece DataGroup
  later_piece = reread later_mapped spec.later_group later_read

  -- ---- all groups

  later_no_later : Apart later_piece.first later_piece.more
  later_no_later kind e = refl

  later_no_first : Apart later_piece.first first_piece.more
  later_no_first kind e = refl

  abbrev groups_row : Piece (List DataGroup)
  groups_row = row_piece later_piece refl later_no_later first_piece later_no_first

  groups_made : (all : List DataGroup) (at : ℕ) (tokens : List Token) → row_phrase later_piece refl later_no_later first_piece later_no_first all at tokens → form.data_groups all at tokens
  groups_made [] at tokens says = absurd says
  groups_made (g ∷ rest) at tokens says = says

  groups_back : (all : List DataGroup) (at : ℕ) (tokens : List Token) → form.data_groups all at tokens → row_phrase later_piece refl later_no_later first_piece later_no_first all at tokens
  groups_back [] at tokens says = absurd says
  groups_back (g ∷ rest) at tokens says = says

  abbrev groups_piece : Piece (List DataGroup)
  groups_piece = rephrased groups_row form.data_groups groups_made groups_back

  abbrev data_parts : Piece (List DataGroup)
  data_parts = after_word (codes "data") groups_piece

  data_made : (a : List DataGroup) (at : ℕ) (tokens : List Token) → data_parts.phrase a at tokens → unit_form_at (out-Form (made.Data a)) at tokens
  unfolding out-Form denote.Hole.Carrier.out
  data_made a at tokens says = says

  pub data_sound : Sound spec.data_row
  unfolding spec.data_row
  data_sound = row_sound data_parts made.Data data_made

  pub data_complete : (all : List DataGroup) (at : ℕ) (tokens : List Token) → declaration_at (Form-F.Data all) at tokens → GivesForm spec.data_row at tokens (made.Data all)
  unfolding spec.data_row
  data_complete all at tokens says = row_complete data_parts made.Data all at tokens says
