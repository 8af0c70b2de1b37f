-- Statements that give attributes, and EQUIVALENCE, are read as they are written.
use Rattle.std.proofs.Common.{ℕ, Bool, List}
use denote.Hole.Carrier
use Rattle.ftn_tree.specs.declared.token.Token.{Token}
use Rattle.ftn_tree.specs.declared.form.Form.{out-Form}
use Rattle.ftn_tree.specs.declared.form.Form.TheOpen.{Form-F}
use Rattle.ftn_tree.specs.declared.form.Form.TheVariants as made
use Rattle.ftn_tree.specs.declared.parts.AccessWord.{AccessWord}
use Rattle.ftn_tree.specs.declared.parts.ProcedureWord.{ProcedureWord}
use Rattle.ftn_tree.specs.declared.parts.IntentMode.{IntentMode}
use Rattle.ftn_tree.specs.declared.parts.ArrayDecl.{ArrayDecl}
use Rattle.ftn_tree.specs.declared.parts.NamedConstant.{NamedConstant}
use Rattle.ftn_tree.specs.declared.parts.SaveItem.{SaveItem}
use Rattle.ftn_tree.specs.declared.parts.Designator.{Designator}
use Rattle.ftn_tree.specs.UnitForms.{unit_form_at}
use Rattle.ftn_tree.specs.SpecificationForms.{declaration_at}
use Rattle.expr_parse.proofs.Operands.{ReadsExpressions}
use Rattle.spec_parse.specs.steps.Attributes as spec
use Rattle.spec_parse.specs.steps.Attributes.{dimension, parameter, save, access, external, intent}
use Rattle.spec_parse.specs.steps.Blocks.{equivalence}
use Rattle.spec_parse.proofs.Wholes.{Sound, GivesForm, row_sound, row_complete}
use Rattle.spec_parse.proofs.StatementPieces.{access_parts, external_parts, intent_parts, save_parts, dimension_parts, parameter_parts, equivalence_parts}

-- ---- PUBLIC and PRIVATE

access_made : (a : AccessWord × (Bool × List ℕ)) (at : ℕ) (tokens : List Token) → access_parts.phrase a at tokens → unit_form_at (out-Form (spec.access_of a)) at tokens
unfolding out-Form denote.Hole.Carrier.out
access_made a at tokens says = says

pub access_sound : Sound access
unfolding access
access_sound = row_sound access_parts spec.access_of access_made

pub access_complete : (word : AccessWord) (colons : Bool) (names : List ℕ) (at : ℕ) (tokens : List Token)
    → declaration_at (Form-F.Access word colons names) at tokens → GivesForm access at tokens (made.Access word colons names)
unfolding access
access_complete word colons names at tokens says = row_complete access_parts spec.access_of (word, (colons, names)) at tokens says

-- ---- EXTERNAL and INTRINSIC

external_made : (a : ProcedureWord × List ℕ) (at : ℕ) (tokens : List Token) → external_parts.phrase a at tokens → unit_form_at (out-Form (spec.external_of a)) at tokens
unfolding out-Form denote.Hole.Carrier.out
external_made a at tokens says = says

pub external_sound : Sound external
unfolding external
external_sound = row_sound external_parts spec.external_of external_made

pub external_complete : (word : ProcedureWord) (names : List ℕ) (at : ℕ) (tokens : List Token)
    → declaration_at (Form-F.External word names) at tokens → GivesForm external at tokens (made.External word names)
unfolding external
external_complete word names at tokens says = row_complete external_parts spec.external_of (word, names) at tokens says

-- ---- INTENT

intent_made : (a : IntentMode × (Bool × List ℕ)) (at : ℕ) (tokens : List Token) → intent_parts.phrase a at tokens → unit_form_at (out-Form (spec.intent_of a)) at tokens
unfolding out-Form denote.Hole.Carrier.out
intent_made a at tokens says = says

pub intent_sound : Sound intent
unfolding intent
intent_sound = row_sound intent_parts spec.intent_of intent_made

pub intent_complete : (wanted : IntentMode) (colons : Bool) (names : List ℕ) (at : ℕ) (tokens : List Token)
    → declaration_at (Form-F.Intent wanted colons names) at tokens → GivesForm intent at tokens (made.Intent wanted colons names)
unfolding intent
intent_complete wanted colons names at tokens says = row_complete intent_parts spec.intent_of (wanted, (colons, names)) at tokens says

-- ---- SAVE

save_made : (a : Bool × List SaveItem) (at : ℕ) (tokens : List Token) → save_parts.phrase a at tokens → unit_form_at (out-Form (spec.save_of a)) at tokens
unfolding out-Form denote.Hole.Carrier.out
save_made a at tokens says = says

pub save_sound : Sound save
unfolding save
save_sound = row_sound save_parts spec.save_of save_made

pub save_complete : (colons : Bool) (items : List SaveItem) (at : ℕ) (tokens : List Token)
    → declaration_at (Form-F.Save colons items) at tokens → GivesForm save at tokens (made.Save colons items)
unfolding save
save_complete colons items at tokens says = row_complete save_parts spec.save_of (colons, items) at tokens says

module _ (laws : ReadsExpressions) where
  -- ---- DIMENSION

  dimension_made : (a : Bool × List ArrayDecl) (at : ℕ) (tokens : List Token) → (dimension_parts laws).phrase a at tokens → unit_form_at (out-Form (spec.dimension_of a)) at tokens
  unfolding out-Form denote.Hole.Carrier.out
  dimension_made a at tokens says = says

  pub dimension_sound : Sound dimension
  unfolding dimension
  dimension_sound = row_sound (dimension_parts laws) spec.dimension_of dimension_made

  pub dimension_complete : (colons : Bool) (arrays : List ArrayDecl) (at : ℕ) (tokens : List Token)
      → declaration_at (Form-F.Dimension colons arrays) at tokens → GivesForm dimension at tokens (made.Dimension colons arrays)
  unfolding dimension
  dimension_complete colons arrays at tokens says = row_complete (dimension_parts laws) spec.dimension_of (colons, arrays) at tokens says

  -- ---- PARAMETER

  parameter_made : (a : List NamedConstant) (at : ℕ) (tokens : List Token) → (parameter_parts laws).phrase a at tokens → unit_form_at (out-Form (made.Parameter a)) at tokens
  unfolding out-Form denote.Hole.Carrier.out
  parameter_made a at tokens says = says

  pub parameter_sound : Sound parameter
  unfolding parameter
  parameter_sound = row_sound (parameter_parts laws) made.Parameter parameter_made

  pub parameter_complete : (constants : List NamedConstant) (at : ℕ) (tokens : List Token)
      → declaration_at (Form-F.Parameter constants) at tokens → GivesForm parameter at tokens (made.Parameter constants)
  unfolding parameter
  parameter_complete constants at tokens says = row_complete (parameter_parts laws) made.Parameter constants at tokens says

  -- ---- EQUIVALENCE

  equivalence_made : (a : List (List Designator)) (at : ℕ) (tokens : List Token) → (equivalence_parts laws).phrase a at tokens → unit_form_at (out-Form (made.Equivalence a)) at tokens
  unfolding out-Form denote.Hole.Carrier.out
  equivalence_made a at tokens says = says

  pub equivalence_sound : Sound equivalence
  unfolding equivalence
  equivalence_sound = row_sound (equivalence_parts laws) made.Equivalence equivalence_made

  pub equivalence_complete : (sets : List (List Designator)) (at : ℕ) (tokens : List Token)
      → declaration_at (Form-F.Equivalence sets) at tokens → GivesForm equivalence at tokens (made.Equivalence sets)
  unfolding equivalence
  equivalence_complete sets at tokens says = row_complete (equivalence_parts laws) made.Equivalence sets at tokens says
