-- Statements are read as they are written.
use Rattle.std.proofs.Common.{◌≡◌, refl, sym, ◌∙◌, ap, subst, ℕ, ◌+◌, List, [], ◌++◌, length, Option, Some, None, codes, append_assoc}
use denote.Hole.Carrier
use Rattle.ftn_tree.specs.declared.token.Token.{Token}
use Rattle.ftn_tree.specs.declared.form.Form.{Form, out-Form}
use Rattle.ftn_tree.specs.declared.form.Form.TheOpen.{Form-F}
use Rattle.ftn_tree.specs.declared.form.Form.TheVariants as form
use Rattle.ftn_tree.specs.declared.form.Form.TheViews.{roll-Form, roll-out-Form}
use Rattle.ftn_tree.specs.declared.parts.TypeSpec.{TypeSpec}
use Rattle.ftn_tree.specs.declared.parts.TypeSpec.TheVariants.{Integer, Logical, Character}
use Rattle.ftn_tree.specs.declared.parts.AccessWord.{AccessWord}
use Rattle.ftn_tree.specs.declared.parts.AccessWord.TheVariants.{Public, Private}
use Rattle.ftn_tree.specs.declared.parts.ProcedureWord.{ProcedureWord}
use Rattle.ftn_tree.specs.declared.parts.ProcedureWord.TheVariants as procedure
use Rattle.ftn_tree.specs.Layers.{FormLayer}
use Rattle.ftn_tree.specs.Phrases.{word, name, maybe}
use Rattle.ftn_tree.specs.TypeForms.{type_text}
use Rattle.ftn_tree.specs.SpecificationForms.{access_word, procedure_word}
use Rattle.ftn_tree.specs.UnitForms.{unit_form_at}
use Rattle.expr_parse.specs.steps.Input.{Input, input}
use Rattle.expr_parse.proofs.Laws.{expression_laws}
use Rattle.spec_parse.specs.declared.rows.Row.{Row}
use Rattle.spec_parse.specs.declared.rows.Row.TheVariants as row
use Rattle.spec_parse.specs.steps.Rows.{find_row, attribute_row, row_at_front, row_reader, read_by, statement}
use Rattle.spec_parse.proofs.FirstWords.{alone_leads, more_after, by_row}
use Rattle.ftn_tree.proofs.PhraseLaws.{drop_none}
use Rattle.spec_parse.proofs.UnitLaws as units
use Rattle.spec_parse.proofs.UseLaws as uses
use Rattle.spec_parse.proofs.EndLaws as ends
use Rattle.spec_parse.proofs.FunctionLaws as functions
use Rattle.spec_parse.proofs.ImplicitLaws as implicits
use Rattle.spec_parse.proofs.RowLaws as rows
use Rattle.spec_parse.proofs.GroupLaws as groups
use Rattle.spec_parse.proofs.DataLaws as datas
use Rattle.spec_parse.proofs.DeclareLaws as declares
use Rattle.spec_parse.proofs.Wholes.{Sound}

-- ---- what is read is written so

sound_row : (which : Row) → Sound (row_reader which)
sound_row row.BlockData = units.sound_block_data
sound_row row.Program = units.sound_program
sound_row row.Module = units.sound_module
sound_row row.Subroutine = units.sound_subroutine
sound_row row.Function = functions.sound_function
sound_row row.Contains = units.sound_contains
sound_row row.Use = uses.sound_use
sound_row row.Implicit = implicits.sound_implicit
sound_row row.Interface = units.sound_interface
sound_row row.Typed = functions.sound_typed expression_laws
sound_row row.Dimension = rows.dimension_sound expression_laws
sound_row row.Parameter = rows.parameter_sound expression_laws
sound_row row.Data = datas.data_sound expression_laws
sound_row row.Save = rows.save_sound
sound_row row.Access = rows.access_sound
sound_row row.External = rows.external_sound
sound_row row.Intent = rows.intent_sound
sound_row row.Common = groups.common_sound expression_laws
sound_row row.Equivalence = rows.equivalence_sound expression_laws
sound_row row.End = ends.sound_end

pub statement_sound : (at : ℕ) (tokens : List Token) (found : Form) (j : Input) → statement (input at tokens) ≡ Some (found, j) → unit_form_at (out-Form found) at tokens
unfolding statement
statement_sound at tokens found j e = by (row_at_front tokens) refl where
  by : (which : Option Row) → row_at_front tokens ≡ which → unit_form_at (out-Form found) at tokens
  by None is = absurd (cc (sym (ap (λ which. read_by which (input at tokens)) is) ∙ e))
  by (Some which) is = sound_row which at tokens found j (sym (ap (λ which. read_by which (input at tokens)) is) ∙ e)

-- ---- what is written so is read

led : (text : List ℕ) (which : Row) → find_row text ≡ which → (at : ℕ) (tokens before after : List Token) → tokens ≡ before ++ after → word text at before → row_at_front tokens ≡ Some which
led text which is at tokens before after split says =
    subst (λ tokens. row_at_front tokens ≡ Some which) (sym split) (more_after before after which (alone_leads text at before says ∙ ap Some is))

type_leads : (ty : TypeSpec) (at : ℕ) (tokens before after : List Token) → tokens ≡ before ++ after → type_text ty at before → row_at_front tokens ≡ Some row.Typed
unfolding find_row
type_leads Integer at tokens before after split says = led (codes "integer") row.Typed refl at tokens before after split says
type_leads Logical at tokens before after split says = led (codes "logical") row.Typed refl at tokens before after split says
type_leads (Character found) at tokens before after split (first, rest, split_before, says, says_length) =
    led (codes "character") row.Typed refl at tokens first (rest ++ after) (split ∙ ap (λ before. before ++ after) split_before ∙ append_assoc first rest after) says

access_leads : (which : AccessWord) (at : ℕ) (tokens before after : List Token) → tokens ≡ before ++ after → word (access_word which) at before → row_at_front tokens ≡ Some row.Access
unfolding find_row attribute_row
access_leads Public at tokens before after split says = led (codes "public") row.Access refl at tokens before after split says
access_leads Private at tokens before after split says = led (codes "private") row.Access refl at tokens before after split says

external_leads : (which : ProcedureWord) (at : ℕ) (tokens before after : List Token) → tokens ≡ before ++ after → word (procedure_word which) at before → row_at_front tokens ≡ Some row.External
unfolding find_row attribute_row
external_leads procedure.External at tokens before after split says = led (codes "external") row.External refl at tokens before after split says
external_leads procedure.Intrinsic at tokens before after split says = led (codes "intrinsic") row.External refl at tokens before after split says

contains_row : find_row (codes "contains") ≡ row.Contains
unfolding find_row
contains_row = refl

pub statement_complete : (layer : FormLayer) (at : ℕ) (tokens : List Token) → unit_form_at layer at tokens → statement (input at tokens) ≡ Some (roll-Form layer, input (at + length tokens) [])
unfolding find_row attribute_row roll-Form denote.Hole.Carrier.roll
statement_complete (Form-F.BlockData joined n) at tokens says =
    by_row row.BlockData at tokens (form.BlockData joined n) (units.block_data_leads joined (maybe name n) at tokens says) (units.complete_block_data joined n at tokens says)
statement_complete (Form-F.Program n) at tokens says = by_row row.Program at tokens (form.Program n) (led (codes "program") row.Program refl at tokens says.0 says.1 says.2 says.3) (units.complete_program n at tokens says)
statement_complete (Form-F.ModuleProcedure all) at tokens says = by_row row.Module at tokens (form.ModuleProcedure all) (led (codes "module") row.Module refl at tokens says.0 says.1 says.2 says.3) (units.complete_procedure all at tokens says)
statement_complete (Form-F.Module n) at tokens says = by_row row.Module at tokens (form.Module n) (led (codes "module") row.Module refl at tokens says.0 says.1 says.2 says.3) (units.complete_module n at tokens says)
statement_complete (Form-F.Subroutine n listed) at tokens says = by_row row.Subroutine at tokens (form.Subroutine n listed) (led (codes "subroutine") row.Subroutine refl at tokens says.0 says.1 says.2 says.3) (units.complete_subroutine n listed at tokens says)
statement_complete (Form-F.Function None n listed answer) at tokens says =
    let rest = drop_none (functions.rest_of_function n listed answer) at tokens says in
    by_row row.Function at tokens (form.Function None n listed answer) (led (codes "function") row.Function refl at tokens rest.0 rest.1 rest.2 rest.3) (functions.complete_function n listed answer at tokens says)
statement_complete (Form-F.Function (Some ty) n listed answer) at tokens says =
    by_row row.Typed at tokens (form.Function (Some ty) n listed answer) (type_leads ty at tokens says.0 says.1 says.2 says.3)
    (functions.complete_typed expression_laws ty n listed answer at tokens says)
statement_complete Form-F.Contains at tokens says = by_row row.Contains at tokens form.Contains (alone_leads (codes "contains") at tokens says ∙ ap Some contains_row) (units.complete_contains at tokens says)
statement_complete (Form-F.End found) at tokens says = by_row row.End at tokens (form.End found) (ends.end_leads found at tokens says) (ends.complete_end found at tokens says)
statement_complete (Form-F.UseAll n items) at tokens says = by_row row.Use at tokens (form.UseAll n items) (led (codes "use") row.Use refl at tokens says.0 says.1 says.2 says.3) (uses.complete_use_all n items at tokens says)
statement_complete (Form-F.UseOnly n items) at tokens says = by_row row.Use at tokens (form.UseOnly n items) (led (codes "use") row.Use refl at tokens says.0 says.1 says.2 says.3) (uses.complete_use_only n items at tokens says)
statement_complete (Form-F.Implicit found) at tokens says = by_row row.Implicit at tokens (form.Implicit found) (led (codes "implicit") row.Implicit refl at tokens says.0 says.1 says.2 says.3) (implicits.complete_implicit found at tokens says)
statement_complete (Form-F.Interface n) at tokens says = by_row row.Interface at tokens (form.Interface n) (led (codes "interface") row.Interface refl at tokens says.0 says.1 says.2 says.3) (units.complete_interface n at tokens says)
statement_complete (Form-F.Declare ty attributes colons entities) at tokens says =
    by_row row.Typed at tokens (form.Declare ty attributes colons entities) (type_leads ty at tokens says.1.0 says.1.1 says.1.2 says.1.3) (declares.declare_complete expression_laws ty attributes colons entities at tokens says)
statement_complete (Form-F.Dimension colons arrays) at tokens says =
    by_row row.Dimension at tokens (form.Dimension colons arrays) (led (codes "dimension") row.Dimension refl at tokens says.0 says.1 says.2 says.3) (rows.dimension_complete expression_laws colons arrays at tokens says)
statement_complete (Form-F.Parameter constants) at tokens says =
    by_row row.Parameter at tokens (form.Parameter constants) (led (codes "parameter") row.Parameter refl at tokens says.0 says.1 says.2 says.3) (rows.parameter_complete expression_laws constants at tokens says)
statement_complete (Form-F.Data all) at tokens says = by_row row.Data at tokens (form.Data all) (led (codes "data") row.Data refl at tokens says.0 says.1 says.2 says.3) (datas.data_complete expression_laws all at tokens says)
statement_complete (Form-F.Save colons items) at tokens says = by_row row.Save at tokens (form.Save colons items) (led (codes "save") row.Save refl at tokens says.0 says.1 says.2 says.3) (rows.save_complete colons items at tokens says)
statement_complete (Form-F.Access which colons all) at tokens says = by_row row.Access at tokens (form.Access which colons all) (access_leads which at tokens says.0 says.1 says.2 says.3) (rows.access_complete which colons all at tokens says)
statement_complete (Form-F.External which all) at tokens says = by_row row.External at tokens (form.External which all) (external_leads which at tokens says.0 says.1 says.2 says.3) (rows.external_complete which all at tokens says)
statement_complete (Form-F.Intent wanted colons all) at tokens says =
    by_row row.Intent at tokens (form.Intent wanted colons all) (led (codes "intent") row.Intent refl at tokens says.0 says.1 says.2 says.3) (rows.intent_complete wanted colons all at tokens says)
statement_complete (Form-F.Common all) at tokens says = by_row row.Common at tokens (form.Common all) (led (codes "common") row.Common refl at tokens says.0 says.1 says.2 says.3) (groups.common_complete expression_laws all at tokens says)
statement_complete (Form-F.Equivalence sets) at tokens says =
    by_row row.Equivalence at tokens (form.Equivalence sets) (led (codes "equivalence") row.Equivalence refl at tokens says.0 says.1 says.2 says.3) (rows.equivalence_complete expression_laws sets at tokens says)
statement_complete _ at tokens says = absurd says

-- what is written as that form is read as it
pub statement_reads : (found : Form) (at : ℕ) (tokens : List Token) → unit_form_at (out-Form found) at tokens → statement (input at tokens) ≡ Some (found, input (at + length tokens) [])
statement_reads found at tokens says = statement_complete (out-Form found) at tokens says ∙ ap (λ found. Some (found, input (at + length tokens) [])) (roll-out-Form found)
