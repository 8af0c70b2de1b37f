-- The names in a statement, in their order, each with what is said of it there (this project's own): one line for each form.
use Rattle.std.specs.Prelude.{ℕ, List, [], ◌∷◌, ◌++◌, Option, Some, None}
use Rattle.ftn_tree.specs.declared.form.Form.{Form, out-Form}
use Rattle.ftn_tree.specs.declared.form.Form.TheOpen.{Form-F}
use Rattle.ftn_tree.specs.declared.mention.Mention.{Mention}
use Rattle.ftn_tree.specs.declared.mention.Role.TheVariants as role
use Rattle.ftn_tree.specs.declared.parts.TypeSpec.{TypeSpec}
use Rattle.ftn_tree.specs.declared.parts.Ending.{Ending}
use Rattle.ftn_tree.specs.declared.parts.CaseRange.{CaseRange}
use Rattle.ftn_tree.specs.Layers.{FormLayer}
use Rattle.ftn_tree.specs.Roles.{mention, mention_with}
use Rattle.ftn_tree.specs.Expressions.{mentions_in, mentions_in_args}
use Rattle.ftn_tree.specs.PartMentions.{maybe_named, all_named, maybe_all_named, where_written, in_all, in_type, access_role, procedure_role, intent_role, given_by, in_attributes, in_entities, in_arrays, in_constants, in_saved, in_groups, in_sets, in_data_groups, in_renames, in_only_items, in_control, in_ranges}

-- ---- statements that may stand in an IF statement

abbrev pub action_mentions_at : FormLayer → List Mention
action_mentions_at (Form-F.Assign target value) = mentions_in target ++ mentions_in value
action_mentions_at (Form-F.Call name args) = mention name role.Called ∷ mentions_in_args args
action_mentions_at (Form-F.Exit which label) = maybe_named role.Leaves label
action_mentions_at (Form-F.Print style items) = in_all items
action_mentions_at (Form-F.Read style items) = in_all items
action_mentions_at _ = []

abbrev pub action_mentions : Form → List Mention
action_mentions form = action_mentions_at (out-Form form)

-- ---- constructs and IF statements

abbrev pub case_mentions : Option (List CaseRange) → List Mention
case_mentions None = []
case_mentions (Some ranges) = in_ranges ranges

abbrev pub executable_mentions_at : FormLayer → List Mention
executable_mentions_at (Form-F.IfThen condition) = mentions_in condition
executable_mentions_at (Form-F.ElseIf joined condition) = mentions_in condition
executable_mentions_at (Form-F.If condition at inner) = mentions_in condition ++ action_mentions inner
executable_mentions_at (Form-F.Do label control) = maybe_named role.Label label ++ in_control control
executable_mentions_at (Form-F.DoWhile label comma condition) = maybe_named role.Label label ++ mentions_in condition
executable_mentions_at (Form-F.Select joined selector) = mentions_in selector
executable_mentions_at (Form-F.Case ranges) = case_mentions ranges
executable_mentions_at other = action_mentions_at other

-- ---- specifications

abbrev pub declared_mentions_at : FormLayer → List Mention
declared_mentions_at (Form-F.Declare ty attributes colons entities) = in_type ty ++ (in_attributes attributes ++ in_entities (given_by attributes) entities)
declared_mentions_at (Form-F.Dimension colons arrays) = in_arrays arrays
declared_mentions_at (Form-F.Parameter constants) = in_constants constants
declared_mentions_at (Form-F.Data groups) = in_data_groups groups
declared_mentions_at (Form-F.Save colons items) = in_saved items
declared_mentions_at (Form-F.Access word colons names) = all_named (access_role word) names
declared_mentions_at (Form-F.External word names) = all_named (procedure_role word) names
declared_mentions_at (Form-F.Intent wanted colons names) = all_named (intent_role wanted) names
declared_mentions_at (Form-F.Common groups) = in_groups groups
declared_mentions_at (Form-F.Equivalence sets) = in_sets sets
declared_mentions_at other = executable_mentions_at other

-- ---- openings, endings and USE

-- the name of a function is that of its result where no RESULT is written (12.5.2.2)
abbrev pub function_mention : Option TypeSpec → ℕ → Option ℕ → Mention
function_mention ty name None = mention_with name role.Opens (role.Answer ∷ where_written role.Typed ty)
function_mention ty name (Some answer) = mention name role.Opens

abbrev pub answer_mentions : Option TypeSpec → Option ℕ → List Mention
answer_mentions ty None = []
answer_mentions ty (Some answer) = mention_with answer role.Answer (where_written role.Typed ty) ∷ []

abbrev pub in_prefix : Option TypeSpec → List Mention
in_prefix None = []
in_prefix (Some ty) = in_type ty

abbrev pub function_mentions : Option TypeSpec → ℕ → List ℕ → Option ℕ → List Mention
function_mentions ty name dummies answer =
    in_prefix ty ++ (function_mention ty name answer ∷ (all_named role.Dummy dummies ++ answer_mentions ty answer))

abbrev pub end_mentions : Option Ending → List Mention
end_mentions None = []
end_mentions (Some ending) = maybe_named role.Ends ending.name

abbrev pub mentions_at : FormLayer → List Mention
mentions_at (Form-F.BlockData joined name) = maybe_named role.Opens name
mentions_at (Form-F.Program name) = mention name role.Opens ∷ []
mentions_at (Form-F.Module name) = mention name role.Opens ∷ []
mentions_at (Form-F.ModuleProcedure names) = all_named role.Specific names
mentions_at (Form-F.Subroutine name dummies) = mention name role.Opens ∷ maybe_all_named role.Dummy dummies
mentions_at (Form-F.Function ty name dummies answer) = function_mentions ty name dummies answer
mentions_at (Form-F.Interface name) = maybe_named role.Generic name
mentions_at (Form-F.End of) = end_mentions of
mentions_at (Form-F.UseAll name renames) = mention name role.Module ∷ in_renames renames
mentions_at (Form-F.UseOnly name items) = mention name role.Module ∷ in_only_items items
mentions_at (Form-F.Implicit groups) = []
mentions_at other = declared_mentions_at other

abbrev pub mentions_of : Form → List Mention
mentions_of form = mentions_at (out-Form form)
