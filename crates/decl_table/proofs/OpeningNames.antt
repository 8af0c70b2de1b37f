-- The name that an opening gives is one that the statement mentions.
use Rattle.std.proofs.Common.{ℕ, List, [], ◌∷◌, ◌++◌, Some, None}
use Rattle.ftn_tree.specs.declared.form.Form.TheOpen.{Form-F}
use Rattle.ftn_tree.specs.Layers.{FormLayer}
use Rattle.ftn_tree.specs.Mentions.{mentions_at, in_prefix}
use Rattle.ftn_tree.specs.Scopes.{opening_name}
use Rattle.decl_table.specs.steps.Spelled.{Each, IsMaybe}

pub each_right : {A : Type 0} (P : A → Type 0) (xs ys : List A) → Each P (xs ++ ys) → Each P ys
each_right P [] ys each = each
each_right P (x ∷ xs) ys each = each_right P xs ys each.1

pub opening_is : (P : ℕ → Type 0) (form : FormLayer) → Each (λ m. P m.token) (mentions_at form) → IsMaybe P (opening_name form)
opening_is P (Form-F.Assign target value) each = tt
opening_is P (Form-F.BlockData joined None) each = tt
opening_is P (Form-F.BlockData joined (Some name)) each = each.0
opening_is P (Form-F.Program name) each = each.0
opening_is P (Form-F.ModuleProcedure names) each = tt
opening_is P (Form-F.Module name) each = each.0
opening_is P (Form-F.Subroutine name dummies) each = each.0
opening_is P (Form-F.Function ty name dummies None) each = (each_right (λ m. P m.token) (in_prefix ty) _ each).0
opening_is P (Form-F.Function ty name dummies (Some answer)) each = (each_right (λ m. P m.token) (in_prefix ty) _ each).0
opening_is P Form-F.Contains each = tt
opening_is P (Form-F.End of) each = tt
opening_is P (Form-F.UseAll used renames) each = tt
opening_is P (Form-F.UseOnly used items) each = tt
opening_is P (Form-F.Implicit groups) each = tt
opening_is P (Form-F.Interface name) each = tt
opening_is P (Form-F.Declare ty attributes colons entities) each = tt
opening_is P (Form-F.Dimension colons arrays) each = tt
opening_is P (Form-F.Parameter constants) each = tt
opening_is P (Form-F.Data groups) each = tt
opening_is P (Form-F.Save colons items) each = tt
opening_is P (Form-F.Access word colons names) each = tt
opening_is P (Form-F.External word names) each = tt
opening_is P (Form-F.Intent mode colons names) each = tt
opening_is P (Form-F.Common groups) each = tt
opening_is P (Form-F.Equivalence sets) each = tt
opening_is P (Form-F.Call name args) each = tt
opening_is P (Form-F.IfThen condition) each = tt
opening_is P (Form-F.ElseIf joined condition) each = tt
opening_is P Form-F.Else each = tt
opening_is P (Form-F.If condition at inner) each = tt
opening_is P (Form-F.Do label_name control) each = tt
opening_is P (Form-F.DoWhile label_name comma condition) each = tt
opening_is P (Form-F.Exit word label_name) each = tt
opening_is P (Form-F.Select joined selector) each = tt
opening_is P (Form-F.Case ranges) each = tt
opening_is P (Form-F.Stop code) each = tt
opening_is P Form-F.Return each = tt
opening_is P Form-F.Continue each = tt
opening_is P (Form-F.Print style items) each = tt
opening_is P (Form-F.Read style items) each = tt
