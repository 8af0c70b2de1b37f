-- Which procedures statements call, where what names are is right.
use Rattle.std.proofs.Common.{◌≡◌, refl, ap₂, List, [], ◌∷◌, ◌++◌, map}
use Rattle.std.specs.List.{flat_map}
use Rattle.std.specs.Option.{unwrap_or}
use Rattle.ftn_tree.specs.declared.expr.Expr.{Expr}
use Rattle.ftn_tree.specs.declared.form.Form.{out-Form}
use Rattle.ftn_tree.specs.declared.form.Form.TheOpen.{Form-F}
use Rattle.ftn_tree.specs.declared.table.Extent.{Extent}
use Rattle.ftn_tree.specs.declared.unit.FileTree.{FileTree}
use Rattle.ftn_tree.specs.Calls.{action_calls, call_by, calls_in, form_calls, whole_calls}
use Rattle.ftn_tree.specs.ExpressionTypes.{argument, typed}
use Rattle.ftn_tree.specs.Layers.{FormLayer}
use Rattle.ftn_tree.specs.Procedures.{sense_at}
use Rattle.ftn_tree.specs.Trees.{tree_of}
use Rattle.ftn_tree.specs.Wants.{Placed, expressions_at}
use Rattle.name_types.specs.declared.names.Setting.{Setting}
use Rattle.name_types.specs.steps.Senses.{IsRight, sense_by}
use Rattle.type_check.specs.steps.Calling.{action_by, form_by, placed_by, whole_by}
use Rattle.type_check.specs.steps.Typing.{typed_by}
use Rattle.type_check.proofs.CallTrees.{calls_alike}
use Rattle.type_check.proofs.TypedTrees.{typed_alike}

module _ (files : List FileTree) (e : Extent) (s : Setting) (right : IsRight files e s) where
  listed : (list : List Expr) → map (λ arg. argument (typed_by s arg)) list ≡ map (λ arg. argument (typed (sense_at files e) (tree_of arg))) list
  listed [] = refl
  listed (first ∷ rest) = ap₂ (λ x xs. argument x ∷ xs) (typed_alike (sense_by s) (sense_at files e) right.sense (tree_of first)) (listed rest)

  pub action_right : (form : FormLayer) → action_by s form ≡ action_calls files e form
  action_right (Form-F.Call name given) = ap₂ (call_by name) (right.called name) (listed (unwrap_or given []))
  action_right _ = refl

  pub whole_right : (form : FormLayer) → whole_by s form ≡ whole_calls files e form
  whole_right (Form-F.If condition at inner) = action_right (out-Form inner)
  whole_right other = action_right other

  placed_right : (placed : List Placed) → placed_by s placed ≡ flat_map (λ (p : Placed). calls_in files e p.expr) placed
  placed_right [] = refl
  placed_right (p ∷ rest) = ap₂ (λ xs ys. xs ++ ys) (calls_alike (sense_by s) (sense_at files e) right.sense (tree_of p.expr)) (placed_right rest)

  pub form_right : (form : FormLayer) → form_by s form ≡ form_calls files e form
  form_right form = ap₂ (λ xs ys. xs ++ ys) (whole_right form) (placed_right (expressions_at form))
