-- What is written for a name, with one more declaration.
use Rattle.std.proofs.Common.{◌≡◌, List, [], ◌∷◌, ◌++◌, Option, Some, None, option_map, refl, ap, ap₂, ◌∙◌}
use Rattle.std.specs.Prelude.{slice_get}
use Rattle.std.specs.List.{filter_map, cons_option}
use Rattle.std.specs.Option.{option_map_or}
use Rattle.ftn_tree.specs.declared.expr.Expr.{Expr}
use Rattle.ftn_tree.specs.declared.parts.BoundPair.{BoundPair}
use Rattle.ftn_tree.specs.declared.parts.TypeSpec.{TypeSpec}
use Rattle.ftn_tree.specs.declared.unit.FileTree.{FileTree}
use Rattle.ftn_tree.specs.Declarations.{Declared, if_typed, declarations_of, typing_of, written_bounds, written_value}
use Rattle.ftn_tree.specs.KeyKinds.{Datum}
use Rattle.const_value.specs.steps.Written.{TypedAs, WrittenAs, typing_in, bounds_in, value_in, typed_as, written_in, written_of, with_declared, pairs}
use Rattle.const_value.proofs.FirstOfList.{first_more}

abbrev made : Option TypedAs → Option (List BoundPair) → Option Expr → WrittenAs
made typing bounds value = record { typing = typing; bounds = bounds; value = value }

pub written_more : (all : List Declared) (d : Declared) → written_in (all ++ d ∷ []) ≡ with_declared (written_in all) d
written_more all d =
    ap (λ t. made t (slice_get (filter_map bounds_in (all ++ d ∷ [])) 0) (slice_get (filter_map value_in (all ++ d ∷ [])) 0)) (first_more typing_in all d)
    ∙ ap₂ (made (with_declared (written_in all) d).typing) (first_more bounds_in all d) (first_more value_in all d)

-- ---- what the definitions say of it

abbrev kept : TypeSpec × Declared → TypedAs
kept typing = typed_as typing.1.name typing.1.length typing.0

pub typing_kept : (files : List FileTree) (d : Datum) → (written_of files d).typing ≡ option_map kept (typing_of files d.scope d.name)
typing_kept files d = first (declarations_of files d.scope d.name) where
  first : (all : List Declared) → slice_get (filter_map typing_in all) 0 ≡ option_map kept (slice_get (filter_map if_typed all) 0)
  first [] = refl
  first (one ∷ all) = by one.ty (first all) where
    by : (o : Option TypeSpec) → slice_get (filter_map typing_in all) 0 ≡ option_map kept (slice_get (filter_map if_typed all) 0)
        → slice_get (cons_option (option_map (typed_as one.name one.length) o) (filter_map typing_in all)) 0
        ≡ option_map kept (slice_get (cons_option (option_map_or (λ ty. Some (ty, one)) o None) (filter_map if_typed all)) 0)
    by None rest = rest
    by (Some ty) rest = refl

pub pairs_kept : (files : List FileTree) (d : Datum) → pairs (written_of files d) ≡ written_bounds files d.scope d.name
pairs_kept files d = refl

pub value_kept : (files : List FileTree) (d : Datum) → (written_of files d).value ≡ written_value files d.scope d.name
value_kept files d = refl
