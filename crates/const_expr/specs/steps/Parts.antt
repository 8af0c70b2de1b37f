-- What code keeps of arguments, subscripts and ranges that were evaluated. It serves the proof alone.
use Rattle.std.specs.Prelude.{◌≡◌, List, [], ◌∷◌, ◌++◌, Option, Some, None, Result, Ok, Err}
use Rattle.std.specs.List.{flat_map}
use Rattle.std.specs.Option.{option_map}
use Rattle.ftn_tree.specs.declared.intrinsic.ValueFault.{ValueFault}
use Rattle.ftn_tree.specs.declared.value.Value.{Value}
use Rattle.ftn_tree.specs.Evaluations as spec
use Rattle.ftn_tree.specs.Evaluations.{all_values}
use Rattle.const_expr.specs.declared.told.Told.{Told}
use Rattle.const_expr.specs.declared.evaluated.Evaluated.{Evaluated}
use Rattle.const_expr.specs.declared.references.Lookup.{Lookup}
use Rattle.const_expr.specs.declared.references.Lookup.TheVariants as lookup
use Rattle.const_expr.specs.declared.references.Parts.{Parts}
use Rattle.const_expr.specs.declared.references.Range.{Range}
use Rattle.const_expr.specs.FirstTold.{told_by}
use Rattle.const_expr.specs.Seen.{seen}

-- what is told of parts
abbrev pub told_in_parts : List spec.Evaluated → Told
told_in_parts parts = told_by (flat_map (λ (part : spec.Evaluated). part.strays) parts) (flat_map (λ (part : spec.Evaluated). part.breaches) parts)

-- ---- arguments, subscripts and ranges

abbrev pub range_seen : Option (Option spec.Evaluated × Option spec.Evaluated) → Option Range
range_seen None = None
range_seen (Some (low, high)) = Some (record { low = option_map seen low; high = option_map seen high })

-- the values of all, where each has one, and what is told of them
pub record IsParts (es : List spec.Evaluated) (parts : Parts) : Type 0 where
  pub values : option_map (λ vs. vs.items) parts.values ≡ all_values es
  pub told : parts.told ≡ told_in_parts es

abbrev pub AreParts : Option (List spec.Evaluated) → Option Parts → Type 0
AreParts None None = Unit {0}
AreParts (Some es) (Some parts) = IsParts es parts
AreParts _ _ = ⊥

-- whether there is the element, as far as that is known
abbrev pub looked_up : Lookup → Value → Option (Result Value ValueFault)
looked_up lookup.Unknown v = None
looked_up (lookup.Fault fault) v = Some (Err fault)
looked_up lookup.There v = Some (Ok v)

-- values and one more, where all are there
abbrev pub values_with : Option (List Value) → Option Value → Option (List Value)
values_with (Some vs) (Some v) = Some (vs ++ v ∷ [])
values_with _ _ = None
