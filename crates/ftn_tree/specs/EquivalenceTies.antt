-- The ties that EQUIVALENCE makes (Fortran 90, 5.5.1): of each set the first designator is tied to each other one.
use Rattle.std.specs.Prelude.{ℕ, ◌-◌, ◌*◌, ◌^◌, min, List, [], ◌∷◌, map, Option, Some}
use Rattle.std.specs.List.{flat_map}
use Rattle.std.specs.Option.{option_map_or, option_and_then}
use Rattle.ftn_base.specs.declared.entity.Shape.{Shape}
use Rattle.ftn_base.specs.declared.entity.Tie.{Tie}
use Rattle.ftn_tree.specs.declared.form.Form.TheOpen.{Form-F}
use Rattle.ftn_tree.specs.declared.parts.Designator.{Designator}
use Rattle.ftn_tree.specs.declared.table.Extent.{Extent}
use Rattle.ftn_tree.specs.declared.unit.FileTree.{FileTree}
use Rattle.ftn_tree.specs.Layers.{FormLayer}
use Rattle.ftn_tree.specs.Extents.{scoping, layer_at}
use Rattle.ftn_tree.specs.Scopes.{own_statements}
use Rattle.ftn_tree.specs.GlobalNames.{Place, place}
use Rattle.ftn_tree.specs.KeyKinds.{key_at}
use Rattle.ftn_tree.specs.Givens.{units_of, start_of}
use Rattle.ftn_tree.specs.Shapes.{shape_of}
use Rattle.ftn_tree.specs.CommonLists.{object_at}

-- two designators of one set, the first and another
pub record Tied : Type 0 where
  pub file : ℕ
  pub first : Designator
  pub other : Designator

abbrev pub tied_in : ℕ → List Designator → List Tied
tied_in file [] = []
tied_in file (first ∷ others) = map (λ other. record { file = file; first = first; other = other }) others

abbrev pub tied_said : ℕ → Option FormLayer → List Tied
tied_said file (Some (Form-F.Equivalence sets)) = flat_map (tied_in file) sets
tied_said file _ = []

abbrev pub tied_of : List FileTree → Extent → List Tied
tied_of files e = flat_map (λ statement. tied_said e.file (layer_at files e.file statement)) (own_statements files e)

-- all of a project, by scoping units
abbrev pub all_tied : List FileTree → List Tied
all_tied files = flat_map (tied_of files) (scoping files)

-- the designator that makes the tie
abbrev pub tied_place : Tied → Place
tied_place t = place t.file t.other.name

-- ---- the same by numbers

-- the unit of its object with which a designator begins; in an object of more units than are told apart the greatest number stands for every
-- greater one
abbrev pub unit_in : List FileTree → ℕ → Designator → Shape → ℕ
unit_in files file d shape = min (option_map_or (λ element. element * units_of shape.ty) (start_of files file shape d) 0) (2 ^ 32 - 2)

abbrev pub unit_at : List FileTree → ℕ → Designator → ℕ
unit_at files file d = option_map_or (unit_in files file d) (option_and_then (shape_of files) (key_at files file d.name)) 0

abbrev pub tie_of : List FileTree → Tied → Tie
tie_of files t = record {
  a = object_at files (place t.file t.first.name);
  at_a = unit_at files t.file t.first;
  b = object_at files (place t.file t.other.name);
  at_b = unit_at files t.file t.other;
}

abbrev pub ties_of : List FileTree → List Tie
ties_of files = map (tie_of files) (all_tied files)
