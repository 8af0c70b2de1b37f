-- Meanings by the provisional numbers of entities.
use Rattle.std.specs.Prelude.{ℕ, Bool, true, false, List, [], ◌∷◌, map}
use Rattle.ftn_base.specs.Exports.{PairOf, Pair}
use Rattle.ftn_base.specs.declared.entity.EntityId.{EntityId}
use Rattle.ftn_tree.specs.declared.mention.Mention.{Mention}
use Rattle.ftn_tree.specs.declared.unit.FileTree.{FileTree}
use Rattle.ftn_tree.specs.Extents.{scoping}
use Rattle.ftn_tree.specs.Meanings as spec
use Rattle.ftn_tree.specs.Scopes.{name_at}
use Rattle.scope_bind.specs.declared.meaning.Meaning.{Meaning}
use Rattle.scope_bind.specs.declared.meaning.Meaning.TheVariants as made
use Rattle.scope_bind.specs.steps.Numbering.{number, with_number}

-- of several entities the first two are told
abbrev pub numbered : List FileTree → spec.Meaning → Meaning
numbered files spec.nothing = made.Nothing
numbered files (spec.one key) = made.One (number files key)
numbered files (spec.several first second rest) = made.Several (number files first) (number files second)
numbered files spec.unknown = made.Unknown

abbrev pub or_meaning : Meaning → Meaning → Meaning
or_meaning made.Nothing other = other
or_meaning first other = first

abbrev pub is_nothing : Meaning → Bool
is_nothing made.Nothing = true
is_nothing other = false

abbrev pub used_meaning : List EntityId → Meaning
used_meaning [] = made.Nothing
used_meaning (one ∷ []) = made.One one
used_meaning (first ∷ second ∷ rest) = made.Several first second

-- pairs with the numbers of entities
abbrev pub all_numbered : List FileTree → List (PairOf spec.Key) → List Pair
all_numbered files pairs = map (with_number files) pairs

-- what USE makes accessible in each scoping unit
abbrev pub used_everywhere : List FileTree → List (List Pair)
used_everywhere files = map (λ e. all_numbered files (spec.accessible_in files e)) (scoping files)

abbrev pub name_of : List FileTree → ℕ → Mention → List ℕ
name_of files file m = name_at files file m.token
