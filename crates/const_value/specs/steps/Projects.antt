-- What is gathered of a project, by the numbers of entities and names. It serves the proof alone.
use Rattle.std.specs.Prelude.{ℕ, ◌-◌, List, [], length, slice_get, Option, Some}
use Rattle.std.specs.Option.{option_map, option_map_or, option_and_then, unwrap_or}
use Rattle.ftn_base.specs.declared.entity.Letter.{Letter}
use Rattle.ftn_base.specs.declared.entity.Letter.TheVariants as letter
use Rattle.ftn_tree.specs.declared.table.Bound.{Bound}
use Rattle.ftn_tree.specs.declared.table.Entity.{Entity}
use Rattle.ftn_tree.specs.declared.table.EntityKind.{EntityKind}
use Rattle.ftn_tree.specs.declared.table.Scope.{Scope}
use Rattle.ftn_tree.specs.KeyKinds.{written_sort, letter_sort}
use Rattle.ftn_tree.specs.Sorts as sorts
use Rattle.const_value.specs.declared.links.Links.{Links}
use Rattle.const_value.specs.declared.name_numbers.Owned.{Owned}
use Rattle.const_value.specs.declared.project.Sort.{Sort}
use Rattle.const_value.specs.declared.project.Sort.TheVariants as kept
use Rattle.const_value.specs.declared.written.Written.{Written}
use Rattle.const_value.specs.steps.Written.{TypedAs, nothing, pairs, written_seen, WrittenAs}

abbrev pub sort_seen : Sort → sorts.Sort
sort_seen kept.Whole = sorts.Whole
sort_seen kept.Truth = sorts.Truth
sort_seen kept.Text = sorts.Text

abbrev pub row_in : List (List (Option ℕ)) → ℕ → List (Option ℕ)
row_in rows file = unwrap_or (slice_get rows file) []

abbrev pub entity_in : Bound → ℕ → Option Entity
entity_in bound number = slice_get bound.tables.entities number

abbrev pub name_of : Links → ℕ → Option ℕ
name_of links entity = option_and_then (λ name. name) (slice_get links.name_of.items entity)

abbrev pub entity_of : Links → ℕ → Option ℕ
entity_of links name = option_and_then (λ entity. entity) (slice_get links.entity_of.items name)

abbrev pub kind_in : Entity → EntityKind
kind_in entity = entity.kind

abbrev pub kind_of : Bound → Links → ℕ → Option EntityKind
kind_of bound links name = option_map kind_in (option_and_then (entity_in bound) (entity_of links name))

-- the type by the first letter
abbrev pub letter_in : Bound → Owned → Letter
letter_in bound owned = unwrap_or (option_and_then (λ (s : Scope). slice_get s.letters (owned.letter - 97)) (slice_get bound.tables.scopes owned.scope)) letter.Nothing

abbrev pub letter_of : Bound → List Owned → ℕ → Letter
letter_of bound names name = option_map_or (letter_in bound) (slice_get names name) letter.Nothing

abbrev pub written_at : List Written → ℕ → WrittenAs
written_at written name = option_map_or written_seen (slice_get written name) nothing

-- the one that is written, else that of the first letter
abbrev pub sort_of : Bound → List Owned → List Written → ℕ → Option sorts.Sort
sort_of bound names written name = option_map_or (λ (t : TypedAs). Some (written_sort t.ty)) (written_at written name).typing (letter_sort (letter_of bound names name))

abbrev pub rank_of : List Written → ℕ → ℕ
rank_of written name = length (pairs (written_at written name))
