-- Which names of scoping units are those of which entities, by the numbers of names. It serves the proof alone.
use Rattle.std.specs.Prelude.{ℕ, ◌+◌, if◌then◌else◌, List, [], ◌∷◌, slice_index_or, slice_set, Option, Some, None}
use Rattle.std.specs.Option.{is_none, option_and_then, option_or}
use Rattle.ftn_tree.specs.declared.table.Entity.{Entity}

-- the number of the entity's name in a scoping unit
abbrev pub number_of : (ℕ → List ℕ → Option ℕ) → ℕ → Entity → Option ℕ
number_of number scope entity = option_and_then (number scope) entity.name

-- in the scoping unit that it opens, else in that to which it belongs
abbrev pub name_of : (ℕ → List ℕ → Option ℕ) → Entity → Option ℕ
name_of number entity = option_and_then (λ scope. number_of number scope entity) (option_or entity.opens entity.home)

abbrev pub put_where : Option ℕ → Option ℕ → ℕ → List (Option ℕ) → List (Option ℕ)
put_where (Some name) None number entities = if is_none (slice_index_or entities name None) then slice_set entities name (Some number) else entities
put_where name opens number entities = entities

-- an entity that opens nothing is that of its name, where that has none
abbrev pub put_entity : Option ℕ → Entity → ℕ → List (Option ℕ) → List (Option ℕ)
put_entity name entity number entities = put_where name entity.opens number entities

abbrev pub put_all : (ℕ → List ℕ → Option ℕ) → ℕ → List (Option ℕ) → List Entity → List (Option ℕ)
put_all number at entity_of [] = entity_of
put_all number at entity_of (entity ∷ more) = put_all number (at + 1) (put_entity (name_of number entity) entity at entity_of) more
