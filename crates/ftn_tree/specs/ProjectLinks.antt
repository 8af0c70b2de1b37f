-- What of a project is linked with what (Fortran 90, 5.5.2, 11.3.2, 12.4): which scoping units use which modules and call which procedures, the
-- members of common blocks, and what each name means once the specific procedure stands for a generic name.
use Rattle.std.specs.Prelude.{ℕ, List, [], ◌∷◌, map, Option}
use Rattle.std.specs.List.{filter_map, find, flat_map, enumerate_from}
use Rattle.std.specs.Option.{option_map, option_map_or, option_and_then, unwrap_or}
use Rattle.std.specs.Ordering.{nat_cmp}
use Rattle.std.specs.Cmp.Lexicographic.{slice_cmp}
use Rattle.std.specs.declared.cmp.Ordering.{Ordering}
use Rattle.std.specs.FinMap.{put}
use Rattle.ftn_base.specs.declared.entity.EntityId.{EntityId}
use Rattle.ftn_tree.specs.declared.table.Extent.{Extent}
use Rattle.ftn_tree.specs.declared.unit.FileTree.{FileTree}
use Rattle.ftn_tree.specs.Extents.{scoping, layer_at}
use Rattle.ftn_tree.specs.Scopes.{name_at, own_statements, scope_number}
use Rattle.ftn_tree.specs.GlobalNames.{Place}
use Rattle.ftn_tree.specs.Meanings.{unit, block, is_module, unit_of}
use Rattle.ftn_tree.specs.Bindings.{module_token, Denoting, denotings, entity_number, meaning_number}
use Rattle.ftn_tree.specs.Calls.{Called, calls_of}
use Rattle.ftn_tree.specs.CommonLists.{Listed, common_lists, list_scope, member_places}
use Rattle.ftn_tree.specs.KeyKinds.{is_at, key_at}

-- ---- in rising order, each once

abbrev pub rising : {A : Type 0} → (A → A → Ordering) → List A → List A
rising by [] = []
rising by (a ∷ all) = map (λ one. one.0) (put by a a (map (λ one. (one, one)) (rising by all)))

abbrev pub by_numbers : List ℕ → List ℕ → Ordering
by_numbers = slice_cmp nat_cmp

-- ---- uses (11.3.2) and calls (12.4), by the numbers of scoping units

abbrev pub Link : Type 0
Link = Extent × Extent

abbrev pub used_at : List FileTree → Extent → ℕ → Option Link
used_at files e statement =
    option_map (λ used. (e, used)) (option_and_then (λ token. unit_of files is_module (name_at files e.file token)) (option_and_then module_token (layer_at files e.file statement)))

-- the scoping unit in which a USE stands, and the module
abbrev pub used_by_units : List FileTree → List Link
used_by_units files = flat_map (λ e. filter_map (used_at files e) (own_statements files e)) (scoping files)

-- the scoping unit in which a procedure is referenced, and the procedure
abbrev pub called_by_units : List FileTree → List Link
called_by_units files = map (λ (c : Called). (c.scope, c.procedure)) (calls_of files)

abbrev pub number_in : List FileTree → Extent → ℕ
number_in files e = unwrap_or (scope_number files e) 0

abbrev pub Pair : Type 0
Pair = ℕ × ℕ

abbrev pub by_pair : Pair → Pair → Ordering
by_pair one other = by_numbers (one.0 ∷ one.1 ∷ []) (other.0 ∷ other.1 ∷ [])

abbrev pub pair_of : List FileTree → Link → Pair
pair_of files link = (number_in files link.0, number_in files link.1)

abbrev pub use_pairs : List FileTree → List Pair
use_pairs files = rising by_pair (map (pair_of files) (used_by_units files))

abbrev pub call_pairs : List FileTree → List Pair
call_pairs files = rising by_pair (map (pair_of files) (called_by_units files))

-- ---- members of common blocks (5.5.2): the block, the scoping unit, the position from 1, the member

abbrev pub Row : Type 0
Row = EntityId × ℕ × ℕ × EntityId

abbrev pub by_row : Row → Row → Ordering
by_row one other = by_numbers (numbers one) (numbers other) where
  numbers : Row → List ℕ
  numbers (listed, scope, position, member) = listed.0 ∷ scope ∷ position ∷ member.0 ∷ []

abbrev pub entity_at : List FileTree → Place → EntityId
entity_at files at = unwrap_or (option_map (entity_number files) (key_at files at.file at.token)) (record { 0 = 0 })

abbrev pub member_row : List FileTree → Listed → ℕ × Place → Row
member_row files list (position, at) = (entity_number files (block list.name), list_scope files list, position, entity_at files at)

abbrev pub member_rows : List FileTree → List Row
member_rows files = rising by_row (flat_map (λ list. map (member_row files list) (enumerate_from 1 (member_places list))) (common_lists files))

-- ---- what names mean

abbrev pub meant_at : List FileTree → Denoting → EntityId
meant_at files d =
    option_map_or (λ (c : Called). entity_number files (unit c.procedure)) (find (λ (c : Called). is_at c.at.file c.at.token d) (calls_of files)) (meaning_number files d.meaning)

-- for each occurrence of a name what it denotes, and for a reference by a generic name the specific procedure (14.1.2.3)
abbrev pub meant_of : List FileTree → List EntityId
meant_of files = map (meant_at files) (denotings files)
