-- Members of common blocks, and the links that COMMON and EQUIVALENCE make (Fortran 90, 5.5.2.1, 14.6.3).
use Rattle.std.specs.Prelude.{ℕ, Bool, List, [], ◌∷◌, ◌++◌, map, flat_map, filter, sum, slice_index, nat_eq, false, if◌then◌else◌}
use Rattle.ftn_base.specs.declared.entity.Tie.{Tie}
use Rattle.ftn_base.specs.Storage.{Link, member_link, tie_links}
use Rattle.ftn_base.specs.declared.storage.Object.{Object}
use Rattle.ftn_base.specs.declared.storage.BlockList.{BlockList}
pub use Rattle.ftn_base.specs.declared.storage.Member.{Member}

abbrev pub members_of : BlockList → List Member
members_of list = map (λ object. record { block = list.block; scope = list.scope; object = object }) list.members.items

-- the members of all lists, in the order given
abbrev pub all_members : List BlockList → List Member
all_members lists = flat_map members_of lists

abbrev pub sizes_of : List Object → List ℕ
sizes_of objects = map (λ object. object.units) objects

abbrev pub is_in : ℕ → ℕ → Member → Bool
is_in number scope member = if nat_eq number member.block then nat_eq scope member.scope else false

-- how many units these members take in lists of the block in the scoping unit
abbrev pub units_in : List ℕ → List Member → ℕ → ℕ → ℕ
units_in sizes members number scope = sum (map (λ member. slice_index sizes member.object) (filter (is_in number scope) members))

-- a member begins after the units of all members before it in lists of the same block and scoping unit
abbrev pub start_after : List ℕ → List Member → Member → ℕ
start_after sizes before member = units_in sizes before member.block member.scope

-- the links of these members, which come after those before
abbrev pub links_after : List ℕ → List Member → List Member → List Link
links_after sizes before [] = []
links_after sizes before (member ∷ rest) = member_link member.block member.object (start_after sizes before member) ∷ links_after sizes (before ++ member ∷ []) rest

abbrev pub list_links : List ℕ → List Member → List Link
list_links sizes members = links_after sizes [] members

-- the links of lists and of ties
abbrev pub links : List ℕ → List Member → List Tie → List Link
links sizes members ties = list_links sizes members ++ tie_links ties
