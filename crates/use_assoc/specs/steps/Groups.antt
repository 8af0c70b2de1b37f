-- USE statements by module.
use Rattle.std.specs.Prelude.{◌≡◌, ℕ, nat_eq, List, [], map}
use Rattle.std.specs.Borrow.{Bor}
use Rattle.std.specs.Option.{unwrap_or}
use Rattle.indexmap.specs.IndexMap.{IndexMap, get, keys}
use Rattle.ftn_base.specs.Accessible.{lists_of, modules_of}
use Rattle.ftn_base.specs.declared.uses.UseList.{UseList}

-- the lists that stand in a group
abbrev pub lists_in : List (Bor UseList) → List UseList
lists_in group = map (λ list. list.now) group

-- the lists that stand in the group of that module
abbrev pub found_lists : {H : Type 0} → IndexMap ℕ (List (Bor UseList)) H → ℕ → List UseList
found_lists groups number = lists_in (unwrap_or (get nat_eq groups number) [])

-- the modules of the lists in their order, and of each module its lists
abbrev pub AreGroups : {H : Type 0} → List UseList → IndexMap ℕ (List (Bor UseList)) H → Type 0
AreGroups lists groups = (keys groups ≡ modules_of lists) × ((number : ℕ) → found_lists groups number ≡ lists_of number lists)
