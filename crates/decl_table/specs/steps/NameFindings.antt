-- What is found at one saying, by the first sayings before it.
use Rattle.std.specs.Prelude.{ℕ, Bool, not, ◌&&◌, ◌||◌, if◌then◌else◌, List, slice_get, Option, Some, None, is_some}
use Rattle.std.specs.Option.{option_map, option_and_then}
use Rattle.ftn_base.specs.declared.fault.FaultKind.TheVariants.{Twice, Conflicting}
use Rattle.ftn_tree.specs.declared.table.ScopeKind.{ScopeKind}
use Rattle.ftn_tree.specs.Sayings.{Saying}
use Rattle.ftn_tree.specs.Exclusions.{is_twice_itself}
use Rattle.ftn_tree.specs.DeclarationFaults.{Finding, found, found_with, is_module, is_block_data, place_of_saying}
use Rattle.decl_table.specs.declared.firsts.Firsts.{Firsts}
use Rattle.decl_table.specs.steps.Firsts.{joined}
use Rattle.decl_table.specs.steps.Rules.{twice, excluding, conflicting}

abbrev pub partner : ℕ → Firsts → Firsts → Saying → Option ℕ
partner index before one s = twice (if is_twice_itself s then joined index before one else before) one

abbrev pub found_twice : ℕ → Saying → Saying → Finding
found_twice file s first = found_with Twice (place_of_saying file s) (place_of_saying file first)

abbrev pub twice_finding : ℕ → List Saying → Saying → Option ℕ → Option Finding
twice_finding file said s partner = option_map (found_twice file s) (option_and_then (slice_get said) partner)

abbrev pub is_misplaced : ScopeKind → Firsts → Firsts → Bool
is_misplaced kind before one =
    (is_some one.intent && not (is_some before.dummy)) || ((is_some one.public || is_some one.private) && not (is_module kind))

abbrev pub is_conflicting : ScopeKind → Firsts → Firsts → Bool
is_conflicting kind before one =
    is_some (excluding (is_block_data kind) one one) || is_misplaced kind before one || is_some (conflicting (is_block_data kind) before one)

abbrev pub conflicting_finding : ScopeKind → ℕ → Firsts → Firsts → Saying → Option Finding
conflicting_finding kind file before one s = if is_conflicting kind before one then Some (found Conflicting (place_of_saying file s)) else None
