use Rattle.std.proofs.Common.{◌≡◌, ◌++◌, ℕ, List, [], drop}
use Rattle.decl_table.specs.steps.DeclaredNames.{drafts_by}
use Rattle.decl_table.specs.steps.Heard.{heard_in}
use Rattle.decl_table.specs.steps.Noted.{noted_in}
use Rattle.decl_table.specs.steps.Seen.{has_come, is_among}
use Rattle.decl_table.proofs.declared_names.push_names.Given as goal

abbrev pub invariant-loop-s : goal.invariant-loop-s
invariant-loop-s l =
    (names : List (List ℕ)) × ((name : List ℕ) → has_come l.seen name ≡ is_among name names)
    × (l.initial.found.items ++ drafts_by l.owner (noted_in l.noted) (heard_in l.heard) [] l.said
    ≡ l.found.items ++ drafts_by l.owner (noted_in l.noted) (heard_in l.heard) names (drop l.s-index l.said))
