use Rattle.std.proofs.Common.{◌≡◌, map, take}
use Rattle.decl_table.specs.steps.Drafts.{drafted_of}
use Rattle.decl_table.proofs.entities.entities_from.Given as goal

abbrev pub invariant-loop-draft : goal.invariant-loop-draft
invariant-loop-draft l = l.found ≡ map (λ d. d.entity) (map (drafted_of l.files) (take l.draft-index l.drafts))
