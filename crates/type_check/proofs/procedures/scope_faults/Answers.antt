use Rattle.std.proofs.Common.{◌≡◌, [], sym, ap, ◌∙◌}
use Rattle.std.specs.List.{flat_map}
use Rattle.ftn_tree.specs.DeclaredEntities.{names_after}
use Rattle.ftn_tree.specs.Sayings.{sayings}
use Rattle.ftn_tree.specs.TypeFaults.{body_told, type_told}
use Rattle.type_check.specs.steps.Noted.{first_seen, noted}
use Rattle.type_check.proofs.NotedLaws.{noted_append}
use Rattle.type_check.proofs.procedures.scope_faults.Goals as goal

pub returns-in_ok-body_faults : goal.returns-in_ok-body_faults
returns-in_ok-body_faults c =
    let files = c.args.files.now in
    let e = c.args.e in
    let first = first_seen c.args.faults.now in
    let types = flat_map (type_told files e) (names_after [] (sayings files e)) in
    let so_far : first_seen c.type_faults.new.faults ≡ noted e.file first types = c.in_ok-type_faults.ensures {u = tt} in
    c.in_ok-body_faults.ensures {u = tt} ∙ ap (λ o. noted e.file o (body_told files e)) so_far ∙ sym (noted_append e.file first types (body_told files e))
