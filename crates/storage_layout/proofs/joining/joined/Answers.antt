use Rattle.std.proofs.Common.{List, ◌+◌, take, drop, subst}
use Rattle.std.proofs.lemmas.List.{take-append-drop}
use Rattle.ftn_base.specs.declared.entity.Tie.{Tie}
use Rattle.ftn_base.specs.Storage.{IsContradicted, tie_links}
use Rattle.equiv_class.specs.declared.fault.TieFault.{TieFault}
use Rattle.equiv_class.specs.Conflicts.{IsConflict, IsTrueFault}
use Rattle.storage_layout.proofs.Conflict.{fewer}
use Rattle.storage_layout.proofs.joining.joined.Goals as goal

pub unreachable-requires : goal.unreachable-requires
unreachable-requires c =
    let ties : List Tie = c.args.ties.now in
    let found = c.in-Err-Conflict in
    let clash : IsConflict ties found.field-0-0 found.field-0-1 found.field-0-2 = subst (λ (fault : TieFault). IsTrueFault ties fault) found.field-0-is found.ensures.conflict in
    c.requires.agree (subst (λ (list : List Tie). IsContradicted (tie_links list)) (take-append-drop (found.field-0-0 + 1) ties) (fewer (take (found.field-0-0 + 1) ties) (drop (found.field-0-0 + 1) ties) clash.here))
