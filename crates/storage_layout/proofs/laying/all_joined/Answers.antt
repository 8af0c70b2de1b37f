use Rattle.std.proofs.Common.{◌≡◌, ℕ, ◌-◌, length, subst, arith}
use Rattle.ftn_base.specs.Storage.{IsContradicted}
use Rattle.ftn_base.specs.StorageMembers.{links}
use Rattle.ftn_base.specs.StorageFaults.{IsFirst}
use Rattle.equiv_class.specs.declared.fault.TieFault.{TieFault}
use Rattle.equiv_class.specs.Conflicts.{IsConflict, IsTrueFault}
use Rattle.storage_layout.specs.steps.Kept.{given_of, sizes_in}
use Rattle.storage_layout.proofs.Parts.{tie_conflict}
use Rattle.storage_layout.proofs.laying.all_joined.Goals as goal

pub overflow_sub-result : goal.overflow_sub-result
overflow_sub-result c =
    let t = c.args.things.now in
    let found = c.in-Err-Conflict in
    let clash : IsConflict c.deref-2.result.now found.tie found.field-0-1 found.field-0-2 = subst (λ (fault : TieFault). IsTrueFault c.deref-2.result.now fault) found.field-0-is found.ensures.conflict in
    let told = tie_conflict (sizes_in t) t.members.items (given_of t) t.sizes.items t.names.items (length t.members.items) t.ties.items c.requires.are c.requires.members c.requires.given found.tie found.field-0-1 found.field-0-2
    (subst (λ ties. IsConflict ties found.tie found.field-0-1 found.field-0-2) c.deref-2.ensures.value clash) in
    let high = told.0 in let count = c.len.ensures in omega (arith, high, count)

pub returns-in-Err-Conflict-clause-fault : goal.returns-in-Err-Conflict-clause-fault
returns-in-Err-Conflict-clause-fault c =
    let t = c.args.things.now in
    let found = c.in-Err-Conflict in
    let clash : IsConflict c.deref-2.result.now found.tie found.field-0-1 found.field-0-2 = subst (λ (fault : TieFault). IsTrueFault c.deref-2.result.now fault) found.field-0-is found.ensures.conflict in
    let told = tie_conflict (sizes_in t) t.members.items (given_of t) t.sizes.items t.names.items (length t.members.items) t.ties.items c.requires.are c.requires.members c.requires.given found.tie found.field-0-1 found.field-0-2
    (subst (λ ties. IsConflict ties found.tie found.field-0-1 found.field-0-2) c.deref-2.ensures.value clash) in
    let count : length t.members.items ≡ c.len.result = omega (arith, t.members.ok.0, c.len.ensures) in
    subst (λ (n : ℕ). IsFirst (λ some. IsContradicted (links (sizes_in t) t.members.items some)) (given_of t) (found.tie - n)) count told.1
