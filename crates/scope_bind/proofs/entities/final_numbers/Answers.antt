use Rattle.std.proofs.Common.{◌≡◌, ◌+◌, ◌-◌, ◌≤◌, ◌<◌, ◌∙◌, ℕ, List, drop, length, ap, subst, sym, arith}
use Rattle.std.proofs.lemmas.List.{take_at}
use Rattle.ftn_tree.specs.declared.table.Entity.{Entity}
use Rattle.decl_table.proofs.HeardNames.{opened_before}
use Rattle.scope_bind.specs.steps.Entities.{AreNumbers, count_of}
use Rattle.scope_bind.proofs.entities.final_numbers.Goals as goal

pub loop-at-preserved : goal.loop-at-preserved
loop-at-preserved c =
    let files = c.args.known.now.files.now in
    let entities = c.args.entities.now in
    let at = c.loop-at.at in
    let before = c.loop-at.numbers.items in
    let old = c.deref_mut.result.now in
    let after = c.put_entity.new.numbers in
    let some = c.loop-at-test.true in
    let fits : at ≤ length entities = c.loop-at.invariant.0 in
    let long = c.put_entity.ensures.long in
    let same = c.deref_mut.ensures.len in
    let count : length after ≡ c.loop-at.numbers.len = omega arith in
    let sized : length old ≡ count_of files = ap length c.deref_mut.ensures.value ∙ c.loop-at.invariant.1 in
    let less : at - 1 ≤ length entities = omega arith in
    let back : at ≡ at - 1 + 1 = omega arith in
    let was : AreNumbers files (at - 1 + 1) (drop at entities) old =
    subst (AreNumbers files (at - 1 + 1) (drop at entities)) (sym c.deref_mut.ensures.value) (subst (λ (k : ℕ). AreNumbers files k (drop at entities) before) back c.loop-at.invariant.2) in
    let put = c.put_entity.ensures.put (drop at entities) sized was in
    let opened = opened_before entities at c.index-entities-at.result some fits c.index-entities-at.is in
    rw (take_at after (drop (length after) before) c.loop-at.numbers.len count)
    (less, long ∙ sized, subst (λ (es : List Entity). AreNumbers files (at - 1) es after) (sym opened) put)
