use Rattle.std.proofs.Common.{◌≡◌, OnOk, sym, ap, ◌∙◌, subst}
use Rattle.ftn_tree.specs.Procedures as procedures
use Rattle.ftn_tree.specs.TypeFaults as faults_of
use Rattle.type_check.specs.steps.Declared as steps
use Rattle.type_check.specs.steps.Noted.{first_seen, noted}
use Rattle.type_check.proofs.NotedLaws.{noted_append}
use Rattle.type_check.proofs.procedures.Declared.same_faults.Goals as goal

pub returns : goal.returns
returns c =
    let files = c.args.files.now in
    let known = c.requires.known in
    let file = c.args.body.1.file in
    let first = first_seen c.args.faults.now in
    let ds = procedures.dummies_of files c.args.body.1 in
    let others = procedures.dummies_of files c.args.defined.1 in
    let d = procedures.result_of files c.args.body.1 in
    let other = procedures.result_of files c.args.defined.1 in
    let dummies = faults_of.dummies_told files c.args.name ds others in
    let results = faults_of.results_told files d other in
    let are : steps.AreData files c.deref.result.now ds = subst (λ l. steps.AreData files l ds) (sym c.deref.ensures.value) (c.in_ok-ours.ensures {u = tt}) in
    let those : steps.AreData files c.deref-2.result.now others = subst (λ l. steps.AreData files l others) (sym c.deref-2.ensures.value) (c.in_ok-theirs.ensures {u = tt}) in
    let so_far : first_seen c.dummies_fault.new.faults ≡ noted file first dummies = c.in_ok-dummies_fault.ensures {u = tt} files ds others known are those in
    subst (λ o. OnOk c.results_fault.result (first_seen c.results_fault.new.faults ≡ o))
    (ap (λ o. noted file o results) so_far ∙ sym (noted_append file first dummies results))
    (c.results_fault.ensures files d other known (c.result_of-result.ensures c.args.body.1 c.requires.body) (c.result_of-other.ensures c.args.defined.1 c.requires.defined))
