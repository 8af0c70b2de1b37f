use Rattle.std.proofs.Common.{◌+◌, not, length, get_or, ap, sym, ◌∙◌, arith}
use Rattle.std.specs.Prelude.{slice_get}
use Rattle.std.proofs.lemmas.Option.{slice_get-get_or}
use Rattle.ftn_tree.specs.declared.table.Extent.{Extent}
use Rattle.ftn_tree.specs.Extents.{scoping, is_body}
use Rattle.ftn_tree.specs.Sayings.{sayings}
use Rattle.ftn_tree.specs.Scopes.{host_number}
use Rattle.decl_table.specs.steps.UnitDrafts.{draft_by}
use Rattle.decl_table.proofs.Arounds.{units_few}
use Rattle.decl_table.proofs.OwnStatements.{number_of}
use Rattle.decl_table.proofs.Turns.{alike, image}
use Rattle.decl_table.proofs.UnitDrafts.{passed_over, added}
use Rattle.decl_table.proofs.unit_drafts.push_units.Goals as goal
use Rattle.decl_table.proofs.unit_drafts.push_units.Goals.{then-not-index+in_ok-push, else-not-index}

pub overflow_add-number : goal.overflow_add-number
overflow_add-number c =
    let few = units_few c.args.files.now c.requires.trees in
    let long = ap length (c.deref-unit-items.ensures.value ∙ c.requires.scoping.units) in
    let same = c.loop-unit.invariant.0 in omega (arith, few, long, same, c.loop-unit-test.true)

pub draft_unit-requires : goal.draft_unit-requires
draft_unit-requires c =
    let units = c.deref-unit-items.result.now in
    let i = c.loop-unit.unit-index in
    let d : Extent = record { file = 0; opening = 0; ending = 0 } in
    let here = ap (λ es. slice_get es i) (sym (c.deref-unit-items.ensures.value ∙ c.requires.scoping.units)) ∙ slice_get-get_or units i d c.loop-unit-test.true in
    let at = c.index-said-at.is ∙ ap (λ n. get_or c.args.said.now n c.index-said-at.result) c.loop-unit.invariant.0 in
    c.deref.ensures.value
    ∙ alike (λ one. one.items) (sayings c.args.files.now) c.args.said.now (scoping c.args.files.now) i c.index-said-at.result (get_or units i d) c.requires.said at here

pub loop-unit-preserved : goal.loop-unit-preserved
loop-unit-preserved c =
    let files = c.args.files.now in
    let units = c.deref-unit-items.result.now in
    let i = c.loop-unit.unit-index in
    let same = c.loop-unit.invariant.0 in
    let d : Extent = record { file = 0; opening = 0; ending = 0 } in
    let e = get_or units i d in
    let here = ap (λ es. slice_get es i) (sym (c.deref-unit-items.ensures.value ∙ c.requires.scoping.units)) ∙ slice_get-get_or units i d c.loop-unit-test.true in
    let bodies = c.args.scoping.now.bodies.items in
    let hosts = c.args.scoping.now.hosts.items in
    let body = image (is_body files) bodies (scoping files) i c.index.result.now e c.requires.scoping.bodies
    (c.index.ensures ∙ ap (λ n. get_or bodies n c.index.result.now) same) here in
    elim c.if-not-index.branch [
      | then-not-index+in_ok-push w ↦
          let host = w.index-then-not-index.result.now in
          let hosted = image (host_number files) hosts (scoping files) i host e c.requires.scoping.hosts
          (w.index-then-not-index.ensures ∙ ap (λ n. get_or hosts n host) same) here in (
            ap (λ n. n + 1) same,
            added files (λ e. not (is_body files e)) (scoping files) i e here c.args.found.now.items c.loop-unit.found.items c.if-not-index.found.items host w.draft_unit.result
                (ap not (sym body ∙ w.if-not-index.true)) c.loop-unit.invariant.1 (ap (λ f. f.items) w.found-is ∙ w.in_ok-push.ensures.items)
                (w.draft_unit.ensures ∙ ap (λ n. draft_by files e n host) same) (number_of files c.requires.trees i e here) hosted,
          )
      | else-not-index w ↦ (
        ap (λ n. n + 1) same,
        passed_over files (λ e. not (is_body files e)) (scoping files) i e here c.args.found.now.items c.loop-unit.found.items c.if-not-index.found.items
            (ap not (sym body ∙ w.if-not-index.false)) c.loop-unit.invariant.1 (ap (λ f. f.items) w.found-is),
      )
    ]
