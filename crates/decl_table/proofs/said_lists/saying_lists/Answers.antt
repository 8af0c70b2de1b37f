use Rattle.std.proofs.Common.{◌+◌, get_or, map, ap, sym, ◌∙◌}
use Rattle.std.specs.Prelude.{slice_get}
use Rattle.std.proofs.lemmas.Option.{slice_get-get_or}
use Rattle.ftn_tree.specs.declared.table.Extent.{Extent}
use Rattle.ftn_tree.specs.Extents.{scoping}
use Rattle.ftn_tree.specs.Sayings.{saying, sayings}
use Rattle.decl_table.specs.steps.SaidLists.{all_said}
use Rattle.decl_table.proofs.Turns.{alike, one_more_is}
use Rattle.decl_table.proofs.said_lists.saying_lists.Goals as goal

pub loop-unit-preserved : goal.loop-unit-preserved
loop-unit-preserved c =
    let files = c.args.files.now in
    let units = c.deref-unit-items.result.now in
    let i = c.loop-unit.unit-index in
    let same = c.loop-unit.invariant.0 in
    let d : Extent = record { file = 0; opening = 0; ending = 0 } in
    let e = get_or units i d in
    let here = ap (λ es. slice_get es i) (sym (c.deref-unit-items.ensures.value ∙ c.requires.known.units)) ∙ slice_get-get_or units i d c.loop-unit-test.true in
    let said = alike (λ one. one.items) (all_said files) c.args.said.now (scoping files) i c.index-said-at.result e c.requires.said
    (c.index-said-at.is ∙ ap (λ n. get_or c.args.said.now n c.index-said-at.result) same) here in (
      ap (λ n. n + 1) same,
      one_more_is (λ one. one.items) (sayings files) (scoping files) i e here c.loop-unit.made.items c.push.new.self.items c.in_ok-sayings.field-0 c.loop-unit.invariant.1
          c.in_ok-push.ensures.items (c.in_ok-sayings.ensures ∙ ap (map (saying files e.file)) (c.deref.ensures.value ∙ said)),
    )
