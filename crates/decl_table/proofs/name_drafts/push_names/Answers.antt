use Rattle.std.proofs.Common.{◌+◌, length, get_or, ap, sym, ◌∙◌, arith}
use Rattle.std.specs.Prelude.{slice_get}
use Rattle.std.proofs.lemmas.Option.{slice_get-get_or}
use Rattle.ftn_tree.specs.declared.table.Extent.{Extent}
use Rattle.ftn_tree.specs.DeclaredEntities.{own_mentions}
use Rattle.ftn_tree.specs.Extents.{scoping}
use Rattle.ftn_tree.specs.Sayings.{sayings}
use Rattle.decl_table.proofs.Arounds.{units_few}
use Rattle.decl_table.proofs.DraftedNames.{more_names}
use Rattle.decl_table.proofs.OwnStatements.{number_of}
use Rattle.decl_table.proofs.Turns.{alike}
use Rattle.decl_table.proofs.name_drafts.push_names.Goals as goal

pub overflow_add-number : goal.overflow_add-number
overflow_add-number c =
    let few = units_few c.args.files.now c.requires.trees in
    let long = ap length (c.deref-unit-items.ensures.value ∙ c.requires.scoping.units) in
    let same = c.loop-unit.invariant.0 in omega (arith, few, long, same, c.loop-unit-test.true)

pub loop-unit-preserved : goal.loop-unit-preserved
loop-unit-preserved c =
    let files = c.args.files.now in
    let units = c.deref-unit-items.result.now in
    let i = c.loop-unit.unit-index in
    let same = c.loop-unit.invariant.0 in
    let d : Extent = record { file = 0; opening = 0; ending = 0 } in
    let e = get_or units i d in
    let here = ap (λ es. slice_get es i) (sym (c.deref-unit-items.ensures.value ∙ c.requires.scoping.units)) ∙ slice_get-get_or units i d c.loop-unit-test.true in
    let said = alike (λ one. one.items) (sayings files) c.args.said.now (scoping files) i c.index-said-at.result e c.requires.said
    (c.index-said-at.is ∙ ap (λ n. get_or c.args.said.now n c.index-said-at.result) same) here in
    let own = alike (λ one. one.items) (own_mentions files) c.args.own.now (scoping files) i c.index-own-at.result e c.requires.own
    (c.index-own-at.is ∙ ap (λ n. get_or c.args.own.now n c.index-own-at.result) same) here in (
      ap (λ n. n + 1) same,
      more_names files (scoping files) i e here c.args.found.now.items c.loop-unit.found.items c.push_declared.new.found.items c.loop-unit.number same
          (number_of files c.requires.trees i e here) c.deref.result.now c.deref-in-loop-unit.result.now (c.deref.ensures.value ∙ said) (c.deref-in-loop-unit.ensures.value ∙ own)
          c.loop-unit.invariant.1 c.in_ok-push_declared.ensures,
    )
