use Rattle.std.proofs.Common.{◌+◌, [], ◌∷◌, get_or, length, map, ap, sym, ◌∙◌}
use Rattle.std.specs.Prelude.{slice_get}
use Rattle.std.proofs.lemmas.List.{length-append}
use Rattle.std.proofs.lemmas.Option.{slice_get-get_or}
use Rattle.ftn_tree.specs.declared.table.Extent.{Extent}
use Rattle.ftn_tree.specs.DeclaredEntities.{own_mentions}
use Rattle.ftn_tree.specs.Extents.{scoping}
use Rattle.ftn_tree.specs.Sayings.{sayings}
use Rattle.decl_table.proofs.Turns.{alike}
use Rattle.scope_bind.proofs.UnitReads.{names_more}
use Rattle.scope_bind.proofs.known.all_names.Goals as goal

pub names_of-requires-clause-said : goal.names_of-requires-clause-said
names_of-requires-clause-said c =
    let files = c.args.files.now in
    let units = c.deref-unit-items.result.now in
    let i = c.loop-unit.unit-index in
    let d : Extent = record { file = 0; opening = 0; ending = 0 } in
    let here = ap (λ es. slice_get es i) (sym (c.deref-unit-items.ensures.value ∙ c.requires.known.units)) ∙ slice_get-get_or units i d c.loop-unit-test.true in
    c.deref.ensures.value
    ∙ alike (λ one. one.items) (sayings files) c.args.said.now (scoping files) i c.index-said-at.result (get_or units i d) c.requires.said
    (c.index-said-at.is ∙ ap (λ n. get_or c.args.said.now n c.index-said-at.result) c.loop-unit.invariant.at) here

pub names_of-requires-clause-own : goal.names_of-requires-clause-own
names_of-requires-clause-own c =
    let files = c.args.files.now in
    let units = c.deref-unit-items.result.now in
    let i = c.loop-unit.unit-index in
    let d : Extent = record { file = 0; opening = 0; ending = 0 } in
    let here = ap (λ es. slice_get es i) (sym (c.deref-unit-items.ensures.value ∙ c.requires.known.units)) ∙ slice_get-get_or units i d c.loop-unit-test.true in
    c.deref-in-loop-unit.ensures.value
    ∙ alike (λ one. one.items) (own_mentions files) c.args.own.now (scoping files) i c.index-own-at.result (get_or units i d) c.requires.own
    (c.index-own-at.is ∙ ap (λ n. get_or c.args.own.now n c.index-own-at.result) c.loop-unit.invariant.at) here

pub loop-unit-preserved : goal.loop-unit-preserved
loop-unit-preserved c =
    let files = c.args.files.now in
    let units = c.deref-unit-items.result.now in
    let i = c.loop-unit.unit-index in
    let d : Extent = record { file = 0; opening = 0; ending = 0 } in
    let here = ap (λ es. slice_get es i) (sym (c.deref-unit-items.ensures.value ∙ c.requires.known.units)) ∙ slice_get-get_or units i d c.loop-unit-test.true in record {
      at = ap (λ n. n + 1) c.loop-unit.invariant.at;
      count = ap length c.in_ok-push.ensures.items ∙ length-append c.loop-unit.made.items (c.in_ok-names_of.field-0 ∷ []) ∙ ap (λ n. n + 1) c.loop-unit.invariant.count;
      each =
          names_more files c.loop-unit.made.items c.push.new.self.items c.in_ok-names_of.field-0 i (get_or units i d) c.loop-unit.invariant.count here c.in_ok-names_of.ensures
          c.loop-unit.invariant.each c.in_ok-push.ensures.items;
    }
