use Rattle.std.proofs.Common.{◌≡◌, ◌+◌, ◌<◌, ◌^◌, ◌∙◌, List, Some, length, map, drop, get_or, ap, ap₂, refl, sym, arith}
use Rattle.std.specs.Prelude.{slice_get}
use Rattle.std.proofs.lemmas.List.{take_at}
use Rattle.std.proofs.lemmas.Option.{slice_get-get_or}
use Rattle.ftn_tree.specs.declared.table.Extent.{Extent}
use Rattle.ftn_tree.specs.Declarations.{Declared}
use Rattle.ftn_tree.specs.Extents.{scoping}
use Rattle.ftn_tree.specs.Scopes.{name_at}
use Rattle.decl_table.proofs.Arounds.{units_few}
use Rattle.const_value.specs.declared.written.Written.{Written}
use Rattle.const_value.specs.steps.Data.{put_by}
use Rattle.const_value.specs.steps.Names.{all_data, all_said, number_in, number_of}
use Rattle.const_value.specs.steps.Written.{written_seen}
use Rattle.const_value.proofs.UnitWriting.{begun, kept_there, made_long, unit_more, unit_within}
use Rattle.const_value.proofs.data.written_for.Goals as goal

pub loop-unit-init : goal.loop-unit-init
loop-unit-init c =
    let long : c.len.result ≡ length (all_data c.args.files.now) = omega (arith, c.requires.count, c.len.ensures) in
    record {
      at = refl;
      written = begun c.in_ok-written.written.items c.nothing.result c.len.result (all_data c.args.files.now) (c.in_ok-written.ensures.items_if_clones_equal (λ y e. e)) long c.nothing.ensures;
    }

pub own_declared-requires-clause-unit : goal.own_declared-requires-clause-unit
own_declared-requires-clause-unit c =
    let all = c.deref-unit-items.result.now in
    let none : Extent = record { file = 0; opening = 0; ending = 0 } in
    ap (slice_get (scoping c.args.files.now)) c.loop-unit.invariant.at
    ∙ ap (λ (xs : List Extent). slice_get xs c.loop-unit.unit-index) (sym (c.deref-unit-items.ensures.value ∙ c.requires.known.units))
    ∙ slice_get-get_or all c.loop-unit.unit-index none c.loop-unit-test.true

pub put_all-requires : goal.put_all-requires
put_all-requires c = λ name.
    let files = c.args.files.now in
    let at = c.loop-unit.unit-index in
    let all = c.deref-unit-items.result.now in
    let e : Extent = get_or all at (record { file = 0; opening = 0; ending = 0 }) in
    let there : slice_get (scoping files) at ≡ Some e =
    ap (λ (xs : List Extent). slice_get xs at) (sym (c.deref-unit-items.ensures.value ∙ c.requires.known.units))
    ∙ slice_get-get_or all at (record { file = 0; opening = 0; ending = 0 }) c.loop-unit-test.true in
    let same : length all ≡ length (scoping files) = ap length (c.deref-unit-items.ensures.value ∙ c.requires.known.units) in
    let less : c.loop-unit.number < length c.args.names.now.numbers.items = omega (arith, same, c.requires.units, c.loop-unit-test.true, c.loop-unit.invariant.at) in
    unit_within files at e there name (length c.deref_mut.result.now) (number_in c.index-numbers.result.now name)
    (ap length c.deref_mut.ensures.value ∙ made_long files at e there c.loop-unit.written.items at c.loop-unit.invariant.written)
    (kept_there c.args.names.now.numbers.items c.loop-unit.number c.index-numbers.result.now name less c.index-numbers.ensures ∙ c.requires.numbers c.loop-unit.number name
    ∙ ap (λ n. number_of (all_said files) n name) c.loop-unit.invariant.at)

pub overflow_add-number : goal.overflow_add-number
overflow_add-number c =
    let few : length (scoping c.args.files.now) < 2 ^ 32 = units_few c.args.files.now c.requires.trees in
    let same : length c.deref-unit-items.result.now ≡ length (scoping c.args.files.now) = ap length (c.deref-unit-items.ensures.value ∙ c.requires.known.units) in
    omega (arith, few, same, c.loop-unit-test.true, c.loop-unit.invariant.at)

pub loop-unit-preserved : goal.loop-unit-preserved
loop-unit-preserved c =
    let files = c.args.files.now in
    let at = c.loop-unit.unit-index in
    let all = c.deref-unit-items.result.now in
    let e : Extent = get_or all at (record { file = 0; opening = 0; ending = 0 }) in
    let there : slice_get (scoping files) at ≡ Some e =
    ap (λ (xs : List Extent). slice_get xs at) (sym (c.deref-unit-items.ensures.value ∙ c.requires.known.units))
    ∙ slice_get-get_or all at (record { file = 0; opening = 0; ending = 0 }) c.loop-unit-test.true in
    let long : length all ≡ length (scoping files) = ap length (c.deref-unit-items.ensures.value ∙ c.requires.known.units) in
    let less : c.loop-unit.number < length c.args.names.now.numbers.items = omega (arith, long, c.requires.units, c.loop-unit-test.true, c.loop-unit.invariant.at) in
    let after = c.put_all.new.written in
    let kept = c.put_all.auto.written in
    let same = c.deref_mut.ensures.len in
    let count : length after ≡ c.loop-unit.written.len = omega (arith, kept, same) in
    rw (take_at after (drop (length after) c.loop-unit.written.items) c.loop-unit.written.len count) (record {
      at = ap (λ n. n + 1) c.loop-unit.invariant.at;
      written =
          unit_more files at e there (λ name. number_in c.index-numbers.result.now name) (map written_seen c.loop-unit.written.items) (map written_seen after)
          (λ name.
          kept_there c.args.names.now.numbers.items c.loop-unit.number c.index-numbers.result.now name less c.index-numbers.ensures ∙ c.requires.numbers c.loop-unit.number name
          ∙ ap (λ n. number_of (all_said files) n name) c.loop-unit.invariant.at)
          c.loop-unit.invariant.written
          (c.put_all.ensures
          ∙ ap₂ (λ (ws : List Written) (ds : List Declared). put_by (λ (d : Declared). number_in c.index-numbers.result.now (name_at files e.file d.name)) (map written_seen ws) ds)
          c.deref_mut.ensures.value (c.deref.ensures.value ∙ c.in_ok-declared.ensures));
    })
