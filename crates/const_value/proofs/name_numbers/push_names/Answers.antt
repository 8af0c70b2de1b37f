use Rattle.std.proofs.Common.{◌≡◌, ◌+◌, ◌++◌, ◌∷◌, ◌∙◌, Some, [], cond, length, take, drop, bytes_eq, ap, ap₂, refl, sym, arith, append-nil}
use Rattle.std.specs.Map.{lookup}
use Rattle.std.proofs.lemmas.List.{take_at, take_more}
use Rattle.ftn_tree.specs.DeclarationFaults.{is_block_data}
use Rattle.ftn_tree.specs.DeclaredEntities.{names_after}
use Rattle.ftn_tree.specs.Sayings.{Saying}
use Rattle.const_value.specs.steps.Names.{number_from, number_in, owned_in, said_at}
use Rattle.const_value.proofs.NumberTurns.{turned_at}
use Rattle.const_value.proofs.name_numbers.push_names.Goals as goal

pub loop-s-init : goal.loop-s-init
loop-s-init c = record {
  numbers = λ name. ap (λ es. lookup (λ key. bytes_eq name key.now) es) c.new-numbers.ensures.empty;
  all = sym (append-nil c.args.all.now.items);
}

pub say-requires : goal.say-requires
say-requires c =
    let kind = is_block_data c.args.entry.now.kind in
    let said = take c.loop-s.s-index c.args.said.now in
    let key = c.s.inside.name.now in
    let put = c.number_of.new.all.items in
    let number = c.in_ok-number.number in
    let t = turned_at c.args.scope c.args.entry.now.unit.file kind said c.s-item.result c.args.all.now.items c.loop-s.all.items key (number_in c.loop-s.numbers key) number put
    (said_at kind c.s-item.result number put) c.loop-s.invariant.all (ap (λ (s : Saying). s.name) c.s.view_is) (c.loop-s.invariant.numbers key) c.in_ok-number.ensures.number
    c.in_ok-number.ensures.all refl in
    let same : length c.deref_mut.result.now ≡ length put = ap length c.deref_mut.ensures.value in
    omega (arith, t.within, same)

pub loop-s-preserved : goal.loop-s-preserved
loop-s-preserved c =
    let kind = is_block_data c.args.entry.now.kind in
    let file = c.args.entry.now.unit.file in
    let s = c.s-item.result in
    let said = take c.loop-s.s-index c.args.said.now in
    let old = c.args.all.now.items in
    let key = c.s.inside.name.now in
    let named = ap (λ (s : Saying). s.name) c.s.view_is in
    let put = c.number_of.new.all.items in
    let now = c.say.new.all in
    let number = c.in_ok-number.number in
    let t = turned_at c.args.scope file kind said s old c.loop-s.all.items key (number_in c.loop-s.numbers key) number put now c.loop-s.invariant.all named (c.loop-s.invariant.numbers key)
    c.in_ok-number.ensures.number c.in_ok-number.ensures.all
    (c.say.ensures ∙ ap₂ (λ b xs. said_at b s number xs) c.is_block_data-in_block_data.ensures c.deref_mut.ensures.value) in
    let more : take (c.loop-s.s-index + 1) c.args.said.now ≡ said ++ s ∷ [] =
    take_more c.args.said.now c.loop-s.s-index s c.loop-s-test.true ∙ ap (λ (x : Saying). said ++ x ∷ []) (sym c.s-item.is) in
    let kept = c.say.auto.all in
    let same = c.deref_mut.ensures.len in
    let count : length now ≡ c.number_of.new.all.len = omega (arith, kept, same) in
    rw (take_at now (drop (length now) put) c.number_of.new.all.len count) (record {
      numbers = λ name.
          c.in_ok-number.ensures.numbers name ∙ ap (λ k. cond (bytes_eq k name) (Some number) (number_in c.loop-s.numbers name)) named
          ∙ ap (λ o. cond (bytes_eq s.name name) (Some number) o) (c.loop-s.invariant.numbers name) ∙ t.numbers name
          ∙ ap (λ xs. number_from (length old) name (names_after [] xs)) (sym more);
      all = t.made ∙ ap (λ xs. old ++ owned_in c.args.scope file kind xs) (sym more);
    })
