use Rattle.std.proofs.Common.{◌≡◌, ◌<◌, nat_eq, ◌∷◌, [], Some, length, sym, ap, ◌∙◌}
use Rattle.std.specs.Cmp.{nat_eq_equiv}
use Rattle.std.specs.HashMap.{get}
use Rattle.std.specs.Map.{keys_of}
use Rattle.std.specs.Map.Iter.{deref_pair}
use Rattle.std.specs.Option.{unwrap_or}
use Rattle.std.proofs.lemmas.List.Elements.{All-rest}
use Rattle.std.proofs.lemmas.Map.Iter.{hash_map_turn, rest_more}
use Rattle.indexmap.specs.IndexSet.{insert_all}
use Rattle.ftn_base.specs.Accessible.{given_by, is_same_pair, exports_of}
use Rattle.use_assoc.specs.steps.Groups.{found_lists, lists_in}
use Rattle.use_assoc.proofs.Adding.{flat_next}
use Rattle.use_assoc.proofs.associating.add_modules.Goals as goal

-- the iterator gave a module that the groups have, with its lists, and what they give was added
pub loop-number-preserved : goal.loop-number-preserved
loop-number-preserved c =
    let front : c.loop-number.number-iterator ≡ (c.in-Some.number.now, c.in-Some.lists.now) ∷ c.next.new.self =
    rest_more deref_pair _ _ _ (c.in-Some.number, c.in-Some.lists) c.in-Some.is c.next.ensures.steps in
    let here : get nat_eq c.args.groups.now c.in-Some.number.now ≡ Some c.in-Some.lists.now =
    (hash_map_turn deref_pair c.loop-number.yielded _ _ _ _ (c.in-Some.number, c.in-Some.lists) c.loop-number.yielded_by c.in-Some.is c.next.ensures.steps nat_eq_equiv
    c.args.groups.now (c.into_iter-number-iterator.ensures.into_iter_gives ∙ c.iter-number-items.ensures.rest) c.iter-number-items.ensures.unique).1 in
    let lists : lists_in c.as_slice.result.now ≡ found_lists c.args.groups.now c.in-Some.number.now =
    ap lists_in c.as_slice.ensures ∙ sym (ap (λ group. lists_in (unwrap_or group [])) here) in
    record {
      pairs =
          flat_next is_same_pair _ c.loop-number.given c.add_module.new.given
          (λ number. given_by (exports_of c.args.exports.now number) (found_lists c.args.groups.now number))
          c.in-Some.number.now (keys_of c.loop-number.number-iterator) (keys_of c.next.new.self) (ap keys_of front) c.loop-number.invariant.pairs
          (c.in_ok-add_module.ensures ∙ ap (λ pairs. insert_all is_same_pair c.loop-number.given (given_by pairs (lists_in c.as_slice.result.now))) (c.pairs.ensures ∙ c.exports_at-of_module.ensures)
          ∙ ap (λ xs. insert_all is_same_pair c.loop-number.given (given_by (exports_of c.args.exports.now c.in-Some.number.now) xs)) lists);
      modules = All-rest (λ number. number < length c.args.exports.now) c.in-Some.number.now (keys_of c.next.new.self) (keys_of c.loop-number.number-iterator) (ap keys_of front) c.loop-number.invariant.modules;
    }
