use Rattle.std.proofs.Common.{◌≡◌, ◌+◌, ◌<◌, ◌++◌, ◌∙◌, List, length, get_or, drop, ap, refl, sym, subst, arith, append-nil}
use Rattle.std.proofs.lemmas.List.{drop_all, length_push}
use Rattle.ftn_tree.specs.DeclarationFaults.{is_block_data}
use Rattle.ftn_tree.specs.declared.table.Scope.{Scope}
use Rattle.const_value.specs.declared.name_numbers.Owned.{Owned}
use Rattle.const_value.specs.steps.Names.{number_at, owned_from, owned_in}
use Rattle.const_value.proofs.NameLists.{lent_here, lists_in, lists_long, numbers_all, numbers_more, owned_more, size_more}
use Rattle.const_value.proofs.name_numbers.names_of.Goals as goal

pub loop-entry-init : goal.loop-entry-init
loop-entry-init c =
    record {
      at = refl;
      units = ap length c.new-numbers.ensures.items;
      numbers = λ scope name less. absurd (omega arith);
      size = ap length c.new-all.ensures.items;
      all = sym (ap (λ (xs : List Owned). xs ++ owned_from 0 c.args.scopes.now (lists_in c.args.said.now)) c.new-all.ensures.items);
    }

pub loop-entry-preserved : goal.loop-entry-preserved
loop-entry-preserved c =
    let said = lists_in c.args.said.now in
    let i = c.loop-entry.entry-index in
    let here = c.deref.result.now in
    let entry = c.entry-item.result in
    let kind = is_block_data entry.kind in
    let one = c.in_ok-push_names.field-0 in
    let size = c.requires in
    let within : i < length c.args.said.now = omega (arith, size, c.loop-entry-test.true) in
    let less : i < length said = subst (λ n. i < n) (sym (lists_long c.args.said.now)) within in
    let is : here ≡ get_or said i here = lent_here c.args.said.now i c.loop-entry.scope c.index-said-scope.result here within c.loop-entry.invariant.at c.index-said-scope.is c.deref.ensures.value in
    let made : c.push_names.new.all.items ≡ c.loop-entry.all.items ++ owned_in i entry.unit.file kind here =
    c.in_ok-push_names.ensures.all ∙ ap (λ n. c.loop-entry.all.items ++ owned_in n entry.unit.file kind here) c.loop-entry.invariant.at in
    let pushed : length c.push.new.self.items ≡ length c.loop-entry.numbers.items + 1 = ap length c.in_ok-push.ensures.items ∙ length_push c.loop-entry.numbers.items one in
    record {
      at = ap (λ n. n + 1) c.loop-entry.invariant.at;
      units = pushed ∙ ap (λ n. n + 1) c.loop-entry.invariant.units;
      numbers = λ scope name below.
          ap (λ xs. number_at xs scope name) c.in_ok-push.ensures.items
          ∙ numbers_more said i here less is c.loop-entry.numbers.items one (length c.loop-entry.all.items) c.loop-entry.invariant.units c.loop-entry.invariant.size c.loop-entry.invariant.numbers
          c.in_ok-push_names.ensures.numbers scope name below;
      size = size_more said i here less is c.loop-entry.all.items c.push_names.new.all.items i entry.unit.file kind c.loop-entry.invariant.size made;
      all =
          owned_more said i here less is c.args.scopes.now entry (owned_from 0 c.args.scopes.now said) c.loop-entry.all.items c.push_names.new.all.items c.loop-entry-test.true c.entry-item.is made
          c.loop-entry.invariant.all;
    }

pub returns : goal.returns
returns c =
    let said = lists_in c.args.said.now in
    let i = c.loop-entry.entry-index in
    let last = c.loop-entry.auto.entry-index-end in
    let over = c.loop-entry-test.false in
    let size = c.requires in
    let whole : length c.args.scopes.now ≡ i = omega (arith, last, over) in
    let long : length said ≡ i = lists_long c.args.said.now ∙ size ∙ whole in
    record {
      units = c.loop-entry.invariant.units ∙ sym whole;
      numbers = numbers_all said c.loop-entry.numbers.items i c.loop-entry.invariant.units long c.loop-entry.invariant.numbers;
      all = sym (
          c.loop-entry.invariant.all
          ∙ ap (λ (xs : List Scope). c.loop-entry.all.items ++ owned_from i xs (drop i said)) (drop_all i c.args.scopes.now over)
          ∙ append-nil c.loop-entry.all.items);
    }
