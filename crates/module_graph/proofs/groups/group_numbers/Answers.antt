use Rattle.std.proofs.Common.{◌≡◌, ◌+◌, ◌<◌, ◌∙◌, Some, length, drop, sym, ap, arith}
use Rattle.std.proofs.lemmas.List.{take_at}
use Rattle.std.proofs.lemmas.List.Elements.{All-pop}
use Rattle.module_graph.specs.Uses.{used_lists}
use Rattle.module_graph.proofs.Giving as giving
use Rattle.module_graph.proofs.Listing.{lists_length}
use Rattle.module_graph.proofs.groups.group_numbers.Goals as goal

pub roots-init : goal.roots-init
roots-init c = record {
  known =
      let users = c.deref.ensures.value in
      let sized = c.in_ok-users_of.ensures.sized in
      let count : length c.deref.result.now ≡ length c.args.uses.now = ap length users ∙ sized in
      rw count at c.in_ok-left.ensures;
  giving =
      giving.nothing_given (used_lists c.args.uses.now) (length c.in_ok-left.left.items + 1) (length c.args.uses.now) c.in_ok-numbers.numbers.items (omega arith) (sym (lists_length c.args.uses.now))
      (c.in_ok-numbers.ensures.items_if_clones_equal (λ y e. e));
}

pub roots-preserved : goal.roots-preserved
roots-preserved c = record {
  known = (All-pop (λ number. number < length c.args.uses.now) c.roots.left.items c.pop.new.self.items (Some c.in-Some.from) c.in-Some.ensures.items c.roots.invariant.known).0;
  giving =
      let uses = used_lists c.args.uses.now in
      let numbers = c.give_from.new.numbers in
      let same : length numbers ≡ length uses = c.in_ok-give_from.ensures.sized in
      let before : length c.roots.numbers.items ≡ length uses = c.roots.invariant.giving.sized in
      let count : length numbers ≡ c.roots.numbers.len = omega arith in
      let len : c.len.result ≡ length c.pop.new.self.items = omega arith in
      rw (take_at numbers (drop (length numbers) c.roots.numbers.items) c.roots.numbers.len count) (rw len at c.in_ok-give_from.ensures);
}
