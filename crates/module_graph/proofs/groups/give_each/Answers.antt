use Rattle.std.proofs.Common.{◌≡◌, ◌+◌, ◌<◌, ◌∷◌, ◌∙◌, ℕ, List, length, get_or, take_all, All, ap, arith, subst, sym}
use Rattle.std.proofs.lemmas.List.{length_push}
use Rattle.std.proofs.lemmas.List.Elements.{All-more}
use Rattle.module_graph.specs.Uses.{used_lists}
use Rattle.module_graph.specs.steps.Groups.{HasNumber}
use Rattle.module_graph.proofs.Giving as giving
use Rattle.module_graph.proofs.Listing.{all_known, lists_length}
use Rattle.module_graph.proofs.Marking.{in_front}
use Rattle.module_graph.proofs.groups.give_each.Goals.{then-numbers-used-eq0+in_ok-push, else-numbers-used-eq0}
use Rattle.module_graph.proofs.groups.give_each.Goals as goal

pub list_of-used-items-requires : goal.list_of-used-items-requires
list_of-used-items-requires c =
    let size = lists_length c.args.uses.now in
    let known : c.args.user < length (used_lists c.args.uses.now) = c.requires.giving.known c.args.user (in_front c.args.user c.args.stack.now.items) in
    omega arith

pub loop-used-preserved : goal.loop-used-preserved
loop-used-preserved c =
    let uses = used_lists c.args.uses.now in
    let list = c.list_of-used-items.result.now in
    let numbers = c.loop-used.numbers in
    let stack = c.loop-used.stack.items in
    let i = c.loop-used.used-index in
    let used = get_or list i 0 in
    let given = c.loop-used.invariant.giving in
    let user_known : c.args.user < length uses = given.known c.args.user (in_front c.args.user stack) in
    let all : All (λ used. used < length uses) list = subst (λ (l : List ℕ). All (λ used. used < length uses) l) (sym c.list_of-used-items.ensures) (all_known uses c.args.user c.requires.known user_known) in
    let known : used < length uses = all i 0 c.loop-used-test.true in
    let sized : length numbers ≡ length uses = given.sized in
    let some : 0 < c.args.number = given.positive in
    elim c.if-numbers-used-eq0.branch [
      | then-numbers-used-eq0+in_ok-push w ↦
          let bare = w.if-numbers-used-eq0.true in
          let pushed = w.in_ok-push.ensures.items in
          record {
            giving = rw (w.numbers-is, w.stack-is) (giving.given_more uses c.args.number numbers stack c.args.user given used known bare w.push.new.self.items pushed);
            done = rw w.numbers-is (giving.done_more uses c.args.number numbers (c.args.user ∷ stack) given list i c.loop-used-test.true known bare c.loop-used.invariant.done);
            shift =
                let lt : used < length numbers = omega arith in
                let less = giving.one_less numbers used c.args.number lt bare some in
                let more : length w.push.new.self.items ≡ length stack + 1 = ap length pushed ∙ length_push stack used in
                let before = c.loop-used.invariant.shift in
                rw (w.numbers-is, w.stack-is) (omega arith);
          }
      | else-numbers-used-eq0 w ↦
          let has : HasNumber numbers used = let other = w.if-numbers-used-eq0.false in omega arith in
          record {
            giving = rw (w.numbers-is, w.stack-is) given;
            done = rw w.numbers-is (All-more (HasNumber numbers) list i 0 c.loop-used-test.true c.loop-used.invariant.done has);
            shift = rw (w.numbers-is, w.stack-is) c.loop-used.invariant.shift;
          }
    ]

pub returns-clause-giving : goal.returns-clause-giving
returns-clause-giving c =
    giving.left (used_lists c.args.uses.now) c.args.number c.loop-used.numbers c.loop-used.stack.items c.args.user c.loop-used.invariant.giving
    (subst (λ (l : List ℕ). All (HasNumber c.loop-used.numbers) l) c.list_of-used-items.ensures
    (subst (λ (l : List ℕ). All (HasNumber c.loop-used.numbers) l) (take_all c.loop-used.used-index c.list_of-used-items.result.now c.loop-used-test.false) c.loop-used.invariant.done))
