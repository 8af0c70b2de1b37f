use Rattle.std.proofs.Common.{◌≡◌, ◌∙◌, ◌++◌, ◌∷◌, ℕ, List, [], length, sym, subst}
use Rattle.ftn_base.specs.ModuleUses.{used_by}
use Rattle.const_value.specs.steps.Labelling.{AreSpread}
use Rattle.const_value.specs.steps.Lists.{lists_of}
use Rattle.const_value.proofs.Labelling.{spread_more}
use Rattle.const_value.proofs.SpreadTurns.{stack_known}
use Rattle.const_value.proofs.Users.{lists_length}
use Rattle.const_value.proofs.components.spread.Goals as goal

pub turns-preserved : goal.turns-preserved
turns-preserved c =
    let users = lists_of c.args.users.now in
    let label = c.args.label in
    let n = c.in-Some.node in
    let list = c.list_of.result.now in
    let labels = c.turns.labels in
    let stack = c.turns.stack.items in
    let rest = c.pop.new.self.items in
    let after = c.label_all.new.labels in
    let more = c.label_all.new.stack.items in
    let is : list ≡ used_by users n = c.list_of.ensures in
    let popped : stack ≡ rest ++ n ∷ [] = c.in-Some.ensures.items in
    let spread : AreSpread list label labels rest after more = c.in_ok-label_all.ensures.spread in
    let size : length users ≡ length c.args.users.now = lists_length c.args.users.now in
    record {
      sized = spread.sized ∙ c.turns.invariant.sized;
      known = stack_known (length c.args.users.now) label n users list labels stack rest after more c.requires.users (sym size) c.turns.invariant.known popped is spread;
      spreading = λ uses front behind root.
          spread_more uses users front label behind c.args.labels.now root labels after stack rest more n (c.turns.invariant.spreading uses front behind root) popped
          (subst (λ (l : List ℕ). AreSpread l label labels rest after more) is spread);
    }
