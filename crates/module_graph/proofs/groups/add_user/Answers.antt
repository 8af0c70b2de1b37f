use Rattle.std.proofs.Common.{◌<◌, length, get_or, Vec, ℕ, Global, All, arith}
use Rattle.std.proofs.lemmas.Grind.{common_steps}
use Rattle.std.proofs.lemmas.List.Elements.{All-push, All-set}
use Rattle.module_graph.proofs.groups.add_user.Goals as goal

pub loop-used-preserved : goal.loop-used-preserved
loop-used-preserved c =
    let count = length c.args.users.now in
    let all : All (λ user. user < count) c.push.new.self.items = grind (arith, common_steps, All-push) in
    All-set (λ (list : Vec ℕ Global). All (λ user. user < count) list.items) c.loop-used.users (get_or c.args.list.now c.loop-used.used-index 0) c.push.new.self all c.loop-used.invariant
