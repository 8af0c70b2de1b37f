use Rattle.std.proofs.Common.{◌≡◌, ◌-◌, ◌∙◌, ℕ, length, vec_len, take, ap, arith}
use Rattle.module_graph.specs.Uses.{used_lists}
use Rattle.module_graph.proofs.Walking as walking
use Rattle.module_graph.proofs.search.search_on.Goals as goal

pub returns-then-marks-from-clause-found : goal.returns-then-marks-from-clause-found
returns-then-marks-from-clause-found c =
    let size : vec_len c.walk_on.new.path ≡ length c.walk_on.new.path.items = omega arith in
    λ _. walking.at_source (used_lists c.args.uses.now) c.args.from c.args.marks.now c.args.path.now.items c.requires.search c.requires.begun c.walk_on.new.marks c.walk_on.new.path.items c.in_ok-_left._left
    c.in_ok-_left.ensures.step c.if-marks-from.true c.pop-from.new.self.items (c.pop-from.ensures.rest ∙ ap (λ (n : ℕ). take (n - 1) c.walk_on.new.path.items) size)

pub returns-clause-search : goal.returns-clause-search
returns-clause-search c =
    λ _. walking.under_way (used_lists c.args.uses.now) c.args.from c.args.marks.now c.args.path.now.items c.requires.search c.requires.begun c.walk_on.new.marks c.walk_on.new.path.items c.in_ok-_left._left
    c.in_ok-_left.ensures.step c.if-marks-from.false
