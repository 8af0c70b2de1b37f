use Rattle.std.proofs.Common.{◌≡◌, ◌<◌, ◌∙◌, Bool, true, false, List, ℕ, length, get_or, set, drop, replicate, sym, ap, subst, arith}
use Rattle.std.proofs.lemmas.List.{take_at}
use Rattle.module_graph.specs.Uses.{used_lists}
use Rattle.module_graph.proofs.Listing.{lists_length}
use Rattle.module_graph.proofs.Marking.{in_front}
use Rattle.scope_bind.specs.steps.Cycles.{IsLeading}
use Rattle.scope_bind.proofs.Marks.{begun, marks_tell, nothing_left, taken_off, told_by, turned, users_known}
use Rattle.scope_bind.proofs.cycles.leading_to.Goals as goal

pub list_of-requires : goal.list_of-requires
list_of-requires c =
    let uses = used_lists c.args.uses.now in
    let users = used_lists c.in_ok-users.users.items in
    let rest = c.pop.new.self.items in
    let off = taken_off uses users c.args.target c.turns.marks.items c.turns.stack.items rest c.in-Some.used c.turns.invariant c.in-Some.ensures.items in
    let known : c.in-Some.used < length uses = off.known c.in-Some.used (in_front c.in-Some.used rest) in
    let sized : length users ≡ length uses = c.in_ok-users.ensures.sized in
    let size = lists_length c.in_ok-users.users.items in
    let same = c.deref.ensures.len in
    omega arith

pub mark_all-requires : goal.mark_all-requires
mark_all-requires c k d lt =
    let uses = used_lists c.args.uses.now in
    let list = c.list_of.result.now in
    let is = rw c.deref.ensures.value at c.list_of.ensures in
    let below : get_or list k d < length uses = users_known uses (used_lists c.in_ok-users.users.items) list c.in-Some.used c.in_ok-users.ensures is k d lt in
    let sized : length c.turns.marks.items ≡ length uses = c.turns.invariant.sized in
    let same = c.deref_mut.ensures.len in
    omega arith

pub turns-preserved : goal.turns-preserved
turns-preserved c =
    let uses = used_lists c.args.uses.now in
    let users = used_lists c.in_ok-users.users.items in
    let rest = c.pop.new.self.items in
    let old = c.turns.marks.items in
    let marks = c.mark_all.new.marks in
    let off = taken_off uses users c.args.target old c.turns.stack.items rest c.in-Some.used c.turns.invariant c.in-Some.ensures.items in
    let is = rw c.deref.ensures.value at c.list_of.ensures in
    let marked = rw c.deref_mut.ensures.value at c.in_ok-mark_all.ensures.marked in
    let sized : length marks ≡ length old = marked.sized in
    let count : length marks ≡ c.turns.marks.len = omega arith in
    rw (take_at marks (drop (length marks) old) c.turns.marks.len count)
    (turned uses users c.args.target c.in_ok-users.ensures old rest c.list_of.result.now c.in-Some.used marks c.mark_all.new.stack.items off is marked)

pub returns : goal.returns
returns c first lt =
    let uses = used_lists c.args.uses.now in
    let users = used_lists c.in_ok-users.users.items in
    let size = lists_length c.args.uses.now in
    let target : c.args.target < length uses = omega arith in
    let empty = nothing_left c.turns.stack.items (λ some. c.in_default.ensures.variant.1 (omega arith)) in
    let done = subst (λ (l : List ℕ). IsLeading uses users c.args.target c.turns.marks.items l) empty c.turns.invariant in
    let sized : length c.turns.marks.items ≡ length uses = c.turns.invariant.sized in
    let within : first < length c.turns.marks.items = omega arith in
    told_by c.turns.marks.items first _ within (marks_tell uses users c.args.target c.in_ok-users.ensures c.turns.marks.items done c.requires.known target first)

pub turns-init : goal.turns-init
turns-init c =
    let uses = used_lists c.args.uses.now in
    let users = used_lists c.in_ok-users.users.items in
    let size = lists_length c.args.uses.now in
    let target : c.args.target < length uses = omega arith in
    let bare : c.in_ok-marks.marks.items ≡ replicate (length uses) false =
    c.in_ok-marks.ensures.items_if_clones_equal (λ y e. e) ∙ ap (λ (n : ℕ). replicate n false) (sym size) in
    rw c.in_ok-stack.ensures.items
    (begun uses users c.args.target (set c.in_ok-marks.marks.items c.args.target true) c.in_ok-users.ensures.sized target (ap (λ (l : List Bool). set l c.args.target true) bare))
