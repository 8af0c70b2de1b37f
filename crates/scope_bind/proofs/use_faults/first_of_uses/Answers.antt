use Rattle.std.proofs.Common.{◌≡◌, ℕ, ◌-◌, ◌<◌, ◌≤◌, ◌++◌, [], ◌∙◌, length, refl, ap, arith}
use Rattle.std.specs.List.{flat_map, range_with_len}
use Rattle.ftn_tree.specs.DeclarationFaults.{first_finding}
use Rattle.ftn_tree.specs.Extents.{scoping}
use Rattle.ftn_tree.specs.NameFaults.{use_rank}
use Rattle.decl_table.proofs.Said.{flat_done, flat_next}
use Rattle.scope_bind.specs.steps.UseFaults.{outer_uses}
use Rattle.scope_bind.proofs.UseTurns.{units_told}
use Rattle.scope_bind.proofs.use_faults.first_of_uses.Goals as goal

less_none : (n : ℕ) → n ≡ n - 0
less_none n = omega arith

pub loop-at-init : goal.loop-at-init
loop-at-init c =
    let f = outer_uses c.args.known.now.files.now c.args.on_cycle c.args.marks.now in
    record { done = []; first = refl; whole = ap (λ (n : ℕ). flat_map f (range_with_len 0 n)) (less_none (length (scoping c.args.known.now.files.now))) }

pub loop-at-preserved : goal.loop-at-preserved
loop-at-preserved c =
    let at = c.loop-at.at in
    let files = c.args.known.now.files.now in
    let f = outer_uses files c.args.on_cycle c.args.marks.now in
    let so_far = c.loop-at.invariant in
    let long = ap length c.requires.known.scoping.units in
    let less : at < length (scoping files) = omega arith in
    record {
      done = so_far.done ++ f at;
      first = c.earlier-first.ensures.joined so_far.done (f at) so_far.first c.first_at-next.ensures;
      whole = flat_next f (flat_map f (range_with_len 0 (length (scoping files)))) so_far.done (so_far.done ++ f at) at (length (scoping files)) less so_far.whole refl;
    }

pub returns : goal.returns
returns c =
    let files = c.args.known.now.files.now in
    let f = outer_uses files c.args.on_cycle c.args.marks.now in
    let so_far = c.loop-at.invariant in
    let long = ap length c.requires.known.scoping.units in
    let past : length (scoping files) ≤ c.loop-at.at = omega arith in
    so_far.first ∙ ap (first_finding use_rank)
    (flat_done f (flat_map f (range_with_len 0 (length (scoping files)))) so_far.done c.loop-at.at (length (scoping files)) past so_far.whole
    ∙ units_told files c.args.on_cycle c.args.marks.now)
