use Rattle.std.proofs.Common.{zero, suc, ℕ, ◌<◌, arith}
use Rattle.storage_layout.specs.steps.Held.{Holds}
use Rattle.storage_layout.proofs.Beginning.{none_held}
use Rattle.storage_layout.proofs.first.first.Goals as goal

some_links : (P : ℕ → Type 0) (n : ℕ) → P n → (P 0 → ⊥) → 0 < n
some_links P zero there none = absurd (none there)
some_links P (suc n) there none = omega arith

pub loop-low-init : goal.loop-low-init
loop-low-init c =
    let all = c.in_ok-holds.ensures.0 c.if-not-branch.false in
    let none = none_held c.args.objects.now c.args.things.now c.args.kind c.requires.kept in
    record {
      below = some_links (Holds c.args.objects.now c.args.things.now c.args.kind) c.most-high.result all none;
      within = (let most = c.most-high.ensures in omega (arith, most));
      with_high = all;
      without = none;
    }
