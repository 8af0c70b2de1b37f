-- The units around a statement that a unit holds.
use Rattle.std.proofs.Common.{◌≡◌, ◌≤◌, ◌++◌, ◌&&◌, Bool, true, false, ℕ, nat_le, List, [], ◌∷◌, map, if◌then◌else◌, refl, sym, ◌∙◌, ap, append_assoc, true≢false}
use Rattle.std.proofs.lemmas.Bool.{le-leb}
use Rattle.std.specs.List.{flat_map}
use Rattle.std.proofs.lemmas.List.Folds.{flat_map-map}
use Rattle.ftn_tree.specs.declared.unit.Unit.{Unit as UnitTree, out-Unit}
use Rattle.ftn_tree.specs.declared.unit.Unit.TheOpen.{Unit-F}
use Rattle.ftn_tree.specs.declared.unit.Unit.TheViews.{roll-Unit, roll-out-Unit}
use Rattle.ftn_tree.specs.declared.unit.Unit.TheFolds.{fold-roll-Unit}
use Rattle.ftn_tree.specs.Around.{around_step, around, units_around}

of_all : (k : ℕ) (units : List UnitTree) → flat_map (λ (inner : List ℕ). inner) (map (around k) units) ≡ units_around units k
of_all k units = flat_map-map (λ (inner : List ℕ). inner) (around k) units

chosen : (a b : Bool) (one other : List ℕ) → a ≡ true → b ≡ true → (if a && b then one else other) ≡ one
chosen true true one other low high = refl
chosen true false one other low high = absurd (true≢false (sym high))
chosen false b one other low high = absurd (true≢false (sym low))

-- a unit's own opening comes after those of the units inside
pub around_unit : (k : ℕ) (layer : Unit-F UnitTree) → nat_le layer.opening k ≡ true → nat_le k layer.ending ≡ true
    → around k (roll-Unit layer) ≡ units_around layer.inner k ++ layer.opening ∷ []
around_unit k layer low high =
    fold-roll-Unit (List ℕ) (around_step k) layer
    ∙ chosen (nat_le layer.opening k) (nat_le k layer.ending) (flat_map (λ (inner : List ℕ). inner) (map (around k) layer.inner) ++ layer.opening ∷ []) [] low high
    ∙ ap (λ (l : List ℕ). l ++ layer.opening ∷ []) (of_all k layer.inner)

pub pushed : (k : ℕ) (here : UnitTree) (old one all : List ℕ) → (out-Unit here).opening ≤ k → k ≤ (out-Unit here).ending
    → one ≡ old ++ units_around (out-Unit here).inner k → all ≡ one ++ (out-Unit here).opening ∷ [] → all ≡ old ++ around k here
pushed k here old one all low high first last =
    let layer = out-Unit here in
    last ∙ ap (λ (l : List ℕ). l ++ layer.opening ∷ []) first ∙ append_assoc old (units_around layer.inner k) (layer.opening ∷ [])
    ∙ ap (λ (l : List ℕ). old ++ l) (sym (ap (around k) (sym (roll-out-Unit here)) ∙ around_unit k layer (le-leb layer.opening k low) (le-leb k layer.ending high)))
