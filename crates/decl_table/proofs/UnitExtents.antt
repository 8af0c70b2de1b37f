-- The extents of a unit.
use Rattle.std.proofs.Common.{◌≡◌, ℕ, ◌++◌, List, [], ◌∷◌, ap, sym, ◌∙◌, append_assoc}
use Rattle.std.specs.List.{flat_map}
use Rattle.std.proofs.lemmas.List.Folds.{flat_map-map}
use Rattle.ftn_tree.specs.declared.table.Extent.{Extent}
use Rattle.ftn_tree.specs.declared.unit.Unit.{Unit as UnitTree, out-Unit}
use Rattle.ftn_tree.specs.declared.unit.Unit.TheFolds.{fold_out-Unit}
use Rattle.ftn_tree.specs.Extents.{extent_step, extents_in}
use Rattle.ftn_tree.proofs.Surrounding.{own}

pub unit_extents : (file : ℕ) (u : UnitTree) →
    extents_in file u ≡ own file (out-Unit u).opening (out-Unit u).ending ∷ flat_map (extents_in file) (out-Unit u).inner
unit_extents file u =
    fold_out-Unit (List Extent) (extent_step file) u
    ∙ ap (λ more. own file (out-Unit u).opening (out-Unit u).ending ∷ more) (flat_map-map (λ (inner : List Extent). inner) (extents_in file) (out-Unit u).inner)

pub pushed : (file : ℕ) (u : UnitTree) (old one all : List Extent) (inner : List UnitTree) →
    one ≡ old ++ own file (out-Unit u).opening (out-Unit u).ending ∷ [] → inner ≡ (out-Unit u).inner → all ≡ one ++ flat_map (extents_in file) inner →
    all ≡ old ++ extents_in file u
pushed file u old one all inner first within last =
    last ∙ ap (λ made. made ++ flat_map (extents_in file) inner) first
    ∙ append_assoc old (own file (out-Unit u).opening (out-Unit u).ending ∷ []) (flat_map (extents_in file) inner)
    ∙ ap (λ (units : List UnitTree). old ++ own file (out-Unit u).opening (out-Unit u).ending ∷ flat_map (extents_in file) units) within
    ∙ ap (λ made. old ++ made) (sym (unit_extents file u))
