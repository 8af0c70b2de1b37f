-- A row of recoveries completes a change.
use Rattle.std.proofs.Common.{◌≡◌, Bool, true, false, List, [], ◌∷◌, refl, sym, ap, ◌∙◌, subst, inl, inr, true≢false}
use Rattle.std.specs.Prelude.{◌⊎◌, ◌||◌}
use Rattle.std.specs.List.{list_any}
use Rattle.ftn_base.specs.Files.{File}
use Rattle.plan_store.specs.Middle.{HasNoPlan, IsAmid, IsChange, IsMiddle, with_files}
use Rattle.plan_store.specs.Recoveries.{IsRow, Leaves, Recovery, RecoveriesComplete}
use Rattle.plan_store.proofs.Amid.{new_planless}

-- without a plan nothing changes
stay : (files plan start end : List File) (row : List Recovery) → HasNoPlan start → IsRow files plan start row end → end ≡ start
stay files plan start end [] none is = is
stay files plan start end (recovery ∷ row) none is =
    let same : recovery.1 ≡ start = is.0.none none in
    stay files plan recovery.1 end row (subst HasNoPlan (sym same) none) is.1 ∙ same

module _ (files plan : List File) (change : IsChange files plan) where
  new_stay : (start end : List File) (row : List Recovery) → start ≡ with_files plan files → IsRow files plan start row end → end ≡ with_files plan files
  new_stay start end row new is = stay files plan start end row (subst HasNoPlan (sym new) (new_planless files plan change)) is ∙ new

  abbrev AmidOrNew : List File → Type 0
  AmidOrNew now = IsAmid files plan now ⊎ (now ≡ with_files plan files)

  one : (before : List File) (recovery : Recovery) → Leaves files plan before recovery → IsAmid files plan before → (b : Bool) → recovery.0 ≡ b → AmidOrNew recovery.1
  one before recovery leaves amid true is = inr (leaves.done amid is)
  one before recovery leaves amid false is = leaves.failed amid is

  row_ends : (start end : List File) (row : List Recovery) → AmidOrNew start → IsRow files plan start row end → AmidOrNew end
  row_ends start end [] from is = subst AmidOrNew (sym is) from
  row_ends start end (recovery ∷ row) (inl amid) is = row_ends recovery.1 end row (one start recovery is.0 amid recovery.0 refl) is.1
  row_ends start end (recovery ∷ row) (inr new) is = inr (new_stay start end (recovery ∷ row) new is)

  middle : (start end : List File) (row : List Recovery) → IsRow files plan start row end → IsMiddle files plan start → IsMiddle files plan end
  middle start end row is (inl old) = inl (stay files plan start end row (subst HasNoPlan (sym old) change.lacks) is ∙ old)
  middle start end row is (inr from) = inr (row_ends start end row from is)

  completes : (start end : List File) (row : List Recovery) → IsRow files plan start row end → IsAmid files plan start → list_any (λ (recovery : Recovery). recovery.0) row ≡ true → end ≡ with_files plan files
  completes start end [] is amid some = absurd (true≢false (sym some))
  completes start end (recovery ∷ row) is amid some = on recovery.0 refl (one start recovery is.0 amid recovery.0 refl) (completes recovery.1 end row is.1)
    where
      others : recovery.0 ≡ false → list_any (λ (other : Recovery). other.0) row ≡ true
      others not = ap (λ (b : Bool). b || list_any (λ (other : Recovery). other.0) row) (sym not) ∙ some

      on : (b : Bool) → recovery.0 ≡ b → AmidOrNew recovery.1 → (IsAmid files plan recovery.1 → list_any (λ (other : Recovery). other.0) row ≡ true → end ≡ with_files plan files) → end ≡ with_files plan files
      on true done after rest = new_stay recovery.1 end row (is.0.done amid done) is.1
      on false not (inl still) rest = rest still (others not)
      on false not (inr new) rest = new_stay recovery.1 end row new is.1

pub recoveries_complete : RecoveriesComplete
recoveries_complete files plan start end row change is = (middle files plan change start end row is, completes files plan change start end row is)
