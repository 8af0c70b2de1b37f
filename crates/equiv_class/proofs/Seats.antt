-- Where objects stand after one sequence was moved into another.
use Rattle.std.proofs.Common.{◌≡◌, ◌≢◌, ℕ, ◌+◌, ◌<◌, length, get_or, Contains, ◌⊎◌, inl, inr, sym, ◌∙◌, subst}
use Rattle.std.proofs.lemmas.Bool.{cases_eq}
use Rattle.ftn_base.specs.declared.entity.Tie.{Tie}
use Rattle.equiv_class.specs.steps.Lists.{IsListed, Lists, members_of}
use Rattle.equiv_class.specs.steps.Joins.{IsAbsorbed, label_a, label_b, unit_a, unit_b}

-- the object was moved, with its sequence
pub record WasMoved (s : Lists) (tie : Tie) (new : Lists) (v : ℕ) : Type 0 where
  pub before : get_or s.label v 0 ≡ label_b s tie
  pub after : get_or new.label v 0 ≡ label_a s tie
  pub place : get_or new.place v 0 + unit_b s tie ≡ get_or s.place v 0 + unit_a s tie

-- the object stayed where it was
pub record HasStayed (s : Lists) (tie : Tie) (new : Lists) (v : ℕ) : Type 0 where
  pub before : get_or s.label v 0 ≢ label_b s tie
  pub after : get_or new.label v 0 ≡ get_or s.label v 0
  pub place : get_or new.place v 0 ≡ get_or s.place v 0

module _ (s new : Lists) (tie : Tie) (listed : IsListed s) (is : IsAbsorbed s tie new) where
  pub moved : (v : ℕ) → v < length s.label → get_or s.label v 0 ≡ label_b s tie → WasMoved s tie new v
  moved v lt e =
      let among : Contains (members_of s.members (label_b s tie)) v = subst (λ (l : ℕ). Contains (members_of s.members l) v) e (listed.among v lt) in
      record { before = e; after = is.moved.label_there v among; place = is.moved.place_there v among }

  pub stayed : (v : ℕ) → get_or s.label v 0 ≢ label_b s tie → HasStayed s tie new v
  stayed v ne =
      let apart : Contains (members_of s.members (label_b s tie)) v → ⊥ = λ among. ne (listed.listed (label_b s tie) v among).1 in
      record { before = ne; after = is.moved.label_elsewhere v apart; place = is.moved.place_elsewhere v apart }

  pub seat : (v : ℕ) → v < length s.label → WasMoved s tie new v ⊎ HasStayed s tie new v
  seat v lt = elim (cases_eq (get_or s.label v 0) (label_b s tie)) [
    | inl e ↦ inl (moved v lt e)
    | inr ne ↦ inr (stayed v ne)
  ]

  -- the objects of the sequence that the other was moved into
  pub stayed_a : (v : ℕ) → get_or s.label v 0 ≡ label_a s tie → HasStayed s tie new v
  stayed_a v e = stayed v (λ same. is.apart (sym same ∙ e))
