-- One sequence is moved into another: what the steps need, and what they make of the lists.
use Rattle.std.proofs.Common.{◌≡◌, ℕ, ◌+◌, ◌-◌, ◌<◌, ◌≤◌, ◌^◌, max, List, [], ◌++◌, length, get_or, take, drop, set, Vec, All, refl, sym, ◌∙◌, subst, arith}
use Rattle.std.proofs.lemmas.List.Elements.{Contains-get_or}
use Rattle.ftn_base.specs.declared.entity.Tie.{Tie}
use Rattle.equiv_class.specs.declared.sequences.TheConstants.{MIDDLE}
use Rattle.equiv_class.specs.steps.Lists.{IsMoved, IsReady, Lists, member_lists, members_of}
use Rattle.equiv_class.specs.steps.Joins.{label_a, label_b, unit_a, unit_b}
use Rattle.equiv_class.proofs.Relabels.{written_back}

module _ (s : Lists) (tie : Tie) (ready : IsReady s tie) where
  abbrev moved : List ℕ
  moved = members_of s.members (label_b s tie)

  member : (k d : ℕ) → k < length moved → (get_or moved k d < length s.label) × (get_or s.label (get_or moved k d) 0 ≡ label_b s tie)
  member k d lt = ready.listed.listed (label_b s tie) (get_or moved k d) (Contains-get_or moved k d lt)

  low_at : (k d : ℕ) → k < length moved → unit_b s tie ≤ get_or s.place (get_or moved k d) 0 + unit_a s tie
  low_at k d lt =
      let m = member k d lt in
      let here : MIDDLE ≤ get_or s.place (get_or moved k d) 0 + get_or s.below (label_b s tie) 0 = subst (λ (l : ℕ). MIDDLE ≤ get_or s.place (get_or moved k d) 0 + get_or s.below l 0) m.1 (ready.low (get_or moved k d) m.0) in
      let there : MIDDLE ≤ get_or s.place tie.a 0 + get_or s.below (label_a s tie) 0 = ready.low tie.a ready.a in
      let most : unit_b s tie ≤ MIDDLE + get_or s.above (label_b s tie) 0 = ready.unit_b in
      let small_a = ready.small (label_a s tie) in
      let small_b = ready.small (label_b s tie) in
      omega arith

  high_at : (k d : ℕ) → k < length moved → get_or s.place (get_or moved k d) 0 + unit_a s tie < 2 ^ 64
  high_at k d lt =
      let m = member k d lt in
      let here : get_or s.place (get_or moved k d) 0 ≤ MIDDLE + get_or s.above (label_b s tie) 0 = subst (λ (l : ℕ). get_or s.place (get_or moved k d) 0 ≤ MIDDLE + get_or s.above l 0) m.1 (ready.high (get_or moved k d) m.0) in
      let most : unit_a s tie ≤ MIDDLE + get_or s.above (label_a s tie) 0 = ready.unit_a in
      let small_a = ready.small (label_a s tie) in
      let small_b = ready.small (label_b s tie) in
      omega arith

  pub moved_known : (list label : List ℕ) → list ≡ moved → label ≡ s.label → All (λ object. object < length label) list
  moved_known list label e l = rw (e, l) (λ k d lt. (member k d lt).0)

  pub moved_low : (list place : List ℕ) (up down : ℕ) → list ≡ moved → place ≡ s.place → up ≡ unit_a s tie → down ≡ unit_b s tie → All (λ object. down ≤ get_or place object 0 + up) list
  moved_low list place up down e p u d = rw (e, p, u, d) low_at

  pub moved_high : (list place : List ℕ) (up : ℕ) → list ≡ moved → place ≡ s.place → up ≡ unit_a s tie → All (λ object. get_or place object 0 + up < 2 ^ 64) list
  moved_high list place up e p u = rw (e, p, u) high_at

-- ---- what was lent as slices is written back

pub moved_whole : (label place moved : List ℕ) (to up down : ℕ) (label_lent place_lent moved_lent : List ℕ) (to_read up_read down_read : ℕ) (new_label new_place : List ℕ) (labels places : ℕ)
    → label_lent ≡ label → place_lent ≡ place → moved_lent ≡ moved → to_read ≡ to → up_read ≡ up → down_read ≡ down → length new_label ≡ labels → length new_place ≡ places
    → IsMoved label_lent place_lent moved_lent to_read up_read down_read new_label new_place
    → IsMoved label place moved to up down (take labels (new_label ++ drop (length new_label) label)) (take places (new_place ++ drop (length new_place) place))
moved_whole label place moved to up down label_lent place_lent moved_lent to_read up_read down_read new_label new_place labels places l p m t u d size_l size_p is =
    rw (written_back new_label label labels size_l, written_back new_place place places size_p, sym l, sym p, sym m, sym t, sym u, sym d) is

pub lists_whole : {A : Type 0} (old lent new : List (Vec ℕ A)) (source target source_read target_read size : ℕ) → lent ≡ old → source_read ≡ source → target_read ≡ target → length new ≡ size
    → member_lists new ≡ set (set (member_lists lent) source_read []) target_read (members_of (member_lists lent) target_read ++ members_of (member_lists lent) source_read)
    → member_lists (take size (new ++ drop (length new) old)) ≡ set (set (member_lists old) source []) target (members_of (member_lists old) target ++ members_of (member_lists old) source)
lists_whole old lent new source target source_read target_read size l s t same e =
    rw (written_back new old size same, sym l, sym s, sym t) e

pub reach_whole : (old lent new : List ℕ) (source target more less source_read target_read more_read less_read size : ℕ) → lent ≡ old → source_read ≡ source → target_read ≡ target → more_read ≡ more → less_read ≡ less → length new ≡ size
    → new ≡ set (set lent target_read (max (get_or lent target_read 0) (get_or lent source_read 0 + more_read - less_read))) source_read 0
    → take size (new ++ drop (length new) old) ≡ set (set old target (max (get_or old target 0) (get_or old source 0 + more - less))) source 0
reach_whole old lent new source target more less source_read target_read more_read less_read size l s t m n same e =
    written_back new old size same ∙ e ∙ (rw (l, s, t, m, n) refl)
