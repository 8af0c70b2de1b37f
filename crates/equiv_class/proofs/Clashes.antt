-- A tie whose units are two units of one sequence is the first one that contradicts those before it.
use Rattle.std.proofs.Common.{◌≡◌, ◌≢◌, ℕ, ◌+◌, ◌-◌, ◌<◌, ◌≤◌, ℤ, pos, neg_ℤ, ◌+ℤ◌, ◌-ℤ◌, ◌≤ℤ◌, List, length, get_or, take, All, sym, subst, arith}
use Rattle.std.proofs.lemmas.Int.{ints}
use Rattle.std.proofs.lemmas.List.{take_more}
use Rattle.std.proofs.lemmas.List.Elements.{All-take}
use Rattle.std.proofs.lemmas.Option.{slice_get-get_or}
use Rattle.ftn_base.specs.declared.entity.Tie.{Tie}
use Rattle.ftn_base.specs.Storage.{Thing, object, block, IsContradicted, IsOffset, Leads, tie_link, tie_links}
use Rattle.ftn_base.proofs.WalkLaws.{leads_backward, leads_by, leads_more, leads_on}
use Rattle.ftn_base.specs.Storage.{IsWithin}
use Rattle.equiv_class.specs.declared.sequences.TheConstants.{MIDDLE}
use Rattle.equiv_class.specs.Conflicts.{IsConflict, IsPlaceOf}
use Rattle.equiv_class.specs.steps.Lists.{Lists}
use Rattle.equiv_class.specs.steps.Joins.{IsClash}
use Rattle.equiv_class.specs.steps.Joining.{IsJoined}
use Rattle.equiv_class.proofs.MergedTies.{link_here, links_more, more_ties}
use Rattle.equiv_class.proofs.Reached.{IsAt, consistent, reached}

-- where an object begins in its sequence
module _ (sizes : List ℕ) (ties : List Tie) (s : Lists) (within : All (IsWithin sizes) ties) (joined : IsJoined sizes ties s) (v : ℕ) (lt : v < length s.label) where
  abbrev begin : ℕ
  begin = get_or s.place v 0 + get_or s.below (get_or s.label v 0) 0 - MIDDLE

  abbrev AtLeast : Thing → ℤ → Type 0
  AtLeast thing by = pos 0 ≤ℤ (pos begin +ℤ by)

  none_before : (other : Thing) (by : ℤ) → IsAt sizes ties s joined.spanned.counted within joined.tied.met v other by → AtLeast other by
  none_before (object w) by at =
      let low_v : MIDDLE ≤ get_or s.place v 0 + get_or s.below (get_or s.label v 0) 0 = joined.spanned.low v lt in
      let low_w : MIDDLE ≤ get_or s.place w 0 + get_or s.below (get_or s.label v 0) 0 = subst (λ (l : ℕ). MIDDLE ≤ get_or s.place w 0 + get_or s.below l 0) at.1 (joined.spanned.low w at.0) in
      let place : pos (get_or s.place w 0) ≡ pos (get_or s.place v 0) +ℤ by = at.2 in
      omega (arith, ints)
  none_before (block b) by at = absurd at

  pub is_offset : IsOffset (tie_links ties) (object v) begin
  is_offset =
      let low : MIDDLE ≤ get_or s.place v 0 + get_or s.below (get_or s.label v 0) 0 = joined.spanned.low v lt in
      let one = joined.spanned.least v lt in
      let first : get_or s.place one.0 0 + get_or s.below (get_or s.label v 0) 0 ≡ MIDDLE = one.3 in
      record {
        none_before = λ other by leads. none_before other by (reached sizes ties s joined.spanned.counted within joined.tied.met v lt other by leads);
        first = (
          object one.0,
          leads_by (tie_links ties) (object v) (object one.0) (pos (get_or s.place one.0 0) -ℤ pos (get_or s.place v 0)) (neg_ℤ (pos begin))
              (joined.tied.led v one.0 lt one.1 (sym one.2)) (omega (arith, ints)),
        );
      }

  pub is_place : (unit offset : ℕ) → offset + MIDDLE ≡ get_or s.place v 0 + unit + get_or s.below (get_or s.label v 0) 0 → IsPlaceOf (tie_links ties) (object v) unit offset
  is_place unit offset e =
      let low : MIDDLE ≤ get_or s.place v 0 + get_or s.below (get_or s.label v 0) 0 = joined.spanned.low v lt in
      record { begin = begin; thing_begins = is_offset; place = omega arith }

module _ (sizes : List ℕ) (ties : List Tie) (s : Lists) (number : ℕ) (default : Tie) (lt : number < length ties) (within : All (IsWithin sizes) ties)
    (joined : IsJoined sizes (take number ties) s) where
  abbrev before : List Tie
  before = take number ties

  abbrev tie : Tie
  tie = get_or ties number default

  within_before : All (IsWithin sizes) before
  within_before = All-take (IsWithin sizes) number ties within

  a_known : tie.a < length s.label
  a_known = let a : tie.a < length sizes = (within number default lt).a in let size = joined.spanned.counted in omega arith

  b_known : tie.b < length s.label
  b_known = let b : tie.b < length sizes = (within number default lt).b in let size = joined.spanned.counted in omega arith

  more : take (number + 1) ties ≡ more_ties before tie
  more = take_more ties number default lt

  module _ (one other : ℕ) (clash : IsClash s tie one other) where
    led : Leads (tie_links before) (object tie.a) (object tie.b) (pos (get_or s.place tie.b 0) -ℤ pos (get_or s.place tie.a 0))
    led = joined.tied.led tie.a tie.b a_known b_known clash.label

    abbrev round : ℤ
    round = (pos (get_or s.place tie.b 0) -ℤ pos (get_or s.place tie.a 0)) +ℤ neg_ℤ (pos tie.at_a -ℤ pos tie.at_b)

    back : Leads (tie_links (more_ties before tie)) (object tie.a) (object tie.a) round
    back = leads_on (tie_links (more_ties before tie)) (object tie.a) (object tie.b) (object tie.a) (pos (get_or s.place tie.b 0) -ℤ pos (get_or s.place tie.a 0)) (neg_ℤ (pos tie.at_a -ℤ pos tie.at_b))
        (leads_more (tie_links before) (tie_links (more_ties before tie)) (object tie.a) (object tie.b) (pos (get_or s.place tie.b 0) -ℤ pos (get_or s.place tie.a 0)) (links_more before tie) led)
        (leads_backward (tie_links (more_ties before tie)) (tie_link tie) (link_here before tie))

    not_round : round ≢ pos 0
    not_round e =
        let place_a : one + MIDDLE ≡ get_or s.place tie.a 0 + tie.at_a + get_or s.below (get_or s.label tie.a 0) 0 = clash.offset_a in
        let place_b : other + MIDDLE ≡ get_or s.place tie.b 0 + tie.at_b + get_or s.below (get_or s.label tie.a 0) 0 = clash.offset_b in
        let same : one ≡ other = omega (arith, ints) in
        clash.apart same

    contradicted : IsContradicted (tie_links (more_ties before tie))
    contradicted = record { thing = object tie.a; by = round; apart = not_round; back = back }

    pub conflict : IsConflict ties number one other
    conflict = record {
      tie = tie;
      entry = slice_get-get_or ties number default lt;
      before = consistent sizes before s joined.spanned.counted within_before joined.tied.met;
      here = subst (λ (l : List Tie). IsContradicted (tie_links l)) (sym more) contradicted;
      joined = (_, led);
      place_a = is_place sizes before s within_before joined tie.a a_known tie.at_a one clash.offset_a;
      place_b = is_place sizes before s within_before joined tie.b b_known tie.at_b other
          (subst (λ (l : ℕ). other + MIDDLE ≡ get_or s.place tie.b 0 + tie.at_b + get_or s.below l 0) clash.label clash.offset_b);
      apart = clash.apart;
    }
