-- A list tells another size of its block exactly where the classes of its members' ties do.
use Rattle.std.proofs.Common.{zero, suc, ◌≡◌, ℕ, ◌+◌, ◌<◌, ◌≤◌, pos, ◌+ℤ◌, ◌-ℤ◌, ◌≤ℤ◌, List, [], ◌∷◌, ◌++◌, ◌⊎◌, inl, inr, Option, None, Some, All, length, get_or, slice_get, sym, ◌∙◌, subst, ap, arith}
use Rattle.std.proofs.lemmas.Int.{ints}
use Rattle.std.proofs.lemmas.List.{length-append, length-map}
use Rattle.std.proofs.lemmas.List.Elements.{All-get_or}
use Rattle.std.proofs.lemmas.Option.{slice_get_within, slice_get-get_or, get_or_from_slice_get, same_Some}
use Rattle.ftn_base.specs.declared.entity.Tie.{Tie}
use Rattle.ftn_base.specs.Storage.{Link, object, block, tie_links, Leads, IsContradicted}
use Rattle.ftn_base.specs.declared.storage.Object.{Object}
use Rattle.ftn_base.specs.declared.storage.BlockList.{BlockList}
use Rattle.ftn_base.specs.declared.storage.Member.{Member}
use Rattle.ftn_base.specs.StorageMembers.{all_members, sizes_of, links}
use Rattle.ftn_base.specs.StorageGiven.{IsObjectOf, IsTieOf}
use Rattle.ftn_base.specs.StorageFaults.{AreBlocksJoined, links_in, IsEnd, IsOdd}
use Rattle.equiv_class.specs.Sound as classes
use Rattle.storage_layout.specs.steps.Numbered.{AreMemberTies}
use Rattle.storage_layout.specs.steps.Ends.{IsReady, IsUneven, FindsUneven, FindsOdd, OddTold}
use Rattle.storage_layout.proofs.Keeping.{ties_counted}
use Rattle.storage_layout.proofs.ScopeEnds.{tie_at, there_too, ends_there}

-- ---- a block has one end

end_within : (sizes : List ℕ) (some : List Link) (number one other : ℕ) → IsEnd sizes some number one → IsEnd sizes some number other → one ≤ other
end_within sizes some number one other is_one is_other = by_case is_one.reached
  where
    by_case : (one ≡ 0) ⊎ ((v : ℕ) × Leads some (block number) (object v) (pos one -ℤ pos (get_or sizes v 0))) → one ≤ other
    by_case (inl none) = omega (arith, none)
    by_case (inr last) =
        let le : ((pos one -ℤ pos (get_or sizes last.0 0)) +ℤ pos (get_or sizes last.0 0)) ≤ℤ pos other = is_other.within last.0 (pos one -ℤ pos (get_or sizes last.0 0)) last.1 in
        omega (arith, ints, le)

one_end : (sizes : List ℕ) (some : List Link) (number one other : ℕ) → IsEnd sizes some number one → IsEnd sizes some number other → one ≡ other
one_end sizes some number one other is_one is_other =
    let low = end_within sizes some number one other is_one is_other in
    let high = end_within sizes some number other one is_other is_one in
    omega (arith, low, high)

-- ---- what the numbers tell

module _ (objects : List Object) (blocks : List BlockList) (ties : List Tie) (end : ℕ → ℕ → ℕ)
    (ends : (number scope : ℕ) → IsEnd (sizes_of objects) (links_in objects (all_members blocks) ties scope) number (end number scope)) where
  odd_from : (number : ℕ) → IsUneven blocks end number → IsOdd objects blocks ties number
  odd_from number is = record {
    list = is.list;
    first = is.first;
    there = is.there;
    first_there = is.first_there;
    named = is.named;
    here = end is.list.block is.list.scope;
    first_here = end is.list.block is.first.scope;
    ends = ends is.list.block is.list.scope;
    first_ends = ends is.list.block is.first.scope;
    apart = is.apart;
  }

  uneven_from : (number : ℕ) → IsOdd objects blocks ties number → IsUneven blocks end number
  uneven_from number is = record {
    list = is.list;
    first = is.first;
    there = is.there;
    first_there = is.first_there;
    named = is.named;
    apart = λ same. is.apart (
        one_end (sizes_of objects) (links_in objects (all_members blocks) ties is.list.scope) is.list.block is.here (end is.list.block is.list.scope) is.ends (ends is.list.block is.list.scope)
        ∙ same
        ∙ one_end (sizes_of objects) (links_in objects (all_members blocks) ties is.first.scope) is.list.block (end is.list.block is.first.scope) is.first_here (ends is.list.block is.first.scope) is.first_ends);
  }

  told_by : (found : Option ℕ) → FindsUneven blocks end found → OddTold objects blocks ties found
  told_by None none = λ number is. none number (uneven_from number is)
  told_by (Some number) first = record { odd = odd_from number first.0; before = λ earlier less is. first.1 earlier less (uneven_from earlier is) }

-- ---- members have ties of which the classes tell

module _ (objects : List Object) (block_sizes : List ℕ) (members : List Member) (given : List Tie)
    (class offset size : List ℕ) (found : classes.IsSound (sizes_of objects ++ block_sizes) (tie_links given) class offset size)
    (homes : All (λ (member : Member). IsObjectOf objects member.scope member.object) members)
    (names : List ℕ) (kept member_ties : List Tie) (are : AreMemberTies (length (sizes_of objects)) names (sizes_of objects) [] members member_ties) (kept_is : kept ≡ member_ties ++ given) where
  whole : length kept ≡ length members + length given
  whole = ap length kept_is ∙ length-append member_ties given ∙ ap (λ (n : ℕ). n + length given) (ties_counted (length (sizes_of objects)) names (sizes_of objects) [] members member_ties are)

  object_there : (at : ℕ) (member : Member) → slice_get members at ≡ Some member → member.object < length (sizes_of objects ++ block_sizes)
  object_there at member there =
      let lt = slice_get_within members at member there in
      let home = subst (λ (m : Member). IsObjectOf objects m.scope m.object) (get_or_from_slice_get members at member member there) (All-get_or (λ (m : Member). IsObjectOf objects m.scope m.object) members at member lt homes) in
      let inside = there_too objects member.object member.scope home in
      let all = length-append (sizes_of objects) block_sizes in
      let same : length (sizes_of objects) ≡ length objects = length-map objects (λ (o : Object). o.units) in
      omega (arith, inside, all, same)

  tie_known : (at : ℕ) (tie : Tie) → at < length members → slice_get kept at ≡ Some tie
      → (tie.b < length class) × (tie.b < length offset) × (get_or class tie.b 0 < length size) × (get_or offset tie.b 0 ≤ get_or size (get_or class tie.b 0) 0)
  tie_known at tie lt here = by_member (get_or members at none) (slice_get-get_or members at none lt)
    where
      none : Member
      none = record { block = 0; scope = 0; object = 0 }

      in_front : (some : List Tie) (j : ℕ) (t : Tie) → slice_get some j ≡ Some t → slice_get (some ++ given) j ≡ Some t
      in_front [] j t there = absurd (cc there)
      in_front (first ∷ rest) zero t there = there
      in_front (first ∷ rest) (suc j) t there = in_front rest j t there

      by_object : (b : ℕ) → b < length (sizes_of objects ++ block_sizes) → (b < length class) × (b < length offset) × (get_or class b 0 < length size) × (get_or offset b 0 ≤ get_or size (get_or class b 0) 0)
      by_object b inside =
          let classed : length class ≡ length (sizes_of objects ++ block_sizes) = found.classes.all in
          let placed : length offset ≡ length (sizes_of objects ++ block_sizes) = found.offsets.all in
          let inner : get_or offset b 0 + get_or (sizes_of objects ++ block_sizes) b 0 ≤ get_or size (get_or class b 0) 0 = found.ends.within b inside in
          ((omega (arith, inside, classed)), (omega (arith, inside, placed)), found.ends.known b inside, (omega (arith, inner)))

      by_member : (member : Member) → slice_get members at ≡ Some member
          → (tie.b < length class) × (tie.b < length offset) × (get_or class tie.b 0 < length size) × (get_or offset tie.b 0 ≤ get_or size (get_or class tie.b 0) 0)
      by_member member there =
          let t = tie_at (length (sizes_of objects)) names (sizes_of objects) [] members member_ties are at member there in
          let one : t.tie ≡ tie = same_Some t.tie tie (sym (in_front member_ties at t.tie t.there) ∙ ap (λ (list : List Tie). slice_get list at) (sym kept_is) ∙ here) in
          let b : member.object ≡ tie.b = sym t.is.b ∙ ap (λ (x : Tie). x.b) one in
          by_object tie.b (subst (λ (n : ℕ). n < length (sizes_of objects ++ block_sizes)) b (object_there at member there))

  pub ready : IsReady members kept class offset size
  ready = record { tied = (let w = whole in omega (arith, w)); known = tie_known }

-- what is found of lists and members is what is told
module _ (objects : List Object) (block_sizes : List ℕ) (blocks : List BlockList) (ties : List Tie)
    (class offset size : List ℕ) (sound : classes.IsSound (sizes_of objects ++ block_sizes) (tie_links ties) class offset size)
    (homes : All (λ (member : Member). IsObjectOf objects member.scope member.object) (all_members blocks)) (tied : All (IsTieOf objects) ties)
    (agree : IsContradicted (links (sizes_of objects) (all_members blocks) ties) → ⊥) (apart : AreBlocksJoined (sizes_of objects) (all_members blocks) ties → ⊥)
    (names : List ℕ) (kept member_ties : List Tie) (are : AreMemberTies (length (sizes_of objects)) names (sizes_of objects) [] (all_members blocks) member_ties) (kept_is : kept ≡ member_ties ++ ties) where
  pub odd_told : (found : Option ℕ) → FindsOdd blocks (all_members blocks) kept class offset size found → OddTold objects blocks ties found
  odd_told found finds =
      told_by objects blocks ties finds.0
      (λ number scope. ends_there objects block_sizes (all_members blocks) ties class offset size sound homes tied agree apart names kept member_ties are kept_is scope number (finds.0 number scope) (finds.1 number scope))
      found finds.2
