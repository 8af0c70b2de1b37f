-- The list of a member, and its position in the list.
use Rattle.std.proofs.Common.{suc, ◌≡◌, ℕ, ◌+◌, ◌<◌, List, [], ◌∷◌, ◌++◌, Some, map, take, length, get_or, refl, sym, ◌∙◌, ap}
use Rattle.std.proofs.lemmas.Grind.{flat_map-append}
use Rattle.std.proofs.lemmas.List.{length-append, take_more, append-nil}
use Rattle.std.proofs.lemmas.List.Concat.{flat_map-cons}
use Rattle.std.proofs.lemmas.Option.{slice_get-get_or}
use Rattle.ftn_base.specs.declared.storage.BlockList.{BlockList}
use Rattle.ftn_base.specs.declared.storage.Member.{Member}
use Rattle.ftn_base.specs.StorageMembers.{members_of, all_members}
use Rattle.ftn_base.specs.StorageFaults.{IsPlace}

members_counted : (block scope : ℕ) (objects : List ℕ) → length (map {B = Member} (λ object. record { block = block; scope = scope; object = object }) objects) ≡ length objects
members_counted block scope [] = refl
members_counted block scope (object ∷ rest) = ap suc (members_counted block scope rest)

-- one list more
pub counted_more : (blocks : List BlockList) (k : ℕ) (d : BlockList) → k < length blocks → length (all_members (take (k + 1) blocks)) ≡ length (all_members (take k blocks)) + length (get_or blocks k d).members.items
counted_more blocks k d lt =
    ap (λ (lists : List BlockList). length (all_members lists)) (take_more blocks k d lt)
    ∙ ap length (flat_map-append members_of (take k blocks) (get_or blocks k d ∷ []) ∙ ap (λ (ms : List Member). all_members (take k blocks) ++ ms) (flat_map-cons members_of (get_or blocks k d) [] ∙ append-nil (members_of (get_or blocks k d))))
    ∙ length-append (all_members (take k blocks)) (members_of (get_or blocks k d))
    ∙ ap (λ (n : ℕ). length (all_members (take k blocks)) + n) (members_counted (get_or blocks k d).block (get_or blocks k d).scope (get_or blocks k d).members.items)

pub is_place : (blocks : List BlockList) (number k left : ℕ) (list : BlockList) → k < length blocks → list ≡ get_or blocks k list → length (all_members (take k blocks)) + left ≡ number → left < length list.members.items → IsPlace blocks number k left
is_place blocks number k left list lt is place inside = record {
  found = list;
  there = slice_get-get_or blocks k list lt ∙ ap Some (sym is);
  inside = inside;
  place = sym place;
}
