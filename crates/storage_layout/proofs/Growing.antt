-- Faults stay where there are more ties or more members.
use Rattle.std.proofs.Common.{◌≡◌, ℕ, ◌+◌, ◌<◌, ◌≤◌, ℤ, min, List, [], ◌∷◌, ◌++◌, Contains, filter, nat_eq, take, drop, length, sym, ◌∙◌, subst, ap, arith}
use Rattle.std.proofs.lemmas.List.{append-nil, append_assoc, length-take, get_or-take, take-append-drop, take-take}
use Rattle.std.proofs.lemmas.List.Elements.{Contains-append_left, Contains-append_right, Contains-append_cases}
use Rattle.ftn_base.specs.declared.entity.Tie.{Tie}
use Rattle.ftn_base.specs.Storage.{Thing, Link, object, block, member_link, tie_links, Leads, IsContradicted}
use Rattle.ftn_base.proofs.WalkLaws.{leads_more}
use Rattle.ftn_base.specs.declared.storage.Object.{Object}
use Rattle.ftn_base.specs.declared.storage.Member.{Member}
use Rattle.ftn_base.specs.StorageMembers.{start_after, links_after, list_links, links}
use Rattle.ftn_base.specs.StorageFaults.{IsFirst, IsExtended, AreBlocksJoined, AreMixed}
use Rattle.storage_layout.proofs.Potential.{either}
use Rattle.storage_layout.proofs.Carried.{tie_from, tie_there}

abbrev pub AreAmong : {X : Type 0} → List X → List X → Type 0
AreAmong {X} some all = (x : X) → Contains some x → Contains all x

pub links_among : (some all : List Tie) → AreAmong some all → (link : Link) → Contains (tie_links some) link → Contains (tie_links all) link
links_among some all among link there = let tie = tie_from some link there in subst (Contains (tie_links all)) tie.2 (tie_there all tie.0 (among tie.0 tie.1))

fewer_among : {X : Type 0} (m n : ℕ) (xs : List X) → m ≤ n → AreAmong (take m xs) (take n xs)
fewer_among {X} m n xs le x (k, lt, e) =
    let short : length (take m xs) ≡ min m (length xs) = length-take m xs in
    let long : length (take n xs) ≡ min n (length xs) = length-take n xs in
    (k, (omega (arith, le, lt, short, long)), get_or-take n xs k x (omega (arith, le, lt, short)) ∙ sym (get_or-take m xs k x (omega (arith, lt, short))) ∙ e)

-- ---- more ties

all_links_among : (sizes : List ℕ) (members : List Member) (some more : List Tie) → AreAmong some more → AreAmong (links sizes members some) (links sizes members more)
all_links_among sizes members some more among link there =
    either (λ left. Contains-append_left (list_links sizes members) (tie_links more) link left)
    (λ right. Contains-append_right (list_links sizes members) (tie_links more) link (links_among some more among link right))
    (Contains-append_cases (list_links sizes members) (tie_links some) link there)

leads_among : (some more : List Link) (first last : Thing) (by : ℤ) → AreAmong some more → Leads some first last by → Leads more first last by
leads_among some more first last by among = leads_more some more first last by among

module _ (sizes : List ℕ) (members : List Member) (ties : List Tie) (m n : ℕ) (le : m ≤ n) where
  among : AreAmong (links sizes members (take m ties)) (links sizes members (take n ties))
  among = all_links_among sizes members (take m ties) (take n ties) (fewer_among m n ties le)

  pub contradicted_more : IsContradicted (links sizes members (take m ties)) → IsContradicted (links sizes members (take n ties))
  contradicted_more it = record { thing = it.thing; by = it.by; apart = it.apart; back = leads_among (links sizes members (take m ties)) (links sizes members (take n ties)) it.thing it.thing it.by among it.back }

  pub joined_more : AreBlocksJoined sizes members (take m ties) → AreBlocksJoined sizes members (take n ties)
  joined_more it = record {
    one = it.one;
    other = it.other;
    apart = it.apart;
    walk = (it.walk.0, leads_among (links sizes members (take m ties)) (links sizes members (take n ties)) (block it.one) (block it.other) it.walk.0 among it.walk.1);
  }

  pub extended_more : IsExtended sizes members (take m ties) → IsExtended sizes members (take n ties)
  extended_more it = record {
    number = it.number;
    reached = it.reached;
    by = it.by;
    before = it.before;
    walk = leads_among (links sizes (filter (λ member. nat_eq member.block it.number) members) (take m ties)) (links sizes (filter (λ member. nat_eq member.block it.number) members) (take n ties)) (block it.number) (object it.reached) it.by
        (all_links_among sizes (filter (λ member. nat_eq member.block it.number) members) (take m ties) (take n ties) (fewer_among m n ties le)) it.walk;
  }

  pub mixed_more : (objects : List Object) (those : List Link) → AreMixed objects those (links sizes members (take m ties)) → AreMixed objects those (links sizes members (take n ties))
  mixed_more objects those it = record {
    v = it.v;
    i = it.i;
    w = it.w;
    j = it.j;
    pair = it.pair;
    before = it.before;
    now = leads_among (links sizes members (take m ties)) (links sizes members (take n ties)) (object it.v) (object it.w) _ among it.now;
  }

-- ---- more members

links_on : (sizes : List ℕ) (before members rest : List Member) → links_after sizes before (members ++ rest) ≡ links_after sizes before members ++ links_after sizes (before ++ members) rest
links_on sizes before [] rest = ap (λ (ms : List Member). links_after sizes ms rest) (sym (append-nil before))
links_on sizes before (member ∷ members) rest =
    ap (λ (ls : List Link). member_link member.block member.object (start_after sizes before member) ∷ ls)
    (links_on sizes (before ++ member ∷ []) members rest ∙ ap (λ (ms : List Member). links_after sizes (before ++ member ∷ []) members ++ links_after sizes ms rest) (append_assoc before (member ∷ []) members))

list_links_among : (sizes : List ℕ) (members : List Member) (m n : ℕ) → m ≤ n → AreAmong (list_links sizes (take m members)) (list_links sizes (take n members))
list_links_among sizes members m n le link there =
    let parts : take m members ++ drop m (take n members) ≡ take n members = ap (λ (ms : List Member). ms ++ drop m (take n members)) (sym (take-take m n members le)) ∙ take-append-drop m (take n members) in
    subst (λ (ms : List Member). Contains (list_links sizes ms) link) parts
    (subst (λ (ls : List Link). Contains ls link) (sym (links_on sizes [] (take m members) (drop m (take n members))))
    (Contains-append_left (list_links sizes (take m members)) (links_after sizes (take m members) (drop m (take n members))) link there))

pub mixed_members_more : (objects : List Object) (those : List Link) (sizes : List ℕ) (members : List Member) (m n : ℕ) → m ≤ n
    → AreMixed objects those (list_links sizes (take m members)) → AreMixed objects those (list_links sizes (take n members))
mixed_members_more objects those sizes members m n le it = record {
  v = it.v;
  i = it.i;
  w = it.w;
  j = it.j;
  pair = it.pair;
  before = it.before;
  now = leads_among (list_links sizes (take m members)) (list_links sizes (take n members)) (object it.v) (object it.w) _ (list_links_among sizes members m n le) it.now;
}

-- ---- the first

pub is_first : {X : Type 0} (Holds : List X → Type 0) (entries : List X) (number : ℕ) → ((m n : ℕ) → m ≤ n → Holds (take m entries) → Holds (take n entries))
    → number < length entries → Holds (take (number + 1) entries) → (Holds (take number entries) → ⊥) → IsFirst Holds entries number
is_first Holds entries number more there here none = record { there = there; here = here; before = λ fewer le held. none (more fewer number le held) }
