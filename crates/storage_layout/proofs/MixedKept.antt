-- What classes of things by some of the kept ties tell of units of both sorts.
use Rattle.std.proofs.Common.{◌≡◌, ℕ, ◌+◌, ◌<◌, ◌≤◌, List, [], ◌++◌, Bool, Result, Ok, Err, Contains, All, take, length, get_or, sym, ◌∙◌, subst, ap, arith}
use Rattle.std.specs.Prelude.{IfOk, Decides}
use Rattle.std.proofs.lemmas.List.{get_or-map, take-append-le}
use Rattle.ftn_base.specs.declared.entity.Tie.{Tie}
use Rattle.ftn_base.specs.Storage.{tie_links, IsContradicted}
use Rattle.ftn_base.specs.Storage.{IsWithin}
use Rattle.ftn_base.specs.declared.storage.Object.{Object}
use Rattle.ftn_base.specs.declared.storage.Member.{Member}
use Rattle.ftn_base.specs.StorageMembers.{sizes_of, list_links, links}
use Rattle.ftn_base.specs.StorageFaults.{AreMixed}
use Rattle.equiv_class.specs.Sound as classes
use Rattle.storage_layout.specs.steps.Numbered.{AreThings}
use Rattle.storage_layout.specs.steps.Kept.{AreMembers}
use Rattle.storage_layout.specs.steps.Mixing.{AreMet}
use Rattle.storage_layout.proofs.Conflict.{take_past}
use Rattle.storage_layout.proofs.Keeping.{sizes_counted, take_front}
use Rattle.storage_layout.proofs.Parts.{take_among, agree_among, all_among, objects_known, members_known}
use Rattle.storage_layout.proofs.Mixed.{mixed_on, mixed_back, mixed_lists_on, mixed_lists_back}

-- what decides one of two facts decides the other
pub decided_too : (E : Type 0) (result : Result Bool E) (P Q : Type 0) → IfOk result (λ found. Decides found P) → (P → Q) × (Q → P) → IfOk result (λ found. Decides found Q)
decided_too E (Ok found) P Q told both = ((λ e. both.0 (told.0 e)), (λ q. told.1 (both.1 q)))
decided_too E (Err e) P Q told both = tt

-- each object takes units
pub units_filled : (objects : List Object) (sizes : List ℕ) (members : List Member) → sizes ≡ sizes_of objects → AreMembers sizes members → All (λ (object : Object). 1 ≤ object.units) objects
units_filled objects sizes members same are k d lt =
    let count : length sizes ≡ length objects = ap length same ∙ sizes_counted objects in
    let some : 1 ≤ get_or sizes k 0 = are.filled k (omega (arith, lt, count)) in
    subst (λ (n : ℕ). 1 ≤ n) (ap (λ (list : List ℕ). get_or list k 0) same ∙ get_or-map (λ (o : Object). o.units) objects k d 0 lt) some

abbrev pub Mixes : List Object → List ℕ → List Member → List Tie → List ℕ → List ℕ → List ℕ → Type 0
Mixes objects sizes members some class offset group =
    (AreMet objects class offset group → AreMixed objects (list_links sizes members) (links sizes members some))
    × (AreMixed objects (list_links sizes members) (links sizes members some) → AreMet objects class offset group)

abbrev pub MixesAlone : List Object → List ℕ → List Member → List ℕ → List ℕ → List ℕ → Type 0
MixesAlone objects sizes some class offset group =
    (AreMet objects class offset group → AreMixed objects [] (list_links sizes some)) × (AreMixed objects [] (list_links sizes some) → AreMet objects class offset group)

module _ (objects : List Object) (members : List Member) (given : List Tie) (kept_sizes names : List ℕ) (entries : ℕ) (kept : List Tie) (agree : IsContradicted (tie_links kept) → ⊥) (count : ℕ)
    (class offset size : List ℕ) where
  module _ (alone alone_offset alone_size : List ℕ)
      (found : classes.IsSound kept_sizes (tie_links (take (entries + count) kept)) class offset size) (by_lists : classes.IsSound kept_sizes (tie_links (take entries kept)) alone alone_offset alone_size) where
    mixes_so : AreThings (sizes_of objects) members given kept_sizes names entries kept → AreMembers (sizes_of objects) members → All (IsWithin (sizes_of objects)) given
        → Mixes objects (sizes_of objects) members (take count given) class offset alone
    mixes_so are members_are within = (
      mixed_on objects names are.block_sizes members (take count given) are.member_ties are.members_are known there class offset size sound some_agree alone alone_offset alone_size sound_alone,
      mixed_back objects names are.block_sizes members (take count given) are.member_ties are.members_are known there class offset size sound some_agree alone alone_offset alone_size sound_alone,
    )
      where
        first_part : take (entries + count) kept ≡ are.member_ties ++ take count given
        first_part = ap (λ (n : ℕ). take (n + count) kept) are.entries_are ∙ ap (take (length are.member_ties + count)) are.ties_are ∙ take_past are.member_ties given count

        member_part : take entries kept ≡ are.member_ties
        member_part = ap (λ (n : ℕ). take n kept) are.entries_are ∙ ap (take (length are.member_ties)) are.ties_are ∙ take_front are.member_ties given

        known : All (λ (tie : Tie). (tie.a < length (sizes_of objects)) × (tie.b < length (sizes_of objects))) (take count given)
        known = objects_known (sizes_of objects) (take count given) (all_among (IsWithin (sizes_of objects)) (take count given) given (take_among count given) within)

        there : (member : Member) → Contains members member → member.object < length (sizes_of objects)
        there = members_known (sizes_of objects) members members_are

        some_agree : IsContradicted (tie_links (are.member_ties ++ take count given)) → ⊥
        some_agree = subst (λ (ties : List Tie). IsContradicted (tie_links ties) → ⊥) first_part (agree_among (take (entries + count) kept) kept (take_among (entries + count) kept) agree)

        sound : classes.IsSound (sizes_of objects ++ are.block_sizes) (tie_links (are.member_ties ++ take count given)) class offset size
        sound = subst (λ (list : List ℕ). classes.IsSound list (tie_links (are.member_ties ++ take count given)) class offset size) are.sizes_are
            (subst (λ (ties : List Tie). classes.IsSound kept_sizes (tie_links ties) class offset size) first_part found)

        sound_alone : classes.IsSound (sizes_of objects ++ are.block_sizes) (tie_links are.member_ties) alone alone_offset alone_size
        sound_alone = subst (λ (list : List ℕ). classes.IsSound list (tie_links are.member_ties) alone alone_offset alone_size) are.sizes_are
            (subst (λ (ties : List Tie). classes.IsSound kept_sizes (tie_links ties) alone alone_offset alone_size) member_part by_lists)

    -- ties make units of both sorts one exactly where units meet
    pub mixes_too : (sizes : List ℕ) → sizes ≡ sizes_of objects → AreThings sizes members given kept_sizes names entries kept → AreMembers sizes members → All (IsWithin sizes) given
        → Mixes objects sizes members (take count given) class offset alone
    mixes_too sizes same =
        subst (λ (list : List ℕ). AreThings list members given kept_sizes names entries kept → AreMembers list members → All (IsWithin list) given → Mixes objects list members (take count given) class offset alone)
        (sym same) mixes_so

  module _ (group : List ℕ) (own : (v : ℕ) → v < length objects → get_or group v 0 ≡ v) (few : count ≤ entries) (found : classes.IsSound kept_sizes (tie_links (take count kept)) class offset size) where
    mixes_alone_so : AreThings (sizes_of objects) members given kept_sizes names entries kept → AreMembers (sizes_of objects) members → MixesAlone objects (sizes_of objects) (take count members) class offset group
    mixes_alone_so are members_are = (
      mixed_lists_on objects names are.block_sizes members are.member_ties are.members_are there members_are.once count class offset size sound group own,
      mixed_lists_back objects names are.block_sizes members are.member_ties are.members_are there members_are.once count class offset size sound group own,
    )
      where
        there : (member : Member) → Contains members member → member.object < length (sizes_of objects)
        there = members_known (sizes_of objects) members members_are

        part : take count kept ≡ take count are.member_ties
        part = ap (take count) are.ties_are ∙ take-append-le count are.member_ties given (let e = are.entries_are in omega (arith, few, e))

        sound : classes.IsSound (sizes_of objects ++ are.block_sizes) (tie_links (take count are.member_ties)) class offset size
        sound = subst (λ (list : List ℕ). classes.IsSound list (tie_links (take count are.member_ties)) class offset size) are.sizes_are
            (subst (λ (ties : List Tie). classes.IsSound kept_sizes (tie_links ties) class offset size) part found)

    -- lists make units of both sorts one exactly where units meet
    pub mixes_alone_too : (sizes : List ℕ) → sizes ≡ sizes_of objects → AreThings sizes members given kept_sizes names entries kept → AreMembers sizes members → MixesAlone objects sizes (take count members) class offset group
    mixes_alone_too sizes same =
        subst (λ (list : List ℕ). AreThings list members given kept_sizes names entries kept → AreMembers list members → MixesAlone objects list (take count members) class offset group) (sym same) mixes_alone_so
