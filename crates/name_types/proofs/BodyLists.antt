-- Numbers that are put on the lists of what is around them.
use Rattle.std.proofs.Common.{◌≡◌, ◌≢◌, ℕ, zero, suc, ◌+◌, ◌<◌, Bool, true, false, if◌then◌else◌, List, [], ◌∷◌, ◌++◌, Vec, Option, Some, None, length, get_or, set, take, inl, inr, refl, sym, subst, ap, ◌∙◌, arith, length-set}
use Rattle.std.specs.Prelude.{nat_lt}
use Rattle.std.specs.List.{filter_map, cons_option}
use Rattle.std.specs.Option.{option_to_list}
use Rattle.std.proofs.lemmas.Bool.{cases_eq}
use Rattle.std.proofs.lemmas.Bool.Decides.{nat_tests}
use Rattle.std.proofs.lemmas.List.{append-nil, length-replicate, map-append, map-set, take_more}
use Rattle.std.proofs.lemmas.List.Elements.{filter_map-append}
use Rattle.decl_table.specs.steps.Following.{is_number}
use Rattle.const_value.specs.steps.Lists.{lists_of}
use Rattle.name_types.specs.declared.bodies.Placed.{Placed}
use Rattle.name_types.specs.steps.Generics.{list_at, pushed_at, placed_by, with_placed, none_of, in_place}

-- ---- lists as they lie in memory

items_at : {A : Type 0} (lists : List (Vec ℕ A)) (at : ℕ) (one : Vec ℕ A) → at < length lists → one ≡ get_or lists at one → list_at (lists_of lists) at ≡ one.items
items_at [] at one less is = absurd (omega arith)
items_at (l ∷ lists) zero one less is = ap (λ (v : Vec ℕ _). v.items) (sym is)
items_at (l ∷ lists) (suc at) one less is = items_at lists at one (omega (arith, less)) is

pub pushed : {A : Type 0} (lists : List (Vec ℕ A)) (at number : ℕ) (one made : Vec ℕ A) → at < length lists → one ≡ get_or lists at one → made.items ≡ (get_or lists at one).items ++ number ∷ []
    → lists_of (set lists at made) ≡ pushed_at (lists_of lists) at number
pushed lists at number one made less is more =
    map-set (λ (v : Vec ℕ _). v.items) lists at made
    ∙ ap (λ (l : List ℕ). set (lists_of lists) at l) (more ∙ ap (λ (v : Vec ℕ _). v.items ++ number ∷ []) (sym is) ∙ ap (λ (l : List ℕ). l ++ number ∷ []) (sym (items_at lists at one less is)))

-- ---- one more

set_same : (lists : List (List ℕ)) (at : ℕ) (list : List ℕ) → at < length lists → list_at (set lists at list) at ≡ list
set_same [] at list less = absurd (omega arith)
set_same (l ∷ lists) zero list less = refl
set_same (l ∷ lists) (suc at) list less = set_same lists at list (omega (arith, less))

set_other : (lists : List (List ℕ)) (at other : ℕ) (list : List ℕ) → other ≢ at → list_at (set lists at list) other ≡ list_at lists other
set_other [] at other list apart = refl
set_other (l ∷ lists) zero zero list apart = absurd (apart refl)
set_other (l ∷ lists) zero (suc other) list apart = refl
set_other (l ∷ lists) (suc at) zero list apart = refl
set_other (l ∷ lists) (suc at) (suc other) list apart = set_other lists at other list (λ same. apart (ap suc same))

pub placed_long : (lists : List (List ℕ)) (p : Placed) → length (with_placed lists p) ≡ length lists
placed_long lists p = by p.around p.number where
  by : (around number : Option ℕ) → length (placed_by lists around number) ≡ length lists
  by None number = refl
  by (Some around) None = refl
  by (Some around) (Some number) = bit (nat_lt around (length lists)) where
    bit : (b : Bool) → length (if b then pushed_at lists around number else lists) ≡ length lists
    bit true = length-set lists around (list_at lists around ++ number ∷ [])
    bit false = refl

less_true : (m n : ℕ) → m < n → nat_lt m n ≡ true
less_true m n less = grind (arith, nat_tests)

equal_true : (m n : ℕ) → m ≡ n → is_number m (Some n) ≡ true
equal_true m n same = grind (arith, nat_tests)

equal_false : (m n : ℕ) → (m ≡ n → ⊥) → is_number m (Some n) ≡ false
equal_false m n apart = grind (arith, nat_tests)

-- what is on the list of a number, where one more was put
pub placed_more : (lists : List (List ℕ)) (p : Placed) (at : ℕ) → at < length lists → list_at (with_placed lists p) at ≡ list_at lists at ++ option_to_list (in_place at p)
placed_more lists p at less = by p.around p.number where
  by : (around number : Option ℕ) → list_at (placed_by lists around number) at ≡ list_at lists at ++ option_to_list (if is_number at around then number else None)
  by None number = sym (append-nil (list_at lists at))
  by (Some around) None = sym (same (is_number at (Some around))) where
    same : (b : Bool) → list_at lists at ++ option_to_list (if b then None else None) ≡ list_at lists at
    same true = append-nil (list_at lists at)
    same false = append-nil (list_at lists at)
  by (Some around) (Some number) = elim (cases_eq at around) [
    | inl same ↦
        rw (less_true around (length lists) (omega (arith, same, less)), equal_true at around same)
        (ap (λ k. list_at (pushed_at lists around number) k) same ∙ set_same lists around (list_at lists around ++ number ∷ []) (omega (arith, same, less)) ∙ ap (λ k. list_at lists k ++ number ∷ []) (sym same))
    | inr apart ↦
        rw (equal_false at around apart) (other apart (nat_lt around (length lists)) ∙ sym (append-nil (list_at lists at)))
  ] where
    other : (at ≡ around → ⊥) → (b : Bool) → list_at (if b then pushed_at lists around number else lists) at ≡ list_at lists at
    other apart true = set_other lists around at (list_at lists around ++ number ∷ []) apart
    other apart false = refl

-- ---- all of them

pub none_at : (count at : ℕ) → list_at (none_of count) at ≡ []
none_at zero at = refl
none_at (suc count) zero = refl
none_at (suc count) (suc at) = none_at count at

pub none_long : (count : ℕ) → length (none_of count) ≡ count
none_long count = length-replicate count []

pub none_more : (count : ℕ) → none_of (count + 1) ≡ none_of count ++ [] ∷ []
none_more count = ap none_of (next count) ∙ by count where
  next : (n : ℕ) → n + 1 ≡ suc n
  next n = omega arith

  by : (n : ℕ) → none_of (suc n) ≡ none_of n ++ [] ∷ []
  by zero = refl
  by (suc n) = ap (λ ls. [] ∷ ls) (by n)

pub one_more_none : {A : Type 0} (lists now : List (Vec ℕ A)) (one : Vec ℕ A) (n : ℕ) → lists_of lists ≡ none_of n → one.items ≡ [] → now ≡ lists ++ one ∷ [] → lists_of now ≡ none_of (n + 1)
one_more_none lists now one n are empty more =
    ap lists_of more ∙ map-append (λ (v : Vec ℕ _). v.items) lists (one ∷ [])
    ∙ ap (λ ls. ls ++ one.items ∷ []) are ∙ ap (λ (l : List ℕ). none_of n ++ l ∷ []) empty ∙ sym (none_more n)

abbrev pub AreSoFar : ℕ → List (List ℕ) → List Placed → Type 0
AreSoFar count lists done = (length lists ≡ count) × ((at : ℕ) → at < count → list_at lists at ≡ filter_map (in_place at) done)

pub none_so_far : (count : ℕ) (lists : List (List ℕ)) → lists ≡ none_of count → AreSoFar count lists []
none_so_far count lists are = (ap length are ∙ none_long count, λ at less. ap (λ ls. list_at ls at) are ∙ none_at count at)

last_one : (at : ℕ) (p : Placed) → filter_map (in_place at) (p ∷ []) ≡ option_to_list (in_place at p)
last_one at p = by (in_place at p) where
  by : (o : Option ℕ) → cons_option o [] ≡ option_to_list o
  by None = refl
  by (Some n) = refl

pub one_so_far : (count : ℕ) (lists now : List (List ℕ)) (all : List Placed) (i : ℕ) (p d : Placed) → i < length all → p ≡ get_or all i d → now ≡ with_placed lists p
    → AreSoFar count lists (take i all) → AreSoFar count now (take (i + 1) all)
one_so_far count lists now all i p d less is put (long, each) = (
  ap length put ∙ placed_long lists p ∙ long,
  λ at within.
      ap (λ ls. list_at ls at) put
      ∙ placed_more lists p at (subst (λ n. at < n) (sym long) within)
      ∙ ap (λ ns. ns ++ option_to_list (in_place at p)) (each at within)
      ∙ ap (λ ns. filter_map (in_place at) (take i all) ++ ns) (sym (last_one at p))
      ∙ sym (filter_map-append (in_place at) (take i all) (p ∷ []))
      ∙ ap (λ q. filter_map (in_place at) (take i all ++ q ∷ [])) is
      ∙ ap (filter_map (in_place at)) (sym (take_more all i d less)),
)
