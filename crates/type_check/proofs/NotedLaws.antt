-- What is told of a list's elements, one element after the other, by the first of it.
use Rattle.std.proofs.Common.{◌≡◌, ℕ, ◌+◌, ◌*◌, ◌<◌, Bool, true, false, cond, List, [], ◌∷◌, ◌++◌, map, length, take, get_or, Option, Some, None, refl, sym, ap, ◌∙◌, arith, append-nil}
use Rattle.std.specs.Prelude.{◌&&◌, ◌||◌, ◌==◌, nat_lt}
use Rattle.std.specs.List.{flat_map}
use Rattle.std.proofs.lemmas.Bool.Decides.{nat_tests}
use Rattle.std.proofs.lemmas.List.{map-append, take_more}
use Rattle.std.proofs.lemmas.List.Concat.{flat_map-append}
use Rattle.ftn_base.specs.declared.fault.FaultKind.{FaultKind}
use Rattle.ftn_base.specs.declared.fault.FaultKind.TheVariants as kinds
use Rattle.ftn_tree.specs.DeclarationFaults.{Finding, found, before_in_place}
use Rattle.ftn_tree.specs.ExpressionTypes.{Told, if_told}
use Rattle.ftn_tree.specs.GlobalNames.{place}
use Rattle.ftn_tree.specs.TypeFaults.{finding, type_rank}
use Rattle.const_expr.specs.FirstTold.{sooner}
use Rattle.type_check.specs.steps.Findings.{earlier, gathered, told_if}
use Rattle.type_check.specs.steps.Kept.{first_told, told_key}
use Rattle.type_check.specs.steps.Noted.{noted, told_found}
use Rattle.type_check.proofs.FirstFindings.{gathered_after, gathered_both}

-- ---- the first of what is told is the first of its findings

rank_small : (kind : FaultKind) → type_rank kind < 8
rank_small kinds.WrongType = omega arith
rank_small kinds.WrongCount = omega arith
rank_small kinds.NoSpecific = omega arith
rank_small kinds.TwoSpecifics = omega arith
rank_small _ = omega arith

in_order : (file first rank other least : ℕ) → rank < 8 → least < 8
    → (nat_lt file file || ((file == file) && (nat_lt first other || ((first == other) && nat_lt rank least)))) ≡ nat_lt (first * 8 + rank) (other * 8 + least)
in_order file first rank other least small few = grind (arith, nat_tests)

ordered : (file : ℕ) (a b : Told) → before_in_place type_rank (finding file b) (finding file a) ≡ nat_lt (told_key b) (told_key a)
ordered file (what, token) (other, at) = in_order file at (type_rank other) token (type_rank what) (rank_small other) (rank_small what)

sooner_is : (file : ℕ) (a : Told) (o : Option Told) → told_found file (sooner told_key (Some a) o) ≡ earlier (Some (finding file a)) (told_found file o)
sooner_is file a None = refl
sooner_is file a (Some b) = by (nat_lt (told_key b) (told_key a)) (ordered file a b) where
  by : (t : Bool) → before_in_place type_rank (finding file b) (finding file a) ≡ t
      → told_found file (cond t (Some b) (Some a)) ≡ cond (before_in_place type_rank (finding file b) (finding file a)) (Some (finding file b)) (Some (finding file a))
  by true is = sym (ap (λ t. cond t (Some (finding file b)) (Some (finding file a))) is)
  by false is = sym (ap (λ t. cond t (Some (finding file b)) (Some (finding file a))) is)

pub first_found : (file : ℕ) (told : List Told) → told_found file (first_told told) ≡ noted file None told
first_found file [] = refl
first_found file (a ∷ told) =
    sooner_is file a (first_told told) ∙ ap (earlier (Some (finding file a))) (first_found file told) ∙ sym (gathered_after (Some (finding file a)) (map (finding file) told))

pub noted_first : (file : ℕ) (first : Option Finding) (told : List Told) → noted file first told ≡ earlier first (told_found file (first_told told))
noted_first file first told = gathered_after first (map (finding file) told) ∙ ap (earlier first) (sym (first_found file told))

-- ---- of some, and then of others

pub noted_append : (file : ℕ) (first : Option Finding) (told more : List Told) → noted file first (told ++ more) ≡ noted file (noted file first told) more
noted_append file first told more = ap (gathered first) (map-append (finding file) told more) ∙ gathered_both first (map (finding file) told) (map (finding file) more)

pub noted_if : (file : ℕ) (first : Option Finding) (holds : Bool) (what : FaultKind) (token : ℕ) → gathered first (told_if holds (found what (place file token))) ≡ noted file first (if_told holds what token)
noted_if file first true what token = refl
noted_if file first false what token = refl

pub flat_map_next : {X Y : Type 0} (f : X → List Y) (xs : List X) (at : ℕ) (x : X) → at < length xs → x ≡ get_or xs at x → flat_map f (take (at + 1) xs) ≡ flat_map f (take at xs) ++ f x
flat_map_next f xs at x less is =
    ap (flat_map f) (take_more xs at x less) ∙ flat_map-append f (take at xs) (get_or xs at x ∷ [])
    ∙ ap (λ y. flat_map f (take at xs) ++ y) (append-nil (f (get_or xs at x))) ∙ ap (λ y. flat_map f (take at xs) ++ f y) (sym is)

-- one element of a list more
pub turn : {X : Type 0} (file : ℕ) (f : X → List Told) (xs : List X) (at : ℕ) (x : X) (first before after : Option Finding) → at < length xs → x ≡ get_or xs at x
    → before ≡ noted file first (flat_map f (take at xs)) → after ≡ noted file before (f x) → after ≡ noted file first (flat_map f (take (at + 1) xs))
turn file f xs at x first before after less is so_far one =
    one ∙ ap (λ o. noted file o (f x)) so_far ∙ sym (noted_append file first (flat_map f (take at xs)) (f x)) ∙ ap (noted file first) (sym (flat_map_next f xs at x less is))
