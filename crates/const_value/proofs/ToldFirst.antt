-- The first of what is told of an expression is the first of its findings.
use Rattle.std.proofs.Common.{◌≡◌, ℕ, ◌+◌, ◌*◌, ◌<◌, Bool, true, false, cond, List, [], ◌∷◌, ◌++◌, map, Option, Some, None, option_map, refl, sym, ap, ◌∙◌, arith}
use Rattle.std.specs.Prelude.{◌&&◌, ◌||◌, ◌==◌, nat_lt}
use Rattle.std.specs.List.{filter_map, flat_map, cons_option}
use Rattle.std.specs.Option.{option_map_or}
use Rattle.std.proofs.lemmas.Bool.Decides.{nat_tests}
use Rattle.ftn_base.specs.declared.fault.FaultKind.{FaultKind}
use Rattle.ftn_base.specs.declared.fault.FaultKind.TheVariants as kinds
use Rattle.ftn_tree.specs.declared.intrinsic.ValueFault.{ValueFault}
use Rattle.ftn_tree.specs.ConstantFaults.{constant_rank}
use Rattle.ftn_tree.specs.DeclarationFaults.{Finding, found, before_in_place}
use Rattle.ftn_tree.specs.GlobalNames.{place}
use Rattle.ftn_tree.specs.Evaluations.{Evaluated, told_of}
use Rattle.ftn_tree.specs.Shapes.{strays_told, told_breach, breaches_told, all_told}
use Rattle.const_expr.specs.FirstTold.{sooner, soonest, itself, breach_key, breach_told}
use Rattle.const_expr.specs.Seen.{told_in}
use Rattle.const_value.specs.steps.Findings.{earlier, gathered}
use Rattle.const_value.specs.steps.Told.{stray_finding, breach_finding, stray_found, breach_found}
use Rattle.const_value.proofs.FirstFindings.{gathered_after, gathered_both}

-- ---- a key by which findings are in order

module _ {A : Type 0} (key : A → ℕ) (finding : A → Finding) (ordered : (a b : A) → before_in_place constant_rank (finding b) (finding a) ≡ nat_lt (key b) (key a)) where
  sooner_is : (a : A) (o : Option A) → option_map finding (sooner key (Some a) o) ≡ earlier (Some (finding a)) (option_map finding o)
  sooner_is a None = refl
  sooner_is a (Some b) = by (nat_lt (key b) (key a)) (ordered a b) where
    by : (t : Bool) → before_in_place constant_rank (finding b) (finding a) ≡ t
        → option_map finding (cond t (Some b) (Some a)) ≡ cond (before_in_place constant_rank (finding b) (finding a)) (Some (finding b)) (Some (finding a))
    by true is = sym (ap (λ t. cond t (Some (finding b)) (Some (finding a))) is)
    by false is = sym (ap (λ t. cond t (Some (finding b)) (Some (finding a))) is)

  pub soonest_is : (all : List A) → option_map finding (soonest key all) ≡ gathered None (map finding all)
  soonest_is [] = refl
  soonest_is (a ∷ all) =
      sooner_is a (soonest key all) ∙ ap (earlier (Some (finding a))) (soonest_is all) ∙ sym (gathered_after (Some (finding a)) (map finding all))

-- ---- by the token, and then by the kind

pub in_order : (file first rank other least : ℕ) → rank < 8 → least < 8
    → (nat_lt file file || ((file == file) && (nat_lt first other || ((first == other) && nat_lt rank least)))) ≡ nat_lt (first * 8 + rank) (other * 8 + least)
in_order file first rank other least small few = grind (arith, nat_tests)

pub by_token : (file first other : ℕ) → (nat_lt file file || ((file == file) && (nat_lt first other || ((first == other) && nat_lt 0 0)))) ≡ nat_lt first other
by_token file first other = grind (arith, nat_tests)

rank_small : (kind : FaultKind) → constant_rank kind < 8
rank_small kinds.NotConstant = omega arith
rank_small kinds.Overflow = omega arith
rank_small kinds.Zero = omega arith
rank_small kinds.Circular = omega arith
rank_small kinds.BadShape = omega arith
rank_small _ = omega arith

-- ---- names, and operations

pub strays_first : (file : ℕ) (e : Evaluated) → stray_found file (told_in e) ≡ gathered None (strays_told file e)
strays_first file e = soonest_is itself (stray_finding file) (λ a b. by_token file b a) e.strays

told_list : (file : ℕ) (breaches : List (ValueFault × ℕ)) → flat_map (told_breach file) breaches ≡ map (breach_finding file) (filter_map breach_told breaches)
told_list file [] = refl
told_list file ((breach, token) ∷ more) = by (told_of breach) (told_list file more) where
  by : (o : Option FaultKind) → flat_map (told_breach file) more ≡ map (breach_finding file) (filter_map breach_told more)
      → option_map_or (λ kind. found kind (place file token) ∷ []) o [] ++ flat_map (told_breach file) more ≡ map (breach_finding file) (cons_option (option_map (λ kind. record { kind = kind; token = token }) o) (filter_map breach_told more))
  by None rest = rest
  by (Some kind) rest = ap (λ (xs : List Finding). found kind (place file token) ∷ xs) rest

pub breaches_first : (file : ℕ) (e : Evaluated) → breach_found file (told_in e) ≡ gathered None (breaches_told file e)
breaches_first file e =
    soonest_is breach_key (breach_finding file) (λ a b. in_order file b.token (constant_rank b.kind) a.token (constant_rank a.kind) (rank_small b.kind) (rank_small a.kind)) (filter_map breach_told e.breaches)
    ∙ ap (gathered None) (sym (told_list file e.breaches))

-- what is noted so far, and more
pub strays_noted : (best : Option Finding) (file : ℕ) (e : Evaluated) → earlier best (stray_found file (told_in e)) ≡ gathered best (strays_told file e)
strays_noted best file e = ap (earlier best) (strays_first file e) ∙ sym (gathered_after best (strays_told file e))

pub breaches_noted : (best : Option Finding) (file : ℕ) (e : Evaluated) → earlier best (breach_found file (told_in e)) ≡ gathered best (breaches_told file e)
breaches_noted best file e = ap (earlier best) (breaches_first file e) ∙ sym (gathered_after best (breaches_told file e))

pub all_noted : (best : Option Finding) (file : ℕ) (e : Evaluated) → earlier (earlier best (stray_found file (told_in e))) (breach_found file (told_in e)) ≡ gathered best (all_told file e)
all_noted best file e =
    breaches_noted (earlier best (stray_found file (told_in e))) file e
    ∙ ap (λ o. gathered o (breaches_told file e)) (strays_noted best file e)
    ∙ sym (gathered_both best (strays_told file e) (breaches_told file e))
