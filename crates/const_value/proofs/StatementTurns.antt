-- What is told of the parts of statements, one after the other.
use Rattle.std.proofs.Common.{◌≡◌, ℕ, suc, ◌+◌, ◌<◌, ℤ, Bool, true, false, not, cond, List, [], ◌∷◌, ◌++◌, length, take, drop, get_or, Option, Some, None, refl, sym, ap, ap₂, ◌∙◌, append-nil, arith}
use Rattle.std.specs.Prelude.{◌||◌, ◌==◌, nat_lt}
use Rattle.std.specs.List.{cons_option, flat_map, list_any}
use Rattle.std.specs.Option.{is_some, option_map_or}
use Rattle.std.proofs.lemmas.Bool.Decides.{nat_tests}
use Rattle.std.proofs.lemmas.List.{drop_more, take_more}
use Rattle.std.proofs.lemmas.List.Folds.{list_any-append}
use Rattle.ftn_base.specs.declared.fault.FaultKind.TheVariants.{NotConstant, BadShape}
use Rattle.ftn_tree.specs.declared.expr.Expr.{Expr}
use Rattle.ftn_tree.specs.declared.want.Want.{Want}
use Rattle.ftn_tree.specs.ConstantFaults.{is_outside, range_told, subscript_told, wants_constant}
use Rattle.ftn_tree.specs.Constants.{whole_in}
use Rattle.ftn_tree.specs.DeclarationFaults.{Finding, found}
use Rattle.ftn_tree.specs.Evaluations.{Evaluated}
use Rattle.ftn_tree.specs.GlobalNames.{place}
use Rattle.ftn_tree.specs.Shapes.{all_told, breaches_told, has_strays}
use Rattle.ftn_tree.specs.Wants.{Placed, placed}
use Rattle.const_expr.specs.declared.evaluated.Evaluated.{Evaluated as Made}
use Rattle.const_expr.specs.declared.told.Told.{Told}
use Rattle.const_expr.specs.FirstTold.{itself, sooner, soonest}
use Rattle.const_expr.specs.Seen.{seen, told_in}
use Rattle.const_value.specs.declared.view.View.{View}
use Rattle.const_value.specs.steps.Findings.{earlier, gathered, told_if}
use Rattle.const_value.specs.steps.Measuring.{given}
use Rattle.const_value.specs.steps.Telling.{pair_at, placed_told, subscripts_told}
use Rattle.const_value.specs.steps.Told.{breach_found, stray_found}
use Rattle.const_value.proofs.FirstFindings.{gathered_both}
use Rattle.const_value.proofs.ToldFirst.{all_noted, breaches_noted}

-- ---- names that may be there

optional : {X Y : Type 0} (f : X → List Y) (a : Option X) (xs : List X) → flat_map f (cons_option a xs) ≡ flat_map f (cons_option a []) ++ flat_map f xs
optional f None xs = refl
optional f (Some x) xs = ap (λ ys. ys ++ flat_map f xs) (sym (append-nil (f x)))

pub both_noted : {X : Type 0} (f : X → List Finding) (a b : Option X) (old mid new : Option Finding) → mid ≡ gathered old (flat_map f (cons_option a [])) → new ≡ gathered mid (flat_map f (cons_option b []))
    → new ≡ gathered old (flat_map f (cons_option a (cons_option b [])))
both_noted f a b old mid new one other =
    other ∙ ap (λ o. gathered o (flat_map f (cons_option b []))) one ∙ sym (gathered_both old (flat_map f (cons_option a [])) (flat_map f (cons_option b [])))
    ∙ ap (gathered old) (sym (optional f a (cons_option b [])))

pub any_of_both : {X : Type 0} (p : X → Bool) (a b : Option X) → (list_any p (cons_option a []) || list_any p (cons_option b [])) ≡ list_any p (cons_option a (cons_option b []))
any_of_both p None b = refl
any_of_both p (Some x) b = by (p x) where
  by : (t : Bool) → ((t || false) || list_any p (cons_option b [])) ≡ (t || list_any p (cons_option b []))
  by true = refl
  by false = refl

pub any_next : {X : Type 0} (p : X → Bool) (xs : List X) (at : ℕ) (x : X) (before after : Bool) → at < length xs → x ≡ get_or xs at x → before ≡ list_any p (take at xs) → after ≡ (before || p x)
    → after ≡ list_any p (take (at + 1) xs)
any_next p xs at x before after less is so_far one =
    one ∙ ap₂ (λ a b. a || b) so_far (alone (p x)) ∙ sym (list_any-append p (take at xs) (x ∷ [])) ∙ ap (λ y. list_any p (take at xs ++ y ∷ [])) is ∙ ap (list_any p) (sym (take_more xs at x less))
  where
    alone : (t : Bool) → t ≡ (t || false)
    alone true = refl
    alone false = refl

-- ---- expressions in places that want a constant

pub placed_noted : (view : View) (p : Placed) (want : Want) (e : Expr) (told : Told) (wanted : Bool) (old new : Option Finding) → placed want e ≡ p → wanted ≡ wants_constant want → wanted ≡ true
    → told ≡ told_in (given view e) → new ≡ earlier (earlier old (stray_found view.file told)) (breach_found view.file told) → new ≡ gathered old (placed_told view p)
placed_noted view p want e told wanted old new is wants held told_is noted =
    noted ∙ ap (λ t. earlier (earlier old (stray_found view.file t)) (breach_found view.file t)) told_is ∙ all_noted old view.file (given view e)
    ∙ ap (λ t. gathered old (cond t (all_told view.file (given view e)) [])) (sym held ∙ wants) ∙ ap (λ q. gathered old (placed_told view q)) is

pub not_placed : (view : View) (p : Placed) (want : Want) (e : Expr) (wanted : Bool) (old : Option Finding) → placed want e ≡ p → wanted ≡ wants_constant want → wanted ≡ false → old ≡ gathered old (placed_told view p)
not_placed view p want e wanted old is wants missing =
    ap (λ t. gathered old (cond t (all_told view.file (given view e)) [])) (sym missing ∙ wants) ∙ ap (λ q. gathered old (placed_told view q)) is

-- ---- subscripts

pub some_strays : (strays : List ℕ) → is_some (soonest itself strays) ≡ not (length strays == 0)
some_strays [] = refl
some_strays (x ∷ strays) = by (soonest itself strays) ∙ more where
  by : (o : Option ℕ) → is_some (sooner itself (Some x) o) ≡ true
  by None = refl
  by (Some y) = one (nat_lt y x) where
    one : (t : Bool) → is_some (cond t (Some y) (Some x)) ≡ true
    one true = refl
    one false = refl

  no : (suc (length strays) == 0) ≡ false
  no = grind (arith, nat_tests)

  more : true ≡ not (suc (length strays) == 0)
  more = ap not (sym no)

pub subscript_noted : (file : ℕ) (e : Evaluated) (pair : Option (ℤ × ℤ)) (made : Made) (old a b new : Option Finding) (stray outside : Bool) → made ≡ seen e → stray ≡ is_some made.told.stray
    → a ≡ gathered old (told_if stray (found NotConstant (place file made.first))) → b ≡ earlier a (breach_found file made.told)
    → outside ≡ option_map_or (λ z. option_map_or (is_outside z) pair false) (whole_in made.value) false → new ≡ gathered b (told_if outside (found BadShape (place file made.first)))
    → new ≡ gathered old (subscript_told file e pair)
subscript_noted file e pair made old a b new stray outside is strays first second ranges third =
    third ∙ ap₂ (λ o t. gathered o (told_if t (found BadShape (place file made.first)))) (second ∙ ap₂ (λ o (m : Made). earlier o (breach_found file m.told)) first is ∙ breaches_noted one file e) in_range
    ∙ ap (λ (m : Made). gathered (gathered one (breaches_told file e)) (told_if wide (found BadShape (place file m.first)))) is
    ∙ sym (gathered_both one (breaches_told file e) (range_told file e pair))
    ∙ ap (λ o. gathered o (breaches_told file e ++ range_told file e pair)) one_is
    ∙ sym (gathered_both old (told_if (has_strays e) (found NotConstant (place file e.first))) (breaches_told file e ++ range_told file e pair))
  where
    wide : Bool
    wide = option_map_or (λ z. option_map_or (is_outside z) pair false) (whole_in e.value) false

    one : Option Finding
    one = gathered old (told_if stray (found NotConstant (place file made.first)))

    in_range : outside ≡ wide
    in_range = ranges ∙ ap (λ (m : Made). option_map_or (λ z. option_map_or (is_outside z) pair false) (whole_in m.value) false) is

    one_is : one ≡ gathered old (told_if (has_strays e) (found NotConstant (place file e.first)))
    one_is =
        ap (λ t. gathered old (told_if t (found NotConstant (place file made.first)))) (strays ∙ ap (λ (m : Made). is_some m.told.stray) is ∙ some_strays e.strays)
        ∙ ap (λ (m : Made). gathered old (told_if (has_strays e) (found NotConstant (place file m.first)))) is

pub subscript_turn : (view : View) (pairs : Option (List (ℤ × ℤ))) (all : List Expr) (at index : ℕ) (x : Expr) (pair : Option (ℤ × ℤ)) (before after : Option Finding) → index < length all → x ≡ get_or all index x
    → pair ≡ pair_at pairs at → after ≡ gathered before (subscript_told view.file (given view x) pair)
    → gathered before (subscripts_told view pairs at (drop index all)) ≡ gathered after (subscripts_told view pairs (at + 1) (drop (index + 1) all))
subscript_turn view pairs all at index x pair before after less is pair_is one =
    let rest = subscripts_told view pairs (at + 1) (drop (index + 1) all) in
    ap (λ xs. gathered before (subscripts_told view pairs at xs)) (drop_more all index x less ∙ ap (λ y. y ∷ drop (index + 1) all) (sym is))
    ∙ gathered_both before (subscript_told view.file (given view x) (pair_at pairs at)) rest
    ∙ ap (λ p. gathered (gathered before (subscript_told view.file (given view x) p)) rest) (sym pair_is)
    ∙ ap (λ o. gathered o rest) (sym one)
