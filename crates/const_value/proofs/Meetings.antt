-- The least token of a range that meets one of an earlier list, by halves of the lists.
use Rattle.std.proofs.Common.{◌≡◌, ℕ, ◌-◌, ◌<◌, length, take, drop, Bool, true, false, cond, ◌||◌, List, [], ◌∷◌, ◌++◌, filter, map, Option, Some, None, refl, sym, ap, ap₂, ◌∙◌, arith, append_assoc, append-nil}
use Rattle.std.specs.Prelude.{nat_lt}
use Rattle.std.specs.List.{list_any}
use Rattle.std.proofs.lemmas.Bool.Decides.{nat_tests}
use Rattle.std.proofs.lemmas.List.{map-append, take_rest, take-append-drop}
use Rattle.std.proofs.lemmas.List.Elements.{filter-append}
use Rattle.std.proofs.lemmas.List.Folds.{list_any-append}
use Rattle.const_expr.specs.FirstTold.{sooner, itself}
use Rattle.const_value.specs.declared.intervals.Span.{Span}
use Rattle.const_value.specs.steps.Intervals.{meets, tokens_meeting, met, all_of, least}

abbrev pub lesser : Option ℕ → Option ℕ → Option ℕ
lesser one other = sooner itself one other

-- ---- the lesser of two

of_both : (a b c : ℕ) → lesser (cond (nat_lt b a) (Some b) (Some a)) (Some c) ≡ lesser (Some a) (cond (nat_lt c b) (Some c) (Some b))
of_both a b c = by (nat_lt b a) (nat_lt c b) (nat_lt c a) refl refl refl where
  by : (x y z : Bool) → nat_lt b a ≡ x → nat_lt c b ≡ y → nat_lt c a ≡ z → lesser (cond x (Some b) (Some a)) (Some c) ≡ lesser (Some a) (cond y (Some c) (Some b))
  by true true z ba cb ca = let less : nat_lt c a ≡ true = grind (arith, nat_tests) in ap (λ t. cond t (Some c) (Some b)) cb ∙ sym (ap (λ t. cond t (Some c) (Some a)) less)
  by true false z ba cb ca = ap (λ t. cond t (Some c) (Some b)) cb ∙ sym (ap (λ t. cond t (Some b) (Some a)) ba)
  by false true z ba cb ca = refl
  by false false z ba cb ca = let more : nat_lt c a ≡ false = grind (arith, nat_tests) in ap (λ t. cond t (Some c) (Some a)) more ∙ sym (ap (λ t. cond t (Some b) (Some a)) ba)

pub lesser_joins : (a b c : Option ℕ) → lesser (lesser a b) c ≡ lesser a (lesser b c)
lesser_joins None b c = refl
lesser_joins (Some a) None c = refl
lesser_joins (Some a) (Some b) None = by (nat_lt b a) where
  by : (t : Bool) → lesser (cond t (Some b) (Some a)) None ≡ cond t (Some b) (Some a)
  by true = refl
  by false = refl
lesser_joins (Some a) (Some b) (Some c) = of_both a b c

lesser_turned : (a b : Option ℕ) → lesser a b ≡ lesser b a
lesser_turned None None = refl
lesser_turned None (Some b) = refl
lesser_turned (Some a) None = refl
lesser_turned (Some a) (Some b) = by (nat_lt b a) (nat_lt a b) refl refl where
  by : (x y : Bool) → nat_lt b a ≡ x → nat_lt a b ≡ y → cond x (Some b) (Some a) ≡ cond y (Some a) (Some b)
  by true true ba ab = absurd (grind (arith, nat_tests))
  by true false ba ab = refl
  by false true ba ab = refl
  by false false ba ab = let same : a ≡ b = grind (arith, nat_tests) in ap Some same

lesser_itself : (a : Option ℕ) → lesser a a ≡ a
lesser_itself None = refl
lesser_itself (Some a) = by (nat_lt a a) where
  by : (t : Bool) → cond t (Some a) (Some a) ≡ Some a
  by true = refl
  by false = refl

crossed : (a b c d : Option ℕ) → lesser (lesser a b) (lesser c d) ≡ lesser (lesser a c) (lesser b d)
crossed a b c d =
    lesser_joins a b (lesser c d)
    ∙ ap (lesser a) (sym (lesser_joins b c d) ∙ ap (λ o. lesser o d) (lesser_turned b c) ∙ lesser_joins c b d)
    ∙ sym (lesser_joins a c (lesser b d))

-- ---- the least of tokens

pub least_joined : (xs ys : List ℕ) → least (xs ++ ys) ≡ lesser (least xs) (least ys)
least_joined [] ys = refl
least_joined (x ∷ xs) ys = ap (lesser (Some x)) (least_joined xs ys) ∙ sym (lesser_joins (Some x) (least xs) (least ys))

least_if : (t : Bool) (s : Span) (rest : List Span) → least (map (λ (s : Span). s.token) (cond t (s ∷ rest) rest)) ≡ lesser (cond t (Some s.token) None) (least (map (λ (s : Span). s.token) rest))
least_if true s rest = refl
least_if false s rest = refl

either : (p q : Bool) (o : Option ℕ) → cond (p || q) o None ≡ lesser (cond p o None) (cond q o None)
either true true o = sym (lesser_itself o)
either true false None = refl
either true false (Some n) = refl
either false q o = refl

-- of those that meet one of either list
least_of_both : (b c here : List Span) → least (tokens_meeting (b ++ c) here) ≡ lesser (least (tokens_meeting b here)) (least (tokens_meeting c here))
least_of_both b c [] = refl
least_of_both b c (s ∷ here) =
    ap (λ t. least (map (λ (s : Span). s.token) (cond t (s ∷ filter (λ s. list_any (meets s) (b ++ c)) here) (filter (λ s. list_any (meets s) (b ++ c)) here)))) (list_any-append (meets s) b c)
    ∙ least_if (list_any (meets s) b || list_any (meets s) c) s (filter (λ s. list_any (meets s) (b ++ c)) here)
    ∙ ap₂ lesser (either (list_any (meets s) b) (list_any (meets s) c) (Some s.token)) (least_of_both b c here)
    ∙ crossed (cond (list_any (meets s) b) (Some s.token) None) (cond (list_any (meets s) c) (Some s.token) None) (least (tokens_meeting b here)) (least (tokens_meeting c here))
    ∙ ap₂ lesser (sym (least_if (list_any (meets s) b) s (filter (λ s. list_any (meets s) b) here))) (sym (least_if (list_any (meets s) c) s (filter (λ s. list_any (meets s) c) here)))

meeting_joined : (b xs ys : List Span) → tokens_meeting b (xs ++ ys) ≡ tokens_meeting b xs ++ tokens_meeting b ys
meeting_joined b xs ys =
    ap (map (λ (s : Span). s.token)) (filter-append (λ s. list_any (meets s) b) xs ys)
    ∙ map-append (λ (s : Span). s.token) (filter (λ s. list_any (meets s) b) xs) (filter (λ s. list_any (meets s) b) ys)

met_more : (b c : List Span) (lists : List (List Span)) → least (met (b ++ c) lists) ≡ lesser (least (tokens_meeting b (all_of lists))) (least (met c lists))
met_more b c [] = refl
met_more b c (here ∷ rest) =
    least_joined (tokens_meeting (b ++ c) here) (met ((b ++ c) ++ here) rest)
    ∙ ap₂ lesser (least_of_both b c here) (ap (λ before. least (met before rest)) (append_assoc b c here) ∙ met_more b (c ++ here) rest)
    ∙ crossed (least (tokens_meeting b here)) (least (tokens_meeting c here)) (least (tokens_meeting b (all_of rest))) (least (met (c ++ here) rest))
    ∙ ap₂ lesser (sym (least_joined (tokens_meeting b here) (tokens_meeting b (all_of rest))) ∙ ap least (sym (meeting_joined b here (all_of rest))))
    (sym (least_joined (tokens_meeting c here) (met (c ++ here) rest)))

met_joined : (b : List Span) (xs ys : List (List Span)) → met b (xs ++ ys) ≡ met b xs ++ met (b ++ all_of xs) ys
met_joined b [] ys = ap (λ before. met before ys) (sym (append-nil b))
met_joined b (here ∷ xs) ys =
    ap (λ more. tokens_meeting b here ++ more) (met_joined (b ++ here) xs ys ∙ ap (λ before. met (b ++ here) xs ++ met before ys) (append_assoc b here (all_of xs)))
    ∙ sym (append_assoc (tokens_meeting b here) (met (b ++ here) xs) (met (b ++ (here ++ all_of xs)) ys))

-- the first half, the second half, and those of the second that meet one of the first
pub halved : (xs ys : List (List Span)) → least (met [] (xs ++ ys)) ≡ lesser (least (tokens_meeting (all_of xs) (all_of ys))) (lesser (least (met [] xs)) (least (met [] ys)))
halved xs ys =
    let across = least (tokens_meeting (all_of xs) (all_of ys)) in
    let within = least (met [] xs) in
    let behind = least (met [] ys) in
    ap least (met_joined [] xs ys) ∙ least_joined (met [] xs) (met (all_of xs) ys)
    ∙ ap (lesser within) (ap (λ before. least (met before ys)) (sym (append-nil (all_of xs))) ∙ met_more (all_of xs) [] ys)
    ∙ sym (lesser_joins within across behind) ∙ ap (λ o. lesser o behind) (lesser_turned within across) ∙ lesser_joins across within behind

-- ---- few lists

none_met : (here : List Span) → tokens_meeting [] here ≡ []
none_met [] = refl
none_met (s ∷ here) = none_met here

pub few_met : {X : Type 0} (items : X → List Span) (lists : List X) → length lists < 2 → None ≡ least (met [] (map items lists))
few_met items [] few = refl
few_met items (x ∷ []) few = ap least (sym (append-nil (tokens_meeting [] (items x)) ∙ none_met (items x)))
few_met items (x ∷ y ∷ lists) few = absurd (omega arith)

-- by the two halves
pub by_halves : {X : Type 0} (items : X → List Span) (lists : List X) (half : ℕ)
    → lesser (least (tokens_meeting (all_of (map items (take half lists))) (all_of (map items (take (length lists - half) (drop half lists))))))
    (lesser (least (met [] (map items (take half lists)))) (least (met [] (map items (take (length lists - half) (drop half lists))))))
    ≡ least (met [] (map items lists))
by_halves items lists half =
    ap (λ xs. lesser (least (tokens_meeting (all_of (map items (take half lists))) (all_of (map items xs)))) (lesser (least (met [] (map items (take half lists)))) (least (met [] (map items xs)))))
    (take_rest lists half)
    ∙ sym (halved (map items (take half lists)) (map items (drop half lists)))
    ∙ ap (λ xs. least (met [] xs)) (sym (map-append items (take half lists) (drop half lists)) ∙ ap (map items) (take-append-drop half lists))
