-- Which specific procedure a generic name means.
use Rattle.std.proofs.Common.{◌≡◌, refl, sym, ◌∙◌, ap, ap₂, Bool, true, false, ℕ, ◌+◌, ◌<◌, List, [], ◌∷◌, ◌++◌, map, length, take, get_or, Option, Some, None}
use Rattle.std.specs.Prelude.{◌==◌, ◌&&◌, ◌||◌, not, if◌then◌else◌}
use Rattle.std.specs.List.{filter, cons_option, list_all, list_any, zip}
use Rattle.std.specs.Option.{is_some, is_none, option_and_then}
use Rattle.std.proofs.lemmas.List.{append-nil, length-map, take_more}
use Rattle.std.proofs.lemmas.List.Elements.{filter-append, filter_map-append}
use Rattle.ftn_tree.specs.KeyKinds.{Kind}
use Rattle.ftn_tree.specs.Procedures.{Formal, Signature}
use Rattle.ftn_tree.specs.ExpressionTypes as spec
use Rattle.ftn_tree.specs.ExpressionTypes.{Told, Typed}
use Rattle.name_types.specs.declared.kinds.Signature as kept
use Rattle.type_check.specs.steps.Kept.{Sight, first_told, seen}
use Rattle.name_types.specs.steps.Senses.{signature_at, specifics_by}
use Rattle.type_check.specs.steps.Sights as sights
use Rattle.type_check.specs.steps.Sights.{Choice, Unknown, NoneFits, One, Several, choice_among, chosen_among, choice_with, if_fits, have_kinds, choice, are_exact, is_exact}

-- ---- one more specific procedure

last_one : (s : Signature) (fs : List Signature) (b : Bool) → choice_among (fs ++ (if b then s ∷ [] else [])) ≡ choice_with (choice_among fs) (if b then Some s else None)
last_one s [] true = refl
last_one s [] false = refl
last_one s (x ∷ []) true = refl
last_one s (x ∷ []) false = refl
last_one s (x ∷ y ∷ fs) true = refl
last_one s (x ∷ y ∷ fs) false = refl

chosen_more : (ss : List Sight) (specifics : List Signature) (s : Signature) → chosen_among (specifics ++ s ∷ []) ss ≡ choice_with (chosen_among specifics ss) (if_fits ss s)
chosen_more ss specifics s = ap choice_among (filter-append (sights.fits ss) specifics (s ∷ [])) ∙ last_one s (filter (sights.fits ss) specifics) (sights.fits ss s)

chosen_next :
    (ss : List Sight) (specifics : List Signature) (o : Option Signature) → chosen_among (specifics ++ cons_option o []) ss ≡ choice_with (chosen_among specifics ss) (option_and_then (if_fits ss) o)
chosen_next ss specifics None = ap (λ l. chosen_among l ss) (append-nil specifics)
chosen_next ss specifics (Some s) = chosen_more ss specifics s

pub turn :
    (signatures : List kept.Signature) (xs : List ℕ) (i d : ℕ) (ss : List Sight) (before after : Choice) (more : Option Signature) → i < length xs →
    before ≡ chosen_among (specifics_by signatures (take i xs)) ss → more ≡ option_and_then (if_fits ss) (signature_at signatures (get_or xs i d)) →
    after ≡ choice_with before more → after ≡ chosen_among (specifics_by signatures (take (i + 1) xs)) ss
turn signatures xs i d ss before after more less so_far one is =
    is ∙ ap₂ choice_with so_far one ∙ sym (chosen_next ss (specifics_by signatures (take i xs)) (signature_at signatures (get_or xs i d)))
    ∙ ap (λ l. chosen_among l ss) (sym (filter_map-append (signature_at signatures) (take i xs) (get_or xs i d ∷ [])))
    ∙ ap (λ l. chosen_among (specifics_by signatures l) ss) (sym (take_more xs i d less))

-- ---- which ones fit

exact_seen : (formals : List Formal) (ts : List Typed) → list_all spec.is_exact (zip formals ts) ≡ are_exact formals (map seen ts)
exact_seen [] ts = refl
exact_seen (formal ∷ formals) [] = refl
exact_seen (formal ∷ formals) (t ∷ ts) = ap (λ b. is_exact formal (seen t) && b) (exact_seen formals ts)

fits_seen : (ts : List Typed) (s : Signature) → spec.fits ts s ≡ sights.fits (map seen ts) s
fits_seen ts s =
    ap (λ b. (length s.formals == length ts) && b) (exact_seen s.formals ts)
    ∙ ap (λ n. (length s.formals == n) && are_exact s.formals (map seen ts)) (sym (length-map ts seen))

filter_alike : {A : Type 0} (p q : A → Bool) → ((a : A) → p a ≡ q a) → (xs : List A) → filter p xs ≡ filter q xs
filter_alike p q same [] = refl
filter_alike p q same (x ∷ xs) = ap₂ (λ b more. if b then x ∷ more else more) (same x) (filter_alike p q same xs)

one_kind : (k : Option Kind) (more : Bool) (others : Bool) → more ≡ not others → (is_some k && more) ≡ not (is_none k || others)
one_kind None more others is = refl
one_kind (Some k) more others is = is

kinds_seen : (ts : List Typed) → have_kinds (map seen ts) ≡ not (list_any (λ (t : Typed). is_none t.kind) ts)
kinds_seen [] = refl
kinds_seen (t ∷ ts) = one_kind t.kind (have_kinds (map seen ts)) (list_any (λ (t : Typed). is_none t.kind) ts) (kinds_seen ts)

fitting_seen : (specifics : List Signature) (ts : List Typed) → spec.fitting ts specifics ≡ filter (sights.fits (map seen ts)) specifics
fitting_seen specifics ts = filter_alike (spec.fits ts) (sights.fits (map seen ts)) (fits_seen ts) specifics

-- the choice by what the definitions have
abbrev due : List Signature → List Typed → Choice
due specifics ts = if not (list_any (λ (t : Typed). is_none t.kind) ts) then choice_among (spec.fitting ts specifics) else Unknown

due_is : (specifics : List Signature) (ts : List Typed) → due specifics ts ≡ choice specifics (map seen ts)
due_is specifics ts =
    ap₂ (λ b fs. if b then choice_among fs else Unknown) (sym (kinds_seen ts)) (fitting_seen specifics ts)

told_among : (name : ℕ) (fs : List Signature) → first_told (spec.choice_told name fs) ≡ sights.choice_told name (choice_among fs)
told_among name [] = refl
told_among name (x ∷ []) = refl
told_among name (x ∷ y ∷ fs) = refl

meant_among : (fs : List Signature) → spec.chosen fs ≡ sights.meant (choice_among fs)
meant_among [] = refl
meant_among (x ∷ []) = refl
meant_among (x ∷ y ∷ fs) = refl

pub generic_told_seen :
    (name : ℕ) (specifics : List Signature) (ts : List Typed) → first_told (spec.generic_told name specifics ts) ≡ sights.choice_told name (choice specifics (map seen ts))
generic_told_seen name specifics ts =
    by (list_any (λ (t : Typed). is_none t.kind) ts) (spec.fitting ts specifics) ∙ ap (sights.choice_told name) (due_is specifics ts) where
      by : (b : Bool) (fs : List Signature) → first_told (if b then [] else spec.choice_told name fs) ≡ sights.choice_told name (if not b then choice_among fs else Unknown)
      by true fs = refl
      by false fs = told_among name fs

pub meant_seen : (specifics : List Signature) (ts : List Typed) → spec.meant specifics ts ≡ sights.meant (choice specifics (map seen ts))
meant_seen specifics ts = by (list_any (λ (t : Typed). is_none t.kind) ts) (spec.fitting ts specifics) ∙ ap sights.meant (due_is specifics ts) where
  by : (b : Bool) (fs : List Signature) → (if b then None else spec.chosen fs) ≡ sights.meant (if not b then choice_among fs else Unknown)
  by true fs = refl
  by false fs = meant_among fs
