-- One name, and one reference, after the other: the constants to which constants refer, and those that lead back.
use Rattle.std.proofs.Common.{◌≡◌, refl, sym, ◌∙◌, ap, ap₂, subst, ℕ, ◌+◌, ◌<◌, ◌≤◌, List, [], ◌∷◌, ◌++◌, Vec, map, length, get_or, take, drop, Option, All, append_assoc, append-nil, arith}
use Rattle.std.specs.Prelude.{slice_get}
use Rattle.std.specs.List.{cons_option, filter_map, flat_map, range_with_len}
use Rattle.std.proofs.lemmas.Grind.{flat_map-append}
use Rattle.std.proofs.lemmas.List.{drop_more, map-append, take_more}
use Rattle.std.proofs.lemmas.List.Elements.{filter_map-append}
use Rattle.std.proofs.lemmas.List.Folds.{map_fixed}
use Rattle.std.proofs.lemmas.List.FromFn.{map-range_with_len_more}
use Rattle.std.proofs.lemmas.Option.{slice_get-get_or}
use Rattle.std.specs.Option.{option_map_or}
use Rattle.ftn_base.specs.ModuleUses.{AreKnown, used_by}
use Rattle.ftn_tree.specs.DeclarationFaults.{Finding}
use Rattle.const_value.specs.declared.circles.Circles.{Circles}
use Rattle.const_value.specs.declared.name_numbers.Owned.{Owned}
use Rattle.const_value.specs.steps.Findings.{gathered}
use Rattle.const_value.specs.steps.Lists.{lists_of}
use Rattle.const_value.specs.steps.References.{circle_of, circles_at, file_of}
use Rattle.const_value.proofs.FirstFindings.{gathered_both}
use Rattle.const_value.proofs.Users.{all_known, list_at, lists_length}

-- ---- references

pub some_more : {X Y : Type 0} (f : X → Option Y) (xs : List X) (i : ℕ) (x : X) (first before after : List Y) → i < length xs → x ≡ get_or xs i x
    → before ≡ first ++ filter_map f (take i xs) → after ≡ before ++ cons_option (f x) [] → after ≡ first ++ filter_map f (take (i + 1) xs)
some_more f xs i x first before after less at is made =
    made ∙ ap (λ ys. ys ++ cons_option (f x) []) is ∙ append_assoc first (filter_map f (take i xs)) (cons_option (f x) [])
    ∙ ap (λ ys. first ++ ys) (sym (filter_map-append f (take i xs) (x ∷ [])))
    ∙ ap (λ ys. first ++ filter_map f (take i xs ++ ys)) (ap (λ y. y ∷ []) at) ∙ ap (λ ys. first ++ filter_map f ys) (sym (take_more xs i x less))

pub list_more : {A : Type 0} (f : ℕ → List ℕ) (n : ℕ) (before after : List (Vec ℕ A)) (list : Vec ℕ A) → lists_of before ≡ map f (range_with_len 0 n) → after ≡ before ++ list ∷ [] → list.items ≡ f n
    → lists_of after ≡ map f (range_with_len 0 (n + 1))
list_more f n before after list is made one =
    let same : 0 + n ≡ n = omega arith in
    ap (λ ls. lists_of ls) made ∙ map-append (λ v. v.items) before (list ∷ []) ∙ ap₂ (λ (xs : List (List ℕ)) (x : List ℕ). xs ++ x ∷ []) is one ∙ sym (map-range_with_len_more f 0 n n same)

pub lists_all : {A : Type 0} (f : ℕ → List ℕ) (n count : ℕ) (lists : List (Vec ℕ A)) → lists_of lists ≡ map f (range_with_len 0 n) → n ≤ count → count ≤ n → lists_of lists ≡ map f (range_with_len 0 count)
lists_all f n count lists is below above =
    let same : n ≡ count = omega (arith, below, above) in
    is ∙ ap (λ k. map f (range_with_len 0 k)) same

pub used_within : {A : Type 0} (lists : List (Vec ℕ A)) (name i count : ℕ) (list : Vec ℕ A) (items : List ℕ) → AreKnown (lists_of lists) → name < length lists → list ≡ get_or lists name list
    → items ≡ list.items → i < length items → count ≡ length lists → get_or items i 0 < count
used_within lists name i count list items known less at is within sized =
    let same : items ≡ used_by (lists_of lists) name = is ∙ list_at lists name list less at in
    let size : length (lists_of lists) ≡ length lists = lists_length lists in
    let below : name < length (lists_of lists) = omega (arith, less, size) in
    let all : All (λ used. used < length (lists_of lists)) (used_by (lists_of lists) name) = all_known (lists_of lists) name known below in
    let one : get_or (used_by (lists_of lists) name) i 0 < length (lists_of lists) = all i 0 (subst (λ (l : List ℕ). i < length l) same within) in
    let here : get_or items i 0 ≡ get_or (used_by (lists_of lists) name) i 0 = ap (λ (l : List ℕ). get_or l i 0) same in
    omega (arith, one, here, size, sized)

-- ---- findings

pub circle_turn : (c : Circles) (name file : ℕ) (tokens items : List ℕ) (at i used : ℕ) (before after : Option Finding) (token : Option ℕ) → i < length items → used ≡ get_or items i used
    → token ≡ slice_get tokens at → after ≡ gathered before (circle_of c name file used token)
    → gathered before (circles_at c name file tokens at (drop i items)) ≡ gathered after (circles_at c name file tokens (at + 1) (drop (i + 1) items))
circle_turn c name file tokens items at i used before after token less here there made =
    ap (λ us. gathered before (circles_at c name file tokens at us)) (drop_more items i used less ∙ ap (λ (u : ℕ). u ∷ drop (i + 1) items) (sym here))
    ∙ gathered_both before (circle_of c name file used (slice_get tokens at)) (circles_at c name file tokens (at + 1) (drop (i + 1) items))
    ∙ ap (λ o. gathered o (circles_at c name file tokens (at + 1) (drop (i + 1) items))) (ap (λ t. gathered before (circle_of c name file used t)) (sym there) ∙ sym made)

range_more : (n : ℕ) → range_with_len 0 (n + 1) ≡ range_with_len 0 n ++ n ∷ []
range_more n =
    let same : 0 + n ≡ n = omega arith in
    sym (map_fixed (λ (k : ℕ). k) (range_with_len 0 (n + 1)) (λ k d less. refl)) ∙ map-range_with_len_more (λ (k : ℕ). k) 0 n n same
    ∙ ap (λ (xs : List ℕ). xs ++ n ∷ []) (map_fixed (λ (k : ℕ). k) (range_with_len 0 n) (λ k d less. refl))

pub name_turn : (f : ℕ → List Finding) (n : ℕ) (first before after : Option Finding) → before ≡ gathered first (flat_map f (range_with_len 0 n)) → after ≡ gathered before (f n)
    → after ≡ gathered first (flat_map f (range_with_len 0 (n + 1)))
name_turn f n first before after is made =
    made ∙ ap (λ o. gathered o (f n)) is ∙ sym (gathered_both first (flat_map f (range_with_len 0 n)) (f n))
    ∙ ap (λ xs. gathered first (flat_map f (range_with_len 0 n) ++ xs)) (sym (append-nil (f n)))
    ∙ ap (gathered first) (sym (flat_map-append f (range_with_len 0 n) (n ∷ []))) ∙ ap (λ xs. gathered first (flat_map f xs)) (sym (range_more n))

-- the file of a name
pub file_at : (names : List Owned) (n : ℕ) (owned : Owned) → n < length names → owned ≡ get_or names n owned → owned.file ≡ file_of names n
file_at names n owned less at =
    ap (λ (o : Owned). o.file) at ∙ sym (ap (λ o. option_map_or (λ (o : Owned). o.file) o 0) (slice_get-get_or names n owned less))
