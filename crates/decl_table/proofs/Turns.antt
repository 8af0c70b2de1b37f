-- One more of a list, and what stands there in lists that correspond to it.
use Rattle.std.proofs.Common.{◌≡◌, ℕ, suc, ◌+◌, ◌<◌, arith, List, [], ◌∷◌, ◌++◌, map, take, length, get_or, Some, option_map, refl, sym, ap, subst, ◌∙◌}
use Rattle.std.specs.Prelude.{slice_get}
use Rattle.std.proofs.Math.Seq.{take-suc}
use Rattle.std.proofs.lemmas.List.{length-map, map-append}
use Rattle.std.proofs.lemmas.Option.{slice_get-map, slice_get-get_or, slice_get_within, get_or_from_slice_get}

next_is : (i : ℕ) → suc i ≡ i + 1
next_is i = omega arith

pub taken : {X : Type 0} (all : List X) (i : ℕ) (x : X) → slice_get all i ≡ Some x → take (i + 1) all ≡ take i all ++ x ∷ []
taken all i x at =
    sym (ap (λ k. take k all) (next_is i)) ∙ take-suc all i x (slice_get_within all i x at)
    ∙ ap (λ y. take i all ++ y ∷ []) (get_or_from_slice_get all i x x at)

some_is : {X : Type 0} (x y : X) → Some x ≡ Some y → x ≡ y
some_is x y same = cc same

long_as : {X Y Z : Type 0} (f : X → Z) (g : Y → Z) (xs : List X) (ys : List Y) (i : ℕ) (y : Y) → map f xs ≡ map g ys → slice_get ys i ≡ Some y → i < length xs
long_as f g xs ys i y same there =
    subst (λ n. i < n) (sym (length-map ys g) ∙ ap length (sym same) ∙ length-map xs f) (slice_get_within ys i y there)

-- what stands at one place in two lists of which the images are the same
pub alike : {X Y Z : Type 0} (f : X → Z) (g : Y → Z) (xs : List X) (ys : List Y) (i : ℕ) (x : X) (y : Y) → map f xs ≡ map g ys
    → x ≡ get_or xs i x → slice_get ys i ≡ Some y → f x ≡ g y
alike f g xs ys i x y same here there =
    let stands = slice_get-get_or xs i x (long_as f g xs ys i y same there) ∙ ap Some (sym here) in
    some_is (f x) (g y) (sym (slice_get-map f xs i ∙ ap (option_map f) stands) ∙ ap (λ zs. slice_get zs i) same ∙ slice_get-map g ys i ∙ ap (option_map g) there)

map_self : {X : Type 0} (xs : List X) → map (λ x. x) xs ≡ xs
map_self [] = refl
map_self (x ∷ xs) = ap (λ rest. x ∷ rest) (map_self xs)

pub image : {X Z : Type 0} (g : X → Z) (zs : List Z) (xs : List X) (i : ℕ) (z : Z) (x : X) → zs ≡ map g xs → z ≡ get_or zs i z → slice_get xs i ≡ Some x → z ≡ g x
image g zs xs i z x same here there = alike (λ z. z) g zs xs i z x (map_self zs ∙ same) here there

pub image_or : {X Z : Type 0} (g : X → Z) (zs : List Z) (xs : List X) (i : ℕ) (d : Z) (x : X) → zs ≡ map g xs → slice_get xs i ≡ Some x → get_or zs i d ≡ g x
image_or g zs xs i d x same there =
    get_or_from_slice_get zs i (g x) d (ap (λ es. slice_get es i) same ∙ slice_get-map g xs i ∙ ap (option_map g) there)

-- one more, of which the image is known
pub one_more_is : {V X Y : Type 0} (items : V → Y) (f : X → Y) (all : List X) (i : ℕ) (x : X) → slice_get all i ≡ Some x → (made now : List V) (v : V)
    → map items made ≡ map f (take i all) → now ≡ made ++ v ∷ [] → items v ≡ f x → map items now ≡ map f (take (i + 1) all)
one_more_is items f all i x here made now v before pushed same =
    ap (map items) pushed ∙ map-append items made (v ∷ []) ∙ ap (λ ys. ys ++ items v ∷ []) before ∙ ap (λ y. map f (take i all) ++ y ∷ []) same
    ∙ sym (map-append f (take i all) (x ∷ [])) ∙ ap (map f) (sym (taken all i x here))
