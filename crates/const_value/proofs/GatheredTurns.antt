-- The first of findings of a list's elements, one element after the other.
use Rattle.std.proofs.Common.{◌≡◌, ℕ, ◌+◌, ◌<◌, List, [], ◌∷◌, ◌++◌, length, take, get_or, Option, sym, ap, ◌∙◌, append-nil}
use Rattle.std.specs.List.{flat_map}
use Rattle.std.proofs.lemmas.List.{take_more}
use Rattle.std.proofs.lemmas.List.Concat.{flat_map-append}
use Rattle.ftn_tree.specs.DeclarationFaults.{Finding}
use Rattle.const_value.specs.steps.Findings.{gathered}
use Rattle.const_value.proofs.FirstFindings.{gathered_both}

pub flat_map_next : {X Y : Type 0} (f : X → List Y) (xs : List X) (at : ℕ) (x : X) → at < length xs → x ≡ get_or xs at x → flat_map f (take (at + 1) xs) ≡ flat_map f (take at xs) ++ f x
flat_map_next f xs at x less is =
    ap (flat_map f) (take_more xs at x less) ∙ flat_map-append f (take at xs) (get_or xs at x ∷ [])
    ∙ ap (λ y. flat_map f (take at xs) ++ y) (append-nil (f (get_or xs at x))) ∙ ap (λ y. flat_map f (take at xs) ++ f y) (sym is)

pub turn : {X : Type 0} (f : X → List Finding) (xs : List X) (at : ℕ) (x : X) (first before after : Option Finding) → at < length xs → x ≡ get_or xs at x
    → before ≡ gathered first (flat_map f (take at xs)) → after ≡ gathered before (f x) → after ≡ gathered first (flat_map f (take (at + 1) xs))
turn f xs at x first before after less is so_far one =
    one ∙ ap (λ o. gathered o (f x)) so_far ∙ sym (gathered_both first (flat_map f (take at xs)) (f x)) ∙ ap (gathered first) (sym (flat_map_next f xs at x less is))

-- of what each element holds
pub inner_turn : {X Y : Type 0} (f : Y → List Finding) (g : X → List Y) (xs : List X) (at : ℕ) (x : X) (first before after : Option Finding) → at < length xs → x ≡ get_or xs at x
    → before ≡ gathered first (flat_map f (flat_map g (take at xs))) → after ≡ gathered before (flat_map f (g x)) → after ≡ gathered first (flat_map f (flat_map g (take (at + 1) xs)))
inner_turn f g xs at x first before after less is so_far one =
    one ∙ ap (λ o. gathered o (flat_map f (g x))) so_far ∙ sym (gathered_both first (flat_map f (flat_map g (take at xs))) (flat_map f (g x)))
    ∙ ap (gathered first) (sym (flat_map-append f (flat_map g (take at xs)) (g x)) ∙ ap (flat_map f) (sym (flat_map_next g xs at x less is)))
