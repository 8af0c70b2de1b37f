-- What is told of a list's elements, one element after the other, where only the first is kept.
use Rattle.std.proofs.Common.{◌≡◌, ℕ, ◌+◌, ◌<◌, List, ◌∷◌, length, get_or, drop, Option, refl, sym, ap, ◌∙◌}
use Rattle.std.proofs.lemmas.List.{drop_more}
use Rattle.ftn_tree.specs.declared.parts.DataGroup.{DataGroup}
use Rattle.ftn_tree.specs.declared.parts.Designator.{Designator}
use Rattle.ftn_tree.specs.declared.table.Extent.{Extent}
use Rattle.ftn_tree.specs.declared.unit.FileTree.{FileTree}
use Rattle.ftn_tree.specs.DeclarationFaults.{Finding}
use Rattle.ftn_tree.specs.ExpressionTypes.{Told}
use Rattle.name_types.specs.declared.names.Setting.{Setting}
use Rattle.type_check.specs.steps.Stated.{designator_told, noted_each, noted_group, noted_groups, noted_one, noted_sets}

-- a walk that keeps the first, one element further
pub walked : {X : Type 0} (step : Option Finding → X → Option Finding) (walk : Option Finding → List X → Option Finding)
    → ((o : Option Finding) (x : X) (xs : List X) → walk o (x ∷ xs) ≡ walk (step o x) xs)
    → (xs : List X) (at : ℕ) (x : X) (first before after : Option Finding) → at < length xs → x ≡ get_or xs at x
    → walk first xs ≡ walk before (drop at xs) → after ≡ step before x → walk first xs ≡ walk after (drop (at + 1) xs)
walked step walk goes xs at x first before after less is so_far one =
    so_far ∙ ap (walk before) (drop_more xs at x less) ∙ ap (λ y. walk before (y ∷ drop (at + 1) xs)) (sym is) ∙ goes before x (drop (at + 1) xs)
    ∙ ap (λ o. walk o (drop (at + 1) xs)) (sym one)

pub each_turn : {X : Type 0} (file : ℕ) (told : X → Option Told) (xs : List X) (at : ℕ) (x : X) (first before after : Option Finding) → at < length xs → x ≡ get_or xs at x
    → noted_each file told first xs ≡ noted_each file told before (drop at xs) → after ≡ noted_one file before (told x)
    → noted_each file told first xs ≡ noted_each file told after (drop (at + 1) xs)
each_turn file told = walked (λ o x. noted_one file o (told x)) (noted_each file told) (λ o x xs. refl)

pub sets_turn : (s : Setting) (xs : List (List Designator)) (at : ℕ) (x : List Designator) (first before after : Option Finding) → at < length xs → x ≡ get_or xs at x
    → noted_sets s first xs ≡ noted_sets s before (drop at xs) → after ≡ noted_each s.file (designator_told s) before x → noted_sets s first xs ≡ noted_sets s after (drop (at + 1) xs)
sets_turn s = walked (λ o x. noted_each s.file (designator_told s) o x) (noted_sets s) (λ o x xs. refl)

pub groups_turn : (files : List FileTree) (e : Extent) (s : Setting) (xs : List DataGroup) (at : ℕ) (x : DataGroup) (first before after : Option Finding) → at < length xs
    → x ≡ get_or xs at x → noted_groups files e s first xs ≡ noted_groups files e s before (drop at xs) → after ≡ noted_group files e s before x
    → noted_groups files e s first xs ≡ noted_groups files e s after (drop (at + 1) xs)
groups_turn files e s = walked (noted_group files e s) (noted_groups files e s) (λ o x xs. refl)
