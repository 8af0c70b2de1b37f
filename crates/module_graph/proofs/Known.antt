-- Lists that were tested or filled one after another.
use Rattle.std.proofs.Common.{◌≡◌, ℕ, ◌+◌, ◌<◌, ◌≤◌, List, Vec, length, get_or, take, take_all, All, refl, sym, ◌∙◌, subst}
use Rattle.std.proofs.lemmas.List.Elements.{All-map, All-more}
use Rattle.ftn_base.specs.ModuleUses.{AreKnown}
use Rattle.module_graph.specs.Uses.{AreBelow, used_lists}
use Rattle.module_graph.proofs.Listing.{lists_length}

pub below_next : (count : ℕ) (list : List ℕ) (i : ℕ) → i < length list → get_or list i 0 < count → All (λ used. used < count) (take i list) → All (λ used. used < count) (take (i + 1) list)
below_next count list i lt below all = All-more (λ used. used < count) list i 0 lt all below

pub below_whole : (count : ℕ) (list : List ℕ) (i : ℕ) → length list ≤ i → All (λ used. used < count) (take i list) → All (λ used. used < count) list
below_whole count list i le all = subst (λ (l : List ℕ). All (λ used. used < count) l) (take_all i list le) all

pub lists_next : {A : Type 0} (count : ℕ) (lists : List (Vec ℕ A)) (i : ℕ) (list : Vec ℕ A) → i < length lists → list ≡ get_or lists i list → All (λ used. used < count) list.items → AreBelow count (take i lists)
    → AreBelow count (take (i + 1) lists)
lists_next {A} count lists i list lt at below all =
    All-more (λ (l : Vec ℕ A). All (λ used. used < count) l.items) lists i list lt all (subst (λ (l : Vec ℕ A). All (λ used. used < count) l.items) at below)

pub below_known : {A : Type 0} (lists : List (Vec ℕ A)) (count : ℕ) → length lists ≡ count → AreBelow count lists → AreKnown (used_lists lists)
below_known {A} lists count size all =
    subst (λ (n : ℕ). All (All (λ used. used < n)) (used_lists lists)) (sym (lists_length lists ∙ size)) (All-map (All (λ used. used < count)) (λ (l : Vec ℕ A). l.items) lists all)

pub lists_known : {A : Type 0} (lists : List (Vec ℕ A)) (i : ℕ) → length lists ≤ i → AreBelow (length lists) (take i lists) → AreKnown (used_lists lists)
lists_known {A} lists i le all = below_known lists (length lists) refl (subst (λ (l : List (Vec ℕ A)). AreBelow (length lists) l) (take_all i lists le) all)
