-- The bounds of one dimension after the other.
use Rattle.std.proofs.Common.{◌≡◌, List, [], ◌∷◌, ◌++◌, Option, Some, None, option_map, refl, sym, ap, append_assoc, append-nil}
use Rattle.std.specs.Prelude.{ℤ}
use Rattle.ftn_tree.specs.Constants.{all_pairs}

-- those so far, where all are known, and more
abbrev pub all_after : Option (List (ℤ × ℤ)) → List (Option (ℤ × ℤ)) → Option (List (ℤ × ℤ))
all_after None more = None
all_after (Some known) more = option_map (λ rest. known ++ rest) (all_pairs more)

pub none_so_far : (more : List (Option (ℤ × ℤ))) → all_pairs more ≡ all_after (Some []) more
none_so_far more = by (all_pairs more) where
  by : (o : Option (List (ℤ × ℤ))) → o ≡ option_map (λ rest. [] ++ rest) o
  by None = refl
  by (Some rest) = refl

pub one_more : (known : List (ℤ × ℤ)) (pair : ℤ × ℤ) (more : List (Option (ℤ × ℤ))) → all_after (Some known) (Some pair ∷ more) ≡ all_after (Some (known ++ pair ∷ [])) more
one_more known pair more = by (all_pairs more) where
  by : (o : Option (List (ℤ × ℤ))) → option_map (λ rest. known ++ rest) (option_map (λ rest. pair ∷ rest) o) ≡ option_map (λ rest. (known ++ pair ∷ []) ++ rest) o
  by None = refl
  by (Some rest) = ap Some (sym (append_assoc known (pair ∷ []) rest))

pub not_known : (known : Option (List (ℤ × ℤ))) (more : List (Option (ℤ × ℤ))) → all_after known (None ∷ more) ≡ None
not_known None more = refl
not_known (Some known) more = refl

pub all_known : (known : Option (List (ℤ × ℤ))) → all_after known [] ≡ known
all_known None = refl
all_known (Some known) = ap Some (append-nil known)
