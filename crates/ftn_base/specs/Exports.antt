-- What a module makes public (Fortran 90, 5.2.3 and 11.3.2).
use Rattle.std.specs.Prelude.{ℕ, Bool, not, ◌&&◌, ◌||◌, List, ◌++◌}
use Rattle.std.specs.List.{filter, list_any}
use Rattle.std.specs.Str.{bytes_eq}
use Rattle.ftn_base.specs.declared.entity.EntityId.{EntityId}
use Rattle.ftn_base.specs.declared.uses.Access.{Access}

-- a name, and what it may denote
abbrev pub PairOf : Type 0 → Type 0
PairOf A = List ℕ × A

-- the same with the number of an entity
abbrev pub Pair : Type 0
Pair = PairOf EntityId

abbrev pub is_among : List (List ℕ) → List ℕ → Bool
is_among names name = list_any (bytes_eq name) names

-- not private, and public by default or by name
abbrev pub is_public : Bool → (List ℕ → Bool) → (List ℕ → Bool) → List ℕ → Bool
is_public default_public public private name = not (private name) && (default_public || public name)

abbrev pub public_part : {A : Type 0} → Bool → (List ℕ → Bool) → (List ℕ → Bool) → List (PairOf A) → List (PairOf A)
public_part default_public public private pairs = filter (λ pair. is_public default_public public private pair.0) pairs

-- the public part of what is its own, and then of what it uses
abbrev pub exported : {A : Type 0} → List (PairOf A) → List (PairOf A) → Access → List (PairOf A)
exported own used access =
    public_part access.default_public (is_among access.public) (is_among access.private) own
    ++ public_part access.default_public (is_among access.public) (is_among access.private) used
