-- Names as they are compared (Fortran 90, 3.2.1), and drafts that have such names or none.
use Rattle.std.specs.Prelude.{Bool, ◌&&◌, IsTrue, ℕ, List, [], ◌∷◌, Option, Some, None}
use Rattle.std.specs.Str.{bytes_eq}
use Rattle.ftn_base.specs.Letters.{folded}
use Rattle.ftn_base.specs.Limits.{name_limit}
use Rattle.ftn_base.specs.Names.{is_name}
use Rattle.ftn_base.specs.declared.name.Edition.TheVariants.{F2003}
use Rattle.ftn_tree.specs.DeclaredEntities.{Drafted}

abbrev pub Each : {A : Type 0} → (A → Type 0) → List A → Type 0
Each P [] = Unit {0}
Each P (x ∷ xs) = P x × Each P xs

abbrev pub IsMaybe : {A : Type 0} → (A → Type 0) → Option A → Type 0
IsMaybe P None = Unit {0}
IsMaybe P (Some x) = P x

-- of a length that a name may have in each edition, and in lower case
abbrev pub is_spelled : List ℕ → Bool
is_spelled bytes = is_name (name_limit F2003) bytes && bytes_eq (folded bytes) bytes

abbrev pub IsSpelled : List ℕ → Type 0
IsSpelled bytes = IsTrue (is_spelled bytes)

abbrev pub IsNamed : Drafted → Type 0
IsNamed d = IsMaybe IsSpelled d.entity.name
