-- What is written is read back.
use Rattle.std.specs.Prelude.{◌≡◌, ℕ, ◌-◌, Bool, true, false, List, [], ◌∷◌, length, take, drop, Some}
use Rattle.ftn_base.specs.declared.entity.Ty.{Ty}
use Rattle.ftn_base.specs.declared.entity.Ty.TheVariants.{Integer, Logical, Character}
use Rattle.ftn_base.specs.Arithmetic.{is_integer}
use Rattle.ftn_tree.specs.declared.value.Value.{Value}
use Rattle.ftn_tree.specs.declared.value.Value.TheVariants.{Whole, Truth, Chars}
use Rattle.ftn_tree.specs.ListItems.{is_run, item_of}
use Rattle.ftn_tree.specs.ListRecords.{record_of}

-- a line without its first byte and its last one
abbrev pub between : List ℕ → List ℕ
between line = take (length line - 2) (drop 1 line)

-- a value of the type whose text is one item
abbrev pub is_one_item : Value → Ty → Bool
is_one_item (Whole z) Integer = is_integer z
is_one_item (Truth truth) Logical = true
is_one_item (Chars bytes) (Character length) = is_run bytes
is_one_item value ty = false

abbrev pub ItemsAreReadBack : Type 0
ItemsAreReadBack = (value : Value) (ty : Ty) → is_one_item value ty ≡ true → item_of (between (record_of (value ∷ []))) ty ≡ Some value
