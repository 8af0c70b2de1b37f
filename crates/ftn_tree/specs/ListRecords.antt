-- The record that PRINT and WRITE make of values (Fortran 90, 10.8.2); its one form is this project's own.
use Rattle.std.specs.Prelude.{ℕ, true, false, List, ◌++◌, codes}
use Rattle.std.specs.List.{join_by}
use Rattle.std.specs.Fmt.{signed_decimal}
use Rattle.ftn_tree.specs.declared.value.Value.{Value}
use Rattle.ftn_tree.specs.declared.value.Value.TheVariants.{Whole, Truth, Chars}

-- an item's text
abbrev pub text_of : Value → List ℕ
text_of (Whole z) = signed_decimal z
text_of (Truth true) = codes "T"
text_of (Truth false) = codes "F"
text_of (Chars bytes) = bytes

-- the items' texts, separated by one blank
abbrev pub texts_of : List Value → List ℕ
texts_of items = join_by text_of (codes " ") items

-- one blank, the items, LF
abbrev pub record_of : List Value → List ℕ
record_of items = codes " " ++ texts_of items ++ codes "\n"
