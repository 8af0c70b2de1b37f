-- Names as they are compared.
use Rattle.std.proofs.Common.{◌≡◌, ℕ, true, List}
use Rattle.std.specs.Str.{bytes_eq}
use Rattle.std.proofs.lemmas.Bool.{and_parts}
use Rattle.std.proofs.lemmas.Slice.Eq.{bytes_eq-Decides}
use Rattle.ftn_base.specs.Letters.{folded}
use Rattle.ftn_base.specs.Names.{is_name}
use Rattle.decl_table.specs.steps.Spelled.{IsSpelled}

-- a name of that edition, which folding leaves as it is
pub spelled_is : (bytes : List ℕ) → IsSpelled bytes → (is_name 63 bytes ≡ true) × (folded bytes ≡ bytes)
spelled_is bytes spelled =
    let (name, same) = and_parts (is_name 63 bytes) (bytes_eq (folded bytes) bytes) spelled in
    (name, (bytes_eq-Decides (folded bytes) bytes).0 same)
