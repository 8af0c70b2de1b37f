-- The names of a generated project's files are file names.
use Rattle.std.proofs.Common.{◌≡◌, ℕ, ◌+◌, ◌%◌, ◌^◌, ◌<◌, ◌≤◌, Bool, true, ◌&&◌, List, [], ◌∷◌, ◌++◌, length, refl, ap, ◌∙◌, arith}
use Rattle.std.specs.Prelude.{codes, nat_le}
use Rattle.std.specs.Fmt.{decimal}
use Rattle.std.specs.List.{list_all}
use Rattle.std.proofs.lemmas.Bool.Decides.{nat_tests}
use Rattle.std.proofs.lemmas.Fmt.{decimal_by_steps, length-decimal-le}
use Rattle.std.proofs.lemmas.List.{length-append}
use Rattle.std.proofs.lemmas.List.Folds.{list_all-append}
use Rattle.ftn_base.specs.Names.{is_file_byte, are_file_bytes, is_file_name}
use Rattle.gen_project.specs.Files.{file_of_module}

digit : (n : ℕ) → n < 10 → is_file_byte (48 + n) ≡ true
digit n small = grind (arith, nat_tests)

one : (n : ℕ) → n < 10 → are_file_bytes ((48 + n) ∷ []) ≡ true
one n small = rw (digit n small) refl

digits : (n : ℕ) → n < 2 ^ 64 → are_file_bytes (decimal n) ≡ true
digits n small =
    decimal_by_steps (λ k bytes. are_file_bytes bytes ≡ true) one
    (λ k bytes large front. rw (list_all-append is_file_byte bytes ((48 + k % 10) ∷ []), front, one (k % 10) (omega arith)) refl)
    n small

shaped : (bytes : List ℕ) → 1 ≤ length bytes → length bytes ≤ 255 → are_file_bytes bytes ≡ true → is_file_name bytes ≡ true
shaped bytes nonempty short all =
    let a : nat_le 1 (length bytes) ≡ true = grind (arith, nat_tests) in
    let b : nat_le (length bytes) 255 ≡ true = grind (arith, nat_tests) in
    rw (a, b, all) refl

pub is_module_file : (i : ℕ) → i < 2000 → is_file_name (file_of_module i) ≡ true
is_module_file i small =
    let long : length (decimal i) ≤ 4 = length-decimal-le 4 i (omega arith) (omega arith) (omega arith) in
    let all : are_file_bytes (decimal i ++ codes ".f90") ≡ true = rw (list_all-append is_file_byte (decimal i) (codes ".f90"), digits i (omega arith)) refl in
    let size : length (decimal i ++ codes ".f90") ≡ length (decimal i) + 4 = length-append (decimal i) (codes ".f90") in
    shaped (file_of_module i) (omega (arith, size)) (omega (arith, size)) (rw all refl)
