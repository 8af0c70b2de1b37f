-- How long the front of a plan's text is.
use Rattle.std.proofs.Common.{◌≡◌, ℕ, ◌+◌, ◌*◌, ◌≤◌, true, List, [], ◌∷◌, ◌++◌, length, sym, ap, ◌∙◌, arith}
use Rattle.std.specs.Fmt.{decimal}
use Rattle.std.specs.List.{flat_map, list_all}
use Rattle.std.proofs.lemmas.Bool.{and_parts, leb-true}
use Rattle.std.proofs.lemmas.Fmt.{length-decimal-le}
use Rattle.std.proofs.lemmas.List.{append-nil, length-append}
use Rattle.std.proofs.lemmas.List.Sums.{sum_by-cons}
use Rattle.ftn_base.specs.Files.{File}
use Rattle.ftn_base.specs.Names.{is_file_name, are_file_bytes}
use Rattle.ftn_base.specs.Limits.{most_file_bytes}
use Rattle.plan_file.specs.Plans.{is_planned, size_of, title, count_field, file_field, text_field, entry}
use Rattle.plan_file.specs.Fields.{MayBegin}
use Rattle.plan_file.proofs.Order.{planned_is}
use Rattle.plan_file.proofs.Rows.{opening}
use Rattle.plan_file.proofs.Words.{count_spelled, file_spelled}

name_short : (name : List ℕ) → is_file_name name ≡ true → length name ≤ 255
name_short name valid = leb-true (length name) 255 (and_parts _ _ (and_parts _ (are_file_bytes name) valid).0).1

pub file_short : (size : ℕ) (name : List ℕ) → size ≤ most_file_bytes → is_file_name name ≡ true → length (file_field size name) ≤ 269
file_short size name short valid =
    let digits : length (decimal size) ≤ 7 = length-decimal-le 7 size (omega arith) (omega arith) (omega arith) in
    let spelled : length (file_field size name) ≡ 5 + length (decimal size ++ 32 ∷ (name ++ 10 ∷ [])) = ap length (sym (append-nil (file_field size name)) ∙ file_spelled size name []) ∙ omega arith in
    omega (arith, digits, spelled, name_short name valid, length-append (decimal size) (32 ∷ (name ++ 10 ∷ [])), length-append name (10 ∷ []))

count_short : (count : ℕ) → count ≤ 4096 → length (count_field count) ≤ 11
count_short count few =
    let digits : length (decimal count) ≤ 4 = length-decimal-le 4 count (omega arith) (omega arith) (omega arith) in
    let spelled : length (count_field count) ≡ 6 + length (decimal count ++ 10 ∷ []) = ap length (sym (append-nil (count_field count)) ∙ count_spelled count []) ∙ omega arith in
    omega (arith, digits, spelled, length-append (decimal count) (10 ∷ []))

entries_short : (files : List File) → list_all is_planned files ≡ true → length (flat_map entry files) ≤ 270 * length files + size_of files
entries_short [] all = omega arith
entries_short (f ∷ fs) all =
    let parts = and_parts (is_planned f) (list_all is_planned fs) all in
    let one = planned_is f parts.0 in
    omega (arith, entries_short fs parts.1, file_short (length f.1) f.0 one.short one.valid, length-append (entry f) (flat_map entry fs), length-append (file_field (length f.1) f.0) (text_field f.1), length-append f.1 (10 ∷ []), sum_by-cons (λ (file : File). length file.1) f fs)

pub opening_short : (count : ℕ) (files : List File) → MayBegin count files → length (opening count files) ≤ 20000000
opening_short count files begun =
    let few = begun.few in
    let within = begun.within in
    let small = begun.small in
    omega (arith, entries_short files begun.planned, count_short count few, length-append title (count_field count ++ flat_map entry files), length-append (count_field count) (flat_map entry files))
