-- Measuring files one by one finds the limit that they pass first.
use Rattle.std.proofs.Common.{◌≡◌, ℕ, ◌+◌, ◌≤◌, ◌<◌, Bool, true, false, cond, List, [], ◌∷◌, length, map, Option, None, Some, Result, Ok, Err, refl, sym, ap, ◌∙◌, arith}
use Rattle.std.specs.Prelude.{nat_lt, min}
use Rattle.std.specs.List.{All}
use Rattle.std.proofs.lemmas.Bool.{le-ltb, lt-ltb, ltb-true, ltb-false}
use Rattle.std.proofs.lemmas.List.{length-map, length-take, take_all}
use Rattle.std.proofs.lemmas.List.Elements.{All-nil, All-cons}
use Rattle.std.proofs.lemmas.Option.{none-some}
use Rattle.ftn_base.specs.Files.{File}
use Rattle.ftn_base.specs.Limits.{most_file_bytes, most_files, most_project_bytes}
use Rattle.ftn_base.specs.declared.limits.Limit.{Limit}
use Rattle.ftn_base.specs.declared.limits.Limit.TheVariants as limits
use Rattle.ftn_tree.specs.ProjectLimits.{limit_of, past_bytes}
use Rattle.ftn_tool.specs.steps.Fronts.{IsSmall, front, front_of, size_with}

-- ---- one file more

-- what comes after a text that was measured
abbrev pub after_size : Result ℕ Limit → List File → Option Limit
after_size (Ok size) files = past_bytes size files
after_size (Err which) files = Some which

by_tests : (large more : Bool) (size : ℕ) (files : List File)
    → cond large (Some limits.File) (cond more (Some limits.Project) (past_bytes size files)) ≡ after_size (cond large (Err limits.File) (cond more (Err limits.Project) (Ok size))) files
by_tests true more size files = refl
by_tests false true size files = refl
by_tests false false size files = refl

pub measured : (before : ℕ) (name text : List ℕ) (files : List File) → past_bytes before ((name, text) ∷ files) ≡ after_size (size_with before text) files
measured before name text files = by_tests (nat_lt most_file_bytes (length text)) (nat_lt most_project_bytes (before + length text)) (before + length text) files

-- ---- how many files there are

pub few_files : (files : List File) → length files ≤ most_files → limit_of files ≡ past_bytes 0 files
few_files files few = ap (λ (many : Bool). cond many (Some limits.Files) (past_bytes 0 files)) (le-ltb most_files (length files) few)

pub many_files : (files : List File) → most_files < length files → limit_of files ≡ Some limits.Files
many_files files many = ap (λ (many : Bool). cond many (Some limits.Files) (past_bytes 0 files)) (lt-ltb most_files (length files) many)

counted_few : (many : Bool) (rest : Option Limit) → cond many (Some limits.Files) rest ≡ None → many ≡ false
counted_few true rest e = absurd (none-some limits.Files (sym e))
counted_few false rest e = refl

pub none_few : (files : List File) → limit_of files ≡ None → length files ≤ most_files
none_few files none = ltb-false most_files (length files) (counted_few (nat_lt most_files (length files)) (past_bytes 0 files) none)

by_count : (many : Bool) (rest : Option Limit) → cond many (Some limits.Files) rest ≡ None → rest ≡ None
by_count true rest e = absurd (none-some limits.Files (sym e))
by_count false rest e = e

pub none_past : (files : List File) → limit_of files ≡ None → past_bytes 0 files ≡ None
none_past files none = by_count (nat_lt most_files (length files)) (past_bytes 0 files) none

-- ---- the fronts of files

-- a text that isn't too large is its own front
front_is : (text : List ℕ) → nat_lt most_file_bytes (length text) ≡ false → front text ≡ text
front_is text small =
    let within : length text ≤ most_file_bytes = ltb-false most_file_bytes (length text) small in
    take_all (most_file_bytes + 1) text (omega (arith, within))

-- the front of a text that is too large is too large
front_large : (text : List ℕ) → nat_lt most_file_bytes (length text) ≡ true → nat_lt most_file_bytes (length (front text)) ≡ true
front_large text large =
    let past : most_file_bytes < length text = ltb-true most_file_bytes (length text) large in
    let cut : length (front text) ≡ min (most_file_bytes + 1) (length text) = length-take (most_file_bytes + 1) text in
    lt-ltb most_file_bytes (length (front text)) (omega (arith, past, cut))

-- the limit that is passed at a file of that text
abbrev at_file : Bool → ℕ → List ℕ → Option Limit → Option Limit
at_file large before text rest = cond large (Some limits.File) (cond (nat_lt most_project_bytes (before + length text)) (Some limits.Project) rest)

-- the fronts of files pass the same limit
same_past : (before : ℕ) (files : List File) → past_bytes before (map front_of files) ≡ past_bytes before files
same_past before [] = refl
same_past before (file ∷ files) = on (nat_lt most_file_bytes (length file.1)) refl (λ size. same_past size files)
  where
    on : (large : Bool) → nat_lt most_file_bytes (length file.1) ≡ large → ((size : ℕ) → past_bytes size (map front_of files) ≡ past_bytes size files)
        → past_bytes before (map front_of (file ∷ files)) ≡ past_bytes before (file ∷ files)
    on true e rest =
        ap (λ (b : Bool). at_file b before (front file.1) (past_bytes (before + length (front file.1)) (map front_of files))) (front_large file.1 e)
        ∙ sym (ap (λ (b : Bool). at_file b before file.1 (past_bytes (before + length file.1) files)) e)
    on false e rest =
        ap (λ (t : List ℕ). at_file (nat_lt most_file_bytes (length t)) before t (past_bytes (before + length t) (map front_of files))) (front_is file.1 e)
        ∙ ap (at_file (nat_lt most_file_bytes (length file.1)) before file.1) (rest (before + length file.1))

pub same_limit : (files : List File) → limit_of (map front_of files) ≡ limit_of files
same_limit files =
    ap (λ (n : ℕ). cond (nat_lt most_files n) (Some limits.Files) (past_bytes 0 (map front_of files))) (length-map files front_of)
    ∙ ap (λ (rest : Option Limit). cond (nat_lt most_files (length files)) (Some limits.Files) rest) (same_past 0 files)

passed_none : (large more : Bool) (rest : Option Limit) → cond large (Some limits.File) (cond more (Some limits.Project) rest) ≡ None → (large ≡ false) × (more ≡ false) × (rest ≡ None)
passed_none true more rest e = absurd (none-some limits.File (sym e))
passed_none false true rest e = absurd (none-some limits.Project (sym e))
passed_none false false rest e = (refl, refl, e)

pub not_past : (before : ℕ) (file : File) (files : List File) → past_bytes before (file ∷ files) ≡ None
    → (nat_lt most_file_bytes (length file.1) ≡ false) × (nat_lt most_project_bytes (before + length file.1) ≡ false) × (past_bytes (before + length file.1) files ≡ None)
not_past before file files none =
    passed_none (nat_lt most_file_bytes (length file.1)) (nat_lt most_project_bytes (before + length file.1)) (past_bytes (before + length file.1) files) none

-- files that pass no limit are their own fronts
whole_files : (before : ℕ) (files : List File) → past_bytes before files ≡ None → map front_of files ≡ files
whole_files before [] none = refl
whole_files before (file ∷ files) none =
    let parts = not_past before file files none in
    ap (λ (t : List ℕ). (file.0, t) ∷ map front_of files) (front_is file.1 parts.0)
    ∙ ap (λ (others : List File). file ∷ others) (whole_files (before + length file.1) files parts.2)

pub whole : (files : List File) → limit_of files ≡ None → map front_of files ≡ files
whole files none = whole_files 0 files (none_past files none)

-- and none of them is too large
small_files : (before : ℕ) (files : List File) → past_bytes before files ≡ None → All IsSmall files
small_files before [] none = All-nil IsSmall
small_files before (file ∷ files) none =
    let parts = not_past before file files none in
    All-cons IsSmall file files (ltb-false most_file_bytes (length file.1) parts.0) (small_files (before + length file.1) files parts.2)

pub all_small : (files : List File) → limit_of files ≡ None → All IsSmall files
all_small files none = small_files 0 files (none_past files none)
