-- Commands, as rows of tests for their words, and the position of a bad word.
use Rattle.std.specs.Prelude.{ℕ, zero, suc, ◌+◌, ◌^◌, Bool, true, false, not, ◌&&◌, ◌==◌, nat_lt, List, [], ◌∷◌, length, take, codes, Option, Some, None, Result, Ok, Err, if◌then◌else◌, unwrap_or, slice_get}
use Rattle.std.specs.List.{list_all, list_any, find}
use Rattle.std.specs.Str.{bytes_eq}
use Rattle.ftn_base.specs.Letters.{is_digit}
use Rattle.ftn_base.specs.Names.{is_file_name}
use Rattle.free_scan.specs.Spelling.{number_of}
use Rattle.ftn_tool.specs.declared.command.Command.{Command}
use Rattle.ftn_base.specs.declared.name.Edition.{Edition}
use Rattle.ftn_base.specs.declared.name.Edition.TheVariants.{F90, F2003}
use Rattle.ftn_tool.specs.declared.command.Command.TheVariants.{Project, Recover}
use Rattle.ftn_tool.specs.declared.command.ProjectCommand.TheVariants.{Apply, Ask}
use Rattle.ftn_tool.specs.declared.command.Request.TheVariants.{Check}
use Rattle.ftn_tool.specs.declared.command.Order.TheVariants.{Rename}

abbrev pub Word : Type 0
Word = List ℕ

-- a word that begins with `-`
abbrev pub is_option : Word → Bool
is_option [] = false
is_option (b ∷ rest) = b == 45

abbrev pub is_text : Word → Word → Bool
is_text text word = bytes_eq word text

-- any word that is no option
abbrev pub is_plain_word : Word → Bool
is_plain_word word = not (is_option word)

-- a file name that is no option
abbrev pub is_file_word : Word → Bool
is_file_word word = is_plain_word word && is_file_name word

-- decimal digits without a leading zero
abbrev pub is_numeral : Word → Bool
is_numeral [] = false
is_numeral (b ∷ rest) = not (b == 48) && list_all is_digit (b ∷ rest)

-- a line or a column: a number from 1, below 2^32
abbrev pub is_count_word : Word → Bool
is_count_word word = is_numeral word && nat_lt (number_of word) (2 ^ 32)

-- ---- the edition

abbrev pub is_edition : Word → Bool
is_edition word = is_text (codes "--edition=2003") word

-- a word after that first one names an edition; not after `recover`, which reads no project
abbrev pub names_edition : Word → Word → Bool
names_edition first word = not (is_text (codes "recover") first) && is_edition word

-- without the first word that passes the test
abbrev pub without_first : (Word → Bool) → List Word → List Word
without_first test [] = []
without_first test (word ∷ words) = if test word then words else word ∷ without_first test words

-- `--edition=2003` may stand once, anywhere after the first word: the words without it
abbrev pub plain : List Word → List Word
plain [] = []
plain (first ∷ words) = first ∷ without_first (names_edition first) words

abbrev pub edition_in : List Word → Edition
edition_in [] = F90
edition_in (first ∷ words) = if list_any (names_edition first) words then F2003 else F90

-- ---- the words of one kind of command: a test for each, and the command that they mean

abbrev pub Row : Type 0
Row = List (Word → Bool) × (Edition → List Word → Command)

abbrev pub nth : List Word → ℕ → Word
nth words i = unwrap_or (slice_get words i) []

-- check
abbrev pub check_row : Row
check_row = (is_text (codes "check") ∷ [], λ edition words. Project (Ask Check edition))

-- recover
abbrev pub recover_row : Row
recover_row = (is_text (codes "recover") ∷ [], λ edition words. Recover)

-- apply rename FILE LINE COLUMN NEW
abbrev pub rename_row : Row
rename_row = (
  is_text (codes "apply") ∷ is_text (codes "rename") ∷ is_file_word ∷ is_count_word ∷ is_count_word ∷ is_plain_word ∷ [],
  λ edition words. Project (Apply (Rename (record { file = nth words 2; line = number_of (nth words 3); column = number_of (nth words 4); new = nth words 5 })) edition),
)

abbrev pub commands : List Row
commands = check_row ∷ recover_row ∷ rename_row ∷ []

-- the words are the first words of such a command
abbrev pub begins : List (Word → Bool) → List Word → Bool
begins tests [] = true
begins [] (word ∷ words) = false
begins (test ∷ tests) (word ∷ words) = test word && begins tests words

-- they are all its words
abbrev pub is_whole : List Word → Row → Bool
is_whole words row = begins row.0 words && length row.0 == length words

-- some command begins with these words
abbrev pub is_begun : List Word → Bool
is_begun words = list_any (λ (row : Row). begins row.0 words) commands

-- the least k from this one on, up to so many, such that the test fails for the first k words; else the number after them
abbrev pub least_bad : (List Word → Bool) → ℕ → ℕ → List Word → ℕ
least_bad test zero k words = k
least_bad test (suc n) k words = if test (take k words) then least_bad test n (k + 1) words else k

-- the position of the first word that is bad or missing, from 1: the least k such that no command begins with the first k words
abbrev pub bad_position : List Word → ℕ
bad_position words = least_bad (λ front. is_begun (plain front)) (length words) 1 words

abbrev pub meant : List Word → Option Row → Result Command ℕ
meant words (Some row) = Ok (row.1 (edition_in words) (plain words))
meant words None = Err (bad_position words)

-- the command that the words mean, or the position of the bad word
abbrev pub command_of : List Word → Result Command ℕ
command_of words = meant words (find (is_whole (plain words)) commands)
