-- Reading words from the first on, as the code does. This serves the proof that the code finds the command
-- and the position that `Words` defines.
use Rattle.std.specs.Prelude.{◌≡◌, ℕ, ◌+◌, ◌^◌, nat_lt, nat_le, Bool, false, List, [], ◌∷◌, ◌++◌, take, drop, codes, Option, Some, None, Result, Ok, Err, if◌then◌else◌, slice_get}
use Rattle.free_scan.specs.Spelling.{number_of}
use Rattle.ftn_tool.specs.declared.command.Command.{Command}
use Rattle.ftn_base.specs.declared.name.Edition.{Edition}
use Rattle.ftn_base.specs.declared.name.Edition.TheVariants.{F90, F2003}
use Rattle.ftn_tool.specs.declared.command.Command.TheVariants.{Project, Recover}
use Rattle.ftn_tool.specs.declared.command.ProjectCommand.TheVariants.{Apply, Ask}
use Rattle.ftn_tool.specs.declared.command.Request.TheVariants.{Check}
use Rattle.ftn_tool.specs.declared.command.Order.TheVariants.{Rename}
use Rattle.ftn_tool.specs.declared.command.WordsFault.{WordsFault}
use Rattle.ftn_tool.specs.declared.command.WordsFault.TheVariants as faults
use Rattle.ftn_tool.specs.Words.{Word, names_edition, is_text, is_file_word, is_count_word, is_plain_word}

infixl 10 ◌>>=◌
abbrev pub ◌>>=◌ : {A B : Type 0} → Result A ℕ → (A → Result B ℕ) → Result B ℕ
(Ok x) >>= f = f x
(Err k) >>= f = Err k

abbrev pub tested : (Word → Bool) → ℕ → Option Word → Result Word ℕ
tested test at None = Err (at + 1)
tested test at (Some word) = if test word then Ok word else Err (at + 1)

-- the word at that place, counted from 0, where it is there and passes the test
abbrev pub word_at : (Word → Bool) → List Word → ℕ → Result Word ℕ
word_at test words at = tested test at (slice_get words at)

abbrev pub ended : ℕ → Option Word → Result Word ℕ
ended at None = Ok []
ended at (Some word) = Err (at + 1)

-- the number, where it is below 2^32
abbrev pub below : ℕ → Option ℕ
below n = if nat_lt n (2 ^ 32) then Some n else None

abbrev pub counted : ℕ → Option Word → Result ℕ ℕ
counted at word = tested is_count_word at word >>= (λ text. Ok (number_of text))

-- the number that the word there spells
abbrev pub count_at : List Word → ℕ → Result ℕ ℕ
count_at words at = counted at (slice_get words at)

abbrev pub rename_of : Edition → Word → ℕ → ℕ → Word → Command
rename_of edition file line column new = Project (Apply (Rename (record { file = file; line = line; column = column; new = new })) edition)

abbrev pub read_apply : Edition → List Word → Result Command ℕ
read_apply edition words =
    word_at (is_text (codes "apply")) words 0 >>= (λ a.
    word_at (is_text (codes "rename")) words 1 >>= (λ r.
    word_at is_file_word words 2 >>= (λ file.
    count_at words 3 >>= (λ line.
    count_at words 4 >>= (λ column.
    word_at is_plain_word words 5 >>= (λ new.
    ended 6 (slice_get words 6) >>= (λ no_more.
    Ok (rename_of edition file line column new))))))))

abbrev pub is_word : Word → Option Word → Bool
is_word text None = false
is_word text (Some word) = is_text text word

abbrev pub read : Edition → List Word → Result Command ℕ
read edition words =
    if is_word (codes "check") (slice_get words 0) then ended 1 (slice_get words 1) >>= (λ no_more. Ok (Project (Ask Check edition)))
    else if is_word (codes "recover") (slice_get words 0) then ended 1 (slice_get words 1) >>= (λ no_more. Ok Recover)
    else read_apply edition words

-- ---- the edition

-- the place of the first word that passes the test, where the first of these has this place
abbrev pub edition_from : (Word → Bool) → ℕ → List Word → Option ℕ
edition_from test at [] = None
edition_from test at (word ∷ words) = if test word then Some at else edition_from test (at + 1) words

abbrev pub option_after : List Word → Option Word → Option ℕ
option_after words None = None
option_after words (Some first) = edition_from (names_edition first) 1 (drop 1 words)

-- the place of the first word that names an edition
abbrev pub option_at : List Word → Option ℕ
option_at words = option_after words (slice_get words 0)

abbrev pub edition_by : Option ℕ → Edition
edition_by None = F90
edition_by (Some at) = F2003

-- the words without the one at that place
abbrev pub plain : Option ℕ → List Word → List Word
plain None words = words
plain (Some at) words = take at words ++ drop (at + 1) words

-- the place among all words, from 0, and the position, from 1
abbrev pub place_of : Option ℕ → ℕ → ℕ
place_of None i = i
place_of (Some at) i = if nat_lt i at then i else i + 1

abbrev pub position_of : Option ℕ → ℕ → ℕ
position_of None k = k
position_of (Some at) k = if nat_le k at then k else k + 1

-- what a fault says of a reading, which is free for want of memory
abbrev pub Fails : {A : Type 0} → WordsFault → Result A ℕ → Type 0
Fails (faults.Bad k) reading = reading ≡ Err k
Fails faults.NoMemory reading = Unit {0}

-- what was returned, seen by view, is what reading gives
abbrev pub Finds : {X A : Type 0} → (X → A) → Result X WordsFault → Result A ℕ → Type 0
Finds view (Ok x) reading = reading ≡ Ok (view x)
Finds view (Err fault) reading = Fails fault reading
