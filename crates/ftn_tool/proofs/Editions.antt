-- Where an edition stands among the words, reading the others finds the command and the position.
use Rattle.std.proofs.Common.{◌≡◌, ℕ, zero, suc, ◌+◌, ◌≤◌, ◌<◌, Bool, true, false, cond, List, [], ◌∷◌, ◌++◌, length, take, drop, map, get_or, Option, Some, None, refl, sym, ap, ◌∙◌, subst, arith, length-append, inl, inr}
use Rattle.std.specs.Prelude.{◌⊎◌, ◌||◌, nat_lt, slice_get, Result, Ok, Err}
use Rattle.std.specs.List.{find, list_any}
use Rattle.std.proofs.lemmas.Bool.{or_parts, le-leb, lt-leb, ltb-true, ltb-false}
use Rattle.std.proofs.Math.Seq.{take-append_seam, drop-append-add}
use Rattle.ftn_base.specs.declared.name.Edition.{Edition}
use Rattle.ftn_base.specs.declared.name.Edition.TheVariants.{F90, F2003}
use Rattle.ftn_tool.specs.declared.command.Command.{Command}
use Rattle.ftn_tool.specs.Words.{Row, Word, bad_position, command_of, commands, edition_in, is_begun, names_edition, is_whole, least_bad, meant, plain, without_first}
use Rattle.ftn_tool.specs.steps.Reading.{edition_by, edition_from, option_at, place_of, position_of, read}
use Rattle.ftn_tool.specs.steps.Reading.{plain as left_out}
use Rattle.ftn_tool.proofs.Positions.{meant_plain, read_is_plain_command}

-- ---- words without the first that passes a test

module _ (test : Word → Bool) where
  none_take : (words : List Word) (k : ℕ) → list_any test words ≡ false → without_first test (take k words) ≡ take k words
  none_take words zero none = refl
  none_take [] (suc k) none = refl
  none_take (word ∷ words) (suc k) none =
      let parts = or_parts (test word) (list_any test words) none in
      ap (λ (b : Bool). cond b (take k words) (word ∷ without_first test (take k words))) parts.0 ∙ ap (λ (rest : List Word). word ∷ rest) (none_take words k parts.1)

  none_whole : (words : List Word) → list_any test words ≡ false → without_first test words ≡ words
  none_whole [] none = refl
  none_whole (word ∷ words) none =
      let parts = or_parts (test word) (list_any test words) none in
      ap (λ (b : Bool). cond b words (word ∷ without_first test words)) parts.0 ∙ ap (λ (rest : List Word). word ∷ rest) (none_whole words parts.1)

  module _ (option : Word) (after : List Word) (is : test option ≡ true) where
    take_before : (before : List Word) (k : ℕ) → list_any test before ≡ false → k ≤ length before → without_first test (take k (before ++ option ∷ after)) ≡ take k (before ++ after)
    take_before before zero none within = refl
    take_before [] (suc k) none within = absurd (omega (arith, within))
    take_before (word ∷ before) (suc k) none within =
        let parts = or_parts (test word) (list_any test before) none in
        ap (λ (b : Bool). cond b (take k (before ++ option ∷ after)) (word ∷ without_first test (take k (before ++ option ∷ after)))) parts.0
        ∙ ap (λ (rest : List Word). word ∷ rest) (take_before before k parts.1 (omega (arith, within)))

    take_past : (before : List Word) (k : ℕ) → list_any test before ≡ false → length before ≤ k → without_first test (take (suc k) (before ++ option ∷ after)) ≡ take k (before ++ after)
    take_past [] k none past = ap (λ (b : Bool). cond b (take k after) (option ∷ without_first test (take k after))) is
    take_past (word ∷ before) zero none past = absurd (omega (arith, past))
    take_past (word ∷ before) (suc k) none past =
        let parts = or_parts (test word) (list_any test before) none in
        ap (λ (b : Bool). cond b (take (suc k) (before ++ option ∷ after)) (word ∷ without_first test (take (suc k) (before ++ option ∷ after)))) parts.0
        ∙ ap (λ (rest : List Word). word ∷ rest) (take_past before k parts.1 (omega (arith, past)))

    whole_without : (before : List Word) → list_any test before ≡ false → without_first test (before ++ option ∷ after) ≡ before ++ after
    whole_without [] none = ap (λ (b : Bool). cond b after (option ∷ without_first test after)) is
    whole_without (word ∷ before) none =
        let parts = or_parts (test word) (list_any test before) none in
        ap (λ (b : Bool). cond b (before ++ option ∷ after) (word ∷ without_first test (before ++ option ∷ after))) parts.0
        ∙ ap (λ (rest : List Word). word ∷ rest) (whole_without before parts.1)

    some_any : (before : List Word) → list_any test (before ++ option ∷ after) ≡ true
    some_any [] = ap (λ (b : Bool). b || list_any test after) is
    some_any (word ∷ before) = on (test word) (some_any before)
      where
        on : (b : Bool) → list_any test (before ++ option ∷ after) ≡ true → (b || list_any test (before ++ option ∷ after)) ≡ true
        on true rest = refl
        on false rest = rest

-- ---- the place of the option

no_option : (test : Word → Bool) (at : ℕ) (words : List Word) → list_any test words ≡ false → edition_from test at words ≡ None
no_option test at [] none = refl
no_option test at (word ∷ words) none =
    let parts = or_parts (test word) (list_any test words) none in
    ap (λ (b : Bool). cond b (Some at) (edition_from test (at + 1) words)) parts.0 ∙ no_option test (at + 1) words parts.1

some_at : (n m : ℕ) → n ≡ m → ◌≡◌ {A = Option ℕ} (Some n) (Some m)
some_at n m e = ap Some e

the_option : (test : Word → Bool) (at : ℕ) (before : List Word) (option : Word) (after : List Word) → list_any test before ≡ false → test option ≡ true → edition_from test at (before ++ option ∷ after) ≡ Some (at + length before)
the_option test at [] option after none is = ap (λ (b : Bool). cond b (Some at) (edition_from test (at + 1) after)) is ∙ some_at at (at + 0) (omega arith)
the_option test at (word ∷ before) option after none is =
    let parts = or_parts (test word) (list_any test before) none in
    ap (λ (b : Bool). cond b (Some at) (edition_from test (at + 1) (before ++ option ∷ after))) parts.0
    ∙ the_option test (at + 1) before option after parts.1 is
    ∙ some_at (at + 1 + length before) (at + suc (length before)) (omega arith)

-- ---- the least position that is bad

from_here : (test : List Word → Bool) (n k : ℕ) (words : List Word) → k ≤ least_bad test n k words
from_here test zero k words = omega arith
from_here test (suc n) k words = on (test (take k words)) (from_here test n (k + 1) words)
  where
    on : (b : Bool) → k + 1 ≤ least_bad test n (k + 1) words → k ≤ cond b (least_bad test n (k + 1) words) k
    on true more = omega (arith, more)
    on false more = omega arith

-- two tests that agree
same_least : (one other : List Word → Bool) (words : List Word) → ((k : ℕ) → one (take k words) ≡ other (take k words)) → (n k : ℕ) → least_bad one n k words ≡ least_bad other n k words
same_least one other words same zero k = refl
same_least one other words same (suc n) k =
    ap (λ (b : Bool). cond b (least_bad one n (k + 1) words) k) (same k) ∙ ap (λ (m : ℕ). cond (other (take k words)) m k) (same_least one other words same n (k + 1))

-- one word more stands among the words, at that place
module _ (test plain_test : List Word → Bool) (words others : List Word) (at : ℕ)
    (early : (k : ℕ) → k ≤ at → test (take k words) ≡ plain_test (take k others))
    (late : (k : ℕ) → at ≤ k → test (take (k + 1) words) ≡ plain_test (take k others)) where
  least_past : (n k : ℕ) → at ≤ k → least_bad test n (k + 1) words ≡ least_bad plain_test n k others + 1
  least_past zero k past = refl
  least_past (suc n) k past =
      ap (λ (b : Bool). cond b (least_bad test n (k + 1 + 1) words) (k + 1)) (late k past)
      ∙ on (plain_test (take k others)) (least_past n (k + 1) (omega (arith, past)))
    where
      on : (b : Bool) → least_bad test n (k + 1 + 1) words ≡ least_bad plain_test n (k + 1) others + 1
          → cond b (least_bad test n (k + 1 + 1) words) (k + 1) ≡ cond b (least_bad plain_test n (k + 1) others) k + 1
      on true more = more
      on false more = refl

  stays : (k : ℕ) → k ≤ at → position_of (Some at) k ≡ k
  stays k within = ap (λ (b : Bool). cond b k (k + 1)) (le-leb k at within)

  moves : (k : ℕ) → at < k → position_of (Some at) k ≡ k + 1
  moves k past = ap (λ (b : Bool). cond b k (k + 1)) (lt-leb k at past)

  least_before : (n k : ℕ) → k ≤ at → at < n + k → least_bad test (suc n) k words ≡ position_of (Some at) (least_bad plain_test n k others)
  least_before zero k within reach = absurd (omega (arith, within, reach))
  least_before (suc n) k within reach =
      turn (λ less. least_before n (k + 1) (omega (arith, ltb-true k at less)) (omega (arith, reach))) (plain_test (take k others)) refl
    where
      first : (b : Bool) → plain_test (take k others) ≡ b → least_bad test (suc (suc n)) k words ≡ cond b (least_bad test (suc n) (k + 1) words) k
      first b e = ap (λ (c : Bool). cond c (least_bad test (suc n) (k + 1) words) k) (early k within ∙ e)

      other : (b : Bool) → plain_test (take k others) ≡ b → cond b (least_bad plain_test n (k + 1) others) k ≡ least_bad plain_test (suc n) k others
      other b e = ap (λ (c : Bool). cond c (least_bad plain_test n (k + 1) others) k) (sym e)

      turn : (nat_lt k at ≡ true → least_bad test (suc n) (k + 1) words ≡ position_of (Some at) (least_bad plain_test n (k + 1) others)) → (b : Bool) → plain_test (take k others) ≡ b → least_bad test (suc (suc n)) k words ≡ position_of (Some at) (least_bad plain_test (suc n) k others)
      turn step false e = first false e ∙ sym (stays k within) ∙ ap (position_of (Some at)) (other false e)
      turn step true e = first true e ∙ next (nat_lt k at) refl ∙ ap (position_of (Some at)) (other true e)
        where
          next : (c : Bool) → nat_lt k at ≡ c → least_bad test (suc n) (k + 1) words ≡ position_of (Some at) (least_bad plain_test n (k + 1) others)
          next true less = step less
          next false more =
              let here : at ≤ k = ltb-false k at more in
              ap (λ (c : Bool). cond c (least_bad test n (k + 1 + 1) words) (k + 1)) (late k here ∙ e)
              ∙ least_past n (k + 1) (omega (arith, here))
              ∙ sym (moves (least_bad plain_test n (k + 1) others) (omega (arith, here, from_here plain_test n (k + 1) others)))

-- ---- the command

abbrev pub moved : Option ℕ → Result Command ℕ → Result Command ℕ
moved option (Ok command) = Ok command
moved option (Err k) = Err (position_of option k)

ok_both : (row : Row) (one other : Edition) (words others : List Word) → one ≡ other → words ≡ others → ◌≡◌ {A = Result Command ℕ} (Ok (row.1 one words)) (Ok (row.1 other others))
ok_both row one other words others e f = ap (λ (edition : Edition). Ok (row.1 edition words)) e ∙ ap (λ (ws : List Word). Ok (row.1 other ws)) f

-- what the words mean, where the others are these
module _ (words others : List Word) (edition : Edition) (option : Option ℕ) (plain_is : plain words ≡ others) (edition_is : edition_in words ≡ edition)
    (bad_is : bad_position words ≡ position_of option (least_bad is_begun (length others) 1 others)) where
  meant_moved : (found : Option Row) → meant words found ≡ moved option (meant_plain edition others found)
  meant_moved (Some row) = ok_both row (edition_in words) edition (plain words) others edition_is plain_is
  meant_moved None = ap Err bad_is

  command_moved : command_of words ≡ moved option (read edition others)
  command_moved =
      ap (λ (ws : List Word). meant words (find (is_whole ws) commands)) plain_is
      ∙ meant_moved (find (is_whole others) commands)
      ∙ ap (moved option) (sym (read_is_plain_command edition others))

-- ---- both cases

one_more : (n : ℕ) → n + 1 ≡ suc n
one_more n = omega arith

-- the words after the first one
abbrev Parted : (Word → Bool) → List Word → Type 0
Parted test words =
    (list_any test words ≡ false)
    ⊎ ((before : List Word) × (option : Word) × (after : List Word) × (words ≡ before ++ option ∷ after) × (list_any test before ≡ false) × (test option ≡ true))

neither : (a b : Bool) → a ≡ false → b ≡ false → (a || b) ≡ false
neither a b e f = ap (λ (c : Bool). c || b) e ∙ f

parted : (test : Word → Bool) (words : List Word) → Parted test words
parted test [] = inl refl
parted test (word ∷ words) = on (test word) refl (parted test words)
  where
    on : (b : Bool) → test word ≡ b → Parted test words → Parted test (word ∷ words)
    on true is rest = inr ([], word, words, refl, refl, is)
    on false not (inl none) = inl (neither (test word) (list_any test words) not none)
    on false not (inr found) =
        inr (
          word ∷ found.0,
          found.1,
          found.2,
          ap (λ (ws : List Word). word ∷ ws) found.3,
          neither (test word) (list_any test found.0) not found.4,
          found.5,
        )

abbrev Reads : List Word → Type 0
Reads words = command_of words ≡ moved (option_at words) (read (edition_by (option_at words)) (left_out (option_at words) words))

-- with what is known of the option
reads_by : (words others : List Word) (option : Option ℕ) → option_at words ≡ option → left_out option words ≡ others
    → command_of words ≡ moved option (read (edition_by option) others) → Reads words
reads_by words others option is left means =
    means ∙ ap (λ (ws : List Word). moved option (read (edition_by option) ws)) (sym left) ∙ sym (ap (λ (o : Option ℕ). moved o (read (edition_by o) (left_out o words))) is)

without_option : (first : Word) (rest : List Word) → list_any (names_edition first) rest ≡ false → Reads (first ∷ rest)
without_option first rest none =
    reads_by (first ∷ rest) (first ∷ rest) None (no_option (names_edition first) 1 rest none) refl
    (command_moved (first ∷ rest) (first ∷ rest) F90 None
    (ap (λ (ws : List Word). first ∷ ws) (none_whole (names_edition first) rest none))
    (ap (λ (b : Bool). cond b F2003 F90) none)
    (same_least (λ (front : List Word). is_begun (plain front)) is_begun (first ∷ rest) fronts (length (first ∷ rest)) 1))
  where
    fronts : (k : ℕ) → is_begun (plain (take k (first ∷ rest))) ≡ is_begun (take k (first ∷ rest))
    fronts zero = refl
    fronts (suc k) = ap (λ (ws : List Word). is_begun (first ∷ ws)) (none_take (names_edition first) rest k none)

with_option : (first : Word) (before : List Word) (option : Word) (after : List Word) → list_any (names_edition first) before ≡ false → names_edition first option ≡ true
    → Reads (first ∷ (before ++ option ∷ after))
with_option first before option after none is =
    reads_by (first ∷ rest) (first ∷ (before ++ after)) (Some (suc (length before))) (the_option (names_edition first) 1 before option after none is ∙ some_at (1 + length before) (suc (length before)) (omega arith))
    all_left
    (command_moved (first ∷ rest) (first ∷ (before ++ after)) F2003 (Some (suc (length before)))
    (ap (λ (ws : List Word). first ∷ ws) (whole_without (names_edition first) option after is before none))
    (ap (λ (b : Bool). cond b F2003 F90) (some_any (names_edition first) option after is before))
    (ap (λ (n : ℕ). least_bad (λ (front : List Word). is_begun (plain front)) n 1 (first ∷ rest)) many
    ∙ least_before (λ (front : List Word). is_begun (plain front)) is_begun (first ∷ rest) (first ∷ (before ++ after)) (suc (length before)) early late
    (length (first ∷ (before ++ after))) 1 (omega arith) (omega (arith, length-append before after))))
  where
    rest : List Word
    rest = before ++ option ∷ after

    left : take (length before) (before ++ option ∷ after) ++ drop (length before + 1) (before ++ option ∷ after) ≡ before ++ after
    left = ap (λ (ws : List Word). ws ++ drop (length before + 1) (before ++ option ∷ after)) (take-append_seam before (option ∷ after))
        ∙ ap (λ (ws : List Word). before ++ ws) (drop-append-add before (option ∷ after) 1)

    all_left : left_out (Some (suc (length before))) (first ∷ rest) ≡ first ∷ (before ++ after)
    all_left =
        ap (λ (n : ℕ). take (suc (length before)) (first ∷ rest) ++ drop n (first ∷ rest)) (one_more (suc (length before)))
        ∙ ap (λ (n : ℕ). take (suc (length before)) (first ∷ rest) ++ drop n rest) (sym (one_more (length before)))
        ∙ ap (λ (ws : List Word). first ∷ ws) left

    many : length (first ∷ rest) ≡ suc (length (first ∷ (before ++ after)))
    many = omega (arith, length-append before (option ∷ after), length-append before after)

    early : (k : ℕ) → k ≤ suc (length before) → is_begun (plain (take k (first ∷ rest))) ≡ is_begun (take k (first ∷ (before ++ after)))
    early zero within = refl
    early (suc k) within = ap (λ (ws : List Word). is_begun (first ∷ ws)) (take_before (names_edition first) option after is before k none (omega (arith, within)))

    late : (k : ℕ) → suc (length before) ≤ k → is_begun (plain (take (k + 1) (first ∷ rest))) ≡ is_begun (take k (first ∷ (before ++ after)))
    late zero past = absurd (omega (arith, past))
    late (suc k) past =
        ap (λ (n : ℕ). is_begun (plain (take n (first ∷ rest)))) (one_more (suc k))
        ∙ ap (λ (ws : List Word). is_begun (first ∷ ws)) (take_past (names_edition first) option after is before k none (omega (arith, past)))

pub command_read : (words : List Word) → Reads words
command_read [] = refl
command_read (first ∷ rest) = on (parted (names_edition first) rest)
  where
    on : Parted (names_edition first) rest → Reads (first ∷ rest)
    on (inl none) = without_option first rest none
    on (inr found) =
        subst (λ (ws : List Word). Reads (first ∷ ws)) (sym found.3)
        (with_option first found.0 found.1 found.2 found.4 found.5)

-- ---- the word at a place

get_before : (at : ℕ) (words : List Word) (i : ℕ) → i < at → slice_get words i ≡ slice_get (take at words ++ drop (suc at) words) i
get_before zero words i less = absurd (omega (arith, less))
get_before (suc at) [] i less = refl
get_before (suc at) (word ∷ words) zero less = refl
get_before (suc at) (word ∷ words) (suc i) less = get_before at words i (omega (arith, less))

get_past : (at : ℕ) (words : List Word) (i : ℕ) → at ≤ i → slice_get words (suc i) ≡ slice_get (take at words ++ drop (suc at) words) i
get_past zero [] i past = refl
get_past zero (word ∷ words) i past = refl
get_past (suc at) [] i past = refl
get_past (suc at) (word ∷ words) zero past = absurd (omega (arith, past))
get_past (suc at) (word ∷ words) (suc i) past = get_past at words i (omega (arith, past))

pub word_left : (option : Option ℕ) (words : List Word) (i : ℕ) → slice_get words (place_of option i) ≡ slice_get (left_out option words) i
word_left None words i = refl
word_left (Some at) words i = on (nat_lt i at) refl
  where
    on : (b : Bool) → nat_lt i at ≡ b → slice_get words (place_of (Some at) i) ≡ slice_get (left_out (Some at) words) i
    on true less = ap (λ (b : Bool). slice_get words (cond b i (i + 1))) less ∙ get_before at words i (ltb-true i at less) ∙ ap (λ (n : ℕ). slice_get (take at words ++ drop n words) i) (sym (one_more at))
    on false more =
        ap (λ (b : Bool). slice_get words (cond b i (i + 1))) more
        ∙ ap (λ (n : ℕ). slice_get words n) (one_more i)
        ∙ get_past at words i (ltb-false i at more)
        ∙ ap (λ (n : ℕ). slice_get (take at words ++ drop n words) i) (sym (one_more at))

-- ---- for the code

pub found_as : (words : List Word) (option : Option ℕ) (reading : Result Command ℕ) → option ≡ option_at words → read (edition_by option) (left_out option words) ≡ reading → command_of words ≡ moved option reading
found_as words option reading is found =
    command_read words ∙ ap (λ (o : Option ℕ). moved o (read (edition_by o) (left_out o words))) (sym is) ∙ ap (moved option) found

-- ---- one word after another, where words are seen by their bytes

module _ {A : Type 0} (bytes : A → Word) where
  drop_words : (words : List A) (i : ℕ) (default : A) → i < length words → drop i (map bytes words) ≡ bytes (get_or words i default) ∷ drop (suc i) (map bytes words)
  drop_words [] i default inside = absurd (omega (arith, inside))
  drop_words (word ∷ words) zero default inside = refl
  drop_words (word ∷ words) (suc i) default inside = drop_words words i default (omega (arith, inside))

  edition_here : (test : Word → Bool) (words : List A) (i : ℕ) (word : A) → i < length words → word ≡ get_or words i word
      → edition_from test i (drop i (map bytes words)) ≡ cond (test (bytes word)) (Some i) (edition_from test (i + 1) (drop (i + 1) (map bytes words)))
  edition_here test words i word inside is =
      ap (edition_from test i) (drop_words words i word inside ∙ ap (λ (w : A). bytes w ∷ drop (suc i) (map bytes words)) (sym is) ∙ ap (λ (n : ℕ). bytes word ∷ drop n (map bytes words)) (sym (one_more i)))

  pub edition_yes : (test : Word → Bool) (words : List A) (i : ℕ) (word : A) → i < length words → word ≡ get_or words i word → test (bytes word) ≡ true → edition_from test i (drop i (map bytes words)) ≡ Some i
  edition_yes test words i word inside is passes =
      edition_here test words i word inside is ∙ ap (λ (b : Bool). cond b (Some i) (edition_from test (i + 1) (drop (i + 1) (map bytes words)))) passes

  pub edition_not : (test : Word → Bool) (words : List A) (i : ℕ) (word : A) → i < length words → word ≡ get_or words i word → test (bytes word) ≡ false
      → edition_from test i (drop i (map bytes words)) ≡ edition_from test (i + 1) (drop (i + 1) (map bytes words))
  edition_not test words i word inside is fails =
      edition_here test words i word inside is ∙ ap (λ (b : Bool). cond b (Some i) (edition_from test (i + 1) (drop (i + 1) (map bytes words)))) fails
