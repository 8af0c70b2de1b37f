-- The lengths of lines, by one walk over the text.
use Rattle.std.proofs.Common.{◌≡◌, ℕ, ◌+◌, ◌-◌, ◌≤◌, Bool, true, false, cond, nat_lt, List, [], ◌∷◌, ◌++◌, length, drop, map, Option, Some, None, refl, ap, sym, ◌∙◌, zero-add, arith}
use Rattle.std.specs.Prelude.{if◌then◌else◌, unwrap_or, slice_get}
use Rattle.std.specs.List.{find}
use Rattle.std.specs.Option.{option_map}
use Rattle.std.proofs.lemmas.Bool.{cond-true, lt-ltb}
use Rattle.std.proofs.lemmas.List.{drop_all}
use Rattle.std.proofs.lemmas.Option.{slice_get-map}
use Rattle.ftn_tree.specs.declared.token.Token.{Token}
use Rattle.ftn_tree.specs.Lines.{is_line_feed}
use Rattle.std.specs.List.{onto_first}
use Rattle.ftn_base.specs.Limits.{line_limit}
use Rattle.free_scan.specs.Lines.{lines}
use Rattle.rename_ref.specs.Conditions.{line_length, on_long_line}
use Rattle.rename_ref.specs.steps.LineLengths.{last_length, is_long_in}

-- the lengths of the lines, where so many bytes of the first went before
abbrev pub lengths_after : ℕ → List ℕ → List ℕ
lengths_after before [] = last_length before
lengths_after before (b ∷ rest) = if is_line_feed b then (before + 1) ∷ lengths_after 0 rest else lengths_after (before + 1) rest

-- so many bytes more in the first line
abbrev ahead : ℕ → List ℕ → List ℕ
ahead before [] = last_length before
ahead before (n ∷ ns) = (before + n) ∷ ns

none_ahead : (ns : List ℕ) → ahead 0 ns ≡ ns
none_ahead [] = refl
none_ahead (n ∷ ns) = ap (λ k. k ∷ ns) (zero-add n)

one_ahead : (before b : ℕ) (found : List (List ℕ)) → ahead (before + 1) (map length found) ≡ ahead before (map length (onto_first b found))
one_ahead before b [] =
    let e : before + 1 ≡ before + length (b ∷ []) = omega arith in
    cond-true (nat_lt 0 (before + 1)) ((before + 1) ∷ []) [] (lt-ltb 0 (before + 1) (omega arith)) ∙ ap (λ k. k ∷ []) e
one_ahead before b (line ∷ found) =
    let e : (before + 1) + length line ≡ before + length (b ∷ line) = omega arith in
    ap (λ k. k ∷ map length found) e

walk : (before : ℕ) (text : List ℕ) → lengths_after before text ≡ ahead before (map length (lines text))
walk before [] = refl
walk before (b ∷ rest) =
    elim (is_line_feed b) as (λ v. (if v then (before + 1) ∷ lengths_after 0 rest else lengths_after (before + 1) rest)
    ≡ ahead before (map length (if v then (b ∷ []) ∷ lines rest else onto_first b (lines rest)))) [
      | true ↦ ap (λ ns. (before + 1) ∷ ns) (walk 0 rest ∙ none_ahead (map length (lines rest)))
      | false ↦ walk (before + 1) rest ∙ one_ahead before b (lines rest)
    ]

-- at the end of the text the lengths of all lines are told
pub all_lengths : (text told : List ℕ) (before at : ℕ) → length text ≤ at → lengths_after 0 text ≡ told ++ lengths_after before (drop at text)
    → map length (lines text) ≡ told ++ last_length before
all_lengths text told before at past h =
    sym (walk 0 text ∙ none_ahead (map length (lines text))) ∙ h ∙ ap (λ rest. told ++ lengths_after before rest) (drop_all at text past)

length_or_none : (found : Option (List ℕ)) → length (unwrap_or found []) ≡ unwrap_or (option_map length found) 0
length_or_none None = refl
length_or_none (Some line) = refl

-- the length of a line stands in the table
pub told_length : (text lengths : List ℕ) (line : ℕ) → lengths ≡ map length (lines text) → unwrap_or (slice_get lengths (line - 1)) 0 ≡ line_length text line
told_length text lengths line h =
    ap (λ ns. unwrap_or (slice_get ns (line - 1)) 0) h
    ∙ ap (λ found. unwrap_or found 0) (slice_get-map length (lines text) (line - 1))
    ∙ sym (length_or_none (slice_get (lines text) (line - 1)))

find_alike : (p q : Token → Bool) → ((token : Token) → p token ≡ q token) → (tokens : List Token) → find p tokens ≡ find q tokens
find_alike p q alike [] = refl
find_alike p q alike (token ∷ tokens) =
    ap (λ v. cond v (Some token) (find p tokens)) (alike token) ∙ ap (λ found. cond (q token) (Some token) found) (find_alike p q alike tokens)

-- by the table the first token on a long line is found
pub long_by_table : (text lengths : List ℕ) (tokens : List Token) → lengths ≡ map length (lines text)
    → find (λ token. is_long_in lengths token.line) tokens ≡ on_long_line text tokens
long_by_table text lengths tokens h =
    find_alike (λ token. is_long_in lengths token.line) (λ token. nat_lt (line_limit + 1) (line_length text token.line))
    (λ token. ap (λ n. nat_lt (line_limit + 1) n) (told_length text lengths token.line h)) tokens
