-- The same of a text and of tokens that are known to be its own.
use Rattle.std.proofs.Common.{◌≡◌, ℕ, ◌+◌, ◌≤◌, ◌<◌, ◌^◌, List, length, take, get_or, refl, ap, ◌∙◌, arith}
use Rattle.std.specs.Prelude.{slice_range, slice_get, Some, nat_le, count_by}
use Rattle.std.specs.List.{prefix_len}
use Rattle.std.specs.List.Sorted.{IsPartitionedBy}
use Rattle.std.proofs.lemmas.List.{length-take}
use Rattle.std.proofs.lemmas.List.Sums.{count_by-le-length}
use Rattle.ftn_tree.specs.declared.token.Token.{Token}
use Rattle.ftn_tree.specs.Lines.{is_line_feed, line_starts}
use Rattle.ftn_tree.specs.Reading.{tokens_of}
use Rattle.lossless_tree.specs.steps.Edges.{end_before, start_of}
use Rattle.lossless_tree.specs.Texts.{gap_texts, line_at, token_texts}
use Rattle.lossless_tree.proofs.LineStarts.{starts_counted, starts_parted}
use Rattle.lossless_tree.proofs.Turns.{gap_fits, gap_text, token_fits, token_text}

pub token_held : (text seen : List ℕ) (tokens : List Token) (i : ℕ) (d : Token) → text ≡ seen → tokens ≡ (tokens_of text).items → i < length (tokens_of seen).items
    → ((get_or tokens i d).range.start ≤ (get_or tokens i d).range.end) × ((get_or tokens i d).range.end ≤ length text)
token_held text seen tokens i d same are less = let there : i < length (tokens_of text).items = rw same less in rw are (token_fits text i d there)

pub token_said : (text seen made : List ℕ) (tokens : List Token) (i : ℕ) (d : Token) → text ≡ seen → tokens ≡ (tokens_of text).items → i < length (tokens_of seen).items
    → made ≡ slice_range text (get_or tokens i d).range.start (get_or tokens i d).range.end → slice_get (token_texts seen) i ≡ Some made
token_said text seen made tokens i d same are less is =
    let there : i < length (tokens_of text).items = rw same less in
    rw (← same, is, are) (token_text text i d there)

pub gap_held : (text seen : List ℕ) (tokens : List Token) (i : ℕ) → text ≡ seen → tokens ≡ (tokens_of text).items → i ≤ length (tokens_of seen).items
    → (end_before 0 tokens i ≤ start_of (length text) tokens i) × (start_of (length text) tokens i ≤ length text)
gap_held text seen tokens i same are less = let there : i ≤ length (tokens_of text).items = rw same less in rw are (gap_fits text i there)

pub gap_said : (text seen made : List ℕ) (tokens : List Token) (i : ℕ) → text ≡ seen → tokens ≡ (tokens_of text).items → i ≤ length (tokens_of seen).items
    → made ≡ slice_range text (end_before 0 tokens i) (start_of (length text) tokens i) → slice_get (gap_texts seen) i ≡ Some made
gap_said text seen made tokens i same are less is =
    let there : i ≤ length (tokens_of text).items = rw same less in
    rw (← same, is, are) (gap_text text i there)

pub starts_held : (text starts : List ℕ) (at : ℕ) → starts ≡ line_starts text → IsPartitionedBy (λ start. nat_le start at) starts
starts_held text starts at are = rw are (starts_parted text at)

pub line_said : (text seen starts : List ℕ) (at made : ℕ) → text ≡ seen → starts ≡ line_starts text → made ≡ prefix_len (λ start. nat_le start at) starts → made ≡ line_at seen at
line_said text seen starts at made same are is = is ∙ ap (prefix_len (λ start. nat_le start at)) are ∙ starts_counted text at ∙ ap (λ known. line_at known at) same

pub line_fits : (text seen starts : List ℕ) (at made : ℕ) → text ≡ seen → starts ≡ line_starts text → made ≡ prefix_len (λ start. nat_le start at) starts → length text + 1 < 2 ^ 32 → made < 2 ^ 32
line_fits text seen starts at made same are is fits =
    let count : made ≡ line_at text at = line_said text text starts at made refl are is in
    let most : count_by is_line_feed (take at text) ≤ length (take at text) = count_by-le-length is_line_feed (take at text) in
    omega (arith, length-take at text)
