-- Tokens and gaps in turn are the text.
use Rattle.std.proofs.Common.{◌≡◌, ℕ, zero, suc, ◌+◌, ◌-◌, ◌≤◌, ◌<◌, List, [], ◌∷◌, ◌++◌, length, drop, get_or, refl, ap, sym, ◌∙◌, arith, append_assoc}
use Rattle.std.specs.Prelude.{map, slice_range, slice_get, Some}
use Rattle.std.specs.List.{All}
use Rattle.std.proofs.lemmas.List.{take_rest, length-take, length-drop}
use Rattle.std.proofs.lemmas.List.Folds.{drop_split}
use Rattle.ftn_tree.specs.declared.token.Token.{Token}
use Rattle.ftn_tree.specs.Reading.{tokens_of}
use Rattle.lossless_tree.specs.Texts.{Rise, gap_texts, gaps_from, in_turn, token_texts}
use Rattle.lossless_tree.specs.steps.Edges.{end_before, start_of}
use Rattle.lossless_tree.proofs.Rising.{tokens_rise}

-- the bytes of a token
abbrev pub bytes_of : List ℕ → Token → List ℕ
bytes_of text token = slice_range text token.range.start token.range.end

turns_from : (text : List ℕ) (at : ℕ) (tokens : List Token) → Rise at tokens (length text) → in_turn (gaps_from text at tokens) (map (bytes_of text) tokens) ≡ drop at text
turns_from text at [] rise = refl
turns_from text at (token ∷ tokens) (first, some, more) =
    append_assoc (slice_range text at token.range.start) (bytes_of text token) (in_turn (gaps_from text token.range.end tokens) (map (bytes_of text) tokens))
    ∙ ap (λ rest. slice_range text at token.range.start ++ (bytes_of text token ++ rest)) (turns_from text token.range.end tokens more)
    ∙ ap (λ rest. slice_range text at token.range.start ++ rest) (sym (drop_split text token.range.start token.range.end (omega arith)))
    ∙ sym (drop_split text at token.range.start first)

-- gaps and tokens in turn are the text
pub joined : (text : List ℕ) → in_turn (gap_texts text) (token_texts text) ≡ text
joined text = turns_from text 0 (tokens_of text).items (tokens_rise text)

gaps_counted : (text : List ℕ) (at : ℕ) (tokens : List Token) → length (gaps_from text at tokens) ≡ suc (length (map (bytes_of text) tokens))
gaps_counted text at [] = refl
gaps_counted text at (token ∷ tokens) = ap suc (gaps_counted text token.range.end tokens)

-- there is one gap more than tokens
pub counted : (text : List ℕ) → length (gap_texts text) ≡ length (token_texts text) + 1
counted text = gaps_counted text 0 (tokens_of text).items ∙ omega arith

range_some : (text : List ℕ) (from to : ℕ) → from < to → to ≤ length text → 1 ≤ length (slice_range text from to)
range_some text from to less fits =
    let left : length (drop from text) ≡ length text - from = length-drop from text in
    omega (arith, length-take (to - from) (drop from text))

spans : (at stop : ℕ) (tokens : List Token) → Rise at tokens stop → at ≤ stop
spans at stop [] rise = rise
spans at stop (token ∷ tokens) (first, some, more) = let less : token.range.end ≤ stop = spans token.range.end stop tokens more in omega arith

some_from : (text : List ℕ) (at : ℕ) (tokens : List Token) → Rise at tokens (length text) → All (λ bytes. 1 ≤ length bytes) (map (bytes_of text) tokens)
some_from text at [] rise i d less = absurd (omega arith)
some_from text at (token ∷ tokens) (first, some, more) zero d less =
    range_some text token.range.start token.range.end some (spans token.range.end (length text) tokens more)
some_from text at (token ∷ tokens) (first, some, more) (suc i) d less = some_from text token.range.end tokens more i d (omega arith)

-- no token is empty
pub none_empty : (text : List ℕ) → All (λ bytes. 1 ≤ length bytes) (token_texts text)
none_empty text = some_from text 0 (tokens_of text).items (tokens_rise text)

range_from : (at stop : ℕ) (tokens : List Token) → Rise at tokens stop → (i : ℕ) (d : Token) → i < length tokens
    → ((get_or tokens i d).range.start ≤ (get_or tokens i d).range.end) × ((get_or tokens i d).range.end ≤ stop)
range_from at stop [] rise i d less = absurd (omega arith)
range_from at stop (token ∷ tokens) (first, some, more) zero d less = (omega arith, spans token.range.end stop tokens more)
range_from at stop (token ∷ tokens) (first, some, more) (suc i) d less = range_from token.range.end stop tokens more i d (omega arith)

-- a token ends within the text
pub token_fits : (text : List ℕ) (i : ℕ) (d : Token) → i < length (tokens_of text).items
    → ((get_or (tokens_of text).items i d).range.start ≤ (get_or (tokens_of text).items i d).range.end) × ((get_or (tokens_of text).items i d).range.end ≤ length text)
token_fits text i d less = range_from 0 (length text) (tokens_of text).items (tokens_rise text) i d less

text_from : (text : List ℕ) (tokens : List Token) (i : ℕ) (d : Token) → i < length tokens → slice_get (map (bytes_of text) tokens) i ≡ Some (bytes_of text (get_or tokens i d))
text_from text [] i d less = absurd (omega arith)
text_from text (token ∷ tokens) zero d less = refl
text_from text (token ∷ tokens) (suc i) d less = text_from text tokens i d (omega arith)

-- the bytes of a token
pub token_text : (text : List ℕ) (i : ℕ) (d : Token) → i < length (tokens_of text).items → slice_get (token_texts text) i ≡ Some (bytes_of text (get_or (tokens_of text).items i d))
token_text text i d less = text_from text (tokens_of text).items i d less

gap_from : (text : List ℕ) (at : ℕ) (tokens : List Token) (i : ℕ) → i ≤ length tokens
    → slice_get (gaps_from text at tokens) i ≡ Some (slice_range text (end_before at tokens i) (start_of (length text) tokens i))
gap_from text at [] zero less = ap Some (sym (take_rest text at))
gap_from text at [] (suc i) less = absurd (omega arith)
gap_from text at (token ∷ tokens) zero less = refl
gap_from text at (token ∷ tokens) (suc i) less = gap_from text token.range.end tokens i (omega arith)

-- the bytes of a gap
pub gap_text : (text : List ℕ) (i : ℕ) → i ≤ length (tokens_of text).items
    → slice_get (gap_texts text) i ≡ Some (slice_range text (end_before 0 (tokens_of text).items i) (start_of (length text) (tokens_of text).items i))
gap_text text i less = gap_from text 0 (tokens_of text).items i less

edges_from : (at stop : ℕ) (tokens : List Token) → Rise at tokens stop → (i : ℕ) → i ≤ length tokens
    → (end_before at tokens i ≤ start_of stop tokens i) × (start_of stop tokens i ≤ stop)
edges_from at stop [] rise zero less = (rise, omega arith)
edges_from at stop [] rise (suc i) less = absurd (omega arith)
edges_from at stop (token ∷ tokens) (first, some, more) zero less = let fits : token.range.end ≤ stop = spans token.range.end stop tokens more in (first, omega arith)
edges_from at stop (token ∷ tokens) (first, some, more) (suc i) less = edges_from token.range.end stop tokens more i (omega arith)

-- a gap lies within the text
pub gap_fits : (text : List ℕ) (i : ℕ) → i ≤ length (tokens_of text).items
    → (end_before 0 (tokens_of text).items i ≤ start_of (length text) (tokens_of text).items i) × (start_of (length text) (tokens_of text).items i ≤ length text)
gap_fits text i less = edges_from 0 (length text) (tokens_of text).items (tokens_rise text) i less

end_from : (at : ℕ) (tokens : List Token) (i : ℕ) (d : Token) → i < length tokens → end_before at tokens (suc i) ≡ (get_or tokens i d).range.end
end_from at [] i d less = absurd (omega arith)
end_from at (token ∷ tokens) zero d less = refl
end_from at (token ∷ tokens) (suc i) d less = end_from token.range.end tokens i d (omega arith)

-- the end of the token before one that is not the first
pub end_is : (at : ℕ) (tokens : List Token) (i : ℕ) (d : Token) → 1 ≤ i → i ≤ length tokens → end_before at tokens i ≡ (get_or tokens (i - 1) d).range.end
end_is at tokens i d some less = let next : suc (i - 1) ≡ i = omega arith in ap (end_before at tokens) (sym next) ∙ end_from at tokens (i - 1) d (omega arith)

-- the start of a token that is there, or the end of the text
pub start_is : (size : ℕ) (tokens : List Token) (i : ℕ) (d : Token) → i < length tokens → start_of size tokens i ≡ (get_or tokens i d).range.start
start_is size [] i d less = absurd (omega arith)
start_is size (token ∷ tokens) zero d less = refl
start_is size (token ∷ tokens) (suc i) d less = start_is size tokens i d (omega arith)

pub start_past : (size : ℕ) (tokens : List Token) (i : ℕ) → length tokens ≤ i → start_of size tokens i ≡ size
start_past size [] i less = refl
start_past size (token ∷ tokens) zero less = absurd (omega arith)
start_past size (token ∷ tokens) (suc i) less = start_past size tokens i (omega arith)
