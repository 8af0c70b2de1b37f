-- What a line says stands within it, and the lines of a text within the text.
use Rattle.std.proofs.Common.{◌≡◌, ℕ, suc, ◌+◌, ◌-◌, ◌≤◌, true, List, [], ◌∷◌, length, take, drop, Option, refl, ◌∙◌, arith, length-drop}
use Rattle.std.specs.Prelude.{◌&&◌, ◌==◌, not}
use Rattle.std.specs.List.{ends_with, slice_split, onto_first}
use Rattle.std.proofs.lemmas.Bool.{cond_both, and_parts}
use Rattle.std.proofs.lemmas.List.{length-take}
use Rattle.ftn_tree.specs.Code.{before_mark, code_len, code_of, goes_on, leads, stem_len}
use Rattle.ftn_tree.specs.Lines.{begins_with, indent, is_line_feed, without_return}
use Rattle.ftn_tree.specs.Logical.{Carried, joins, is_carried, open_at, said, skipped, stands_alone, text_of}

pub begins_some : (b : ℕ) (bytes : List ℕ) → begins_with b bytes ≡ true → 1 ≤ length bytes
begins_some b [] is = absurd (cc)
begins_some b (c ∷ bytes) is = omega arith

pub leads_by : (body : List ℕ) → leads body ≡ true → indent body + 1 ≤ length body
leads_by body is =
    let some : 1 ≤ length (drop (indent body) body) = begins_some 38 (drop (indent body) body) is in
    let left : length (drop (indent body) body) ≡ length body - indent body = length-drop (indent body) body in
    omega arith

pub skipped_by : (before : Option Carried) (body : List ℕ) → skipped before body ≤ length body
skipped_by before body =
    cond_both (stands_alone before body) _ _ (λ n. n ≤ length body) (λ e. omega arith)
    (λ e. cond_both (joins before body) _ _ (λ n. n ≤ length body)
    (λ is. leads_by body (and_parts (is_carried before) (leads body) (and_parts (is_carried before && leads body) (not (stands_alone before body)) is).0).1)
    (λ f. omega arith))

pub code_by : (within : Option ℕ) (bytes : List ℕ) → length (code_of within bytes) ≤ length bytes
code_by within bytes = omega (arith, length-take (code_len within bytes) bytes)

pub mark_by : (bytes : List ℕ) → length (before_mark bytes) ≤ length bytes
mark_by bytes = cond_both (goes_on bytes) _ _ (λ made. length made ≤ length bytes) (λ e. omega (arith, length-take (stem_len bytes - 1) bytes)) (λ e. omega arith)

pub text_by : (before : Option Carried) (body : List ℕ) → skipped before body + length (text_of before body) ≤ length body
text_by before body =
    let left : length (drop (skipped before body) body) ≡ length body - skipped before body = length-drop (skipped before body) body in
    let skips : skipped before body ≤ length body = skipped_by before body in
    let code : length (said before body) ≤ length (drop (skipped before body) body) = code_by (open_at before body) (drop (skipped before body) body) in
    let text : length (text_of before body) ≤ length (said before body) = mark_by (said before body) in
    omega arith

pub shorter : (body : List ℕ) → length (without_return body) ≤ length body
shorter body = cond_both (ends_with ◌==◌ body (13 ∷ [])) (take (length body - 1) body) body (λ made. length made ≤ length body) (λ e. omega (arith, length-take (length body - 1) body)) (λ e. omega arith)

-- the lengths of all lines, each with its end
abbrev pub span : List (List ℕ) → ℕ
span [] = 0
span (piece ∷ pieces) = length piece + 1 + span pieces

pub onto_some : (b : ℕ) (pieces : List (List ℕ)) (n : ℕ) → span pieces ≡ n + 1 → span (onto_first b pieces) ≡ n + 2
onto_some b [] n is = absurd (omega (arith, is))
onto_some b (piece ∷ pieces) n is = omega (arith, is)

pub span_of_text : (text : List ℕ) → span (slice_split is_line_feed text) ≡ length text + 1
span_of_text [] = refl
span_of_text (b ∷ rest) =
    let more : span (slice_split is_line_feed rest) ≡ length rest + 1 = span_of_text rest in
    cond_both (is_line_feed b) _ _ (λ pieces. span pieces ≡ suc (length rest) + 1) (λ e. omega arith) (λ e. onto_some b (slice_split is_line_feed rest) (length rest) more ∙ omega arith)
