-- The new text of an accepted order is small enough for a file, and for a plan.
use Rattle.std.proofs.Common.{◌≡◌, ℕ, zero, suc, ◌+◌, ◌-◌, ◌*◌, ◌≤◌, Bool, true, false, List, [], ◌∷◌, ◌++◌, length, take, drop, min, filter, Option, Some, None, IsTrue, refl, sym, ap, ◌∙◌, subst, inl, inr, arith, length-append, length-drop}
use Rattle.std.specs.List.{cons_option}
use Rattle.std.specs.Str.{bytes_eq}
use Rattle.std.proofs.lemmas.Bool.{and_from, and_parts, cond_both, le-leb, ltb-true}
use Rattle.std.proofs.lemmas.List.{length-take}
use Rattle.std.proofs.lemmas.List.Sums.{sum_by-cons}
use Rattle.std.proofs.lemmas.Option.{none-some, same_Some}
use Rattle.ftn_base.specs.Files.{File, is_source}
use Rattle.ftn_base.specs.Letters.{is_letter}
use Rattle.ftn_base.specs.Limits.{most_file_bytes, most_first_form_bytes}
use Rattle.ftn_base.specs.Names.{are_name_bytes, is_file_name, is_name}
use Rattle.free_scan.proofs.ReadTrue.{mapped}
use Rattle.free_scan.specs.Pieces.{Piece, pieces_of, pieces_within}
use Rattle.free_scan.specs.Tokens.{is_kept, keep_if, line_after, placed_pieces_from, placed_pieces_of, token_of, tokens_among, tokens_of}
use Rattle.free_scan.specs.declared.first_form.token.PlacedPiece.{PlacedPiece}
use Rattle.ftn_tree.specs.declared.token.Token.{Token}
use Rattle.plan_file.specs.Plans.{IsPlan}
use Rattle.rename_ref.proofs.Accepted.{accepted}
use Rattle.rename_ref.proofs.EditSteps.{first_fits}
use Rattle.rename_ref.proofs.TokenRanges.{denoting_fit, first_piece}
use Rattle.rename_ref.specs.Conditions.{judged}
use Rattle.rename_ref.specs.Edits.{applied_from, fit, replacing}
use Rattle.rename_ref.specs.Names.{denoting, is_name_token, name_tokens}
use Rattle.rename_ref.specs.declared.judgement.Judgement.{Judgement}
use Rattle.rename_ref.specs.declared.judgement.Judgement.TheVariants.{Refuse, Accept}
use Rattle.rename_ref.specs.declared.rename.Rename.{Rename}
use Rattle.ftn_tool.specs.declared.command.Order.TheVariants as orders
use Rattle.ftn_tool.specs.declared.command.ProjectCommand.{ProjectCommand}
use Rattle.ftn_tool.specs.declared.command.ProjectCommand.TheVariants as commands
use Rattle.ftn_tool.specs.declared.command.Request.TheVariants as requests
use Rattle.ftn_tool.specs.declared.verdict.Verdict.{Verdict}
use Rattle.ftn_tool.specs.Verdicts.{Gives, GivesOrder, GivesSound, IsJudged, sole, verdict_of}
use Rattle.ftn_tool.specs.steps.Carrying.{IsFit}
use Rattle.ftn_tool.specs.steps.Fronts.{are_sources}

-- ---- a text has at most as many tokens as bytes

few_pieces : (n : ℕ) (text : List ℕ) (pieces : List Piece) → pieces_within n text ≡ Some pieces → length pieces ≤ length text
few_pieces n text [] e = omega arith
few_pieces zero [] (piece ∷ pieces) e = absurd cc
few_pieces zero (b ∷ text) (piece ∷ pieces) e = absurd cc
few_pieces (suc n) [] (piece ∷ pieces) e = absurd cc
few_pieces (suc n) (b ∷ text) (piece ∷ pieces) e =
    let first = first_piece n b text piece pieces e in
    let some : 1 ≤ piece.1 = first.some in
    let within : piece.1 ≤ length (b ∷ text) = first.within in
    let rest : length pieces ≤ length (drop piece.1 (b ∷ text)) = few_pieces n (drop piece.1 (b ∷ text)) pieces first.rest in
    let left : length (drop piece.1 (b ∷ text)) ≡ length (b ∷ text) - piece.1 = length-drop piece.1 (b ∷ text) in
    omega (arith, some, within, rest, left)

keep_few : (b : Bool) (x : PlacedPiece) (xs : List PlacedPiece) (n : ℕ) → length xs ≤ n → length (keep_if b x xs) ≤ suc n
keep_few true x xs n few = omega (arith, few)
keep_few false x xs n few = omega (arith, few)

few_placed : (at line : ℕ) (text : List ℕ) (pieces : List Piece) → length (placed_pieces_from at line text pieces) ≤ length pieces
few_placed at line text [] = omega arith
few_placed at line text (piece ∷ pieces) =
    keep_few (is_kept piece.0) _ (placed_pieces_from (at + piece.1) (line_after line piece.0) (drop piece.1 text) pieces) (length pieces)
    (few_placed (at + piece.1) (line_after line piece.0) (drop piece.1 text) pieces)

few_among : (pieces : List PlacedPiece) → length (tokens_among pieces) ≤ length pieces
few_among [] = omega arith
few_among (piece ∷ pieces) = on (token_of piece) (few_among pieces)
  where
    on : (o : Option Token) → length (tokens_among pieces) ≤ length pieces → length (cons_option o (tokens_among pieces)) ≤ suc (length pieces)
    on None few = omega (arith, few)
    on (Some token) few = omega (arith, few)

few_tokens : (text : List ℕ) (tokens : List Token) → tokens_of text ≡ Some tokens → length tokens ≤ length text
few_tokens text tokens e =
    let placed = mapped tokens_among (placed_pieces_of text) tokens e in
    let parts = mapped (placed_pieces_from 0 1 text) (pieces_of text) placed.0 placed.1 in
    let pieces : length parts.0 ≤ length text = few_pieces (length text) text parts.0 parts.1 in
    let kept : length (placed_pieces_from 0 1 text parts.0) ≤ length parts.0 = few_placed 0 1 text parts.0 in
    let among : length (tokens_among (placed_pieces_from 0 1 text parts.0)) ≤ length (placed_pieces_from 0 1 text parts.0) = few_among (placed_pieces_from 0 1 text parts.0) in
    let same : length (tokens_among (placed_pieces_from 0 1 text parts.0)) ≡ length tokens = ap length (ap tokens_among parts.2 ∙ placed.2) in
    omega (arith, pieces, kept, among, same)

few_kept : (p : Token → Bool) (tokens : List Token) → length (filter p tokens) ≤ length tokens
few_kept p [] = omega arith
few_kept p (token ∷ tokens) =
    let rest : length (filter p tokens) ≤ length tokens = few_kept p tokens in
    cond_both (p token) (token ∷ filter p tokens) (filter p tokens) (λ (ts : List Token). length ts ≤ suc (length tokens)) (λ e. omega (arith, rest)) (λ e. omega (arith, rest))

-- ---- replacing tokens by a name adds at most 31 bytes for each

grown : (new : List ℕ) → length new ≤ 31 → (at : ℕ) (text : List ℕ) (tokens : List Token) → IsTrue (fit at text (replacing new tokens))
    → length (applied_from at text (replacing new tokens)) ≤ length text + 31 * length tokens
grown new short at text [] fits = omega arith
grown new short at text (token ∷ tokens) fits =
    let first = first_fits at text (record { range = token.range; text = new }) (replacing new tokens) fits in
    let starts : at ≤ token.range.start = first.starts in
    let rises : token.range.start ≤ token.range.end = first.rises in
    let ends : token.range.end ≤ at + length text = first.ends in
    let more : length (applied_from token.range.end (drop (token.range.end - at) text) (replacing new tokens)) ≤ length (drop (token.range.end - at) text) + 31 * length tokens
    = grown new short token.range.end (drop (token.range.end - at) text) tokens first.rest in
    let left : length (drop (token.range.end - at) text) ≡ length text - (token.range.end - at) = length-drop (token.range.end - at) text in
    let front : length (take (token.range.start - at) text) ≡ min (token.range.start - at) (length text) = length-take (token.range.start - at) text in
    sized_parts (take (token.range.start - at) text) new (applied_from token.range.end (drop (token.range.end - at) text) (replacing new tokens)) (length text + 31 * suc (length tokens))
    (omega (arith, short, starts, rises, ends, more, left, front))
  where
    sized_parts : (one two three : List ℕ) (most : ℕ) → length one + (length two + length three) ≤ most → length (one ++ (two ++ three)) ≤ most
    sized_parts one two three most within = omega (arith, within, length-append one (two ++ three), length-append two three)

name_short : (name : List ℕ) → is_name 31 name ≡ true → length name ≤ 31
name_short [] valid = omega arith
name_short (b ∷ rest) valid =
    let less : length rest ≤ 30 = omega (arith, ltb-true (length rest) 31 (and_parts (is_letter b) _ (and_parts _ (are_name_bytes rest) valid).0).1) in
    omega (arith, less)

renamed_small : (name new text : List ℕ) (tokens : List Token) → length new ≤ 31 → tokens_of text ≡ Some tokens → length text ≤ most_first_form_bytes
    → length (applied_from 0 text (replacing new (denoting name tokens))) ≤ most_file_bytes
renamed_small name new text tokens short scanned size =
    let more : length (applied_from 0 text (replacing new (denoting name tokens))) ≤ length text + 31 * length (denoting name tokens)
    = grown new short 0 text (denoting name tokens) (denoting_fit text tokens name new (replacing new (denoting name tokens)) scanned refl) in
    let one : length (denoting name tokens) ≤ length (name_tokens tokens) = few_kept (λ token. bytes_eq token.value name) (name_tokens tokens) in
    let two : length (name_tokens tokens) ≤ length tokens = few_kept is_name_token tokens in
    let three : length tokens ≤ length text = few_tokens text tokens scanned in
    omega (arith, size, more, one, two, three)

-- the new text of an accepted rename is small enough for a file
pub small_text : (order : Rename) (file text : List ℕ) (tokens : List Token) (new_text : List ℕ) → tokens_of text ≡ Some tokens → length text ≤ most_first_form_bytes
    → judged order file text tokens ≡ Accept new_text → length new_text ≤ most_file_bytes
small_text order file text tokens new_text scanned size judged_so =
    let is = accepted order file text tokens new_text judged_so in
    subst (λ (made : List ℕ). length made ≤ most_file_bytes) (sym is.is_renamed)
    (renamed_small is.token.value order.new text tokens (name_short order.new is.name) scanned size)

-- ---- a verdict's new text

sole_source : (files : List File) (file : File) → sole files ≡ Some file → are_sources files ≡ true → is_source file.0 ≡ true
sole_source [] file only sources = absurd (none-some file only)
sole_source (one ∷ []) file only sources = ap (λ (f : File). is_source f.0) (sym (same_Some one file only)) ∙ (and_parts _ _ sources).0
sole_source (one ∷ next ∷ files) file only sources = absurd (none-some file only)

judged_fit : (order : Rename) (files : List File) (judgement : Judgement) (is : IsJudged order files judgement) → are_sources files ≡ true → IsFit (verdict_of is.name judgement)
judged_fit order files (Refuse cond at) is sources = tt
judged_fit order files (Accept new_text) is sources =
    (sole_source files (is.name, is.text) is.form.only sources, small_text order is.name is.text is.tokens new_text is.scanned is.form.size is.is)

order_fit : (order : Rename) (files : List File) (verdict : Verdict) → are_sources files ≡ true → GivesOrder order files verdict → IsFit verdict
order_fit order files verdict sources (inl none) = subst IsFit (sym none.0) tt
order_fit order files verdict sources (inr made) = subst IsFit (sym made.2) (judged_fit order files made.0 made.1 sources)

sound_fit : (command : ProjectCommand) (files : List File) (verdict : Verdict) → are_sources files ≡ true → GivesSound command files verdict → IsFit verdict
sound_fit (commands.Ask requests.Check edition) files verdict sources gives = subst IsFit (sym gives.2) tt
sound_fit (commands.Apply (orders.Rename order) edition) files verdict sources gives = order_fit order files verdict sources gives

pub gives_fit : (command : ProjectCommand) (files : List File) (verdict : Verdict) → are_sources files ≡ true → Gives command files verdict → IsFit verdict
gives_fit command files verdict sources (inl past) = subst IsFit (sym past.2) tt
gives_fit command files verdict sources (inr (none, inl fault)) = subst IsFit (sym fault.2) tt
gives_fit command files verdict sources (inr (none, inr gives)) = sound_fit command files verdict sources gives.1

-- ---- its plan

pub one_plan : (name text : List ℕ) → is_file_name name ≡ true → is_source name ≡ true → length text ≤ most_file_bytes → IsPlan ((name, text) ∷ [])
one_plan name text valid source small = record {
  some = omega arith;
  few = omega arith;
  planned = and_from _ _ (and_from _ _ (and_from _ _ valid source) (le-leb (length text) most_file_bytes small)) refl;
  in_order = refl;
  small = omega (arith, small, sum_by-cons (λ (file : File). length file.1) (name, text) []);
}
