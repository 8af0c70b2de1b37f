-- What becomes of an order, by the tests on the way.
use Rattle.std.proofs.Common.{◌≡◌, ℕ, Bool, true, false, not, ◌&&◌, ◌||◌, List, length, map, Option, Some, None, ap, sym, ◌∙◌, subst}
use Rattle.std.specs.List.{find}
use Rattle.std.specs.Str.{bytes_eq}
use Rattle.std.proofs.lemmas.Bool.{cond-true, cond-false}
use Rattle.ftn_base.specs.Keywords.{is_keyword, is_intrinsic}
use Rattle.ftn_base.specs.Letters.{folded}
use Rattle.ftn_base.specs.Limits.{name_limit}
use Rattle.ftn_base.specs.Names.{is_name}
use Rattle.ftn_base.specs.declared.name.Edition.TheVariants.{F90}
use Rattle.ftn_tree.specs.declared.token.Token.{Token}
use Rattle.free_scan.specs.Lines.{lines}
use Rattle.rename_ref.specs.declared.rename.Rename.{Rename}
use Rattle.rename_ref.specs.declared.judgement.Cond.TheVariants.{Keyword}
use Rattle.rename_ref.specs.Conditions.{chosen, judged, judged_token, judged_new, judged_names, judged_line, judged_lines, refused, on_long_line, renamed_text}
use Rattle.rename_ref.specs.steps.LineLengths.{is_long_in}
use Rattle.rename_ref.specs.Names.{name_tokens, denoting}
use Rattle.rename_ref.proofs.LineLengths.{long_by_table}

-- a test that follows one that holds
pub second_test : (x y z : Bool) → x ≡ true → y ≡ z → y ≡ (x && z)
second_test true y z h e = e
second_test false y z h e = absurd (cc)

-- the new text is judged by the table of its lines
pub line_judged : (made lengths old new text : List ℕ) (tokens : List Token) (found : Option Token)
    → made ≡ renamed_text old new tokens text → lengths ≡ map length (lines made)
    → found ≡ find (λ token. is_long_in lengths token.line) (denoting old tokens)
    → judged_line made found ≡ judged_lines (renamed_text old new tokens text) (denoting old tokens)
line_judged made lengths old new text tokens found is_made are_lengths is_found =
    let first : found ≡ on_long_line made (denoting old tokens) = is_found ∙ long_by_table made lengths (denoting old tokens) are_lengths in
    ap (judged_line made) first ∙ ap (λ other. judged_lines other (denoting old tokens)) is_made

-- a new name of the right form that is reserved is refused
pub keyword_refused : (old new text word : List ℕ) (tokens : List Token)
    → is_name (name_limit F90) new ≡ true → word ≡ folded new → (is_keyword word || is_intrinsic word) ≡ true
    → refused Keyword None ≡ judged_new old new text tokens
keyword_refused old new text word tokens named is_word reserved =
    let here : (is_keyword (folded new) || is_intrinsic (folded new)) ≡ true = subst (λ w. (is_keyword w || is_intrinsic w) ≡ true) is_word reserved in
    sym (cond-false (not (is_name (name_limit F90) new)) _ _ (ap not named) ∙ cond-true (is_keyword (folded new) || is_intrinsic (folded new)) _ _ here)

-- one that is free is judged by what it captures
pub free_judged : (old new text word : List ℕ) (tokens : List Token) (found : Option Token)
    → is_name (name_limit F90) new ≡ true → word ≡ folded new → (is_keyword word || is_intrinsic word) ≡ false
    → found ≡ find (λ token. bytes_eq token.value word) (name_tokens tokens)
    → judged_names old new text tokens found ≡ judged_new old new text tokens
free_judged old new text word tokens found named is_word free is_found =
    let here : (is_keyword (folded new) || is_intrinsic (folded new)) ≡ false = subst (λ w. (is_keyword w || is_intrinsic w) ≡ false) is_word free in
    let first : found ≡ find (λ token. bytes_eq token.value (folded new)) (name_tokens tokens)
    = is_found ∙ ap (λ w. find (λ token. bytes_eq token.value w) (name_tokens tokens)) is_word in
    ap (judged_names old new text tokens) first
    ∙ sym (cond-false (not (is_name (name_limit F90) new)) _ _ (ap not named) ∙ cond-false (is_keyword (folded new) || is_intrinsic (folded new)) _ _ here)

-- the order is judged by the token that it names
pub token_judged : (order : Rename) (file text old new : List ℕ) (tokens : List Token) (found : Token) → Some found ≡ chosen order file text tokens
    → old ≡ found.value → new ≡ order.new → judged_new old new text tokens ≡ judged order file text tokens
token_judged order file text old new tokens found e is_old is_new =
    ap (λ name. judged_new name new text tokens) is_old
    ∙ ap (λ name. judged_new found.value name text tokens) is_new
    ∙ ap (judged_token order.new text tokens) e
