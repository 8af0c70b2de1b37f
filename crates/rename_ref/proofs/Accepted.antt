-- What holds where a rename is accepted.
use Rattle.std.proofs.Common.{◌≡◌, ℕ, Bool, true, false, cond, not, ◌&&◌, ◌||◌, List, [], ◌∷◌, filter, find, Option, Some, None, option_and_then, refl, sym, ap, ◌∙◌, bytes_eq, if◌then◌else◌}
use Rattle.std.specs.List.{list_all}
use Rattle.std.proofs.lemmas.Bool.{and_parts, and_from, or_parts}
use Rattle.ftn_base.specs.Keywords.{is_keyword, is_intrinsic}
use Rattle.ftn_base.specs.Letters.{folded}
use Rattle.ftn_base.specs.Names.{is_name}
use Rattle.ftn_base.specs.Places.{offset_of}
use Rattle.ftn_base.specs.Limits.{name_limit}
use Rattle.ftn_base.specs.declared.name.Edition.TheVariants.{F90}
use Rattle.ftn_tree.specs.declared.token.Token.{Token}
use Rattle.rename_ref.specs.declared.rename.Rename.{Rename}
use Rattle.rename_ref.specs.declared.judgement.Cond.TheVariants.{BadName, Keyword}
use Rattle.rename_ref.specs.declared.judgement.Judgement.{Judgement}
use Rattle.rename_ref.specs.declared.judgement.Judgement.TheVariants.{Accept}
use Rattle.rename_ref.specs.Names.{is_word, is_name_token, name_tokens, covering, denoting, holds}
use Rattle.rename_ref.specs.Conditions.{chosen, on_long_line, renamed_text, refused, judged_line, judged_lines, judged_names, judged_token, judged}

-- no condition fails, and the new text is the one that the edits make
pub record IsAccepted (order : Rename) (file text : List ℕ) (tokens : List Token) (new_text : List ℕ) : Type 0 where
  pub token : Token
  pub is_chosen : chosen order file text tokens ≡ Some token
  pub is_free : is_keyword token.value ≡ false
  pub name : is_name (name_limit F90) order.new ≡ true
  pub no_keyword : is_keyword (folded order.new) ≡ false
  pub no_intrinsic : is_intrinsic (folded order.new) ≡ false
  pub not_captured : find (λ other. bytes_eq other.value (folded order.new)) (name_tokens tokens) ≡ None
  pub short : on_long_line new_text (denoting token.value tokens) ≡ None
  pub is_renamed : new_text ≡ renamed_text token.value order.new tokens text

-- one accepted text is one text
accept_is : (a b : List ℕ) → Accept a ≡ Accept b → a ≡ b
accept_is a b e = cc

-- where LongLine does not fail, no token is on a long line, and the text is the one that was made
line_accepted : (made : List ℕ) (o : Option Token) (new_text : List ℕ) → judged_line made o ≡ Accept new_text → (o ≡ None) × (new_text ≡ made)
line_accepted made None new_text e = (refl, sym (accept_is made new_text e))
line_accepted made (Some token) new_text e = absurd cc

-- where Captured does not fail, no token is found, and the lines are judged
names_accepted : (old new text : List ℕ) (tokens : List Token) (o : Option Token) (new_text : List ℕ) → judged_names old new text tokens o ≡ Accept new_text
    → (o ≡ None) × (judged_lines (renamed_text old new tokens text) (denoting old tokens) ≡ Accept new_text)
names_accepted old new text tokens None new_text e = (refl, e)
names_accepted old new text tokens (Some token) new_text e = absurd cc

-- the conditions on the new name, by their tests
abbrev tested : Bool → Bool → Judgement → Judgement
tested name word rest = if not name then refused BadName None else if word then refused Keyword None else rest

-- where none of these fails, the name is a name and no word of statements
new_accepted : (name word : Bool) (rest : Judgement) (new_text : List ℕ) → tested name word rest ≡ Accept new_text → (name ≡ true) × (word ≡ false) × (rest ≡ Accept new_text)
new_accepted true true rest new_text e = absurd cc
new_accepted true false rest new_text e = (refl, refl, e)
new_accepted false word rest new_text e = absurd cc

-- what a filter keeps passes
filter_passes : {X : Type 0} (q : X → Bool) (xs : List X) → list_all q (filter q xs) ≡ true
filter_passes q [] = refl
filter_passes q (x ∷ xs) = go (q x) refl (filter_passes q xs)
  where
    go : (t : Bool) → q x ≡ t → list_all q (filter q xs) ≡ true → list_all q (cond t (x ∷ filter q xs) (filter q xs)) ≡ true
    go true e r = and_from (q x) (list_all q (filter q xs)) e r
    go false e r = r

-- what is found in a list where all pass, passes
find_passes : {X : Type 0} (p q : X → Bool) (xs : List X) (x : X) → list_all q xs ≡ true → find p xs ≡ Some x → q x ≡ true
find_passes p q [] x a e = absurd cc
find_passes p q (y ∷ xs) x a e = let s = and_parts (q y) (list_all q xs) a in go (p y) e s.0 (find_passes p q xs x s.1)
  where
    go : (t : Bool) → cond t (Some y) (find p xs) ≡ Some x → q y ≡ true → (find p xs ≡ Some x → q x ≡ true) → q x ≡ true
    go true d h r = let k : y ≡ x = cc in ap q (sym k) ∙ h
    go false d h r = r d

-- the chosen token is a name token
chosen_is_name : (order : Rename) (file text : List ℕ) (tokens : List Token) (token : Token) → chosen order file text tokens ≡ Some token → is_name_token token ≡ true
chosen_is_name order file text tokens token e = go (bytes_eq order.file file) e
  where
    found : (o : Option ℕ) → option_and_then (λ at. find (holds at) (name_tokens tokens)) o ≡ Some token → is_name_token token ≡ true
    found None d = absurd cc
    found (Some at) d = find_passes (holds at) is_name_token (name_tokens tokens) token (filter_passes is_name_token tokens) d

    go : (t : Bool) → (if t then covering order.line order.column text tokens else None) ≡ Some token → is_name_token token ≡ true
    go true d = found (offset_of text order.line order.column) d
    go false d = absurd cc

-- a name token is no word of statements
not_keyword : (w k : Bool) → (w && not k) ≡ true → k ≡ false
not_keyword true true h = absurd cc
not_keyword true false h = refl
not_keyword false k h = absurd cc

-- What was accepted passes each condition.
pub accepted : (order : Rename) (file text : List ℕ) (tokens : List Token) (new_text : List ℕ) → judged order file text tokens ≡ Accept new_text → IsAccepted order file text tokens new_text
accepted order file text tokens new_text e = go (chosen order file text tokens) refl e
  where
    go : (o : Option Token) → chosen order file text tokens ≡ o → judged_token order.new text tokens o ≡ Accept new_text → IsAccepted order file text tokens new_text
    go None is d = absurd cc
    go (Some token) is d =
        let a = new_accepted (is_name (name_limit F90) order.new) (is_keyword (folded order.new) || is_intrinsic (folded order.new)) (judged_names token.value order.new text tokens (find (λ other. bytes_eq other.value (folded order.new)) (name_tokens tokens))) new_text d in
        let w = or_parts (is_keyword (folded order.new)) (is_intrinsic (folded order.new)) a.1 in
        let b = names_accepted token.value order.new text tokens (find (λ other. bytes_eq other.value (folded order.new)) (name_tokens tokens)) new_text a.2 in
        let c = line_accepted (renamed_text token.value order.new tokens text) (on_long_line (renamed_text token.value order.new tokens text) (denoting token.value tokens)) new_text b.1 in
        record {
          token = token;
          is_chosen = is;
          is_free = not_keyword (is_word token.kind) (is_keyword token.value) (chosen_is_name order file text tokens token is);
          name = a.0;
          no_keyword = w.0;
          no_intrinsic = w.1;
          not_captured = b.0;
          short = ap (λ (made : List ℕ). on_long_line made (denoting token.value tokens)) c.1 ∙ c.0;
          is_renamed = c.1;
        }
