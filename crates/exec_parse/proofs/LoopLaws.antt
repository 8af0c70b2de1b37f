-- DO statements are read as they are written.
use Rattle.std.proofs.Common.{◌≡◌, refl, sym, ◌∙◌, ap, subst, ℕ, ◌+◌, Bool, true, false, ◌||◌, List, [], ◌∷◌, ◌++◌, length, drop, Option, Some, None, if◌then◌else◌, codes, arith, add-zero}
use Rattle.std.proofs.lemmas.Grind.{common_steps}
use Rattle.std.proofs.lemmas.Bool.{and_from, and_right}
use Rattle.std.proofs.lemmas.Option.{some_pair_parts}
use denote.Hole.Carrier
use Rattle.ftn_tree.specs.declared.token.Token.{Token}
use Rattle.ftn_tree.specs.declared.expr.Expr.{Expr}
use Rattle.ftn_tree.specs.declared.form.Form.{Form, out-Form}
use Rattle.ftn_tree.specs.declared.form.Form.TheOpen.{Form-F}
use Rattle.ftn_tree.specs.declared.form.Form.TheVariants as form
use Rattle.ftn_tree.specs.declared.form.Form.TheViews.{roll-Form}
use Rattle.ftn_tree.specs.declared.lexeme.Lexeme.{Lexeme}
use Rattle.ftn_tree.specs.declared.lexeme.Lexeme.TheVariants as lexeme
use Rattle.ftn_tree.specs.declared.parts.DoControl.{DoControl}
use Rattle.ftn_tree.specs.Layers.{FormLayer}
use Rattle.ftn_tree.specs.Lexemes.{lexeme_of, same_lexeme}
use Rattle.ftn_tree.specs.Phrases.{Phrase, nothing, ◌·◌, word, word_at, mark, name, maybe}
use Rattle.ftn_tree.specs.Grammar.{expr}
use Rattle.ftn_tree.specs.ExecutableForms.{condition, comma_if, label, control, statement_at}
use Rattle.ftn_tree.proofs.PhraseLaws.{placed, add_none}
use Rattle.expr_parse.specs.steps.Input.{Input, input, Reader, Outcome, ◌>>=◌, ◌>>◌, pure, after_if, eat, sees, sees_word, expect_word, is_done, done_at, peek_second, first_lexeme}
use Rattle.expr_parse.specs.steps.Combinators.{◌<$>◌}
use Rattle.expr_parse.proofs.Pieces.{Piece, Took, Apart, begins, begins_after, bind_some, bind_is, seq, option}
use Rattle.expr_parse.proofs.AllKinds.{apart, within}
use Rattle.expr_parse.proofs.Tokens.{only, is_same, word_piece, word_made, word_back, name_piece, after_word, after_mark, before_mark}
use Rattle.expr_parse.proofs.Lists.{took_mark}
use Rattle.expr_parse.proofs.Operands.{goes_on, ReadsExpressions, expression_piece}
use Rattle.expr_parse.proofs.Ends.{nothing_left}
use Rattle.exec_parse.specs.steps.Lists as lists
use Rattle.exec_parse.specs.steps.Constructs as read
use Rattle.exec_parse.proofs.Wholes.{Sound, Reads, either_way, all_sound, all_complete, made_sound, made_complete, made_here, then_sound, then_complete}
use Rattle.exec_parse.proofs.Words.{starts_with, sees_own, second_is, no_colon, word_begins, begins_otherwise}
use Rattle.exec_parse.proofs.ListPieces.{comma_expression, condition_piece}

-- ---- facts on kinds

pub comma_then : Apart (λ kind. only lexeme.Comma kind || false) goes_on
unfolding same_lexeme
comma_then = apart (λ kind. only lexeme.Comma kind || false) goes_on refl

pub comma_only : (kind : Lexeme) → (only lexeme.Comma kind || false) ≡ true → only lexeme.Comma kind ≡ true
unfolding same_lexeme
comma_only = within (λ kind. only lexeme.Comma kind || false) (only lexeme.Comma) refl

word_no_comma : Apart (only lexeme.Word) (only lexeme.Comma)
unfolding same_lexeme
word_no_comma = apart (only lexeme.Word) (only lexeme.Comma) refl

pub word_no_colon : only lexeme.Word lexeme.Colon ≡ false
unfolding same_lexeme
word_no_colon = refl

comma_no_colon : only lexeme.Comma lexeme.Colon ≡ false
unfolding same_lexeme
comma_no_colon = refl

-- ---- the label

abbrev label_piece : Piece ℕ
label_piece = before_mark name_piece lexeme.Colon (λ kind e. refl)

abbrev by_label : Input → Bool → Outcome (Option ℕ)
by_label i seen = if seen then (Some <$> label_piece.read) i else Some (None, i)

took_none : (i : Input) → Took nothing i i
took_none i = record { tokens = []; rest = refl; at = sym (add-zero i.at); says = refl }

label_sound : (i : Input) (found : Option ℕ) (j : Input) → read.label i ≡ Some (found, j) → Took (maybe label found) i j
unfolding read.label
label_sound i found j e = either_way (read.sees_label i) (by_label i true) (by_label i false) (Some (found, j)) e
    (λ seen e.
    let (n, k, named, gives) = bind_some (label_piece.read i) (λ n. pure (Some n)) found j e in
    let same = some_pair_parts (Some n) found k j gives in
    subst (λ found. Took (maybe label found) i j) same.0 (subst (λ j. Took (label n) i j) same.1 (label_piece.sound i n k named)))
    (λ unseen e.
    let same = some_pair_parts None found i j e in
    subst (λ found. Took (maybe label found) i j) same.0 (subst (λ j. Took nothing i j) same.1 (took_none i)))

pub sees_colon : (n at : ℕ) (tokens rest : List Token) → label n at tokens → read.sees_label (input at (tokens ++ rest)) ≡ true
unfolding read.sees_label peek_second
sees_colon n at tokens rest (before, last, split, (here, is_one, named), (colon, is_last, is)) =
    ap (λ tokens. read.is_colon (first_lexeme (drop 1 (tokens ++ rest)))) (split ∙ ap (λ before. before ++ last) is_one ∙ ap (λ last. here ∷ last) is_last) ∙ ap (λ kind. read.is_colon (Some kind)) is

label_read : (n at : ℕ) (tokens rest : List Token) → label n at tokens → read.label (input at (tokens ++ rest)) ≡ Some (Some n, input (at + length tokens) rest)
unfolding read.label
label_read n at tokens rest says =
    ap (by_label (input at (tokens ++ rest))) (sees_colon n at tokens rest says)
    ∙ bind_is (label_piece.read (input at (tokens ++ rest))) (λ n. pure (Some n)) n (input (at + length tokens) rest) (Some (Some n, input (at + length tokens) rest))
    (label_piece.complete n at tokens rest says (stops rest)) refl where
      stops : (rest : List Token) → begins label_piece.more rest ≡ false
      stops [] = refl
      stops (here ∷ rest) = refl

no_label_read : (at : ℕ) (tokens : List Token) → read.sees_label (input at tokens) ≡ false → read.label (input at tokens) ≡ Some (None, input at tokens)
unfolding read.label
no_label_read at tokens e = ap (by_label (input at tokens)) e

-- ---- the control of a counted loop

-- without the comma before it
abbrev tail : DoControl → Phrase
tail c = name c.variable · mark lexeme.Equals · expr c.from · mark lexeme.Comma · expr c.to · maybe (λ step. mark lexeme.Comma · expr step) c.step

abbrev Parts : Type 0
Parts = ℕ × (Expr × (Expr × Option Expr))

abbrev counted : Bool → Parts → DoControl
counted comma parts = record { comma = comma; variable = parts.0; from = parts.1.0; to = parts.1.1.0; step = parts.1.1.1 }

tail_begins : (c : DoControl) (at : ℕ) (tokens : List Token) → tail c at tokens → begins (only lexeme.Word) tokens ≡ true
tail_begins c at tokens (before, rest, split, (here, is_one, (number, is)), says) =
    ap (begins (only lexeme.Word)) (split ∙ ap (λ before. before ++ rest) is_one) ∙ is_same (lexeme_of here) lexeme.Word is

tail_second : (c : DoControl) (at : ℕ) (tokens : List Token) → tail c at tokens → peek_second (input at tokens) ≡ Some lexeme.Equals
unfolding peek_second
tail_second c at tokens (before, rest, split, (here, is_one, named), (one, last, split_rest, (next, is_next, is), says)) =
    ap (λ tokens. first_lexeme (drop 1 tokens)) (split ∙ ap (λ before. before ++ rest) is_one ∙ ap (λ rest. here ∷ rest) (split_rest ∙ ap (λ one. one ++ last) is_next)) ∙ ap Some is

-- ---- after DO and the comma

abbrev after_at : Option ℕ → Bool → FormLayer → Phrase
after_at label comma (Form-F.Do named (Some c)) at tokens = (named ≡ label) × (c.comma ≡ comma) × tail c at tokens
after_at label comma (Form-F.DoWhile named other e) at tokens = (named ≡ label) × (other ≡ comma) × (word (codes "while") · condition e) at tokens
after_at label comma _ at tokens = ⊥

while_says : (label : Option ℕ) (comma : Bool) (e : Expr) (at : ℕ) (tokens : List Token) → (word (codes "while") · condition e) at tokens → after_at label comma (out-Form (form.DoWhile label comma e)) at tokens
unfolding out-Form denote.Hole.Carrier.out
while_says label comma e at tokens says = (refl, refl, says)

counted_says : (label : Option ℕ) (comma : Bool) (c : DoControl) (at : ℕ) (tokens : List Token) → (c.comma ≡ comma) × tail c at tokens → after_at label comma (out-Form (form.Do label (Some c))) at tokens
unfolding out-Form denote.Hole.Carrier.out
counted_says label comma c at tokens says = (refl, says.0, says.1)

-- what stands after DO
abbrev rest_at : Option ℕ → FormLayer → Phrase
rest_at label (Form-F.Do named counted) at tokens = (named ≡ label) × maybe control counted at tokens
rest_at label (Form-F.DoWhile named comma e) at tokens = (named ≡ label) × (comma_if comma · word (codes "while") · condition e) at tokens
rest_at label _ at tokens = ⊥

bare_says : (label : Option ℕ) (at : ℕ) (tokens : List Token) → tokens ≡ [] → rest_at label (out-Form (form.Do label None)) at tokens
unfolding out-Form denote.Hole.Carrier.out
bare_says label at tokens none = (refl, none)

with_comma : (label : Option ℕ) (comma : Bool) (layer : FormLayer) (at : ℕ) (tokens : List Token) → (comma_if comma · after_at label comma layer) at tokens → rest_at label layer at tokens
with_comma label comma (Form-F.Do named (Some c)) at tokens (before, last, split, says, (same, comma_same, says_tail)) =
    (same, (before, last, split, subst (λ comma. comma_if comma at before) (sym comma_same) says, says_tail))
with_comma label comma (Form-F.DoWhile named other e) at tokens (before, last, split, says, (same, comma_same, says_while)) =
    (same, (before, last, split, subst (λ comma. comma_if comma at before) (sym comma_same) says, says_while))
with_comma label comma _ at tokens (before, last, split, says, none) = absurd none

not_done : (tokens : List Token) → begins (only lexeme.Word) tokens ≡ true → done_at tokens ≡ false
not_done [] e = absurd (cc e)
not_done (here ∷ rest) e = refl

no_comma : (tokens : List Token) → begins (only lexeme.Word) tokens ≡ true → begins (only lexeme.Comma) tokens ≡ false
no_comma [] e = refl
no_comma (here ∷ rest) e = word_no_comma (lexeme_of here) e

module _ (laws : ReadsExpressions) where
  abbrev value : Piece Expr
  value = expression_piece laws

  abbrev step_piece : Piece Expr
  step_piece = after_mark lexeme.Comma value

  abbrev control_piece : Piece Parts
  control_piece = seq name_piece (after_mark lexeme.Equals (seq value (after_mark lexeme.Comma (seq value (option step_piece lexeme.Comma refl comma_only) comma_expression)) comma_then)) (λ kind e. refl)

  control_sound : (comma : Bool) → Sound (read.control comma) (λ c at tokens. (c.comma ≡ comma) × tail c at tokens)
  unfolding read.control read.step
  control_sound comma = made_sound control_piece.read (counted comma) control_piece.phrase (λ c at tokens. (c.comma ≡ comma) × tail c at tokens) (all_sound control_piece) (λ a at tokens says. (refl, says))

  control_complete : (c : DoControl) (at : ℕ) (tokens : List Token) → tail c at tokens → Reads (read.control c.comma) c at tokens
  unfolding read.control read.step
  control_complete c at tokens says =
      made_complete control_piece.read (counted c.comma) (c.variable, (c.from, (c.to, c.step))) at tokens (all_complete control_piece (c.variable, (c.from, (c.to, c.step))) at tokens says)

  abbrev while_piece : Piece Expr
  while_piece = after_word (codes "while") (condition_piece laws)

  abbrev by_while : Option ℕ → Bool → Input → Bool → Outcome Form
  by_while label comma i seen =
      if seen then ((λ e. form.DoWhile label comma e) <$> (expect_word (codes "while") >> lists.condition)) i else ((λ found. form.Do label (Some found)) <$> read.control comma) i

  while_sound : (label : Option ℕ) (comma : Bool) (at : ℕ) (tokens : List Token) (f : Form) (j : Input) → by_while label comma (input at tokens) true ≡ Some (f, j) → j.rest ≡ []
      → after_at label comma (out-Form f) at tokens
  unfolding lists.condition
  while_sound label comma at tokens f j e end =
      let (c, k, found, done, is) = made_here while_piece.read (λ e. form.DoWhile label comma e) at tokens f j e end in
      subst (λ f. after_at label comma (out-Form f) at tokens) is (while_says label comma c at tokens (all_sound while_piece at tokens c k found done))

  after_sound : (label : Option ℕ) (comma : Bool) → Sound (read.after_do label comma) (λ f. after_at label comma (out-Form f))
  unfolding read.after_do
  after_sound label comma at tokens f j e end =
      either_way (read.sees_while (input at tokens)) (by_while label comma (input at tokens) true) (by_while label comma (input at tokens) false) (Some (f, j)) e
      (λ seen e. while_sound label comma at tokens f j e end)
      (λ unseen e.
      let (c, k, found, done, is) = made_here (read.control comma) (λ found. form.Do label (Some found)) at tokens f j e end in
      subst (λ f. after_at label comma (out-Form f) at tokens) is (counted_says label comma c at tokens (control_sound comma at tokens c k found done)))

  sees_while_then : (e : Expr) (at : ℕ) (tokens : List Token) → (word (codes "while") · condition e) at tokens → read.sees_while (input at tokens) ≡ true
  unfolding read.sees_while
  sees_while_then e at tokens says = and_from (sees_word (codes "while") (input at tokens)) (read.is_open (peek_second (input at tokens)))
      (sees_own (codes "while") at tokens (starts_with (codes "while") (condition e) at tokens says))
      (ap read.is_open (second_is (codes "while") lexeme.Open (expr e · mark lexeme.Close) at tokens says))

  no_while : (c : DoControl) (at : ℕ) (tokens : List Token) → tail c at tokens → read.sees_while (input at tokens) ≡ false
  unfolding read.sees_while
  no_while c at tokens says = and_right (sees_word (codes "while") (input at tokens)) (read.is_open (peek_second (input at tokens))) (ap read.is_open (tail_second c at tokens says))

  while_read : (label : Option ℕ) (comma : Bool) (e : Expr) (at : ℕ) (tokens : List Token) → (word (codes "while") · condition e) at tokens → Reads (read.after_do label comma) (form.DoWhile label comma e) at tokens
  unfolding read.after_do lists.condition
  while_read label comma e at tokens says =
      ap (by_while label comma (input at tokens)) (sees_while_then e at tokens says) ∙ made_complete while_piece.read (λ e. form.DoWhile label comma e) e at tokens (all_complete while_piece e at tokens says)

  counted_read : (label : Option ℕ) (c : DoControl) (at : ℕ) (tokens : List Token) → tail c at tokens → Reads (read.after_do label c.comma) (form.Do label (Some c)) at tokens
  unfolding read.after_do
  counted_read label c at tokens says =
      ap (by_while label c.comma (input at tokens)) (no_while c at tokens says) ∙ made_complete (read.control c.comma) (λ found. form.Do label (Some found)) c at tokens (control_complete c at tokens says)

  -- ---- after DO

  abbrev by_done : Option ℕ → Input → Bool → Outcome Form
  by_done label i done = if done then Some (form.Do label None, i) else (eat lexeme.Comma >>= read.after_do label) i

  comma_sound : (label : Option ℕ) (at : ℕ) (tokens : List Token) (f : Form) (j : Input) → (eat lexeme.Comma >>= read.after_do label) (input at tokens) ≡ Some (f, j) → j.rest ≡ []
      → rest_at label (out-Form f) at tokens
  comma_sound label at tokens f j e end = by (sees lexeme.Comma (input at tokens)) refl where
    by : (there : Bool) → sees lexeme.Comma (input at tokens) ≡ there → rest_at label (out-Form f) at tokens
    by true there =
        let took = took_mark lexeme.Comma (input at tokens) there in
        let says = after_sound label true (at + 1) (drop 1 tokens) f j (sym (ap (λ there. read.after_do label there (after_if there (input at tokens))) there) ∙ e) end in
        with_comma label true (out-Form f) at tokens (took.tokens, drop 1 tokens, took.rest, took.says, subst (λ place. after_at label true (out-Form f) place (drop 1 tokens)) took.at says)
    by false there =
        let says = after_sound label false at tokens f j (sym (ap (λ there. read.after_do label there (after_if there (input at tokens))) there) ∙ e) end in
        with_comma label false (out-Form f) at tokens (add_none (after_at label false (out-Form f)) at tokens says)

  rest_sound : (label : Option ℕ) → Sound (read.do_rest label) (λ f. rest_at label (out-Form f))
  unfolding read.do_rest is_done
  rest_sound label at tokens f j e end = either_way (done_at tokens) (by_done label (input at tokens) true) (by_done label (input at tokens) false) (Some (f, j)) e
      (λ done e.
      let same = some_pair_parts (form.Do label None) f (input at tokens) j e in
      subst (λ f. rest_at label (out-Form f) at tokens) same.0 (bare_says label at tokens (nothing_left tokens done)))
      (λ more e. comma_sound label at tokens f j e end)

  bare_read : (label : Option ℕ) (at : ℕ) (tokens : List Token) → tokens ≡ [] → Reads (read.do_rest label) (form.Do label None) at tokens
  unfolding read.do_rest is_done
  bare_read label at tokens none =
      subst (λ tokens. Reads (read.do_rest label) (form.Do label None) at tokens) (sym none) (ap (λ place. Some (form.Do label None, input place [])) (sym (add-zero at)))

  comma_read : (label : Option ℕ) (comma : Bool) (last : Phrase) (f : Form) (at : ℕ) (tokens : List Token) → (comma_if comma · last) at tokens
      → ((at : ℕ) (tokens : List Token) → last at tokens → begins (only lexeme.Word) tokens ≡ true)
      → ((at : ℕ) (tokens : List Token) → last at tokens → Reads (read.after_do label comma) f at tokens) → Reads (read.do_rest label) f at tokens
  unfolding read.do_rest is_done sees
  comma_read label true last f at tokens (before, rest, split, (here, is_one, is), says) begun reads =
      let later = reads (at + 1) rest (subst (λ before. last (at + length before) rest) is_one says) in
      subst (λ tokens. Reads (read.do_rest label) f at tokens) (sym (split ∙ ap (λ before. before ++ rest) is_one))
      (ap (λ there. read.after_do label there (after_if there (input at (here ∷ rest)))) (is_same (lexeme_of here) lexeme.Comma is) ∙ later ∙ ap (λ place. Some (f, input place [])) (moved at here rest)) where
        moved : (at : ℕ) (here : Token) (rest : List Token) → (at + 1) + length rest ≡ at + length (here ∷ rest)
        moved at here rest = grind (arith, common_steps)
  comma_read label false last f at tokens (before, rest, split, none, says) begun reads =
      let first = begun (at + length before) rest says in
      let says_here = subst (λ place. last place rest) (ap (λ before. at + length before) none ∙ add-zero at) says in
      subst (λ tokens. Reads (read.do_rest label) f at tokens) (sym (split ∙ ap (λ before. before ++ rest) none))
      (ap (by_done label (input at rest)) (not_done rest first)
      ∙ ap (λ there. read.after_do label there (after_if there (input at rest))) (no_comma rest first) ∙ reads at rest says_here)

  -- ---- DO

  joined : (label_is : Option ℕ) (layer : FormLayer) (at : ℕ) (tokens : List Token) → (maybe label label_is · word (codes "do") · rest_at label_is layer) at tokens → statement_at layer at tokens
  joined label_is (Form-F.Do named counted) at tokens (before, rest, split, says, (middle, last, split_rest, says_do, (same, says_last))) =
      (before, rest, split, subst (λ named. maybe label named at before) (sym same) says, (middle, last, split_rest, says_do, says_last))
  joined label_is (Form-F.DoWhile named comma e) at tokens (before, rest, split, says, (middle, last, split_rest, says_do, (same, says_last))) =
      (before, rest, split, subst (λ named. maybe label named at before) (sym same) says, (middle, last, split_rest, says_do, says_last))
  joined label_is _ at tokens (before, rest, split, says, (middle, last, split_rest, says_do, none)) = absurd none

  abbrev do_then : Option ℕ → Reader Form
  do_then label = expect_word (codes "do") >> read.do_rest label

  forget : (last : Phrase) (n at : ℕ) (tokens : List Token) → (word_at n (codes "do") · last) at tokens → (word (codes "do") · last) at tokens
  forget last n at tokens (before, rest, split, says, says_last) = (before, rest, split, word_made (codes "do") n at before says, says_last)

  pub do_sound : Sound read.do_form (λ f. statement_at (out-Form f))
  unfolding read.do_form
  do_sound at tokens f j e end =
      let (named, k, found, gives) = bind_some (read.label (input at tokens)) do_then f j e in
      let took = label_sound (input at tokens) named k found in
      let (n, says) = then_sound (word_piece (codes "do")) (λ n. read.do_rest named) (λ n f. rest_at named (out-Form f)) (λ n. rest_sound named) k.at k.rest f j gives end in
      let says_do = forget (rest_at named (out-Form f)) n k.at k.rest says in
      joined named (out-Form f) at tokens (took.tokens, k.rest, took.rest, took.says, subst (λ place. (word (codes "do") · rest_at named (out-Form f)) place k.rest) took.at says_do)

  do_read : (label : Option ℕ) (last : Phrase) (f : Form) (at : ℕ) (tokens : List Token) → (word (codes "do") · last) at tokens
      → ((at : ℕ) (tokens : List Token) → last at tokens → Reads (read.do_rest label) f at tokens) → Reads (do_then label) f at tokens
  do_read label last f at tokens (before, rest, split, says, says_last) reads =
      let (n, says_n) = word_back (codes "do") at before says in
      subst (λ tokens. Reads (do_then label) f at tokens) (sym split)
      (then_complete (word_piece (codes "do")) (λ n. read.do_rest label) n f at before rest says_n (stops rest) (reads (at + length before) rest says_last)) where
        stops : (rest : List Token) → begins (word_piece (codes "do")).more rest ≡ false
        stops [] = refl
        stops (here ∷ rest) = refl

  do_complete_by : (named : Option ℕ) (last : Phrase) (f : Form) (at : ℕ) (tokens : List Token) → (maybe label named · word (codes "do") · last) at tokens
      → ((at : ℕ) (tokens : List Token) → last at tokens → read.is_colon (first_lexeme tokens) ≡ false)
      → ((at : ℕ) (tokens : List Token) → last at tokens → Reads (read.do_rest named) f at tokens) → Reads read.do_form f at tokens
  unfolding read.do_form
  do_complete_by None last f at tokens (before, rest, split, none, says) other reads =
      let says_here = subst (λ place. (word (codes "do") · last) place rest) (ap (λ before. at + length before) none ∙ add-zero at) says in
      subst (λ tokens. Reads read.do_form f at tokens) (sym (split ∙ ap (λ before. before ++ rest) none))
      (bind_is (read.label (input at rest)) do_then None (input at rest) (Some (f, input (at + length rest) []))
      (no_label_read at rest (no_colon (codes "do") last at rest says_here other)) (do_read None last f at rest says_here reads))
  do_complete_by (Some n) last f at tokens (before, rest, split, says_label, says) other reads =
      subst (λ tokens. Reads read.do_form f at tokens) (sym split)
      (bind_is (read.label (input at (before ++ rest))) do_then (Some n) (input (at + length before) rest) (Some (f, input (at + length (before ++ rest)) []))
      (label_read n at before rest says_label) (do_read (Some n) last f (at + length before) rest says reads ∙ ap (λ place. Some (f, input place [])) (placed at before rest)))

  -- what stands after DO begins with no colon
  comma_first : (comma : Bool) (last : Phrase) (at : ℕ) (tokens : List Token) → (comma_if comma · last) at tokens
      → ((at : ℕ) (tokens : List Token) → last at tokens → begins (only lexeme.Word) tokens ≡ true) → read.is_colon (first_lexeme tokens) ≡ false
  comma_first true last at tokens (before, rest, split, (here, is_one, is), says) begun =
      begins_otherwise (only lexeme.Comma) tokens comma_no_colon (ap (begins (only lexeme.Comma)) (split ∙ ap (λ before. before ++ rest) is_one) ∙ is_same (lexeme_of here) lexeme.Comma is)
  comma_first false last at tokens (before, rest, split, none, says) begun =
      begins_otherwise (only lexeme.Word) tokens word_no_colon (ap (begins (only lexeme.Word)) (split ∙ ap (λ before. before ++ rest) none) ∙ begun (at + length before) rest says)

  pub after_do_first : (counted : Option DoControl) (at : ℕ) (tokens : List Token) → maybe control counted at tokens → read.is_colon (first_lexeme tokens) ≡ false
  after_do_first None at tokens says = ap (λ tokens. read.is_colon (first_lexeme tokens)) says
  after_do_first (Some c) at tokens says = comma_first c.comma (tail c) at tokens says (tail_begins c)

  while_begins : (e : Expr) (at : ℕ) (tokens : List Token) → (word (codes "while") · condition e) at tokens → begins (only lexeme.Word) tokens ≡ true
  while_begins e at tokens (before, rest, split, says, says_e) = ap (begins (only lexeme.Word)) split ∙ begins_after (only lexeme.Word) before rest (word_begins (codes "while") at before says)

  pub after_do_while_first : (comma : Bool) (e : Expr) (at : ℕ) (tokens : List Token) → (comma_if comma · word (codes "while") · condition e) at tokens → read.is_colon (first_lexeme tokens) ≡ false
  after_do_while_first comma e at tokens says = comma_first comma (word (codes "while") · condition e) at tokens says (while_begins e)

  counted_reads : (named : Option ℕ) (c : Option DoControl) (at : ℕ) (tokens : List Token) → maybe control c at tokens → Reads (read.do_rest named) (form.Do named c) at tokens
  counted_reads named None at tokens says = bare_read named at tokens says
  counted_reads named (Some c) at tokens says = comma_read named c.comma (tail c) (form.Do named (Some c)) at tokens says (tail_begins c) (counted_read named c)

  pub do_complete : (named : Option ℕ) (c : Option DoControl) (at : ℕ) (tokens : List Token) → statement_at (Form-F.Do named c) at tokens → Reads read.do_form (roll-Form (Form-F.Do named c)) at tokens
  unfolding roll-Form denote.Hole.Carrier.roll
  do_complete named c at tokens says = do_complete_by named (maybe control c) (form.Do named c) at tokens says (after_do_first c) (counted_reads named c)

  pub do_while_complete : (named : Option ℕ) (comma : Bool) (e : Expr) (at : ℕ) (tokens : List Token) → statement_at (Form-F.DoWhile named comma e) at tokens
      → Reads read.do_form (roll-Form (Form-F.DoWhile named comma e)) at tokens
  unfolding roll-Form denote.Hole.Carrier.roll
  do_while_complete named comma e at tokens says =
      do_complete_by named (comma_if comma · word (codes "while") · condition e) (form.DoWhile named comma e) at tokens says (after_do_while_first comma e)
      (λ at tokens says. comma_read named comma (word (codes "while") · condition e) (form.DoWhile named comma e) at tokens says (while_begins e) (while_read named comma e))
