-- USE statements are read as they are written.
use Rattle.std.proofs.Common.{◌≡◌, refl, sym, ◌∙◌, ap, subst, ℕ, Bool, true, false, List, [], ◌∷◌, ◌++◌, codes}
use Rattle.std.proofs.lemmas.Bool.{and_from, and_right}
use denote.Hole.Carrier
use Rattle.ftn_tree.specs.declared.token.Token.{Token}
use Rattle.ftn_tree.specs.declared.form.Form.{Form, out-Form}
use Rattle.ftn_tree.specs.declared.form.Form.TheVariants as form
use Rattle.ftn_tree.specs.declared.lexeme.Lexeme.{Lexeme}
use Rattle.ftn_tree.specs.declared.lexeme.Lexeme.TheVariants.{Comma, Colon, Arrow}
use Rattle.ftn_tree.specs.declared.parts.Rename.{Rename}
use Rattle.ftn_tree.specs.declared.parts.OnlyItem.{OnlyItem}
use Rattle.ftn_tree.specs.Lexemes.{lexeme_of, is_word, same_lexeme}
use Rattle.ftn_tree.specs.Phrases.{◌·◌, word, mark, name, after_commas, commas_or_none}
use Rattle.ftn_tree.specs.UnitForms as written
use Rattle.expr_parse.specs.steps.Input.{Input, input}
use Rattle.expr_parse.proofs.Tokens.{is_same}
use Rattle.spec_parse.specs.steps.Uses.{rename, only_item, renames, use_all, only_items, items_if_any, use_only, names_items, use_row}
use Rattle.ftn_tree.proofs.PhraseLaws.{led_by}
use Rattle.spec_parse.proofs.UsePieces as parts
use Rattle.spec_parse.proofs.Wholes.{Sound, GivesForm, row_sound, row_complete, choose_one, choose_other, chosen_sound}

abbrev by_colon : Input → Bool
by_colon i = names_items i.rest

abbrev all_form : ℕ × List Rename → Form
all_form both = form.UseAll both.0 both.1

abbrev only_form : ℕ × List OnlyItem → Form
only_form both = form.UseOnly both.0 both.1

sound_all : Sound use_all
unfolding use_all renames rename out-Form denote.Hole.Carrier.out
sound_all = row_sound parts.use_all_parts all_form (λ both at tokens says. says)

sound_only : Sound use_only
unfolding use_only items_if_any only_items only_item out-Form denote.Hole.Carrier.out
sound_only = row_sound parts.use_only_parts only_form (λ both at tokens says. says)

pub sound_use : Sound use_row
unfolding use_row
sound_use = chosen_sound by_colon use_only use_all sound_only sound_all

arrow_no_colon : (kind : Lexeme) → kind ≡ Arrow → same_lexeme kind Colon ≡ false
unfolding same_lexeme
arrow_no_colon kind e = ap (λ kind. same_lexeme kind Colon) e

has_colon : (n : ℕ) (items : List OnlyItem) (at : ℕ) (tokens : List Token)
    → (word (codes "use") · name n · mark Comma · word (codes "only") · mark Colon · commas_or_none written.only_item items) at tokens → names_items tokens ≡ true
unfolding names_items
has_colon n items at tokens (b1, a1, s1, (t1, o1, i1), (b2, a2, s2, (t2, o2, i2), (b3, a3, s3, (t3, o3, i3), (b4, a4, s4, (t4, o4, i4), (b5, a5, s5, (t5, o5, i5), says))))) =
    let all_tokens = led_by t1 b1 a1 (t2 ∷ t3 ∷ t4 ∷ t5 ∷ a5) tokens s1 o1 (led_by t2 b2 a2 (t3 ∷ t4 ∷ t5 ∷ a5) a1 s2 o2 (led_by t3 b3 a3 (t4 ∷ t5 ∷ a5) a2 s3 o3
    (led_by t4 b4 a4 (t5 ∷ a5) a3 s4 o4 (led_by t5 b5 a5 a5 a4 s5 o5 refl)))) in
    subst (λ tokens. names_items tokens ≡ true) (sym all_tokens) (and_from (is_word (codes "only") t4) (same_lexeme (lexeme_of t5) Colon) i4 (is_same (lexeme_of t5) Colon i5))

no_colon : (n : ℕ) (items : List Rename) (at : ℕ) (tokens : List Token) → (word (codes "use") · name n · after_commas written.rename items) at tokens → names_items tokens ≡ false
unfolding names_items
no_colon n [] at tokens (b1, a1, s1, (t1, o1, i1), (b2, a2, s2, (t2, o2, i2), none)) =
    subst (λ tokens. names_items tokens ≡ false) (sym (led_by t1 b1 a1 (t2 ∷ []) tokens s1 o1 (led_by t2 b2 a2 [] a1 s2 o2 none))) refl
no_colon n (item ∷ items) at tokens
    (b1, a1, s1, (t1, o1, i1), (b2, a2, s2, (t2, o2, i2), (b3, a3, s3, (t3, o3, i3), (b4, a4, s4, (b5, a5, s5, (t5, o5, i5), (b6, a6, s6, (t6, o6, i6), says_source)), says)))) =
    let one = led_by t5 b5 a5 (t6 ∷ a6) b4 s5 o5 (led_by t6 b6 a6 a6 a5 s6 o6 refl) in
    let rest = s4 ∙ ap (λ b. b ++ a4) one in
    let all_tokens = led_by t1 b1 a1 (t2 ∷ t3 ∷ t5 ∷ t6 ∷ (a6 ++ a4)) tokens s1 o1 (led_by t2 b2 a2 (t3 ∷ t5 ∷ t6 ∷ (a6 ++ a4)) a1 s2 o2 (led_by t3 b3 a3 (t5 ∷ t6 ∷ (a6 ++ a4)) a2 s3 o3 rest)) in
    subst (λ tokens. names_items tokens ≡ false) (sym all_tokens) (and_right (is_word (codes "only") t5) (same_lexeme (lexeme_of t6) Colon) (arrow_no_colon (lexeme_of t6) i6))

pub complete_use_all : (n : ℕ) (items : List Rename) (at : ℕ) (tokens : List Token) → (word (codes "use") · name n · after_commas written.rename items) at tokens → GivesForm use_row at tokens (form.UseAll n items)
unfolding use_row use_all renames rename
complete_use_all n items at tokens says =
    choose_other by_colon use_only use_all (input at tokens) (no_colon n items at tokens says) ∙ row_complete parts.use_all_parts all_form (n, items) at tokens says

pub complete_use_only : (n : ℕ) (items : List OnlyItem) (at : ℕ) (tokens : List Token)
    → (word (codes "use") · name n · mark Comma · word (codes "only") · mark Colon · commas_or_none written.only_item items) at tokens → GivesForm use_row at tokens (form.UseOnly n items)
unfolding use_row use_only items_if_any only_items only_item
complete_use_only n items at tokens says =
    choose_one by_colon use_only use_all (input at tokens) (has_colon n items at tokens says) ∙ row_complete parts.use_only_parts only_form (n, items) at tokens says
