-- END statements are read as they are written.
use Rattle.std.proofs.Common.{◌≡◌, refl, ◌∙◌, ap, subst, ℕ, Bool, true, false, List, [], Option, Some, None, codes}
use Rattle.std.proofs.lemmas.List.{append-nil}
use Rattle.std.specs.Str.{bytes_eq}
use denote.Hole.Carrier
use Rattle.ftn_tree.specs.declared.token.Token.{Token}
use Rattle.ftn_tree.specs.declared.form.Form.{Form, out-Form}
use Rattle.ftn_tree.specs.declared.form.Form.TheVariants as form
use Rattle.ftn_tree.specs.declared.parts.EndWord.{EndWord}
use Rattle.ftn_tree.specs.declared.parts.EndWord.TheVariants.{Program, Module, BlockData, Subroutine, Function, Interface, If, Do, Select}
use Rattle.ftn_tree.specs.declared.parts.Ending.{Ending}
use Rattle.ftn_tree.specs.Phrases.{Phrase, ◌·◌, word, name, whether, maybe}
use Rattle.ftn_tree.specs.UnitForms.{is_parted, end_text, end_words, end_of}
use Rattle.expr_parse.specs.steps.Input.{input, Reader, sees_word}
use Rattle.expr_parse.specs.steps.Combinators.{◌<$>◌}
use Rattle.spec_parse.specs.steps.Endings.{ending, parted_end, end_row}
use Rattle.spec_parse.specs.declared.rows.Row.TheVariants as row
use Rattle.spec_parse.specs.steps.Rows.{find_row, attribute_row, row_at_front}
use Rattle.ftn_tree.proofs.PhraseLaws.{to_right, to_left, drop_end, add_end}
use Rattle.spec_parse.proofs.EndPieces.{spelled, ending_parts, ending_of, ending_piece, parted_parts}
use Rattle.spec_parse.proofs.FirstWords.{alone_leads, phrase_leads}
use Rattle.spec_parse.proofs.Seen.{Starts, starts_word, starts_first, shows, hides}
use Rattle.spec_parse.proofs.Wholes.{Sound, GivesForm, row_sound, row_complete, choose_one, choose_other, chosen_sound, image}

abbrev parted_row : Reader Form
parted_row = form.End <$> parted_end

abbrev joined_form : Ending → Form
joined_form found = form.End (Some found)

abbrev joined_row : Reader Form
joined_row = joined_form <$> ending true

-- what follows the first word of an END
abbrev second : EndWord → Phrase
second which = whether (is_parted which) (word (codes "data"))

-- ---- sound

written_parted : (found : Ending) (at : ℕ) (tokens : List Token) → (word (codes "end") · image (ending_parts false) (ending_of false) found) at tokens → end_of (Some found) at tokens
written_parted found at tokens (before, after, split, says, (parts, same, says_parts)) =
    let (both, rest, split_all, says_both, says_name) = to_left (word (codes "end")) (word (end_text parts.0) · second parts.0) (maybe name parts.1) at tokens (before, after, split, says, says_parts) in
    subst (λ found. end_of (Some found) at tokens) same
    (both, rest, split_all, to_left (word (codes "end")) (word (end_text parts.0)) (second parts.0) at both says_both, says_name)

parted_made : (found : Option Ending) (at : ℕ) (tokens : List Token) → parted_parts.phrase found at tokens → end_of found at tokens
parted_made None at tokens says = drop_end (word (codes "end")) at tokens says
parted_made (Some found) at tokens says = written_parted found at tokens says

sound_parted : Sound (form.End <$> parted_end)
unfolding parted_end ending out-Form denote.Hole.Carrier.out
sound_parted = row_sound parted_parts form.End parted_made

joined_made : (found : Ending) (at : ℕ) (tokens : List Token) → image (ending_parts true) (ending_of true) found at tokens → end_of (Some found) at tokens
joined_made found at tokens (parts, same, says) = subst (λ found. end_of (Some found) at tokens) same says

sound_joined : Sound (joined_form <$> ending true)
unfolding ending out-Form denote.Hole.Carrier.out
sound_joined = row_sound (ending_piece true) joined_form joined_made

pub sound_end : Sound end_row
unfolding end_row
sound_end = chosen_sound (sees_word (codes "end")) parted_row joined_row sound_parted sound_joined

-- ---- complete

shows_end : (at : ℕ) (tokens : List Token) → Starts (codes "end") tokens → sees_word (codes "end") (input at tokens) ≡ true
shows_end at tokens e = subst (λ tokens. sees_word (codes "end") (input at tokens) ≡ true) (append-nil tokens) (shows (codes "end") at tokens [] e)

-- no joined word is END itself
not_end : (which : EndWord) → bytes_eq (spelled true which) (codes "end") ≡ false
not_end Program = refl
not_end Module = refl
not_end Subroutine = refl
not_end Function = refl
not_end Interface = refl
not_end If = refl
not_end Do = refl
not_end Select = refl
not_end (BlockData false) = refl
not_end (BlockData true) = refl

hides_end : (which : EndWord) (at : ℕ) (tokens : List Token) → Starts (spelled true which) tokens → sees_word (codes "end") (input at tokens) ≡ false
hides_end which at tokens e =
    subst (λ tokens. sees_word (codes "end") (input at tokens) ≡ false) (append-nil tokens) (hides (spelled true which) (codes "end") at tokens [] (not_end which) e)

complete_alone : (at : ℕ) (tokens : List Token) → word (codes "end") at tokens → GivesForm end_row at tokens (form.End None)
unfolding end_row parted_end ending
complete_alone at tokens says =
    choose_one (sees_word (codes "end")) parted_row joined_row (input at tokens) (shows_end at tokens (starts_word (codes "end") at tokens says))
    ∙ row_complete parted_parts form.End None at tokens (add_end (word (codes "end")) at tokens says)

abbrev with_parts : Bool → EndWord → Option ℕ → Ending
with_parts joined which named = ending_of joined (which, named)

complete_with : (joined : Bool) (which : EndWord) (named : Option ℕ) (at : ℕ) (tokens : List Token) → (end_words joined which · maybe name named) at tokens
    → GivesForm end_row at tokens (form.End (Some (with_parts joined which named)))
unfolding end_row parted_end ending
complete_with true which named at tokens says =
    choose_other (sees_word (codes "end")) parted_row joined_row (input at tokens)
    (hides_end which at tokens (starts_first (spelled true which) (second which · maybe name named) at tokens (to_right (word (spelled true which)) (second which) (maybe name named) at tokens says)))
    ∙ row_complete (ending_piece true) joined_form (with_parts true which named) at tokens ((which, named), refl, says)
complete_with false which named at tokens says =
    let (both, last, split_all, says_both, says_name) = says in
    let (before, after, split, says_end, says_rest) = to_right (word (codes "end")) (word (end_text which) · second which) (maybe name named) at tokens
    (both, last, split_all, to_right (word (codes "end")) (word (end_text which)) (second which) at both says_both, says_name) in
    choose_one (sees_word (codes "end")) parted_row joined_row (input at tokens)
    (shows_end at tokens (starts_first (codes "end") ((word (end_text which) · second which) · maybe name named) at tokens (before, after, split, says_end, says_rest)))
    ∙ row_complete parted_parts form.End (Some (with_parts false which named)) at tokens (before, after, split, says_end, ((which, named), refl, says_rest))

pub complete_end : (found : Option Ending) (at : ℕ) (tokens : List Token) → end_of found at tokens → GivesForm end_row at tokens (form.End found)
complete_end None at tokens says = complete_alone at tokens says
complete_end (Some found) at tokens says = complete_with found.joined found.word found.name at tokens says

-- ---- the first word

joined_row_is : (which : EndWord) → find_row (spelled true which) ≡ row.End
unfolding find_row attribute_row
joined_row_is Program = refl
joined_row_is Module = refl
joined_row_is Subroutine = refl
joined_row_is Function = refl
joined_row_is Interface = refl
joined_row_is If = refl
joined_row_is Do = refl
joined_row_is Select = refl
joined_row_is (BlockData false) = refl
joined_row_is (BlockData true) = refl

end_row_is : find_row (codes "end") ≡ row.End
unfolding find_row attribute_row
end_row_is = refl

leads_with : (joined : Bool) (which : EndWord) (rest : Phrase) (at : ℕ) (tokens : List Token) → (end_words joined which · rest) at tokens → row_at_front tokens ≡ Some row.End
leads_with true which rest at tokens says =
    phrase_leads (spelled true which) (second which · rest) at tokens (to_right (word (spelled true which)) (second which) rest at tokens says) ∙ ap Some (joined_row_is which)
leads_with false which rest at tokens says =
    let all = to_right (word (codes "end") · word (end_text which)) (second which) rest at tokens says in
    phrase_leads (codes "end") (word (end_text which) · (second which · rest)) at tokens (to_right (word (codes "end")) (word (end_text which)) (second which · rest) at tokens all) ∙ ap Some end_row_is

pub end_leads : (found : Option Ending) (at : ℕ) (tokens : List Token) → end_of found at tokens → row_at_front tokens ≡ Some row.End
end_leads None at tokens says = alone_leads (codes "end") at tokens says ∙ ap Some end_row_is
end_leads (Some found) at tokens says = leads_with found.joined found.word (maybe name found.name) at tokens says
