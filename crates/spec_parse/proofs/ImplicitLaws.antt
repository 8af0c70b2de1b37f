-- IMPLICIT statements are read as they are written.
use Rattle.std.proofs.Common.{◌≡◌, refl, ℕ, List, Option, Some, None, ◌⊎◌, inl, inr, codes}
use denote.Hole.Carrier
use Rattle.ftn_tree.specs.declared.token.Token.{Token}
use Rattle.ftn_tree.specs.declared.form.Form.{out-Form}
use Rattle.ftn_tree.specs.declared.form.Form.TheVariants as form
use Rattle.ftn_tree.specs.declared.parts.LetterGroup.{LetterGroup}
use Rattle.ftn_tree.specs.Phrases.{◌·◌, word, commas}
use Rattle.ftn_tree.specs.UnitForms as written
use Rattle.expr_parse.specs.steps.Input.{sees_word}
use Rattle.expr_parse.proofs.Pieces.{Piece}
use Rattle.expr_parse.proofs.Tokens.{none_of, word_piece, word_made, word_back, after_word}
use Rattle.spec_parse.specs.steps.Implicits.{given_number, star_length, len_given, paren_length, implicit_length, implicit_character, implicit_type, letter_range, listed_ranges, ranges, plain_group, typed_group, letter_group, groups, groups_or_none, implicit}
use Rattle.spec_parse.proofs.Choices.{choice}
use Rattle.spec_parse.proofs.ImplicitTypes.{groups_piece, hides_none}
use Rattle.spec_parse.proofs.Seen.{starts_word_at, shows}
use Rattle.spec_parse.proofs.Wholes.{Sound, GivesForm, row_sound, row_complete}

abbrev none_found : ℕ → Option (List LetterGroup)
none_found number = None

abbrev some_found : List LetterGroup → Option (List LetterGroup)
some_found all = Some all

back : (found : Option (List LetterGroup)) (at : ℕ) (tokens : List Token) → written.implicit_of found at tokens
    → ((number : ℕ) × (none_found number ≡ found) × (word_piece (codes "none")).phrase number at tokens) ⊎ ((all : List LetterGroup) × (some_found all ≡ found) × commas written.letter_group all at tokens)
back None at tokens says = let (number, says_number) = word_back (codes "none") at tokens says in inl (number, refl, says_number)
back (Some all) at tokens says = inr (all, refl, says)

abbrev found_piece : Piece (Option (List LetterGroup))
found_piece = choice (sees_word (codes "none")) (word_piece (codes "none")) none_found groups_piece some_found written.implicit_of
    (λ number at tokens says. word_made (codes "none") number at tokens says)
    (λ all at tokens says. says)
    back none_of
    (λ number at tokens rest says stops. shows (codes "none") at tokens rest (starts_word_at number (codes "none") at tokens says))
    (λ all at tokens rest says stops none. hides_none all at tokens rest says)

abbrev implicit_parts : Piece (Option (List LetterGroup))
implicit_parts = after_word (codes "implicit") found_piece

pub sound_implicit : Sound implicit
unfolding implicit groups_or_none groups letter_group plain_group typed_group ranges listed_ranges letter_range implicit_type implicit_character implicit_length paren_length len_given star_length given_number out-Form denote.Hole.Carrier.out
sound_implicit = row_sound implicit_parts form.Implicit (λ found at tokens says. says)

pub complete_implicit : (found : Option (List LetterGroup)) (at : ℕ) (tokens : List Token) → (word (codes "implicit") · written.implicit_of found) at tokens → GivesForm implicit at tokens (form.Implicit found)
unfolding implicit groups_or_none groups letter_group plain_group typed_group ranges listed_ranges letter_range implicit_type implicit_character implicit_length paren_length len_given star_length given_number
complete_implicit found at tokens says = row_complete implicit_parts form.Implicit found at tokens says
