-- COMMON is read as it is written.
use Rattle.std.proofs.Common.{◌≡◌, refl, sym, ◌∙◌, ap, subst, ℕ, ◌+◌, true, false, List, [], ◌∷◌, ◌++◌, length, Option, Some, None, ◌⊎◌, inl, inr, if◌then◌else◌, add-zero}
use Rattle.std.proofs.lemmas.Option.{some_pair_parts}
use Rattle.ftn_tree.specs.declared.token.Token.{Token}
use Rattle.ftn_tree.specs.declared.parts.BlockName.{BlockName}
use Rattle.ftn_tree.specs.declared.parts.BlockName.TheVariants.{Unwritten, Blank, Named}
use Rattle.ftn_tree.specs.declared.lexeme.Lexeme.{Lexeme}
use Rattle.ftn_tree.specs.declared.lexeme.Lexeme.TheVariants.{Divide, Concat}
use Rattle.ftn_tree.specs.Lexemes.{lexeme_of, same_lexeme}
use Rattle.ftn_tree.specs.Phrases.{Phrase, nothing, never, ◌·◌, mark, mark_at, name}
use Rattle.ftn_tree.specs.SpecificationForms as form
use Rattle.expr_parse.specs.steps.Input.{Input, input, pure, sees, peek}
use Rattle.expr_parse.specs.steps.Combinators.{◌<$>◌}
use Rattle.expr_parse.proofs.Pieces.{Piece, Took, Apart, begins, seq, reread}
use Rattle.expr_parse.proofs.AllKinds.{apart, within}
use Rattle.expr_parse.proofs.Tokens.{only, none_of, apart_none, mark_piece, name_piece, before_mark, bare_made, bare_back}
use Rattle.spec_parse.specs.steps.Blocks as spec
use Rattle.spec_parse.specs.steps.Blocks.{rest_of_block, block, first_block, sees_slash}
use Rattle.spec_parse.proofs.Choices.{choice, plain}
use Rattle.spec_parse.proofs.Seen.{seen, unseen}
use Rattle.spec_parse.proofs.TypePieces.{itself}
use Rattle.spec_parse.proofs.Members.{is_slash, slash_is}

-- ---- the name of a block

abbrev pub rest_text : Option ℕ → Phrase
rest_text None = mark Divide
rest_text (Some n) = name n · mark Divide

abbrev pub named_piece : Piece ℕ
named_piece = before_mark name_piece Divide (apart_none (only Divide))

pub rest_back : (c : Option ℕ) (at : ℕ) (tokens : List Token) → rest_text c at tokens
    → ((n : ℕ) × (spec.no_name n ≡ c) × mark_at n Divide at tokens) ⊎ ((n : ℕ) × (Some n ≡ c) × named_piece.phrase n at tokens)
rest_back None at tokens says = let (n, says_n) = bare_back Divide at tokens says in inl (n, refl, says_n)
rest_back (Some n) at tokens says = inr (n, refl, says)

pub named_no_slash : Apart named_piece.first (only Divide)
unfolding same_lexeme
named_no_slash = apart named_piece.first (only Divide) refl

abbrev pub rest_choice : Piece (Option ℕ)
rest_choice = choice (sees Divide) (mark_piece Divide) spec.no_name named_piece Some rest_text (bare_made Divide) (λ n at tokens says. says) rest_back none_of
    (seen (mark_piece Divide) Divide refl (itself Divide)) (unseen named_piece Divide refl named_no_slash)

pub rest_read : (i : Input) → rest_of_block i ≡ rest_choice.read i
unfolding rest_of_block
rest_read i = refl

abbrev pub rest_piece : Piece (Option ℕ)
rest_piece = reread rest_choice rest_of_block rest_read

abbrev pub slashes_piece : Piece (ℕ × Option ℕ)
slashes_piece = seq (mark_piece Divide) rest_piece (apart_none rest_piece.first)

-- a block that is written
abbrev pub block_text : BlockName → Phrase
block_text Unwritten = never
block_text (Blank slash joined) = form.block_name (Blank slash joined)
block_text (Named slash n) = form.block_name (Named slash n)

pub slashes_made : (b : ℕ × Option ℕ) (at : ℕ) (tokens : List Token) → slashes_piece.phrase b at tokens → block_text (spec.block_of b) at tokens
slashes_made (slash, None) at tokens says = says
slashes_made (slash, Some n) at tokens says = says

pub block_back : (c : BlockName) (at : ℕ) (tokens : List Token) → block_text c at tokens
    → ((n : ℕ) × (spec.joined n ≡ c) × mark_at n Concat at tokens) ⊎ ((b : ℕ × Option ℕ) × (spec.block_of b ≡ c) × slashes_piece.phrase b at tokens)
block_back Unwritten at tokens says = absurd says
block_back (Blank slash true) at tokens says = inl (slash, refl, says)
block_back (Blank slash false) at tokens says = inr ((slash, None), refl, says)
block_back (Named slash n) at tokens says = inr ((slash, Some n), refl, says)

pub slashes_no_concat : Apart slashes_piece.first (only Concat)
unfolding same_lexeme
slashes_no_concat = apart slashes_piece.first (only Concat) refl

abbrev pub block_choice : Piece BlockName
block_choice = choice (sees Concat) (mark_piece Concat) spec.joined slashes_piece spec.block_of block_text (λ n at tokens says. says) slashes_made block_back none_of
    (seen (mark_piece Concat) Concat refl (itself Concat)) (unseen slashes_piece Concat refl slashes_no_concat)

pub block_read : (i : Input) → block i ≡ block_choice.read i
unfolding block
block_read i = refl

abbrev pub block_piece : Piece BlockName
block_piece = reread block_choice block block_read

-- ---- the block of the first group

pub nothing_sound : (i : Input) (u : Unit {0}) (j : Input) → pure {A = Unit {0}} tt i ≡ Some (u, j) → Took nothing i j
nothing_sound i u j e =
    let same = some_pair_parts {A = Unit {0}} tt u i j e in
    subst (λ j. Took nothing i j) same.1 (record { tokens = []; rest = refl; at = sym (add-zero i.at); says = refl })

pub nothing_complete : (u : Unit {0}) (at : ℕ) (tokens rest : List Token) → nothing at tokens → begins none_of rest ≡ false → pure {A = Unit {0}} tt (input at (tokens ++ rest)) ≡ Some (u, input (at + length tokens) rest)
nothing_complete u at tokens rest says stops =
    subst (λ tokens. pure {A = Unit {0}} tt (input at (tokens ++ rest)) ≡ Some (u, input (at + length tokens) rest)) (sym says)
    (ap (λ place. Some (tt, input place rest)) (sym (add-zero at)))

pub nothing_begun : (u : Unit {0}) (at : ℕ) (tokens : List Token) → nothing at tokens → (begins none_of tokens ≡ true) ⊎ ((tokens ≡ []) × (true ≡ true))
nothing_begun u at tokens says = inr (says, refl)

abbrev pub nothing_piece : Piece (Unit {0})
nothing_piece = record {
  phrase = λ u. nothing;
  read = pure tt;
  first = none_of;
  empty = true;
  more = none_of;
  begun = nothing_begun;
  sound = nothing_sound;
  complete = nothing_complete;
}

pub first_made : (b : BlockName) (at : ℕ) (tokens : List Token) → block_text b at tokens → form.block_name b at tokens
first_made Unwritten at tokens says = absurd says
first_made (Blank slash joined) at tokens says = says
first_made (Named slash n) at tokens says = says

pub first_back : (c : BlockName) (at : ℕ) (tokens : List Token) → form.block_name c at tokens
    → ((b : BlockName) × (b ≡ c) × block_text b at tokens) ⊎ ((u : Unit {0}) × (spec.unwritten u ≡ c) × nothing at tokens)
first_back Unwritten at tokens says = inr (tt, refl, says)
first_back (Blank slash joined) at tokens says = inl (Blank slash joined, refl, says)
first_back (Named slash n) at tokens says = inl (Named slash n, refl, says)

slash_at : (at : ℕ) (tokens : List Token) → sees_slash (input at tokens) ≡ begins is_slash tokens
unfolding peek
slash_at at [] = refl
slash_at at (here ∷ rest) = slash_is (lexeme_of here)

pub block_slash : (kind : Lexeme) → block_piece.first kind ≡ true → is_slash kind ≡ true
unfolding same_lexeme
block_slash = within block_piece.first is_slash refl

slash_longer : (tokens rest : List Token) → begins block_piece.first tokens ≡ true → begins is_slash (tokens ++ rest) ≡ true
slash_longer [] rest e = absurd (cc e)
slash_longer (here ∷ tokens) rest e = block_slash (lexeme_of here) e

-- a block begins with a slash
pub block_begins : (b : BlockName) (at : ℕ) (tokens rest : List Token) → block_text b at tokens → begins is_slash (tokens ++ rest) ≡ true
block_begins b at tokens rest says = by (block_piece.begun b at tokens says) where
  by : (begins block_piece.first tokens ≡ true) ⊎ ((tokens ≡ []) × (block_piece.empty ≡ true)) → begins is_slash (tokens ++ rest) ≡ true
  by (inl e) = slash_longer tokens rest e
  by (inr none) = absurd (cc none.1)

pub shows_slash : (b : BlockName) (at : ℕ) (tokens rest : List Token) → block_text b at tokens → begins block_piece.more rest ≡ false → sees_slash (input at (tokens ++ rest)) ≡ true
shows_slash b at tokens rest says stops = slash_at at (tokens ++ rest) ∙ block_begins b at tokens rest says

pub shows_none : (u : Unit {0}) (at : ℕ) (tokens rest : List Token) → nothing at tokens → begins none_of rest ≡ false → begins is_slash rest ≡ false → sees_slash (input at (tokens ++ rest)) ≡ false
shows_none u at tokens rest says stops none = subst (λ tokens. sees_slash (input at (tokens ++ rest)) ≡ false) (sym says) (slash_at at rest ∙ none)

abbrev pub first_choice : Piece BlockName
first_choice = choice sees_slash block_piece (λ b. b) nothing_piece spec.unwritten form.block_name first_made (λ u at tokens says. says) first_back is_slash shows_slash shows_none

pub first_read : (i : Input) → first_block i ≡ first_choice.read i
unfolding first_block
first_read i = ap (λ found. if sees_slash i then found else (spec.unwritten <$> pure tt) i) (plain (block i))

abbrev pub first_piece : Piece BlockName
first_piece = reread first_choice first_block first_read
