-- Lists with `::` before them are read as they are written.
use Rattle.std.proofs.Common.{◌≡◌, refl, ℕ, Bool, true, false, List, [], ◌∷◌, Option, Some, None}
use Rattle.ftn_tree.specs.declared.token.Token.{Token}
use Rattle.ftn_tree.specs.declared.lexeme.Lexeme.TheVariants.{Comma, Colons}
use Rattle.ftn_tree.specs.Phrases.{maybe}
use Rattle.ftn_tree.specs.SpecificationForms.{items_or_none}
use Rattle.expr_parse.proofs.Pieces.{Piece, Apart, seq, mapped}
use Rattle.expr_parse.proofs.Tokens.{only}
use Rattle.expr_parse.proofs.Lists.{list}
use Rattle.expr_parse.proofs.Ends.{unless_done}
use Rattle.spec_parse.specs.steps.Lists.{or_none}
use Rattle.spec_parse.proofs.Flags.{flag}

module _ {A : Type 0} (piece : Piece A) (filled : piece.empty ≡ false) (no_comma : Apart (only Comma) piece.more) (no_colons : Apart piece.first (only Colons)) where
  -- `[::] item, ..`
  abbrev pub after_colons_piece : Piece (Bool × List A)
  after_colons_piece = seq (flag Colons) (list piece filled no_comma) no_colons

  pub items_made : (b : Option (Bool × List A)) (at : ℕ) (tokens : List Token) → maybe after_colons_piece.phrase b at tokens → items_or_none piece.phrase (or_none b).0 (or_none b).1 at tokens
  items_made None at tokens says = says
  items_made (Some (colons, [])) at tokens (before, after, split, says, says_list) = absurd says_list
  items_made (Some (true, first ∷ rest)) at tokens says = says
  items_made (Some (false, first ∷ rest)) at tokens says = says

  pub items_back_by : (colons : Bool) (items : List A) (at : ℕ) (tokens : List Token) → items_or_none piece.phrase colons items at tokens
      → (b : Option (Bool × List A)) × (or_none b ≡ (colons, items)) × maybe after_colons_piece.phrase b at tokens
  items_back_by false [] at tokens says = (None, refl, says)
  items_back_by true [] at tokens says = absurd says
  items_back_by false (first ∷ rest) at tokens says = (Some (false, first ∷ rest), refl, says)
  items_back_by true (first ∷ rest) at tokens says = (Some (true, first ∷ rest), refl, says)

  -- `[[::] item, ..]`, to the end of the statement
  abbrev pub items_piece : Piece (Bool × List A)
  items_piece = mapped (unless_done after_colons_piece refl) or_none (λ both. items_or_none piece.phrase both.0 both.1) items_made (λ both. items_back_by both.0 both.1)
