-- The parts of USE statements.
use Rattle.std.proofs.Common.{◌≡◌, refl, ℕ, true, List, [], ◌∷◌, Option, Some, None, codes}
use Rattle.ftn_tree.specs.declared.token.Token.{Token}
use Rattle.ftn_tree.specs.declared.lexeme.Lexeme.{Lexeme}
use Rattle.ftn_tree.specs.declared.lexeme.Lexeme.TheVariants.{Comma, Colon, Arrow}
use Rattle.ftn_tree.specs.declared.parts.Rename.{Rename}
use Rattle.ftn_tree.specs.declared.parts.OnlyItem.{OnlyItem}
use Rattle.ftn_tree.specs.Lexemes.{same_lexeme}
use Rattle.ftn_tree.specs.Phrases.{mark, name, maybe, commas, commas_or_none}
use Rattle.ftn_tree.specs.UnitForms as written
use Rattle.expr_parse.proofs.Pieces.{Piece, Apart, seq, mapped, option}
use Rattle.expr_parse.proofs.AllKinds.{apart, within}
use Rattle.expr_parse.proofs.Tokens.{only, apart_none, name_piece, after_word, after_mark}
use Rattle.expr_parse.proofs.Lists.{list}
use Rattle.expr_parse.proofs.Commas.{tail}
use Rattle.expr_parse.proofs.Ends.{unless_done}
use Rattle.spec_parse.specs.steps.Uses.{item_by, or_none}
use Rattle.ftn_tree.proofs.PhraseLaws.{to_right, to_left, drop_none, add_none, drop_end, add_end}

-- ---- renames

abbrev rename_parts : Piece (ℕ × ℕ)
rename_parts = seq name_piece (after_mark Arrow name_piece) (apart_none _)

abbrev rename_of : ℕ × ℕ → Rename
rename_of both = record { local = both.0; source = both.1 }

pub rename_made : (both : ℕ × ℕ) (at : ℕ) (tokens : List Token) → rename_parts.phrase both at tokens → written.rename (rename_of both) at tokens
rename_made both at tokens says = says

pub rename_back : (item : Rename) (at : ℕ) (tokens : List Token) → written.rename item at tokens → (both : ℕ × ℕ) × (rename_of both ≡ item) × rename_parts.phrase both at tokens
rename_back item at tokens says = ((item.local, item.source), refl, says)

abbrev pub rename_piece : Piece Rename
rename_piece = mapped rename_parts rename_of written.rename rename_made rename_back

abbrev pub use_all_parts : Piece (ℕ × List Rename)
use_all_parts = after_word (codes "use") (seq name_piece (tail rename_piece (apart_none (only Comma))) (apart_none _))

-- ---- items after ONLY

abbrev source_piece : Piece ℕ
source_piece = after_mark Arrow name_piece

pub arrow_only : (kind : Lexeme) → source_piece.first kind ≡ true → only Arrow kind ≡ true
unfolding same_lexeme
arrow_only = within source_piece.first (only Arrow) refl

abbrev item_parts : Piece (ℕ × Option ℕ)
item_parts = seq name_piece (option source_piece Arrow refl arrow_only) (apart_none _)

abbrev item_of : ℕ × Option ℕ → OnlyItem
item_of both = item_by both.0 both.1

pub item_made_by : (first : ℕ) (second : Option ℕ) (at : ℕ) (tokens : List Token) → item_parts.phrase (first, second) at tokens → written.only_item (item_by first second) at tokens
item_made_by first None at tokens says = add_none (name first) at tokens (drop_end (name first) at tokens says)
item_made_by first (Some source) at tokens says = to_left (name first) (mark Arrow) (name source) at tokens says

pub item_made : (both : ℕ × Option ℕ) (at : ℕ) (tokens : List Token) → item_parts.phrase both at tokens → written.only_item (item_of both) at tokens
item_made both at tokens says = item_made_by both.0 both.1 at tokens says

abbrev item_with : Option ℕ → ℕ → OnlyItem
item_with local source = record { local = local; source = source }

item_back_by : (local : Option ℕ) (source at : ℕ) (tokens : List Token) → written.only_item (item_with local source) at tokens
    → (both : ℕ × Option ℕ) × (item_of both ≡ item_with local source) × item_parts.phrase both at tokens
item_back_by None source at tokens says = ((source, None), refl, add_end (name source) at tokens (drop_none (name source) at tokens says))
item_back_by (Some local) source at tokens says = ((local, Some source), refl, to_right (name local) (mark Arrow) (name source) at tokens says)

pub item_back : (item : OnlyItem) (at : ℕ) (tokens : List Token) → written.only_item item at tokens → (both : ℕ × Option ℕ) × (item_of both ≡ item) × item_parts.phrase both at tokens
item_back item at tokens says = item_back_by item.local item.source at tokens says

abbrev pub item_piece : Piece OnlyItem
item_piece = mapped item_parts item_of written.only_item item_made item_back

pub comma_item : Apart (only Comma) item_piece.more
unfolding same_lexeme
comma_item = apart (only Comma) item_piece.more refl

abbrev pub items_piece : Piece (List OnlyItem)
items_piece = list item_piece refl comma_item

abbrev maybe_items : Piece (Option (List OnlyItem))
maybe_items = unless_done items_piece refl

pub items_made : (all : Option (List OnlyItem)) (at : ℕ) (tokens : List Token) → maybe (commas written.only_item) all at tokens → commas_or_none written.only_item (or_none all) at tokens
items_made None at tokens says = says
items_made (Some []) at tokens says = absurd says
items_made (Some (item ∷ all)) at tokens says = says

pub items_back : (all : List OnlyItem) (at : ℕ) (tokens : List Token) → commas_or_none written.only_item all at tokens
    → (found : Option (List OnlyItem)) × (or_none found ≡ all) × maybe (commas written.only_item) found at tokens
items_back [] at tokens says = (None, refl, says)
items_back (item ∷ all) at tokens says = (Some (item ∷ all), refl, says)

abbrev pub items_if_any_piece : Piece (List OnlyItem)
items_if_any_piece = mapped maybe_items or_none (commas_or_none written.only_item) items_made items_back

abbrev pub use_only_parts : Piece (ℕ × List OnlyItem)
use_only_parts = after_word (codes "use") (seq name_piece (after_mark Comma (after_word (codes "only") (after_mark Colon items_if_any_piece))) (apart_none _))
