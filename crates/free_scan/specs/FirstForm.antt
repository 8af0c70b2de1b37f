-- Texts that spell a program in first form.
use Rattle.std.specs.Prelude.{◌≡◌, ℕ, List, Some, IsTrue}
use Rattle.std.specs.Option.{option_map}
use Rattle.free_scan.specs.declared.first_form.program.Program.{Program}
use Rattle.free_scan.specs.Lines.{is_plain}
use Rattle.free_scan.specs.Tokens.{placed_pieces_of}
use Rattle.free_scan.specs.Spelling.{lexeme_rows, spell_program}
use Rattle.free_scan.specs.Clean.{is_clean}

-- The text is plain, its lines with tokens are the program's statements in order, and the program is clean.
pub record IsProgramText (text : List ℕ) (program : Program) : Type 0 where
  pub plain : IsTrue (is_plain text)
  pub spelled : option_map lexeme_rows (placed_pieces_of text) ≡ Some (spell_program program)
  pub clean : IsTrue (is_clean program)

-- the text spells no program in first form
abbrev pub Lacks : List ℕ → Type 0
Lacks text = (program : Program) → IsProgramText text program → ⊥
