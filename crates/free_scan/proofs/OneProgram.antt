-- A text spells at most one program, and reading finds it.
use Rattle.std.proofs.Common.{◌≡◌, ℕ, Bool, true, false, cond, List, map, Option, Some, None, refl, sym, ap, ◌∙◌}
use Rattle.std.specs.Option.{option_map}
use Rattle.std.proofs.lemmas.Option.{same_Some}
use Rattle.std.proofs.lemmas.Simd.{map-map}
use Rattle.free_scan.specs.Clean.{is_clean}
use Rattle.free_scan.specs.FirstForm.{IsProgramText, Lacks}
use Rattle.free_scan.specs.Lines.{is_plain}
use Rattle.free_scan.specs.steps.Reading.{◌>>=◌, read_clean, read_program}
use Rattle.free_scan.specs.Spelling.{lexeme_of, lexeme_rows, rows_of, spell_program}
use Rattle.free_scan.specs.Tokens.{placed_pieces_of}
use Rattle.free_scan.specs.declared.first_form.program.Program.{Program}
use Rattle.free_scan.specs.declared.first_form.token.PlacedPiece.{PlacedPiece}
use Rattle.free_scan.proofs.CleanRows.{is_filled, rows_good}
use Rattle.free_scan.proofs.LowerRows.{text_is_lower}
use Rattle.free_scan.proofs.ReadBack.{program_back}
use Rattle.free_scan.proofs.ReadTrue.{program_true}

-- the program of a text is read from its spelling
pub text_back : (text : List ℕ) (program : Program) → IsProgramText text program → read_program (spell_program program) ≡ Some program
text_back text program h =
    program_back program (is_filled program h.clean) (rows_good program h.clean (text_is_lower text (spell_program program) h.spelled))

pub one_program : (text : List ℕ) (first second : Program) → IsProgramText text first → IsProgramText text second → first ≡ second
one_program text first second p q =
    let rows : spell_program first ≡ spell_program second = same_Some _ _ (sym p.spelled ∙ q.spelled) in
    same_Some _ _ (sym (text_back text first p) ∙ ap read_program rows ∙ text_back text second q)

pub lacks_not_plain : (text : List ℕ) → is_plain text ≡ false → Lacks text
lacks_not_plain text h program p = let g : is_plain text ≡ true = p.plain in absurd cc

pub lacks_tokens : (text : List ℕ) → placed_pieces_of text ≡ None → Lacks text
lacks_tokens text h program p =
    let g : option_map lexeme_rows (placed_pieces_of text) ≡ Some (spell_program program) = p.spelled in
    let n : option_map lexeme_rows (placed_pieces_of text) ≡ None = ap (option_map lexeme_rows) h in
    absurd cc

-- the rows of a text that spells the program
rows_spelled : (text : List ℕ) (tokens : List PlacedPiece) (program : Program) → placed_pieces_of text ≡ Some tokens → IsProgramText text program → lexeme_rows tokens ≡ spell_program program
rows_spelled text tokens program e p = same_Some _ _ (sym (ap (option_map lexeme_rows) e) ∙ p.spelled)

clean_back : (text : List ℕ) (program : Program) → IsProgramText text program → read_clean (spell_program program) ≡ Some program
unfolding read_clean
clean_back text program p =
    ap (λ o. o >>= λ q. cond (is_clean q) (Some q) None) (text_back text program p)
    ∙ ap (λ b. cond b (Some program) None) p.clean

pub lacks_program : (text : List ℕ) (tokens : List PlacedPiece) → placed_pieces_of text ≡ Some tokens → read_clean (lexeme_rows tokens) ≡ None → Lacks text
lacks_program text tokens e h program p =
    let g : read_clean (lexeme_rows tokens) ≡ Some program = ap read_clean (rows_spelled text tokens program e p) ∙ clean_back text program p in
    absurd cc

picked : (b : Bool) (q program : Program) → is_clean q ≡ b → cond b (Some q) None ≡ Some program → (Some q ≡ Some program) × (is_clean program ≡ true)
picked true q program h e = (e, sym (ap is_clean (same_Some q program e)) ∙ h)
picked false q program h e = absurd cc

clean_true : (read : Option Program) (program : Program) → (read >>= λ q. cond (is_clean q) (Some q) None) ≡ Some program → (read ≡ Some program) × (is_clean program ≡ true)
clean_true None program e = absurd cc
clean_true (Some q) program e = picked (is_clean q) q program refl e

pub spells : (text : List ℕ) (tokens : List PlacedPiece) (program : Program) → is_plain text ≡ true → placed_pieces_of text ≡ Some tokens → read_clean (lexeme_rows tokens) ≡ Some program
    → IsProgramText text program
unfolding read_clean
spells text tokens program plain e h =
    let c = clean_true (read_program (lexeme_rows tokens)) program h in
    record {
      plain = plain;
      spelled = ap (option_map lexeme_rows) e ∙ ap (λ rows. Some rows) (program_true (lexeme_rows tokens) program c.0);
      clean = c.1;
    }

-- what the rows give, clean or not
pub clean_given : {A : Type 0} (view : A → List PlacedPiece) (rows : List A) (tokens : List PlacedPiece) (read : Option Program) → map view rows ≡ rows_of tokens
    → read_program (map (λ row. map lexeme_of (view row)) rows) ≡ read → read_clean (lexeme_rows tokens) ≡ (read >>= λ q. cond (is_clean q) (Some q) None)
unfolding read_clean
clean_given view rows tokens read e h =
    let is : map (λ row. map lexeme_of (view row)) rows ≡ lexeme_rows tokens = sym (map-map (map lexeme_of) view rows) ∙ ap (map (map lexeme_of)) e in
    ap (λ o. o >>= λ q. cond (is_clean q) (Some q) None) (ap read_program (sym is) ∙ h)
