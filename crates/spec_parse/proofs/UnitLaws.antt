-- The statements that begin program units, procedures and interface blocks are read as they are written.
use Rattle.std.proofs.Common.{◌≡◌, refl, sym, ◌∙◌, ap, subst, ℕ, Bool, true, false, List, [], ◌∷◌, ◌++◌, Option, Some, codes}
use Rattle.std.proofs.lemmas.Bool.{and_from}
use denote.Hole.Carrier
use Rattle.ftn_tree.specs.declared.token.Token.{Token}
use Rattle.ftn_tree.specs.declared.form.Form.{Form, out-Form}
use Rattle.ftn_tree.specs.declared.form.Form.TheVariants as form
use Rattle.ftn_tree.specs.declared.lexeme.Lexeme.TheVariants.{Word}
use Rattle.ftn_tree.specs.Lexemes.{lexeme_of, is_word, same_lexeme}
use Rattle.ftn_tree.specs.Phrases.{Phrase, ◌·◌, word, name, commas, maybe, in_parens, commas_or_none}
use Rattle.expr_parse.specs.steps.Input.{Input, input}
use Rattle.expr_parse.proofs.Tokens.{is_same}
use Rattle.ftn_tree.specs.UnitForms as form_of
use Rattle.spec_parse.specs.steps.Names.{dummies}
use Rattle.spec_parse.specs.declared.rows.Row.TheVariants as row
use Rattle.spec_parse.specs.steps.Rows.{find_row, row_at_front}
use Rattle.spec_parse.specs.steps.Units.{block_data, block_data_of, program, module_unit, module_procedure, names_procedures, module_row, subroutine, subroutine_parts, contains, interface}
use Rattle.ftn_tree.proofs.PhraseLaws.{to_right, led_by}
use Rattle.spec_parse.proofs.FirstWords.{phrase_leads}
use Rattle.spec_parse.proofs.UnitPieces as parts
use Rattle.spec_parse.proofs.Wholes.{Sound, GivesForm, row_sound, row_complete, choose_one, choose_other, chosen_sound}

-- ---- BLOCK DATA

pub sound_block_data : Sound block_data
unfolding block_data out-Form denote.Hole.Carrier.out
sound_block_data = row_sound parts.block_data_parts block_data_of (λ both at tokens says. says)

pub complete_block_data : (joined : Bool) (n : Option ℕ) (at : ℕ) (tokens : List Token) → (form_of.block_data joined · maybe name n) at tokens → GivesForm block_data at tokens (form.BlockData joined n)
unfolding block_data
complete_block_data joined n at tokens says = row_complete parts.block_data_parts block_data_of (joined, n) at tokens says

pub block_data_leads : (joined : Bool) (rest : Phrase) (at : ℕ) (tokens : List Token) → (form_of.block_data joined · rest) at tokens → row_at_front tokens ≡ Some row.BlockData
unfolding find_row
block_data_leads true rest at tokens says = phrase_leads (codes "blockdata") rest at tokens says
block_data_leads false rest at tokens says = phrase_leads (codes "block") (word (codes "data") · rest) at tokens (to_right (word (codes "block")) (word (codes "data")) rest at tokens says)

-- ---- PROGRAM

pub sound_program : Sound program
unfolding program out-Form denote.Hole.Carrier.out
sound_program = row_sound parts.program_parts form.Program (λ n at tokens says. says)

pub complete_program : (n at : ℕ) (tokens : List Token) → (word (codes "program") · name n) at tokens → GivesForm program at tokens (form.Program n)
unfolding program
complete_program n at tokens says = row_complete parts.program_parts form.Program n at tokens says

-- ---- MODULE and MODULE PROCEDURE

abbrev by_third : Input → Bool
by_third i = names_procedures i.rest

sound_unit : Sound module_unit
unfolding module_unit out-Form denote.Hole.Carrier.out
sound_unit = row_sound parts.module_parts form.Module (λ n at tokens says. says)

sound_procedure : Sound module_procedure
unfolding module_procedure out-Form denote.Hole.Carrier.out
sound_procedure = row_sound parts.procedure_parts form.ModuleProcedure (λ all at tokens says. says)

pub sound_module : Sound module_row
unfolding module_row
sound_module = chosen_sound by_third module_procedure module_unit sound_procedure sound_unit

third_is_name : (all : List ℕ) (at : ℕ) (tokens : List Token) → (word (codes "module") · word (codes "procedure") · commas name all) at tokens → names_procedures tokens ≡ true
unfolding names_procedures
third_is_name [] at tokens (one, after, split, says, (two, last, split_after, says_two, never)) = absurd never
third_is_name (n ∷ all) at tokens (one, after, split, (first, is_one, is), (two, last, split_after, (second, is_two, is_second), (three, rest, split_last, (third, is_three, (is_at, is_third)), says))) =
    let all_tokens = led_by first one after (second ∷ third ∷ rest) tokens split is_one (led_by second two last (third ∷ rest) after split_after is_two (led_by third three rest rest last split_last is_three refl)) in
    subst (λ tokens. names_procedures tokens ≡ true) (sym all_tokens)
    (and_from (is_word (codes "procedure") second) (same_lexeme (lexeme_of third) Word) is_second (is_same (lexeme_of third) Word is_third))

no_third : (n at : ℕ) (tokens : List Token) → (word (codes "module") · name n) at tokens → names_procedures tokens ≡ false
unfolding names_procedures
no_third n at tokens (before, after, split, (first, one, is), (second, other, is_second)) =
    subst (λ tokens. names_procedures tokens ≡ false) (sym (split ∙ ap (λ before. before ++ after) one ∙ ap (λ after. first ∷ after) other)) refl

pub complete_module : (n at : ℕ) (tokens : List Token) → (word (codes "module") · name n) at tokens → GivesForm module_row at tokens (form.Module n)
unfolding module_row module_unit
complete_module n at tokens says = choose_other by_third module_procedure module_unit (input at tokens) (no_third n at tokens says) ∙ row_complete parts.module_parts form.Module n at tokens says

pub complete_procedure : (all : List ℕ) (at : ℕ) (tokens : List Token) → (word (codes "module") · word (codes "procedure") · commas name all) at tokens → GivesForm module_row at tokens (form.ModuleProcedure all)
unfolding module_row module_procedure
complete_procedure all at tokens says =
    choose_one by_third module_procedure module_unit (input at tokens) (third_is_name all at tokens says) ∙ row_complete parts.procedure_parts form.ModuleProcedure all at tokens says

-- ---- SUBROUTINE

abbrev subroutine_form : ℕ × Option (List ℕ) → Form
subroutine_form both = form.Subroutine both.0 both.1

pub sound_subroutine : Sound subroutine
unfolding subroutine subroutine_parts dummies out-Form denote.Hole.Carrier.out
sound_subroutine = row_sound parts.subroutine_parts subroutine_form (λ both at tokens says. says)

pub complete_subroutine : (n : ℕ) (listed : Option (List ℕ)) (at : ℕ) (tokens : List Token)
    → (word (codes "subroutine") · name n · maybe (λ all. in_parens (commas_or_none name all)) listed) at tokens → GivesForm subroutine at tokens (form.Subroutine n listed)
unfolding subroutine subroutine_parts dummies
complete_subroutine n listed at tokens says = row_complete parts.subroutine_parts subroutine_form (n, listed) at tokens says

-- ---- CONTAINS and INTERFACE

pub sound_contains : Sound contains
unfolding contains out-Form denote.Hole.Carrier.out
sound_contains = row_sound parts.contains_parts (λ n. form.Contains) (λ n at tokens (here, split, (is_at, is)). (here, split, is))

pub complete_contains : (at : ℕ) (tokens : List Token) → word (codes "contains") at tokens → GivesForm contains at tokens form.Contains
unfolding contains
complete_contains at tokens (here, split, is) = row_complete parts.contains_parts (λ n. form.Contains) at at tokens (here, split, (refl, is))

pub sound_interface : Sound interface
unfolding interface out-Form denote.Hole.Carrier.out
sound_interface = row_sound parts.interface_parts form.Interface (λ n at tokens says. says)

pub complete_interface : (n : Option ℕ) (at : ℕ) (tokens : List Token) → (word (codes "interface") · maybe name n) at tokens → GivesForm interface at tokens (form.Interface n)
unfolding interface
complete_interface n at tokens says = row_complete parts.interface_parts form.Interface n at tokens says
