-- Pairings of two resolved programs (this project's own): which variables and procedures of the old program have a partner in the new one,
-- and where that stands now which stood at a token.
use Rattle.std.specs.Prelude.{◌≡◌, ℕ, unwrap_or, Option, Some}
use Rattle.core_prog.specs.declared.site.Site.{Site}

-- a variable of the old program, and two procedures of the new one: the function that gives what the variable holds, and the subroutine that
-- gives it a value
pub record Swap : Type 0 where
  pub variable : ℕ
  pub getter : ℕ
  pub setter : ℕ

-- `swap` says for each procedure, and for the main program, whether the new one calls such procedures in place of a variable
pub record Pairing : Type 0 where
  pub variable : ℕ → Option ℕ
  pub procedure : ℕ → Option ℕ
  pub site : Site → Site
  pub swap : Option ℕ → Option Swap

-- the number of the partner
abbrev pub partner : (ℕ → Option ℕ) → ℕ → ℕ
partner pairs number = unwrap_or (pairs number) number

abbrev pub IsPaired : (ℕ → Option ℕ) → ℕ → Type 0
IsPaired pairs number = pairs number ≡ Some (partner pairs number)
