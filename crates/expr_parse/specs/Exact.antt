-- What a reader of whole statements or expressions answers.
use Rattle.std.specs.Prelude.{◌≡◌, ℕ, true, false, if◌then◌else◌, List, Result, Ok, Err}
use Rattle.ftn_tree.specs.declared.token.Token.{Token}
use Rattle.ftn_tree.specs.Phrases.{Phrase}
use Rattle.ftn_tree.specs.Misfits.{IsDeep, is_outside}
use Rattle.expr_parse.specs.declared.fault.StatementFault.{StatementFault}
use Rattle.expr_parse.specs.declared.fault.StatementFault.TheVariants.{NotAStatement, OutOfProfile, TooDeep, NoMemory}
use Rattle.expr_parse.specs.declared.fault.Misfit.{Misfit}
use Rattle.expr_parse.specs.declared.fault.Misfit.TheVariants as none

-- no form fits the tokens, and parentheses nest no deeper than they may
abbrev pub FitsNone : {A : Type 0} → (A → Phrase) → ℕ → List Token → Type 0
FitsNone {A} fits at tokens = (IsDeep tokens → ⊥) × ((a : A) → fits a at tokens → ⊥)

-- the fault of tokens that nothing fits, and whose parentheses don't nest too deep
abbrev pub misfit : List Token → StatementFault
misfit tokens = if is_outside tokens then OutOfProfile else NotAStatement

-- what is read fits the tokens, the first of which has that number, and nothing else does; the fault is TooDeep where parentheses nest
-- too deep, and else tells of tokens that nothing fits whether they may be Fortran
abbrev pub IsExact : {A : Type 0} → (A → Phrase) → ℕ → List Token → Result A StatementFault → Type 0
IsExact {A} fits at tokens (Ok a) = (IsDeep tokens → ⊥) × fits a at tokens × ((b : A) → fits b at tokens → b ≡ a)
IsExact fits at tokens (Err TooDeep) = IsDeep tokens
IsExact fits at tokens (Err OutOfProfile) = FitsNone fits at tokens × (is_outside tokens ≡ true)
IsExact fits at tokens (Err NotAStatement) = FitsNone fits at tokens × (is_outside tokens ≡ false)
IsExact fits at tokens (Err NoMemory) = Unit {0}

-- what is read fits the tokens, the first of which has that number, and nothing else does; or nothing fits them. How deep parentheses
-- nest is not asked
abbrev pub IsFitting : {A : Type 0} → (A → Phrase) → ℕ → List Token → Result A Misfit → Type 0
IsFitting {A} fits at tokens (Ok a) = fits a at tokens × ((b : A) → fits b at tokens → b ≡ a)
IsFitting {A} fits at tokens (Err none.NoFit) = (a : A) → fits a at tokens → ⊥
IsFitting fits at tokens (Err none.NoMemory) = Unit {0}
