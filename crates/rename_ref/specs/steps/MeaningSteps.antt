-- What the functions that run a program answer, for their proofs.
use Rattle.std.specs.Prelude.{◌≡◌, ℕ, ℤ, List, ◌++◌, Result, Ok, Err}
use Rattle.rename_ref.specs.declared.first_meaning.Outcome.{Outcome}
use Rattle.rename_ref.specs.declared.first_meaning.halt.Halt.{Halt}
use Rattle.rename_ref.specs.declared.first_meaning.halt.Halt.TheVariants.{Ended, NoMemory}

-- The answer is what the definition gives, where memory was not wanting.
abbrev pub Halts : {A B : Type 0} → (A → B) → Result A Halt → Result B Outcome → Type 0
Halts view (Ok x) meant = meant ≡ Ok (view x)
Halts view (Err (Ended outcome)) meant = meant ≡ Err outcome
Halts view (Err NoMemory) meant = Unit {0}

-- these values in front of what comes
abbrev pub in_front : List ℤ → Result (List ℤ × ℕ) Outcome → Result (List ℤ × ℕ) Outcome
in_front found (Ok rest) = Ok (found ++ rest.0, rest.1)
in_front found (Err end) = Err end
