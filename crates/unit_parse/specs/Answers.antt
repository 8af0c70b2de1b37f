-- What is answered of a file's statements, and of one statement after another. Want of memory is free.
use Rattle.std.specs.Prelude.{◌≡◌, ℕ, Bool, List, [], ◌∷◌, ◌++◌, length, Result, Ok, Err}
use Rattle.ftn_tree.specs.declared.mark.Mark.{Mark}
use Rattle.ftn_tree.specs.declared.unit.Unit.{Unit as UnitTree}
use Rattle.ftn_tree.specs.Nesting.{Nested}
use Rattle.ftn_tree.specs.NestFaults.{IsNestFault, IsRefused, IsUnfinished}
use Rattle.unit_parse.specs.declared.fault.NestFault.{NestFault}
use Rattle.unit_parse.specs.declared.fault.NestFault.TheVariants as fault
use Rattle.unit_parse.specs.Taking.{State, start, take_all}

-- the state after these statements
abbrev pub HasTaken : (ℕ → ℕ → Bool) → List Mark → State → Type 0
HasTaken same marks s = take_all same start 0 marks ≡ Ok s

-- the units that they nest as, of which there are no others, or their first fault
abbrev pub Gives : (ℕ → ℕ → Bool) → List Mark → Result (List UnitTree) NestFault → Type 0
Gives same marks (Ok units) = Nested same marks units × ((others : List UnitTree) → Nested same marks others → others ≡ units)
Gives same marks (Err (fault.At kind statement)) = IsNestFault same marks kind statement
Gives same marks (Err fault.NoMemory) = Unit {0}

-- after the statements that were taken so far, of which there are `number`, one more is taken or is the first that can't stand
abbrev pub TakesNext : (ℕ → ℕ → Bool) → State → ℕ → Mark → Result (Unit {0}) NestFault → State → Type 0
TakesNext same old number m (Ok done) new = (front : List Mark) → HasTaken same front old → length front ≡ number → HasTaken same (front ++ m ∷ []) new
TakesNext same old number m (Err (fault.At kind statement)) new =
    (statement ≡ number) × ((front rest : List Mark) → HasTaken same front old → length front ≡ number → IsRefused same (front ++ m ∷ rest) kind number)
TakesNext same old number m (Err fault.NoMemory) new = Unit {0}

-- the statements that were taken nest, or an opening among them has no ending
abbrev pub EndsWith : State → Result (List UnitTree) NestFault → Type 0
EndsWith s (Ok units) = (same : ℕ → ℕ → Bool) (marks : List Mark) → HasTaken same marks s → Nested same marks units
EndsWith s (Err (fault.At kind statement)) = (same : ℕ → ℕ → Bool) (marks : List Mark) → HasTaken same marks s → IsUnfinished same marks kind statement
EndsWith s (Err fault.NoMemory) = Unit {0}
