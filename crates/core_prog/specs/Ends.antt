-- How a run ends (this project's own).
use Rattle.std.specs.Prelude.{Option, Some, None, Result, Ok, Err}
use Rattle.core_prog.specs.declared.site.Site.{Site}
use Rattle.core_prog.specs.declared.outcome.FaultCode.{FaultCode}
use Rattle.core_prog.specs.declared.outcome.Outcome.{Outcome}
use Rattle.core_prog.specs.declared.outcome.Outcome.TheVariants as outcome

-- Cut: a step is needed and none is left; and, where a number or a value isn't what a lawful program has there, anything
pub data End : Type 0 where
  Stopped : End
  Faulted : FaultCode → Site → End
  Cut : End

-- what is told of it: a fault without its token
abbrev pub outcome_of : End → Outcome
outcome_of Stopped = outcome.Stop
outcome_of (Faulted code at) = outcome.Fault code
outcome_of Cut = outcome.Spent

infixl 10 ◌>>=◌
abbrev pub ◌>>=◌ : {A B : Type 0} → Result A End → (A → Result B End) → Result B End
Ok a >>= f = f a
Err e >>= f = Err e

abbrev pub or_end : {A : Type 0} → End → Option A → Result A End
or_end e None = Err e
or_end e (Some a) = Ok a

-- what a lawful program has
abbrev pub found : {A : Type 0} → Option A → Result A End
found a = or_end Cut a
