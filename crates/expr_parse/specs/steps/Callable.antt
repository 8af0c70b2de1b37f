-- A function value that reads.
use Rattle.std.specs.Prelude.{Result}
use Rattle.std.specs.declared.alloc.Global.{Global}
use denote.Ref.{MutBor}
use Rattle.expr_parse.specs.declared.fault.Misfit.{Misfit}
use Rattle.expr_parse.specs.steps.Input.{Input, Reader, Gives}

-- each call gives what the reader gives
abbrev pub Reads : {T : Type 0} → Reader T → (Global → MutBor Input → Result T Misfit → MutBor Input → Type 0) → Type 0
Reads {T} reader post = (alloc : Global) (old new : MutBor Input) (result : Result T Misfit) → post alloc old result new → Gives (reader old.now) result new.now
