use Rattle.std.proofs.Common.{◌≡◌, drop, fold}
use Rattle.decl_table.specs.steps.Following.{letters_after}
use Rattle.decl_table.proofs.letters.after_own.Given as goal

abbrev pub invariant-loop-statement : goal.invariant-loop-statement
invariant-loop-statement l =
    fold (letters_after l.files l.unit.file) l.initial.map l.own ≡ fold (letters_after l.files l.unit.file) l.map (drop l.statement-index l.own)
