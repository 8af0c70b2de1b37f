use Rattle.std.proofs.Common.{◌≡◌, ◌++◌, drop}
use Rattle.const_value.specs.steps.Giving.{files_fit, files_given}
use Rattle.const_value.proofs.given_files.push_files.Given as goal

abbrev pub invariant-loop-tree : goal.invariant-loop-tree
invariant-loop-tree l = record {
  given : l.initial.found.items ++ files_given l.project l.all.known.items l.all.namings.items l.rows l.bodies 0 l.project.files.now
      ≡ l.found.items ++ files_given l.project l.all.known.items l.all.namings.items l.rows l.bodies l.file (drop l.tree-index l.project.files.now);
  fits : files_fit l.project l.all.known.items l.all.namings.items l.rows l.bodies 0 l.project.files.now
      ≡ files_fit l.project l.all.known.items l.all.namings.items l.rows l.bodies l.file (drop l.tree-index l.project.files.now);
}
