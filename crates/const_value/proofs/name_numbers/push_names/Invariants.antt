use Rattle.std.proofs.Common.{◌≡◌, ◌++◌, List, [], ℕ, length, take}
use Rattle.ftn_tree.specs.DeclaredEntities.{names_after}
use Rattle.ftn_tree.specs.DeclarationFaults.{is_block_data}
use Rattle.const_value.specs.steps.Names.{number_in, number_from, owned_in}
use Rattle.const_value.proofs.name_numbers.push_names.Given as goal

abbrev pub invariant-loop-s : goal.invariant-loop-s
invariant-loop-s l = record {
  numbers : (name : List ℕ) → number_in l.numbers name ≡ number_from (length l.initial.all.items) name (names_after [] (take l.s-index l.said));
  all : l.all.items ≡ l.initial.all.items ++ owned_in l.scope l.entry.unit.file (is_block_data l.entry.kind) (take l.s-index l.said);
}
