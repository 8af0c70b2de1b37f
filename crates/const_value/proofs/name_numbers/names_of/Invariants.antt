use Rattle.std.proofs.Common.{◌≡◌, ◌<◌, List, ℕ, length, map, drop, ◌++◌}
use Rattle.const_value.specs.steps.Names.{number_at, number_of, first_of, owned_from}
use Rattle.const_value.proofs.name_numbers.names_of.Given as goal

abbrev pub invariant-loop-entry : goal.invariant-loop-entry
invariant-loop-entry l = record {
  at : l.scope ≡ l.entry-index;
  units : length l.numbers.items ≡ l.entry-index;
  numbers : (scope : ℕ) (name : List ℕ) → scope < l.entry-index → number_at l.numbers.items scope name ≡ number_of (map (λ one. one.items) l.said) scope name;
  size : length l.all.items ≡ first_of (map (λ one. one.items) l.said) l.entry-index;
  all : owned_from 0 l.scopes (map (λ one. one.items) l.said) ≡ l.all.items ++ owned_from l.entry-index (drop l.entry-index l.scopes) (drop l.entry-index (map (λ one. one.items) l.said));
}
