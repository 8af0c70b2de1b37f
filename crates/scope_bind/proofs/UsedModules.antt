-- The modules that a program unit uses, statement by statement.
use Rattle.std.proofs.Common.{◌≡◌, ℕ, List, [], ◌∷◌, ◌++◌, Option, Some, None, refl, sym, ap, ◌∙◌}
use Rattle.std.specs.List.{filter_map, flat_map, cons_option}
use Rattle.std.specs.Option.{option_map}
use Rattle.ftn_tree.specs.declared.table.Extent.{Extent}
use Rattle.ftn_tree.specs.declared.unit.FileTree.{FileTree}
use Rattle.ftn_tree.specs.NameFaults.{UseStatement, use_statement_at, used_number}
use Rattle.ftn_tree.specs.Scopes.{all_statements}
use Rattle.scope_bind.specs.steps.Uses.{module_token_at, used_by_token, used_at, used_in}

pub used_is : (files : List FileTree) (e : Extent) → flat_map (used_at files e.file) (all_statements e) ≡ used_in files e
used_is files e = each (all_statements e) where
  in_front : (o : Option ℕ) (rest : List ℕ) → cons_option o [] ++ rest ≡ cons_option o rest
  in_front None rest = refl
  in_front (Some n) rest = refl

  statement_of : ℕ → ℕ → UseStatement
  statement_of statement name = record { statement = statement; name = name }

  by : (statement : ℕ) (token : Option ℕ) (rest : List UseStatement)
      → cons_option (used_by_token files e.file token) [] ++ filter_map (used_number files e.file) rest
      ≡ filter_map (used_number files e.file) (cons_option (option_map (statement_of statement) token) rest)
  by statement None rest = refl
  by statement (Some token) rest = in_front (used_by_token files e.file (Some token)) (filter_map (used_number files e.file) rest)

  each : (statements : List ℕ) → flat_map (used_at files e.file) statements ≡ filter_map (used_number files e.file) (filter_map (use_statement_at files e.file) statements)
  each [] = refl
  each (statement ∷ rest) =
      ap (λ more. used_at files e.file statement ++ more) (each rest)
      ∙ by statement (module_token_at files e.file statement) (filter_map (use_statement_at files e.file) rest)
