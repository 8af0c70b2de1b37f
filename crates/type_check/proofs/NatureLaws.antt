-- The types, lengths and ranks of names by their numbers are those that are defined.
use Rattle.std.proofs.Common.{◌≡◌, ℕ, List, Option, ap, ◌∙◌}
use Rattle.std.specs.Option.{option_map_or}
use Rattle.ftn_tree.specs.declared.expr.Expr.{Expr}
use Rattle.ftn_tree.specs.declared.unit.FileTree.{FileTree}
use Rattle.ftn_tree.specs.Constants.{evaluated_in, known_of, naming_at}
use Rattle.ftn_tree.specs.KeyKinds as kinds
use Rattle.ftn_tree.specs.KeyKinds.{Datum}
use Rattle.ftn_tree.specs.Projects.{AreTrees}
use Rattle.ftn_tree.specs.Sorts.{Sort}
use Rattle.ftn_tree.specs.Trees.{tree_of}
use Rattle.ftn_tree.specs.TypeFaults as spec
use Rattle.const_expr.specs.declared.naming.Naming.{Naming}
use Rattle.const_expr.specs.Namings.{evaluated_by, naming_by}
use Rattle.const_value.specs.declared.name_numbers.Owned.{Owned}
use Rattle.const_value.specs.declared.project.Project.{Project}
use Rattle.const_value.specs.steps.Gathered.{IsGathered}
use Rattle.const_value.specs.steps.Projects.{row_in}
use Rattle.const_value.proofs.GatheredNames.{name_there, rank_there, sort_there}
use Rattle.const_value.proofs.GivenValues.{alike, type_there}
use Rattle.type_check.specs.steps.Natures.{IsDatum, given_for, nature_by}

abbrev nature : Option Sort → Option ℕ → ℕ → spec.Nature
nature sort length rank = record { sort = sort; length = length; rank = rank }

same : (a b : Option Sort) (m n : Option ℕ) (r s : ℕ) → a ≡ b → m ≡ n → r ≡ s → nature a m r ≡ nature b n s
same a b m n r s sorts lengths ranks = ap (λ x. nature x m r) sorts ∙ ap (λ x. nature b x r) lengths ∙ ap (λ x. nature b n x) ranks

module _ (files : List FileTree) (p : Project) (g : IsGathered files p) (trees : AreTrees files) (namings : List Naming)
    (tokens : (file token : ℕ) → naming_by (row_in p.rows.items file) namings token ≡ naming_at files (known_of files) file token) where
  given_same : (n : ℕ) (d : Datum) → IsDatum files n d → (e : Expr) → given_for p namings n e ≡ evaluated_in files (known_of files) d.scope.file e
  given_same n d there e =
      ap (λ file. evaluated_by (row_in p.rows.items file) namings e) (ap (λ o. option_map_or (λ (o : Owned). o.file) o 0) (name_there files p g n d there))
      ∙ alike (naming_by (row_in p.rows.items d.scope.file) namings) (naming_at files (known_of files) d.scope.file) (tokens d.scope.file) (tree_of e)

  pub nature_is : (n : ℕ) (d : Datum) → IsDatum files n d → nature_by p namings n ≡ spec.nature_of files d
  nature_is n d there =
      same _ (kinds.sort_of files d) _ (spec.nature_of files d).length _ (kinds.rank_of files d)
      (sort_there files p g n d there trees)
      (ap spec.fixed_length (type_there files p g trees (known_of files) n d there (given_for p namings n) (given_same n d there)))
      (rank_there files p g n d there)
