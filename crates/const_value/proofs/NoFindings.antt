-- Where a project has no fault of its constants and shapes, the shapes of its names are told of nowhere.
use Rattle.std.proofs.Common.{◌≡◌, inl, refl, sym, subst, ℕ, List, [], ◌∷◌, ◌++◌, Option, Some, None, option_map}
use Rattle.std.specs.Prelude.{slice_get}
use Rattle.std.specs.List.{enumerate_from, flat_map}
use Rattle.ftn_tree.specs.declared.unit.FileTree.{FileTree}
use Rattle.ftn_tree.specs.Cases.{case_findings}
use Rattle.ftn_tree.specs.ConstantFaults.{circular_findings, constant_fault, constant_findings, constant_rank, name_findings, scope_findings, statement_told, valueless}
use Rattle.ftn_tree.specs.DeclarationFaults.{Finding, fault_of, first_finding}
use Rattle.ftn_tree.specs.DeclaredEntities.{names_after}
use Rattle.ftn_tree.specs.Extents.{scoping}
use Rattle.ftn_tree.specs.KeyKinds.{Datum, datum}
use Rattle.ftn_tree.specs.Sayings.{sayings}
use Rattle.ftn_tree.specs.Scopes.{own_statements}
use Rattle.ftn_tree.specs.Shapes.{shape_findings}
use Rattle.const_value.specs.steps.Names.{all_data, data_in}
use Rattle.const_value.proofs.FindingSets.{In, in_flat, in_left, in_right, out_of_flat}
use Rattle.const_value.proofs.InLists.{in_at, out_of_map}

none_there : (fs : List Finding) → ((f : Finding) → In f fs → ⊥) → fs ≡ []
none_there [] never = refl
none_there (f ∷ fs) never = absurd (never f (inl refl))

none_found : (files : List FileTree) → constant_fault files ≡ None → constant_findings files ≡ []
none_found files fine = none_first (constant_findings files) (of (first_finding constant_rank (constant_findings files)) fine) where
  none_first : (all : List Finding) → first_finding constant_rank all ≡ None → all ≡ []
  none_first [] is = refl
  none_first (f ∷ all) is = absurd (cc is)

  of : (o : Option Finding) → option_map (fault_of files) o ≡ None → o ≡ None
  of None is = refl
  of (Some f) is = absurd (cc is)

pub shaped : (files : List FileTree) → constant_fault files ≡ None → (n : ℕ) (d : Datum) → slice_get (all_data files) n ≡ Some d → shape_findings files d ≡ []
shaped files fine n d there = none_there (shape_findings files d) never where
  never : (f : Finding) → In f (shape_findings files d) → ⊥
  never f h =
      let w = out_of_flat (data_in files) (scoping files) d (in_at (all_data files) n d there) in
      let names = names_after [] (sayings files w.of) in
      let u = out_of_map (datum w.of) names d w.here in
      let own : In f (shape_findings files (datum w.of u.of)) = subst (λ x. In f (shape_findings files x)) (sym u.is) h in
      let named : In f (name_findings files w.of u.of) = in_left f (shape_findings files (datum w.of u.of)) (valueless files (datum w.of u.of)) own in
      let scoped : In f (scope_findings files w.of) =
      in_right f (flat_map (statement_told files w.of.file) (own_statements files w.of)) (flat_map (name_findings files w.of) names) (in_flat (name_findings files w.of) names u.of f u.among named) in
      subst (λ fs. In f fs) (none_found files fine)
      (in_right f (circular_findings files) (flat_map (scope_findings files) (scoping files) ++ flat_map (λ numbered. case_findings files numbered.0 numbered.1) (enumerate_from 0 files))
      (in_left f (flat_map (scope_findings files) (scoping files)) (flat_map (λ numbered. case_findings files numbered.0 numbered.1) (enumerate_from 0 files))
      (in_flat (scope_findings files) (scoping files) w.of f w.among scoped)))
