-- The names of all scoping units, with what is said of each.
use Rattle.std.proofs.Common.{◌≡◌, ℕ, suc, ◌+◌, List, [], ◌∷◌, ◌++◌, map, Some, refl, sym, ap, ap₂, ◌∙◌, arith}
use Rattle.std.specs.Prelude.{slice_get}
use Rattle.std.specs.List.{filter, flat_map}
use Rattle.std.specs.Option.{unwrap_or}
use Rattle.std.proofs.lemmas.List.{map-append}
use Rattle.ftn_tree.specs.declared.table.Extent.{Extent}
use Rattle.ftn_tree.specs.declared.unit.FileTree.{FileTree}
use Rattle.ftn_tree.specs.DeclarationFaults.{is_block_data}
use Rattle.ftn_tree.specs.DeclaredEntities.{names_after, scope_entry}
use Rattle.ftn_tree.specs.Extents.{scoping}
use Rattle.ftn_tree.specs.KeyKinds.{datum}
use Rattle.ftn_tree.specs.Projects.{AreTrees}
use Rattle.ftn_tree.specs.Sayings.{sayings, same_name}
use Rattle.ftn_tree.specs.Scopes.{scope_kind, scope_number}
use Rattle.decl_table.proofs.OwnStatements.{number_of as number_there}
use Rattle.const_value.specs.declared.name_numbers.Owned.{Owned}
use Rattle.const_value.specs.steps.Gathered.{owned_of}
use Rattle.const_value.specs.steps.Names.{all_data, all_said, data_in, letter_of, owned, owned_from, owned_in}
use Rattle.const_value.specs.steps.Said.{said_in}
use Rattle.const_value.proofs.UnitWriting.{map-map}

map_alike : {X Y : Type 0} (f g : X → Y) → ((x : X) → f x ≡ g x) → (xs : List X) → map f xs ≡ map g xs
map_alike f g same [] = refl
map_alike f g same (x ∷ xs) = ap₂ (λ y ys. y ∷ ys) (same x) (map_alike f g same xs)

module _ (files : List FileTree) where
  abbrev made : Extent → ℕ → List ℕ → Owned
  made e scope name = record {
    scope = scope;
    file = e.file;
    letter = letter_of name;
    said = said_in (is_block_data (scope_kind files e)) (filter (same_name name) (sayings files e));
  }

  one : (i : ℕ) (e : Extent) → scope_number files e ≡ Some i → owned_in i e.file (is_block_data (scope_kind files e)) (sayings files e) ≡ map (owned_of files) (data_in files e)
  one i e number =
      map_alike (owned i e.file (is_block_data (scope_kind files e)) (sayings files e)) (λ name. owned_of files (datum e name))
      (λ name. ap (λ o. made e (unwrap_or o 0) name) (sym number)) (names_after [] (sayings files e))
      ∙ sym (map-map (datum e) (owned_of files) (names_after [] (sayings files e)))

  each : (i : ℕ) (es : List Extent) → ((j : ℕ) (e : Extent) → slice_get es j ≡ Some e → scope_number files e ≡ Some (i + j))
      → owned_from i (map (scope_entry files) es) (map (sayings files) es) ≡ map (owned_of files) (flat_map (data_in files) es)
  each i [] numbered = refl
  each i (e ∷ es) numbered =
      ap₂ (λ (xs ys : List Owned). xs ++ ys) (one i e (numbered 0 e refl ∙ ap Some (none i)))
      (each (i + 1) es (λ j x there. numbered (suc j) x there ∙ ap Some (next i j)))
      ∙ sym (map-append (owned_of files) (data_in files e) (flat_map (data_in files) es))
    where
      none : (i : ℕ) → i + 0 ≡ i
      none i = omega arith

      next : (i j : ℕ) → i + suc j ≡ i + 1 + j
      next i j = omega arith

  pub owned_all : AreTrees files → owned_from 0 (map (scope_entry files) (scoping files)) (all_said files) ≡ map (owned_of files) (all_data files)
  owned_all are = each 0 (scoping files) (λ j e there. number_there files are j e there ∙ ap Some (zero_plus j)) where
    zero_plus : (j : ℕ) → j ≡ 0 + j
    zero_plus j = omega arith
