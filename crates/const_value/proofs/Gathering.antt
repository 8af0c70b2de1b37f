-- What is gathered of a project, from what its parts are.
use Rattle.std.proofs.Common.{◌≡◌, ℕ, List, length, map, replicate, Option, None, sym, ap, ap₂, subst, ◌∙◌}
use Rattle.std.proofs.lemmas.List.{length-map}
use Rattle.ftn_tree.specs.declared.table.Bound.{Bound}
use Rattle.ftn_tree.specs.declared.table.Scope.{Scope}
use Rattle.ftn_tree.specs.declared.unit.FileTree.{FileTree}
use Rattle.ftn_tree.specs.Bindings.{bound_entities, bound_of}
use Rattle.ftn_tree.specs.DeclaredEntities.{scope_entry}
use Rattle.ftn_tree.specs.Extents.{scoping}
use Rattle.ftn_tree.specs.NameFaults.{name_fault}
use Rattle.ftn_tree.specs.Projects.{AreTrees}
use Rattle.ftn_tree.specs.Sayings.{Saying, sayings}
use Rattle.decl_table.specs.steps.Said.{IsWithin}
use Rattle.const_value.specs.declared.name_numbers.Owned.{Owned}
use Rattle.const_value.specs.declared.project.Project.{Project}
use Rattle.const_value.specs.steps.Gathered.{IsGathered, owned_of}
use Rattle.const_value.specs.steps.Links.{name_of, put_all}
use Rattle.const_value.specs.steps.Names.{all_data, all_said, number_of, owned_from}
use Rattle.const_value.specs.steps.Tables.{rows_of}
use Rattle.const_value.specs.steps.Written.{written_of, written_seen}
use Rattle.const_value.proofs.DataNumbers.{number_within}
use Rattle.const_value.proofs.OwnEntities.{names_alike, own_entities}
use Rattle.const_value.proofs.OwnedNames.{owned_all}
use Rattle.const_value.proofs.TokenRows.{token_there}

module _ (files : List FileTree) (are : AreTrees files) (bound : Bound) (bound_is : bound ≡ bound_of files) where
  pub scopes_are : (scopes : List Scope) → scopes ≡ bound.tables.scopes → scopes ≡ map (scope_entry files) (scoping files)
  scopes_are scopes is = is ∙ ap (λ (b : Bound). b.tables.scopes) bound_is

  pub scopes_long : (scopes : List Scope) → scopes ≡ bound.tables.scopes → length scopes ≡ length (scoping files)
  scopes_long scopes is = ap length (scopes_are scopes is) ∙ length-map (scoping files) (scope_entry files)

  pub said_long : (said : List (List Saying)) → said ≡ all_said files → length said ≡ length (scoping files)
  said_long said is = ap length is ∙ length-map (scoping files) (sayings files)

  pub names_are : (scopes : List Scope) (said : List (List Saying)) (names : List Owned) → scopes ≡ bound.tables.scopes → said ≡ all_said files → names ≡ owned_from 0 scopes said → names ≡ map (owned_of files) (all_data files)
  names_are scopes said names is told made = made ∙ ap₂ (owned_from 0) (scopes_are scopes is) told ∙ owned_all files are

  pub names_long : (names : List Owned) → names ≡ map (owned_of files) (all_data files) → length names ≡ length (all_data files)
  names_long names is = ap length is ∙ length-map (all_data files) (owned_of files)

  pub numbers_are : (said : List (List Saying)) (number : ℕ → List ℕ → Option ℕ) → said ≡ all_said files → ((scope : ℕ) (name : List ℕ) → number scope name ≡ number_of said scope name)
      → (scope : ℕ) (name : List ℕ) → number scope name ≡ number_of (all_said files) scope name
  numbers_are said number told made scope name = made scope name ∙ ap (λ s. number_of s scope name) told

  pub numbers_within : (number : ℕ → List ℕ → Option ℕ) (names : List Owned) → ((scope : ℕ) (name : List ℕ) → number scope name ≡ number_of (all_said files) scope name) → names ≡ map (owned_of files) (all_data files)
      → (scope : ℕ) (name : List ℕ) → IsWithin (length names) (number scope name)
  numbers_within number names same is scope name =
      subst (λ n. IsWithin n (number scope name)) (sym (names_long names is)) (subst (IsWithin (length (all_data files))) (sym (same scope name)) (number_within files scope name))

  pub gathered : (no_fault : name_fault files ≡ None) (p : Project) (number : ℕ → List ℕ → Option ℕ) → p.files.now ≡ files → p.bound.now ≡ bound
      → ((scope : ℕ) (name : List ℕ) → number scope name ≡ number_of (all_said files) scope name) → p.names.items ≡ map (owned_of files) (all_data files)
      → map written_seen p.written.items ≡ map (written_of files) (all_data files) → p.links.name_of.items ≡ map (name_of number) bound.tables.entities
      → p.links.entity_of.items ≡ put_all number 0 (replicate (length p.names.items) None) bound.tables.entities → p.rows.items ≡ rows_of files bound.denotes → IsGathered files p
  gathered no_fault p number trees tables same names written name_of_is entity_of_is rows = record {
    trees = trees;
    tables = tables ∙ bound_is;
    names = names;
    written = written;
    name_of = name_of_is ∙ ap (λ (b : Bound). map (name_of number) b.tables.entities) bound_is ∙ names_alike number (number_of (all_said files)) same (bound_entities files);
    entity_of =
        entity_of_is ∙ ap (λ (b : Bound). put_all number 0 (replicate (length p.names.items) None) b.tables.entities) bound_is
        ∙ own_entities files are number (length p.names.items) same (names_long p.names.items names);
    tokens = λ file token. token_there files are no_fault token p.rows.items (rows ∙ ap (λ (b : Bound). rows_of files b.denotes) bound_is) file;
  }
