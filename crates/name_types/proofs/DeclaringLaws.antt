-- What is kept of the names of scoping units tells the types, ranks and intents of what is declared under them.
use Rattle.std.proofs.Common.{◌≡◌, ℕ, ◌-◌, ◌<◌, Bool, true, false, cond, List, [], ◌∷◌, length, Option, Some, None, slice_get, option_map, refl, sym, ap, ap₂, ◌∙◌}
use Rattle.std.specs.Prelude.{◌&&◌, nat_lt, slice_index_or}
use Rattle.std.specs.List.{filter_map}
use Rattle.std.specs.Option.{option_map_or, option_and_then, unwrap_or}
use Rattle.std.proofs.lemmas.Bool.Decides.{nat_tests}
use Rattle.std.proofs.Common.{arith}
use Rattle.std.proofs.lemmas.Option.{slice_get-map}
use Rattle.ftn_base.specs.declared.entity.Letter.TheVariants as letter
use Rattle.ftn_tree.specs.declared.parts.TypeSpec.{TypeSpec}
use Rattle.ftn_tree.specs.declared.table.Bound.{Bound}
use Rattle.ftn_tree.specs.declared.table.Extent.{Extent}
use Rattle.ftn_tree.specs.declared.table.Scope.{Scope}
use Rattle.ftn_tree.specs.declared.unit.FileTree.{FileTree}
use Rattle.ftn_tree.specs.Declarations.{Declared as Declaration, declarations_of, if_typed}
use Rattle.ftn_tree.specs.DeclaredEntities.{names_after, scope_entry}
use Rattle.ftn_tree.specs.Extents.{scoping}
use Rattle.ftn_tree.specs.KeyKinds as spec
use Rattle.ftn_tree.specs.KeyKinds.{Datum, Kind, datum, kind, letter_sort}
use Rattle.ftn_tree.specs.NameFaults as faults
use Rattle.ftn_tree.specs.NameFaults.{name_fault, said_of}
use Rattle.ftn_tree.specs.Projects.{AreTrees}
use Rattle.ftn_tree.specs.Sayings.{sayings}
use Rattle.ftn_tree.specs.ScopeLetters.{letters_of}
use Rattle.decl_table.specs.steps.Seen.{is_among}
use Rattle.decl_table.proofs.OwnStatements.{number_of as number_there}
use Rattle.const_value.specs.steps.Gathered.{owned_of}
use Rattle.const_value.specs.steps.Names as names
use Rattle.const_value.specs.steps.Names.{all_data, all_said, number_of}
use Rattle.const_value.specs.steps.Projects as projects
use Rattle.const_value.proofs.DataNumbers.{number_datum}
use Rattle.const_value.proofs.GatheredNames.{name_there, name_within, rank_there, sort_there, written_within}
use Rattle.const_value.proofs.KeysThere.{named_there}
use Rattle.const_value.proofs.NoBodies.{no_bodies}
use Rattle.const_value.proofs.NumberTurns.{none_said}
use Rattle.name_types.specs.declared.declared.Declared.{Declared}
use Rattle.name_types.specs.steps.Declaring as steps
use Rattle.name_types.specs.steps.Declaring.{AreDeclared}
use Rattle.name_types.proofs.Undeclared.{undeclared}

is_less : (a b : ℕ) → a < b → nat_lt a b ≡ true
is_less a b less = grind (arith, nat_tests)

first_letter : (name : List ℕ) → names.letter_of name - 97 ≡ slice_index_or name 0 97 - 97
first_letter [] = refl
first_letter (x ∷ name) = refl

module _ (files : List FileTree) (trees : AreTrees files) (fine : name_fault files ≡ None) (d : Declared) (are : AreDeclared files d) (scope : ℕ) (e : Extent) (there : slice_get (scoping files) scope ≡ Some e) (name : List ℕ) where
  -- a name that has no number isn't said
  apart : number_of (all_said files) scope name ≡ None → is_among name (names_after [] (sayings files e)) ≡ true → ⊥
  apart none among =
      let (n, here, number) = named_there files trees fine (no_bodies files trees) e (scope, there) name among in
      let some : number_of (all_said files) scope name ≡ Some n =
      sym (ap (option_and_then (λ scope. number_of (all_said files) scope name)) (number_there files trees scope e there)) ∙ number in
      cc (some, none)

  unsaid : number_of (all_said files) scope name ≡ None → said_of files e name ≡ []
  unsaid none = by (is_among name (names_after [] (sayings files e))) refl where
    by : (b : Bool) → is_among name (names_after [] (sayings files e)) ≡ b → said_of files e name ≡ []
    by false is = none_said [] (sayings files e) name refl is
    by true is = absurd (apart none is)

  nowhere : number_of (all_said files) scope name ≡ None → declarations_of files e name ≡ []
  nowhere none = undeclared files trees e name (apart none)

  here : (n : ℕ) → number_of (all_said files) scope name ≡ Some n → slice_get (all_data files) n ≡ Some (datum e name)
  here n is =
      let p = number_datum files scope name n is in
      let same : p.unit ≡ e = some_same (sym p.there ∙ there) in
      p.here ∙ ap (λ x. Some (datum x name)) same
    where
      some_same : {x y : Extent} → Some x ≡ Some y → x ≡ y
      some_same is = cc is

  letter_is : steps.letter_by d.project.now.bound.now scope name ≡ faults.letter_of files e name
  letter_is =
      ap (λ (b : Bound). steps.letter_by b scope name) are.gathered.tables
      ∙ ap (λ s. unwrap_or (option_and_then (λ (s : Scope). slice_get s.letters (names.letter_of name - 97)) s) letter.Nothing) (slice_get-map (scope_entry files) (scoping files) scope ∙ ap (option_map (scope_entry files)) there)
      ∙ ap (λ k. unwrap_or (slice_get (letters_of files e) k) letter.Nothing) (first_letter name)

  -- ---- types and ranks

  pub sort_is : steps.sort_by d scope name ≡ spec.sort_of files (datum e name)
  sort_is = by (number_of (all_said files) scope name) (are.numbers scope name) refl where
    by : (o : Option ℕ) → steps.number_by d scope name ≡ number_of (all_said files) scope name → number_of (all_said files) scope name ≡ o → steps.sort_by d scope name ≡ spec.sort_of files (datum e name)
    by None kept is =
        ap (λ o. option_map_or (steps.sort_numbered d.project.now) o (letter_sort (steps.letter_by d.project.now.bound.now scope name))) (kept ∙ is)
        ∙ ap letter_sort letter_is
        ∙ sym (ap (λ (typing : Option (TypeSpec × Declaration)). option_map_or (λ typing. Some (spec.written_sort typing.0)) typing (letter_sort (faults.letter_of files e name)))
        (ap (λ (all : List Declaration). slice_get (filter_map if_typed all) 0) (nowhere is)))
    by (Some n) kept is =
        ap (λ o. option_map_or (steps.sort_numbered d.project.now) o (letter_sort (steps.letter_by d.project.now.bound.now scope name))) (kept ∙ is)
        ∙ ap₂ (λ a b. cond (a && b) (projects.sort_of d.project.now.bound.now d.project.now.names.items d.project.now.written.items n) None)
        (is_less n (length d.project.now.names.items) (name_within files d.project.now are.gathered n (datum e name) (here n is)))
        (is_less n (length d.project.now.written.items) (written_within files d.project.now are.gathered n (datum e name) (here n is)))
        ∙ sort_there files d.project.now are.gathered n (datum e name) (here n is) trees

  pub rank_is : steps.rank_by d scope name ≡ spec.rank_of files (datum e name)
  rank_is = by (number_of (all_said files) scope name) (are.numbers scope name) refl where
    by : (o : Option ℕ) → steps.number_by d scope name ≡ number_of (all_said files) scope name → number_of (all_said files) scope name ≡ o → steps.rank_by d scope name ≡ spec.rank_of files (datum e name)
    by None kept is =
        ap (λ o. option_map_or (steps.rank_numbered d.project.now) o 0) (kept ∙ is)
        ∙ sym (ap (λ (all : List Declaration). length (unwrap_or (slice_get (filter_map (λ (d : Declaration). d.bounds) all) 0) [])) (nowhere is))
    by (Some n) kept is =
        ap (λ o. option_map_or (steps.rank_numbered d.project.now) o 0) (kept ∙ is)
        ∙ ap (λ a. cond a (projects.rank_of d.project.now.written.items n) 0) (is_less n (length d.project.now.written.items) (written_within files d.project.now are.gathered n (datum e name) (here n is)))
        ∙ rank_there files d.project.now are.gathered n (datum e name) (here n is)

  pub kind_is : steps.kind_by d scope name ≡ spec.kind_of_datum files (datum e name)
  kind_is = ap₂ (λ rank sort. option_map (λ sort. kind sort rank) sort) rank_is sort_is

  -- ---- intents

  owned : (n : ℕ) → steps.number_by d scope name ≡ number_of (all_said files) scope name → number_of (all_said files) scope name ≡ Some n → steps.owned_by d scope name ≡ Some (owned_of files (datum e name))
  owned n kept is = ap (option_and_then (slice_get d.project.now.names.items)) (kept ∙ is) ∙ name_there files d.project.now are.gathered n (datum e name) (here n is)

  pub given_is : steps.is_given_by d scope name ≡ spec.is_in (said_of files e name)
  given_is = by (number_of (all_said files) scope name) (are.numbers scope name) refl where
    by : (o : Option ℕ) → steps.number_by d scope name ≡ number_of (all_said files) scope name → number_of (all_said files) scope name ≡ o → steps.is_given_by d scope name ≡ spec.is_in (said_of files e name)
    by None kept is =
        ap (λ o. option_map_or steps.is_given (option_and_then (slice_get d.project.now.names.items) o) false) (kept ∙ is) ∙ sym (ap spec.is_in (unsaid is))
    by (Some n) kept is = ap (λ o. option_map_or steps.is_given o false) (owned n kept is)

  pub out_is : steps.is_out_by d scope name ≡ spec.is_out (said_of files e name)
  out_is = by (number_of (all_said files) scope name) (are.numbers scope name) refl where
    by : (o : Option ℕ) → steps.number_by d scope name ≡ number_of (all_said files) scope name → number_of (all_said files) scope name ≡ o → steps.is_out_by d scope name ≡ spec.is_out (said_of files e name)
    by None kept is =
        ap (λ o. option_map_or steps.is_out (option_and_then (slice_get d.project.now.names.items) o) false) (kept ∙ is) ∙ sym (ap spec.is_out (unsaid is))
    by (Some n) kept is = ap (λ o. option_map_or steps.is_out o false) (owned n kept is)
