-- What is gathered of a name, by its number, is what the files define of it.
use Rattle.std.proofs.Common.{◌≡◌, ℕ, zero, suc, ◌-◌, ◌<◌, List, [], ◌∷◌, length, map, Option, Some, None, refl, sym, ap, ap₂, subst, ◌∙◌, arith}
use Rattle.std.specs.Prelude.{slice_get, slice_index_or}
use Rattle.std.specs.List.{filter_map}
use Rattle.std.specs.Option.{option_and_then, option_map, option_map_or, unwrap_or}
use Rattle.std.proofs.lemmas.List.{length-map}
use Rattle.std.proofs.lemmas.Option.{slice_get-map, slice_get_within}
use Rattle.ftn_base.specs.declared.entity.Letter.TheVariants as letter
use Rattle.ftn_base.specs.declared.entity.Letter.{Letter}
use Rattle.ftn_tree.specs.declared.parts.TypeSpec.{TypeSpec}
use Rattle.ftn_tree.specs.declared.table.Bound.{Bound}
use Rattle.ftn_tree.specs.declared.table.Scope.{Scope}
use Rattle.ftn_tree.specs.declared.unit.FileTree.{FileTree}
use Rattle.ftn_tree.specs.Bindings.{bound_of}
use Rattle.ftn_tree.specs.Declarations.{Declared, declarations_of, if_typed, typing_of, written_bounds}
use Rattle.ftn_tree.specs.DeclaredEntities.{scope_entry}
use Rattle.ftn_tree.specs.Extents.{scoping}
use Rattle.ftn_tree.specs.KeyKinds as spec
use Rattle.ftn_tree.specs.KeyKinds.{Datum, letter_sort, written_sort}
use Rattle.ftn_tree.specs.NameFaults as faults
use Rattle.ftn_tree.specs.Projects.{AreTrees}
use Rattle.ftn_tree.specs.ScopeLetters.{letters_of}
use Rattle.ftn_tree.specs.Sorts.{Sort}
use Rattle.decl_table.proofs.OwnStatements.{number_of as number_there}
use Rattle.const_value.specs.declared.project.Project.{Project}
use Rattle.const_value.specs.declared.written.Written.{Written}
use Rattle.const_value.specs.steps.Gathered.{IsGathered, owned_of}
use Rattle.const_value.specs.steps.Names.{all_data}
use Rattle.const_value.specs.steps.Names as names
use Rattle.const_value.specs.steps.Projects as steps
use Rattle.const_value.specs.steps.Projects.{letter_in, written_at}
use Rattle.const_value.specs.steps.Written.{TypedAs, WrittenAs, nothing, pairs, typed_as, typing_in, written_of, written_seen}
use Rattle.const_value.proofs.DataNumbers.{datum_owner}

-- ---- what is written

-- a type as both tell it
abbrev pub as_typed : TypeSpec × Declared → TypedAs
as_typed typing = typed_as typing.1.name typing.1.length typing.0

typings : (all : List Declared) → filter_map typing_in all ≡ map as_typed (filter_map if_typed all)
typings [] = refl
typings (d ∷ all) = by d.ty refl (typings all) where
  by : (ty : Option TypeSpec) → d.ty ≡ ty → filter_map typing_in all ≡ map as_typed (filter_map if_typed all) → filter_map typing_in (d ∷ all) ≡ map as_typed (filter_map if_typed (d ∷ all))
  by None is rest = rw is rest
  by (Some ty) is rest = rw is (ap (λ (xs : List TypedAs). typed_as d.name d.length ty ∷ xs) rest)

pub typing_is : (files : List FileTree) (d : Datum) → (written_of files d).typing ≡ option_map as_typed (typing_of files d.scope d.name)
typing_is files d =
    ap (λ xs. slice_get xs 0) (typings (declarations_of files d.scope d.name)) ∙ slice_get-map as_typed (filter_map if_typed (declarations_of files d.scope d.name)) 0

module _ (files : List FileTree) (p : Project) (g : IsGathered files p) where
  pub names_count : length p.names.items ≡ length (all_data files)
  names_count = ap length g.names ∙ length-map (all_data files) (owned_of files)

  pub written_count : length p.written.items ≡ length (all_data files)
  written_count = sym (length-map p.written.items written_seen) ∙ ap length g.written ∙ length-map (all_data files) (written_of files)

  pub datum_there : (n : ℕ) → n < length p.names.items → (d : Datum) × (slice_get (all_data files) n ≡ Some d)
  datum_there n less = some_there (all_data files) n (subst (λ l. n < l) names_count less) where
    some_there : {X : Type 0} (xs : List X) (n : ℕ) → n < length xs → (x : X) × (slice_get xs n ≡ Some x)
    some_there [] n less = absurd (omega (arith, less))
    some_there (x ∷ xs) zero less = (x, refl)
    some_there (x ∷ xs) (suc n) less = some_there xs n (omega (arith, less))

  module _ (n : ℕ) (d : Datum) (there : slice_get (all_data files) n ≡ Some d) where
    pub name_there : slice_get p.names.items n ≡ Some (owned_of files d)
    name_there = ap (λ xs. slice_get xs n) g.names ∙ slice_get-map (owned_of files) (all_data files) n ∙ ap (option_map (owned_of files)) there

    pub name_within : n < length p.names.items
    name_within = slice_get_within p.names.items n (owned_of files d) name_there

    pub written_within : n < length p.written.items
    written_within = subst (λ l. n < l) (sym written_count) (slice_get_within (all_data files) n d there)

    pub written_there : written_at p.written.items n ≡ written_of files d
    written_there = by (slice_get p.written.items n) (sym (slice_get-map written_seen p.written.items n) ∙ ap (λ xs. slice_get xs n) g.written ∙ slice_get-map (written_of files) (all_data files) n ∙ ap (option_map (written_of files)) there) where
      by : (o : Option Written) → option_map written_seen o ≡ Some (written_of files d) → option_map_or written_seen o nothing ≡ written_of files d
      by None is = absurd (cc is)
      by (Some w) is = cc is

    first_letter : (name : List ℕ) → names.letter_of name - 97 ≡ slice_index_or name 0 97 - 97
    first_letter [] = refl
    first_letter (x ∷ name) = refl

    letter_by : AreTrees files → letter_in (bound_of files) (owned_of files d) ≡ faults.letter_of files d.scope d.name
    letter_by are =
        let o = datum_owner files n d there in
        ap (λ s. unwrap_or (option_and_then (λ (s : Scope). slice_get s.letters (names.letter_of d.name - 97)) (slice_get (map (scope_entry files) (scoping files)) (unwrap_or s 0))) letter.Nothing) (number_there files are o.scope d.scope o.there)
        ∙ ap (λ s. unwrap_or (option_and_then (λ (s : Scope). slice_get s.letters (names.letter_of d.name - 97)) s) letter.Nothing) (slice_get-map (scope_entry files) (scoping files) o.scope ∙ ap (option_map (scope_entry files)) o.there)
        ∙ ap (λ k. unwrap_or (slice_get (letters_of files d.scope) k) letter.Nothing) (first_letter d.name)

    pub letter_there : AreTrees files → steps.letter_of p.bound.now p.names.items n ≡ faults.letter_of files d.scope d.name
    letter_there are =
        ap (λ (b : Bound). steps.letter_of b p.names.items n) g.tables ∙ ap (λ o. option_map_or (letter_in (bound_of files)) o letter.Nothing) name_there ∙ letter_by are

    pub typing_there : (written_at p.written.items n).typing ≡ option_map as_typed (typing_of files d.scope d.name)
    typing_there = ap (λ (w : WrittenAs). w.typing) written_there ∙ typing_is files d

    sort_by : (typing : Option (TypeSpec × Declared)) (rest : Option Sort)
        → option_map_or (λ (t : TypedAs). Some (written_sort t.ty)) (option_map as_typed typing) rest ≡ option_map_or (λ typing. Some (written_sort typing.0)) typing rest
    sort_by None rest = refl
    sort_by (Some typing) rest = refl

    pub sort_there : AreTrees files → steps.sort_of p.bound.now p.names.items p.written.items n ≡ spec.sort_of files d
    sort_there are =
        ap₂ (λ typing (l : Letter). option_map_or (λ (t : TypedAs). Some (written_sort t.ty)) typing (letter_sort l)) typing_there (letter_there are)
        ∙ sort_by (typing_of files d.scope d.name) (letter_sort (faults.letter_of files d.scope d.name))

    pub pairs_there : pairs (written_at p.written.items n) ≡ written_bounds files d.scope d.name
    pairs_there = ap pairs written_there

    pub rank_there : steps.rank_of p.written.items n ≡ spec.rank_of files d
    rank_there = ap length pairs_there
