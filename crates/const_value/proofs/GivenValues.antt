-- What expressions give by what is gathered and known is what they give by the files; so are types, bounds and values.
use Rattle.std.proofs.Common.{◌≡◌, ℕ, ℤ, List, [], ◌∷◌, map, Option, Some, None, refl, sym, ap, ap₂, ◌∙◌}
use Rattle.std.specs.Prelude.{slice_get}
use Rattle.std.specs.Option.{option_and_then, option_map, option_map_or, unwrap_or}
use Rattle.std.proofs.lemmas.Option.{slice_get-map}
use Rattle.ftn_base.specs.declared.entity.Letter.{Letter}
use Rattle.ftn_base.specs.declared.entity.Ty.{Ty}
use Rattle.ftn_base.specs.declared.entity.Ty.TheVariants as ty
use Rattle.ftn_tree.specs.declared.expr.Expr.{Expr}
use Rattle.ftn_tree.specs.declared.parts.BoundPair.{BoundPair}
use Rattle.ftn_tree.specs.declared.parts.CharLength.{CharLength}
use Rattle.ftn_tree.specs.declared.parts.CharLength.TheVariants as star
use Rattle.ftn_tree.specs.declared.parts.LengthValue.TheVariants as lengths
use Rattle.ftn_tree.specs.declared.parts.TypeSpec.{TypeSpec}
use Rattle.ftn_tree.specs.declared.parts.TypeSpec.TheVariants as type
use Rattle.ftn_tree.specs.declared.unit.FileTree.{FileTree}
use Rattle.ftn_tree.specs.Bindings.{bound_entities}
use Rattle.ftn_tree.specs.Constants as spec
use Rattle.ftn_tree.specs.Constants.{Known, bound_pair, bound_value, evaluated_in, letter_type, low_value, naming_at, pair_of}
use Rattle.ftn_tree.specs.Declarations.{Declared, length_of, typing_of, written_bounds, written_value}
use Rattle.ftn_tree.specs.Evaluations.{Evaluated, Naming, evaluated, evaluated_all, evaluated_args, evaluated_end, evaluated_section, binary_operation, in_parens, reference, unary_operation}
use Rattle.ftn_tree.specs.KeyKinds as kinds
use Rattle.ftn_tree.specs.KeyKinds.{Datum, key_at}
use Rattle.ftn_tree.specs.Meanings.{Key}
use Rattle.ftn_tree.specs.NameFaults as faults
use Rattle.ftn_tree.specs.Projects.{AreTrees}
use Rattle.ftn_tree.specs.Sorts.{Sort}
use Rattle.ftn_tree.specs.Trees.{Tree, Trees, Args, Section, End, whole, truth, quoted, paren, unary, binary, refer, no_args, args, none, more, no_section, section, no_end, end, tree_of}
use Rattle.const_expr.specs.Namings.{entity_in, evaluated_by, naming_by}
use Rattle.const_expr.specs.Namings as kept
use Rattle.const_expr.specs.declared.naming.Naming.{Naming as Kept}
use Rattle.const_value.specs.declared.project.Project.{Project}
use Rattle.const_value.specs.steps.Gathered.{IsGathered, entity_index}
use Rattle.const_value.specs.steps.Known.{AreNamings, naming_due, naming_seen}
use Rattle.const_value.specs.steps.Lengths as written
use Rattle.const_value.specs.steps.Measuring as steps
use Rattle.const_value.specs.steps.Names.{all_data}
use Rattle.const_value.specs.steps.Numbered.{AreEntities, IsEntity}
use Rattle.const_value.specs.steps.Projects as projects
use Rattle.const_value.specs.steps.Projects.{row_in, written_at}
use Rattle.const_value.specs.steps.Written.{TypedAs, WrittenAs, pairs}
use Rattle.const_value.proofs.GatheredNames.{as_typed, letter_there, pairs_there, sort_there, typing_there, written_there}

-- ---- expressions, where two tell the same of names

module _ (one other : ℕ → Naming) (same : (token : ℕ) → one token ≡ other token) where
  mutual
    pub alike : (t : Tree) → evaluated one t ≡ evaluated other t
    alike (whole token z) = refl
    alike (truth token t) = refl
    alike (quoted token text) = refl
    alike (paren token inner) = ap (in_parens token) (alike inner)
    alike (unary op operator arg) = ap (unary_operation op operator) (alike arg)
    alike (binary op operator left right) = ap₂ (binary_operation operator) (alike left) (alike right)
    alike (refer name given part) =
        ap (λ (naming : Naming). reference name naming (evaluated_args one given) (evaluated_section one part)) (same name)
        ∙ ap₂ (reference name (other name)) (args_alike given) (section_alike part)

    args_alike : (a : Args) → evaluated_args one a ≡ evaluated_args other a
    args_alike no_args = refl
    args_alike (args given) = ap Some (all_alike given)

    all_alike : (ts : Trees) → evaluated_all one ts ≡ evaluated_all other ts
    all_alike none = refl
    all_alike (more tree rest) = ap₂ (λ (x : Evaluated) xs. x ∷ xs) (alike tree) (all_alike rest)

    section_alike : (s : Section) → evaluated_section one s ≡ evaluated_section other s
    section_alike no_section = refl
    section_alike (section low high) = ap₂ (λ (x y : Option Evaluated). Some (x, y)) (end_alike low) (end_alike high)

    end_alike : (e : End) → evaluated_end one e ≡ evaluated_end other e
    end_alike no_end = refl
    end_alike (end tree) = ap Some (alike tree)

-- ---- expressions of a file

module _ (files : List FileTree) (p : Project) (g : IsGathered files p) (entities : AreEntities files) (known : Key → Known) (namings : List Kept) (are : AreNamings files known namings) where
  kept_there : (number : ℕ) (key : Key) → IsEntity files number key → kept.naming_of (slice_get namings number) ≡ spec.naming_of files known (Some key)
  kept_there number key is =
      by (slice_get namings number)
      (sym (slice_get-map naming_seen namings number) ∙ ap (λ xs. slice_get xs number) are ∙ slice_get-map (naming_due files known) (bound_entities files) number ∙ ap (option_map (naming_due files known)) is.there)
    where
      by : (o : Option Kept) → option_map naming_seen o ≡ Some (naming_due files known is.entity) → kept.naming_of o ≡ spec.naming_of files known (Some key)
      by None there = absurd (cc there)
      by (Some one) there = let same : naming_seen one ≡ naming_due files known is.entity = cc there in same ∙ is.naming known

  pub naming_is : (file token : ℕ) → naming_by (row_in p.rows.items file) namings token ≡ naming_at files known file token
  naming_is file token = ap (λ o. kept.naming_of (option_and_then (slice_get namings) o)) (g.tokens file token) ∙ by (key_at files file token) refl where
    by : (o : Option Key) → key_at files file token ≡ o → kept.naming_of (option_and_then (slice_get namings) (option_map (entity_index files) o)) ≡ spec.naming_of files known o
    by None is = refl
    by (Some key) is =
        let (number, at, entity) = entities.tokens file token key is in
        ap (λ n. kept.naming_of (slice_get namings n)) (ap (λ o. unwrap_or o 0) at) ∙ kept_there number key entity

  pub given_is : (file : ℕ) (e : Expr) → evaluated_by (row_in p.rows.items file) namings e ≡ evaluated_in files known file e
  given_is file e = alike (naming_by (row_in p.rows.items file) namings) (naming_at files known file) (naming_is file) (tree_of e)

-- ---- types, bounds and values, where two give the same of expressions

module _ (evaluate other : Expr → Evaluated) (same : (e : Expr) → evaluate e ≡ other e) where
  length_by : (o : Option CharLength) → steps.length_by evaluate (written.length_in o) ≡ spec.written_length other o
  length_by None = refl
  length_by (Some (star.Whole token z)) = refl
  length_by (Some (star.Paren lengths.Assumed)) = refl
  length_by (Some (star.Paren (lengths.Given e))) = ap (λ (v : Evaluated). spec.length_by v.value) (same e)

  typed_by : (typing : TypeSpec × Declared) → steps.typed_by evaluate (as_typed typing) ≡ spec.written_type other typing
  typed_by (type.Integer, d) = refl
  typed_by (type.Logical, d) = refl
  typed_by (type.Character selector, d) = ap (option_map ty.Character) (length_by (length_of (type.Character selector, d)))

  pub type_by : (typing : Option (TypeSpec × Declared)) (l : Letter)
      → option_map_or (steps.typed_by evaluate) (option_map as_typed typing) (letter_type l) ≡ option_map_or (spec.written_type other) typing (letter_type l)
  type_by None l = refl
  type_by (Some typing) l = typed_by typing

  low_by : (o : Option Expr) → low_value evaluate o ≡ low_value other o
  low_by None = refl
  low_by (Some e) = ap (λ (v : Evaluated). spec.whole_in v.value) (same e)

  high_by : (o : Option Expr) → bound_value evaluate o ≡ bound_value other o
  high_by None = refl
  high_by (Some e) = ap (λ (v : Evaluated). spec.whole_in v.value) (same e)

  pub pairs_by : (all : List BoundPair) → steps.pairs_of evaluate all ≡ map (bound_pair other) all
  pairs_by [] = refl
  pairs_by (pair ∷ all) = ap₂ (λ (x : Option (ℤ × ℤ)) xs. x ∷ xs) (ap₂ pair_of (low_by pair.low) (high_by pair.high)) (pairs_by all)

  pub value_in : (o : Option Expr) → option_and_then (λ e. (evaluate e).value) o ≡ option_and_then (λ e. (other e).value) o
  value_in None = refl
  value_in (Some e) = ap (λ (v : Evaluated). v.value) (same e)

module _ (files : List FileTree) (p : Project) (g : IsGathered files p) (trees : AreTrees files) (known : Key → Known) (n : ℕ) (d : Datum) (there : slice_get (all_data files) n ≡ Some d)
    (evaluate : Expr → Evaluated) (same : (e : Expr) → evaluate e ≡ evaluated_in files known d.scope.file e) where
  pub type_there : steps.declared_type evaluate p.bound.now p.names.items p.written.items n ≡ spec.declared_type files known d
  type_there =
      ap₂ (λ (t : Option TypedAs) (l : Letter). option_map_or (steps.typed_by evaluate) t (letter_type l)) (typing_there files p g n d there) (letter_there files p g n d there trees)
      ∙ type_by evaluate (evaluated_in files known d.scope.file) same (typing_of files d.scope d.name) (faults.letter_of files d.scope d.name)

  pub bounds_there : steps.pairs_of evaluate (pairs (written_at p.written.items n)) ≡ spec.pairs_of files known d
  bounds_there =
      ap (steps.pairs_of evaluate) (pairs_there files p g n d there) ∙ pairs_by evaluate (evaluated_in files known d.scope.file) same (written_bounds files d.scope d.name)

  -- the value, where it has the name's type
  pub value_there : (known_type : Option Ty) → known_type ≡ spec.declared_type files known d
      → steps.value_of evaluate (projects.sort_of p.bound.now p.names.items p.written.items n) known_type (written_at p.written.items n).value ≡ spec.value_from files known d
  value_there known_type is =
      ap₂ (λ (s : Option Sort) (w : WrittenAs). steps.value_of evaluate s known_type w.value) (sort_there files p g n d there trees) (written_there files p g n d there)
      ∙ ap (λ (t : Option Ty). steps.value_of evaluate (kinds.sort_of files d) t (written_value files d.scope d.name)) is
      ∙ ap (option_and_then (spec.held files known d)) (value_in evaluate (evaluated_in files known d.scope.file) same (written_value files d.scope d.name))
