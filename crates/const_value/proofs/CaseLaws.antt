-- What is told of CASE values by what expressions give is what the files define.
use Rattle.std.proofs.Common.{◌≡◌, ℕ, ◌-◌, cond, List, [], ◌∷◌, ◌++◌, map, Option, Some, None, refl, sym, ap, ap₂, ◌∙◌}
use Rattle.std.specs.List.{flat_map}
use Rattle.std.proofs.lemmas.List.Concat.{flat_map-append}
use Rattle.ftn_tree.specs.declared.expr.Expr.{Expr}
use Rattle.ftn_tree.specs.declared.form.Form.TheOpen.{Form-F}
use Rattle.ftn_tree.specs.declared.parts.CaseRange.{CaseRange}
use Rattle.ftn_tree.specs.declared.parts.CaseRange.TheVariants as range
use Rattle.ftn_tree.specs.declared.unit.FileTree.{FileTree}
use Rattle.ftn_tree.specs.declared.unit.Unit.{Unit as UnitTree}
use Rattle.ftn_tree.specs.Cases as spec
use Rattle.ftn_tree.specs.Cases.{Construct, case_findings, construct_findings, constructs_of, is_select_at}
use Rattle.ftn_tree.specs.Constants.{given, whole_in}
use Rattle.ftn_tree.specs.Expressions.{first_token}
use Rattle.ftn_tree.specs.Evaluations.{Evaluated}
use Rattle.ftn_tree.specs.Extents.{layer_at}
use Rattle.ftn_tree.specs.Layers.{FormLayer}
use Rattle.const_value.specs.steps.Cases.{construct_told, spans_at, spans_of}

flat_same : {X Y : Type 0} (f g : X → List Y) → ((x : X) → f x ≡ g x) → (xs : List X) → flat_map f xs ≡ flat_map g xs
flat_same f g same [] = refl
flat_same {X} {Y} f g same (x ∷ xs) = ap₂ (λ (a b : List Y). a ++ b) (same x) (flat_same f g same xs)

map_same : {X Y : Type 0} (f g : X → Y) → ((x : X) → f x ≡ g x) → (xs : List X) → map f xs ≡ map g xs
map_same f g same [] = refl
map_same {X} {Y} f g same (x ∷ xs) = ap₂ (λ (a : Y) (b : List Y). a ∷ b) (same x) (map_same f g same xs)

module _ (files : List FileTree) (file : ℕ) (evaluate : Expr → Evaluated) (same : (e : Expr) → evaluate e ≡ given files file e) where
  range_is : (r : CaseRange) → spans_of evaluate r ≡ spec.spans_of files file r
  range_is (range.One e) = ap (λ (x : Evaluated). spec.span_if (first_token e) (whole_in x.value) (whole_in x.value)) (same e)
  range_is (range.From low) = ap (λ (x : Evaluated). spec.from_low (first_token low) (whole_in x.value)) (same low)
  range_is (range.To high) = ap (λ (x : Evaluated). spec.to_high (first_token high - 1) (whole_in x.value)) (same high)
  range_is (range.Between low high) = ap₂ (λ (x y : Evaluated). spec.span_if (first_token low) (whole_in x.value) (whole_in y.value)) (same low) (same high)

  layer_is : (layer : Option FormLayer) → spans_at evaluate layer ≡ spec.spans_at files file layer
  layer_is (Some (Form-F.Case (Some ranges))) = flat_same (spans_of evaluate) (spec.spans_of files file) range_is ranges
  layer_is (Some (Form-F.Case None)) = refl
  layer_is other = refl

  construct_is : (c : Construct) → construct_told evaluate files file c ≡ construct_findings files file c
  construct_is c =
      ap (λ lists. cond (is_select_at (layer_at files file c.opening)) (spec.met file [] lists) [])
      (map_same (λ head. spans_at evaluate (layer_at files file head)) (λ head. spec.spans_at files file (layer_at files file head)) (λ head. layer_is (layer_at files file head)) c.heads)

  nested : (units : List UnitTree) → flat_map (λ u. flat_map (construct_findings files file) (constructs_of u)) units ≡ flat_map (construct_findings files file) (flat_map constructs_of units)
  nested [] = refl
  nested (u ∷ units) =
      ap (λ more. flat_map (construct_findings files file) (constructs_of u) ++ more) (nested units)
      ∙ sym (flat_map-append (construct_findings files file) (constructs_of u) (flat_map constructs_of units))

  pub units_same : (tree : FileTree) → flat_map (λ u. flat_map (construct_told evaluate files file) (constructs_of u)) tree.units ≡ case_findings files file tree
  units_same tree =
      flat_same (λ u. flat_map (construct_told evaluate files file) (constructs_of u)) (λ u. flat_map (construct_findings files file) (constructs_of u))
      (λ u. flat_same (construct_told evaluate files file) (construct_findings files file) construct_is (constructs_of u)) tree.units
      ∙ nested tree.units
