-- A shape of a variable or a result takes a storage unit, where a project has no fault of its shapes.
use Rattle.std.proofs.Common.{◌≡◌, ℕ, ℤ, zero, suc, ◌+◌, ◌*◌, ◌≤◌, Bool, true, false, cond, List, [], ◌∷◌, ◌++◌, map, pos, negsuc, ◌+ℤ◌, Option, Some, None, slice_get, option_map, inl, inr, refl, sym, ap, ap₂, subst, ◌∙◌, arith}
use Rattle.std.specs.Prelude.{◌&&◌, ◌||◌, ◌==◌, ◌-ℤ◌, int_lt, not}
use Rattle.std.specs.List.{list_any}
use Rattle.std.specs.Option.{option_and_then}
use Rattle.std.proofs.Math.Nat.{suc-mul}
use Rattle.std.proofs.lemmas.Bool.Decides.{nat_tests}
use Rattle.std.proofs.lemmas.Int.{ints}
use Rattle.ftn_base.specs.declared.entity.Length.TheVariants.{Fixed, Assumed}
use Rattle.ftn_base.specs.declared.entity.Shape.{Shape}
use Rattle.ftn_base.specs.declared.entity.Ty.{Ty}
use Rattle.ftn_base.specs.declared.entity.Ty.TheVariants as ty
use Rattle.ftn_tree.specs.declared.table.Entity.{Entity}
use Rattle.ftn_tree.specs.declared.unit.FileTree.{FileTree}
use Rattle.ftn_tree.specs.declared.value.Value.{Value}
use Rattle.ftn_tree.specs.Arrays.{at_least_zero, axis_from, elements, span}
use Rattle.ftn_tree.specs.Bindings.{bound_entities}
use Rattle.ftn_tree.specs.Constants.{all_pairs, is_empty_pair, known_of, pairs_of}
use Rattle.ftn_tree.specs.DeclarationFaults.{declaration_fault}
use Rattle.ftn_tree.specs.DeclaredEntities.{is_said}
use Rattle.ftn_tree.specs.EntityValues.{holder}
use Rattle.ftn_tree.specs.Givens.{units_of}
use Rattle.ftn_tree.specs.KeyKinds.{Datum, is_constant, kind_of}
use Rattle.ftn_tree.specs.Meanings.{own}
use Rattle.ftn_tree.specs.NameFaults.{name_fault, said_of}
use Rattle.ftn_tree.specs.Projects.{AreTrees}
use Rattle.ftn_tree.specs.Sayings.{Saying, dummy}
use Rattle.ftn_tree.specs.Shapes.{bad_shape, bounds_told, datum_told, has_bad_bounds, has_star, is_bad, is_loose, is_none_long, shape, shape_findings, shape_of, type_of, with_value}
use Rattle.ftn_tree.specs.Declarations.{written_bounds}
use Rattle.ftn_tree.specs.StorageObjects.{takes_storage, units_in}
use Rattle.const_value.specs.steps.Names.{all_data}
use Rattle.const_value.proofs.EntityHolders.{HeldCase, Holding, IsPlain, entities_held, with_none}
use Rattle.const_value.proofs.Members.{each_at}
use Rattle.const_value.proofs.StarLengths.{star_written}

both_empty : {A : Type 0} (xs ys : List A) → xs ++ ys ≡ [] → (xs ≡ []) × (ys ≡ [])
both_empty [] ys is = (refl, is)
both_empty (x ∷ xs) ys is = absurd (cc is)

left_false : (a b : Bool) → (a || b) ≡ false → a ≡ false
left_false true b is = absurd (cc is)
left_false false b is = refl

right_false : (a b : Bool) → (a || b) ≡ false → b ≡ false
right_false true b is = absurd (cc is)
right_false false b is = is

-- ---- elements

span_some : (low high : ℤ) → int_lt high low ≡ false → 1 ≤ span low high
span_some low high is = by ((high -ℤ low) +ℤ pos 1) refl where
  by : (d : ℤ) → (high -ℤ low) +ℤ pos 1 ≡ d → 1 ≤ at_least_zero d
  by (pos m) e = grind (arith, ints)
  by (negsuc m) e = grind (arith, ints)

product_some : (a b : ℕ) → 1 ≤ a → 1 ≤ b → 1 ≤ a * b
product_some zero b one other = absurd (omega (arith, one))
product_some (suc a) b one other = let same : suc a * b ≡ a * b + b = suc-mul a b in omega (arith, same, other)

elements_some : (ps : List (Option (ℤ × ℤ))) (bounds : List (ℤ × ℤ)) → all_pairs ps ≡ Some bounds → list_any is_empty_pair ps ≡ false → 1 ≤ elements (map axis_from bounds)
elements_some [] bounds is none = let same : [] ≡ bounds = cc is in subst (λ bs. 1 ≤ elements (map axis_from bs)) same (omega arith)
elements_some (None ∷ ps) bounds is none = absurd (cc is)
elements_some (Some (low, high) ∷ ps) bounds is none = by (all_pairs ps) refl is (elements_some ps) where
  by : (o : Option (List (ℤ × ℤ))) → all_pairs ps ≡ o → option_map (λ pairs. (low, high) ∷ pairs) o ≡ Some bounds
      → ((bs : List (ℤ × ℤ)) → all_pairs ps ≡ Some bs → list_any is_empty_pair ps ≡ false → 1 ≤ elements (map axis_from bs)) → 1 ≤ elements (map axis_from bounds)
  by None rest is again = absurd (cc is)
  by (Some bs) rest is again =
      let same : (low, high) ∷ bs ≡ bounds = some_same is in
      subst (λ bs. 1 ≤ elements (map axis_from bs)) same
      (product_some (span low high) (elements (map axis_from bs)) (span_some low high (left_false (int_lt high low) (list_any is_empty_pair ps) none)) (again bs rest (right_false (int_lt high low) (list_any is_empty_pair ps) none)))
    where
      some_same : {x y : List (ℤ × ℤ)} → Some x ≡ Some y → x ≡ y
      some_same is = cc is

-- ---- units of an element

length_some : (n : ℕ) → (n == 0) ≡ false → 1 ≤ n
length_some n is = grind (arith, nat_tests)

units_some : (v : Option Value) (t : Ty) → (t ≡ ty.Character Assumed → ⊥) → is_none_long (Some t) ≡ false → 1 ≤ units_of (with_value v t)
units_some v t never is = subst (λ x. 1 ≤ units_of x) (sym (with_none v t never)) (by t never is) where
  by : (t : Ty) → (t ≡ ty.Character Assumed → ⊥) → is_none_long (Some t) ≡ false → 1 ≤ units_of t
  by ty.Integer never is = omega arith
  by ty.Logical never is = omega arith
  by (ty.Character (Fixed n)) never is = length_some n is
  by (ty.Character Assumed) never is = absurd (never refl)

-- ---- shapes

record Parts (v : Option Value) (t : Option Ty) (b : Option (List (ℤ × ℤ))) (s : Shape) : Type 0 where
  known : Ty
  bounds : List (ℤ × ℤ)
  known_is : t ≡ Some known
  bounds_is : b ≡ Some bounds
  shape_is : s ≡ shape (with_value v known) bounds

parts_of : (v : Option Value) (t : Option Ty) (b : Option (List (ℤ × ℤ))) (s : Shape) → option_and_then (λ known. option_map (shape known) b) (option_map (with_value v) t) ≡ Some s → Parts v t b s
parts_of v None b s is = absurd (cc is)
parts_of v (Some t) None s is = absurd (cc is)
parts_of v (Some t) (Some b) s is = record { known = t; bounds = b; known_is = refl; bounds_is = refl; shape_is = some_same is } where
  some_same : Some (shape (with_value v t) b) ≡ Some s → s ≡ shape (with_value v t) b
  some_same is = let same : shape (with_value v t) b ≡ s = cc is in sym same

module _ (files : List FileTree) (are : AreTrees files) (declared : declaration_fault files ≡ None) (bound : name_fault files ≡ None)
    (shaped : (n : ℕ) (d : Datum) → slice_get (all_data files) n ≡ Some d → shape_findings files d ≡ []) where
  if_empty : (d : Datum) (said : List Saying) (b : Bool) → bad_shape files d said b ≡ [] → b ≡ false
  if_empty d said true is = absurd (cc is)
  if_empty d said false is = refl

  -- one that isn't bad has no bad bounds, and isn't of no length, nor of the length `*`
  pub record IsSound (d : Datum) : Type 0 where
    pub pairs : list_any is_empty_pair (pairs_of files (known_of files) d) ≡ false
    pub long : is_none_long (type_of files d) ≡ false
    pub star : has_star files d ≡ false

  sound : (n : ℕ) (d : Datum) → slice_get (all_data files) n ≡ Some d → IsPlain files are declared bound shaped d → IsSound d
  sound n d there (argument, a_datum, plain) =
      let none = both_empty (datum_told files (is_said dummy (said_of files d.scope d.name)) (is_constant (kind_of files (own d.scope d.name))) d (said_of files d.scope d.name)) _ (shaped n d there) in
      let told : bounds_told files (is_said dummy (said_of files d.scope d.name)) d
      ++ bad_shape files d (said_of files d.scope d.name) (not (is_said dummy (said_of files d.scope d.name)) && is_bad files (is_constant (kind_of files (own d.scope d.name))) d) ≡ [] =
      sym (ap (λ b. cond b (bounds_told files (is_said dummy (said_of files d.scope d.name)) d
      ++ bad_shape files d (said_of files d.scope d.name) (not (is_said dummy (said_of files d.scope d.name)) && is_bad files (is_constant (kind_of files (own d.scope d.name))) d)) []) a_datum) ∙ none.0 in
      let bad : (not (is_said dummy (said_of files d.scope d.name)) && is_bad files (is_constant (kind_of files (own d.scope d.name))) d) ≡ false =
      if_empty d (said_of files d.scope d.name) _ ((both_empty (bounds_told files (is_said dummy (said_of files d.scope d.name)) d) _ told).1) in
      let starred : (has_star files d && not (is_said dummy (said_of files d.scope d.name)) && not (is_constant (kind_of files (own d.scope d.name)))) ≡ false = if_empty d (said_of files d.scope d.name) _ none.1 in
      let good : (has_bad_bounds files d || (not false && is_none_long (type_of files d))) ≡ false =
      sym (ap₂ (λ a c. not a && (has_bad_bounds files d || (not c && is_none_long (type_of files d)))) argument plain) ∙ bad in
      record {
        pairs = right_false (list_any (is_loose files d.scope.file) (written_bounds files d.scope d.name)) _ (left_false (has_bad_bounds files d) _ good);
        long = right_false (has_bad_bounds files d) (is_none_long (type_of files d)) good;
        star = star_false (has_star files d) (sym (ap₂ (λ a c. has_star files d && not a && not c) argument plain) ∙ starred);
      }
    where
      star_false : (s : Bool) → (s && not false && not false) ≡ false → s ≡ false
      star_false true is = absurd (cc is)
      star_false false is = refl

  pub units_there : (k : ℕ) (entity : Entity) (s : Shape) → slice_get (bound_entities files) k ≡ Some entity → takes_storage entity.kind ≡ true → option_and_then (shape_of files) (holder files entity) ≡ Some s → 1 ≤ units_in s
  units_there k entity s there takes is = by (each_at (HeldCase files are declared bound shaped) (bound_entities files) k entity (entities_held files are declared bound shaped) there) where
    of_holding : Holding files are declared bound shaped entity → 1 ≤ units_in s
    of_holding h =
        let good = sound h.name h.datum h.there (h.plain takes) in
        let whole : option_and_then (λ known. option_map (shape known) (all_pairs (pairs_of files (known_of files) h.datum))) (option_map (with_value (known_of files h.key).value) (type_of files h.datum)) ≡ Some s =
        sym (ap (λ o. option_and_then (λ known. option_map (shape known) (option_and_then (λ d. all_pairs (pairs_of files (known_of files) d)) o)) (option_map (with_value (known_of files h.key).value) (option_and_then (type_of files) o))) h.datum_is)
        ∙ sym (ap (option_and_then (shape_of files)) h.holder_is) ∙ is in
        let p = parts_of (known_of files h.key).value (type_of files h.datum) (all_pairs (pairs_of files (known_of files) h.datum)) s whole in
        subst (λ x. 1 ≤ units_in x) (sym p.shape_is)
        (product_some (elements (map axis_from p.bounds)) (units_of (with_value (known_of files h.key).value p.known))
        (elements_some (pairs_of files (known_of files) h.datum) p.bounds p.bounds_is good.pairs)
        (units_some (known_of files h.key).value p.known
        (λ same. absurd_star h good.star (p.known_is ∙ ap Some same))
        (ap is_none_long (sym p.known_is) ∙ good.long)))
      where
        absurd_star : (h : Holding files are declared bound shaped entity) → has_star files h.datum ≡ false → type_of files h.datum ≡ Some (ty.Character Assumed) → ⊥
        absurd_star h none star = let written : has_star files h.datum ≡ true = star_written files (known_of files) h.datum star in cc (none, written)

    by : HeldCase files are declared bound shaped entity → 1 ≤ units_in s
    by (inl none) = absurd (cc (is, ap (option_and_then (shape_of files)) none.0))
    by (inr h) = of_holding h
