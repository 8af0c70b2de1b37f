-- What is told of a group of DATA by what the code keeps is what is told of it.
use Rattle.std.proofs.Common.{◌≡◌, ℕ, Bool, true, false, cond, not, ◌||◌, List, [], ◌∷◌, ◌++◌, map, Option, Some, None, option_map, refl, sym, ap, ap₂, ◌∙◌}
use Rattle.std.specs.List.{cons_option, flat_map}
use Rattle.std.specs.Option.{is_none, option_and_then}
use Rattle.std.proofs.lemmas.List.Concat.{flat_map-append}
use Rattle.ftn_base.specs.declared.fault.FaultKind.TheVariants.{WrongType, NotDefinable}
use Rattle.ftn_tree.specs.declared.parts.DataConstant.{DataConstant}
use Rattle.ftn_tree.specs.declared.parts.DataConstant.TheVariants as constant
use Rattle.ftn_tree.specs.declared.parts.DataGroup.{DataGroup}
use Rattle.ftn_tree.specs.declared.parts.DataValue.{DataValue}
use Rattle.ftn_tree.specs.declared.parts.Designator.{Designator}
use Rattle.ftn_tree.specs.declared.parts.Repeat.{Repeat}
use Rattle.ftn_tree.specs.declared.parts.Repeat.TheVariants as repeat
use Rattle.ftn_tree.specs.declared.table.Extent.{Extent}
use Rattle.ftn_tree.specs.declared.unit.FileTree.{FileTree}
use Rattle.ftn_tree.specs.ConstantFaults as constants
use Rattle.ftn_tree.specs.ConstantFaults.{constant_name, name_told, names_of_value, repeat_name}
use Rattle.ftn_tree.specs.DataTypes as types
use Rattle.ftn_tree.specs.DataTypes.{Counted, constant_token, count_in, counts_told, elements_of, is_negative}
use Rattle.ftn_tree.specs.DeclarationFaults.{Finding}
use Rattle.ftn_tree.specs.ExpressionTypes.{if_told}
use Rattle.ftn_tree.specs.KeyKinds.{key_at}
use Rattle.ftn_tree.specs.Sorts.{Whole, is_sort}
use Rattle.name_types.specs.declared.names.Setting.{Setting}
use Rattle.type_check.specs.steps.DataBy as steps
use Rattle.type_check.specs.steps.DataRight.{IsDataRight}
use Rattle.type_check.specs.steps.Noted.{noted}
use Rattle.type_check.proofs.NotedLaws.{noted_append}

pub all_noted : (s : Setting) (g : DataGroup) (first one two three : Option Finding) → one ≡ noted s.file first (flat_map (steps.object_told s) g.objects)
    → two ≡ noted s.file one (flat_map (steps.value_told s) g.values)
    → three ≡ noted s.file two (counts_told (map (steps.counted_object s) g.objects) (map (steps.counted_value s) g.values)) → three ≡ noted s.file first (steps.group_by s g)
all_noted s g first one two three is_one is_two is_three =
    let objects = flat_map (steps.object_told s) g.objects in
    let values = flat_map (steps.value_told s) g.values in
    let counts = counts_told (map (steps.counted_object s) g.objects) (map (steps.counted_value s) g.values) in
    is_three ∙ ap (λ o. noted s.file o counts) is_two ∙ ap (λ o. noted s.file (noted s.file o values) counts) is_one
    ∙ sym (noted_append s.file (noted s.file first objects) values counts) ∙ sym (noted_append s.file first objects (values ++ counts))

-- ---- lists

map_alike : {X Y : Type 0} (f g : X → Y) → ((x : X) → f x ≡ g x) → (xs : List X) → map f xs ≡ map g xs
map_alike f g same [] = refl
map_alike f g same (x ∷ xs) = ap₂ (λ y ys. y ∷ ys) (same x) (map_alike f g same xs)

flat_map_alike : {X Y : Type 0} (f g : X → List Y) → ((x : X) → f x ≡ g x) → (xs : List X) → flat_map f xs ≡ flat_map g xs
flat_map_alike f g same [] = refl
flat_map_alike f g same (x ∷ xs) = ap₂ (λ y ys. y ++ ys) (same x) (flat_map_alike f g same xs)

first_none : {X : Type 0} (xs ys : List X) → xs ++ ys ≡ [] → xs ≡ []
first_none [] ys e = refl
first_none (x ∷ xs) ys e = absurd (cc e)

last_none : {X : Type 0} (xs ys : List X) → xs ++ ys ≡ [] → ys ≡ []
last_none [] ys e = e
last_none (x ∷ xs) ys e = absurd (cc e)

module _ (files : List FileTree) (e : Extent) (s : Setting) (right : IsDataRight files e s) where
  -- ---- objects

  object_told_is : (d : Designator) → steps.object_told s d ≡ types.object_told files e d
  object_told_is d = ap (λ b. if_told (not b) NotDefinable d.name) (right.object d.name)

  count_if : (d : Designator) → steps.object_by s d.name ≡ true → steps.count_by s d ≡ types.object_count files (key_at files e.file d.name) d
  count_if d there = ap (λ o. cond (is_none d.subscripts) (option_map elements_of o) (Some 1)) (right.shape d.name there)

  count_is : (d : Designator)
      → cond (steps.object_by s d.name) (steps.count_by s d) None ≡ cond (types.is_object files e (key_at files e.file d.name)) (types.object_count files (key_at files e.file d.name) d) None
  count_is d = by (steps.object_by s d.name) refl ∙ ap (λ b. cond b (types.object_count files (key_at files e.file d.name) d) None) (right.object d.name) where
    by : (b : Bool) → steps.object_by s d.name ≡ b → cond (steps.object_by s d.name) (steps.count_by s d) None ≡ cond (steps.object_by s d.name) (types.object_count files (key_at files e.file d.name) d) None
    by true there = ap (λ o. cond (steps.object_by s d.name) o None) (count_if d there)
    by false barred = ap (λ b. cond b (steps.count_by s d) None) barred ∙ sym (ap (λ b. cond b (types.object_count files (key_at files e.file d.name) d) None) barred)

  object_is : (d : Designator) → steps.counted_object s d ≡ types.object_of files e d
  object_is d = ap₂ (λ c t. record { token = d.name; count = c; sort = t }) (count_is d) (right.sort d.name)

  -- ---- values, whose names are those of constants

  repeat_is : (r : Option Repeat) → ((token : ℕ) → option_and_then repeat_name r ≡ Some token → name_told files e.file token ≡ []) → steps.repeat_by s r ≡ types.repeat_count files e.file r
  repeat_is None none = refl
  repeat_is (Some (repeat.Whole token z)) none = by z where
    by : (z : _) → steps.repeat_by s (Some (repeat.Whole token z)) ≡ types.repeat_count files e.file (Some (repeat.Whole token z))
    by z = refl
  repeat_is (Some (repeat.Named token)) none = ap₂ (λ t v. cond (is_sort Whole t) (count_in v) None) (right.scalar token) (right.value token (none token refl))

  repeat_told_is : (r : Option Repeat) → ((token : ℕ) → option_and_then repeat_name r ≡ Some token → name_told files e.file token ≡ []) → steps.repeat_told s r ≡ types.repeat_told files e.file r
  repeat_told_is None none = refl
  repeat_told_is (Some (repeat.Whole token z)) none = refl
  repeat_told_is (Some (repeat.Named token)) none = ap₂ (λ t v. if_told (not (is_sort Whole t) || is_negative v) WrongType token) (right.scalar token) (right.value token (none token refl))

  sort_is : (k : DataConstant) → steps.sort_of_constant s k ≡ types.constant_sort files e.file k
  sort_is (constant.Whole sign token z) = refl
  sort_is (constant.Truth token t) = refl
  sort_is (constant.Quoted token text) = refl
  sort_is (constant.Named token) = right.scalar token

  constant_told_is : (k : DataConstant) → steps.constant_told s k ≡ types.constant_told files e.file k
  constant_told_is (constant.Whole sign token z) = refl
  constant_told_is (constant.Truth token t) = refl
  constant_told_is (constant.Quoted token text) = refl
  constant_told_is (constant.Named token) = ap (λ t. if_told (is_none t) WrongType token) (right.scalar token)

  none_repeated : (v : DataValue) → flat_map (name_told files e.file) (names_of_value v) ≡ [] → (token : ℕ) → option_and_then repeat_name v.repeat ≡ Some token → name_told files e.file token ≡ []
  none_repeated v none token is =
      first_none (name_told files e.file token) (flat_map (name_told files e.file) (cons_option (constant_name v.constant) []))
      (sym (ap (λ o. flat_map (name_told files e.file) (cons_option o (cons_option (constant_name v.constant) []))) is) ∙ none)

  value_is : (v : DataValue) → flat_map (name_told files e.file) (names_of_value v) ≡ [] → steps.counted_value s v ≡ types.value_of files e.file v
  value_is v none = ap₂ (λ c t. record { token = constant_token v.constant; count = c; sort = t }) (repeat_is v.repeat (none_repeated v none)) (sort_is v.constant)

  value_told_is : (v : DataValue) → flat_map (name_told files e.file) (names_of_value v) ≡ [] → steps.value_told s v ≡ types.value_told files e.file v
  value_told_is v none = ap₂ (λ r k. r ++ k) (repeat_told_is v.repeat (none_repeated v none)) (constant_told_is v.constant)

  split : (v : DataValue) (rest : List DataValue) → flat_map (name_told files e.file) (flat_map names_of_value (v ∷ rest)) ≡ []
      → (flat_map (name_told files e.file) (names_of_value v) ≡ []) × (flat_map (name_told files e.file) (flat_map names_of_value rest) ≡ [])
  split v rest none =
      let told = name_told files e.file in
      let both = sym (flat_map-append told (names_of_value v) (flat_map names_of_value rest)) ∙ none in
      (first_none (flat_map told (names_of_value v)) (flat_map told (flat_map names_of_value rest)) both, last_none (flat_map told (names_of_value v)) (flat_map told (flat_map names_of_value rest)) both)

  values_are : (values : List DataValue) → flat_map (name_told files e.file) (flat_map names_of_value values) ≡ [] → map (steps.counted_value s) values ≡ map (types.value_of files e.file) values
  values_are [] none = refl
  values_are (v ∷ rest) none = let parts = split v rest none in ap₂ (λ y ys. y ∷ ys) (value_is v parts.0) (values_are rest parts.1)

  values_told : (values : List DataValue) → flat_map (name_told files e.file) (flat_map names_of_value values) ≡ [] → flat_map (steps.value_told s) values ≡ flat_map (types.value_told files e.file) values
  values_told [] none = refl
  values_told (v ∷ rest) none = let parts = split v rest none in ap₂ (λ y ys. y ++ ys) (value_told_is v parts.0) (values_told rest parts.1)

  pub group_is : (g : DataGroup) → constants.group_told files e.file g ≡ [] → steps.group_by s g ≡ types.group_told files e g
  group_is g none =
      let names = last_none (flat_map (constants.designator_told files e.file) g.objects) (flat_map (name_told files e.file) (flat_map names_of_value g.values)) none in
      ap₂ (λ xs ys. xs ++ ys) (flat_map_alike (steps.object_told s) (types.object_told files e) object_told_is g.objects)
      (ap₂ (λ xs ys. xs ++ ys) (values_told g.values names) (ap₂ counts_told (map_alike (steps.counted_object s) (types.object_of files e) object_is g.objects) (values_are g.values names)))
