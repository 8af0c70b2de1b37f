-- The provisional numbers of an entity are those of its key.
use Rattle.std.proofs.Common.{◌≡◌, ℕ, ◌+◌, ◌<◌, ◌≤◌, Bool, true, false, cond, List, [], ◌∷◌, length, Option, Some, None, refl, sym, ap, ap₂, ◌∙◌, subst, arith}
use Rattle.std.specs.Prelude.{◌&&◌, ◌||◌, ◌==◌, not, nat_eq, nat_lt, slice_get, is_some}
use Rattle.std.specs.Option.{option_map}
use Rattle.std.specs.Str.{bytes_eq}
use Rattle.std.proofs.lemmas.Bool.{and_parts}
use Rattle.std.proofs.lemmas.Bool.Decides.{nat_tests}
use Rattle.ftn_tree.specs.declared.table.Entity.{Entity}
use Rattle.ftn_tree.specs.declared.table.EntityKind.{EntityKind}
use Rattle.ftn_tree.specs.declared.table.EntityKind.TheVariants as kinds
use Rattle.ftn_tree.specs.declared.table.Extent.{Extent}
use Rattle.ftn_tree.specs.declared.unit.FileTree.{FileTree}
use Rattle.ftn_tree.specs.Bindings.{is_entity_of, same_number, is_block, is_intrinsic_kind}
use Rattle.ftn_tree.specs.Meanings.{Key, unit, own, block, intrinsic_function, same_names}
use Rattle.ftn_tree.specs.Scopes.{scope_number}
use Rattle.scope_bind.specs.steps.Entities as steps
use Rattle.scope_bind.specs.steps.Entities.{AreNumbers, count_of, first_entity, put_if}
use Rattle.scope_bind.specs.steps.Numbering.{IsNumbered, number_of, own_occurrence, name_occurrence, units_count, names_count}
use Rattle.scope_bind.proofs.EntityNumbers.{hits, put_all, put_long, one_more}
use Rattle.scope_bind.proofs.KeyNumbers.{Place, start, placed, own_less, name_less, iff, same_bytes, bytes_same, apart_own, apart_name, plus_same, eq_same, eq_true}
use Rattle.scope_bind.proofs.Units.{number_less}

-- ---- tests

miss : (o : Option ℕ) (k : ℕ) → ((n : ℕ) → o ≡ Some n → n ≡ k → ⊥) → hits o k ≡ false
miss None k never = refl
miss (Some n) k never = by (nat_eq n k) refl where
  by : (b : Bool) → nat_eq n k ≡ b → nat_eq n k ≡ false
  by true is = absurd (never n refl (eq_same n k is))
  by false is = is

or_false : (a : Bool) → (a || false || false) ≡ a
or_false true = refl
or_false false = refl

only_second : (a b c : Bool) → a ≡ false → c ≡ false → (a || b || c) ≡ b
only_second a b c first third = ap₂ (λ x z. x || b || z) first third ∙ by b where
  by : (b : Bool) → (b || false) ≡ b
  by true = refl
  by false = refl

and_false : (a : Bool) → (a && false) ≡ false
and_false true = refl
and_false false = refl

module _ (files : List FileTree) where
  -- where the numbers of an entity lie
  unit_low : (opens : Option ℕ) (n : ℕ) → steps.unit_number_by files opens ≡ Some n → n < units_count files
  unit_low None n is = absurd (cc is)
  unit_low (Some s) n is = by (nat_lt s (units_count files)) refl is where
    by : (b : Bool) → nat_lt s (units_count files) ≡ b → cond b (Some s) None ≡ Some n → n < units_count files
    by true less is = let same : s ≡ n = cc is in subst (λ m. m < units_count files) same (grind (arith, nat_tests, less))
    by false more is = absurd (cc is)

  own_between : (opens home : Option ℕ) (name : Option (List ℕ)) (n : ℕ) → steps.own_number_by files opens home name ≡ Some n → (a : ℕ) × (a < names_count files) × (n ≡ units_count files + a)
  own_between (Some s) home name n is = absurd (cc is)
  own_between None None name n is = absurd (cc is)
  own_between None (Some h) None n is = absurd (cc is)
  own_between None (Some h) (Some nm) n is = by (own_occurrence files h nm) refl is where
    by : (o : Option ℕ) → own_occurrence files h nm ≡ o → option_map (λ at. units_count files + at) o ≡ Some n → (a : ℕ) × (a < names_count files) × (n ≡ units_count files + a)
    by None none is = absurd (cc is)
    by (Some a) some is = (a, own_less files h nm a some, sym (cc is))

  name_high : (kind : EntityKind) (name : Option (List ℕ)) (n : ℕ) → steps.name_number_by files kind name ≡ Some n → units_count files + names_count files ≤ n
  name_high kinds.Block None n is = absurd (cc is)
  name_high kinds.Block (Some nm) n is = by (name_occurrence files nm) is where
    by : (o : Option ℕ) → option_map (λ at. units_count files + names_count files + at) o ≡ Some n → units_count files + names_count files ≤ n
    by None is = absurd (cc is)
    by (Some a) is = let same : units_count files + names_count files + a ≡ n = cc is in omega (arith, same)
  name_high kinds.Intrinsic None n is = absurd (cc is)
  name_high kinds.Intrinsic (Some nm) n is = by (name_occurrence files nm) is where
    by : (o : Option ℕ) → option_map (λ at. units_count files + names_count files + names_count files + at) o ≡ Some n → units_count files + names_count files ≤ n
    by None is = absurd (cc is)
    by (Some a) is = let same : units_count files + names_count files + names_count files + a ≡ n = cc is in omega (arith, same)
  name_high other name n is = absurd (cc is)

  -- ---- a scoping unit
  opens_it : (opens : Option ℕ) (i : ℕ) → i < units_count files → hits (steps.unit_number_by files opens) i ≡ same_number opens (Some i)
  opens_it None i less = refl
  opens_it (Some s) i less = by (nat_lt s (units_count files)) refl where
    by : (b : Bool) → nat_lt s (units_count files) ≡ b → hits (cond b (Some s) None) i ≡ (s == i)
    by true low = refl
    by false high = grind (arith, nat_tests, high, less)

  -- ---- a name in its scoping unit
  named_in : (h : ℕ) (nm : List ℕ) (scope : ℕ) (name : List ℕ) (i : ℕ) → own_occurrence files scope name ≡ Some i
      → hits (option_map (λ at. units_count files + at) (own_occurrence files h nm)) (units_count files + i) ≡ ((h == scope) && bytes_eq nm name)
  named_in h nm scope name i there = by (own_occurrence files h nm) refl where
    same_place : ((h == scope) && bytes_eq nm name) ≡ true → own_occurrence files h nm ≡ Some i
    same_place both =
        let (one, two) = and_parts (h == scope) (bytes_eq nm name) both in
        ap₂ (own_occurrence files) (eq_same h scope one) (same_bytes nm name two) ∙ there

    by : (o : Option ℕ) → own_occurrence files h nm ≡ o → hits (option_map (λ at. units_count files + at) o) (units_count files + i) ≡ ((h == scope) && bytes_eq nm name)
    by None none = iff false ((h == scope) && bytes_eq nm name) (λ never. absurd (cc never)) (λ both. absurd (cc (none, same_place both)))
    by (Some j) some =
        iff (nat_eq (units_count files + j) (units_count files + i)) ((h == scope) && bytes_eq nm name)
        (λ equal.
        let same : j ≡ i = plus_same (units_count files) j i (eq_same (units_count files + j) (units_count files + i) equal) in
        let (scopes, names) = apart_own files h scope i nm name (some ∙ ap Some same) there in
        ap₂ (λ a b. a && b) (eq_true h scope scopes) names)
        (λ both. let same : Some j ≡ Some i = sym some ∙ same_place both in eq_true (units_count files + j) (units_count files + i) (ap (λ k. units_count files + k) (cc same)))

  own_it : (opens home : Option ℕ) (found : Option (List ℕ)) (scope : ℕ) (name : List ℕ) (i : ℕ) → own_occurrence files scope name ≡ Some i
      → hits (steps.own_number_by files opens home found) (units_count files + i) ≡ (not (is_some opens) && same_number home (Some scope) && same_names found (Some name))
  own_it (Some s) home found scope name i there = refl
  own_it None None found scope name i there = refl
  own_it None (Some h) None scope name i there = sym (and_false (h == scope))
  own_it None (Some h) (Some nm) scope name i there = named_in h nm scope name i there

  -- ---- a name alone
  named_so : (from : ℕ) (nm name : List ℕ) (i : ℕ) → name_occurrence files name ≡ Some i → hits (option_map (λ at. from + at) (name_occurrence files nm)) (from + i) ≡ bytes_eq nm name
  named_so from nm name i there = by (name_occurrence files nm) refl where
    by : (o : Option ℕ) → name_occurrence files nm ≡ o → hits (option_map (λ at. from + at) o) (from + i) ≡ bytes_eq nm name
    by None none = iff false (bytes_eq nm name) (λ never. absurd (cc never)) (λ same. absurd (cc (none, ap (name_occurrence files) (same_bytes nm name same) ∙ there)))
    by (Some j) some =
        iff (nat_eq (from + j) (from + i)) (bytes_eq nm name)
        (λ equal. let same : j ≡ i = plus_same from j i (eq_same (from + j) (from + i) equal) in apart_name files i nm name (some ∙ ap Some same) there)
        (λ same. let places : Some j ≡ Some i = sym some ∙ ap (name_occurrence files) (same_bytes nm name same) ∙ there in eq_true (from + j) (from + i) (ap (λ k. from + k) (cc places)))

  block_it : (kind : EntityKind) (found : Option (List ℕ)) (name : List ℕ) (i : ℕ) → name_occurrence files name ≡ Some i
      → hits (steps.name_number_by files kind found) (units_count files + names_count files + i) ≡ (is_block kind && same_names found (Some name))
  block_it kinds.Block None name i there = refl
  block_it kinds.Block (Some nm) name i there = named_so (units_count files + names_count files) nm name i there
  block_it kinds.Intrinsic None name i there = refl
  block_it kinds.Intrinsic (Some nm) name i there = miss (option_map (λ at. units_count files + names_count files + names_count files + at) (name_occurrence files nm)) _ (λ n is same. never (name_occurrence files nm) n is same) where
    never : (o : Option ℕ) (n : ℕ) → option_map (λ at. units_count files + names_count files + names_count files + at) o ≡ Some n → n ≡ units_count files + names_count files + i → ⊥
    never None n is same = cc is
    never (Some a) n is same =
        let equal : units_count files + names_count files + names_count files + a ≡ n = cc is in
        let less : i < names_count files = name_less files name i there in omega (arith, equal, same, less)
  block_it other found name i there = refl

  intrinsic_it : (kind : EntityKind) (found : Option (List ℕ)) (name : List ℕ) (i : ℕ) → name_occurrence files name ≡ Some i
      → hits (steps.name_number_by files kind found) (units_count files + names_count files + names_count files + i) ≡ (is_intrinsic_kind kind && same_names found (Some name))
  intrinsic_it kinds.Intrinsic None name i there = refl
  intrinsic_it kinds.Intrinsic (Some nm) name i there = named_so (units_count files + names_count files + names_count files) nm name i there
  intrinsic_it kinds.Block None name i there = refl
  intrinsic_it kinds.Block (Some nm) name i there = miss (option_map (λ at. units_count files + names_count files + at) (name_occurrence files nm)) _ (λ n is same. never (name_occurrence files nm) refl n is same) where
    never : (o : Option ℕ) → name_occurrence files nm ≡ o → (n : ℕ) → option_map (λ at. units_count files + names_count files + at) o ≡ Some n → n ≡ units_count files + names_count files + names_count files + i → ⊥
    never None here n is same = cc is
    never (Some a) here n is same =
        let equal : units_count files + names_count files + a ≡ n = cc is in
        let less : a < names_count files = name_less files nm a here in omega (arith, equal, same, less)
  intrinsic_it other found name i there = refl

  -- ---- all

  not_unit : (entity : Entity) (k : ℕ) → units_count files ≤ k → hits (steps.unit_number_of files entity) k ≡ false
  not_unit entity k high = miss (steps.unit_number_of files entity) k (λ n is same. let low : n < units_count files = unit_low entity.opens n is in omega (arith, low, high, same))

  not_name : (entity : Entity) (k : ℕ) → k < units_count files + names_count files → hits (steps.name_number_of files entity) k ≡ false
  not_name entity k low = miss (steps.name_number_of files entity) k (λ n is same. let high : units_count files + names_count files ≤ n = name_high entity.kind entity.name n is in omega (arith, low, high, same))

  not_own : (entity : Entity) (k : ℕ) → ((a : ℕ) → a < names_count files → k ≡ units_count files + a → ⊥) → hits (steps.own_number_of files entity) k ≡ false
  not_own entity k never =
      miss (steps.own_number_of files entity) k (λ n is same. let (a, less, equal) = own_between entity.opens entity.home entity.name n is in never a less (sym same ∙ equal))

  matches : (entity : Entity) (key : Key) (i : ℕ) → Place files key i
      → (hits (steps.unit_number_of files entity) (start files key + i) || hits (steps.own_number_of files entity) (start files key + i) || hits (steps.name_number_of files entity) (start files key + i))
      ≡ is_entity_of files key entity
  matches entity (unit e) i here =
      let low : i < units_count files = number_less files e i here in
      let zero_plus : 0 + i ≡ i = omega arith in
      ap₂ (λ a b. hits (steps.unit_number_of files entity) (0 + i) || a || b)
      (not_own entity (0 + i) (λ a less same. omega (arith, low, same))) (not_name entity (0 + i) (omega (arith, low)))
      ∙ or_false (hits (steps.unit_number_of files entity) (0 + i))
      ∙ ap (hits (steps.unit_number_of files entity)) zero_plus
      ∙ opens_it entity.opens i low ∙ ap (same_number entity.opens) (sym here)
  matches entity (own e name) i (scope, here, there) =
      let less : i < names_count files = own_less files scope name i there in
      only_second (hits (steps.unit_number_of files entity) (units_count files + i)) (hits (steps.own_number_of files entity) (units_count files + i)) (hits (steps.name_number_of files entity) (units_count files + i))
      (not_unit entity (units_count files + i) (omega arith)) (not_name entity (units_count files + i) (omega (arith, less)))
      ∙ own_it entity.opens entity.home entity.name scope name i there
      ∙ ap (λ o. not (is_some entity.opens) && same_number entity.home o && same_names entity.name (Some name)) (sym here)
  matches entity (block None) i here = absurd here
  matches entity (block (Some name)) i here =
      ap₂ (λ a b. a || b || hits (steps.name_number_of files entity) (units_count files + names_count files + i))
      (not_unit entity (units_count files + names_count files + i) (omega arith)) (not_own entity (units_count files + names_count files + i) (λ a less same. omega (arith, less, same)))
      ∙ block_it entity.kind entity.name name i here
  matches entity (intrinsic_function name) i here =
      ap₂ (λ a b. a || b || hits (steps.name_number_of files entity) (units_count files + names_count files + names_count files + i))
      (not_unit entity (units_count files + names_count files + names_count files + i) (omega arith))
      (not_own entity (units_count files + names_count files + names_count files + i) (λ a less same. omega (arith, less, same)))
      ∙ intrinsic_it entity.kind entity.name name i here

  within : (key : Key) (i : ℕ) → Place files key i → start files key + i < count_of files
  within (unit e) i here = let low : i < units_count files = number_less files e i here in omega (arith, low)
  within (own e name) i (scope, here, there) = let low : i < names_count files = own_less files scope name i there in omega (arith, low)
  within (block None) i here = absurd here
  within (block (Some name)) i here = let low : i < names_count files = name_less files name i here in omega (arith, low)
  within (intrinsic_function name) i here = let low : i < names_count files = name_less files name i here in omega (arith, low)

  if_some : (b : Bool) (at : ℕ) (o : Option ℕ) (n : ℕ) → o ≡ Some n → cond b (Some at) o ≡ Some (cond b at n)
  if_some true at o n is = refl
  if_some false at o n is = is

  pub entity_put : (entity : Entity) (rest : List Entity) (at : ℕ) (old new : List ℕ) (one two three : Option ℕ) → length old ≡ count_of files → AreNumbers files (at + 1) rest old
      → one ≡ steps.unit_number_of files entity → two ≡ steps.own_number_of files entity → three ≡ steps.name_number_of files entity
      → new ≡ put_if three at (put_if two at (put_if one at old)) → AreNumbers files at (entity ∷ rest) new
  entity_put entity rest at old new one two three long are first second third made key numbered =
      let (i, here, told) = placed files key numbered in
      let less : number_of files key < length old = subst (λ n. n < length old) (sym told) (subst (λ l. start files key + i < l) (sym long) (within key i here)) in
      ap (λ ns. slice_get ns (number_of files key)) made
      ∙ put_all one two three at old (number_of files key) less
      ∙ ap (λ b. cond b (Some at) (slice_get old (number_of files key)))
      (ap (λ k. hits one k || hits two k || hits three k) told
      ∙ ap (λ o. hits o (start files key + i) || hits two (start files key + i) || hits three (start files key + i)) first
      ∙ ap₂ (λ o p. hits (steps.unit_number_of files entity) (start files key + i) || hits o (start files key + i) || hits p (start files key + i)) second third
      ∙ matches entity key i here)
      ∙ if_some (is_entity_of files key entity) at (slice_get old (number_of files key)) (first_entity files key (at + 1) rest) (are key numbered)
      ∙ ap Some (sym (one_more files key at entity rest))
