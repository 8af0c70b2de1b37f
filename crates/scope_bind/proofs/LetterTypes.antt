-- Names that their first letters type, by the numbers of what names denote.
use Rattle.std.proofs.Common.{◌≡◌, ℕ, ◌+◌, ◌<◌, Bool, true, false, List, length, Option, Some, None, refl, sym, ap, ap₂, ◌∙◌, arith, bytes_eq, nat_eq}
use Rattle.std.specs.Prelude.{◌&&◌, is_some}
use Rattle.std.specs.Option.{unwrap_or}
use Rattle.std.proofs.lemmas.Bool.{and_parts}
use Rattle.std.proofs.lemmas.Bool.Decides.{nat_tests}
use Rattle.ftn_tree.specs.declared.table.Extent.{Extent}
use Rattle.ftn_tree.specs.declared.unit.FileTree.{FileTree}
use Rattle.ftn_tree.specs.Bindings.{is_key, is_letter_typed}
use Rattle.ftn_tree.specs.Extents.{scoping, same_extent}
use Rattle.ftn_tree.specs.Meanings as spec
use Rattle.ftn_tree.specs.Meanings.{Key, unit, own, block, intrinsic_function, same_key, declared_in, denotes}
use Rattle.ftn_tree.specs.Projects.{AreTrees}
use Rattle.decl_table.proofs.OwnStatements.{same_number}
use Rattle.scope_bind.specs.declared.declared.Declared.{Declared}
use Rattle.scope_bind.specs.declared.declared.Declared.TheVariants as made
use Rattle.scope_bind.specs.declared.meaning.Meaning.{Meaning}
use Rattle.scope_bind.specs.steps.Declared.{meant}
use Rattle.scope_bind.specs.steps.Globals.{unit_at}
use Rattle.scope_bind.specs.steps.Meaning.{numbered}
use Rattle.scope_bind.specs.steps.NameFaults as steps
use Rattle.scope_bind.specs.steps.Numbering.{IsNumbered, own_occurrence, number_of, name_occurrence, units_count, names_count}
use Rattle.scope_bind.proofs.DenotedKeys.{FineKey, FineMeaning, denotes_fine}
use Rattle.scope_bind.proofs.KeyNumbers.{keys_apart, own_less, same_bytes}
use Rattle.scope_bind.proofs.NumberedMeanings.{own_numbered}
use Rattle.scope_bind.proofs.Units.{unit_number}

beyond : (m n u c i k : ℕ) → m ≡ u + i → i < c → n ≡ u + c + c + k → nat_eq m n ≡ false
beyond m n u c i k one less other = grind (arith, nat_tests)

some_same : {A : Type 0} (x y : A) → Some x ≡ Some y → x ≡ y
some_same x y same = cc same

pub nothing_told : (files : List FileTree) (scope : ℕ) (name : List ℕ) (declared : Declared) → steps.is_nothing declared ≡ spec.is_nothing (meant files scope name declared)
nothing_told files scope name made.Nothing = refl
nothing_told files scope name made.Unknown = refl
nothing_told files scope name made.Own = refl
nothing_told files scope name made.Intrinsic = refl
nothing_told files scope name (made.Unit number) = refl

module _ (files : List FileTree) (are : AreTrees files) (scope : ℕ) (within : scope < length (scoping files)) (name : List ℕ) where
  abbrev e : Extent
  e = unit_at files scope

  has_own : (i : ℕ) → own_occurrence files scope name ≡ Some i → IsNumbered files (own e name)
  has_own i is = (scope, unit_number files are scope within, ap is_some is)

  none_own : (key : Key) → FineKey files name key → own_occurrence files scope name ≡ None → false ≡ same_key (own e name) key
  none_own (unit x) fine none = refl
  none_own (block b) fine none = refl
  none_own (intrinsic_function other) fine none = refl
  none_own (own x other) (n, here, occurs) none = by (same_extent e x && bytes_eq name other) refl where
    by : (b : Bool) → (same_extent e x && bytes_eq name other) ≡ b → false ≡ b
    by false is = refl
    by true is =
        let (same, names) = and_parts (same_extent e x) (bytes_eq name other) is in
        let numbers : Some scope ≡ Some n = sym (unit_number files are scope within) ∙ same_number files e x same ∙ here in
        let there : own_occurrence files n other ≡ None = ap₂ (own_occurrence files) (sym (some_same scope n numbers)) (sym (same_bytes name other names)) ∙ none in
        sym (ap is_some there) ∙ occurs

  some_own : (key : Key) → FineKey files name key → (i : ℕ) → own_occurrence files scope name ≡ Some i → nat_eq (number_of files (own e name)) (number_of files key) ≡ same_key (own e name) key
  some_own (unit x) fine i is = keys_apart files (own e name) (unit x) (has_own i is) fine
  some_own (own x other) fine i is = keys_apart files (own e name) (own x other) (has_own i is) fine
  some_own (block b) fine i is = keys_apart files (own e name) (block b) (has_own i is) fine
  some_own (intrinsic_function other) fine i is =
      beyond (number_of files (own e name)) (number_of files (intrinsic_function other)) (units_count files) (names_count files) i (unwrap_or (name_occurrence files other) 0)
      (sym (own_numbered files are scope within name) ∙ ap (λ o. units_count files + unwrap_or o 0) is) (own_less files scope name i is) refl

  own_told : (m : spec.Meaning) → FineMeaning files name m → steps.is_own_meaning files scope name (numbered files m) ≡ is_key (own e name) m
  own_told spec.nothing fine = refl
  own_told spec.unknown fine = refl
  own_told (spec.several first second rest) fine = refl
  own_told (spec.one key) fine = by (own_occurrence files scope name) refl where
    by : (o : Option ℕ) → own_occurrence files scope name ≡ o → (is_some o && nat_eq (number_of files (own e name)) (number_of files key)) ≡ same_key (own e name) key
    by None none = none_own key fine none
    by (Some i) is = some_own key fine i is

  -- nothing is
  pub letter_by : (declared : Declared) (b : Bool) (meaning : Meaning) (result : Bool) → meant files scope name declared ≡ declared_in files e name → b ≡ steps.is_nothing declared → b ≡ true
      → meaning ≡ numbered files (denotes files e name) → result ≡ steps.is_own_meaning files scope name meaning → result ≡ is_letter_typed files e name
  letter_by declared b meaning result told is holds denoted made =
      made ∙ ap (steps.is_own_meaning files scope name) denoted ∙ own_told (denotes files e name) (denotes_fine files name e)
      ∙ ap (λ c. c && is_key (own e name) (denotes files e name)) (sym holds ∙ is ∙ nothing_told files scope name declared ∙ ap spec.is_nothing told)
