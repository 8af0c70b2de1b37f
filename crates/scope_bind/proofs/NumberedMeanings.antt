-- Meanings with the numbers of entities.
use Rattle.std.proofs.Common.{◌≡◌, ℕ, ◌+◌, ◌<◌, ◌≤◌, Bool, true, false, cond, List, [], ◌∷◌, length, map, Option, Some, None, refl, sym, ap, ap₂, ◌∙◌, arith, if◌then◌else◌}
use Rattle.std.specs.Prelude.{slice_get}
use Rattle.std.specs.List.{filter, position}
use Rattle.std.specs.Option.{option_map, unwrap_or}
use Rattle.std.proofs.lemmas.Option.{slice_get-map}
use Rattle.ftn_base.specs.Accessible.{entities_of}
use Rattle.ftn_base.specs.Exports.{PairOf}
use Rattle.ftn_base.specs.declared.entity.EntityId.{EntityId}
use Rattle.ftn_tree.specs.declared.table.Extent.{Extent}
use Rattle.ftn_tree.specs.declared.unit.FileTree.{FileTree}
use Rattle.ftn_tree.specs.Extents.{scoping, is_body}
use Rattle.ftn_tree.specs.Meanings as spec
use Rattle.ftn_tree.specs.Projects.{AreTrees}
use Rattle.scope_bind.specs.declared.meaning.Meaning.{Meaning}
use Rattle.scope_bind.specs.steps.Globals.{unit_at}
use Rattle.scope_bind.specs.steps.Meaning.{numbered, or_meaning, used_meaning, all_numbered}
use Rattle.scope_bind.specs.steps.Numbering.{own_number, number, number_of}
use Rattle.scope_bind.proofs.Natural.{entities_told}
use Rattle.scope_bind.proofs.Units.{found, unit_number, unit_there}

abbrev pub entity : ℕ → EntityId
entity n = record { 0 = n }

pub own_numbered : (files : List FileTree) → AreTrees files → (scope : ℕ) → scope < length (scoping files) → (name : List ℕ) → own_number files scope name ≡ number_of files (spec.own (unit_at files scope) name)
own_numbered files are scope less name = ap (λ o. own_number files (unwrap_or o 0) name) (sym (unit_number files are scope less))

pub unit_numbered : (files : List FileTree) → AreTrees files → (scope : ℕ) → scope < length (scoping files) → scope ≡ number_of files (spec.unit (unit_at files scope))
unit_numbered files are scope less = ap (λ o. unwrap_or o 0) (sym (unit_number files are scope less))

pub or_numbered : (files : List FileTree) (first other : spec.Meaning) → or_meaning (numbered files first) (numbered files other) ≡ numbered files (spec.or_meaning first other)
or_numbered files spec.nothing other = refl
or_numbered files (spec.one key) other = refl
or_numbered files (spec.several first second rest) other = refl
or_numbered files spec.unknown other = refl

pub used_numbered : (files : List FileTree) (keys : List spec.Key) → used_meaning (map (number files) keys) ≡ numbered files (spec.used_meaning keys)
used_numbered files [] = refl
used_numbered files (one ∷ []) = refl
used_numbered files (first ∷ second ∷ rest) = refl

pub accessible_numbered : (files : List FileTree) (pairs : List (PairOf spec.Key)) (name : List ℕ)
    → used_meaning (entities_of (all_numbered files pairs) name) ≡ numbered files (spec.used_meaning (spec.keys_of name pairs))
accessible_numbered files pairs name = ap used_meaning (entities_told (number files) pairs name) ∙ used_numbered files (spec.keys_of name pairs)

-- what is of each scoping unit
pub of_unit : {A : Type 0} (f : Extent → A) (files : List FileTree) (n : ℕ) → n < length (scoping files) → slice_get (map f (scoping files)) n ≡ Some (f (unit_at files n))
of_unit f files n less = slice_get-map f (scoping files) n ∙ ap (option_map f) (unit_there files n less)

-- one scoping unit, given what the name denotes in the host
pub meaning_step : (files : List FileTree) (e : Extent) (name : List ℕ) (accessible : List (PairOf spec.Key)) (outer : spec.Meaning) (body : Bool) (declared used around letter : Meaning)
    → body ≡ is_body files e → declared ≡ numbered files (spec.declared_in files e name) → used ≡ used_meaning (entities_of (all_numbered files accessible) name)
    → around ≡ (if body then numbered files spec.nothing else numbered files outer) → letter ≡ numbered files (spec.letter_meaning files e name)
    → or_meaning declared (or_meaning used (or_meaning around letter)) ≡ numbered files (spec.meaning_in files accessible e name outer)
meaning_step files e name accessible outer body declared used around letter body_is declared_is used_is around_is letter_is =
    ap₂ or_meaning declared_is (ap₂ or_meaning (used_is ∙ accessible_numbered files accessible name) (ap₂ or_meaning (around_is ∙ by body ∙ ap (λ b. numbered files (if b then spec.nothing else outer)) body_is) letter_is))
    ∙ ap (λ m. or_meaning (numbered files (spec.declared_in files e name)) (or_meaning (numbered files (spec.used_meaning (spec.keys_of name accessible))) m))
    (or_numbered files (if is_body files e then spec.nothing else outer) (spec.letter_meaning files e name))
    ∙ ap (λ m. or_meaning (numbered files (spec.declared_in files e name)) m)
    (or_numbered files (spec.used_meaning (spec.keys_of name accessible)) (spec.or_meaning (if is_body files e then spec.nothing else outer) (spec.letter_meaning files e name)))
    ∙ or_numbered files (spec.declared_in files e name)
    (spec.or_meaning (spec.used_meaning (spec.keys_of name accessible)) (spec.or_meaning (if is_body files e then spec.nothing else outer) (spec.letter_meaning files e name)))
  where
    by : (b : Bool) → (if b then numbered files spec.nothing else numbered files outer) ≡ numbered files (if b then spec.nothing else outer)
    by true = refl
    by false = refl
