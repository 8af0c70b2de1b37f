-- Constants by their numbers, and by the numbers of their names; entities of keys. It serves the proof alone.
use Rattle.std.specs.Prelude.{◌≡◌, ℕ, true, if◌then◌else◌, List, [], map, slice_get, Option, Some, None}
use Rattle.std.specs.List.{filter_map}
use Rattle.std.specs.Option.{option_and_then}
use Rattle.ftn_tree.specs.declared.table.Entity.{Entity}
use Rattle.ftn_tree.specs.declared.table.Extent.{Extent}
use Rattle.ftn_tree.specs.declared.unit.FileTree.{FileTree}
use Rattle.ftn_tree.specs.Bindings.{bound_entities}
use Rattle.ftn_tree.specs.Circles.{constants, constant_number, tokens_for}
use Rattle.ftn_tree.specs.Constants.{Known, naming_of}
use Rattle.ftn_tree.specs.DataTypes.{is_plain_variable}
use Rattle.ftn_tree.specs.KeyKinds.{Datum, datum, datum_of, is_constant, key_at, kind_of}
use Rattle.ftn_tree.specs.Meanings.{Key, own}
use Rattle.ftn_tree.specs.Shapes.{full_type, type_of}
use Rattle.const_value.specs.steps.Gathered.{datum_number, key_number, name_number, own_entity}
use Rattle.const_value.specs.steps.Known.{naming_due}
use Rattle.const_value.specs.steps.Names.{all_data}

-- ---- constants

-- the constant has that number
pub record IsNumbered (files : List FileTree) (key : Key) (number : ℕ) : Type 0 where
  pub number_is : constant_number files key ≡ Some number
  pub there : slice_get (constants files) number ≡ Some key

-- and its name has that one
pub record IsNamed (files : List FileTree) (key : Key) (number name : ℕ) : Type 0 where
  pub constant : IsNumbered files key number
  pub datum : Datum
  pub key_is : key ≡ own datum.scope datum.name
  pub there : slice_get (all_data files) name ≡ Some datum
  pub name_is : datum_number files datum ≡ Some name
  pub kind : is_constant (kind_of files key) ≡ true

-- each constant has a number, and so has its name
pub record AreNumbered (files : List FileTree) : Type 0 where
  pub constant : (file token : ℕ) (key : Key) → key_at files file token ≡ Some key → is_constant (kind_of files key) ≡ true → (number name : ℕ) × IsNamed files key number name
  pub only : (file token : ℕ) (key : Key) (number : ℕ) → key_at files file token ≡ Some key → constant_number files key ≡ Some number → is_constant (kind_of files key) ≡ true
  pub named : (name : ℕ) (d : Datum) → slice_get (all_data files) name ≡ Some d → is_constant (kind_of files (own d.scope d.name)) ≡ true
      → (number : ℕ) × IsNamed files (own d.scope d.name) number name
  pub all : (number : ℕ) (key : Key) → slice_get (constants files) number ≡ Some key → (name : ℕ) × IsNamed files key number name

-- ---- references by the numbers of names

abbrev pub constant_name : List FileTree → Key → Option ℕ
constant_name files key = if is_constant (kind_of files key) then option_and_then (datum_number files) (datum_of files key) else None

abbrev pub name_at : List FileTree → ℕ → ℕ → Option ℕ
name_at files file token = option_and_then (constant_name files) (key_at files file token)

abbrev pub name_refers : List FileTree → Datum → List ℕ
name_refers files d = if is_constant (kind_of files (own d.scope d.name)) then filter_map (name_at files d.scope.file) (tokens_for files d) else []

abbrev pub name_uses : List FileTree → List (List ℕ)
name_uses files = map (name_refers files) (all_data files)

-- ---- entities

-- the entity of that number is in constant expressions what the key is
pub record IsEntity (files : List FileTree) (number : ℕ) (key : Key) : Type 0 where
  pub entity : Entity
  pub there : slice_get (bound_entities files) number ≡ Some entity
  pub naming : (known : Key → Known) → naming_due files known entity ≡ naming_of files known (Some key)
  pub name : (d : Datum) → datum_of files key ≡ Some d → is_constant (kind_of files key) ≡ true → name_number files entity ≡ datum_number files d

-- what names denote has an entity, and so has each constant
pub record AreEntities (files : List FileTree) : Type 0 where
  pub tokens : (file token : ℕ) (key : Key) → key_at files file token ≡ Some key → (number : ℕ) × (key_number files key ≡ Some number) × IsEntity files number key
  pub names : (name : ℕ) (d : Datum) (number : ℕ) → slice_get (all_data files) name ≡ Some d → own_entity files d ≡ Some number → IsEntity files number (own d.scope d.name)
  pub constants : (name : ℕ) (d : Datum) → slice_get (all_data files) name ≡ Some d → is_constant (kind_of files (own d.scope d.name)) ≡ true → (number : ℕ) × (own_entity files d ≡ Some number)

-- variables that names denote: their entities are such, and their names are numbered
pub record AreVariables (files : List FileTree) : Type 0 where
  pub kind : (file token : ℕ) (key : Key) (number : ℕ) (entity : Entity) → key_at files file token ≡ Some key → key_number files key ≡ Some number
      → slice_get (bound_entities files) number ≡ Some entity → is_plain_variable entity.kind ≡ is_plain_variable (kind_of files key)
  pub own_name : (file token : ℕ) (e : Extent) (name : List ℕ) (number : ℕ) (entity : Entity) → key_at files file token ≡ Some (own e name) → is_plain_variable (kind_of files (own e name)) ≡ true
      → key_number files (own e name) ≡ Some number → slice_get (bound_entities files) number ≡ Some entity
      → (n : ℕ) × (name_number files entity ≡ Some n) × (slice_get (all_data files) n ≡ Some (datum e name)) × (full_type files (own e name) ≡ type_of files (datum e name))
