-- What names at tokens hold, and what the entities of names are, by their numbers. It serves the proof alone.
use Rattle.std.specs.Prelude.{◌≡◌, ◌⊎◌, ℕ, false, ◌||◌, List, [], slice_get, Option, Some, None}
use Rattle.std.specs.Option.{option_and_then, option_map}
use Rattle.ftn_tree.specs.declared.table.Entity.{Entity}
use Rattle.ftn_tree.specs.declared.table.EntityKind.{EntityKind}
use Rattle.ftn_tree.specs.declared.unit.FileTree.{FileTree}
use Rattle.ftn_tree.specs.Bindings.{bound_entities}
use Rattle.ftn_tree.specs.Declarations.{declarations_of}
use Rattle.ftn_tree.specs.DeclaredEntities.{is_said}
use Rattle.ftn_tree.specs.KeyKinds.{Datum, datum_of, is_constant, is_dummy, key_at, kind_of}
use Rattle.ftn_tree.specs.Meanings.{Key, own}
use Rattle.ftn_tree.specs.NameFaults.{said_of}
use Rattle.ftn_tree.specs.Sayings.{answer, dummy}
use Rattle.ftn_tree.specs.Shapes.{is_datum}
use Rattle.const_value.specs.steps.Gathered.{key_number, name_number, own_entity}
use Rattle.const_value.specs.steps.Names.{all_data}
use Rattle.const_value.specs.steps.Projects.{kind_in}
use Rattle.const_value.specs.steps.Shaping.{has_type_some, is_constant_some, is_dummy_some}

-- ---- what a name at a token holds

-- it is declared under the name of that number
pub record IsHeld (files : List FileTree) (entity : Entity) (d : Datum) : Type 0 where
  pub number : ℕ
  pub number_is : name_number files entity ≡ Some number
  pub there : slice_get (all_data files) number ≡ Some d

-- nothing is declared of it
pub record IsUnsaid (files : List FileTree) (key : Key) (entity : Entity) (d : Datum) : Type 0 where
  pub number_is : name_number files entity ≡ None
  pub nothing : declarations_of files d.scope d.name ≡ []
  pub no_dummy : is_dummy (kind_of files key) ≡ false

-- the key at a token, and its entity
pub record IsAt (files : List FileTree) (file token : ℕ) (key : Key) (number : ℕ) (entity : Entity) : Type 0 where
  pub key_is : key_at files file token ≡ Some key
  pub number_is : key_number files key ≡ Some number
  pub there : slice_get (bound_entities files) number ≡ Some entity

pub record AreHeld (files : List FileTree) : Type 0 where
  pub dummies : (file token : ℕ) (key : Key) (number : ℕ) (entity : Entity) → IsAt files file token key number entity → is_dummy entity.kind ≡ is_dummy (kind_of files key)
  pub names : (file token : ℕ) (key : Key) (number : ℕ) (entity : Entity) → IsAt files file token key number entity → (d : Datum) → datum_of files key ≡ Some d
      → IsHeld files entity d ⊎ IsUnsaid files key entity d
  pub none : (file token : ℕ) (key : Key) (number : ℕ) (entity : Entity) → IsAt files file token key number entity → datum_of files key ≡ None → name_number files entity ≡ None

-- ---- the entities of names

abbrev pub own_kind : List FileTree → Datum → Option EntityKind
own_kind files d = option_map kind_in (option_and_then (slice_get (bound_entities files)) (own_entity files d))

pub record HasKind (files : List FileTree) (d : Datum) : Type 0 where
  pub dummy_is : is_dummy_some (own_kind files d) ≡ is_said dummy (said_of files d.scope d.name)
  pub constant_is : is_constant_some (own_kind files d) ≡ is_constant (kind_of files (own d.scope d.name))
  pub typed : (is_said answer (said_of files d.scope d.name) || has_type_some (own_kind files d)) ≡ is_datum files d (said_of files d.scope d.name)

pub record HaveKinds (files : List FileTree) : Type 0 where
  pub all : (n : ℕ) (d : Datum) → slice_get (all_data files) n ≡ Some d → HasKind files d
