-- What the code keeps of the names in DATA is what is defined, seen from a scoping unit. It serves the proof alone.
use Rattle.std.specs.Prelude.{◌≡◌, ℕ, true, List, []}
use Rattle.std.specs.Option.{option_and_then}
use Rattle.ftn_tree.specs.declared.table.Extent.{Extent}
use Rattle.ftn_tree.specs.declared.unit.FileTree.{FileTree}
use Rattle.ftn_tree.specs.ConstantFaults.{name_told}
use Rattle.ftn_tree.specs.DataTypes.{is_object, sort_named, value_named}
use Rattle.ftn_tree.specs.KeyKinds.{datum_of, key_at, sort_of}
use Rattle.ftn_tree.specs.Shapes.{shape_of}
use Rattle.name_types.specs.declared.names.Setting.{Setting}
use Rattle.type_check.specs.steps.DataBy.{object_by, scalar_by, shape_by, value_by}
use Rattle.name_types.specs.steps.Senses.{sort_by}

pub record IsDataRight (files : List FileTree) (e : Extent) (s : Setting) : Type 0 where
  pub file : s.file ≡ e.file
  pub object : (token : ℕ) → object_by s token ≡ is_object files e (key_at files e.file token)
  pub shape : (token : ℕ) → object_by s token ≡ true → shape_by s token ≡ option_and_then (shape_of files) (key_at files e.file token)
  pub sort : (token : ℕ) → sort_by s token ≡ option_and_then (sort_of files) (option_and_then (datum_of files) (key_at files e.file token))
  pub scalar : (token : ℕ) → scalar_by s token ≡ sort_named files e.file token
  -- of a name that may stand for a constant
  pub value : (token : ℕ) → name_told files e.file token ≡ [] → value_by s token ≡ value_named files e.file token
