-- A project with its tables and circles, by what its files define. It serves the proof alone.
use Rattle.std.specs.Prelude.{◌≡◌, ℕ, List, length, slice_get, Some}
use Rattle.std.specs.Option.{option_map}
use Rattle.ftn_tree.specs.declared.expr.Expr.{Expr}
use Rattle.ftn_tree.specs.declared.table.Entity.{Entity}
use Rattle.ftn_tree.specs.declared.unit.FileTree.{FileTree}
use Rattle.ftn_tree.specs.Bindings.{bound_entities}
use Rattle.ftn_tree.specs.Evaluations.{Evaluated}
use Rattle.ftn_tree.specs.KeyKinds as kinds
use Rattle.ftn_tree.specs.KeyKinds.{Datum, key_at, kind_of}
use Rattle.ftn_tree.specs.Meanings.{own}
use Rattle.const_expr.specs.Namings.{entity_in}
use Rattle.const_value.specs.declared.circles.Circles.{Circles}
use Rattle.const_value.specs.declared.project.Project.{Project}
use Rattle.const_value.specs.steps.Evaluating.{declared_by, pairs_by, value_by}
use Rattle.const_value.specs.steps.Gathered.{entity_index, name_number, own_entity}
use Rattle.const_value.specs.steps.Measuring as steps
use Rattle.const_value.specs.steps.Names.{all_data}
use Rattle.const_value.specs.steps.Numbered.{name_uses}
use Rattle.const_value.specs.steps.Projects.{entity_of, name_of, rank_of, row_in, sort_of, written_at}
use Rattle.const_value.specs.steps.References.{AreCircles, all_uses, file_of, is_constant}
use Rattle.const_value.specs.steps.Written.{pairs}

-- one name
pub record IsTied (files : List FileTree) (p : Project) (name : ℕ) (d : Datum) : Type 0 where
  pub file : file_of p.names.items name ≡ d.scope.file
  pub constant : is_constant p name ≡ kinds.is_constant (kind_of files (own d.scope d.name))
  pub rank : rank_of p.written.items name ≡ kinds.rank_of files d
  pub entity : entity_of p.links name ≡ own_entity files d
  pub declared : (evaluate : Expr → Evaluated) → steps.declared_type evaluate p.bound.now p.names.items p.written.items name ≡ declared_by evaluate files d
  pub bounds : (evaluate : Expr → Evaluated) → steps.pairs_of evaluate (pairs (written_at p.written.items name)) ≡ pairs_by evaluate files d
  pub value : (evaluate : Expr → Evaluated)
      → steps.value_of evaluate (sort_of p.bound.now p.names.items p.written.items name) (declared_by evaluate files d) (written_at p.written.items name).value ≡ value_by evaluate files d

pub record AreTied (files : List FileTree) (p : Project) (c : Circles) : Type 0 where
  pub names : length p.names.items ≡ length (all_data files)
  pub entities : p.bound.now.tables.entities ≡ bound_entities files
  pub tokens : (file token : ℕ) → entity_in (row_in p.rows.items file) token ≡ option_map (entity_index files) (key_at files file token)
  pub name_of : (number : ℕ) (entity : Entity) → slice_get (bound_entities files) number ≡ Some entity → name_of p.links number ≡ name_number files entity
  pub uses : all_uses p ≡ name_uses files
  pub circles : AreCircles p c
  pub each : (name : ℕ) (d : Datum) → slice_get (all_data files) name ≡ Some d → IsTied files p name d
