-- Types with their lengths, and ranks, of names by their numbers. It serves the proof alone.
use Rattle.std.specs.Prelude.{ℕ, ◌≡◌, ◌==◌, Bool, List, slice_get, Option, Some, None}
use Rattle.std.specs.Option.{option_eq, option_map}
use Rattle.ftn_base.specs.declared.entity.Length.{Length}
use Rattle.ftn_base.specs.declared.entity.Length.TheVariants.{Fixed}
use Rattle.ftn_tree.specs.declared.expr.Expr.{Expr}
use Rattle.ftn_tree.specs.declared.parts.CharLength.{CharLength}
use Rattle.ftn_tree.specs.declared.unit.FileTree.{FileTree}
use Rattle.ftn_tree.specs.Constants.{written_length}
use Rattle.ftn_tree.specs.Evaluations.{Evaluated}
use Rattle.ftn_tree.specs.KeyKinds.{Datum}
use Rattle.ftn_tree.specs.Sorts.{same_sort}
use Rattle.ftn_tree.specs.TypeFaults as spec
use Rattle.const_expr.specs.declared.naming.Naming.{Naming}
use Rattle.const_expr.specs.Namings.{evaluated_by}
use Rattle.const_value.specs.declared.project.Project.{Project}
use Rattle.const_value.specs.declared.project.Sort.{Sort}
use Rattle.const_value.specs.steps.Measuring.{declared_type}
use Rattle.const_value.specs.steps.Names.{all_data}
use Rattle.const_value.specs.steps.Projects.{rank_of, row_in, sort_of, sort_seen}
use Rattle.const_value.specs.steps.References.{file_of}
use Rattle.type_check.specs.declared.natures.Nature.{Nature}

abbrev pub nature_seen : Nature → spec.Nature
nature_seen n = record { sort = option_map sort_seen n.sort; length = n.length; rank = n.rank }

-- a length that is constant
abbrev pub fixed_in : Option Length → Option ℕ
fixed_in (Some (Fixed n)) = Some n
fixed_in _ = None

abbrev pub length_by : (Expr → Evaluated) → CharLength → Option ℕ
length_by evaluate length = fixed_in (written_length evaluate (Some length))

abbrev pub length_or : (Expr → Evaluated) → Option CharLength → Option ℕ
length_or evaluate length = fixed_in (written_length evaluate length)

abbrev pub same_sorts : Option Sort → Option Sort → Bool
same_sorts one other = option_eq same_sort (option_map sort_seen one) (option_map sort_seen other)

abbrev pub same_lengths : Option ℕ → Option ℕ → Bool
same_lengths one other = option_eq ◌==◌ one other

-- what expressions give in the file of a name
abbrev pub given_for : Project → List Naming → ℕ → Expr → Evaluated
given_for p namings name = evaluated_by (row_in p.rows.items (file_of p.names.items name)) namings

abbrev pub nature_by : Project → List Naming → ℕ → spec.Nature
nature_by p namings name = record {
  sort = sort_of p.bound.now p.names.items p.written.items name;
  length = spec.fixed_length (declared_type (given_for p namings name) p.bound.now p.names.items p.written.items name);
  rank = rank_of p.written.items name;
}

-- the datum of that number
abbrev pub IsDatum : List FileTree → ℕ → Datum → Type 0
IsDatum files name d = slice_get (all_data files) name ≡ Some d
