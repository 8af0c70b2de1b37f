-- What is told of the shapes of names, by what expressions give and by the numbers of names. It serves the proof alone.
use Rattle.std.specs.Prelude.{ℕ, nat_lt, length, ◌==◌, Bool, true, false, not, ◌&&◌, ◌||◌, if◌then◌else◌, List, [], ◌++◌, slice_get, Option, Some, None}
use Rattle.std.specs.List.{flat_map, list_any}
use Rattle.std.specs.Option.{is_none, option_map_or}
use Rattle.ftn_base.specs.declared.fault.FaultKind.TheVariants.{NotConstant, BadShape}
use Rattle.ftn_tree.specs.declared.expr.Expr.{Expr}
use Rattle.ftn_tree.specs.declared.parts.BoundPair.{BoundPair}
use Rattle.ftn_tree.specs.declared.table.Entity.{Entity}
use Rattle.ftn_tree.specs.declared.table.EntityKind.{EntityKind}
use Rattle.ftn_tree.specs.Circles.{expressions_of}
use Rattle.ftn_tree.specs.DeclarationFaults.{Finding, found}
use Rattle.ftn_tree.specs.DeclaredEntities.{has_type}
use Rattle.ftn_tree.specs.Evaluations.{Evaluated}
use Rattle.ftn_tree.specs.GlobalNames.{place}
use Rattle.ftn_tree.specs.KeyKinds.{is_constant, is_dummy}
use Rattle.ftn_tree.specs.Shapes.{all_told, breaches_told, has_strays, is_none_long}
use Rattle.ftn_tree.specs.Sorts as sorts
use Rattle.ftn_tree.specs.Trees.{Tree, refer, no_args, no_section, tree_of}
use Rattle.const_expr.specs.Namings.{evaluated_by}
use Rattle.const_expr.specs.Namings as const
use Rattle.const_expr.specs.declared.naming.Naming.{Naming}
use Rattle.const_value.specs.declared.measured.Measured.{Measured}
use Rattle.const_value.specs.declared.name_numbers.Owned.{Owned}
use Rattle.const_value.specs.declared.project.Project.{Project}
use Rattle.const_value.specs.steps.Findings.{told_if}
use Rattle.const_value.specs.steps.Lengths.{LengthAs, Star, length_as}
use Rattle.const_value.specs.steps.Projects.{entity_in, kind_of, name_of, rank_of, row_in, sort_of, written_at}
use Rattle.const_value.specs.steps.Said.{begins}
use Rattle.const_value.specs.steps.Written.{WrittenAs, pairs}

-- ---- bounds

-- the name alone of which an expression consists
abbrev pub plain_name : Tree → Option ℕ
plain_name (refer name no_args no_section) = Some name
plain_name _ = None

abbrev pub is_scalar_whole : Project → ℕ → Bool
is_scalar_whole p name = (rank_of p.written.items name == 0) && sorts.is_sort sorts.Whole (sort_of p.bound.now p.names.items p.written.items name)

abbrev pub is_kept : Project → ℕ → Bool
is_kept p name = nat_lt name (length p.names.items) && nat_lt name (length p.written.items)

abbrev pub is_dummy_of : Project → ℕ → Entity → Bool
is_dummy_of p number entity = is_dummy entity.kind && option_map_or (λ name. if is_kept p name then is_scalar_whole p name else false) (name_of p.links number) false

-- a scalar integer dummy argument stands at the token
abbrev pub is_dummy_at : Project → ℕ → ℕ → Bool
is_dummy_at p file token =
    option_map_or (λ number. option_map_or (is_dummy_of p number) (entity_in p.bound.now number) false) (const.entity_in (row_in p.rows.items file) token) false

abbrev pub is_dummy_bound : Project → ℕ → Expr → Bool
is_dummy_bound p file bound = option_map_or (is_dummy_at p file) (plain_name (tree_of bound)) false

abbrev pub bound_told : Project → ℕ → (Expr → Evaluated) → Bool → Expr → List Finding
bound_told p file evaluate of_dummy bound =
    if of_dummy then (if is_dummy_bound p file bound then [] else all_told file (evaluate bound)) else breaches_told file (evaluate bound)

abbrev pub pair_told : Project → ℕ → (Expr → Evaluated) → Bool → BoundPair → List Finding
pair_told p file evaluate of_dummy pair = flat_map (bound_told p file evaluate of_dummy) (expressions_of pair)

abbrev pub is_loose_bound : (Expr → Evaluated) → Expr → Bool
is_loose_bound evaluate bound = has_strays (evaluate bound)

abbrev pub is_loose : (Expr → Evaluated) → BoundPair → Bool
is_loose evaluate pair = is_none pair.high || list_any (is_loose_bound evaluate) (expressions_of pair)

-- ---- names

abbrev pub is_dummy_some : Option EntityKind → Bool
is_dummy_some kind = option_map_or is_dummy kind false

abbrev pub is_constant_some : Option EntityKind → Bool
is_constant_some kind = option_map_or is_constant kind false

abbrev pub has_type_some : Option EntityKind → Bool
has_type_some kind = option_map_or has_type kind false

abbrev pub is_star : LengthAs → Bool
is_star Star = true
is_star _ = false

abbrev pub has_star : WrittenAs → Bool
has_star w = option_map_or (λ t. is_star (length_as t)) w.typing false

-- bounds that aren't constant, no element, no unit
abbrev pub is_bad : (Expr → Evaluated) → List BoundPair → Measured → Bool → Bool
is_bad evaluate bounds m of_constant = (list_any (is_loose evaluate) bounds || m.empty) || (not of_constant && is_none_long m.ty)

abbrev pub datum_told : Project → ℕ → (Expr → Evaluated) → WrittenAs → Measured → Bool → Bool → ℕ → List Finding
datum_told p file evaluate w m of_dummy of_constant token =
    flat_map (bound_told p file evaluate of_dummy) (flat_map expressions_of (pairs w))
    ++ told_if (not of_dummy && is_bad evaluate (pairs w) m of_constant) (found BadShape (place file token))

abbrev pub star_told : ℕ → WrittenAs → Bool → Bool → ℕ → List Finding
star_told file w of_dummy of_constant token = told_if (has_star w && not of_dummy && not of_constant) (found BadShape (place file token))

abbrev pub valueless : ℕ → WrittenAs → Bool → ℕ → List Finding
valueless file w of_constant token = told_if (of_constant && is_none w.value) (found NotConstant (place file token))

-- of one name, by what is written for it and what is known of it
abbrev pub typed_told : Project → ℕ → (Expr → Evaluated) → Owned → WrittenAs → Measured → Option EntityKind → List Finding
typed_told p file evaluate o w m kind =
    if o.said.answer || has_type_some kind then datum_told p file evaluate w m (is_dummy_some kind) (is_constant_some kind) (begins o.said) else []

abbrev pub owned_told : Project → ℕ → (Expr → Evaluated) → Owned → WrittenAs → Measured → Option EntityKind → List Finding
owned_told p file evaluate o w m kind =
    (typed_told p file evaluate o w m kind ++ star_told file w (is_dummy_some kind) (is_constant_some kind) (begins o.said))
    ++ valueless file w (is_constant_some kind) (begins o.said)

-- what an expression of that file gives
abbrev pub given_in : Project → List Naming → ℕ → Expr → Evaluated
given_in p namings file e = evaluated_by (row_in p.rows.items file) namings e

abbrev pub told_with : Project → List Naming → ℕ → Owned → Measured → List Finding
told_with p namings name o m = owned_told p o.file (given_in p namings o.file) o (written_at p.written.items name) m (kind_of p.bound.now p.links name)

abbrev pub name_told : Project → List Measured → List Naming → ℕ → List Finding
name_told p known namings name = option_map_or (λ o. option_map_or (told_with p namings name o) (slice_get known name) []) (slice_get p.names.items name) []
