-- Which procedure each reference calls: of a generic name the one specific procedure that is meant (Fortran 90, 12.4, 14.1.2.3).
use Rattle.std.specs.Prelude.{ℕ, Bool, List, [], ◌∷◌, ◌++◌, map, Option, Some, None}
use Rattle.std.specs.List.{flat_map}
use Rattle.std.specs.Option.{is_some, option_map_or, unwrap_or}
use Rattle.ftn_tree.specs.declared.expr.Expr.{Expr}
use Rattle.ftn_tree.specs.declared.form.Form.{out-Form}
use Rattle.ftn_tree.specs.declared.form.Form.TheOpen.{Form-F}
use Rattle.ftn_tree.specs.declared.table.Extent.{Extent}
use Rattle.ftn_tree.specs.declared.unit.FileTree.{FileTree}
use Rattle.ftn_tree.specs.Layers.{FormLayer}
use Rattle.ftn_tree.specs.Extents.{scoping, layer_at}
use Rattle.ftn_tree.specs.Scopes.{own_statements}
use Rattle.ftn_tree.specs.GlobalNames.{Place, place}
use Rattle.ftn_tree.specs.Trees.{Tree, whole, truth, quoted, paren, unary, binary, refer, Args, no_args, args, Trees, none, more, Section, no_section, section, End, no_end, end, tree_of}
use Rattle.ftn_tree.specs.Wants.{Placed, expressions_at}
use Rattle.ftn_tree.specs.KeyKinds.{key_at}
use Rattle.ftn_tree.specs.Procedures.{Signature, Sense, Itself, Procedure, Generic, sense_at, called_sense}
use Rattle.ftn_tree.specs.ExpressionTypes.{Typed, typed, typed_args, argument, meant}

-- the name that calls, and the procedure
abbrev pub Call : Type 0
Call = ℕ × Extent

abbrev pub call_if : ℕ → Option Signature → List Call
call_if name None = []
call_if name (Some signature) = (name, signature.procedure) ∷ []

abbrev pub call_by : ℕ → Sense → List Typed → List Call
call_by name (Itself signature) actuals = call_if name (Some signature)
call_by name (Procedure signature) actuals = call_if name (Some signature)
call_by name (Generic specifics) actuals = call_if name (meant specifics actuals)
call_by name _ actuals = []

-- ---- in expressions (12.4.2)

module _ (sense : ℕ → Bool → Sense) where
  abbrev mutual
    pub calls : Tree → List Call
    calls (whole token z) = []
    calls (truth token t) = []
    calls (quoted token text) = []
    calls (paren token inner) = calls inner
    calls (unary op operator arg) = calls arg
    calls (binary op operator left right) = calls left ++ calls right
    calls (refer name given part) =
        call_by name (sense name (is_some (typed_args sense given))) (map argument (unwrap_or (typed_args sense given) [])) ++ (calls_args given ++ calls_section part)

    pub calls_args : Args → List Call
    calls_args no_args = []
    calls_args (args given) = calls_all given

    pub calls_all : Trees → List Call
    calls_all none = []
    calls_all (more tree rest) = calls tree ++ calls_all rest

    pub calls_section : Section → List Call
    calls_section no_section = []
    calls_section (section low high) = calls_end low ++ calls_end high

    pub calls_end : End → List Call
    calls_end no_end = []
    calls_end (end tree) = calls tree

-- ---- in statements (12.4.3)

abbrev pub calls_in : List FileTree → Extent → Expr → List Call
calls_in files e expr = calls (sense_at files e) (tree_of expr)

abbrev pub arguments_in : List FileTree → Extent → Option (List Expr) → List Typed
arguments_in files e given = map (λ arg. argument (typed (sense_at files e) (tree_of arg))) (unwrap_or given [])

abbrev pub action_calls : List FileTree → Extent → FormLayer → List Call
action_calls files e (Form-F.Call name given) = call_by name (called_sense files (key_at files e.file name)) (arguments_in files e given)
action_calls files e _ = []

abbrev pub whole_calls : List FileTree → Extent → FormLayer → List Call
whole_calls files e (Form-F.If condition at inner) = action_calls files e (out-Form inner)
whole_calls files e other = action_calls files e other

abbrev pub form_calls : List FileTree → Extent → FormLayer → List Call
form_calls files e form = whole_calls files e form ++ flat_map (λ (p : Placed). calls_in files e p.expr) (expressions_at form)

abbrev pub statement_calls : List FileTree → Extent → ℕ → List Call
statement_calls files e statement = option_map_or (form_calls files e) (layer_at files e.file statement) []

-- a name where it stands, its scoping unit, and the procedure that it calls
pub record Called : Type 0 where
  pub at : Place
  pub scope : Extent
  pub procedure : Extent

abbrev pub called_from : Extent → Call → Called
called_from e (name, procedure) = record { at = place e.file name; scope = e; procedure = procedure }

abbrev pub scope_calls : List FileTree → Extent → List Called
scope_calls files e = map (called_from e) (flat_map (statement_calls files e) (own_statements files e))

-- all references of procedures that the project defines
abbrev pub calls_of : List FileTree → List Called
calls_of files = flat_map (scope_calls files) (scoping files)
