-- Named constants, and those that are defined by themselves (Fortran 90, 5.1.2.1, 7.1.6.1): their values, lengths or bounds refer to constants that
-- lead back to them.
use Rattle.std.specs.Prelude.{ℕ, Bool, false, List, [], ◌∷◌, map, Option, Some, None}
use Rattle.std.specs.List.{filter, filter_map, flat_map, list_any, position, cons_option}
use Rattle.std.specs.Option.{option_map_or, option_and_then}
use Rattle.ftn_base.specs.ModuleUses.{used_by}
use Rattle.ftn_tree.specs.declared.expr.Expr.{Expr}
use Rattle.ftn_tree.specs.declared.mention.Mention.{Mention}
use Rattle.ftn_tree.specs.declared.parts.BoundPair.{BoundPair}
use Rattle.ftn_tree.specs.declared.parts.CharLength.{CharLength}
use Rattle.ftn_tree.specs.declared.parts.CharLength.TheVariants as star
use Rattle.ftn_tree.specs.declared.parts.LengthValue.TheVariants as lengths
use Rattle.ftn_tree.specs.declared.table.Extent.{Extent}
use Rattle.ftn_tree.specs.declared.unit.FileTree.{FileTree}
use Rattle.ftn_tree.specs.Extents.{scoping}
use Rattle.ftn_tree.specs.Sayings.{sayings, parameter}
use Rattle.ftn_tree.specs.DeclaredEntities.{names_after}
use Rattle.ftn_tree.specs.Meanings.{Key, own, same_key}
use Rattle.ftn_tree.specs.NameFaults.{leads_to}
use Rattle.ftn_tree.specs.Expressions.{mentions_in}
use Rattle.ftn_tree.specs.Declarations.{typing_of, written_bounds, written_value, length_of}
use Rattle.ftn_tree.specs.KeyKinds.{Datum, datum_of, key_at, kind_of, is_constant}

-- the named constants of a project
abbrev pub constants_in : List FileTree → Extent → List Key
constants_in files e =
    filter (λ key. is_constant (kind_of files key)) (map (own e) (names_after [] (filter parameter (sayings files e))))

abbrev pub constants : List FileTree → List Key
constants files = flat_map (constants_in files) (scoping files)

-- ---- the expressions that define a constant

abbrev pub expressions_of : BoundPair → List Expr
expressions_of pair = filter_map (λ bound. bound) (pair.low ∷ pair.high ∷ [])

abbrev pub expression_in : CharLength → Option Expr
expression_in (star.Paren (lengths.Given e)) = Some e
expression_in _ = None

-- the expressions of its value, its length and its bounds
abbrev pub expressions_for : List FileTree → Datum → List Expr
expressions_for files d =
    cons_option (written_value files d.scope d.name) (cons_option (option_and_then expression_in (option_and_then length_of (typing_of files d.scope d.name)))
    (flat_map expressions_of (written_bounds files d.scope d.name)))

abbrev pub tokens_for : List FileTree → Datum → List ℕ
tokens_for files d = map (λ (m : Mention). m.token) (flat_map mentions_in (expressions_for files d))

abbrev pub constant_number : List FileTree → Key → Option ℕ
constant_number files key = position (same_key key) (constants files)

abbrev pub constant_at : List FileTree → ℕ → ℕ → Option ℕ
constant_at files file token = option_and_then (constant_number files) (key_at files file token)

abbrev pub refers_of : List FileTree → Datum → List ℕ
refers_of files d = filter_map (constant_at files d.scope.file) (tokens_for files d)

-- the constants to which each constant refers
abbrev pub constant_uses : List FileTree → List (List ℕ)
constant_uses files = map (λ key. option_map_or (refers_of files) (datum_of files key) []) (constants files)

abbrev pub leads_back : List FileTree → ℕ → Option ℕ → Bool
leads_back files number None = false
leads_back files number (Some other) = leads_to (constant_uses files) other number

abbrev pub is_on_circle : List FileTree → ℕ → Bool
is_on_circle files number = list_any (λ other. leads_back files number (Some other)) (used_by (constant_uses files) number)

-- a constant that is defined by itself
abbrev pub is_circular : List FileTree → Key → Bool
is_circular files key = option_map_or (is_on_circle files) (constant_number files key) false
