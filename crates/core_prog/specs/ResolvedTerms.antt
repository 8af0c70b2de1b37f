-- Expressions with each name replaced by what it denotes (Fortran 90, 6, 7.1.1, 12.4).
use Rattle.std.specs.Prelude.{ℕ, Bool, true, false, not, ◌&&◌, ◌||◌, nat_lt, if◌then◌else◌, List, [], ◌∷◌, map, codes, is_some, Option, Some, None}
use Rattle.std.specs.List.{find}
use Rattle.std.specs.Option.{option_map, option_map_or, unwrap_or}
use Rattle.std.specs.Str.{bytes_eq}
use Rattle.ftn_tree.specs.declared.expr.Expr.{Expr}
use Rattle.ftn_tree.specs.declared.table.Entity.{Entity}
use Rattle.ftn_tree.specs.declared.table.EntityKind.{EntityKind}
use Rattle.ftn_tree.specs.declared.table.EntityKind.TheVariants as entities
use Rattle.ftn_tree.specs.declared.value.Value.TheVariants as value
use Rattle.ftn_tree.specs.Trees.{Tree, whole, truth, quoted, refer, Args, no_args, args, Trees, End, no_end, end, tree_of}
use Rattle.ftn_tree.specs.Trees as tree
use Rattle.ftn_tree.specs.Scopes.{name_at}
use Rattle.ftn_tree.specs.Intrinsics.{function_named}
use Rattle.core_prog.specs.Terms.{Term, literal, paren, unary, binary, variable, constant, intrinsic, call, Terms, none, more, Designator, designator, Named, named, Section, no_section, section, Bound, no_bound, bound, Passed, no_passed, by_value, alone, to_end, constants}
use Rattle.core_prog.specs.Naming.{Known, site, entity_at, denoted, meant_by, rank_of, is_result_in, variable_number, procedure_number, scope_opened, dummies_in, bounds_of, constant_value}

-- an expression: a designator of a variable or of a named constant, or another one
pub data Found : Type 0 where
  plain : Term → Found
  of_variable : Designator → Found
  of_constant : Named → Found

abbrev pub as_term : Found → Term
as_term (plain term) = term
as_term (of_variable of) = variable of
as_term (of_constant of) = constant of

abbrev pub as_terms : List Found → Terms
as_terms [] = none
as_terms (first ∷ rest) = more (as_term first) (as_terms rest)

-- 12.4.1: only a variable goes by reference; the flag is whether the dummy argument is an array
abbrev pub as_argument : Found → Bool → Passed → Passed
as_argument (plain term) array rest = by_value term rest
as_argument (of_variable of) true rest = to_end of rest
as_argument (of_variable of) false rest = alone of rest
as_argument (of_constant of) true rest = constants of rest
as_argument (of_constant of) false rest = by_value (constant of) rest

abbrev pub as_passed : List Found → List Bool → Passed
as_passed (first ∷ rest) (array ∷ arrays) = as_argument first array (as_passed rest arrays)
as_passed founds arrays = no_passed

-- what a reference is: of a variable, a constant, an intrinsic function, a function of the project
pub data Reference : Type 0 where
  a_variable : Reference
  a_constant : Reference
  an_intrinsic : Reference
  a_call : Reference

-- what stands in a place that no lawful program has
abbrev pub nowhere : Term
nowhere = literal (value.Chars [])

module _ (known : Known) (file scope : ℕ) where
  -- 12.5.2.2: inside a function without RESULT its name without parentheses is its result, and with them an element where it is an array
  abbrev pub of_function : Entity → Bool → ℕ → Reference
  of_function e parenthesised rank = if is_result_in known scope e && (not parenthesised || nat_lt 0 rank) then a_variable else a_call

  abbrev pub of_entity : Entity → EntityKind → Bool → ℕ → Reference
  of_entity e entities.Constant parenthesised rank = a_constant
  of_entity e entities.Intrinsic parenthesised rank = an_intrinsic
  of_entity e entities.Generic parenthesised rank = a_call
  of_entity e entities.Subroutine parenthesised rank = a_call
  of_entity e entities.Function parenthesised rank = of_function e parenthesised rank
  of_entity e other parenthesised rank = a_variable

  -- the dummy arguments of a procedure that are arrays
  abbrev pub arrays_of : ℕ → List Bool
  arrays_of number = map (λ dummy. nat_lt 0 (rank_of known dummy)) (dummies_in known (scope_opened known number))

  abbrev pub variable_at : ℕ → ℕ → Terms → Section → Found
  variable_at token number subscripts range =
      option_map_or (λ v. of_variable (designator (site file token) v subscripts range)) (variable_number known number) (plain nowhere)

  -- a named constant is its value with its bounds
  abbrev pub constant_at : ℕ → ℕ → Terms → Section → Found
  constant_at token number subscripts range =
      option_map_or (λ v. of_constant (named (site file token) v (bounds_of known number) subscripts range)) (constant_value known number) (plain nowhere)

  abbrev pub intrinsic_at : ℕ → List ℕ → Terms → Found
  intrinsic_at token name given = plain (option_map_or (λ f. intrinsic (site file token) f given) (function_named name) nowhere)

  abbrev pub call_at : ℕ → List Found → Found
  call_at token given =
      plain (option_map_or (λ number. option_map_or (λ p. call (site file token) p (as_passed given (arrays_of number))) (procedure_number known number) nowhere) (meant_by known file token) nowhere)

  abbrev pub of_reference : Reference → ℕ → ℕ → List Found → Section → Found
  of_reference a_variable token number given range = variable_at token number (as_terms given) range
  of_reference a_constant token number given range = constant_at token number (as_terms given) range
  of_reference an_intrinsic token number given range = intrinsic_at token (name_at known.files file token) (as_terms given)
  of_reference a_call token number given range = call_at token given

  -- a name with what follows it
  abbrev pub reference_at : ℕ → Option (List Found) → Section → Found
  reference_at token given range =
      option_map_or (λ number. option_map_or (λ (e : Entity).
      of_reference (of_entity e e.kind (is_some given) (rank_of known number)) token number (unwrap_or given []) range) (entity_at known number) (plain nowhere)) (denoted known file token) (plain nowhere)

  abbrev mutual
    pub found_in : Tree → Found
    found_in (whole token z) = plain (literal (value.Whole z))
    found_in (truth token holds) = plain (literal (value.Truth holds))
    found_in (quoted token text) = plain (literal (value.Chars text))
    found_in (tree.paren token inner) = plain (paren (as_term (found_in inner)))
    found_in (tree.unary token operator arg) = plain (unary (site file token) operator (as_term (found_in arg)))
    found_in (tree.binary token operator left right) = plain (binary (site file token) operator (as_term (found_in left)) (as_term (found_in right)))
    found_in (refer token given part) = reference_at token (given_in given) (range_in part)

    pub given_in : Args → Option (List Found)
    given_in no_args = None
    given_in (args trees) = Some (all_in trees)

    pub all_in : Trees → List Found
    all_in tree.none = []
    all_in (tree.more first rest) = found_in first ∷ all_in rest

    pub range_in : tree.Section → Section
    range_in tree.no_section = no_section
    range_in (tree.section low high) = section (bound_in low) (bound_in high)

    pub bound_in : End → Bound
    bound_in no_end = no_bound
    bound_in (end one) = bound (as_term (found_in one))

  abbrev pub resolved_expr : Expr → Found
  resolved_expr e = found_in (tree_of e)

  abbrev pub resolved_term : Expr → Term
  resolved_term e = as_term (resolved_expr e)
