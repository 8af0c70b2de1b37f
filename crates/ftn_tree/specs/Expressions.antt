-- Tokens of an expression (Fortran 90, 7.1), read off its tree from the operands up.
use Rattle.std.specs.Prelude.{ℕ, Bool, true, false, List, [], ◌∷◌, ◌++◌, Option, Some, None}
use Rattle.std.specs.List.{flat_map}
use Rattle.ftn_tree.specs.declared.expr.Expr.{Expr, out-Expr, fold-Expr}
use Rattle.ftn_tree.specs.declared.expr.Part.{Part, fold-Part}
use Rattle.ftn_tree.specs.declared.expr.Expr.TheOpen.{Expr-F, Part-F}
use Rattle.ftn_tree.specs.Layers.{ExprLayer}
use Rattle.ftn_tree.specs.declared.mention.Mention.{Mention}
use Rattle.ftn_tree.specs.declared.mention.Role.{Role}
use Rattle.ftn_tree.specs.declared.mention.Role.TheVariants.{Plain, Ranged, Parenthesised}
use Rattle.ftn_tree.specs.Roles.{mention}

-- the first token: of two operands that of the left one
abbrev pub first_step : Expr-F ℕ (Unit {0}) → ℕ
first_step (Expr-F.Whole token value) = token
first_step (Expr-F.Truth token value) = token
first_step (Expr-F.Quoted token value) = token
first_step (Expr-F.Paren token inner) = token
first_step (Expr-F.Unary op operator arg) = op
first_step (Expr-F.Binary op operator left right) = left
first_step (Expr-F.Refer name args part) = name

abbrev pub first_token : Expr → ℕ
first_token = fold-Expr ℕ (Unit {0}) first_step (λ part. tt)

-- a name with what follows it
abbrev pub is_reference_at : ExprLayer → Bool
is_reference_at (Expr-F.Refer name args part) = true
is_reference_at _ = false

abbrev pub is_reference : Expr → Bool
is_reference expr = is_reference_at (out-Expr expr)

-- a name by what follows it in parentheses
abbrev pub role_with : {A B : Type 0} → Option A → Option B → Role
role_with (Some args) part = Parenthesised
role_with None (Some part) = Ranged
role_with None None = Plain

abbrev pub none_or_these : Option (List Mention) → List Mention
none_or_these None = []
none_or_these (Some mentions) = mentions

abbrev pub none_or_all : Option (List (List Mention)) → List Mention
none_or_all None = []
none_or_all (Some lists) = flat_map (λ mentions. mentions) lists

-- all names, in their order: a name, then those of its arguments and of its substring range
abbrev pub mentions_step : Expr-F (List Mention) (List Mention) → List Mention
mentions_step (Expr-F.Whole token value) = []
mentions_step (Expr-F.Truth token value) = []
mentions_step (Expr-F.Quoted token value) = []
mentions_step (Expr-F.Paren token inner) = inner
mentions_step (Expr-F.Unary op operator arg) = arg
mentions_step (Expr-F.Binary op operator left right) = left ++ right
mentions_step (Expr-F.Refer name args part) = mention name (role_with args part) ∷ (none_or_all args ++ none_or_these part)

abbrev pub part_mentions_step : Part-F (List Mention) (List Mention) → List Mention
part_mentions_step part = none_or_these part.low ++ none_or_these part.high

abbrev pub mentions_in : Expr → List Mention
mentions_in = fold-Expr (List Mention) (List Mention) mentions_step part_mentions_step

-- the same of what may follow a name
abbrev pub mentions_in_args : Option (List Expr) → List Mention
mentions_in_args None = []
mentions_in_args (Some args) = flat_map mentions_in args

abbrev pub mentions_in_bound : Option Expr → List Mention
mentions_in_bound None = []
mentions_in_bound (Some bound) = mentions_in bound

abbrev pub mentions_in_part : Option Part → List Mention
mentions_in_part None = []
mentions_in_part (Some part) = fold-Part (List Mention) (List Mention) mentions_step part_mentions_step part
