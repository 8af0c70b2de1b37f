-- How COMMON and EQUIVALENCE are read. It serves the proof of the code; what is promised stands in `ftn_tree`.
use Rattle.std.specs.Prelude.{ℕ, zero, suc, nat_le, Bool, true, false, ◌&&◌, not, if◌then◌else◌, List, [], ◌∷◌, ◌++◌, length, codes, Option, Some, None}
use Rattle.ftn_tree.specs.declared.expr.Expr.{Expr}
use Rattle.ftn_tree.specs.declared.form.Form.{Form}
use Rattle.ftn_tree.specs.declared.form.Form.TheVariants as form
use Rattle.ftn_tree.specs.declared.parts.BoundPair.{BoundPair}
use Rattle.ftn_tree.specs.declared.parts.BlockName.{BlockName}
use Rattle.ftn_tree.specs.declared.parts.BlockName.TheVariants.{Unwritten, Blank, Named}
use Rattle.ftn_tree.specs.declared.parts.CommonGroup.{CommonGroup}
use Rattle.ftn_tree.specs.declared.parts.CommonMember.{CommonMember}
use Rattle.ftn_tree.specs.declared.parts.Designator.{Designator}
use Rattle.ftn_tree.specs.declared.lexeme.Lexeme.{Lexeme}
use Rattle.ftn_tree.specs.declared.lexeme.Lexeme.TheVariants as lexeme
use Rattle.expr_parse.specs.steps.Input.{Input, Reader, ◌>>=◌, ◌>>◌, pure, refuse, eat, expect, expect_word, sees, peek, peek_second, is_done, name}
use Rattle.expr_parse.specs.steps.Combinators.{◌<$>◌, ◌⊗◌, option_if, separated}
use Rattle.expr_parse.specs.steps.Reading.{expression}
use Rattle.spec_parse.specs.steps.Choices.{choose, choose_by, checked, closed_by, enclosed}
use Rattle.spec_parse.specs.steps.Bounds.{maybe_bounds}

-- ---- COMMON

-- a token that begins the name of a block
abbrev pub is_slash_at : Option Lexeme → Bool
is_slash_at (Some lexeme.Divide) = true
is_slash_at (Some lexeme.Concat) = true
is_slash_at _ = false

abbrev pub no_name : ℕ → Option ℕ
no_name number = None

-- what follows the first slash
unfoldable pub rest_of_block : Reader (Option ℕ)
rest_of_block = choose_by lexeme.Divide (no_name <$> expect lexeme.Divide) (Some <$> closed_by lexeme.Divide name)

abbrev pub joined : ℕ → BlockName
joined slash = Blank slash true

abbrev pub block_of : ℕ × Option ℕ → BlockName
block_of (slash, None) = Blank slash false
block_of (slash, Some n) = Named slash n

-- a block between slashes
unfoldable pub block : Reader BlockName
block = choose_by lexeme.Concat (joined <$> expect lexeme.Concat) (block_of <$> expect lexeme.Divide ⊗ rest_of_block)

abbrev pub sees_slash : Input → Bool
sees_slash i = is_slash_at (peek i)

abbrev pub unwritten : Unit {0} → BlockName
unwritten none = Unwritten

-- the block of the first group
unfoldable pub first_block : Reader BlockName
first_block = choose sees_slash block (unwritten <$> pure tt)

abbrev pub member_of : ℕ × Option (List BoundPair) → CommonMember
member_of both = record { name = both.0; bounds = both.1 }

unfoldable pub member : Reader CommonMember
member = member_of <$> name ⊗ maybe_bounds

-- a comma that another member follows, and not another block
abbrev pub goes_on : Input → Bool
goes_on i = sees lexeme.Comma i && not (is_slash_at (peek_second i))

unfoldable pub members_from : ℕ → List CommonMember → Reader (List CommonMember)
members_from zero found = refuse
members_from (suc n) found = member >>= (λ next. λ i.
    if goes_on i then (eat lexeme.Comma >>= (λ _. members_from n (found ++ next ∷ []))) i else Some (found ++ next ∷ [], i))

abbrev pub members : Reader (List CommonMember)
members i = members_from (length i.rest) [] i

abbrev pub group_of : Bool → BlockName → List CommonMember → CommonGroup
group_of comma block members = record { comma = comma; block = block; members = members }

abbrev pub first_of : BlockName × List CommonMember → CommonGroup
first_of both = group_of false both.0 both.1

unfoldable pub first_group : Reader CommonGroup
first_group = first_of <$> first_block ⊗ members

abbrev pub later_of : (Bool × BlockName) × List CommonMember → CommonGroup
later_of parts = group_of parts.0.0 parts.0.1 parts.1

unfoldable pub later_group : Reader CommonGroup
later_group = later_of <$> (eat lexeme.Comma ⊗ block) ⊗ members

unfoldable pub groups_from : ℕ → List CommonGroup → Reader (List CommonGroup)
groups_from zero found i = Some (found, i)
groups_from (suc n) found i = if is_done i then Some (found, i) else (later_group >>= (λ next. groups_from n (found ++ next ∷ []))) i

-- all groups, to the end of the statement, of which that is the first one
abbrev pub all_groups : CommonGroup → Reader (List CommonGroup)
all_groups first i = groups_from (length i.rest) (first ∷ []) i

abbrev pub groups : Reader (List CommonGroup)
groups = first_group >>= all_groups

unfoldable pub common : Reader Form
common = form.Common <$> (expect_word (codes "common") >> groups)

-- ---- EQUIVALENCE

-- the subscripts, where a parenthesis comes next
unfoldable pub subscripts : Reader (Option (List Expr))
subscripts = option_if lexeme.Open (enclosed (separated expression))

abbrev pub designator_of : ℕ × Option (List Expr) → Designator
designator_of both = record { name = both.0; subscripts = both.1 }

unfoldable pub designator : Reader Designator
designator = designator_of <$> name ⊗ subscripts

abbrev pub are_two : List Designator → Bool
are_two found = nat_le 2 (length found)

unfoldable pub equivalence_set : Reader (List Designator)
equivalence_set = checked are_two (enclosed (separated designator))

unfoldable pub equivalence : Reader Form
equivalence = form.Equivalence <$> (expect_word (codes "equivalence") >> separated equivalence_set)
