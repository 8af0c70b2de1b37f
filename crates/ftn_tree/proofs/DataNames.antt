-- The names in common blocks, in EQUIVALENCE and in DATA.
use Rattle.std.proofs.Common.{refl, Bool, true, false, List, [], ◌∷◌, Option, Some, None}
use Rattle.ftn_tree.specs.declared.expr.Expr.{Expr}
use Rattle.ftn_tree.specs.declared.lexeme.Lexeme.TheVariants as lexeme
use Rattle.ftn_tree.specs.declared.mention.Role.{Role}
use Rattle.ftn_tree.specs.declared.mention.Role.TheVariants as role
use Rattle.ftn_tree.specs.declared.parts.BlockName.{BlockName}
use Rattle.ftn_tree.specs.declared.parts.BlockName.TheVariants as block
use Rattle.ftn_tree.specs.declared.parts.CommonGroup.{CommonGroup}
use Rattle.ftn_tree.specs.declared.parts.CommonMember.{CommonMember}
use Rattle.ftn_tree.specs.declared.parts.Designator.{Designator}
use Rattle.ftn_tree.specs.declared.parts.Repeat.{Repeat}
use Rattle.ftn_tree.specs.declared.parts.Repeat.TheVariants as repeats
use Rattle.ftn_tree.specs.declared.parts.Sign.{Sign}
use Rattle.ftn_tree.specs.declared.parts.Sign.TheVariants.{Plus, Minus}
use Rattle.ftn_tree.specs.declared.parts.DataConstant.{DataConstant}
use Rattle.ftn_tree.specs.declared.parts.DataConstant.TheVariants as constants
use Rattle.ftn_tree.specs.declared.parts.DataValue.{DataValue}
use Rattle.ftn_tree.specs.declared.parts.DataGroup.{DataGroup}
use Rattle.ftn_tree.specs.Expressions.{mentions_in_args}
use Rattle.ftn_tree.specs.Grammar.{expr}
use Rattle.ftn_tree.specs.PartMentions as spec
use Rattle.ftn_tree.specs.Phrases.{◌·◌, mark, maybe, in_parens, commas}
use Rattle.ftn_tree.specs.Roles.{mention, mention_with}
use Rattle.ftn_tree.specs.SpecificationForms as text
use Rattle.ftn_tree.proofs.Namings.{Names, never_named, none_named, both, mark_named, mark_at_named, name_named, provided_named, whether_named, maybe_none, ended, parens_named, commas_named, each_named}
use Rattle.ftn_tree.proofs.ExpressionNames.{number_named, quoted_named, truth_named, expr_named}
use Rattle.ftn_tree.proofs.PartNames.{own_bounds_named}

-- ---- common blocks

block_named : {letters : Bool} (found : BlockName) → Names letters (text.block_name found) (spec.in_block found)
block_named block.Unwritten = none_named
block_named (block.Blank slash true) = mark_at_named slash lexeme.Concat refl
block_named (block.Blank slash false) = both (mark_at_named slash lexeme.Divide refl) (mark_named lexeme.Divide refl)
block_named (block.Named slash number) = both (mark_at_named slash lexeme.Divide refl) (both (name_named (mention number role.Slash)) (mark_named lexeme.Divide refl))

member_named : {letters : Bool} (which : Role) (m : CommonMember) → Names letters (text.member m) (spec.in_member which m)
member_named which m = both (name_named (mention_with m.name which (spec.where_written role.Bounded m.bounds))) (own_bounds_named m.bounds)

group_named : {letters : Bool} (g : CommonGroup) → Names letters (text.group g) (spec.in_group g)
group_named g = both (whether_named g.comma (mark_named lexeme.Comma refl)) (both (block_named g.block) (commas_named (member_named (spec.member_role g.block)) g.members))

later_groups_named : {letters : Bool} (groups : List CommonGroup) → Names letters (text.later_groups groups) (spec.in_groups groups)
later_groups_named [] = none_named
later_groups_named (g ∷ rest) = both (provided_named _ (group_named g)) (later_groups_named rest)

pub groups_named : {letters : Bool} (groups : List CommonGroup) → Names letters (text.groups groups) (spec.in_groups groups)
groups_named [] = never_named _ (λ at tokens says. says)
groups_named (g ∷ rest) = both (provided_named _ (group_named g)) (later_groups_named rest)

-- ---- EQUIVALENCE

subscripts_named : {letters : Bool} (subscripts : Option (List Expr)) → Names letters (maybe (λ subscripts. in_parens (commas expr subscripts)) subscripts) (mentions_in_args subscripts)
subscripts_named None = none_named
subscripts_named (Some subscripts) = parens_named (commas_named expr_named subscripts)

designator_named : {letters : Bool} (wanted : Role) (d : Designator) → Names letters (text.designator d) (spec.in_designator wanted d)
designator_named wanted d = both (name_named (mention_with d.name wanted (spec.where_written role.Parenthesised d.subscripts))) (subscripts_named d.subscripts)

set_named : {letters : Bool} (designators : List Designator) → Names letters (text.equivalence_set designators) (spec.in_designators role.Tied designators)
set_named designators = provided_named _ (parens_named (commas_named (designator_named role.Tied) designators))

pub sets_named : {letters : Bool} (sets : List (List Designator)) → Names letters (commas text.equivalence_set sets) (spec.in_sets sets)
sets_named sets = commas_named set_named sets

-- ---- DATA

often_named : {letters : Bool} (often : Option Repeat) → Names letters (maybe (λ often. text.repeat often · mark lexeme.Times) often) (spec.in_repeat often)
often_named None = none_named
often_named (Some (repeats.Whole number value)) = both (number_named number value) (mark_named lexeme.Times refl)
often_named (Some (repeats.Named number)) = both (name_named (mention number role.Plain)) (mark_named lexeme.Times refl)

sign_named : {letters : Bool} (which : Sign) → Names letters (text.sign which) []
sign_named Plus = mark_named lexeme.Plus refl
sign_named Minus = mark_named lexeme.Minus refl

constant_named : {letters : Bool} (given : DataConstant) → Names letters (text.data_constant given) (spec.in_data_constant given)
constant_named (constants.Whole signed number value) = both (maybe_none sign_named signed) (number_named number value)
constant_named (constants.Truth number value) = truth_named number value
constant_named (constants.Quoted number value) = quoted_named number value
constant_named (constants.Named number) = name_named (mention number role.Plain)

data_value_named : {letters : Bool} (v : DataValue) → Names letters (text.data_value v) (spec.in_data_value v)
data_value_named v = both (often_named v.repeat) (constant_named v.constant)

data_group_named : {letters : Bool} (g : DataGroup) → Names letters (text.data_group g) (spec.in_data_group g)
data_group_named g =
    both (whether_named g.comma (mark_named lexeme.Comma refl)) (both (commas_named (designator_named role.Given) g.objects)
    (both (mark_named lexeme.Divide refl) (ended (commas_named data_value_named g.values) (mark_named lexeme.Divide refl))))

pub data_groups_named : {letters : Bool} (groups : List DataGroup) → Names letters (text.data_groups groups) (spec.in_data_groups groups)
data_groups_named [] = never_named _ (λ at tokens says. says)
data_groups_named (g ∷ rest) = both (provided_named _ (data_group_named g)) (each_named data_group_named rest)
