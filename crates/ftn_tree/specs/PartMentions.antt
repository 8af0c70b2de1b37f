-- The names in the parts of statements, in their order, each with what is said of it.
use Rattle.std.specs.Prelude.{ℕ, Bool, true, false, nat_le, if◌then◌else◌, List, [], ◌∷◌, ◌++◌, map, count_by, Option, Some, None}
use Rattle.std.specs.List.{flat_map, filter, list_any}
use Rattle.ftn_tree.specs.declared.expr.Expr.{Expr}
use Rattle.ftn_tree.specs.declared.mention.Mention.{Mention}
use Rattle.ftn_tree.specs.declared.mention.Role.{Role}
use Rattle.ftn_tree.specs.declared.mention.Role.TheVariants as role
use Rattle.ftn_tree.specs.declared.parts.TypeSpec.{TypeSpec}
use Rattle.ftn_tree.specs.declared.parts.TypeSpec.TheVariants as type
use Rattle.ftn_tree.specs.declared.parts.LengthSelector.{LengthSelector}
use Rattle.ftn_tree.specs.declared.parts.LengthSelector.TheVariants as selector
use Rattle.ftn_tree.specs.declared.parts.CharLength.{CharLength}
use Rattle.ftn_tree.specs.declared.parts.CharLength.TheVariants as star
use Rattle.ftn_tree.specs.declared.parts.LengthValue.{LengthValue}
use Rattle.ftn_tree.specs.declared.parts.LengthValue.TheVariants as value
use Rattle.ftn_tree.specs.declared.parts.BoundPair.{BoundPair}
use Rattle.ftn_tree.specs.declared.parts.AccessWord.{AccessWord}
use Rattle.ftn_tree.specs.declared.parts.AccessWord.TheVariants as access
use Rattle.ftn_tree.specs.declared.parts.ProcedureWord.{ProcedureWord}
use Rattle.ftn_tree.specs.declared.parts.ProcedureWord.TheVariants as procedure
use Rattle.ftn_tree.specs.declared.parts.IntentMode.{IntentMode}
use Rattle.ftn_tree.specs.declared.parts.IntentMode.TheVariants as mode
use Rattle.ftn_tree.specs.declared.parts.Attribute.{Attribute}
use Rattle.ftn_tree.specs.declared.parts.AttributeKind.{AttributeKind}
use Rattle.ftn_tree.specs.declared.parts.AttributeKind.TheVariants as attr
use Rattle.ftn_tree.specs.declared.parts.EntityDecl.{EntityDecl}
use Rattle.ftn_tree.specs.declared.parts.ArrayDecl.{ArrayDecl}
use Rattle.ftn_tree.specs.declared.parts.NamedConstant.{NamedConstant}
use Rattle.ftn_tree.specs.declared.parts.SaveItem.{SaveItem}
use Rattle.ftn_tree.specs.declared.parts.SaveItem.TheVariants as saved
use Rattle.ftn_tree.specs.declared.parts.Rename.{Rename}
use Rattle.ftn_tree.specs.declared.parts.OnlyItem.{OnlyItem}
use Rattle.ftn_tree.specs.declared.parts.BlockName.{BlockName}
use Rattle.ftn_tree.specs.declared.parts.BlockName.TheVariants as block
use Rattle.ftn_tree.specs.declared.parts.CommonGroup.{CommonGroup}
use Rattle.ftn_tree.specs.declared.parts.CommonMember.{CommonMember}
use Rattle.ftn_tree.specs.declared.parts.Designator.{Designator}
use Rattle.ftn_tree.specs.declared.parts.Repeat.{Repeat}
use Rattle.ftn_tree.specs.declared.parts.Repeat.TheVariants as repeats
use Rattle.ftn_tree.specs.declared.parts.DataConstant.{DataConstant}
use Rattle.ftn_tree.specs.declared.parts.DataConstant.TheVariants as constants
use Rattle.ftn_tree.specs.declared.parts.DataValue.{DataValue}
use Rattle.ftn_tree.specs.declared.parts.DataGroup.{DataGroup}
use Rattle.ftn_tree.specs.declared.parts.DoControl.{DoControl}
use Rattle.ftn_tree.specs.declared.parts.CaseRange.{CaseRange}
use Rattle.ftn_tree.specs.declared.parts.CaseRange.TheVariants as range
use Rattle.ftn_tree.specs.Roles.{same_role, mention, mention_with}
use Rattle.ftn_tree.specs.Expressions.{mentions_in, mentions_in_args, mentions_in_bound}

-- ---- names

-- a name that may be left out
abbrev pub maybe_named : Role → Option ℕ → List Mention
maybe_named which None = []
maybe_named which (Some token) = mention token which ∷ []

-- names that have one role
abbrev pub all_named : Role → List ℕ → List Mention
all_named wanted names = map (λ token. mention token wanted) names

abbrev pub maybe_all_named : Role → Option (List ℕ) → List Mention
maybe_all_named which None = []
maybe_all_named which (Some names) = all_named which names

-- that role, where something is written
abbrev pub where_written : {A : Type 0} → Role → Option A → List Role
where_written which None = []
where_written which (Some a) = which ∷ []

-- ---- bounds and lengths (5.1.1.5, 5.1.2.4)

abbrev pub in_all : List Expr → List Mention
in_all exprs = flat_map mentions_in exprs

abbrev pub in_bound : BoundPair → List Mention
in_bound pair = mentions_in_bound pair.low ++ mentions_in_bound pair.high

abbrev pub in_bounds : List BoundPair → List Mention
in_bounds pairs = flat_map in_bound pairs

abbrev pub in_own_bounds : Option (List BoundPair) → List Mention
in_own_bounds None = []
in_own_bounds (Some pairs) = in_bounds pairs

abbrev pub in_length : LengthValue → List Mention
in_length value.Assumed = []
in_length (value.Given e) = mentions_in e

abbrev pub in_star : CharLength → List Mention
in_star (star.Whole token number) = []
in_star (star.Paren length) = in_length length

abbrev pub in_own_length : Option CharLength → List Mention
in_own_length None = []
in_own_length (Some length) = in_star length

abbrev pub in_selector : LengthSelector → List Mention
in_selector (selector.Star length) = in_star length
in_selector (selector.Paren has_word length) = in_length length

abbrev pub in_type : TypeSpec → List Mention
in_type type.Integer = []
in_type type.Logical = []
in_type (type.Character None) = []
in_type (type.Character (Some length)) = in_selector length

-- ---- attributes (5.1.2)

abbrev pub access_role : AccessWord → Role
access_role access.Public = role.Public
access_role access.Private = role.Private

abbrev pub procedure_role : ProcedureWord → Role
procedure_role procedure.External = role.External
procedure_role procedure.Intrinsic = role.Intrinsic

abbrev pub intent_role : IntentMode → Role
intent_role mode.In = role.IntentIn
intent_role mode.Out = role.IntentOut
intent_role (mode.InOut joined) = role.IntentInOut

-- what an attribute says
abbrev pub attribute_role : AttributeKind → Role
attribute_role attr.Parameter = role.Parameter
attribute_role attr.Save = role.Saved
attribute_role (attr.Access word) = access_role word
attribute_role (attr.Procedure word) = procedure_role word
attribute_role (attr.Intent wanted) = intent_role wanted
attribute_role (attr.Dimension pairs) = role.DimensionAttribute

abbrev pub gives : Role → Attribute → Bool
gives wanted a = same_role (attribute_role a.kind) wanted

-- all that attributes can say
abbrev pub attribute_roles : List Role
attribute_roles =
    role.Parameter ∷ role.Saved ∷ role.Public ∷ role.Private ∷ role.External ∷ role.Intrinsic
    ∷ role.IntentIn ∷ role.IntentOut ∷ role.IntentInOut ∷ role.DimensionAttribute ∷ []

-- those of these roles that the attributes say, each once
abbrev pub given_of : List Role → List Attribute → List Role
given_of roles attributes = filter (λ wanted. list_any (gives wanted) attributes) roles

-- DIMENSION stands twice
abbrev pub is_twice : List Attribute → Bool
is_twice attributes = nat_le 2 (count_by (gives role.DimensionAttribute) attributes)

abbrev pub twice : List Attribute → List Role
twice attributes = if is_twice attributes then role.DimensionTwice ∷ [] else []

-- what the attributes say of each entity, in the order of that list, each once
abbrev pub given_by : List Attribute → List Role
given_by attributes = given_of attribute_roles attributes ++ twice attributes

abbrev pub in_attribute_kind : AttributeKind → List Mention
in_attribute_kind (attr.Dimension pairs) = in_bounds pairs
in_attribute_kind _ = []

abbrev pub in_attribute : Attribute → List Mention
in_attribute a = in_attribute_kind a.kind

abbrev pub in_attributes : List Attribute → List Mention
in_attributes attributes = flat_map in_attribute attributes

-- ---- entities (5.1, 5.2.5, 5.2.10, 5.5)

-- what an entity's own part of the declaration says of it
abbrev pub own_roles : EntityDecl → List Role
own_roles e = where_written role.Bounded e.bounds ++ where_written role.Valued e.value

abbrev pub in_entity : List Role → EntityDecl → List Mention
in_entity said e =
    mention_with e.name role.Typed (said ++ own_roles e) ∷ (in_own_bounds e.bounds ++ (in_own_length e.length ++ mentions_in_bound e.value))

abbrev pub in_entities : List Role → List EntityDecl → List Mention
in_entities said entities = flat_map (in_entity said) entities

abbrev pub in_array : ArrayDecl → List Mention
in_array a = mention a.name role.Dimensioned ∷ in_bounds a.bounds

abbrev pub in_arrays : List ArrayDecl → List Mention
in_arrays arrays = flat_map in_array arrays

abbrev pub in_constant : NamedConstant → List Mention
in_constant c = mention_with c.name role.Parameter (role.Valued ∷ []) ∷ mentions_in c.value

abbrev pub in_constants : List NamedConstant → List Mention
in_constants all = flat_map in_constant all

abbrev pub save_mention : SaveItem → Mention
save_mention (saved.Variable token) = mention token role.Saved
save_mention (saved.Block token) = mention_with token role.Slash (role.Saved ∷ [])

abbrev pub in_saved : List SaveItem → List Mention
in_saved items = map save_mention items

abbrev pub in_block : BlockName → List Mention
in_block block.Unwritten = []
in_block (block.Blank slash joined) = []
in_block (block.Named slash token) = mention token role.Slash ∷ []

abbrev pub member_role : BlockName → Role
member_role block.Unwritten = role.Member
member_role (block.Blank slash joined) = role.Member
member_role (block.Named slash token) = role.NamedMember

abbrev pub in_member : Role → CommonMember → List Mention
in_member which m = mention_with m.name which (where_written role.Bounded m.bounds) ∷ in_own_bounds m.bounds

abbrev pub in_members : Role → List CommonMember → List Mention
in_members which members = flat_map (in_member which) members

abbrev pub in_group : CommonGroup → List Mention
in_group g = in_block g.block ++ in_members (member_role g.block) g.members

abbrev pub in_groups : List CommonGroup → List Mention
in_groups groups = flat_map in_group groups

abbrev pub in_designator : Role → Designator → List Mention
in_designator wanted d = mention_with d.name wanted (where_written role.Parenthesised d.subscripts) ∷ mentions_in_args d.subscripts

abbrev pub in_designators : Role → List Designator → List Mention
in_designators wanted designators = flat_map (in_designator wanted) designators

abbrev pub in_sets : List (List Designator) → List Mention
in_sets sets = flat_map (in_designators role.Tied) sets

-- ---- DATA (5.2.9)

abbrev pub in_repeat : Option Repeat → List Mention
in_repeat None = []
in_repeat (Some (repeats.Whole token number)) = []
in_repeat (Some (repeats.Named token)) = mention token role.Plain ∷ []

abbrev pub in_data_constant : DataConstant → List Mention
in_data_constant (constants.Named token) = mention token role.Plain ∷ []
in_data_constant _ = []

abbrev pub in_data_value : DataValue → List Mention
in_data_value v = in_repeat v.repeat ++ in_data_constant v.constant

abbrev pub in_data_values : List DataValue → List Mention
in_data_values values = flat_map in_data_value values

abbrev pub in_data_group : DataGroup → List Mention
in_data_group g = in_designators role.Given g.objects ++ in_data_values g.values

abbrev pub in_data_groups : List DataGroup → List Mention
in_data_groups groups = flat_map in_data_group groups

-- ---- USE (11.3.2)

abbrev pub in_rename : Rename → List Mention
in_rename item = mention item.local role.Local ∷ mention item.source role.Source ∷ []

abbrev pub in_renames : List Rename → List Mention
in_renames items = flat_map in_rename items

abbrev pub in_only_item : OnlyItem → List Mention
in_only_item item = maybe_named role.Local item.local ++ mention item.source role.Source ∷ []

abbrev pub in_only_items : List OnlyItem → List Mention
in_only_items items = flat_map in_only_item items

-- ---- constructs (8.1)

abbrev pub in_control : Option DoControl → List Mention
in_control None = []
in_control (Some c) = mention c.variable role.Plain ∷ (mentions_in c.from ++ (mentions_in c.to ++ mentions_in_bound c.step))

abbrev pub in_range : CaseRange → List Mention
in_range (range.One e) = mentions_in e
in_range (range.From low) = mentions_in low
in_range (range.To high) = mentions_in high
in_range (range.Between low high) = mentions_in low ++ mentions_in high

abbrev pub in_ranges : List CaseRange → List Mention
in_ranges ranges = flat_map in_range ranges
