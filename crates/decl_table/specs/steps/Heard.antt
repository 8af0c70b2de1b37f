-- What sayings of a name say of what it declares: `kind_said` by what is asked of them.
use Rattle.std.specs.Prelude.{ℕ, Bool, false, not, ◌&&◌, ◌||◌, if◌then◌else◌, List, Option, Some, None, is_some}
use Rattle.std.specs.List.{find, list_any}
use Rattle.std.specs.Option.{option_map, unwrap_or}
use Rattle.std.specs.Borrow.{Bor}
use Rattle.std.specs.Str.{bytes_eq}
use Rattle.indexmap.specs.IndexMap.{IndexMap, get_by}
use Rattle.ftn_tree.specs.declared.mention.Role.{Role}
use Rattle.ftn_tree.specs.declared.mention.Role.TheVariants as role
use Rattle.ftn_tree.specs.declared.table.EntityKind.{EntityKind}
use Rattle.ftn_tree.specs.declared.table.EntityKind.TheVariants as kinds
use Rattle.ftn_tree.specs.Roles.{says}
use Rattle.ftn_tree.specs.Sayings.{Saying}
use Rattle.ftn_tree.specs.Sayings as said
use Rattle.decl_table.specs.declared.heard.Heard.{Heard}

abbrev pub shaped : Saying → Bool
shaped s = said.bounded s || said.valued s || said.parameter s || said.saved s || said.intent s || said.member s || said.tied s

abbrev pub is : Role → Saying → Bool
is role s = says role s.said

-- the first token where that is said
abbrev pub first_token : Role → List Saying → Option ℕ
first_token role all = option_map (λ s. s.said.token) (find (is role) all)

abbrev pub heard_of : List Saying → Heard
heard_of all = record {
  dummy = list_any said.dummy all;
  answer = list_any said.answer all;
  inner = list_any (is role.Inner) all;
  generic = first_token role.Generic all;
  label = first_token role.Label all;
  outside = list_any said.outside all;
  parameter = list_any said.parameter all;
  declared = list_any said.declares all;
  typed = list_any said.typed all;
  shaped = list_any shaped all;
}

abbrev pub nothing : Heard
nothing = record {
  dummy = false;
  answer = false;
  inner = false;
  generic = None;
  label = None;
  outside = false;
  parameter = false;
  declared = false;
  typed = false;
  shaped = false;
}

abbrev pub earlier : Bool → ℕ → Option ℕ → Option ℕ
earlier is_said token later = if is_said then Some token else later

-- with one more saying before them
abbrev pub after : Saying → Heard → Heard
after s h = record {
  dummy = said.dummy s || h.dummy;
  answer = said.answer s || h.answer;
  inner = is role.Inner s || h.inner;
  generic = earlier (is role.Generic s) s.said.token h.generic;
  label = earlier (is role.Label s) s.said.token h.label;
  outside = said.outside s || h.outside;
  parameter = said.parameter s || h.parameter;
  declared = said.declares s || h.declared;
  typed = said.typed s || h.typed;
  shaped = shaped s || h.shaped;
}

abbrev pub is_typed_alone : Heard → Bool
is_typed_alone h = h.typed && not h.shaped

abbrev pub kind_heard : Bool → Bool → Heard → Option EntityKind
kind_heard has_result referenced h =
    if h.dummy then Some kinds.Dummy
    else if h.answer then (if has_result then Some kinds.Answer else None)
    else if h.inner then None
    else if is_some h.generic then Some kinds.Generic
    else if is_some h.label then Some kinds.Construct
    else if h.outside || (referenced && is_typed_alone h) then None
    else if h.parameter then Some kinds.Constant
    else if h.declared then Some kinds.Variable
    else None

-- what a map has by that name
abbrev pub heard_in : {S : Type 0} → IndexMap (Bor (List ℕ)) Heard S → List ℕ → Heard
heard_in names name = unwrap_or (get_by (λ key. bytes_eq name key.now) names) nothing
