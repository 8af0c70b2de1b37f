-- What some sayings of a name say of its place and of DATA. It serves the proof alone.
use Rattle.std.specs.Prelude.{ℕ, Bool, not, ◌&&◌, ◌||◌, false, if◌then◌else◌, List, Option, Some, None}
use Rattle.std.specs.List.{find}
use Rattle.std.specs.Option.{option_map, option_or, unwrap_or}
use Rattle.ftn_tree.specs.declared.mention.Role.TheVariants as role
use Rattle.ftn_tree.specs.Roles.{says}
use Rattle.ftn_tree.specs.Sayings.{Saying, member, answer}
use Rattle.ftn_tree.specs.DeclaredEntities.{is_said, may_be_own}
use Rattle.ftn_tree.specs.NameFaults.{opens_name}
use Rattle.const_value.specs.declared.said.Said.{Said}

-- a member of a common block, but for a named block in a BLOCK DATA
abbrev pub bars : Bool → Saying → Bool
bars in_block_data s = member s && not (says role.NamedMember s.said && in_block_data)

-- INTENT(IN)
abbrev pub gives : Saying → Bool
gives s = says role.IntentIn s.said

-- INTENT(OUT) or INTENT(INOUT)
abbrev pub defines : Saying → Bool
defines s = says role.IntentOut s.said || says role.IntentInOut s.said

abbrev pub token_of : Saying → ℕ
token_of s = s.said.token

abbrev pub first_of : Option ℕ → Bool → ℕ → Option ℕ
first_of earlier is_one token = option_or earlier (if is_one then Some token else None)

abbrev pub nothing : Said
nothing = record { opened = None; first = None; given = false; defined = false; answer = false; barred = false }

abbrev pub with_saying : Bool → Said → Saying → Said
with_saying in_block_data said s = record {
  opened = first_of said.opened (opens_name s) s.said.token;
  first = first_of said.first (may_be_own s.said.role) s.said.token;
  given = said.given || gives s;
  defined = said.defined || defines s;
  answer = said.answer || answer s;
  barred = said.barred || bars in_block_data s;
}

abbrev pub said_in : Bool → List Saying → Said
said_in in_block_data all = record {
  opened = option_map token_of (find opens_name all);
  first = option_map token_of (find (λ s. may_be_own s.said.role) all);
  given = is_said gives all;
  defined = is_said defines all;
  answer = is_said answer all;
  barred = is_said (bars in_block_data) all;
}

abbrev pub begins : Said → ℕ
begins said = unwrap_or (option_or said.opened said.first) 0
