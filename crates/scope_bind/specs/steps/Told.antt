-- What sayings of a name say beside what they declare: that it is a procedure of the project outside, and where it begins.
use Rattle.std.specs.Prelude.{ℕ, Bool, false, ◌||◌, ◌&&◌, if◌then◌else◌, List, Option, Some, None}
use Rattle.std.specs.List.{find, list_any}
use Rattle.std.specs.Option.{option_map, unwrap_or}
use Rattle.std.specs.Borrow.{Bor}
use Rattle.std.specs.Str.{bytes_eq}
use Rattle.indexmap.specs.IndexMap.{IndexMap, get_by}
use Rattle.ftn_tree.specs.Sayings.{Saying, external, body}
use Rattle.ftn_tree.specs.DeclaredEntities.{may_be_own}
use Rattle.ftn_tree.specs.NameFaults.{opens_name}
use Rattle.scope_bind.specs.declared.told.Told.{Told}

abbrev pub is_external : Saying → Bool
is_external s = external s || body s

abbrev pub is_own : Saying → Bool
is_own s = may_be_own s.said.role

abbrev pub first_token : (Saying → Bool) → List Saying → Option ℕ
first_token what all = option_map (λ (s : Saying). s.said.token) (find what all)

abbrev pub told_of : List Saying → Told
told_of all = record { external = list_any is_external all; opens = first_token opens_name all; begins = first_token is_own all }

abbrev pub nothing : Told
nothing = record { external = false; opens = None; begins = None }

abbrev pub earlier : Bool → ℕ → Option ℕ → Option ℕ
earlier is_said token later = if is_said then Some token else later

-- with one more saying before them
abbrev pub after : Saying → Told → Told
after s t = record {
  external = is_external s || t.external;
  opens = earlier (opens_name s) s.said.token t.opens;
  begins = earlier (is_own s) s.said.token t.begins;
}

abbrev pub begins_of : Option ℕ → Option ℕ → ℕ
begins_of (Some token) other = token
begins_of None other = unwrap_or other 0

abbrev pub begins_by : Told → ℕ
begins_by t = begins_of t.opens t.begins

-- what a map has by that name
abbrev pub told_in : {S : Type 0} → IndexMap (Bor (List ℕ)) Told S → List ℕ → Told
told_in names name = unwrap_or (get_by (λ key. bytes_eq name key.now) names) nothing
