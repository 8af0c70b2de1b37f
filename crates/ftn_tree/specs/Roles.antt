-- Names in statements, and what is said of them there (this project's own).
use Rattle.std.specs.Prelude.{ℕ, Bool, true, false, ◌||◌, List, [], ◌∷◌, slice_get, Option, Some, None}
use Rattle.std.specs.List.{list_any}
use denote.Enum.Bare.{sameb}
use Rattle.ftn_tree.specs.contracts.mention.Role.{the_type}
use Rattle.ftn_tree.specs.declared.mention.Role.{Role}
use Rattle.ftn_tree.specs.declared.mention.Role.TheVariants as role
use Rattle.ftn_tree.specs.declared.mention.Mention.{Mention}
use Rattle.ftn_tree.specs.declared.token.Token.{Token}
use Rattle.ftn_tree.specs.declared.token.Tokens.{Tokens}

unfoldable pub same_role : Role → Role → Bool
same_role = sameb the_type

-- the place alone tells what the name denotes
abbrev pub is_special : Role → Bool
is_special role.Opens = true
is_special role.Ends = true
is_special role.Leaves = true
is_special role.Label = true
is_special role.Slash = true
is_special role.Module = true
is_special role.Source = true
is_special role.Local = true
is_special _ = false

-- the name stands there as one that a specification declares
abbrev pub is_declaration : Role → Bool
is_declaration role.Typed = true
is_declaration role.Dimensioned = true
is_declaration role.Parameter = true
is_declaration role.Saved = true
is_declaration role.External = true
is_declaration role.Intrinsic = true
is_declaration role.IntentIn = true
is_declaration role.IntentOut = true
is_declaration role.IntentInOut = true
is_declaration role.Member = true
is_declaration role.NamedMember = true
is_declaration role.Tied = true
is_declaration _ = false

-- a name of which its place alone says something
abbrev pub mention : ℕ → Role → Mention
mention token role = record { token = token; role = role; also = [] }

-- the same, with what else is said of it
abbrev pub mention_with : ℕ → Role → List Role → Mention
mention_with token role also = record { token = token; role = role; also = also }

-- all that is said of a name
abbrev pub roles_of : Mention → List Role
roles_of m = m.role ∷ m.also

abbrev pub holds : Role → List Role → Bool
holds role roles = list_any (λ one. same_role one role) roles

-- that is said of the name
abbrev pub says : Role → Mention → Bool
says role m = same_role m.role role || holds role m.also

abbrev pub value_of : Option Token → List ℕ
value_of None = []
value_of (Some here) = here.value

-- the folded name at a token
abbrev pub name_bytes : Tokens → ℕ → List ℕ
name_bytes tokens token = value_of (slice_get tokens.items token)
