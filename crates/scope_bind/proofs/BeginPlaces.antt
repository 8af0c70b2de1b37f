-- Where names begin, by all that is said of them.
use Rattle.std.proofs.Common.{◌≡◌, ℕ, ◌<◌, Bool, true, List, length, get_or, Option, Some, None, refl, sym, ap, ◌∙◌, bytes_eq, nat_eq}
use Rattle.std.specs.Prelude.{◌&&◌, slice_get}
use Rattle.std.specs.List.{find}
use Rattle.std.specs.Option.{option_map, option_map_or, option_or}
use Rattle.std.proofs.lemmas.Bool.{and_parts}
use Rattle.std.proofs.lemmas.Option.{get_or_from_slice_get}
use Rattle.ftn_tree.specs.declared.table.Extent.{Extent}
use Rattle.ftn_tree.specs.declared.table.Occurrence.{Occurrence}
use Rattle.ftn_tree.specs.declared.table.Tables.{Tables}
use Rattle.ftn_tree.specs.declared.unit.FileTree.{FileTree}
use Rattle.ftn_tree.specs.DeclaredEntities.{occurrences_of, tables_of}
use Rattle.ftn_tree.specs.GlobalNames.{Place, place}
use Rattle.ftn_tree.specs.NameFaults.{begins, opens_name, said_of}
use Rattle.ftn_tree.specs.Sayings.{Saying}
use Rattle.scope_bind.specs.steps.Globals.{unit_at}
use Rattle.scope_bind.specs.steps.NameFaults.{begin_place}
use Rattle.scope_bind.specs.steps.Numbering.{own_occurrence, names_count}
use Rattle.scope_bind.specs.steps.Told.{told_of, begins_by, begins_of, is_own}
use Rattle.scope_bind.proofs.KeyNumbers.{eq_same, same_bytes}
use Rattle.scope_bind.proofs.Units.{found}

-- the first token of a name, by what is told of it
pub begins_told : (said : List Saying) → begins_by (told_of said) ≡ begins said
begins_told said = by (find opens_name said) (find is_own said) where
  token : Saying → ℕ
  token s = s.said.token

  by : (one other : Option Saying) → begins_of (option_map (λ (s : Saying). s.said.token) one) (option_map (λ (s : Saying). s.said.token) other)
      ≡ option_map_or (λ (s : Saying). s.said.token) (option_or one other) 0
  by (Some s) other = refl
  by None (Some s) = refl
  by None None = refl

-- the first occurrence of a name in a scoping unit has that name and that scoping unit
pub occurs_as : (files : List FileTree) (all : List Occurrence) → all ≡ occurrences_of files → (scope i : ℕ) (name : List ℕ) → own_occurrence files scope name ≡ Some i
    → (o : Occurrence) → o ≡ get_or all i o → (o.scope ≡ scope) × (o.name ≡ name)
occurs_as files all same scope i name is o at =
    let (less, other, there, passes) = found (λ (o : Occurrence). nat_eq o.scope scope && bytes_eq o.name name) (occurrences_of files) i is in
    let equal : o ≡ other = at ∙ ap (λ os. get_or os i o) same ∙ get_or_from_slice_get (occurrences_of files) i other o there in
    let (scopes, names) = and_parts (nat_eq other.scope scope) (bytes_eq other.name name) passes in
    (ap (λ (o : Occurrence). o.scope) equal ∙ eq_same other.scope scope scopes, ap (λ (o : Occurrence). o.name) equal ∙ same_bytes other.name name names)

-- it is in its scoping unit that it begins
pub begins_as : (files : List FileTree) (scope other : ℕ) (name spelled : List ℕ) (result : Place) → other ≡ scope → spelled ≡ name → result ≡ begin_place files other spelled
    → result ≡ begin_place files scope name
begins_as files scope other name spelled result same names is =
    is ∙ ap (λ (n : ℕ). place (unit_at files n).file (begins (said_of files (unit_at files n) spelled))) same
    ∙ ap (λ (bytes : List ℕ). place (unit_at files scope).file (begins (said_of files (unit_at files scope) bytes))) names
