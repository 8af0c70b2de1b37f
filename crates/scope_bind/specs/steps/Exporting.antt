-- What modules export: own names, and access.
use Rattle.std.specs.Prelude.{ℕ, Bool, ◌&&◌, if◌then◌else◌, List, [], map, replicate}
use Rattle.std.specs.List.{flat_map}
use Rattle.ftn_base.specs.Accessible.{exports_of}
use Rattle.ftn_base.specs.Exports.{PairOf, Pair}
use Rattle.ftn_tree.specs.declared.table.Extent.{Extent}
use Rattle.ftn_tree.specs.declared.unit.FileTree.{FileTree}
use Rattle.ftn_tree.specs.Meanings as spec
use Rattle.ftn_tree.specs.Meanings.{Key, names_said}
use Rattle.ftn_tree.specs.Roles.{says}
use Rattle.ftn_tree.specs.Sayings.{sayings}
use Rattle.ftn_tree.specs.declared.mention.Role.{Role}
use Rattle.ftn_tree.specs.Scopes.{name_at}
use Rattle.decl_table.specs.steps.Spelled.{Each, IsSpelled}
use Rattle.scope_bind.specs.declared.declared.Declared.{Declared}
use Rattle.scope_bind.specs.declared.declared.Declared.TheVariants as made
use Rattle.scope_bind.specs.declared.placed.Placed.{Placed}
use Rattle.scope_bind.specs.steps.Declared.{meant}
use Rattle.scope_bind.specs.steps.Globals.{unit_at, IsNumber}
use Rattle.scope_bind.specs.steps.Meaning.{all_numbered}

-- what it opens is a scoping unit
abbrev pub HasUnit : List FileTree → Declared → Type 0
HasUnit files (made.Unit number) = IsNumber files number
HasUnit files other = Unit {0}

-- the name at that token with its entity, where that is the scoping unit's own
abbrev pub own_at : List FileTree → ℕ → ℕ → Declared → List (PairOf Key)
own_at files scope token declared =
    spec.pair_if_own files (unit_at files scope) (name_at files (unit_at files scope).file token)
    (meant files scope (name_at files (unit_at files scope).file token) declared)

-- nothing but its first letter tells what it is
abbrev pub is_for_letter : List FileTree → List (PairOf Key) → Extent → List ℕ → Bool
is_for_letter files accessible e name =
    spec.is_nothing (spec.or_meaning (spec.declared_in files e name) (spec.or_meaning (spec.used_meaning (spec.keys_of name accessible)) spec.nothing))
    && spec.stands_plain files e name

-- the name at that token with its entity, where nothing but its first letter tells what it is
abbrev pub letter_at : List FileTree → List (PairOf Key) → ℕ → ℕ → List (PairOf Key)
letter_at files accessible scope token =
    if is_for_letter files accessible (unit_at files scope) (name_at files (unit_at files scope).file token) then own_at files scope token made.Own else []

abbrev pub letters_placed : List FileTree → List (PairOf Key) → Extent → List (PairOf Key)
letters_placed files accessible e = spec.in_place files e (flat_map (spec.letter_pairs files accessible e spec.nothing) (spec.names_in files e))

abbrev pub AreSpelled : List FileTree → ℕ → List Placed → Type 0
AreSpelled files file placed = Each (λ (p : Placed). IsSpelled (name_at files file p.name)) placed

-- what the module of that number exports, by numbers of entities
abbrev pub exported_by : List FileTree → ℕ → List Pair
exported_by files number = all_numbered files (exports_of (spec.all_exports files) number)

abbrev pub exported_everywhere : List FileTree → List (List Pair)
exported_everywhere files = map (all_numbered files) (spec.all_exports files)

-- the names of which that is said
abbrev pub names_by : Role → List FileTree → Extent → List (List ℕ)
names_by role files e = names_said (λ s. says role s.said) (sayings files e)

abbrev pub none_of : ℕ → List (List Pair)
none_of count = replicate count []
