-- What occurrences denote, by the numbers of entities.
use Rattle.std.specs.Prelude.{ℕ, List, [], ◌∷◌, map}
use Rattle.std.specs.List.{flat_map, range_with_len}
use Rattle.ftn_base.specs.declared.entity.EntityId.{EntityId}
use Rattle.ftn_tree.specs.declared.mention.Mention.{Mention}
use Rattle.ftn_tree.specs.declared.table.Extent.{Extent}
use Rattle.ftn_tree.specs.declared.unit.FileTree.{FileTree}
use Rattle.ftn_tree.specs.Bindings as spec
use Rattle.ftn_tree.specs.Meanings as meanings
use Rattle.ftn_tree.specs.Sayings.{mentions_at}
use Rattle.decl_table.specs.steps.Occurrences.{count_in}
use Rattle.scope_bind.specs.declared.meaning.Meaning.{Meaning}
use Rattle.scope_bind.specs.declared.meaning.Meaning.TheVariants as made
use Rattle.scope_bind.specs.declared.occurrences.Denoted.{Denoted}
use Rattle.scope_bind.specs.steps.Globals.{unit_at}
use Rattle.scope_bind.specs.steps.Meaning.{numbered}

abbrev pub local_meaning : List EntityId → Meaning
local_meaning [] = made.Unknown
local_meaning (one ∷ rest) = made.One one

-- what a name denotes at a mention of a statement of the scoping unit of that number
abbrev pub meaning_at : List FileTree → ℕ → ℕ → Mention → Meaning
meaning_at files scope statement m = numbered files (spec.meaning_by m.role files (unit_at files scope) statement m)

abbrev pub name_meaning : List FileTree → Extent → Mention → Meaning
name_meaning files e m = numbered files (meanings.meaning_at files e m)

abbrev pub denoted_by : List FileTree → ℕ → ℕ → Mention → Denoted
denoted_by files scope statement m = record { file = (unit_at files scope).file; token = m.token; meaning = meaning_at files scope statement m }

abbrev pub unknown_at : ℕ → Mention → Denoted
unknown_at file m = record { file = file; token = m.token; meaning = made.Unknown }

abbrev pub denoted : List FileTree → spec.Denoting → Denoted
denoted files d = record { file = d.at.file; token = d.at.token; meaning = numbered files d.meaning }

abbrev pub denoted_at : List FileTree → ℕ → ℕ → List Denoted
denoted_at files file statement = map (denoted files) (map (spec.denoting files file statement) (mentions_at files file statement))

abbrev pub denoted_in_file : List FileTree → ℕ → List Denoted
denoted_in_file files file = flat_map (denoted_at files file) (range_with_len 0 (count_in file files))

abbrev pub all_denoted : List FileTree → List Denoted
all_denoted files = map (denoted files) (spec.denotings files)
