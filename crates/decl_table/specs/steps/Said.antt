-- What is said in a scoping unit, by the numbers of statements and hosts: what the code does.
use Rattle.std.specs.Prelude.{ℕ, ◌<◌, ◌==◌, ◌&&◌, if◌then◌else◌, List, [], slice_get, Option, Some, None}
use Rattle.std.specs.Option.{option_and_then}
use Rattle.ftn_tree.specs.declared.mention.Mention.{Mention}
use Rattle.ftn_tree.specs.declared.table.Extent.{Extent}
use Rattle.ftn_tree.specs.declared.unit.FileTree.{FileTree}
use Rattle.ftn_tree.specs.Extents.{scoping}
use Rattle.ftn_tree.specs.Sayings.{mentions_at, inner_mention}
use Rattle.ftn_tree.specs.Scopes.{host_number}
use Rattle.decl_table.specs.steps.Following.{is_number}

-- what stands in another scoping unit: the name of that one, where its opening stands there and its host has the number
abbrev pub inner_by : List FileTree → ℕ → ℕ → Option Extent → List Mention
inner_by files number statement None = []
inner_by files number statement (Some inner) =
    if (inner.opening == statement) && is_number number (host_number files inner) then inner_mention files inner else []

abbrev pub said_by : List FileTree → ℕ → ℕ → ℕ → Option ℕ → List Mention
said_by files number file statement found =
    if is_number number found then mentions_at files file statement
    else inner_by files number statement (option_and_then (slice_get (scoping files)) found)

-- the number is below that
abbrev pub IsWithin : ℕ → Option ℕ → Type 0
IsWithin count None = Unit {0}
IsWithin count (Some number) = number < count
