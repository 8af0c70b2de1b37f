-- The tables that the code looks names up in.
use Rattle.std.specs.Prelude.{◌≡◌, ℕ, nat_eq, List, [], IfSome}
use Rattle.std.specs.Option.{unwrap_or}
use Rattle.std.specs.Str.{bytes_eq}
use Rattle.indexmap.specs.IndexMap.{IndexMap, get}
use Rattle.ftn_base.specs.declared.entity.EntityId.{EntityId}
use Rattle.ftn_base.specs.Exports.{Pair}
use Rattle.ftn_base.specs.Accessible.{entities_of, exports_of}
use Rattle.use_assoc.specs.declared.table.Table.{Table}

-- the entities that a table has by that name
abbrev pub found_in : {S : Type 0} → IndexMap (List ℕ) (List EntityId) S → List ℕ → List EntityId
found_in table name = unwrap_or (get bytes_eq table name) []

-- each table is that of its module's exports
abbrev pub AreTables : {H : Type 0} → List (List Pair) → IndexMap ℕ Table H → Type 0
AreTables exports tables = (number : ℕ) → IfSome (get nat_eq tables number) (λ table. found_in table.by_name ≡ entities_of (exports_of exports number))
