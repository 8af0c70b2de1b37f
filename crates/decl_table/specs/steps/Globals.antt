-- Global names and where they are given first: what the code does.
use Rattle.std.specs.Prelude.{◌≡◌, ℕ, List, [], map, Option, Some, None}
use Rattle.std.specs.List.{find, flat_map}
use Rattle.std.specs.Option.{option_map}
use Rattle.std.specs.Borrow.{Bor}
use Rattle.std.specs.Str.{bytes_eq}
use Rattle.indexmap.specs.IndexMap.{IndexMap, get_by}
use Rattle.ftn_base.specs.declared.fault.FaultKind.TheVariants.{Twice}
use Rattle.ftn_tree.specs.DeclarationFaults.{Finding, found_with, first_finding, declaration_rank}
use Rattle.ftn_tree.specs.GlobalNames.{Place, Global, same_name, place, in_turn, block_pair, firsts_after}
use Rattle.decl_table.specs.declared.globals.At.{At}
use Rattle.decl_table.specs.declared.globals.Seen.{Seen}

-- the place that is kept by a name, or of what has none
abbrev pub kept : {S : Type 0} → IndexMap (Bor (List ℕ)) At S → Option At → Option (List ℕ) → Option At
kept named unnamed None = unnamed
kept named unnamed (Some name) = get_by (λ key. bytes_eq name key.now) named

abbrev pub kept_by : Seen → Option (List ℕ) → Option At
kept_by seen name = kept seen.named seen.unnamed name

abbrev pub at_of : Global → At
at_of g = record { file = g.at.file; token = g.at.token }

abbrev pub place_of : At → Place
place_of at = place at.file at.token

-- the first of these that has the name
abbrev pub first_named : Option (List ℕ) → List Global → Option Global
first_named name globals = find (λ (earlier : Global). same_name earlier.name name) globals

-- where a name is given second, and where first
abbrev pub twice : Place → Option At → Option Finding
twice at None = None
twice at (Some first) = Some (found_with Twice at (place_of first))

abbrev pub of_pair : Place × Place → Finding
of_pair pair = found_with Twice pair.0 pair.1

-- a block of a unit's name: the fault at the later of both
abbrev pub twice_in_turn : Place → Option At → Option Finding
twice_in_turn block None = None
twice_in_turn block (Some unit) = Some (of_pair (in_turn (place_of unit) block))

-- what is kept is the first of each name
abbrev pub Keeps : (Option (List ℕ) → Option At) → List Global → Type 0
Keeps kept globals = (name : Option (List ℕ)) → kept name ≡ option_map at_of (first_named name globals)

abbrev pub first_of : List (Place × Place) → Option Finding
first_of pairs = first_finding declaration_rank (map of_pair pairs)

abbrev pub block_pairs : List Global → List Global → List (Place × Place)
block_pairs units blocks = flat_map (block_pair units) (firsts_after [] blocks)
