-- What a rename keeps: what the program writes and how it ends, and what each name denotes on which storage.
use Rattle.std.specs.Prelude.{◌≡◌, ℕ, Bool, false, List, [], ◌∷◌, map, Option, Some, None, IsTrue}
use Rattle.std.specs.List.{find}
use Rattle.std.specs.Option.{option_map}
use Rattle.std.specs.Str.{bytes_eq}
use Rattle.ftn_base.specs.declared.entity.Ty.{Ty}
use Rattle.ftn_base.specs.declared.entity.Ty.TheVariants.{Integer}
use Rattle.ftn_tree.specs.declared.token.Token.{Token}
use Rattle.free_scan.specs.declared.first_form.program.Program.{Program}
use Rattle.free_scan.specs.Clean.{variables, are_distinct}
use Rattle.free_scan.specs.FirstForm.{IsProgramText}
use Rattle.free_scan.specs.Tokens.{tokens_of}
use Rattle.rename_ref.specs.declared.edits.Edit.{Edit}
use Rattle.rename_ref.specs.Edits.{moved}
use Rattle.rename_ref.specs.Meaning.{run}
use Rattle.rename_ref.specs.Names.{name_tokens}

-- Both texts spell programs, and at each number of steps these write the same and end alike.
pub record Alike (before after : List ℕ) : Type 0 where
  pub old_spells : (program : Program) × IsProgramText before program
  pub new_spells : (program : Program) × IsProgramText after program
  pub same_runs : (old new : Program) → IsProgramText before old → IsProgramText after new → (steps : ℕ) → run new steps ≡ run old steps

-- an entity of a program in first form: the main program, or an integer scalar
pub data EntitySort : Type 0 where
  main : EntitySort
  scalar : EntitySort

abbrev pub Entity : Type 0
Entity = EntitySort × List ℕ

-- the entities, the variables in the order of their declarations; a variable's number gives its storage area
abbrev pub entities : Program → List Entity
entities program = (main, program.name) ∷ map (λ name. (scalar, name)) (variables program)

-- type, bounds, storage units, whether the area is kept, and what its units hold at the start of a run
pub record Storage : Type 0 where
  pub ty : Ty
  pub bounds : List (ℕ × ℕ)
  pub units : ℕ
  pub kept : Bool
  pub initial : Option ℕ

-- An integer scalar is one numeric unit, in an area of its own that holds nothing at the start (4.3.1.1, 14.6.3.1).
abbrev pub storage_of_sort : EntitySort → Option Storage
storage_of_sort main = None
storage_of_sort scalar = Some (record { ty = Integer; bounds = []; units = 1; kept = false; initial = None })

abbrev pub storage_of : Entity → Option Storage
storage_of entity = storage_of_sort entity.0

-- the entity that a name denotes
abbrev pub denoted : Program → List ℕ → Option Entity
denoted program name = find (λ entity. bytes_eq entity.1 name) (entities program)

-- the partner of an entity, by a function on names
abbrev pub partner : (List ℕ → List ℕ) → Entity → Entity
partner f entity = (entity.0, f entity.1)

-- a name token's place and name
abbrev pub placed : Token → ℕ × List ℕ
placed token = (token.range.start, token.value)

-- where it stands after the edits, with its partner's name
abbrev pub placed_after : (List ℕ → List ℕ) → List Edit → Token → ℕ × List ℕ
placed_after f edits token = (moved edits token.range.start, f token.value)

-- The two texts' entities and name tokens correspond, where f gives the partners' names.
pub record Corresponds (f : List ℕ → List ℕ) (edits : List Edit) (before after : List ℕ) : Type 0 where
  -- each entity has one partner, and no two have the same
  pub partners : (old new : Program) → IsProgramText before old → IsProgramText after new → entities new ≡ map (partner f) (entities old)
  pub one_each : (new : Program) → IsProgramText after new → IsTrue (are_distinct (map (λ entity. entity.1) (entities new)))
  -- partners have the same type, bounds, units, keeping and initial contents, and each an area of its own
  pub storage : (old new : Program) → IsProgramText before old → IsProgramText after new → map storage_of (entities new) ≡ map storage_of (entities old)
  -- each name token stands where the edits put it, and denotes the partner of what it denoted
  pub tokens : (old_tokens new_tokens : List Token) → tokens_of before ≡ Some old_tokens → tokens_of after ≡ Some new_tokens
      → map placed (name_tokens new_tokens) ≡ map (placed_after f edits) (name_tokens old_tokens)
  pub denotes : (old new : Program) → IsProgramText before old → IsProgramText after new
      → (old_tokens : List Token) → tokens_of before ≡ Some old_tokens
      → map (λ token. denoted new (f token.value)) (name_tokens old_tokens) ≡ map (λ token. option_map (partner f) (denoted old token.value)) (name_tokens old_tokens)
