-- Procedures as references see them, by what is kept of the names of their scoping units. It serves the proof alone.
use Rattle.std.specs.Prelude.{ℕ, ◌+◌, List, [], ◌∷◌, map, Option}
use Rattle.std.specs.Option.{is_some, option_and_then}
use Rattle.ftn_tree.specs.declared.table.Extent.{Extent}
use Rattle.ftn_tree.specs.declared.unit.FileTree.{FileTree}
use Rattle.ftn_tree.specs.Extents.{layer_at}
use Rattle.ftn_tree.specs.KeyKinds.{Kind}
use Rattle.ftn_tree.specs.Procedures.{Formal, Signature, dummy_tokens, result_token}
use Rattle.ftn_tree.specs.Scopes.{name_at}
use Rattle.name_types.specs.declared.declared.Declared.{Declared}
use Rattle.name_types.specs.steps.Declaring as declaring

abbrev pub formal_by : Declared → ℕ → List ℕ → Formal
formal_by d scope name = record { kind = declaring.kind_by d scope name; out = declaring.is_out_by d scope name }

abbrev pub formal_at : List FileTree → Declared → ℕ → ℕ → ℕ → Formal
formal_at files d scope file token = formal_by d scope (name_at files file token)

abbrev pub kind_at : List FileTree → Declared → ℕ → ℕ → ℕ → Option Kind
kind_at files d scope file token = declaring.kind_by d scope (name_at files file token)

abbrev pub result_by : List FileTree → Declared → ℕ → Extent → Option Kind
result_by files d scope e = option_and_then (kind_at files d scope e.file) (result_token (layer_at files e.file e.opening))

abbrev pub signature_by : List FileTree → Declared → ℕ → Extent → Signature
signature_by files d scope e = record {
  procedure = e;
  formals = map (formal_at files d scope e.file) (dummy_tokens (layer_at files e.file e.opening));
  function = is_some (result_token (layer_at files e.file e.opening));
  result = result_by files d scope e;
}

-- of scoping units that are numbered from that number on
abbrev pub signatures_from : List FileTree → Declared → ℕ → List Extent → List Signature
signatures_from files d scope [] = []
signatures_from files d scope (e ∷ units) = signature_by files d scope e ∷ signatures_from files d (scope + 1) units
