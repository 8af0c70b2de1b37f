-- A scan as it goes over the bytes of statements one by one: what was found, and the run of bytes that isn't read yet.
-- It serves the proof of the code.
use Rattle.std.specs.Prelude.{ℕ, ◌+◌, ◌≤◌, nat_lt, if◌then◌else◌, List, [], ◌∷◌, ◌++◌, fold, length, Option, None}
use Rattle.ftn_base.specs.declared.name.Edition.{Edition}
use Rattle.ftn_base.specs.declared.place.Range.{Range}
use Rattle.ftn_tree.specs.declared.token.Token.{Token}
use Rattle.ftn_tree.specs.declared.piece.Spot.{Spot}
use Rattle.ftn_tree.specs.Breaks.{Breach, piece_breaches}
use Rattle.ftn_tree.specs.Logical.{Glyph, byte, gap, cut}
use Rattle.ftn_tree.specs.Reading.{over_run, token_of}
use Rattle.free_scan.specs.steps.Firsts.{least}

-- the tokens so far, those of statements that ended, how many tokens these have, the run, and the first breach in pieces
pub record State : Type 0 where
  pub edition : Edition
  pub items : List Token
  pub statements : List Range
  pub first : ℕ
  pub bytes : List ℕ
  pub spots : List Spot
  pub firsts : Option Breach

-- before the text
abbrev pub begun : Edition → State
begun edition = record { edition = edition; items = []; statements = []; first = 0; bytes = []; spots = []; firsts = None }

abbrev pub pushed : ℕ → Spot → State → State
pushed b spot s = record {
  edition = s.edition;
  items = s.items;
  statements = s.statements;
  first = s.first;
  bytes = s.bytes ++ b ∷ [];
  spots = s.spots ++ spot ∷ [];
  firsts = s.firsts;
}

-- the run is read
abbrev pub flushed : State → State
flushed s = record {
  edition = s.edition;
  items = s.items ++ over_run token_of s.bytes s.spots;
  statements = s.statements;
  first = s.first;
  bytes = [];
  spots = [];
  firsts = least s.firsts (over_run (piece_breaches s.edition) s.bytes s.spots);
}

abbrev pub new_range : ℕ → ℕ → List Range
new_range first end = if nat_lt first end then record { start = first; end = end } ∷ [] else []

-- the statement is over
abbrev pub ended : State → State
ended s = record {
  edition = s.edition;
  items = s.items;
  statements = s.statements ++ new_range s.first (length s.items);
  first = length s.items;
  bytes = s.bytes;
  spots = s.spots;
  firsts = s.firsts;
}

abbrev pub taken : State → Glyph → State
taken s (byte b spot) = pushed b spot s
taken s gap = flushed s
taken s cut = ended (flushed s)

abbrev pub taken_all : State → List Glyph → State
taken_all s row = fold taken s row

-- where everything was taken
abbrev pub finished : State → State
finished s = ended (flushed s)

-- what was read of a text before that offset: a token has a byte at least
abbrev pub IsWithin : ℕ → State → Type 0
IsWithin n s = length s.items + length s.bytes ≤ n
