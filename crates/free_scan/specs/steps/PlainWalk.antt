-- is_plain as one pass over a text, which counts the bytes since the last LF. It serves the proof of the code.
use Rattle.std.specs.Prelude.{ℕ, ◌+◌, Bool, ◌&&◌, ◌==◌, nat_le, List, [], ◌∷◌, if◌then◌else◌}
use Rattle.ftn_base.specs.Letters.{is_within}
use Rattle.ftn_base.specs.Limits.{line_limit}
use Rattle.ftn_tree.specs.Lines.{is_line_feed}

-- whether what follows that many plain bytes of a line makes a plain text with them
abbrev pub plain_from : ℕ → List ℕ → Bool
plain_from count [] = count == 0
plain_from count (b ∷ rest) =
    if is_line_feed b then nat_le count line_limit && plain_from 0 rest
    else is_within 32 126 b && plain_from (count + 1) rest
