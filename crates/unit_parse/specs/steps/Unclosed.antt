-- What statements leave open, by going through them with a stack. It serves the proof of the code.
use Rattle.std.specs.Prelude.{ℕ, ◌+◌, List, [], ◌∷◌, drop}
use Rattle.ftn_tree.specs.declared.mark.Mark.{Mark}
use Rattle.ftn_tree.specs.declared.mark.Mark.TheVariants as mark
use Rattle.ftn_tree.specs.NestFaults.{Path}

abbrev pub unclosed_from : Path → ℕ → List Mark → Path
unclosed_from around at [] = around
unclosed_from around at (mark.Open what ∷ marks) = unclosed_from ((at, what) ∷ around) (at + 1) marks
unclosed_from around at (mark.PlainEnd ∷ marks) = unclosed_from (drop 1 around) (at + 1) marks
unclosed_from around at (mark.End by ∷ marks) = unclosed_from (drop 1 around) (at + 1) marks
unclosed_from around at (m ∷ marks) = unclosed_from around (at + 1) marks

abbrev pub unclosed : List Mark → Path
unclosed marks = unclosed_from [] 0 marks
