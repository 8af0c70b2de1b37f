-- Which section the next statement stands in. It serves the proof of the code.
use Rattle.std.specs.Prelude.{ℕ, ◌+◌, if◌then◌else◌, List, [], ◌∷◌, Option, Some, None}
use Rattle.ftn_tree.specs.declared.mark.Mark.{Mark}
use Rattle.ftn_tree.specs.declared.mark.Section.{Section}
use Rattle.ftn_tree.specs.declared.mark.Section.TheVariants as section
use Rattle.ftn_tree.specs.Marks.{belongs}

-- `stage` is the number of the first section that is left
abbrev pub follow : List Section → ℕ → Mark → Option ℕ
follow [] stage m = None
follow (section.Any p ∷ sections) stage m = if belongs p m then Some stage else follow sections (stage + 1) m
follow (section.Once p ∷ sections) stage m = if belongs p m then Some (stage + 1) else None
follow (section.First p ∷ sections) stage m = if belongs p m then follow sections (stage + 1) m else None
