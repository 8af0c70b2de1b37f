-- The path of frames, from the innermost on.
use Rattle.std.proofs.Common.{◌≡◌, List, [], ◌∷◌, ◌++◌, reverse, ap, ◌∙◌}
use Rattle.std.proofs.lemmas.List.{reverse-append}
use Rattle.unit_parse.specs.declared.frames.Frame.{Frame}
use Rattle.unit_parse.specs.Taking.{path_of}

pub path_from_last : (frames outer : List Frame) (frame : Frame) → frames ≡ outer ++ frame ∷ [] → path_of (reverse frames) ≡ frame.what ∷ path_of (reverse outer)
path_from_last frames outer frame e = ap (λ (all : List Frame). path_of all) (ap (λ (all : List Frame). reverse all) e ∙ reverse-append outer (frame ∷ []))
