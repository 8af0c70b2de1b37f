-- Edits of a text.
use Rattle.std.specs.Prelude.{ℕ, Bool, true, ◌&&◌, ◌+◌, ◌-◌, nat_le, List, [], ◌∷◌, ◌++◌, map, take, drop, length}
use Rattle.std.specs.List.{filter, sum_by}
use Rattle.rename_ref.specs.declared.edits.Edit.{Edit}
use Rattle.ftn_tree.specs.declared.token.Token.{Token}

-- The ranges lie in the text that begins at that offset, are sorted and don't overlap.
abbrev pub fit : ℕ → List ℕ → List Edit → Bool
fit at text [] = true
fit at text (edit ∷ edits) =
    nat_le at edit.range.start && nat_le edit.range.start edit.range.end && nat_le edit.range.end (at + length text)
    && fit edit.range.end (drop (edit.range.end - at) text) edits

-- the text that begins at that offset, with the pieces between the ranges and the edits' texts in turn
abbrev pub applied_from : ℕ → List ℕ → List Edit → List ℕ
applied_from at text [] = text
applied_from at text (edit ∷ edits) =
    take (edit.range.start - at) text ++ (edit.text ++ applied_from edit.range.end (drop (edit.range.end - at) text) edits)

abbrev pub applied : List ℕ → List Edit → List ℕ
applied text edits = applied_from 0 text edits

-- where a byte outside the ranges stands after the edits: its place plus the differences in length of the edits before it
abbrev pub moved : List Edit → ℕ → ℕ
moved edits at =
    let before = filter (λ (edit : Edit). nat_le edit.range.end at) edits in
    at + sum_by (λ (edit : Edit). length edit.text) before - sum_by (λ (edit : Edit). edit.range.end - edit.range.start) before

-- each of these tokens replaced by one text
abbrev pub replacing : List ℕ → List Token → List Edit
replacing text tokens = map (λ token. record { range = token.range; text = text }) tokens
