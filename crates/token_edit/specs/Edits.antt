-- Edits of a text.
use Rattle.std.specs.Prelude.{◌≡◌, ℕ, ◌+◌, ◌-◌, Bool, true, ◌&&◌, ◌||◌, ◌≤◌, nat_le, nat_lt, IsTrue, List, [], ◌∷◌, ◌++◌, take, drop, length, slice_get}
use Rattle.std.specs.List.{filter, list_all, sum_by}
use Rattle.token_edit.specs.declared.edit.Edit.{Edit}

-- a range that lies in a text of that length
abbrev pub lies_in : ℕ → Edit → Bool
lies_in length edit = nat_le edit.range.start edit.range.end && nat_le edit.range.end length

-- each range ends before all later ones start
abbrev pub are_apart : List Edit → Bool
are_apart [] = true
are_apart (edit ∷ edits) = list_all (λ (later : Edit). nat_le edit.range.end later.range.start) edits && are_apart edits

-- the ranges lie in the text, are sorted and don't overlap
abbrev pub fit : ℕ → List Edit → Bool
fit length edits = list_all (lies_in length) edits && are_apart edits

-- the bytes from one place up to another
abbrev pub piece : List ℕ → ℕ → ℕ → List ℕ
piece text start end = take (end - start) (drop start text)

-- from that place on, the pieces between the ranges and the edits' texts in turn
abbrev pub applied_from : List ℕ → ℕ → List Edit → List ℕ
applied_from text at [] = drop at text
applied_from text at (edit ∷ edits) = piece text at edit.range.start ++ (edit.text ++ applied_from text edit.range.end edits)

abbrev pub applied : List ℕ → List Edit → List ℕ
applied text edits = applied_from text 0 edits

-- the place lies outside all ranges
abbrev pub is_outside : List Edit → ℕ → Bool
is_outside edits place = list_all (λ (edit : Edit). nat_le edit.range.end place || nat_lt place edit.range.start) edits

-- the edits whose ranges end there or before
abbrev pub edits_before : List Edit → ℕ → List Edit
edits_before edits place = filter (λ (edit : Edit). nat_le edit.range.end place) edits

-- how many bytes come by these edits
abbrev pub added : List Edit → ℕ
added edits = sum_by (λ (edit : Edit). length edit.text) edits

-- how many bytes go by these edits
abbrev pub removed : List Edit → ℕ
removed edits = sum_by (λ (edit : Edit). edit.range.end - edit.range.start) edits

-- a place plus the differences in length of the edits before it
abbrev pub moved : List Edit → ℕ → ℕ
moved edits place = place + added (edits_before edits place) - removed (edits_before edits place)

-- a byte stands after the edits where its place is moved to
pub record Stays (text : List ℕ) (edits : List Edit) (place : ℕ) : Type 0 where
  pub difference : removed (edits_before edits place) ≤ place + added (edits_before edits place)
  pub byte : slice_get (applied text edits) (moved edits place) ≡ slice_get text place

-- after edits that fit, each byte outside all ranges
abbrev pub BytesOutsideStay : Type 0
BytesOutsideStay = (text : List ℕ) (edits : List Edit) (place : ℕ) → IsTrue (fit (length text) edits) → IsTrue (is_outside edits place) → Stays text edits place
