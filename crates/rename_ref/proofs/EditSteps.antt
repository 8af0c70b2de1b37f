-- Edits that fit a text.
use Rattle.std.proofs.Common.{◌≡◌, ℕ, ◌+◌, ◌-◌, ◌≤◌, Bool, ◌&&◌, nat_le, List, [], ◌∷◌, length, drop, IsTrue, refl, ap, ◌∙◌, length-drop, arith}
use Rattle.std.proofs.lemmas.Bool.{and_parts, and_from, leb-true, le-leb}
use Rattle.std.proofs.lemmas.List.{drop-drop}
use Rattle.rename_ref.specs.declared.edits.Edit.{Edit}
use Rattle.rename_ref.specs.Edits.{fit}

-- what it says of the first edit that the edits fit
pub record FirstFits (at : ℕ) (text : List ℕ) (edit : Edit) (edits : List Edit) : Type 0 where
  pub starts : at ≤ edit.range.start
  pub rises : edit.range.start ≤ edit.range.end
  pub ends : edit.range.end ≤ at + length text
  pub rest : IsTrue (fit edit.range.end (drop (edit.range.end - at) text) edits)

pub first_fits : (at : ℕ) (text : List ℕ) (edit : Edit) (edits : List Edit) → IsTrue (fit at text (edit ∷ edits)) → FirstFits at text edit edits
first_fits at text edit edits h =
    let starts : Bool = nat_le at edit.range.start in
    let rises : Bool = nat_le edit.range.start edit.range.end in
    let ends : Bool = nat_le edit.range.end (at + length text) in
    let all = and_parts (starts && rises && ends) (fit edit.range.end (drop (edit.range.end - at) text) edits) h in
    let three = and_parts (starts && rises) ends all.0 in
    let two = and_parts starts rises three.0 in
    record {
      starts = leb-true at edit.range.start two.0;
      rises = leb-true edit.range.start edit.range.end two.1;
      ends = leb-true edit.range.end (at + length text) three.1;
      rest = all.1;
    }

pub fits_from_first : (at : ℕ) (text : List ℕ) (edit : Edit) (edits : List Edit) → FirstFits at text edit edits → IsTrue (fit at text (edit ∷ edits))
fits_from_first at text edit edits h =
    let starts : Bool = nat_le at edit.range.start in
    let rises : Bool = nat_le edit.range.start edit.range.end in
    let ends : Bool = nat_le edit.range.end (at + length text) in
    let two = and_from starts rises (le-leb at edit.range.start h.starts) (le-leb edit.range.start edit.range.end h.rises) in
    let three = and_from (starts && rises) ends two (le-leb edit.range.end (at + length text) h.ends) in
    and_from (starts && rises && ends) (fit edit.range.end (drop (edit.range.end - at) text) edits) three h.rest

-- edits that fit what is left of a text fit the whole
pub fits_before : (at size : ℕ) (text : List ℕ) (edits : List Edit) → size ≤ length text → IsTrue (fit (at + size) (drop size text) edits) → IsTrue (fit at text edits)
fits_before at size text [] inside h = refl
fits_before at size text (edit ∷ edits) inside h =
    let first = first_fits (at + size) (drop size text) edit edits h in
    let left : length (drop size text) ≡ length text - size = length-drop size text in
    let sum : size + (edit.range.end - (at + size)) ≡ edit.range.end - at = omega (arith, first.starts, first.rises) in
    let rest : drop (edit.range.end - (at + size)) (drop size text) ≡ drop (edit.range.end - at) text
    = drop-drop (edit.range.end - (at + size)) size text ∙ ap (λ n. drop n text) sum in
    fits_from_first at text edit edits (record {
      starts = omega (arith, first.starts);
      rises = first.rises;
      ends = omega (arith, first.ends, left, inside);
      rest = rw rest at first.rest;
    })
