-- Which extents are around an extent, and which number it has.
use Rattle.std.proofs.Common.{◌≡◌, ℕ, zero, suc, ◌+◌, Bool, true, false, List, [], ◌∷◌, ◌++◌, length, Some, None, refl, sym, ap, ◌∙◌, inl, inr, arith, if◌then◌else◌}
use Rattle.std.specs.Prelude.{slice_get}
use Rattle.std.specs.List.{filter, last_or, position, position_from}
use Rattle.std.specs.Option.{option_and_then}
use Rattle.std.proofs.lemmas.Bool.Decides.{nat_tests}
use Rattle.std.proofs.lemmas.Iterator.Adapters.{position_from-zero}
use Rattle.ftn_tree.specs.declared.table.Extent.{Extent}
use Rattle.ftn_tree.specs.declared.unit.FileTree.{FileTree}
use Rattle.ftn_tree.specs.Extents.{covers, encloses, same_extent, innermost}
use Rattle.decl_table.specs.steps.Rows.{number_at, rows_after, empty_rows}
use Rattle.decl_table.proofs.Order.{Each, Comes, Within, Ordered, statements_in}
use Rattle.decl_table.proofs.Numbers.{Stand, last_found, number_is}

-- ---- what is around an extent

-- an earlier one encloses an opening where it covers it
earlier_covers : (p e : Extent) → Comes p e → encloses e.file e.opening p ≡ covers e.file e.opening p
earlier_covers p e (inl less) = grind (arith, nat_tests)
earlier_covers p e (inr (same, less, side)) = grind (arith, nat_tests)

-- it doesn't enclose itself, and no later one does
itself_not : (e : Extent) → encloses e.file e.opening e ≡ false
itself_not e = grind (arith, nat_tests)

later_not : (e f : Extent) → Comes e f → encloses e.file e.opening f ≡ false
later_not e f (inl less) = grind (arith, nat_tests)
later_not e f (inr (same, less, side)) = grind (arith, nat_tests)

none_later : (e : Extent) (post : List Extent) → Each (Comes e) post → filter (encloses e.file e.opening) post ≡ []
none_later e [] all = refl
none_later e (f ∷ post) (first, all) = rw (later_not e f first) (none_later e post all)

pub around_is : (pre : List Extent) (e : Extent) (post : List Extent) → Each (λ p. Comes p e) pre → Each (Comes e) post
    → filter (encloses e.file e.opening) (pre ++ e ∷ post) ≡ filter (covers e.file e.opening) pre
around_is [] e post before after = rw (itself_not e) (none_later e post after)
around_is (p ∷ pre) e post (first, before) after =
    rw (earlier_covers p e first) (by (covers e.file e.opening p) (around_is pre e post before after))
  where
    by : (passes : Bool) → filter (encloses e.file e.opening) (pre ++ e ∷ post) ≡ filter (covers e.file e.opening) pre
        → (if passes then p ∷ filter (encloses e.file e.opening) (pre ++ e ∷ post) else filter (encloses e.file e.opening) (pre ++ e ∷ post))
        ≡ (if passes then p ∷ filter (covers e.file e.opening) pre else filter (covers e.file e.opening) pre)
    by true rest = ap (λ es. p ∷ es) rest
    by false rest = rest

-- ---- in an ordered list

pub before_it : (count : ℕ → ℕ) (pre : List Extent) (e : Extent) (post : List Extent) → Ordered count (pre ++ e ∷ post) → Each (λ p. Comes p e) pre
before_it count [] e post all = tt
before_it count (p ∷ pre) e post (within, later, more) = (at pre later, before_it count pre e post more) where
  at : (pre : List Extent) → Each (Comes p) (pre ++ e ∷ post) → Comes p e
  at [] (first, rest) = first
  at (q ∷ pre) (first, rest) = at pre rest

pub after_it : (count : ℕ → ℕ) (pre : List Extent) (e : Extent) (post : List Extent) → Ordered count (pre ++ e ∷ post) → Within count e × Each (Comes e) post
after_it count [] e post (within, later, more) = (within, later)
after_it count (p ∷ pre) e post (within, later, more) = after_it count pre e post more

pub stands_in_front : (pre es : List Extent) → Stand (pre ++ es) 0 pre
stands_in_front pre es k e there = ap (λ n. slice_get (pre ++ es) n) (zero_plus k) ∙ at pre k there where
  zero_plus : (k : ℕ) → 0 + k ≡ k
  zero_plus k = omega arith

  at : (pre : List Extent) (k : ℕ) → slice_get pre k ≡ Some e → slice_get (pre ++ es) k ≡ Some e
  at [] k there = absurd (cc there)
  at (p ∷ pre) zero there = there
  at (p ∷ pre) (suc k) there = at pre k there

-- the innermost one around an extent, by the number that rows have before it
pub around_found : (files : List FileTree) (pre : List Extent) (e : Extent) (post : List Extent)
    → Ordered (λ file. statements_in file files) (pre ++ e ∷ post)
    → option_and_then (slice_get (pre ++ e ∷ post)) (number_at (rows_after 0 pre (empty_rows files)) e.file e.opening)
    ≡ innermost (encloses e.file e.opening) (pre ++ e ∷ post)
around_found files pre e post ordered =
    let (within, later) = after_it (λ file. statements_in file files) pre e post ordered in
    ap (option_and_then (slice_get (pre ++ e ∷ post))) (number_is files pre e.file e.opening (omega (arith, within.0, within.1)))
    ∙ last_found (pre ++ e ∷ post) 0 (covers e.file e.opening) pre None None (stands_in_front pre (e ∷ post)) refl
    ∙ ap (last_or None) (sym (around_is pre e post (before_it (λ file. statements_in file files) pre e post ordered) later))

-- ---- its number

not_same : (p e : Extent) → Comes p e → same_extent e p ≡ false
not_same p e (inl less) = grind (arith, nat_tests)
not_same p e (inr (same, less, side)) = grind (arith, nat_tests)

same_self : (e : Extent) → same_extent e e ≡ true
same_self e = grind (arith, nat_tests)

placed : (at : ℕ) (pre : List Extent) (e : Extent) (post : List Extent) → Each (λ p. Comes p e) pre → position_from (same_extent e) at (pre ++ e ∷ post) ≡ Some (at + length pre)
placed at [] e post before = rw (same_self e) (ap Some (plus at)) where
  plus : (at : ℕ) → at ≡ at + 0
  plus at = omega arith
placed at (p ∷ pre) e post (first, before) = rw (not_same p e first) (placed (at + 1) pre e post before ∙ ap Some (next at (length pre))) where
  next : (at n : ℕ) → at + 1 + n ≡ at + suc n
  next at n = omega arith

pub position_is : (pre : List Extent) (e : Extent) (post : List Extent) → Each (λ p. Comes p e) pre → position (same_extent e) (pre ++ e ∷ post) ≡ Some (length pre)
position_is pre e post before = position_from-zero (same_extent e) (pre ++ e ∷ post) ∙ placed 0 pre e post before ∙ ap Some (zero_plus (length pre)) where
  zero_plus : (k : ℕ) → 0 + k ≡ k
  zero_plus k = omega arith
