-- The extents of a file come in the order of their openings, and each ends before a later one begins or after it ends.
use Rattle.std.proofs.Common.{◌≡◌, ℕ, ◌+◌, ◌≤◌, ◌<◌, Bool, true, false, List, [], ◌∷◌, ◌++◌, length, refl, sym, subst, inl, inr, arith, length-append, if◌then◌else◌}
use Rattle.std.specs.Prelude.{◌⊎◌}
use Rattle.std.specs.List.{flat_map}
use Rattle.ftn_tree.specs.declared.mark.Mark.{Mark}
use Rattle.ftn_tree.specs.declared.mark.Title.{Title}
use Rattle.ftn_tree.specs.declared.table.Extent.{Extent}
use Rattle.ftn_tree.specs.declared.unit.Block.TheVariants.{Plain, Nest}
use Rattle.ftn_tree.specs.Marks.{is_construct, begins_arm}
use Rattle.ftn_tree.specs.Nesting.{Row, none, stands, nest, spelled, Held, held, with_statement, with_nest, unit, arm, arms_of}
use Rattle.ftn_tree.specs.Extents.{extents_in}
use Rattle.ftn_tree.proofs.Surrounding.{own, rolled_extents}

-- each of these ends before that one does, or begins after it
abbrev pub Beside : Extent → List Extent → Type 0
Beside e [] = Unit {0}
Beside e (f ∷ fs) = ((f.ending < e.ending) ⊎ (e.ending < f.opening)) × Beside e fs

-- extents of a file that stand from one statement up to another
abbrev pub Rise : ℕ → ℕ → ℕ → List Extent → Type 0
Rise file low high [] = low ≤ high
Rise file low high (e ∷ es) = (e.file ≡ file) × (low ≤ e.opening) × (e.opening < e.ending) × (e.ending < high) × Beside e es × Rise file (e.opening + 1) high es

pub lower : (file low other high : ℕ) (es : List Extent) → other ≤ low → Rise file low high es → Rise file other high es
lower file low other high [] less rise = omega arith
lower file low other high (e ∷ es) less (is, first, order, last, beside, more) = (is, omega arith, order, last, beside, more)

pub higher : (file low high other : ℕ) (es : List Extent) → high ≤ other → Rise file low high es → Rise file low other es
higher file low high other [] less rise = omega arith
higher file low high other (e ∷ es) less (is, first, order, last, beside, more) =
    (is, first, order, omega arith, beside, higher file (e.opening + 1) high other es less more)

reaches : (file low high : ℕ) (es : List Extent) → Rise file low high es → low ≤ high
reaches file low high [] rise = rise
reaches file low high (e ∷ es) (is, first, order, last, beside, more) = omega arith

beside_after : (file low high : ℕ) (e : Extent) (es : List Extent) → e.ending < low → Rise file low high es → Beside e es
beside_after file low high e [] less rise = tt
beside_after file low high e (f ∷ fs) less (is, first, order, last, beside, more) =
    (inr (omega arith), beside_after file (f.opening + 1) high e fs (omega arith) more)

beside_inside : (file low high : ℕ) (e : Extent) (es : List Extent) → high ≤ e.ending → Rise file low high es → Beside e es
beside_inside file low high e [] less rise = tt
beside_inside file low high e (f ∷ fs) less (is, first, order, last, beside, more) =
    (inl (omega arith), beside_inside file (f.opening + 1) high e fs less more)

beside_both : (e : Extent) (xs ys : List Extent) → Beside e xs → Beside e ys → Beside e (xs ++ ys)
beside_both e [] ys one two = two
beside_both e (x ∷ xs) ys (first, one) two = (first, beside_both e xs ys one two)

rise_both : (file low mid high : ℕ) (xs ys : List Extent) → Rise file low mid xs → Rise file mid high ys → Rise file low high (xs ++ ys)
rise_both file low mid high [] ys one two = lower file mid low high ys one two
rise_both file low mid high (x ∷ xs) ys (is, first, order, last, beside, more) two =
    let end : mid ≤ high = reaches file mid high ys two in
    (is, first, order, omega arith, beside_both x xs ys beside (beside_after file mid high x ys last two), rise_both file (x.opening + 1) mid high xs ys more two)

-- ---- of rows

abbrev all_in : ℕ → Held → List Extent
all_in file inside = flat_map (extents_in file) inside.units

stood : (file at : ℕ) (m : Mark) (after : Held) → all_in file (with_statement at m after) ≡ all_in file after
stood file at m after = by (begins_arm m) where
  by : (begins : Bool) → all_in file (if begins then record { units = after.units; blocks = []; arms = arm at after.blocks ∷ after.arms } else record { units = after.units; blocks = Plain at ∷ after.blocks; arms = after.arms }) ≡ all_in file after
  by true = refl
  by false = refl

-- a unit with what is inside it, and then what comes after it
opened : (file low ending high : ℕ) (inner rest : List Extent) → low < ending → Rise file (low + 1) ending inner → Rise file (ending + 1) high rest
    → Rise file low high ((own file low ending ∷ inner) ++ rest)
opened file low ending high inner rest order within after =
    let end : ending + 1 ≤ high = reaches file (ending + 1) high rest after in (
      refl,
      omega arith,
      order,
      omega arith,
      beside_both (own file low ending) inner rest (beside_inside file (low + 1) ending (own file low ending) inner (omega arith) within)
          (beside_after file (ending + 1) high (own file low ending) rest (omega arith) after),
      rise_both file (low + 1) (ending + 1) high inner rest (higher file (low + 1) ending (ending + 1) inner (omega arith) within) after,
    )

nested : (file at ending high : ℕ) (what : Title) (inside after : Held) → at < ending → Rise file (at + 1) ending (all_in file inside) → Rise file (ending + 1) high (all_in file after)
    → Rise file at high (all_in file (with_nest at what inside ending after))
nested file at ending high what inside after order within more = by (is_construct what.word) where
  by : (construct : Bool) → Rise file at high (all_in file (if construct
      then record { units = after.units; blocks = Nest at (arms_of at what inside) ending ∷ after.blocks; arms = after.arms }
      else record { units = unit at ending inside ∷ after.units; blocks = after.blocks; arms = after.arms }))
  by true = lower file (ending + 1) at high (all_in file after) (omega arith) more
  by false =
      subst (λ first. Rise file at high (first ++ all_in file after)) (sym (rolled_extents file at ending inside.units inside.blocks))
      (opened file at ending high (all_in file inside) (all_in file after) order within more)

pub row_rises : (file at : ℕ) (row : Row) → Rise file at (at + length (spelled row)) (all_in file (held at row))
row_rises file at none = omega arith
row_rises file at (stands m rest) =
    subst (λ es. Rise file at (at + length (spelled (stands m rest))) es) (sym (stood file at m (held (at + 1) rest)))
    (lower file (at + 1) at (at + length (spelled (stands m rest))) (all_in file (held (at + 1) rest)) (omega arith)
    (higher file (at + 1) (at + 1 + length (spelled rest)) (at + length (spelled (stands m rest))) (all_in file (held (at + 1) rest)) (omega arith) (row_rises file (at + 1) rest)))
row_rises file at (nest what inside end rest) =
    let ending : ℕ = at + 1 + length (spelled inside) in
    nested file at (at + 1 + length (spelled inside)) (at + length (spelled (nest what inside end rest))) what (held (at + 1) inside) (held (at + 1 + length (spelled inside) + 1) rest)
    (omega arith) (row_rises file (at + 1) inside)
    (higher file (at + 1 + length (spelled inside) + 1) (at + 1 + length (spelled inside) + 1 + length (spelled rest)) (at + length (spelled (nest what inside end rest)))
    (all_in file (held (at + 1 + length (spelled inside) + 1) rest)) (omega (arith, length-append (spelled inside) (end ∷ spelled rest))) (row_rises file (at + 1 + length (spelled inside) + 1) rest))
