-- What is told of runs with more steps, and with more room for bodies.
use Rattle.std.proofs.Common.{inl, inr, ◌≡◌, ◌≤◌, ◌+◌, ◌-◌, ℕ, zero, suc, List, refl, sym, ap, subst, ◌∙◌, arith}
use Rattle.std.specs.Prelude.{◌⊎◌}
use Rattle.core_prog.specs.declared.outcome.Outcome.{Outcome}
use Rattle.core_prog.specs.declared.outcome.Outcome.TheVariants as outcome
use Rattle.core_prog.specs.Ends.{Stopped, Faulted, Cut}
use Rattle.core_prog.specs.Programs.{Program}
use Rattle.core_prog.specs.Actions.{Block}
use Rattle.core_prog.specs.Terms.{Term}
use Rattle.core_prog.specs.States.{State, Ran, Went, Ended, Way}
use Rattle.core_prog.specs.Values.{value_of}
use Rattle.core_prog.specs.Statements.{block}
use Rattle.core_prog.specs.Runs.{bodies, start, Result, result_of, run}
use Rattle.core_prog.specs.Lasting.{state_of, with_more, AddsTo, GoesOn, GoesOnAs, IsOver}
use Rattle.core_prog.proofs.Adding.{adds_blocks, adds_values}

left_same : (s : State) → with_more 0 s ≡ s
left_same s = let same : s.left + 0 ≡ s.left = omega arith in ap (λ n. record s { left = n }) same

nothing_added : {A : Type 0} (r r' : Ran A) → AddsTo 0 r r' → r' ≡ r
nothing_added (Went a t) r' e = e ∙ ap (λ u. Went a u) (left_same t)
nothing_added (Ended Stopped t) r' e = e ∙ ap (λ u. Ended Stopped u) (left_same t)
nothing_added (Ended (Faulted code at) t) r' e = e ∙ ap (λ u. Ended (Faulted code at) u) (left_same t)
nothing_added (Ended Cut t) r' e = e.same refl

no_less : (n room : ℕ) → n ≤ room → n + 0 ≤ room
no_less n room h = omega arith

itself : (n : ℕ) → n ≤ n
itself n = omega arith

pub room_free : (program : Program) (room other : ℕ) (b : Block) (s : State) → s.left ≤ room → s.left ≤ other → block program (bodies program room) b s ≡ block program (bodies program other) b s
room_free program room other b s h j =
    sym (nothing_added (block program (bodies program room) b s) (block program (bodies program other) b s)
    (subst (λ t. AddsTo 0 (block program (bodies program room) b s) (block program (bodies program other) b t)) (left_same s)
    ((adds_blocks 0 program room other s.left h (no_less s.left other j) b).2 s (itself s.left))))

pub room_free_of_values : (program : Program) (room other : ℕ) (t : Term) (s : State) → s.left ≤ room → s.left ≤ other → value_of program (bodies program room) t s ≡ value_of program (bodies program other) t s
room_free_of_values program room other t s h j =
    sym (nothing_added (value_of program (bodies program room) t s) (value_of program (bodies program other) t s)
    (subst (λ u. AddsTo 0 (value_of program (bodies program room) t s) (value_of program (bodies program other) t u)) (left_same s)
    ((adds_values 0 program room other s.left h (no_less s.left other j) t).2 s (itself s.left))))

pub blocks_add : (program : Program) (room other k : ℕ) (b : Block) (s : State) → s.left ≤ room → s.left + k ≤ other →
    AddsTo k (block program (bodies program room) b s) (block program (bodies program other) b (with_more k s))
blocks_add program room other k b s h j = (adds_blocks k program room other s.left h j b).2 s (itself s.left)

pub values_add : (program : Program) (room other k : ℕ) (t : Term) (s : State) → s.left ≤ room → s.left + k ≤ other →
    AddsTo k (value_of program (bodies program room) t s) (value_of program (bodies program other) t (with_more k s))
values_add program room other k t s h j = (adds_values k program room other s.left h j t).2 s (itself s.left)

output_of : (input : List ℕ) (r : Ran Way) → (result_of input r).output ≡ (state_of r).output
output_of input (Went way s) = refl
output_of input (Ended e s) = refl

told_on : (input : List ℕ) (k : ℕ) (r r' : Ran Way) → AddsTo k r r' → GoesOn (result_of input r) (result_of input r')
told_on input k (Went way t) r' e = ap (result_of input) e
told_on input k (Ended Stopped t) r' e = ap (result_of input) e
told_on input k (Ended (Faulted code at) t) r' e = ap (result_of input) e
told_on input k (Ended Cut t) r' e = (e.added, output_of input r' ∙ e.output)

pub runs_go_on : (program : Program) (input : List ℕ) (n k : ℕ) → GoesOn (run program input n) (run program input (n + k))
runs_go_on program input n k =
    told_on input k (block program (bodies program n) program.main (start program input n)) (block program (bodies program (n + k)) program.main (start program input (n + k)))
    (blocks_add program n (n + k) k program.main (start program input n) (itself n) (itself (n + k)))

stays_as : (o : Outcome) (before now : Result) → GoesOnAs o before now → IsOver o → now ≡ before
stays_as outcome.Spent before now h over = absurd over
stays_as outcome.Stop before now h over = h
stays_as (outcome.Fault code) before now h over = h

later_is_first : (program : Program) (input : List ℕ) (n m : ℕ) → n ≤ m → IsOver (run program input n).outcome → run program input m ≡ run program input n
later_is_first program input n m h over =
    let e : n + (m - n) ≡ m = omega arith in
    subst (λ x. run program input x ≡ run program input n) e
    (stays_as (run program input n).outcome (run program input n) (run program input (n + (m - n))) (runs_go_on program input n (m - n)) over)

below_some : (n m : ℕ) → n ≤ m → suc n ≤ suc m
below_some n m h = omega arith

least : (m : ℕ) → 0 ≤ m
least m = omega arith

raised : (n m : ℕ) → (n ≤ m) ⊎ (m ≤ n) → (suc n ≤ suc m) ⊎ (suc m ≤ suc n)
raised n m (inl h) = inl (below_some n m h)
raised n m (inr h) = inr (below_some m n h)

either_way : (n m : ℕ) → (n ≤ m) ⊎ (m ≤ n)
either_way zero m = inl (least m)
either_way (suc n) zero = inr (least (suc n))
either_way (suc n) (suc m) = raised n m (either_way n m)

chosen_way : (program : Program) (input : List ℕ) (n m : ℕ) → (n ≤ m) ⊎ (m ≤ n) → IsOver (run program input n).outcome → IsOver (run program input m).outcome → run program input n ≡ run program input m
chosen_way program input n m (inl h) over over' = sym (later_is_first program input n m h over)
chosen_way program input n m (inr h) over over' = later_is_first program input m n h over'

pub one_run : (program : Program) (input : List ℕ) (n m : ℕ) → IsOver (run program input n).outcome → IsOver (run program input m).outcome → run program input n ≡ run program input m
one_run program input n m = chosen_way program input n m (either_way n m)
