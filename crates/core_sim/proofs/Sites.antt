-- What operators and intrinsic functions give doesn't depend on the token at which they stand, but for that of a fault.
use Rattle.std.proofs.Common.{◌≡◌, List, refl, subst}
use Rattle.std.specs.Prelude.{ℤ, Bool, true, false, if◌then◌else◌, Option, Some, None, Result, Ok, Err}
use Rattle.ftn_base.specs.declared.arithmetic.ArithmeticFault.{ArithmeticFault}
use Rattle.ftn_tree.specs.declared.intrinsic.Intrinsic.{Intrinsic}
use Rattle.ftn_tree.specs.declared.intrinsic.ValueFault.{ValueFault}
use Rattle.ftn_tree.specs.declared.intrinsic.ValueFault.TheVariants.{TooBig, ByZero, OutOfRange, IllTyped}
use Rattle.ftn_tree.specs.declared.operator.Operator.{Operator}
use Rattle.ftn_tree.specs.declared.value.Value.{Value}
use Rattle.ftn_tree.specs.Operations.{whole_of}
use Rattle.ftn_tree.specs.Operations as values
use Rattle.ftn_tree.specs.Intrinsics.{intrinsic_value}
use Rattle.core_prog.specs.declared.site.Site.{Site}
use Rattle.core_prog.specs.Ends.{End}
use Rattle.core_prog.specs.Operations.{placed, whole_at, binary_of, unary_of, intrinsic_of, as_whole, as_truth}
use Rattle.core_prog.specs.Memory.{in_bounds}
use Rattle.core_sim.proofs.Answering.{Answers, Same}

pub itself : {A : Type 0} (r : Result A End) → Answers {A = A} {B = A} Same r r
itself (Ok a) = refl
itself (Err e) = refl

placed_site : (at at' : Site) (r : Result Value ValueFault) → Answers Same (placed at r) (placed at' r)
placed_site at at' (Ok v) = refl
placed_site at at' (Err TooBig) = refl
placed_site at at' (Err ByZero) = refl
placed_site at at' (Err OutOfRange) = refl
placed_site at at' (Err IllTyped) = refl

pub whole_site : (at at' : Site) (r : Result ℤ ArithmeticFault) → Answers Same (whole_at at r) (whole_at at' r)
whole_site at at' r = placed_site at at' (whole_of r)

pub binary_same : (at at' : Site) (o : Operator) (a b c d : Value) → a ≡ b → c ≡ d → Answers Same (binary_of at o a c) (binary_of at' o b d)
binary_same at at' o a b c d e e' =
    subst (λ y. Answers Same (binary_of at o a c) (binary_of at' o b y)) e' (subst (λ x. Answers Same (binary_of at o a c) (binary_of at' o x c)) e (placed_site at at' (values.binary_of o a c)))

pub unary_same : (at at' : Site) (o : Operator) (a b : Value) → a ≡ b → Answers Same (unary_of at o a) (unary_of at' o b)
unary_same at at' o a b e = subst (λ x. Answers Same (unary_of at o a) (unary_of at' o x)) e (placed_site at at' (values.unary_of o a))

pub intrinsic_same : (at at' : Site) (f : Intrinsic) (vs ws : List Value) → vs ≡ ws → Answers Same (intrinsic_of at f vs) (intrinsic_of at' f ws)
intrinsic_same at at' f vs ws e = subst (λ x. Answers Same (intrinsic_of at f vs) (intrinsic_of at' f x)) e (placed_site at at' (intrinsic_value f vs))

pub choice_same : {A B : Type 0} (R : A → B → Type 0) (yes : Bool) (r s : Result A End) (r' s' : Result B End) → Answers R r r' → Answers R s s' → Answers R (if yes then r else s) (if yes then r' else s')
choice_same R true r s r' s' p q = p
choice_same R false r s r' s' p q = q

pub bounds_same : {A : Type 0} (at at' : Site) (o : Option A) → Answers {A = A} {B = A} Same (in_bounds at o) (in_bounds at' o)
bounds_same at at' None = refl
bounds_same at at' (Some a) = refl

pub as_whole_same : (v w : Value) → v ≡ w → Answers Same (as_whole v) (as_whole w)
as_whole_same v w e = subst (λ x. Answers Same (as_whole v) (as_whole x)) e (itself (as_whole v))

pub as_truth_same : (v w : Value) → v ≡ w → Answers Same (as_truth v) (as_truth w)
as_truth_same v w e = subst (λ x. Answers Same (as_truth v) (as_truth x)) e (itself (as_truth v))
