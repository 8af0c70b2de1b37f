-- Operators and intrinsic functions give values of the types that expressions with them have.
use Rattle.std.proofs.Common.{◌≡◌, ℕ, List, [], ◌∷◌, length, map, sym, ap, ◌∙◌}
use Rattle.std.specs.Prelude.{ℤ, pos, unsigned_abs, Bool, true, false, if◌then◌else◌, int_le, int_lt, Some, Result, Ok, Err}
use Rattle.ftn_base.specs.declared.arithmetic.ArithmeticFault.{ArithmeticFault}
use Rattle.ftn_base.specs.declared.arithmetic.ArithmeticFault.TheVariants as arithmetic
use Rattle.ftn_base.specs.Arithmetic.{kept, sum, difference, product, quotient, power, negative}
use Rattle.ftn_tree.specs.declared.intrinsic.Intrinsic.{Intrinsic}
use Rattle.ftn_tree.specs.declared.intrinsic.Intrinsic.TheVariants as function
use Rattle.ftn_tree.specs.declared.intrinsic.ValueFault.{ValueFault}
use Rattle.ftn_tree.specs.declared.intrinsic.ValueFault.TheVariants.{OutOfRange}
use Rattle.ftn_tree.specs.declared.value.Value.{Value}
use Rattle.ftn_tree.specs.declared.value.Value.TheVariants as value
use Rattle.ftn_tree.specs.declared.operator.Operator.{Operator}
use Rattle.ftn_tree.specs.declared.operator.Operator.TheVariants as operator
use Rattle.ftn_tree.specs.Sorts.{Sort, Whole, Truth, Text, sort_of_value}
use Rattle.ftn_tree.specs.Operations as values
use Rattle.ftn_tree.specs.Intrinsics.{remainder, signed, lesser, greater, picked, trimmed, index_from, code_of, char_of, of_number, of_text, of_numbers, of_pair, intrinsic_value}
use Rattle.core_prog.specs.declared.site.Site.{Site}
use Rattle.core_prog.specs.Operations.{placed, unary_of, binary_of, intrinsic_of}
use Rattle.core_prog.specs.Sorts.{if_so, are_all_wholes}
use Rattle.core_prog.specs.Sorts as sorts

abbrev Gave : Value → Result Value ValueFault → Type 0
Gave v r = r ≡ Ok v

placed_ok : (at : Site) (r : Result Value ValueFault) (v : Value) → placed at r ≡ Ok v → Gave v r
placed_ok at (Ok w) v e = let same : w ≡ v = cc e in ap Ok same
placed_ok at (Err fault) v e = absurd (cc e)

agreed : (v : Value) (s sort : Sort) → sort_of_value v ≡ s → Some s ≡ Some sort → sort_of_value v ≡ sort
agreed v s sort e f = let same : s ≡ sort = cc f in e ∙ same

is_truth : (b : Bool) (v : Value) → Gave v (Ok (value.Truth b)) → sort_of_value v ≡ Truth
is_truth b v e = let same : value.Truth b ≡ v = cc e in ap sort_of_value (sym same)

is_whole : (z : ℤ) (v : Value) → Gave v (Ok (value.Whole z)) → sort_of_value v ≡ Whole
is_whole z v e = let same : value.Whole z ≡ v = cc e in ap sort_of_value (sym same)

is_text : (text : List ℕ) (v : Value) → Gave v (Ok (value.Chars text)) → sort_of_value v ≡ Text
is_text text v e = let same : value.Chars text ≡ v = cc e in ap sort_of_value (sym same)

whole_sort : (r : Result ℤ ArithmeticFault) (v : Value) → Gave v (values.whole_of r) → sort_of_value v ≡ Whole
whole_sort (Ok z) v e = is_whole z v e
whole_sort (Err arithmetic.Overflow) v e = absurd (cc e)
whole_sort (Err arithmetic.Zero) v e = absurd (cc e)

-- ---- operators

wholes_sort : (o : Operator) (a b : ℤ) (v : Value) (sort : Sort) → sorts.of_two o Whole Whole ≡ Some sort → Gave v (values.of_wholes o a b) → sort_of_value v ≡ sort
wholes_sort operator.Power a b v sort e f = agreed v Whole sort (whole_sort (power a b) v f) e
wholes_sort operator.Times a b v sort e f = agreed v Whole sort (whole_sort (product a b) v f) e
wholes_sort operator.Divide a b v sort e f = agreed v Whole sort (whole_sort (quotient a b) v f) e
wholes_sort operator.Plus a b v sort e f = agreed v Whole sort (whole_sort (sum a b) v f) e
wholes_sort operator.Minus a b v sort e f = agreed v Whole sort (whole_sort (difference a b) v f) e
wholes_sort operator.Concat a b v sort e f = absurd (cc e)
wholes_sort operator.Eq a b v sort e f = agreed v Truth sort (is_truth _ v f) e
wholes_sort operator.Ne a b v sort e f = agreed v Truth sort (is_truth _ v f) e
wholes_sort operator.Lt a b v sort e f = agreed v Truth sort (is_truth _ v f) e
wholes_sort operator.Le a b v sort e f = agreed v Truth sort (is_truth _ v f) e
wholes_sort operator.Gt a b v sort e f = agreed v Truth sort (is_truth _ v f) e
wholes_sort operator.Ge a b v sort e f = agreed v Truth sort (is_truth _ v f) e
wholes_sort operator.Not a b v sort e f = absurd (cc e)
wholes_sort operator.And a b v sort e f = absurd (cc e)
wholes_sort operator.Or a b v sort e f = absurd (cc e)
wholes_sort operator.Eqv a b v sort e f = absurd (cc e)
wholes_sort operator.Neqv a b v sort e f = absurd (cc e)

truths_sort : (o : Operator) (a b : Bool) (v : Value) (sort : Sort) → sorts.of_two o Truth Truth ≡ Some sort → Gave v (values.of_truths o a b) → sort_of_value v ≡ sort
truths_sort operator.Power a b v sort e f = absurd (cc e)
truths_sort operator.Times a b v sort e f = absurd (cc e)
truths_sort operator.Divide a b v sort e f = absurd (cc e)
truths_sort operator.Plus a b v sort e f = absurd (cc e)
truths_sort operator.Minus a b v sort e f = absurd (cc e)
truths_sort operator.Concat a b v sort e f = absurd (cc e)
truths_sort operator.Eq a b v sort e f = absurd (cc e)
truths_sort operator.Ne a b v sort e f = absurd (cc e)
truths_sort operator.Lt a b v sort e f = absurd (cc e)
truths_sort operator.Le a b v sort e f = absurd (cc e)
truths_sort operator.Gt a b v sort e f = absurd (cc e)
truths_sort operator.Ge a b v sort e f = absurd (cc e)
truths_sort operator.Not a b v sort e f = absurd (cc e)
truths_sort operator.And a b v sort e f = agreed v Truth sort (is_truth _ v f) e
truths_sort operator.Or a b v sort e f = agreed v Truth sort (is_truth _ v f) e
truths_sort operator.Eqv a b v sort e f = agreed v Truth sort (is_truth _ v f) e
truths_sort operator.Neqv a b v sort e f = agreed v Truth sort (is_truth _ v f) e

texts_sort : (o : Operator) (a b : List ℕ) (v : Value) (sort : Sort) → sorts.of_two o Text Text ≡ Some sort → Gave v (values.of_texts o a b) → sort_of_value v ≡ sort
texts_sort operator.Power a b v sort e f = absurd (cc e)
texts_sort operator.Times a b v sort e f = absurd (cc e)
texts_sort operator.Divide a b v sort e f = absurd (cc e)
texts_sort operator.Plus a b v sort e f = absurd (cc e)
texts_sort operator.Minus a b v sort e f = absurd (cc e)
texts_sort operator.Concat a b v sort e f = agreed v Text sort (is_text _ v f) e
texts_sort operator.Eq a b v sort e f = agreed v Truth sort (is_truth _ v f) e
texts_sort operator.Ne a b v sort e f = agreed v Truth sort (is_truth _ v f) e
texts_sort operator.Lt a b v sort e f = agreed v Truth sort (is_truth _ v f) e
texts_sort operator.Le a b v sort e f = agreed v Truth sort (is_truth _ v f) e
texts_sort operator.Gt a b v sort e f = agreed v Truth sort (is_truth _ v f) e
texts_sort operator.Ge a b v sort e f = agreed v Truth sort (is_truth _ v f) e
texts_sort operator.Not a b v sort e f = absurd (cc e)
texts_sort operator.And a b v sort e f = absurd (cc e)
texts_sort operator.Or a b v sort e f = absurd (cc e)
texts_sort operator.Eqv a b v sort e f = absurd (cc e)
texts_sort operator.Neqv a b v sort e f = absurd (cc e)

two_sort : (o : Operator) (x y v : Value) (sort : Sort) → sorts.of_two o (sort_of_value x) (sort_of_value y) ≡ Some sort → Gave v (values.binary_of o x y) → sort_of_value v ≡ sort
two_sort o (value.Whole a) (value.Whole b) v sort e f = wholes_sort o a b v sort e f
two_sort o (value.Whole a) (value.Truth b) v sort e f = absurd (cc e)
two_sort o (value.Whole a) (value.Chars b) v sort e f = absurd (cc e)
two_sort o (value.Truth a) (value.Whole b) v sort e f = absurd (cc e)
two_sort o (value.Truth a) (value.Truth b) v sort e f = truths_sort o a b v sort e f
two_sort o (value.Truth a) (value.Chars b) v sort e f = absurd (cc e)
two_sort o (value.Chars a) (value.Whole b) v sort e f = absurd (cc e)
two_sort o (value.Chars a) (value.Truth b) v sort e f = absurd (cc e)
two_sort o (value.Chars a) (value.Chars b) v sort e f = texts_sort o a b v sort e f

pub binary_sort : (at : Site) (o : Operator) (x y v : Value) (s t sort : Sort) → sort_of_value x ≡ s → sort_of_value y ≡ t → sorts.of_two o s t ≡ Some sort → binary_of at o x y ≡ Ok v → sort_of_value v ≡ sort
binary_sort at o x y v s t sort p q e f = two_sort o x y v sort (ap (λ z. sorts.of_two o z (sort_of_value y)) p ∙ ap (sorts.of_two o s) q ∙ e) (placed_ok at (values.binary_of o x y) v f)

sign_sort : (o : Operator) (a : ℤ) (v : Value) (sort : Sort) → sorts.of_one o Whole ≡ Some sort → Gave v (values.sign_of o a) → sort_of_value v ≡ sort
sign_sort operator.Power a v sort e f = absurd (cc e)
sign_sort operator.Times a v sort e f = absurd (cc e)
sign_sort operator.Divide a v sort e f = absurd (cc e)
sign_sort operator.Plus a v sort e f = agreed v Whole sort (is_whole a v f) e
sign_sort operator.Minus a v sort e f = agreed v Whole sort (whole_sort (negative a) v f) e
sign_sort operator.Concat a v sort e f = absurd (cc e)
sign_sort operator.Eq a v sort e f = absurd (cc e)
sign_sort operator.Ne a v sort e f = absurd (cc e)
sign_sort operator.Lt a v sort e f = absurd (cc e)
sign_sort operator.Le a v sort e f = absurd (cc e)
sign_sort operator.Gt a v sort e f = absurd (cc e)
sign_sort operator.Ge a v sort e f = absurd (cc e)
sign_sort operator.Not a v sort e f = absurd (cc e)
sign_sort operator.And a v sort e f = absurd (cc e)
sign_sort operator.Or a v sort e f = absurd (cc e)
sign_sort operator.Eqv a v sort e f = absurd (cc e)
sign_sort operator.Neqv a v sort e f = absurd (cc e)

denial_sort : (o : Operator) (a : Bool) (v : Value) (sort : Sort) → sorts.of_one o Truth ≡ Some sort → Gave v (values.denial_of o a) → sort_of_value v ≡ sort
denial_sort operator.Power a v sort e f = absurd (cc e)
denial_sort operator.Times a v sort e f = absurd (cc e)
denial_sort operator.Divide a v sort e f = absurd (cc e)
denial_sort operator.Plus a v sort e f = absurd (cc e)
denial_sort operator.Minus a v sort e f = absurd (cc e)
denial_sort operator.Concat a v sort e f = absurd (cc e)
denial_sort operator.Eq a v sort e f = absurd (cc e)
denial_sort operator.Ne a v sort e f = absurd (cc e)
denial_sort operator.Lt a v sort e f = absurd (cc e)
denial_sort operator.Le a v sort e f = absurd (cc e)
denial_sort operator.Gt a v sort e f = absurd (cc e)
denial_sort operator.Ge a v sort e f = absurd (cc e)
denial_sort operator.Not a v sort e f = agreed v Truth sort (is_truth _ v f) e
denial_sort operator.And a v sort e f = absurd (cc e)
denial_sort operator.Or a v sort e f = absurd (cc e)
denial_sort operator.Eqv a v sort e f = absurd (cc e)
denial_sort operator.Neqv a v sort e f = absurd (cc e)

one_sort : (o : Operator) (x v : Value) (sort : Sort) → sorts.of_one o (sort_of_value x) ≡ Some sort → Gave v (values.unary_of o x) → sort_of_value v ≡ sort
one_sort o (value.Whole a) v sort e f = sign_sort o a v sort e f
one_sort o (value.Truth a) v sort e f = denial_sort o a v sort e f
one_sort o (value.Chars a) v sort e f = absurd (cc f)

pub unary_sort : (at : Site) (o : Operator) (x v : Value) (s sort : Sort) → sort_of_value x ≡ s → sorts.of_one o s ≡ Some sort → unary_of at o x ≡ Ok v → sort_of_value v ≡ sort
unary_sort at o x v s sort p e f = one_sort o x v sort (ap (sorts.of_one o) p ∙ e) (placed_ok at (values.unary_of o x) v f)

-- ---- intrinsic functions

code_sort : (a : List ℕ) (v : Value) → Gave v (code_of a) → sort_of_value v ≡ Whole
code_sort [] v e = absurd (cc e)
code_sort (byte ∷ []) v e = is_whole (pos byte) v e
code_sort (byte ∷ other ∷ bytes) v e = absurd (cc e)

char_sort : (z : ℤ) (v : Value) → Gave v (char_of z) → sort_of_value v ≡ Text
char_sort z v e = by_tests (int_le (pos 0) z) (int_lt z (pos 256)) e
  where
    by_tests : (p q : Bool) → Gave v (if p then (if q then Ok (value.Chars (unsigned_abs z ∷ [])) else Err OutOfRange) else Err OutOfRange) → sort_of_value v ≡ Text
    by_tests true true e = is_text (unsigned_abs z ∷ []) v e
    by_tests true false e = absurd (cc e)
    by_tests false q e = absurd (cc e)

picked_sort : (pick : ℤ → ℤ → ℤ) (z : ℤ) (rest : List Value) (v : Value) → Gave v (picked pick z rest) → sort_of_value v ≡ Whole
picked_sort pick z [] v e = is_whole z v e
picked_sort pick z (value.Whole y ∷ rest) v e = picked_sort pick (pick z y) rest v e
picked_sort pick z (value.Truth y ∷ rest) v e = absurd (cc e)
picked_sort pick z (value.Chars y ∷ rest) v e = absurd (cc e)

if_whole : (b : Bool) (sort : Sort) → if_so b Whole ≡ Some sort → Some Whole ≡ Some sort
if_whole true sort e = e
if_whole false sort e = absurd (cc e)

number_sort : (f : Intrinsic) (a : ℤ) (v : Value) (sort : Sort) → sorts.of_single f Whole ≡ Some sort → Gave v (of_number f a) → sort_of_value v ≡ sort
number_sort function.Abs a v sort e g = agreed v Whole sort (whole_sort (kept (pos (unsigned_abs a))) v g) e
number_sort function.Mod a v sort e g = absurd (cc e)
number_sort function.Sign a v sort e g = absurd (cc e)
number_sort function.Min a v sort e g = absurd (cc e)
number_sort function.Max a v sort e g = absurd (cc e)
number_sort function.Len a v sort e g = absurd (cc e)
number_sort function.LenTrim a v sort e g = absurd (cc e)
number_sort function.Trim a v sort e g = absurd (cc e)
number_sort function.Ichar a v sort e g = absurd (cc e)
number_sort function.Char a v sort e g = agreed v Text sort (char_sort a v g) e
number_sort function.Index a v sort e g = absurd (cc e)

text_sort : (f : Intrinsic) (a : List ℕ) (v : Value) (sort : Sort) → sorts.of_single f Text ≡ Some sort → Gave v (of_text f a) → sort_of_value v ≡ sort
text_sort function.Abs a v sort e g = absurd (cc e)
text_sort function.Mod a v sort e g = absurd (cc e)
text_sort function.Sign a v sort e g = absurd (cc e)
text_sort function.Min a v sort e g = absurd (cc e)
text_sort function.Max a v sort e g = absurd (cc e)
text_sort function.Len a v sort e g = agreed v Whole sort (whole_sort (kept (pos (length a))) v g) e
text_sort function.LenTrim a v sort e g = agreed v Whole sort (whole_sort (kept (pos (length (trimmed a)))) v g) e
text_sort function.Trim a v sort e g = agreed v Text sort (is_text (trimmed a) v g) e
text_sort function.Ichar a v sort e g = agreed v Whole sort (code_sort a v g) e
text_sort function.Char a v sort e g = absurd (cc e)
text_sort function.Index a v sort e g = absurd (cc e)

numbers_sort : (f : Intrinsic) (a b : ℤ) (rest : List Value) (v : Value) (sort : Sort) → sorts.of_several f Whole Whole (map sort_of_value rest) ≡ Some sort → Gave v (of_numbers f a b rest) → sort_of_value v ≡ sort
numbers_sort function.Abs a b rest v sort e g = absurd (cc e)
numbers_sort function.Mod a b [] v sort e g = agreed v Whole sort (whole_sort (remainder a b) v g) e
numbers_sort function.Mod a b (r ∷ rest) v sort e g = absurd (cc e)
numbers_sort function.Sign a b [] v sort e g = agreed v Whole sort (whole_sort (kept (signed a b)) v g) e
numbers_sort function.Sign a b (r ∷ rest) v sort e g = absurd (cc e)
numbers_sort function.Min a b rest v sort e g = agreed v Whole sort (picked_sort lesser (lesser a b) rest v g) (if_whole (are_all_wholes (map sort_of_value rest)) sort e)
numbers_sort function.Max a b rest v sort e g = agreed v Whole sort (picked_sort greater (greater a b) rest v g) (if_whole (are_all_wholes (map sort_of_value rest)) sort e)
numbers_sort function.Len a b rest v sort e g = absurd (cc e)
numbers_sort function.LenTrim a b rest v sort e g = absurd (cc e)
numbers_sort function.Trim a b rest v sort e g = absurd (cc e)
numbers_sort function.Ichar a b rest v sort e g = absurd (cc e)
numbers_sort function.Char a b rest v sort e g = absurd (cc e)
numbers_sort function.Index a b rest v sort e g = absurd (cc e)

pair_sort : (f : Intrinsic) (a b : List ℕ) (rest : List Value) (v : Value) (sort : Sort) → sorts.of_several f Text Text (map sort_of_value rest) ≡ Some sort → Gave v (of_pair f a b rest) → sort_of_value v ≡ sort
pair_sort function.Abs a b rest v sort e g = absurd (cc e)
pair_sort function.Mod a b rest v sort e g = absurd (cc e)
pair_sort function.Sign a b rest v sort e g = absurd (cc e)
pair_sort function.Min a b rest v sort e g = absurd (cc e)
pair_sort function.Max a b rest v sort e g = absurd (cc e)
pair_sort function.Len a b rest v sort e g = absurd (cc e)
pair_sort function.LenTrim a b rest v sort e g = absurd (cc e)
pair_sort function.Trim a b rest v sort e g = absurd (cc e)
pair_sort function.Ichar a b rest v sort e g = absurd (cc e)
pair_sort function.Char a b rest v sort e g = absurd (cc e)
pair_sort function.Index a b [] v sort e g = agreed v Whole sort (whole_sort (kept (pos (index_from 1 b a))) v g) e
pair_sort function.Index a b (r ∷ rest) v sort e g = absurd (cc e)

results_sort : (f : Intrinsic) (vs : List Value) (v : Value) (sort : Sort) → sorts.of_intrinsic f (map sort_of_value vs) ≡ Some sort → Gave v (intrinsic_value f vs) → sort_of_value v ≡ sort
results_sort f [] v sort e g = absurd (cc e)
results_sort f (value.Whole a ∷ []) v sort e g = number_sort f a v sort e g
results_sort f (value.Truth a ∷ []) v sort e g = absurd (cc g)
results_sort f (value.Chars a ∷ []) v sort e g = text_sort f a v sort e g
results_sort f (value.Whole a ∷ value.Whole b ∷ rest) v sort e g = numbers_sort f a b rest v sort e g
results_sort f (value.Whole a ∷ value.Truth b ∷ rest) v sort e g = absurd (cc g)
results_sort f (value.Whole a ∷ value.Chars b ∷ rest) v sort e g = absurd (cc g)
results_sort f (value.Truth a ∷ value.Whole b ∷ rest) v sort e g = absurd (cc g)
results_sort f (value.Truth a ∷ value.Truth b ∷ rest) v sort e g = absurd (cc g)
results_sort f (value.Truth a ∷ value.Chars b ∷ rest) v sort e g = absurd (cc g)
results_sort f (value.Chars a ∷ value.Whole b ∷ rest) v sort e g = absurd (cc g)
results_sort f (value.Chars a ∷ value.Truth b ∷ rest) v sort e g = absurd (cc g)
results_sort f (value.Chars a ∷ value.Chars b ∷ rest) v sort e g = pair_sort f a b rest v sort e g

pub intrinsic_sort : (at : Site) (f : Intrinsic) (vs : List Value) (v : Value) (ss : List Sort) (sort : Sort) → map sort_of_value vs ≡ ss → sorts.of_intrinsic f ss ≡ Some sort → intrinsic_of at f vs ≡ Ok v → sort_of_value v ≡ sort
intrinsic_sort at f vs v ss sort p e g = results_sort f vs v sort (ap (sorts.of_intrinsic f) p ∙ e) (placed_ok at (intrinsic_value f vs) v g)
