-- One name after the other is measured.
use Rattle.std.proofs.Common.{◌≡◌, refl, sym, ◌∙◌, ap, ap₂, ℕ, ◌+◌, ◌<◌, Bool, true, false, cond, List, [], ◌∷◌, ◌++◌, length, get_or, fold, take, Option, None, length-set}
use Rattle.std.proofs.lemmas.List.{take_more}
use Rattle.std.proofs.lemmas.List.FromFn.{length-map-range_with_len}
use Rattle.std.proofs.lemmas.List.Sums.{fold-append}
use Rattle.std.specs.List.{list_any}
use Rattle.ftn_base.specs.declared.entity.Ty.{Ty}
use Rattle.ftn_tree.specs.declared.expr.Expr.{Expr}
use Rattle.ftn_tree.specs.Constants.{all_pairs, is_empty_pair}
use Rattle.ftn_tree.specs.Evaluations.{Evaluated}
use Rattle.const_expr.specs.declared.naming.Naming.{Naming}
use Rattle.const_expr.specs.Namings.{evaluated_by}
use Rattle.const_value.specs.declared.circles.Circles.{Circles}
use Rattle.const_value.specs.declared.measured.Measured.{Measured}
use Rattle.const_value.specs.declared.project.Project.{Project}
use Rattle.const_value.specs.declared.view.View.{View}
use Rattle.const_value.specs.steps.Knowing.{Knowing, is_valued, measure, measure_constant, measure_other, measured_at, nothing, publish, unknown}
use Rattle.const_value.specs.steps.Measuring as steps
use Rattle.const_value.specs.steps.Measuring.{given}
use Rattle.const_value.specs.steps.Projects.{row_in, sort_of, written_at}
use Rattle.const_value.specs.steps.References.{file_of}
use Rattle.const_value.specs.steps.Written.{pairs}
use Rattle.const_value.proofs.MeasuredNames.{alike}

pub turn : (f : Knowing → ℕ → Knowing) (first before after : Knowing) (order : List ℕ) (i n : ℕ) → i < length order → n ≡ get_or order i n → before ≡ fold f first (take i order) → after ≡ f before n
    → after ≡ fold f first (take (i + 1) order)
turn f first before after order i n less at is made =
    made ∙ ap (λ all. f all n) is ∙ sym (fold-append f first (take i order) (n ∷ []))
    ∙ ap (λ xs. fold f first (take i order ++ xs)) (ap (λ (k : ℕ). k ∷ []) at) ∙ ap (fold f first) (sym (take_more order i n less))

measure_long : (p : Project) (all : Knowing) (n : ℕ) (valued : Bool) → length (measure p all n valued).known ≡ length all.known
measure_long p all n valued = length-set all.known n (measured_at p all.namings n valued)

pub constant_long : (p : Project) (c : Circles) (before after : Knowing) (n count : ℕ) → length before.known ≡ count → after ≡ measure_constant p c before n → length after.known ≡ count
constant_long p c before after n count long is = ap (λ (all : Knowing). length all.known) is ∙ by (is_valued p c n) ∙ long where
  by : (b : Bool) → length (cond b (publish p (measure p before n true) n) before).known ≡ length before.known
  by true = measure_long p before n true
  by false = refl

pub other_long : (p : Project) (c : Circles) (before after : Knowing) (n count : ℕ) → length before.known ≡ count → after ≡ measure_other p c before n → length after.known ≡ count
other_long p c before after n count long is = ap (λ (all : Knowing). length all.known) is ∙ by (is_valued p c n) ∙ long where
  by : (b : Bool) → length (cond b before (measure p before n false)).known ≡ length before.known
  by true = refl
  by false = measure_long p before n false

-- ---- what is measured of a name

made_same : (p : Project) (view : View) (all : List Naming) (n : ℕ) → view.project.now ≡ p → view.names.row.now ≡ row_in p.rows.items (file_of p.names.items n) → view.names.namings.now ≡ all
    → given view ≡ evaluated_by (row_in p.rows.items (file_of p.names.items n)) all
made_same p view all n project row namings = ap₂ (λ r ns. evaluated_by r ns) row namings

pub measured_made : (p : Project) (view : View) (all : List Naming) (n : ℕ) (valued : Bool) (made : Measured) → view.project.now ≡ p → view.names.row.now ≡ row_in p.rows.items (file_of p.names.items n)
    → view.names.namings.now ≡ all
    → made.ty ≡ steps.declared_type (given view) view.project.now.bound.now view.project.now.names.items view.project.now.written.items n
    → made.bounds ≡ all_pairs (steps.pairs_of (given view) (pairs (written_at view.project.now.written.items n)))
    → made.empty ≡ list_any is_empty_pair (steps.pairs_of (given view) (pairs (written_at view.project.now.written.items n)))
    → made.value ≡ cond valued (steps.value_of (given view) (sort_of view.project.now.bound.now view.project.now.names.items view.project.now.written.items n) made.ty (written_at view.project.now.written.items n).value) None
    → made ≡ measured_at p all n valued
measured_made p view all n valued made project row namings type bounds empty value =
    let same : given view ≡ evaluated_by (row_in p.rows.items (file_of p.names.items n)) all = made_same p view all n project row namings in
    let F : Expr → Evaluated = evaluated_by (row_in p.rows.items (file_of p.names.items n)) all in
    let type_is : made.ty ≡ steps.declared_type F p.bound.now p.names.items p.written.items n =
    type ∙ ap₂ (λ (g : Expr → Evaluated) (q : Project). steps.declared_type g q.bound.now q.names.items q.written.items n) same project in
    let pairs_are : steps.pairs_of (given view) (pairs (written_at view.project.now.written.items n)) ≡ steps.pairs_of F (pairs (written_at p.written.items n)) =
    ap₂ (λ (g : Expr → Evaluated) (q : Project). steps.pairs_of g (pairs (written_at q.written.items n))) same project in
    let value_is : made.value ≡ cond valued (steps.value_of F (sort_of p.bound.now p.names.items p.written.items n) (steps.declared_type F p.bound.now p.names.items p.written.items n) (written_at p.written.items n).value) None =
    value
    ∙ ap₂ (λ (g : Expr → Evaluated) (q : Project). cond valued (steps.value_of g (sort_of q.bound.now q.names.items q.written.items n) made.ty (written_at q.written.items n).value) None) same project
    ∙ ap (λ (t : Option Ty). cond valued (steps.value_of F (sort_of p.bound.now p.names.items p.written.items n) t (written_at p.written.items n).value) None) type_is in
    alike made.ty made.bounds made.empty made.value (steps.declared_type F p.bound.now p.names.items p.written.items n) (all_pairs (steps.pairs_of F (pairs (written_at p.written.items n))))
    (list_any is_empty_pair (steps.pairs_of F (pairs (written_at p.written.items n))))
    (cond valued (steps.value_of F (sort_of p.bound.now p.names.items p.written.items n) (steps.declared_type F p.bound.now p.names.items p.written.items n) (written_at p.written.items n).value) None)
    type_is (bounds ∙ ap all_pairs pairs_are) (empty ∙ ap (list_any is_empty_pair) pairs_are) value_is

pub nothing_long : (p : Project) (all : Knowing) → all ≡ nothing p → length all.known ≡ length p.names.items
nothing_long p all is = ap (λ (k : Knowing). length k.known) is ∙ length-map-range_with_len (λ (name : ℕ). unknown) 0 (length p.names.items)
