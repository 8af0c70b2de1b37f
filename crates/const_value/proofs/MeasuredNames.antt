-- What is measured of a name is what is known of it, where the names in its expressions are those of constants that are known.
use Rattle.std.proofs.Common.{◌≡◌, refl, sym, ◌∙◌, ap, cond, ℕ, ℤ, Bool, true, false, List, Option, Some, None}
use Rattle.std.specs.Prelude.{◌||◌}
use Rattle.std.specs.List.{list_any}
use Rattle.std.specs.Option.{is_none, option_map_or, option_and_then}
use Rattle.ftn_base.specs.declared.entity.Ty.{Ty}
use Rattle.ftn_tree.specs.declared.expr.Expr.{Expr}
use Rattle.ftn_tree.specs.declared.unit.FileTree.{FileTree}
use Rattle.ftn_tree.specs.declared.value.Value.{Value}
use Rattle.ftn_tree.specs.Circles.{expressions_for, is_circular}
use Rattle.ftn_tree.specs.Constants as spec
use Rattle.ftn_tree.specs.Constants.{Known, all_pairs, evaluated_in, is_empty_pair, known_by, known_of, naming_of}
use Rattle.ftn_tree.specs.Evaluations as names
use Rattle.ftn_tree.specs.Evaluations.{Evaluated}
use Rattle.ftn_tree.specs.KeyKinds as kinds
use Rattle.ftn_tree.specs.KeyKinds.{Datum, datum_of, is_constant, kind_of}
use Rattle.ftn_tree.specs.Meanings.{Key, own}
use Rattle.const_expr.specs.declared.naming.Naming.{Naming}
use Rattle.const_expr.specs.Namings.{evaluated_by}
use Rattle.const_value.specs.declared.measured.Measured.{Measured}
use Rattle.const_value.specs.declared.project.Project.{Project}
use Rattle.const_value.specs.steps.Evaluating.{declared_by, pairs_by, value_by}
use Rattle.const_value.specs.steps.Known.{measured_of, naming_seen}
use Rattle.const_value.specs.steps.Knowing.{known_bounds, measured_at, naming_for}
use Rattle.const_value.specs.steps.Measuring as steps
use Rattle.const_value.specs.steps.Numbered.{AreNumbered, IsNumbered}
use Rattle.const_value.specs.steps.Projects.{rank_of, row_in, sort_of, written_at}
use Rattle.const_value.specs.steps.References.{file_of}
use Rattle.const_value.specs.steps.Tied.{IsTied}
use Rattle.const_value.specs.steps.Written.{pairs}
use Rattle.const_value.proofs.ExpressionsFor.{Same, bounds_same, declared_same, value_same}
use Rattle.const_value.proofs.Rounds.{circular_unknown, known_by_all}

abbrev made : Option Ty → Option (List (ℤ × ℤ)) → Bool → Option Value → Measured
made type bounds empty value = record { ty = type; bounds = bounds; empty = empty; value = value }

pub alike : (t : Option Ty) (b : Option (List (ℤ × ℤ))) (e : Bool) (v : Option Value) (u : Option Ty) (c : Option (List (ℤ × ℤ))) (f : Bool) (w : Option Value)
    → t ≡ u → b ≡ c → e ≡ f → v ≡ w → made t b e v ≡ made u c f w
alike t b e v u c f w p q r s = ap (λ x. made x b e v) p ∙ ap (λ x. made u x e v) q ∙ ap (λ x. made u c x v) r ∙ ap (λ x. made u c f x) s

-- ---- one name

module _ (files : List FileTree) (p : Project) (n : ℕ) (d : Datum) (tied : IsTied files p n d) (namings : List Naming) where
  abbrev F : Expr → Evaluated
  F = evaluated_by (row_in p.rows.items (file_of p.names.items n)) namings

  abbrev G : Expr → Evaluated
  G = evaluated_in files (known_of files) d.scope.file

  module _ (same : Same F G (expressions_for files d)) where
    declared_is : steps.declared_type F p.bound.now p.names.items p.written.items n ≡ declared_by G files d
    declared_is = tied.declared F ∙ declared_same F G files d same

    bounds_are : steps.pairs_of F (pairs (written_at p.written.items n)) ≡ pairs_by G files d
    bounds_are = tied.bounds F ∙ bounds_same F G files d same

    value_is : steps.value_of F (sort_of p.bound.now p.names.items p.written.items n) (steps.declared_type F p.bound.now p.names.items p.written.items n) (written_at p.written.items n).value
        ≡ value_by G files d
    value_is =
        ap (λ (t : Option Ty). steps.value_of F (sort_of p.bound.now p.names.items p.written.items n) t (written_at p.written.items n).value) (tied.declared F)
        ∙ tied.value F ∙ value_same F G files d same

    -- of a constant that isn't defined by itself
    pub constant_measured : (numbered : AreNumbered files) (x : ℕ) → IsNumbered files (own d.scope d.name) x → is_constant (kind_of files (own d.scope d.name)) ≡ true
        → is_circular files (own d.scope d.name) ≡ false → measured_at p namings n true ≡ measured_of files (known_of files) d
    constant_measured numbered x number constant alone =
        let known : known_of files (own d.scope d.name) ≡ known_by files (known_of files) d = known_by_all files numbered (own d.scope d.name) x d number alone refl in
        alike (steps.declared_type F p.bound.now p.names.items p.written.items n) (all_pairs (steps.pairs_of F (pairs (written_at p.written.items n))))
        (list_any is_empty_pair (steps.pairs_of F (pairs (written_at p.written.items n))))
        (steps.value_of F (sort_of p.bound.now p.names.items p.written.items n) (steps.declared_type F p.bound.now p.names.items p.written.items n) (written_at p.written.items n).value)
        (declared_by G files d) (all_pairs (pairs_by G files d)) (list_any is_empty_pair (pairs_by G files d))
        (cond (is_constant (kind_of files (own d.scope d.name))) (known_of files (own d.scope d.name)).value None)
        declared_is (ap all_pairs bounds_are) (ap (list_any is_empty_pair) bounds_are)
        (value_is ∙ ap (λ (k : Known). k.value) (sym known) ∙ sym (ap (λ b. cond b (known_of files (own d.scope d.name)).value None) constant))

    -- of any other
    pub other_measured : cond (is_constant (kind_of files (own d.scope d.name))) (known_of files (own d.scope d.name)).value None ≡ None → measured_at p namings n false ≡ measured_of files (known_of files) d
    other_measured none =
        alike (steps.declared_type F p.bound.now p.names.items p.written.items n) (all_pairs (steps.pairs_of F (pairs (written_at p.written.items n))))
        (list_any is_empty_pair (steps.pairs_of F (pairs (written_at p.written.items n)))) None
        (declared_by G files d) (all_pairs (pairs_by G files d)) (list_any is_empty_pair (pairs_by G files d))
        (cond (is_constant (kind_of files (own d.scope d.name))) (known_of files (own d.scope d.name)).value None)
        declared_is (ap all_pairs bounds_are) (ap (list_any is_empty_pair) bounds_are) (sym none)

-- ---- what expressions are told of it

bounds_known : (type : Option Ty) (all : Option (List (ℤ × ℤ))) (empty : Bool) → cond (empty || is_none type) None all ≡ cond empty None (option_and_then (λ declared. all) type)
bounds_known type all true = refl
bounds_known None all false = refl
bounds_known (Some t) all false = refl

module _ (files : List FileTree) (p : Project) (n : ℕ) (d : Datum) (tied : IsTied files p n d) (numbered : AreNumbered files) (x : ℕ) (number : IsNumbered files (own d.scope d.name) x)
    (constant : is_constant (kind_of files (own d.scope d.name)) ≡ true) (alone : is_circular files (own d.scope d.name) ≡ false) where
  abbrev key : Key
  key = own d.scope d.name

  abbrev m : Measured
  m = measured_of files (known_of files) d

  known : known_of files key ≡ known_by files (known_of files) d
  known = known_by_all files numbered key x d number alone refl

  value_there : m.value ≡ (known_of files key).value
  value_there = ap (λ b. cond b (known_of files key).value None) constant

  bounds_there : known_bounds m ≡ (known_of files key).bounds
  bounds_there =
      bounds_known (spec.declared_type files (known_of files) d) (all_pairs (spec.pairs_of files (known_of files) d)) (list_any is_empty_pair (spec.pairs_of files (known_of files) d))
      ∙ ap (λ (k : Known). k.bounds) (sym known)

  rank_there : rank_of p.written.items n ≡ option_map_or (kinds.rank_of files) (datum_of files key) 0
  rank_there = tied.rank

  pub published : naming_seen (naming_for p n m) ≡ naming_of files (known_of files) (Some key)
  published =
      ap (λ (v : Option Value). names.Constant v (rank_of p.written.items n) (known_bounds m)) value_there
      ∙ ap (λ (r : ℕ). names.Constant (known_of files key).value r (known_bounds m)) rank_there
      ∙ ap (λ (b : Option (List (ℤ × ℤ))). names.Constant (known_of files key).value (option_map_or (kinds.rank_of files) (datum_of files key) 0) b) bounds_there
      ∙ sym (ap (λ b. cond b (names.Constant (known_of files key).value (option_map_or (kinds.rank_of files) (datum_of files key) 0) (known_of files key).bounds) names.Stray) constant)

-- ---- no value

pub no_value : (files : List FileTree) (d : Datum) (constant circular : Bool) → is_constant (kind_of files (own d.scope d.name)) ≡ constant
    → is_circular files (own d.scope d.name) ≡ circular → cond constant (cond circular false true) false ≡ false
    → cond (is_constant (kind_of files (own d.scope d.name))) (known_of files (own d.scope d.name)).value None ≡ None
no_value files d false circular is also not_valued = ap (λ b. cond b (known_of files (own d.scope d.name)).value None) is
no_value files d true true is also not_valued =
    ap (λ b. cond b (known_of files (own d.scope d.name)).value None) is ∙ ap (λ (k : Known). k.value) (circular_unknown files (own d.scope d.name) also)
no_value files d true false is also not_valued = absurd (cc not_valued)
