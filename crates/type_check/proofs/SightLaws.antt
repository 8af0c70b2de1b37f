-- What expressions are, by the firsts of what is told of their parts: operations, elements and substrings, and actual arguments.
use Rattle.std.proofs.Common.{◌≡◌, refl, sym, ◌∙◌, ap, ap₂, Bool, true, false, ℕ, List, [], ◌∷◌, ◌++◌, map, length, Option, Some, None, option_map}
use Rattle.std.specs.Prelude.{◌==◌, nat_lt, ◌&&◌, ◌||◌, not, if◌then◌else◌}
use Rattle.std.specs.List.{flat_map, zip}
use Rattle.std.specs.Option.{is_some, is_none, option_and_then, unwrap_or}
use Rattle.std.proofs.lemmas.List.{length-map}
use Rattle.std.proofs.lemmas.List.Concat.{flat_map-append}
use Rattle.ftn_base.specs.declared.fault.FaultKind.TheVariants.{WrongType, WrongCount, NotDefinable}
use Rattle.ftn_tree.specs.declared.operator.Operator.{Operator}
use Rattle.ftn_tree.specs.Sorts.{Text, same_sort, is_relation, sort_of_operator}
use Rattle.ftn_tree.specs.KeyKinds.{Kind, kind}
use Rattle.ftn_tree.specs.Procedures.{Formal}
use Rattle.ftn_tree.specs.ExpressionTypes as spec
use Rattle.ftn_tree.specs.ExpressionTypes.{Told, Typed, Standing, standing, no_reference, if_nothing, integer, logical, same_kind, may_be_compared, ends_of}
use Rattle.type_check.specs.steps.Kept.{first_told, seen}
use Rattle.type_check.specs.steps.Sights as sights
use Rattle.type_check.specs.steps.Sights.{sooner_told, told_where, kind_if, sight, among, in_range, given_told, range_seen}
use Rattle.type_check.proofs.FirstTold.{first_told_append, joined, told_if, chosen_told, kind_first, kinds_first, ends_first, given_first, pairs_first}

pub sights_alike :
    (first : ℕ) (how : Standing) (k l : Option Kind) (told more passed other : Option Told) → k ≡ l → told ≡ more → passed ≡ other →
    sight first k told passed how ≡ sight first l more other how
sights_alike first how k l told more passed other one two three =
    ap (λ x. sight first x told passed how) one ∙ ap (λ x. sight first l x passed how) two ∙ ap (λ x. sight first l more x how) three

-- where nothing is told it has that type
pub outcome_seen :
    (first : ℕ) (k : Kind) (told passed : List Told) (how : Standing) (t p : Option Told) → first_told told ≡ t → first_told passed ≡ p →
    seen (spec.outcome first (if_nothing told k) told passed how) ≡ sight first (kind_if t k) t p how
outcome_seen first k told passed how t p one other =
    sights_alike first how (if_nothing told k) (kind_if t k) (first_told told) t (first_told passed) p (kind_first told k ∙ ap (λ x. kind_if x k) one) one other

-- ---- operations

pub wanted_seen : (k : Kind) (t : Typed) → first_told (spec.wanted k t) ≡ sights.wanted k (seen t)
wanted_seen k t =
    joined t.told (spec.if_told (spec.fails (same_kind k) t) WrongType t.first) (first_told t.told) (told_where (sights.fails (same_kind k) (seen t)) WrongType t.first) refl
    (told_if (spec.fails (same_kind k) t) WrongType t.first)

pub in_parens_seen : (token : ℕ) (t : Typed) → seen (spec.in_parens token t) ≡ sights.in_parens token (seen t)
in_parens_seen token t = refl

pub unary_seen : (op : ℕ) (operator : Operator) (t : Typed) → seen (spec.unary_typed op operator t) ≡ sights.unary_typed op operator (seen t)
unary_seen op operator t =
    outcome_seen op (kind (sort_of_operator operator) 0) (spec.wanted (kind (sort_of_operator operator) 0) t) t.passed no_reference
    (sights.wanted (kind (sort_of_operator operator) 0) (seen t)) (first_told t.passed) (wanted_seen (kind (sort_of_operator operator) 0) t) refl

compared_seen : (t : Typed) → first_told (spec.compared t) ≡ sights.compared (seen t)
compared_seen t =
    joined t.told (spec.if_told (spec.fails may_be_compared t) WrongType t.first) (first_told t.told) (told_where (sights.fails may_be_compared (seen t)) WrongType t.first) refl
    (told_if (spec.fails may_be_compared t) WrongType t.first)

relation_seen : (l r : Typed) → seen (spec.relation_typed l r) ≡ sights.relation_typed (seen l) (seen r)
relation_seen l r =
    outcome_seen l.first logical (spec.compared l ++ (spec.compared r ++ spec.if_told (spec.differ l.kind r.kind) WrongType l.first)) (l.passed ++ r.passed) no_reference
    (sooner_told (sights.compared (seen l)) (sooner_told (sights.compared (seen r)) (told_where (spec.differ l.kind r.kind) WrongType l.first)))
    (sooner_told (first_told l.passed) (first_told r.passed))
    (joined (spec.compared l) (spec.compared r ++ spec.if_told (spec.differ l.kind r.kind) WrongType l.first) (sights.compared (seen l))
    (sooner_told (sights.compared (seen r)) (told_where (spec.differ l.kind r.kind) WrongType l.first)) (compared_seen l)
    (joined (spec.compared r) (spec.if_told (spec.differ l.kind r.kind) WrongType l.first) (sights.compared (seen r))
    (told_where (spec.differ l.kind r.kind) WrongType l.first) (compared_seen r) (told_if (spec.differ l.kind r.kind) WrongType l.first)))
    (first_told_append l.passed r.passed)

other_seen : (operator : Operator) (l r : Typed) → seen (spec.other_typed operator l r) ≡ sights.other_typed operator (seen l) (seen r)
other_seen operator l r =
    let want = kind (sort_of_operator operator) 0 in
    outcome_seen l.first want (spec.wanted want l ++ spec.wanted want r) (l.passed ++ r.passed) no_reference (sooner_told (sights.wanted want (seen l)) (sights.wanted want (seen r)))
    (sooner_told (first_told l.passed) (first_told r.passed))
    (joined (spec.wanted want l) (spec.wanted want r) (sights.wanted want (seen l)) (sights.wanted want (seen r)) (wanted_seen want l) (wanted_seen want r))
    (first_told_append l.passed r.passed)

pub binary_seen : (operator : Operator) (l r : Typed) → seen (spec.binary_typed operator l r) ≡ sights.binary_typed operator (seen l) (seen r)
binary_seen operator l r = by (is_relation operator) where
  by : (b : Bool) → seen (if b then spec.relation_typed l r else spec.other_typed operator l r)
      ≡ (if b then sights.relation_typed (seen l) (seen r) else sights.other_typed operator (seen l) (seen r))
  by true = relation_seen l r
  by false = other_seen operator l r

-- ---- what is passed in parts, and ends of ranges

pub passed_ends : (ts : List Typed) (range : spec.Range) → first_told (spec.all_passed (ts ++ ends_of range)) ≡ sooner_told (first_told (spec.all_passed ts)) (in_range sights.passed_of (range_seen range))
passed_ends ts range =
    ap first_told (flat_map-append (λ (t : Typed). t.passed) ts (ends_of range))
    ∙ joined (spec.all_passed ts) (spec.all_passed (ends_of range)) (first_told (spec.all_passed ts)) (in_range sights.passed_of (range_seen range)) refl
    (ends_first sights.passed_of (λ (t : Typed). t.passed) (λ t. refl) range)

pub range_first : (range : spec.Range) → first_told (spec.range_told range) ≡ in_range (sights.wanted integer) (range_seen range)
range_first range = ends_first (sights.wanted integer) (spec.wanted integer) (wanted_seen integer) range

pub ranged : (range : spec.Range) → is_some range ≡ is_some (range_seen range)
ranged None = refl
ranged (Some (low, high)) = refl

-- ---- elements and substrings

count_first : (name rank : ℕ) (given : Option (List Typed)) → first_told (spec.count_told name rank given) ≡ sights.count_told name rank (option_map (map seen) given)
count_first name rank None = refl
count_first name rank (Some ts) =
    joined (spec.if_told (not (length ts == rank)) WrongCount name) (spec.if_told ((length ts == 0) && (rank == 0)) WrongType name)
    (told_where (not (length ts == rank)) WrongCount name) (told_where ((length ts == 0) && (rank == 0)) WrongType name)
    (told_if (not (length ts == rank)) WrongCount name) (told_if ((length ts == 0) && (rank == 0)) WrongType name)
    ∙ ap (λ n. sooner_told (told_where (not (n == rank)) WrongCount name) (told_where ((n == 0) && (rank == 0)) WrongType name)) (sym (length-map ts seen))

ranged_first :
    (name : ℕ) (k : Kind) (given : Option (List Typed)) (range : spec.Range) →
    first_told (spec.ranged_told name k given range) ≡ sights.ranged_told name k (is_none (option_map (map seen) given)) (range_seen range)
ranged_first name k given None = refl
ranged_first name k None (Some (low, high)) = told_if (not (same_sort k.sort Text) || (true && nat_lt 0 k.rank)) WrongType name
ranged_first name k (Some ts) (Some (low, high)) = told_if (not (same_sort k.sort Text) || (false && nat_lt 0 k.rank)) WrongType name

data_first :
    (name : ℕ) (k : Kind) (given : Option (List Typed)) (range : spec.Range) →
    first_told (spec.data_told name k given range) ≡ sights.data_told name k (option_map (map seen) given) (range_seen range)
data_first name k given range =
    joined (flat_map (spec.wanted integer) (unwrap_or given [])) (spec.range_told range ++ (spec.count_told name k.rank given ++ spec.ranged_told name k given range))
    (given_told (sights.wanted integer) (option_map (map seen) given))
    (sooner_told (in_range (sights.wanted integer) (range_seen range))
    (sooner_told (sights.count_told name k.rank (option_map (map seen) given)) (sights.ranged_told name k (is_none (option_map (map seen) given)) (range_seen range))))
    (given_first (sights.wanted integer) (spec.wanted integer) (wanted_seen integer) given)
    (joined (spec.range_told range) (spec.count_told name k.rank given ++ spec.ranged_told name k given range) (in_range (sights.wanted integer) (range_seen range))
    (sooner_told (sights.count_told name k.rank (option_map (map seen) given)) (sights.ranged_told name k (is_none (option_map (map seen) given)) (range_seen range)))
    (range_first range)
    (joined (spec.count_told name k.rank given) (spec.ranged_told name k given range) (sights.count_told name k.rank (option_map (map seen) given))
    (sights.ranged_told name k (is_none (option_map (map seen) given)) (range_seen range)) (count_first name k.rank given) (ranged_first name k given range)))

data_passed :
    (given : Option (List Typed)) (range : spec.Range) →
    first_told (spec.all_passed (unwrap_or given [] ++ ends_of range)) ≡ sooner_told (given_told sights.passed_of (option_map (map seen) given)) (in_range sights.passed_of (range_seen range))
data_passed given range =
    passed_ends (unwrap_or given []) range
    ∙ ap (λ x. sooner_told x (in_range sights.passed_of (range_seen range))) (given_first sights.passed_of (λ (t : Typed). t.passed) (λ t. refl) given)

data_made :
    (name : ℕ) (k : Kind) (given : Option (List Typed)) (range : spec.Range) (how : Standing) →
    seen (spec.outcome name (if_nothing (spec.data_told name k given range) (spec.kind_with k given)) (spec.data_told name k given range)
    (spec.all_passed (unwrap_or given [] ++ ends_of range)) how)
    ≡ sight name (kind_if (sights.data_told name k (option_map (map seen) given) (range_seen range)) (spec.kind_with k given))
    (sights.data_told name k (option_map (map seen) given) (range_seen range))
    (sooner_told (given_told sights.passed_of (option_map (map seen) given)) (in_range sights.passed_of (range_seen range))) how
data_made name k given range how =
    outcome_seen name (spec.kind_with k given) (spec.data_told name k given range) (spec.all_passed (unwrap_or given [] ++ ends_of range)) how
    (sights.data_told name k (option_map (map seen) given) (range_seen range))
    (sooner_told (given_told sights.passed_of (option_map (map seen) given)) (in_range sights.passed_of (range_seen range))) (data_first name k given range)
    (data_passed given range)

pub data_seen :
    (name : ℕ) (k : Kind) (may : Bool) (given : Option (List Typed)) (range : spec.Range) →
    seen (spec.data_typed name k may given range) ≡ sights.data_typed name k may (option_map (map seen) given) (range_seen range)
data_seen name k may None None = data_made name k None None (standing true false true may)
data_seen name k may None (Some (low, high)) = data_made name k None (Some (low, high)) (standing true false true may)
data_seen name k may (Some ts) None = data_made name k (Some ts) None (standing true (nat_lt 0 k.rank) true may)
data_seen name k may (Some ts) (Some (low, high)) = data_made name k (Some ts) (Some (low, high)) (standing true false true may)

-- ---- actual arguments

pub argument_told_seen : (t : Typed) → first_told (spec.argument_told t) ≡ sights.argument_told (seen t)
argument_told_seen t =
    joined t.told (spec.if_told (sights.is_array_made (seen t)) WrongType t.first) (first_told t.told) (told_where (sights.is_array_made (seen t)) WrongType t.first) refl
    (told_if (sights.is_array_made (seen t)) WrongType t.first)

pub argument_seen : (t : Typed) → seen (spec.argument t) ≡ sights.argument (seen t)
argument_seen t =
    sights_alike t.first t.standing (option_and_then (if_nothing (spec.argument_told t)) t.kind) (option_and_then (kind_if (sights.argument_told (seen t))) t.kind)
    (first_told (spec.argument_told t)) (sights.argument_told (seen t)) (first_told t.passed) (first_told t.passed)
    (kinds_first (spec.argument_told t) t.kind ∙ ap (λ x. option_and_then (kind_if x) t.kind) (argument_told_seen t)) (argument_told_seen t) refl

pub arguments_seen : (ts : List Typed) → map seen (map spec.argument ts) ≡ map sights.argument (map seen ts)
arguments_seen [] = refl
arguments_seen (t ∷ ts) = ap₂ (λ s ss. s ∷ ss) (argument_seen t) (arguments_seen ts)

misfit_seen : (formal : Formal) (t : Typed) → first_told (spec.misfit (formal, t)) ≡ sights.misfit formal (seen t)
misfit_seen formal t = told_if (spec.fails (spec.takes formal.kind t.standing.element) t) WrongType t.first

pub misfits_seen : (name : ℕ) (formals : List Formal) (ts : List Typed) → first_told (spec.misfits name formals ts) ≡ sights.misfits name formals (map seen ts)
misfits_seen name formals ts =
    chosen_told (length formals == length ts) (flat_map spec.misfit (zip formals ts)) ((WrongCount, name) ∷ []) (sights.among_pairs sights.misfit formals (map seen ts))
    (Some (WrongCount, name)) (pairs_first sights.misfit spec.misfit misfit_seen formals ts) refl
    ∙ ap (λ n. if length formals == n then sights.among_pairs sights.misfit formals (map seen ts) else Some (WrongCount, name)) (sym (length-map ts seen))

undefinable_seen : (formal : Formal) (t : Typed) → first_told (spec.undefinable (formal, t)) ≡ sights.undefinable formal (seen t)
undefinable_seen formal t = told_if (formal.out && is_some t.kind && not t.standing.definable) NotDefinable t.first

pub undefinables_seen : (formals : List Formal) (ts : List Typed) → first_told (spec.undefinables formals ts) ≡ sights.undefinables formals (map seen ts)
undefinables_seen formals ts =
    chosen_told (length formals == length ts) (flat_map spec.undefinable (zip formals ts)) [] (sights.among_pairs sights.undefinable formals (map seen ts)) None
    (pairs_first sights.undefinable spec.undefinable undefinable_seen formals ts) refl
    ∙ ap (λ n. if length formals == n then sights.among_pairs sights.undefinable formals (map seen ts) else None) (sym (length-map ts seen))
