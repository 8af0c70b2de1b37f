-- What a run of one value gives an object of DATA, with counts as 64 bits hold them, is what it is defined to give.
use Rattle.std.proofs.Common.{◌≡◌, refl, sym, ◌∙◌, ap, ap₂, cond, ℕ, ◌+◌, ◌-◌, ◌*◌, ◌<◌, ◌≤◌, ◌^◌, Bool, true, false, List, [], ◌∷◌, ◌++◌, map, Option, Some, None, arith}
use Rattle.std.specs.Prelude.{min, max, nat_lt}
use Rattle.std.specs.List.{cons_option, flat_map}
use Rattle.std.specs.Option.{option_map, option_map_or, option_and_then}
use Rattle.std.proofs.Math.Nat.{mul_comm}
use Rattle.std.proofs.lemmas.Bool.{le-ltb, ltb-false, ltb-true}
use Rattle.std.proofs.lemmas.List.{map-append}
use Rattle.ftn_base.specs.declared.place.Span.{Span}
use Rattle.ftn_tree.specs.GlobalNames.{place}
use Rattle.ftn_tree.specs.declared.parts.DataValue.{DataValue}
use Rattle.ftn_tree.specs.declared.unit.FileTree.{FileTree}
use Rattle.ftn_tree.specs.declared.value.Given.{Given}
use Rattle.ftn_tree.specs.declared.value.Value.{Value}
use Rattle.ftn_tree.specs.Bindings.{entity_number}
use Rattle.ftn_tree.specs.Constants.{with_length}
use Rattle.ftn_tree.specs.DataTypes as types
use Rattle.ftn_tree.specs.DataTypes.{end_of}
use Rattle.ftn_tree.specs.EntityValues.{capped, numbered_given}
use Rattle.ftn_tree.specs.Givens as spec
use Rattle.ftn_tree.specs.Givens.{constant_value, gives, shared, units_of}
use Rattle.ftn_tree.specs.Scopes.{span_of}
use Rattle.const_value.specs.declared.given_runs.Run.{Run}
use Rattle.const_value.specs.steps.Giving as steps
use Rattle.const_value.specs.steps.Giving.{AreRowed, SupplyAs, constant_by, given_to, meeting, object_given, part_by, part_given, shared_by}
use Rattle.const_value.specs.steps.Runs.{limited}
use Rattle.const_value.specs.steps.Telling.{Sight}
use Rattle.const_value.proofs.Limits.{limited_plus, limited_times}

-- ---- numbers

pub capped_limited : (n : ℕ) → capped (limited n) ≡ capped n
capped_limited n = omega arith

first_same : (start k u : ℕ) → capped (limited (limited (limited start + k) * u)) ≡ capped ((start + k) * u)
first_same start k u =
    let swapped : limited start + k ≡ k + limited start = omega arith in
    let back : k + start ≡ start + k = omega arith in
    ap (λ n. capped (limited (n * u))) (ap limited swapped ∙ limited_plus k start ∙ ap limited back)
    ∙ ap (λ n. capped (limited n)) (mul_comm (limited (start + k)) u) ∙ ap capped (limited_times u (start + k)) ∙ ap (λ n. capped (limited n)) (mul_comm u (start + k))
    ∙ capped_limited ((start + k) * u)

module _ (f n r m : ℕ) (fits : r + m ≤ 2 ^ 64 - 1) where
  abbrev low : ℕ
  low = max f r

  abbrev high : ℕ
  high = min (f + n) (r + m)

  abbrev kept_low : ℕ
  kept_low = max (limited f) r

  abbrev kept_high : ℕ
  kept_high = min (limited (limited f + limited n)) (limited (r + m))

  pub both_meet : low < high → (kept_low ≡ low) × (kept_high ≡ high) × (limited f ≡ f)
  both_meet less = (omega (arith, less, fits), omega (arith, less, fits), omega (arith, less, fits))

  pub neither_meets : high ≤ low → kept_high ≤ kept_low
  neither_meets le = omega (arith, le, fits)

-- ---- an object and a run of one value, as both tell them

pub record IsObject (files : List FileTree) (o : steps.Object) (object : spec.Object) : Type 0 where
  pub entity : o.entity ≡ (entity_number files object.key).0
  pub token : o.token ≡ object.run.token
  pub ty : o.ty ≡ Some object.shape.ty
  pub start : o.start ≡ Some (limited object.start)
  pub from : o.run.from ≡ limited object.run.from
  pub count : o.run.count ≡ limited object.run.count

pub record IsSupply (files : List FileTree) (s : Sight) (file : ℕ) (supply : SupplyAs) (v : DataValue) (run : types.Run) : Type 0 where
  pub constant : constant_by s supply.constant ≡ constant_value files file v.constant
  pub from : supply.run.from ≡ run.from
  pub count : supply.run.count ≡ run.count
  pub fits : run.from + run.count ≤ 2 ^ 64 - 1

abbrev made : ℕ → ℕ → ℕ → Value → Span → Given
made entity first count v span = record { entity = record { 0 = entity }; first = first; count = count; value = v; span = span }

abbrev meeting_of : ℕ → ℕ → ℕ → ℕ → Option Run
meeting_of f n r m =
    cond (nat_lt (max f r) (min (limited (f + n)) (limited (r + m)))) (Some (record { from = max f r; count = min (limited (f + n)) (limited (r + m)) - max f r })) None

abbrev meeting_due : ℕ → ℕ → ℕ → ℕ → Option Run
meeting_due f n r m = cond (nat_lt (max f r) (min (f + n) (r + m))) (Some (record { from = max f r; count = min (f + n) (r + m) - max f r })) None

meeting_is : (f n r m : ℕ) → r + m ≤ 2 ^ 64 - 1 → meeting_of (limited f) (limited n) r m ≡ meeting_due f n r m
meeting_is f n r m fits = by (nat_lt (max f r) (min (f + n) (r + m))) refl where
  by : (b : Bool) → nat_lt (max f r) (min (f + n) (r + m)) ≡ b → meeting_of (limited f) (limited n) r m ≡ meeting_due f n r m
  by true e =
      let met = both_meet f n r m fits (ltb-true (max f r) (min (f + n) (r + m)) e) in
      ap₂ (λ l h. cond (nat_lt l h) (Some (record { from = l; count = h - l })) None) met.0 met.1
  by false e =
      let apart : nat_lt (max (limited f) r) (min (limited (limited f + limited n)) (limited (r + m))) ≡ false =
      le-ltb (max (limited f) r) (min (limited (limited f + limited n)) (limited (r + m))) (neither_meets f n r m fits (ltb-false (max f r) (min (f + n) (r + m)) e)) in
      ap (λ b. cond b (Some (record { from = max (limited f) r; count = min (limited (limited f + limited n)) (limited (r + m)) - max (limited f) r })) None) apart
      ∙ sym (ap (λ b. cond b (Some (record { from = max f r; count = min (f + n) (r + m) - max f r })) None) e)

-- all values of a group
abbrev pub AllSupplies : List FileTree → Sight → ℕ → List SupplyAs → List (DataValue × types.Run) → Type 0
AllSupplies files s file [] [] = Unit {0}
AllSupplies files s file (supply ∷ supplies) ((v, run) ∷ pairs) = IsSupply files s file supply v run × AllSupplies files s file supplies pairs
AllSupplies files s file _ _ = ⊥

module _ (files : List FileTree) (s : Sight) (file : ℕ) (trees : s.project.files.now ≡ files) (here : s.file ≡ file) where
  module _ (o : steps.Object) (object : spec.Object) (is : IsObject files o object) where
    module _ (supply : SupplyAs) (v : DataValue) (run : types.Run) (of : IsSupply files s file supply v run) where
      abbrev f : ℕ
      f = object.run.from

      abbrev n : ℕ
      n = object.run.count

      met : meeting o.run supply.run ≡ meeting_due f n run.from run.count
      met =
          ap₂ (λ a b. meeting_of a b supply.run.from supply.run.count) is.from is.count ∙ ap₂ (λ a b. meeting_of (limited f) (limited n) a b) of.from of.count ∙ meeting_is f n run.from run.count of.fits

      part_is : (part : Run) → part_by s o supply.constant part ≡ option_map (part_given s o object.shape.ty (limited object.start) part) (constant_value files file v.constant)
      part_is part =
          ap (λ t. option_and_then (λ known. option_and_then (λ start. option_map (part_given s o known start part) (constant_by s supply.constant)) o.start) t) is.ty
          ∙ ap (λ k. option_and_then (λ start. option_map (part_given s o object.shape.ty start part) (constant_by s supply.constant)) k) is.start
          ∙ ap (option_map (part_given s o object.shape.ty (limited object.start) part)) of.constant

      one_given : (val : Value) → max f run.from < min (f + n) (run.from + run.count)
          → part_given s o object.shape.ty (limited object.start) (record { from = max f run.from; count = min (f + n) (run.from + run.count) - max f run.from }) val
          ≡ made (entity_number files object.key).0 (capped ((object.start + (max f run.from - f)) * units_of object.shape.ty)) (capped (min (f + n) (run.from + run.count) - max f run.from)) (with_length (Some object.shape.ty) val) (span_of files file object.run.token)
      one_given val less =
          let whole : limited f ≡ f = (both_meet f n run.from run.count of.fits less).2 in
          ap (λ e. made e (capped (limited (limited (limited object.start + (max f run.from - o.run.from)) * units_of object.shape.ty))) (capped (min (f + n) (run.from + run.count) - max f run.from)) (with_length (Some object.shape.ty) val) (span_of s.project.files.now s.file o.token)) is.entity
          ∙ ap (λ k. made (entity_number files object.key).0 (capped (limited (limited (limited object.start + (max f run.from - k)) * units_of object.shape.ty))) (capped (min (f + n) (run.from + run.count) - max f run.from)) (with_length (Some object.shape.ty) val) (span_of s.project.files.now s.file o.token)) (is.from ∙ whole)
          ∙ ap (λ k. made (entity_number files object.key).0 k (capped (min (f + n) (run.from + run.count) - max f run.from)) (with_length (Some object.shape.ty) val) (span_of s.project.files.now s.file o.token)) (first_same object.start (max f run.from - f) (units_of object.shape.ty))
          ∙ ap₂ (λ fs t. made (entity_number files object.key).0 (capped ((object.start + (max f run.from - f)) * units_of object.shape.ty)) (capped (min (f + n) (run.from + run.count) - max f run.from)) (with_length (Some object.shape.ty) val) (span_of fs s.file t)) trees is.token
          ∙ ap (λ k. made (entity_number files object.key).0 (capped ((object.start + (max f run.from - f)) * units_of object.shape.ty)) (capped (min (f + n) (run.from + run.count) - max f run.from)) (with_length (Some object.shape.ty) val) (span_of files k object.run.token)) here

      pub shared_same : cons_option (shared_by s o supply) [] ≡ map (numbered_given files) (gives files file object (v, run))
      shared_same = ap (λ m. cons_option (option_and_then (part_by s o supply.constant) m) []) met ∙ by (nat_lt (max f run.from) (min (f + n) (run.from + run.count))) refl where
        by : (b : Bool) → nat_lt (max f run.from) (min (f + n) (run.from + run.count)) ≡ b
            → cons_option (option_and_then (part_by s o supply.constant) (cond (nat_lt (max f run.from) (min (f + n) (run.from + run.count))) (Some (record { from = max f run.from; count = min (f + n) (run.from + run.count) - max f run.from })) None)) []
            ≡ map (numbered_given files) (gives files file object (v, run))
        by false e =
            ap (λ b. cons_option (option_and_then (part_by s o supply.constant) (cond b (Some (record { from = max f run.from; count = min (f + n) (run.from + run.count) - max f run.from })) None)) []) e
            ∙ empty (constant_value files file v.constant)
          where
            empty : (c : Option Value) → [] ≡ map (numbered_given files) (option_map_or (shared file object run) c [])
            empty None = refl
            empty (Some val) =
                sym (ap (λ b. map (numbered_given files) (cond b (record {
                  key = object.key;
                  first = (object.start + (max f run.from - f)) * units_of object.shape.ty;
                  count = min (f + n) (run.from + run.count) - max f run.from;
                  value = with_length (Some object.shape.ty) val;
                  at = place file object.run.token;
                } ∷ []) [])) e)
        by true e =
            ap (λ b. cons_option (option_and_then (part_by s o supply.constant) (cond b (Some (record { from = max f run.from; count = min (f + n) (run.from + run.count) - max f run.from })) None)) []) e
            ∙ ap (λ g. cons_option g []) (part_is (record { from = max f run.from; count = min (f + n) (run.from + run.count) - max f run.from }))
            ∙ full (constant_value files file v.constant)
          where
            full : (c : Option Value)
                → cons_option (option_map (part_given s o object.shape.ty (limited object.start) (record { from = max f run.from; count = min (f + n) (run.from + run.count) - max f run.from })) c) []
                ≡ map (numbered_given files) (option_map_or (shared file object run) c [])
            full None = refl
            full (Some val) =
                ap (λ g. g ∷ []) (one_given val (ltb-true (max f run.from) (min (f + n) (run.from + run.count)) e))
                ∙ sym (ap (λ b. map (numbered_given files) (cond b (record {
                  key = object.key;
                  first = (object.start + (max f run.from - f)) * units_of object.shape.ty;
                  count = min (f + n) (run.from + run.count) - max f run.from;
                  value = with_length (Some object.shape.ty) val;
                  at = place file object.run.token;
                } ∷ []) [])) e)

    split : (g : Option Given) (rest : List Given) → cons_option g rest ≡ cons_option g [] ++ rest
    split None rest = refl
    split (Some g) rest = refl

    pub object_same : (supplies : List SupplyAs) (pairs : List (DataValue × types.Run)) → AllSupplies files s file supplies pairs → object_given s o supplies ≡ map (numbered_given files) (flat_map (gives files file object) pairs)
    object_same [] [] all = refl
    object_same [] (pair ∷ pairs) all = absurd all
    object_same (supply ∷ supplies) [] all = absurd all
    object_same (supply ∷ supplies) ((v, run) ∷ pairs) all =
        split (shared_by s o supply) (object_given s o supplies) ∙ ap₂ (λ (xs ys : List Given). xs ++ ys) (shared_same supply v run all.0) (object_same supplies pairs all.1)
        ∙ sym (map-append (numbered_given files) (gives files file object (v, run)) (flat_map (gives files file object) pairs))

-- ---- an object of no elements gets nothing

pub nothing_shared : (files : List FileTree) (file : ℕ) (object : spec.Object) → object.run.count ≡ 0 → (pairs : List (DataValue × types.Run)) → flat_map (gives files file object) pairs ≡ []
nothing_shared files file object none [] = refl
nothing_shared files file object none ((v, run) ∷ pairs) = ap₂ (λ xs ys. xs ++ ys) (by (constant_value files file v.constant)) (nothing_shared files file object none pairs) where
  apart : nat_lt (max object.run.from run.from) (min (object.run.from + object.run.count) (run.from + run.count)) ≡ false
  apart = le-ltb (max object.run.from run.from) (min (object.run.from + object.run.count) (run.from + run.count)) (omega (arith, none))

  by : (c : Option Value) → option_map_or (shared file object run) c [] ≡ []
  by None = refl
  by (Some val) =
      ap (λ b. cond b (record {
        key = object.key;
        first = (object.start + (max object.run.from run.from - object.run.from)) * units_of object.shape.ty;
        count = min (object.run.from + object.run.count) (run.from + run.count) - max object.run.from run.from;
        value = with_length (Some object.shape.ty) val;
        at = place file object.run.token;
      } ∷ []) []) apart
