-- What a lawful tree says of its parts: they have types, and a scalar stands where one is meant.
use Rattle.std.proofs.Common.{◌≡◌, ℕ, List, [], ◌∷◌, length, drop, refl, arith}
use Rattle.std.specs.Prelude.{Bool, true, false, not, ◌&&◌, ◌||◌, ◌==◌, if◌then◌else◌, is_none, slice_get, Option, Some, None}
use Rattle.std.specs.List.{list_all}
use Rattle.std.specs.Option.{option_map_or}
use Rattle.std.proofs.lemmas.Bool.Decides.{nat_tests}
use Rattle.core_prog.specs.declared.storage.Dimension.{Dimension}
use Rattle.core_prog.specs.declared.storage.Limit.{Limit}
use Rattle.core_prog.specs.declared.storage.Limit.TheVariants as limit
use Rattle.core_prog.specs.declared.storage.Home.{Home}
use Rattle.core_prog.specs.declared.storage.Home.TheVariants as home
use Rattle.core_prog.specs.declared.storage.Variable.{Variable}
use Rattle.core_prog.specs.declared.site.Site.{Site}
use Rattle.core_prog.specs.Programs.{Program, Procedure}
use Rattle.core_prog.specs.Terms.{Term, Terms, none, more, Designator, designator, Named, named, Section, no_section, section, Passed, by_value, alone, to_end, constants}
use Rattle.ftn_tree.specs.Sorts.{Sort, Whole, Truth, Text, is_sort, sort_of_type, sort_of_value}
use Rattle.core_prog.specs.Sorts.{is_scalar, ◌>>=◌, if_so, ranged, element_sort, count_of, is_empty, has_range, dummies_of, fits, sort_of, are_wholes, is_range, sort_of_designator, sort_of_array, sort_of_named, sort_of_constants, are_passed}
use Rattle.core_prog.specs.Lawful.{agree, scalar_sort, is_call, IsAtHome, is_number, is_fixed, is_dummy, is_bounding, is_limit, is_open_limit, are_dimensions}
use Rattle.core_sim.specs.Pairings.{Pairing, IsPaired}
use Rattle.core_sim.specs.Paired.{is_scalar_at}

abbrev pub Has : {A : Type 0} → Option A → Type 0
Has None = ⊥
Has (Some a) = Unit {0}

pub has_first : {A B : Type 0} (o : Option A) (f : A → Option B) → Has (o >>= f) → Has o
has_first None f h = h
has_first (Some a) f h = tt

pub has_then : {A B : Type 0} (o : Option A) (f : A → Option B) → Has (o >>= f) → (a : A) × Has (f a)
has_then None f h = absurd h
has_then (Some a) f h = (a, h)

pub both : (a b : Bool) → (a && b) ≡ true → (a ≡ true) × (b ≡ true)
both true b h = (refl, h)
both false b h = absurd (cc h)

pub has_if : {A : Type 0} (b : Bool) (o : Option A) → Has (if b then o else None) → (b ≡ true) × Has o
has_if true o h = (refl, h)
has_if false o h = absurd h

pub sort_has : (s : Sort) (o : Option Sort) → is_sort s o ≡ true → Has o
sort_has s (Some t) h = tt
sort_has Whole None h = absurd (cc h)
sort_has Truth None h = absurd (cc h)
sort_has Text None h = absurd (cc h)

pub some_has : {A : Type 0} (o : Option A) → not (is_none o) ≡ true → Has o
some_has None h = absurd (cc h)
some_has (Some a) h = tt

pub agree_has : (o found : Option Sort) → agree o found ≡ true → Has o × Has found
agree_has None found h = absurd (cc h)
agree_has (Some s) found h = (tt, sort_has s found h)

fits_has : (o : Option Sort) (scalar : Bool) (v : Option Variable) → fits o scalar v ≡ true → Has o
fits_has o scalar None h = absurd (cc h)
fits_has o scalar (Some v) h = sort_has (sort_of_type v.ty) o (both (is_sort (sort_of_type v.ty) o) (if scalar then is_scalar v else not (is_scalar v)) h).0

-- ---- designators

is_zero : (a b : ℕ) → (a == b) ≡ true → b ≡ 0 → (a == 0) ≡ true
is_zero a b h e = grind (arith, nat_tests)

rank_of : (rank c : ℕ) (r : Bool) (s : Sort) → Has (element_sort rank c r s) → (rank == c) ≡ true
rank_of rank c r s h = (has_if (rank == c) (ranged r s) h).0

designated : (o : Option Variable) (w r hr : Bool) (c : ℕ) → Has (o >>= (λ v. if w && r then element_sort (length v.dimensions) c hr (sort_of_type v.ty) else None)) →
    (w ≡ true) × (r ≡ true) × (c ≡ 0 → option_map_or is_scalar o false ≡ true)
designated None w r hr c h = absurd h
designated (Some v) w r hr c h =
    let q = has_if (w && r) (element_sort (length v.dimensions) c hr (sort_of_type v.ty)) h in
    let p = both w r q.0 in
    (p.0, p.1, λ e. is_zero (length v.dimensions) c (rank_of (length v.dimensions) c hr (sort_of_type v.ty) q.1) e)

-- a substring range isn't there
abbrev pub HasNoRange : Section → Type 0
HasNoRange no_section = Unit {0}
HasNoRange (section low high) = ⊥

no_range : (range : Section) → not (has_range range) ≡ true → HasNoRange range
no_range no_section h = tt
no_range (section low high) h = absurd (cc h)

pub pair_has : {A B C : Type 0} (o : Option A) (p : Option B) (f : A → B → Option C) → Has (o >>= (λ a. p >>= f a)) → Has o × Has p
pair_has None p f h = absurd h
pair_has (Some a) None f h = absurd h
pair_has (Some a) (Some b) f h = (tt, tt)

module _ (program : Program) where
  -- a variable without subscripts is a scalar
  abbrev pub IsPlain : ℕ → Terms → Type 0
  IsPlain number none = is_scalar_at program number ≡ true
  IsPlain number (more t rest) = Unit {0}

  pub scalar_parts : (number : ℕ) (subscripts : Terms) (range : Section) →
      Has (slice_get program.variables number >>= (λ v. if are_wholes program subscripts && is_range program range then element_sort (length v.dimensions) (count_of subscripts) (has_range range) (sort_of_type v.ty) else None)) →
      (are_wholes program subscripts ≡ true) × (is_range program range ≡ true) × IsPlain number subscripts
  scalar_parts number none range h = let p = designated (slice_get program.variables number) (are_wholes program none) (is_range program range) (has_range range) 0 h in (p.0, p.1, p.2 refl)
  scalar_parts number (more t rest) range h = let p = designated (slice_get program.variables number) (are_wholes program (more t rest)) (is_range program range) (has_range range) (count_of (more t rest)) h in (p.0, p.1, tt)

  three : (a b c d : Bool) → (a && b && c && d) ≡ true → (a ≡ true) × (c ≡ true)
  three a b c d h = let p = both (a && b && c) d h in let q = both (a && b) c p.0 in let r = both a b q.0 in (r.0, q.1)

  arrayed : (o : Option Variable) (w c : Bool) (n : ℕ) (hr : Bool) → Has (o >>= (λ v. if w && (c || n == length v.dimensions) && not hr && not (is_scalar v) then Some (sort_of_type v.ty) else None)) →
      (w ≡ true) × (not hr ≡ true)
  arrayed None w c n hr h = absurd h
  arrayed (Some v) w c n hr h = three w (c || n == length v.dimensions) (not hr) (not (is_scalar v)) (has_if (w && (c || n == length v.dimensions) && not hr && not (is_scalar v)) (Some (sort_of_type v.ty)) h).0

  none_is_range : (range : Section) → HasNoRange range → is_range program range ≡ true
  none_is_range no_section h = refl
  none_is_range (section low high) h = absurd h

  pub array_parts : (at : Site) (number : ℕ) (subscripts : Terms) (range : Section) →
      Has (sort_of_array program (designator at number subscripts range)) → (are_wholes program subscripts ≡ true) × (is_range program range ≡ true) × HasNoRange range
  array_parts at number subscripts range h =
      let p = arrayed (slice_get program.variables number) (are_wholes program subscripts) (is_empty subscripts) (count_of subscripts) (has_range range) h in
      let q = no_range range p.1 in (p.0, none_is_range range q, q)

  abbrev pub NamedParts : Named → Type 0
  NamedParts (named at v bounds subscripts range) = (are_wholes program subscripts ≡ true) × (is_range program range ≡ true)

  abbrev pub ConstantsParts : Named → Type 0
  ConstantsParts (named at v bounds subscripts range) = are_wholes program subscripts ≡ true

  pub named_parts : (c : Named) → Has (sort_of_named program c) → NamedParts c
  named_parts (named at v bounds subscripts range) h =
      both (are_wholes program subscripts) (is_range program range) (has_if (are_wholes program subscripts && is_range program range) (element_sort (length bounds) (count_of subscripts) (has_range range) (sort_of_value v)) h).0

  pub constants_parts : (c : Named) → Has (sort_of_constants program c) → ConstantsParts c
  constants_parts (named at v bounds subscripts range) h =
      (three (are_wholes program subscripts) (is_empty subscripts || count_of subscripts == length bounds) (not (has_range range)) (not (length bounds == 0))
      (has_if (are_wholes program subscripts && (is_empty subscripts || count_of subscripts == length bounds) && not (has_range range) && not (length bounds == 0)) (Some (sort_of_value v)) h).0).0

  -- ---- calls

  abbrev pub dummies_at : Option Procedure → List (Option Variable)
  dummies_at None = []
  dummies_at (Some proc) = dummies_of program proc

  pub function_passed : {A : Type 0} (args : Passed) (o : Option Procedure) (f : Procedure → Option A) → Has (o >>= (λ proc. if are_passed program args (dummies_of program proc) then f proc else None)) → are_passed program args (dummies_at o) ≡ true
  function_passed args None f h = absurd h
  function_passed args (Some proc) f h = (has_if (are_passed program args (dummies_of program proc)) (f proc) h).0

  pub subroutine_passed : (args : Passed) (o : Option Procedure) → is_call program args o ≡ true → are_passed program args (dummies_at o) ≡ true
  subroutine_passed args None h = absurd (cc h)
  subroutine_passed args (Some proc) h = (both (is_none proc.result) (are_passed program args (dummies_of program proc)) h).1

  pub value_passed : (t : Term) (rest : Passed) (vs : List (Option Variable)) → are_passed program (by_value t rest) vs ≡ true → Has (sort_of program t) × (are_passed program rest (drop 1 vs) ≡ true)
  value_passed t rest [] h = absurd (cc h)
  value_passed t rest (v ∷ vs) h = let p = both (fits (sort_of program t) true v) (are_passed program rest vs) h in (fits_has (sort_of program t) true v p.0, p.1)

  pub alone_passed : (d : Designator) (rest : Passed) (vs : List (Option Variable)) → are_passed program (alone d rest) vs ≡ true → Has (sort_of_designator program d) × (are_passed program rest (drop 1 vs) ≡ true)
  alone_passed d rest [] h = absurd (cc h)
  alone_passed d rest (v ∷ vs) h = let p = both (fits (sort_of_designator program d) true v) (are_passed program rest vs) h in (fits_has (sort_of_designator program d) true v p.0, p.1)

  pub array_passed : (d : Designator) (rest : Passed) (vs : List (Option Variable)) → are_passed program (to_end d rest) vs ≡ true → Has (sort_of_array program d) × (are_passed program rest (drop 1 vs) ≡ true)
  array_passed d rest [] h = absurd (cc h)
  array_passed d rest (v ∷ vs) h = let p = both (fits (sort_of_array program d) false v) (are_passed program rest vs) h in (fits_has (sort_of_array program d) false v p.0, p.1)

  pub constants_passed : (c : Named) (rest : Passed) (vs : List (Option Variable)) → are_passed program (constants c rest) vs ≡ true → Has (sort_of_constants program c) × (are_passed program rest (drop 1 vs) ≡ true)
  constants_passed c rest [] h = absurd (cc h)
  constants_passed c rest (v ∷ vs) h = let p = both (fits (sort_of_constants program c) false v) (are_passed program rest vs) h in (fits_has (sort_of_constants program c) false v p.0, p.1)

  -- ---- variables

  pub scalar_sorted : (number : ℕ) → Has (scalar_sort program number) → is_scalar_at program number ≡ true
  scalar_sorted number h = by_variable (slice_get program.variables number) h
    where
      by_variable : (o : Option Variable) → Has (o >>= (λ v. if_so (is_scalar v) (sort_of_type v.ty))) → option_map_or is_scalar o false ≡ true
      by_variable None h = absurd h
      by_variable (Some v) h = (has_if (is_scalar v) (Some (sort_of_type v.ty)) h).0

  -- a bound is a number or a scalar
  abbrev pub IsScalarLimit : Limit → Type 0
  IsScalarLimit (limit.Dummy number) = is_scalar_at program number ≡ true
  IsScalarLimit other = Unit {0}

  abbrev pub AreScalarLimits : List Dimension → Type 0
  AreScalarLimits [] = Unit {0}
  AreScalarLimits (d ∷ ds) = IsScalarLimit d.low × IsScalarLimit d.high × AreScalarLimits ds

  bounding : (o : Option Variable) → is_bounding program o ≡ true → option_map_or is_scalar o false ≡ true
  bounding None h = absurd (cc h)
  bounding (Some v) h = (both (is_dummy program v.home) (is_scalar v) (both (is_dummy program v.home && is_scalar v) (is_sort Whole (Some (sort_of_type v.ty))) h).0).1

  limit_scalar : (l : Limit) → is_limit program l ≡ true → IsScalarLimit l
  limit_scalar (limit.Number z) h = tt
  limit_scalar (limit.Dummy number) h = bounding (slice_get program.variables number) h
  limit_scalar limit.Open h = tt

  limit_or_open : (l : Limit) → (is_limit program l || is_open_limit program l) ≡ true → IsScalarLimit l
  limit_or_open (limit.Number z) h = tt
  limit_or_open (limit.Dummy number) h = bounding (slice_get program.variables number) (either (is_bounding program (slice_get program.variables number)) h)
    where
      either : (b : Bool) → (b || false) ≡ true → b ≡ true
      either true h = refl
      either false h = h
  limit_or_open limit.Open h = tt

  pub dimensions_scalar : (ds : List Dimension) → are_dimensions program ds ≡ true → AreScalarLimits ds
  dimensions_scalar [] h = tt
  dimensions_scalar (d ∷ []) h =
      let p = both (is_limit program d.low) (is_limit program d.high || is_open_limit program d.high) h in (limit_scalar d.low p.0, limit_or_open d.high p.1, tt)
  dimensions_scalar (d ∷ e ∷ ds) h =
      let p = both (is_limit program d.low && is_limit program d.high) (are_dimensions program (e ∷ ds)) h in let q = both (is_limit program d.low) (is_limit program d.high) p.0 in
      (limit_scalar d.low q.0, limit_scalar d.high q.1, dimensions_scalar (e ∷ ds) p.1)

  number_scalar : (l : Limit) → is_number program l ≡ true → IsScalarLimit l
  number_scalar (limit.Number z) h = tt
  number_scalar (limit.Dummy number) h = absurd (cc h)
  number_scalar limit.Open h = tt

  pub fixed_scalar : (ds : List Dimension) → list_all (is_fixed program) ds ≡ true → AreScalarLimits ds
  fixed_scalar [] h = tt
  fixed_scalar (d ∷ ds) h =
      let p = both (is_fixed program d) (list_all (is_fixed program) ds) h in let q = both (is_number program d.low) (is_number program d.high) p.0 in
      (number_scalar d.low q.0, number_scalar d.high q.1, fixed_scalar ds p.1)

  pub limits_scalar : (number : ℕ) (v : Variable) (w : Home) → IsAtHome program number v w → AreScalarLimits v.dimensions
  limits_scalar number v (home.Stored place offset owner) h = fixed_scalar v.dimensions h.fixed
  limits_scalar number v (home.Dummy place position) h = dimensions_scalar v.dimensions h.bounds

-- a scalar that has a partner
abbrev pub IsPairedScalar : Pairing → Program → ℕ → Type 0
IsPairedScalar pairing program number = IsPaired pairing.variable number × (is_scalar_at program number ≡ true)
