-- Values have the types of the expressions that give them, where units of dummy arguments are of their types.
use Rattle.std.proofs.Common.{◌≡◌, ◌+◌, ◌-◌, ◌*◌, ℕ, List, [], ◌∷◌, length, map, refl, sym, ap, subst, ◌∙◌}
use Rattle.std.specs.Prelude.{ℤ, Bool, true, false, not, ◌&&◌, ◌==◌, slice_get, if◌then◌else◌, Option, Some, None, Ok}
use Rattle.std.specs.Option.{option_map}
use Rattle.ftn_base.specs.declared.entity.Ty.{Ty}
use Rattle.ftn_base.specs.declared.entity.Ty.TheVariants.{Integer, Logical, Character}
use Rattle.ftn_tree.specs.declared.value.Value.{Value}
use Rattle.ftn_tree.specs.declared.value.Value.TheVariants as value
use Rattle.core_prog.specs.declared.site.Site.{Site}
use Rattle.core_prog.specs.declared.outcome.FaultCode.TheVariants as code
use Rattle.core_prog.specs.declared.storage.Content.{Content}
use Rattle.core_prog.specs.declared.storage.Content.TheVariants as content
use Rattle.core_prog.specs.declared.storage.Variable.{Variable}
use Rattle.core_prog.specs.Ends.{End, Faulted, ◌>>=◌, or_end, found}
use Rattle.core_prog.specs.Contents.{bytes_of, units_of, units_from, value_in}
use Rattle.ftn_tree.specs.Arrays.{axis_from, element, elements, part}
use Rattle.core_prog.specs.Memory.{Holding, Memory, Place, in_bounds, element_at, place_of, read_at}
use Rattle.core_prog.specs.Programs.{Program, Procedure}
use Rattle.core_prog.specs.Holdings.{holding, procedure}
use Rattle.core_prog.specs.Entries.{Argument, entered, left, not_active, result_at}
use Rattle.core_prog.specs.Terms.{Term, literal, paren, unary, binary, variable, constant, intrinsic, call, Terms, none, more, Designator, designator, Named, named, Section, Passed}
use Rattle.ftn_tree.specs.Sorts.{Sort, Whole, Truth, Text, is_sort, sort_of_type, sort_of_value}
use Rattle.core_prog.specs.Sorts.{is_scalar, if_so, of_one, of_two, of_intrinsic, ranged, element_sort, count_of, has_range, result_sort, dummies_of, sort_of, sorts_of, are_wholes, is_range, sort_of_designator, sort_of_named, are_passed}
use Rattle.core_prog.specs.Sorts as sorts
use Rattle.core_prog.specs.Lawful.{IsLawful}
use Rattle.core_prog.specs.States.{M, Way, ◌>>◌, pure, told, asks, remembers}
use Rattle.core_prog.specs.Values.{value_of, values_of, wholes_of, range_of, read_of, constant_in, arguments_of, called, entering, leaving, cut_out}
use Rattle.core_prog.specs.Lasting.{Returns}
use Rattle.core_prog.proofs.Keeping.{value_kept, arguments_kept}
use Rattle.core_prog.proofs.Returning.{returning}
use Rattle.core_sim.specs.Paired.{HasTypes}
use Rattle.core_sim.proofs.Giving.{Gives, gives_binds, gives_told, gives_asks, gives_pure, gives_remembers, gives_step, gives_known, gives_with, gives_types, types_stay}
use Rattle.core_sim.proofs.Results.{unary_sort, binary_sort, intrinsic_sort}
use Rattle.core_sim.proofs.Places.{only_one}
use Rattle.core_sim.proofs.HeldTypes.{first_ok, found_ok, entered_types, holding_typed}

-- what was asked first is there
pub first_some : {A B : Type 0} (o : Option A) (f : A → Option B) (b : B) → sorts.◌>>=◌ o f ≡ Some b → (a : A) × (o ≡ Some a) × (f a ≡ Some b)
first_some None f b e = absurd (cc e)
first_some (Some a) f b e = (a, refl, e)

pub if_some : {A : Type 0} (b : Bool) (o : Option A) (a : A) → (if b then o else None) ≡ Some a → (b ≡ true) × (o ≡ Some a)
if_some true o a e = (refl, e)
if_some false o a e = absurd (cc e)

ranged_sort : (r : Bool) (s sort : Sort) → ranged r s ≡ Some sort → s ≡ sort
ranged_sort r Text sort e = cc e
ranged_sort r Whole sort e = cc (if_some (not r) (Some Whole) sort e).1
ranged_sort r Truth sort e = cc (if_some (not r) (Some Truth) sort e).1

-- a substring is a text
pub ranged_none : (s sort : Sort) → not (is_sort Text (Some sort)) ≡ true → ranged true s ≡ Some sort → ⊥
ranged_none Whole sort t e = cc e
ranged_none Truth sort t e = cc e
ranged_none Text Whole t e = cc e
ranged_none Text Truth t e = cc e
ranged_none Text Text t e = cc t

pub element_sorted : (rank n : ℕ) (r : Bool) (s sort : Sort) → element_sort rank n r s ≡ Some sort → s ≡ sort
element_sorted rank n r s sort e = ranged_sort r s sort (if_some (rank == n) (ranged r s) sort e).1

bytes_sort : (o : Option (List ℕ)) (v : Value) → option_map value.Chars o ≡ Some v → sort_of_value v ≡ Text
bytes_sort None v e = absurd (cc e)
bytes_sort (Some text) v e = let same : value.Chars text ≡ v = cc e in ap sort_of_value (sym same)

value_in_sort : (ty : Ty) (xs : List Content) (v : Value) → value_in ty xs ≡ Some v → sort_of_value v ≡ sort_of_type ty
value_in_sort (Character n) xs v e = bytes_sort (bytes_of xs) v e
value_in_sort Integer [] v e = absurd (cc e)
value_in_sort Integer (content.Nothing ∷ xs) v e = absurd (cc e)
value_in_sort Integer (content.Whole z ∷ xs) v e = let same : value.Whole z ≡ v = cc e in ap sort_of_value (sym same)
value_in_sort Integer (content.Truth b ∷ xs) v e = absurd (cc e)
value_in_sort Integer (content.Byte b ∷ xs) v e = absurd (cc e)
value_in_sort Logical [] v e = absurd (cc e)
value_in_sort Logical (content.Nothing ∷ xs) v e = absurd (cc e)
value_in_sort Logical (content.Whole z ∷ xs) v e = absurd (cc e)
value_in_sort Logical (content.Truth b ∷ xs) v e = let same : value.Truth b ≡ v = cc e in ap sort_of_value (sym same)
value_in_sort Logical (content.Byte b ∷ xs) v e = absurd (cc e)

or_ok : {A : Type 0} (e : End) (o : Option A) (a : A) → or_end e o ≡ Ok a → o ≡ Some a
or_ok e None a q = absurd (cc q)
or_ok e (Some b) a q = cc q

pub read_sort : (at : Site) (p : Place) (m : Memory) (v : Value) → read_at at p m ≡ Ok v → sort_of_value v ≡ sort_of_type p.ty
read_sort at p m v e = value_in_sort p.ty (units_from p.first p.units m.cells) v (or_ok (Faulted code.Undefined at) (value_in p.ty (units_from p.first p.units m.cells)) v e)

abbrev placed : Holding → ℕ → ℕ × ℕ → Place
placed h n s = record { ty = h.ty; first = h.first + n * h.unit + s.0; units = s.1; unit = h.unit; behind = (h.count - n) * h.unit }

-- a place is of the type of its variable
pub place_type : (at : Site) (h : Holding) (zs : List ℤ) (r : Option (ℤ × ℤ)) (p : Place) → place_of at h zs r ≡ Ok p → p.ty ≡ h.ty
place_type at h zs r p e =
    let n = first_ok (in_bounds at (element h.count h.axes zs)) (λ n. in_bounds at (part h.unit r) >>= (λ s. Ok (placed h n s))) p e in
    let s = first_ok (in_bounds at (part h.unit r)) (λ s. Ok (placed h n.0 s)) p n.2 in
    let same : placed h n.0 s.0 ≡ p = cc s.2 in ap (λ (q : Place). q.ty) (sym same)

cut_sort : (range : ℕ × ℕ) (v : Value) → sort_of_value (cut_out range v) ≡ sort_of_value v
cut_sort range (value.Whole z) = refl
cut_sort range (value.Truth b) = refl
cut_sort range (value.Chars text) = refl

module _ (program : Program) (lawful : IsLawful program) (body : ℕ → M Way) (back : (number : ℕ) → Returns (body number)) where
  abbrev pub Typed : Memory → Type 0
  Typed n = HasTypes program n.active

  abbrev pub Of : Sort → Value → Memory → Type 0
  Of sort v n = sort_of_value v ≡ sort

  value_back : (t : Term) → Returns (value_of program body t)
  value_back t = value_kept Returns (λ b A m n. Returns m) returning program 0 body body back back (λ c h n. back n) t

  arguments_back : (args : Passed) → Returns (arguments_of program body args)
  arguments_back args = arguments_kept Returns (λ b A m n. Returns m) returning program 0 body body back back (λ c h n. back n) args

  held_sort : (number : ℕ) (v : Variable) (m : Memory) (h : Holding) → slice_get program.variables number ≡ Some v → Typed m → holding program number m ≡ Ok h → h.ty ≡ v.ty
  held_sort number v m h d t e =
      let typed = holding_typed program lawful number m h t e in
      typed.ty ∙ ap (λ (x : Variable). x.ty) (only_one (slice_get program.variables number) typed.variable v typed.declared d)

  abbrev element_in : Terms → Section → Variable → Option Sort
  element_in subscripts range v = if are_wholes program subscripts && is_range program range then element_sort (length v.dimensions) (count_of subscripts) (has_range range) (sort_of_type v.ty) else None

  read_sorted : (of : Designator) (sort : Sort) → sort_of_designator program of ≡ Some sort → Gives Typed (read_of program body of) (Of sort)
  read_sorted (designator at number subscripts range) sort e =
      gives_binds Typed (λ h n. sort_of_type h.ty ≡ sort) (Of sort) _ _ (gives_asks Typed (λ h n. sort_of_type h.ty ≡ sort) (holding program number) (λ n t h q. ap sort_of_type (held_sort number v.0 n h v.1 t q) ∙ same)) (λ h.
      gives_binds (λ _. sort_of_type h.ty ≡ sort) (λ _ _. sort_of_type h.ty ≡ sort) (Of sort) _ _ (gives_known (sort_of_type h.ty ≡ sort) (wholes_of program body subscripts)) (λ zs.
      gives_binds (λ _. sort_of_type h.ty ≡ sort) (λ _ _. sort_of_type h.ty ≡ sort) (Of sort) _ _ (gives_known (sort_of_type h.ty ≡ sort) (range_of program body h.unit range)) (λ r.
      gives_binds (λ _. sort_of_type h.ty ≡ sort) (λ p _. sort_of_type p.ty ≡ sort) (Of sort) _ _ (gives_told (λ _. sort_of_type h.ty ≡ sort) (λ p _. sort_of_type p.ty ≡ sort) (place_of at h zs r) (λ p q n x. ap sort_of_type (place_type at h zs r p q) ∙ x)) (λ p.
      gives_asks (λ _. sort_of_type p.ty ≡ sort) (Of sort) (read_at at p) (λ n x w q. read_sort at p n w q ∙ x)))))
    where
      v : (v : Variable) × (slice_get program.variables number ≡ Some v) × (element_in subscripts range v ≡ Some sort)
      v = first_some (slice_get program.variables number) (element_in subscripts range) sort e

      same : sort_of_type v.0.ty ≡ sort
      same =
          element_sorted (length v.0.dimensions) (count_of subscripts) (has_range range) (sort_of_type v.0.ty) sort
          (if_some (are_wholes program subscripts && is_range program range) (element_sort (length v.0.dimensions) (count_of subscripts) (has_range range) (sort_of_type v.0.ty)) sort v.2).1

  constant_sorted : (of : Named) (sort : Sort) → sort_of_named program of ≡ Some sort → Gives Typed (constant_in program body of) (Of sort)
  constant_sorted (named at v bounds subscripts range) sort e =
      gives_binds Typed (λ _ _. Unit {0}) (Of sort) _ _ (any_then (wholes_of program body subscripts)) (λ zs.
      gives_binds (λ _. Unit {0}) (λ _ _. Unit {0}) (Of sort) _ _ (gives_known (Unit {0}) (range_of program body (units_of v) range)) (λ r.
      gives_binds (λ _. Unit {0}) (λ _ _. Unit {0}) (Of sort) _ _ (gives_known (Unit {0}) (told (in_bounds at (element (elements (map axis_from bounds)) (map axis_from bounds) zs)))) (λ n.
      gives_binds (λ _. Unit {0}) (λ _ _. Unit {0}) (Of sort) _ _ (gives_known (Unit {0}) (told (in_bounds at (part (units_of v) r)))) (λ s.
      gives_pure (λ _. Unit {0}) (Of sort) (cut_out s v) (λ n x. cut_sort s v ∙ same)))))
    where
      same : sort_of_value v ≡ sort
      same =
          element_sorted (length bounds) (count_of subscripts) (has_range range) (sort_of_value v) sort
          (if_some (are_wholes program subscripts && is_range program range) (element_sort (length bounds) (count_of subscripts) (has_range range) (sort_of_value v)) sort e).1

      any_then : {A : Type 0} (m : M A) → Gives Typed m (λ _ _. Unit {0})
      any_then m = record { from = λ s t. (gives_known (Unit {0}) m).from s tt }

  -- ---- calls

  abbrev IsResult : Sort → Option Value → Type 0
  IsResult sort r = (v : Value) → r ≡ Some v → sort_of_value v ≡ sort

  abbrev Result_of : Sort → Option Value → Memory → Type 0
  Result_of sort r n = IsResult sort r

  result_sorted : (at : Site) (o : Option ℕ) (sort : Sort) (m : Memory) (r : Option Value) → sorts.◌>>=◌ o (λ number. sorts.◌>>=◌ (slice_get program.variables number) (λ v. if_so (is_scalar v) (sort_of_type v.ty))) ≡ Some sort → Typed m →
      result_at program at o m ≡ Ok r → Result_of sort r m
  result_sorted at None sort m r e t q v f = absurd (cc e)
  result_sorted at (Some number) sort m r e t q v f =
      let w = first_some (slice_get program.variables number) (λ v. if_so (is_scalar v) (sort_of_type v.ty)) sort e in
      let h = first_ok (holding program number m) (λ h. read_at at (element_at h 0) m >>= (λ value. Ok (Some value))) r q in
      let x = first_ok (read_at at (element_at h.0 0) m) (λ value. Ok (Some value)) r h.2 in
      let given : Some x.0 ≡ r = cc x.2 in
      let same : x.0 ≡ v = cc (given ∙ f) in
      let declared : sort_of_type w.0.ty ≡ sort = cc (if_some (is_scalar w.0) (Some (sort_of_type w.0.ty)) sort w.2).1 in
      ap sort_of_value (sym same) ∙ read_sort at (element_at h.0 0) m x.0 x.1 ∙ ap sort_of_type (held_sort number w.0 m h.0 w.1 t h.1) ∙ declared

  leaving_sorted : (at : Site) (proc : Procedure) (mark : ℕ) (sort : Sort) → result_sort program proc ≡ Some sort → Gives Typed (leaving program at proc mark) (Result_of sort)
  leaving_sorted at proc mark sort e =
      gives_step Typed (Result_of sort) _
      (gives_binds Typed (Result_of sort) (Result_of sort) _ _ (gives_asks Typed (Result_of sort) (result_at program at proc.result) (λ n t r q. result_sorted at proc.result sort n r e t q)) (λ r.
      gives_binds (λ _. IsResult sort r) (λ _ _. IsResult sort r) (Result_of sort) (asks (λ memory. Ok (left mark memory))) (λ outside. remembers outside >> pure r) (gives_known (IsResult sort r) (asks (λ memory. Ok (left mark memory)))) (λ outside.
      gives_binds (λ _. IsResult sort r) (λ _ _. IsResult sort r) (Result_of sort) (remembers outside) (λ _. pure r) (gives_known (IsResult sort r) (remembers outside)) (λ _.
      gives_pure (λ _. IsResult sort r) (Result_of sort) r (λ n x. x)))))

  entering_sorted : (at : Site) (number : ℕ) (proc : Procedure) (args : List Argument) (sort : Sort) → slice_get program.procedures number ≡ Some proc → result_sort program proc ≡ Some sort → Gives Typed (entering program body at number args) (Result_of sort)
  entering_sorted at number proc args sort there e =
      gives_binds Typed (λ (p : Procedure) n. (proc ≡ p) × Typed n) (Result_of sort) _ _
      (gives_told Typed (λ (p : Procedure) n. (proc ≡ p) × Typed n) (procedure program number) (λ p q n t. (only_one (slice_get program.procedures number) proc p there (found_ok (slice_get program.procedures number) p q), t))) (λ (p : Procedure).
      gives_with (proc ≡ p) Typed (Result_of sort) _ (λ same.
      gives_binds Typed (λ _ n. Typed n) (Result_of sort) _ _ (gives_asks Typed (λ _ n. Typed n) (λ memory. Ok (length memory.cells)) (λ n t a q. t)) (λ mark.
      gives_binds Typed (λ (inside : Memory) n. Typed inside) (Result_of sort) _ _
      (gives_asks Typed (λ (inside : Memory) n. Typed inside) (entered program at number p.dummies args) (λ n t inside q. entered_types program at number p args n inside (subst (λ x. slice_get program.procedures number ≡ Some x) same there) t q)) (λ (inside : Memory).
      gives_binds (λ _. Typed inside) (λ _ n. Typed n) (Result_of sort) _ _ (gives_remembers (λ _. Typed inside) (λ _ n. Typed n) inside (λ n t. t)) (λ _.
      gives_binds Typed (λ _ n. Typed n) (Result_of sort) _ _ (types_stay program (body number) (back number)) (λ _.
      leaving_sorted at p mark sort (subst (λ x. result_sort program x ≡ Some sort) same e)))))))

  called_sorted : (at : Site) (number : ℕ) (proc : Procedure) (args : List Argument) (sort : Sort) → slice_get program.procedures number ≡ Some proc → result_sort program proc ≡ Some sort → Gives Typed (called program body at number args) (Result_of sort)
  called_sorted at number proc args sort there e =
      gives_binds Typed (λ _ n. Typed n) (Result_of sort) _ _ (gives_asks Typed (λ _ n. Typed n) (not_active at number) (λ n t a q. t)) (λ _.
      gives_step Typed (Result_of sort) _ (entering_sorted at number proc args sort there e))

  -- ---- expressions

  row_of : (x : Value) (vs : List Value) (s : Sort) (ss all : List Sort) → sort_of_value x ≡ s → map sort_of_value vs ≡ ss → Some (s ∷ ss) ≡ Some all → map sort_of_value (x ∷ vs) ≡ all
  row_of x vs s ss all e f g = let whole : (s ∷ ss) ≡ all = cc g in ap (λ y. y ∷ map sort_of_value vs) e ∙ ap (λ ys. s ∷ ys) f ∙ whole

  mutual
    pub value_sorted : (t : Term) (sort : Sort) → sort_of program t ≡ Some sort → Gives Typed (value_of program body t) (Of sort)
    value_sorted (literal v) sort e = gives_step Typed (Of sort) _ (gives_pure Typed (Of sort) v (λ n t. cc e))
    value_sorted (paren inner) sort e = value_sorted inner sort e
    value_sorted (unary at operator arg) sort e =
        let a = first_some (sort_of program arg) (of_one operator) sort e in
        gives_step Typed (Of sort) _ (gives_binds Typed (Of a.0) (Of sort) _ _ (value_sorted arg a.0 a.1) (λ x.
        gives_told (Of a.0 x) (Of sort) _ (λ v q n p. unary_sort at operator x v a.0 sort p a.2 q)))
    value_sorted (binary at operator first second) sort e =
        let a = first_some (sort_of program first) (λ a. sorts.◌>>=◌ (sort_of program second) (of_two operator a)) sort e in
        let b = first_some (sort_of program second) (of_two operator a.0) sort a.2 in
        gives_step Typed (Of sort) _ (gives_binds Typed (λ x n. Of a.0 x n × Typed n) (Of sort) _ _ (gives_types program (Of a.0) (value_of program body first) (value_sorted first a.0 a.1) (value_back first)) (λ x.
        gives_with (sort_of_value x ≡ a.0) Typed (Of sort) _ (λ p.
        gives_binds Typed (Of b.0) (Of sort) _ _ (value_sorted second b.0 b.1) (λ y.
        gives_told (Of b.0 y) (Of sort) _ (λ v q n r. binary_sort at operator x y v a.0 b.0 sort p r b.2 q)))))
    value_sorted (variable of) sort e = gives_step Typed (Of sort) _ (read_sorted of sort e)
    value_sorted (constant of) sort e = gives_step Typed (Of sort) _ (constant_sorted of sort e)
    value_sorted (intrinsic at function args) sort e =
        let a = first_some (sorts_of program args) (of_intrinsic function) sort e in
        gives_step Typed (Of sort) _ (gives_binds Typed (λ vs n. map sort_of_value vs ≡ a.0) (Of sort) _ _ (values_sorted args a.0 a.1) (λ vs.
        gives_told (λ _. map sort_of_value vs ≡ a.0) (Of sort) _ (λ v q n p. intrinsic_sort at function vs v a.0 sort p a.2 q)))
    value_sorted (call at number args) sort e =
        let proc = first_some (slice_get program.procedures number) (λ proc. if are_passed program args (dummies_of program proc) then result_sort program proc else None) sort e in
        let result = if_some (are_passed program args (dummies_of program proc.0)) (result_sort program proc.0) sort proc.2 in
        gives_step Typed (Of sort) _ (gives_binds Typed (λ _ n. Typed n) (Of sort) _ _ (types_stay program (arguments_of program body args) (arguments_back args)) (λ given.
        gives_binds Typed (Result_of sort) (Of sort) _ _ (called_sorted at number proc.0 given sort proc.1 result.1) (λ r.
        gives_told (Result_of sort r) (Of sort) (found r) (λ v q n p. p v (found_ok r v q)))))

    values_sorted : (ts : Terms) (ss : List Sort) → sorts_of program ts ≡ Some ss → Gives Typed (values_of program body ts) (λ vs n. map sort_of_value vs ≡ ss)
    values_sorted none ss e = gives_pure Typed (λ vs n. map sort_of_value vs ≡ ss) [] (λ n t. cc e)
    values_sorted (more term rest) ss e =
        let a = first_some (sort_of program term) (λ sort. sorts.◌>>=◌ (sorts_of program rest) (λ sorts. Some (sort ∷ sorts))) ss e in
        let b = first_some (sorts_of program rest) (λ sorts. Some (a.0 ∷ sorts)) ss a.2 in
        gives_binds Typed (λ x n. Of a.0 x n × Typed n) (λ vs n. map sort_of_value vs ≡ ss) _ _ (gives_types program (Of a.0) (value_of program body term) (value_sorted term a.0 a.1) (value_back term)) (λ x.
        gives_with (sort_of_value x ≡ a.0) Typed (λ vs n. map sort_of_value vs ≡ ss) _ (λ p.
        gives_binds Typed (λ vs n. map sort_of_value vs ≡ b.0) (λ vs n. map sort_of_value vs ≡ ss) _ _ (values_sorted rest b.0 b.1) (λ vs.
        gives_pure (λ _. map sort_of_value vs ≡ b.0) (λ ws n. map sort_of_value ws ≡ ss) (x ∷ vs) (λ n q. row_of x vs a.0 b.0 ss p q b.2))))
