-- Places of designators of integers and logicals: their type, their one unit, and what is read there.
use Rattle.std.proofs.Common.{◌≡◌, ◌+◌, ◌-◌, ◌*◌, ℕ, length, refl, sym, ap, subst, ◌∙◌}
use Rattle.std.specs.Prelude.{ℤ, List, true, not, ◌&&◌, ◌==◌, slice_get, if◌then◌else◌, Option, Some, None, Ok}
use Rattle.ftn_base.specs.declared.entity.Ty.{Ty}
use Rattle.ftn_base.specs.declared.entity.Ty.TheVariants.{Integer, Logical, Character}
use Rattle.ftn_tree.specs.Arrays.{element, part}
use Rattle.ftn_tree.specs.Sorts.{Sort, Text, is_sort, sort_of_type}
use Rattle.core_prog.specs.declared.site.Site.{Site}
use Rattle.core_prog.specs.declared.storage.Variable.{Variable}
use Rattle.core_prog.specs.Ends.{◌>>=◌}
use Rattle.core_prog.specs.Memory.{Holding, Memory, Place, in_bounds, place_of, read_at}
use Rattle.core_prog.specs.Programs.{Program}
use Rattle.core_prog.specs.Holdings.{holding}
use Rattle.core_prog.specs.Terms.{Terms, Designator, designator, Section, no_section, section}
use Rattle.core_prog.specs.Sorts.{element_sort, ranged, count_of, has_range, are_wholes, is_range, sort_of_designator}
use Rattle.core_prog.specs.Lawful.{IsLawful}
use Rattle.core_prog.specs.States as run
use Rattle.core_prog.specs.States.{State, Ran, Went, Ended, M, Way, goes_on, pure, told, asks}
use Rattle.core_prog.specs.Values.{wholes_of, range_of, place_at, read_of}
use Rattle.core_sim.specs.Paired.{HasTypes}
use Rattle.core_sim.specs.Renaming.{site_of}
use Rattle.core_sim.proofs.Giving.{Gives, gives_binds, gives_told, gives_asks, gives_pure, gives_known}
use Rattle.core_sim.proofs.Places.{only_one}
use Rattle.core_sim.proofs.HeldTypes.{first_ok, holding_typed}
use Rattle.core_sim.proofs.Valued.{first_some, if_some, element_sorted, ranged_none, place_type}

-- ---- computations put together

pub joined : {A B C : Type 0} (r : Ran A) (f : A → M B) (g : B → M C) → goes_on (goes_on r f) g ≡ goes_on r (λ a s. goes_on (f a s) g)
joined (Went a t) f g = refl
joined (Ended e t) f g = refl

pub goes_same : {A B : Type 0} (r : Ran A) (f g : A → M B) → ((a : A) (t : State) → f a t ≡ g a t) → goes_on r f ≡ goes_on r g
goes_same (Went a t) f g h = h a t
goes_same (Ended e t) f g h = refl

-- a read is a read of the place
pub read_placed : (program : Program) (body : ℕ → M Way) (d : Designator) (y : State) → read_of program body d y ≡ goes_on (place_at program body d y) (λ p. asks (read_at (site_of d) p))
read_placed program body (designator at number subscripts range) y =
    sym (joined (asks (holding program number) y) (λ h. run.◌>>=◌ (wholes_of program body subscripts) (λ zs. run.◌>>=◌ (range_of program body h.unit range) (λ r. told (place_of at h zs r)))) (λ p. asks (read_at at p))
    ∙ goes_same (asks (holding program number) y) (λ h z. goes_on (run.◌>>=◌ (wholes_of program body subscripts) (λ zs. run.◌>>=◌ (range_of program body h.unit range) (λ r. told (place_of at h zs r))) z) (λ p. asks (read_at at p)))
    (λ h. run.◌>>=◌ (wholes_of program body subscripts) (λ zs. run.◌>>=◌ (range_of program body h.unit range) (λ r. run.◌>>=◌ (told (place_of at h zs r)) (λ p. asks (read_at at p)))))
    (λ h z. joined (wholes_of program body subscripts z) (λ zs. run.◌>>=◌ (range_of program body h.unit range) (λ r. told (place_of at h zs r))) (λ p. asks (read_at at p))
    ∙ goes_same (wholes_of program body subscripts z) (λ zs x. goes_on (run.◌>>=◌ (range_of program body h.unit range) (λ r. told (place_of at h zs r)) x) (λ p. asks (read_at at p)))
    (λ zs. run.◌>>=◌ (range_of program body h.unit range) (λ r. run.◌>>=◌ (told (place_of at h zs r)) (λ p. asks (read_at at p))))
    (λ zs x. joined (range_of program body h.unit range x) (λ r. told (place_of at h zs r)) (λ p. asks (read_at at p)))))

-- ---- types

pub type_of_sort : (ty other : Ty) → sort_of_type ty ≡ sort_of_type other → not (is_sort Text (Some (sort_of_type other))) ≡ true → ty ≡ other
type_of_sort Integer Integer e t = refl
type_of_sort Integer Logical e t = absurd (cc e)
type_of_sort Integer (Character n) e t = absurd (cc e)
type_of_sort Logical Integer e t = absurd (cc e)
type_of_sort Logical Logical e t = refl
type_of_sort Logical (Character n) e t = absurd (cc e)
type_of_sort (Character m) Integer e t = absurd (cc e)
type_of_sort (Character m) Logical e t = absurd (cc e)
type_of_sort (Character m) (Character n) e t = absurd (cc t)

abbrev placed : Holding → ℕ → ℕ × ℕ → Place
placed h n s = record { ty = h.ty; first = h.first + n * h.unit + s.0; units = s.1; unit = h.unit; behind = (h.count - n) * h.unit }

place_units : (at : Site) (h : Holding) (zs : List ℤ) (r : Option (ℤ × ℤ)) (p : Place) → r ≡ None → place_of at h zs r ≡ Ok p → p.units ≡ h.unit
place_units at h zs r p none e =
    let n = first_ok (in_bounds at (element h.count h.axes zs)) (λ n. in_bounds at (part h.unit None) >>= (λ s. Ok (placed h n s))) p (ap (λ q. place_of at h zs q) (sym none) ∙ e) in
    let same : placed h n.0 (0, h.unit) ≡ p = cc n.2 in ap (λ (q : Place). q.units) (sym same)

module _ (program : Program) (lawful : IsLawful program) (body : ℕ → M Way) where
  abbrev IsOne : Ty → Holding → Type 0
  IsOne ty h = (h.ty ≡ ty) × (h.unit ≡ 1)

  held_one : (number : ℕ) (v : Variable) (ty : Ty) (m : Memory) (h : Holding) → slice_get program.variables number ≡ Some v → v.ty ≡ ty → not (is_sort Text (Some (sort_of_type ty))) ≡ true → HasTypes program m.active → holding program number m ≡ Ok h → IsOne ty h
  held_one number v ty m h d same t types e =
      let typed = holding_typed program lawful number m h types e in
      let one : typed.variable.ty ≡ ty = ap (λ (x : Variable). x.ty) (only_one (slice_get program.variables number) typed.variable v typed.declared d) ∙ same in
      (typed.ty ∙ one, typed.unit (subst (λ x. not (is_sort Text (Some (sort_of_type x))) ≡ true) (sym one) t))

  abbrev element_in : Terms → Section → Variable → Option Sort
  element_in subscripts range v = if are_wholes program subscripts && is_range program range then element_sort (length v.dimensions) (count_of subscripts) (has_range range) (sort_of_type v.ty) else None

  -- without a substring range
  pub place_typed : (of : Designator) (ty : Ty) → not (is_sort Text (Some (sort_of_type ty))) ≡ true → sort_of_designator program of ≡ Some (sort_of_type ty) →
      Gives (λ n. HasTypes program n.active) (place_at program body of) (λ (p : Place) n. (p.ty ≡ ty) × (p.units ≡ 1))
  place_typed (designator at number subscripts range) ty t e = by_range range e
    where
      by_range : (range : Section) → sort_of_designator program (designator at number subscripts range) ≡ Some (sort_of_type ty) →
          Gives (λ n. HasTypes program n.active) (place_at program body (designator at number subscripts range)) (λ (p : Place) n. (p.ty ≡ ty) × (p.units ≡ 1))
      by_range (section low high) e =
          let v = first_some (slice_get program.variables number) (element_in subscripts (section low high)) (sort_of_type ty) e in
          let s = if_some (are_wholes program subscripts && is_range program (section low high)) (element_sort (length v.0.dimensions) (count_of subscripts) true (sort_of_type v.0.ty)) (sort_of_type ty) v.2 in
          absurd (ranged_none (sort_of_type v.0.ty) (sort_of_type ty) t (if_some (length v.0.dimensions == count_of subscripts) (ranged true (sort_of_type v.0.ty)) (sort_of_type ty) s.1).1)
      by_range no_section e =
          gives_binds (λ n. HasTypes program n.active) (λ h n. IsOne ty h) (λ (p : Place) n. (p.ty ≡ ty) × (p.units ≡ 1)) _ _
          (gives_asks (λ n. HasTypes program n.active) (λ h n. IsOne ty h) (holding program number) (λ n types h q. held_one number v.0 ty n h v.1 (type_of_sort v.0.ty ty same t) t types q)) (λ h.
          gives_binds (λ _. IsOne ty h) (λ _ _. IsOne ty h) (λ (p : Place) n. (p.ty ≡ ty) × (p.units ≡ 1)) _ _ (gives_known (IsOne ty h) (wholes_of program body subscripts)) (λ zs.
          gives_binds (λ _. IsOne ty h) (λ r _. IsOne ty h × (r ≡ None)) (λ (p : Place) n. (p.ty ≡ ty) × (p.units ≡ 1)) (pure None) (λ r. told (place_of at h zs r)) (gives_pure (λ _. IsOne ty h) (λ r _. IsOne ty h × (r ≡ None)) None (λ n x. (x, refl))) (λ r.
          gives_told (λ _. IsOne ty h × (r ≡ None)) (λ (p : Place) n. (p.ty ≡ ty) × (p.units ≡ 1)) (place_of at h zs r) (λ p q n x. (place_type at h zs r p q ∙ x.0.0, place_units at h zs r p x.1 q ∙ x.0.1)))))
        where
          v : (v : Variable) × (slice_get program.variables number ≡ Some v) × (element_in subscripts no_section v ≡ Some (sort_of_type ty))
          v = first_some (slice_get program.variables number) (element_in subscripts no_section) (sort_of_type ty) e

          same : sort_of_type v.0.ty ≡ sort_of_type ty
          same =
              element_sorted (length v.0.dimensions) (count_of subscripts) (has_range no_section) (sort_of_type v.0.ty) (sort_of_type ty)
              (if_some (are_wholes program subscripts && is_range program no_section) (element_sort (length v.0.dimensions) (count_of subscripts) (has_range no_section) (sort_of_type v.0.ty)) (sort_of_type ty) v.2).1
