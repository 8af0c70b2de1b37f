-- The entities of names: of each the first one that its scoping unit has by that name.
use Rattle.std.proofs.Common.{◌≡◌, ℕ, zero, suc, ◌+◌, ◌<◌, Bool, true, false, cond, List, [], ◌∷◌, length, map, get_or, set, replicate, Option, Some, None, bytes_eq, ◌⊎◌, inl, inr, refl, sym, subst, ap, ap₂, ◌∙◌, arith}
use Rattle.std.specs.Prelude.{◌&&◌, ◌==◌, not, slice_get, is_some}
use Rattle.std.specs.List.{position_from}
use Rattle.std.specs.Option.{is_none, option_and_then, option_map, option_or}
use Rattle.std.specs.Cmp.Lexicographic.{nat_list_eq_equiv}
use Rattle.std.proofs.lemmas.Bool.{and_parts, cases_eq}
use Rattle.std.proofs.lemmas.Bool.Decides.{nat_tests}
use Rattle.std.proofs.lemmas.Iterator.Adapters.{position_from-zero}
use Rattle.std.proofs.lemmas.List.{ext_get_or, get_or-replicate, get_or-set_other, get_or-set_same, length-map, length-replicate, length-set}
use Rattle.std.proofs.lemmas.Option.{get_or_from_slice_get, slice_get-map}
use Rattle.ftn_tree.specs.declared.table.Entity.{Entity}
use Rattle.ftn_tree.specs.declared.unit.FileTree.{FileTree}
use Rattle.ftn_tree.specs.Bindings.{bound_entities, is_entity_of, same_number}
use Rattle.ftn_tree.specs.KeyKinds.{Datum, datum}
use Rattle.ftn_tree.specs.Meanings.{own, same_names}
use Rattle.ftn_tree.specs.Projects.{AreTrees}
use Rattle.ftn_tree.specs.Scopes.{scope_number}
use Rattle.decl_table.proofs.OwnStatements.{number_of as number_there}
use Rattle.const_value.specs.steps.Gathered.{own_entity}
use Rattle.const_value.specs.steps.Links.{name_of, put_all, put_entity, put_where}
use Rattle.const_value.specs.steps.Names.{all_data, all_said, number_of}
use Rattle.const_value.proofs.DataNumbers.{datum_owner, number_datum}
use Rattle.const_value.proofs.NamedPlaces.{same_bytes}

-- ---- tests

iff : (a b : Bool) → (a ≡ true → b ≡ true) → (b ≡ true → a ≡ true) → a ≡ b
iff true b there back = sym (there refl)
iff false true there back = sym (sym (back refl))
iff false false there back = refl

eq_same : (n k : ℕ) → (n == k) ≡ true → n ≡ k
eq_same n k is = grind (arith, nat_tests)

eq_true : (n k : ℕ) → n ≡ k → (n == k) ≡ true
eq_true n k same = grind (arith, nat_tests)

eq_false : (n k : ℕ) → (n ≡ k → ⊥) → (n == k) ≡ false
eq_false n k differ = grind (arith, nat_tests)

-- ---- one entity after the other

abbrev pub is_number : ℕ → Option ℕ → Bool
is_number n None = false
is_number n (Some m) = m == n

-- the entity opens nothing and has the name of that number
abbrev pub holds_by : ℕ → Option ℕ → Option ℕ → Bool
holds_by n (Some scope) name = false
holds_by n None name = is_number n name

abbrev pub holds : (ℕ → List ℕ → Option ℕ) → ℕ → Entity → Bool
holds number n entity = holds_by n entity.opens (name_of number entity)

or_none : (o : Option ℕ) → option_or o None ≡ o
or_none None = refl
or_none (Some n) = refl

put_long : (name opens : Option ℕ) (at : ℕ) (xs : List (Option ℕ)) → length (put_where name opens at xs) ≡ length xs
put_long None opens at xs = refl
put_long (Some m) (Some scope) at xs = refl
put_long (Some m) None at xs = by (is_none (get_or xs m None)) where
  by : (b : Bool) → length (cond b (set xs m (Some at)) xs) ≡ length xs
  by true = length-set xs m (Some at)
  by false = refl

put_get : (name opens : Option ℕ) (at : ℕ) (xs : List (Option ℕ)) (n : ℕ) → n < length xs
    → get_or (put_where name opens at xs) n None ≡ option_or (get_or xs n None) (cond (holds_by n opens name) (Some at) None)
put_get None None at xs n less = sym (or_none (get_or xs n None))
put_get None (Some scope) at xs n less = sym (or_none (get_or xs n None))
put_get (Some m) (Some scope) at xs n less = sym (or_none (get_or xs n None))
put_get (Some m) None at xs n less = by (get_or xs m None) refl (cases_eq m n) where
  by : (o : Option ℕ) → get_or xs m None ≡ o → (m ≡ n) ⊎ (m ≡ n → ⊥)
      → get_or (cond (is_none (get_or xs m None)) (set xs m (Some at)) xs) n None ≡ option_or (get_or xs n None) (cond (m == n) (Some at) None)
  by None free (inl same) =
      ap (λ (o : Option ℕ). get_or (cond (is_none o) (set xs m (Some at)) xs) n None) free
      ∙ ap (λ k. get_or (set xs k (Some at)) n None) same ∙ get_or-set_same xs n (Some at) None less
      ∙ sym (ap₂ (λ (o : Option ℕ) b. option_or o (cond b (Some at) None)) (ap (λ k. get_or xs k None) (sym same) ∙ free) (eq_true m n same))
  by None free (inr differ) =
      ap (λ (o : Option ℕ). get_or (cond (is_none o) (set xs m (Some at)) xs) n None) free
      ∙ get_or-set_other xs m n (Some at) None (λ same. differ (sym same))
      ∙ sym (ap (λ b. option_or (get_or xs n None) (cond b (Some at) None)) (eq_false m n differ) ∙ or_none (get_or xs n None))
  by (Some k) taken (inl same) =
      ap (λ (o : Option ℕ). get_or (cond (is_none o) (set xs m (Some at)) xs) n None) taken
      ∙ here same
      ∙ sym (ap (λ (o : Option ℕ). option_or o (cond (m == n) (Some at) None)) (here same))
    where
      here : m ≡ n → get_or xs n None ≡ Some k
      here same = ap (λ j. get_or xs j None) (sym same) ∙ taken
  by (Some k) taken (inr differ) =
      ap (λ (o : Option ℕ). get_or (cond (is_none o) (set xs m (Some at)) xs) n None) taken
      ∙ sym (ap (λ b. option_or (get_or xs n None) (cond b (Some at) None)) (eq_false m n differ) ∙ or_none (get_or xs n None))

module _ (number : ℕ → List ℕ → Option ℕ) where
  all_long : (at : ℕ) (xs : List (Option ℕ)) (es : List Entity) → length (put_all number at xs es) ≡ length xs
  all_long at xs [] = refl
  all_long at xs (e ∷ es) = all_long (at + 1) (put_entity (name_of number e) e at xs) es ∙ put_long (name_of number e) e.opens at xs

  first_or : (o : Option ℕ) (b : Bool) (at : ℕ) (rest : Option ℕ) → option_or (option_or o (cond b (Some at) None)) rest ≡ option_or o (cond b (Some at) rest)
  first_or None true at rest = refl
  first_or None false at rest = refl
  first_or (Some n) b at rest = refl

  all_get : (at : ℕ) (xs : List (Option ℕ)) (es : List Entity) (n : ℕ) → n < length xs
      → get_or (put_all number at xs es) n None ≡ option_or (get_or xs n None) (position_from (holds number n) at es)
  all_get at xs [] n less = sym (or_none (get_or xs n None))
  all_get at xs (e ∷ es) n less =
      all_get (at + 1) (put_entity (name_of number e) e at xs) es n (subst (λ l. n < l) (sym (put_long (name_of number e) e.opens at xs)) less)
      ∙ ap (λ o. option_or o (position_from (holds number n) (at + 1) es)) (put_get (name_of number e) e.opens at xs n less)
      ∙ first_or (get_or xs n None) (holds number n e) at (position_from (holds number n) (at + 1) es)

alike : (one other : ℕ → List ℕ → Option ℕ) → ((scope : ℕ) (name : List ℕ) → one scope name ≡ other scope name) → (entity : Entity) → name_of one entity ≡ name_of other entity
alike one other same entity = by (option_or entity.opens entity.home) entity.name where
  by : (home : Option ℕ) (name : Option (List ℕ)) → option_and_then (λ scope. option_and_then (one scope) name) home ≡ option_and_then (λ scope. option_and_then (other scope) name) home
  by None name = refl
  by (Some scope) None = refl
  by (Some scope) (Some name) = same scope name

pub names_alike : (one other : ℕ → List ℕ → Option ℕ) → ((scope : ℕ) (name : List ℕ) → one scope name ≡ other scope name) → (es : List Entity) → map (name_of one) es ≡ map (name_of other) es
names_alike one other same [] = refl
names_alike one other same (e ∷ es) = ap₂ (λ (x : Option ℕ) xs. x ∷ xs) (alike one other same e) (names_alike one other same es)

put_alike : (one other : ℕ → List ℕ → Option ℕ) → ((scope : ℕ) (name : List ℕ) → one scope name ≡ other scope name) → (at : ℕ) (xs : List (Option ℕ)) (es : List Entity)
    → put_all one at xs es ≡ put_all other at xs es
put_alike one other same at xs [] = refl
put_alike one other same at xs (e ∷ es) =
    ap (λ name. put_all one (at + 1) (put_entity name e at xs) es) (alike one other same e) ∙ put_alike one other same (at + 1) (put_entity (name_of other e) e at xs) es

-- ---- the entities of a project

some_there : {X : Type 0} (xs : List X) (n : ℕ) → n < length xs → (x : X) × (slice_get xs n ≡ Some x)
some_there [] n less = absurd (omega (arith, less))
some_there (x ∷ xs) zero less = (x, refl)
some_there (x ∷ xs) (suc n) less = some_there xs n (omega (arith, less))

and_false : (a : Bool) → (a && false) ≡ false
and_false true = refl
and_false false = refl

position_same : (one other : Entity → Bool) → ((e : Entity) → one e ≡ other e) → (at : ℕ) (es : List Entity) → position_from one at es ≡ position_from other at es
position_same one other same at [] = refl
position_same one other same at (e ∷ es) = ap₂ (λ b rest. cond b (Some at) rest) (same e) (position_same one other same (at + 1) es)

module _ (files : List FileTree) (are : AreTrees files) (n : ℕ) (d : Datum) (there : slice_get (all_data files) n ≡ Some d) where
  named : (h : ℕ) (name : List ℕ) → is_number n (number_of (all_said files) h name) ≡ (same_number (Some h) (scope_number files d.scope) && bytes_eq name d.name)
  named h name = iff (is_number n (number_of (all_said files) h name)) (same_number (Some h) (scope_number files d.scope) && bytes_eq name d.name) forth back where
    home : scope_number files d.scope ≡ Some ((datum_owner files n d there).scope)
    home = let o = datum_owner files n d there in number_there files are o.scope d.scope o.there

    forth : is_number n (number_of (all_said files) h name) ≡ true → (same_number (Some h) (scope_number files d.scope) && bytes_eq name d.name) ≡ true
    forth is = by (number_of (all_said files) h name) refl is where
      by : (o : Option ℕ) → number_of (all_said files) h name ≡ o → is_number n o ≡ true → (same_number (Some h) (scope_number files d.scope) && bytes_eq name d.name) ≡ true
      by None none is = absurd (cc is)
      by (Some m) some is =
          let p = number_datum files h name n (some ∙ ap Some (eq_same m n is)) in
          let same : datum p.unit name ≡ d = cc (p.here, there) in
          let scope : p.unit ≡ d.scope = ap (λ (d : Datum). d.scope) same in
          let number : scope_number files d.scope ≡ Some h = number_there files are h d.scope (p.there ∙ ap Some scope) in
          ap₂ (λ o b. same_number (Some h) o && b) number (ap (bytes_eq name) (sym (ap (λ (d : Datum). d.name) same)) ∙ nat_list_eq_equiv.refl name)
          ∙ ap (λ b. b && true) (eq_true h h refl)

    back : (same_number (Some h) (scope_number files d.scope) && bytes_eq name d.name) ≡ true → is_number n (number_of (all_said files) h name) ≡ true
    back both =
        let o = datum_owner files n d there in
        let parts = and_parts (same_number (Some h) (scope_number files d.scope)) (bytes_eq name d.name) both in
        let equal : (h == o.scope) ≡ true = sym (ap (same_number (Some h)) home) ∙ parts.0 in
        ap (is_number n) (ap₂ (number_of (all_said files)) (eq_same h o.scope equal) (same_bytes name d.name parts.1) ∙ o.number) ∙ eq_true n n refl

  held : (entity : Entity) → holds (number_of (all_said files)) n entity ≡ is_entity_of files (own d.scope d.name) entity
  held entity = by entity.opens entity.home entity.name where
    by : (opens home : Option ℕ) (name : Option (List ℕ))
        → holds_by n opens (option_and_then (λ scope. option_and_then (number_of (all_said files) scope) name) (option_or opens home))
        ≡ (not (is_some opens) && same_number home (scope_number files d.scope) && same_names name (Some d.name))
    by (Some s) home name = refl
    by None None name = refl
    by None (Some h) None = sym (and_false (same_number (Some h) (scope_number files d.scope)))
    by None (Some h) (Some name) = named h name

  own_there : position_from (holds (number_of (all_said files)) n) 0 (bound_entities files) ≡ own_entity files d
  own_there =
      position_same (holds (number_of (all_said files)) n) (is_entity_of files (own d.scope d.name)) held 0 (bound_entities files)
      ∙ sym (position_from-zero (is_entity_of files (own d.scope d.name)) (bound_entities files))

pub own_entities : (files : List FileTree) → AreTrees files → (number : ℕ → List ℕ → Option ℕ) (count : ℕ) → ((scope : ℕ) (name : List ℕ) → number scope name ≡ number_of (all_said files) scope name)
    → count ≡ length (all_data files) → put_all number 0 (replicate count None) (bound_entities files) ≡ map (own_entity files) (all_data files)
own_entities files are number count same size =
    put_alike number (number_of (all_said files)) same 0 (replicate count None) (bound_entities files)
    ∙ ext_get_or None (put_all (number_of (all_said files)) 0 (replicate count None) (bound_entities files)) (map (own_entity files) (all_data files)) (long ∙ size ∙ sym (length-map (all_data files) (own_entity files))) each
  where
    none : List (Option ℕ)
    none = replicate count None

    long : length (put_all (number_of (all_said files)) 0 (replicate count None) (bound_entities files)) ≡ count
    long = all_long (number_of (all_said files)) 0 (replicate count None) (bound_entities files) ∙ length-replicate count None

    each : (n : ℕ) → n < length (put_all (number_of (all_said files)) 0 (replicate count None) (bound_entities files))
        → get_or (put_all (number_of (all_said files)) 0 (replicate count None) (bound_entities files)) n None ≡ get_or (map (own_entity files) (all_data files)) n None
    each n within =
        let less : n < count = subst (λ l. n < l) long within in
        let below : n < length (replicate {A = Option ℕ} count None) = subst (λ l. n < l) (sym (length-replicate {A = Option ℕ} count None)) less in
        let (d, there) = some_there (all_data files) n (subst (λ l. n < l) size less) in
        all_get (number_of (all_said files)) 0 (replicate count None) (bound_entities files) n below
        ∙ ap (λ o. option_or o (position_from (holds (number_of (all_said files)) n) 0 (bound_entities files))) (get_or-replicate count n None None less)
        ∙ own_there files are n d there
        ∙ sym (get_or_from_slice_get (map (own_entity files) (all_data files)) n (own_entity files d) None (slice_get-map (own_entity files) (all_data files) n ∙ ap (option_map (own_entity files)) there))
