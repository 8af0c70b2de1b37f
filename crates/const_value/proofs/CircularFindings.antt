-- References of constants to such as lead back to them, found by the numbers of names, are those that the files define.
use Rattle.std.proofs.Common.{◌≡◌, refl, sym, ◌∙◌, ap, ap₂, subst, cond, inl, inr, ℕ, zero, suc, ◌+◌, ◌<◌, Bool, true, false, List, [], ◌∷◌, ◌++◌, map, length, Option, Some, None, Contains, append_assoc, arith}
use Rattle.std.specs.Prelude.{slice_get}
use Rattle.std.specs.List.{cons_option, enumerate_from, filter_map, flat_map, range_with_len}
use Rattle.std.specs.Option.{option_map, option_map_or, option_and_then}
use Rattle.std.proofs.lemmas.List.{length_push}
use Rattle.std.proofs.lemmas.List.Folds.{flat_map-map}
use Rattle.std.proofs.lemmas.List.FromFn.{get_or-map-range_with_len, get_or-range_with_len, length-range_with_len}
use Rattle.std.proofs.lemmas.List.Elements.{Contains-append_right, Contains-get_or}
use Rattle.std.proofs.lemmas.Option.{slice_get-get_or}
use Rattle.ftn_base.specs.ModuleUses.{Uses, used_by}
use Rattle.ftn_base.specs.declared.fault.FaultKind.TheVariants.{Circular}
use Rattle.ftn_tree.specs.declared.mention.Mention.{Mention}
use Rattle.ftn_tree.specs.declared.unit.FileTree.{FileTree}
use Rattle.ftn_tree.specs.Circles.{constants, constant_at, constant_number, constant_uses, tokens_for}
use Rattle.ftn_tree.specs.Circles as circles
use Rattle.ftn_tree.specs.ConstantFaults as spec
use Rattle.ftn_tree.specs.DeclarationFaults.{Finding, found}
use Rattle.ftn_tree.specs.GlobalNames.{place}
use Rattle.ftn_tree.specs.KeyKinds.{Datum, datum_of, is_constant, key_at, kind_of}
use Rattle.ftn_tree.specs.Meanings.{Key, own}
use Rattle.ftn_tree.specs.NameFaults.{leads_to}
use Rattle.ftn_tree.specs.Projects.{AreTrees}
use Rattle.const_value.specs.declared.circles.Circles.{Circles}
use Rattle.const_value.specs.declared.project.Project.{Project}
use Rattle.const_value.specs.steps.Components.{Leads}
use Rattle.const_value.specs.steps.Labelling.{AreLabels}
use Rattle.const_value.specs.steps.Lists.{lists_of}
use Rattle.const_value.specs.steps.Names.{all_data}
use Rattle.const_value.specs.steps.Gathered.{IsGathered, datum_number}
use Rattle.const_value.specs.steps.Numbered.{AreEntities, AreNumbered, IsNamed, constant_name, name_at, name_uses}
use Rattle.const_value.specs.steps.Projects.{written_at}
use Rattle.const_value.specs.steps.References.{AreCircles, all_uses, circle_of, circles_at, circles_of, circular_findings, file_of, leads_back, mentions_of_written, refers, refers_at}
use Rattle.const_value.specs.steps.References as references
use Rattle.const_value.proofs.CircularNames.{R, back_to_constant, back_to_name, circle_leads, leads_on_circle, name_use_at}
use Rattle.const_value.proofs.ExpressionTokens.{token_of}
use Rattle.const_value.proofs.FindingSets.{In, in_flat, out_of_flat}
use Rattle.const_value.proofs.GatheredNames.{datum_there, name_within, written_there}
use Rattle.const_value.proofs.KnownNames.{same_some}
use Rattle.const_value.proofs.Leading.{leads_all, leads_from}
use Rattle.const_value.proofs.Rounds.{number_known}
use Rattle.const_value.proofs.TiedNames.{constant_is, constant_there, file_there, uses_are, written_mentions}

-- ---- used numbers and tokens side by side

-- what is found at one element
one_found : {X : Type 0} → Circles → ℕ → ℕ → (X → Option ℕ) → (X → ℕ) → X → List Finding
one_found c n file used token x = option_map_or (λ u. circle_of c n file u (Some (token x))) (used x) []

get_at : {X : Type 0} (before : List X) (x : X) (rest : List X) → slice_get (before ++ x ∷ rest) (length before) ≡ Some x
get_at [] x rest = refl
get_at (y ∷ before) x rest = get_at before x rest

module _ {X : Type 0} (c : Circles) (n file : ℕ) (used : X → Option ℕ) (token : X → ℕ) where
  abbrev token_if : X → Option ℕ
  token_if x = option_map (λ u. token x) (used x)

  side_by_side : (before : List ℕ) (xs : List X) → circles_at c n file (before ++ filter_map token_if xs) (length before) (filter_map used xs) ≡ flat_map (one_found c n file used token) xs
  unfolding one_found
  side_by_side before [] = refl
  side_by_side before (x ∷ xs) = by (used x) refl (side_by_side before xs) (λ t. side_by_side (before ++ t ∷ []) xs) where
    by : (o : Option ℕ) → used x ≡ o → circles_at c n file (before ++ filter_map token_if xs) (length before) (filter_map used xs) ≡ flat_map (one_found c n file used token) xs
        → ((t : ℕ) → circles_at c n file ((before ++ t ∷ []) ++ filter_map token_if xs) (length (before ++ t ∷ [])) (filter_map used xs) ≡ flat_map (one_found c n file used token) xs)
        → circles_at c n file (before ++ filter_map token_if (x ∷ xs)) (length before) (filter_map used (x ∷ xs)) ≡ flat_map (one_found c n file used token) (x ∷ xs)
    by None is rest more =
        ap (λ o. circles_at c n file (before ++ cons_option (option_map (λ u. token x) o) (filter_map token_if xs)) (length before) (cons_option o (filter_map used xs))) is
        ∙ rest ∙ sym (ap (λ o. option_map_or (λ u. circle_of c n file u (Some (token x))) o [] ++ flat_map (one_found c n file used token) xs) is)
    by (Some u) is rest more =
        let size : length (before ++ token x ∷ []) ≡ length before + 1 = length_push before (token x) in
        ap (λ o. circles_at c n file (before ++ cons_option (option_map (λ u. token x) o) (filter_map token_if xs)) (length before) (cons_option o (filter_map used xs))) is
        ∙ ap (λ o. circle_of c n file u o ++ circles_at c n file (before ++ token x ∷ filter_map token_if xs) (length before + 1) (filter_map used xs)) (get_at before (token x) (filter_map token_if xs))
        ∙ ap (λ (fs : List Finding). circle_of c n file u (Some (token x)) ++ fs)
        (ap₂ (λ ts k. circles_at c n file ts k (filter_map used xs)) (sym (append_assoc before (token x ∷ []) (filter_map token_if xs))) (sym size) ∙ more (token x))
        ∙ sym (ap (λ o. option_map_or (λ u. circle_of c n file u (Some (token x))) o [] ++ flat_map (one_found c n file used token) xs) is)

-- ---- elements

in_contains : {X : Type 0} (xs : List X) (x : X) → In x xs → Contains xs x
in_contains [] x there = absurd there
in_contains (y ∷ xs) x (inl same) = subst (λ z. Contains (y ∷ xs) z) same (Contains-get_or (y ∷ xs) 0 y (omega arith))
in_contains (y ∷ xs) x (inr there) = Contains-append_right (y ∷ []) xs x (in_contains xs x there)

in_place : {X : Type 0} (xs : List X) (i : ℕ) (x : X) → slice_get xs i ≡ Some x → In x xs
in_place [] i x is = absurd (cc is)
in_place (y ∷ xs) zero x is = inl (same_some y x is)
in_place (y ∷ xs) (suc i) x is = inr (in_place xs i x is)

contains_in : {X : Type 0} (xs : List X) (x : X) → Contains xs x → In x xs
contains_in xs x there = in_place xs there.0 x (slice_get-get_or xs there.0 x there.1 ∙ ap Some there.2)

in_numbered : {X : Type 0} (at : ℕ) (xs : List X) (i : ℕ) (x : X) → slice_get xs i ≡ Some x → In (at + i, x) (enumerate_from at xs)
in_numbered at [] i x is = absurd (cc is)
in_numbered at (y ∷ xs) zero x is =
    let none : at ≡ at + 0 = omega arith in
    inl (ap₂ (λ (n : ℕ) z. (n, z)) none (same_some y x is))
in_numbered at (y ∷ xs) (suc i) x is =
    let next : at + 1 + i ≡ at + suc i = omega arith in
    inr (subst (λ n. In (n, x) (enumerate_from (at + 1) xs)) next (in_numbered (at + 1) xs i x is))

record Numbered {X : Type 0} (at : ℕ) (xs : List X) (numbered : ℕ × X) : Type 0 where
  place : ℕ
  is : slice_get xs place ≡ Some numbered.1
  number : numbered.0 ≡ at + place

out_of_numbered : {X : Type 0} (at : ℕ) (xs : List X) (numbered : ℕ × X) → In numbered (enumerate_from at xs) → Numbered at xs numbered
out_of_numbered at [] numbered there = absurd there
out_of_numbered at (y ∷ xs) numbered (inl same) =
    let none : at ≡ at + 0 = omega arith in
    record { place = 0; is = ap (λ pair. Some pair.1) same; number = ap (λ pair. pair.0) (sym same) ∙ none }
out_of_numbered at (y ∷ xs) numbered (inr there) =
    let rest = out_of_numbered (at + 1) xs numbered there in
    let next : at + 1 + rest.place ≡ at + suc rest.place = omega arith in
    record { place = suc rest.place; is = rest.is; number = rest.number ∙ next }

-- ---- what is found at a token

module _ (files : List FileTree) (numbered : AreNumbered files) where
  -- a constant that a name denotes, by both numbers
  pub record At (file token y m : ℕ) : Type 0 where
    pub key : Key
    pub at : key_at files file token ≡ Some key
    pub named : IsNamed files key y m
    pub number_is : constant_at files file token ≡ Some y
    pub name_is : name_at files file token ≡ Some m

  at_both : (file token y m : ℕ) (key : Key) → key_at files file token ≡ Some key → IsNamed files key y m → At file token y m
  at_both file token y m key at named =
      let one_datum : datum_of files key ≡ Some named.datum = ap (datum_of files) named.key_is in
      record {
        key = key;
        at = at;
        named = named;
        number_is = ap (option_and_then (constant_number files)) at ∙ named.constant.number_is;
        name_is =
            ap (option_and_then (constant_name files)) at ∙ ap (λ b. cond b (option_and_then (datum_number files) (datum_of files key)) None) named.kind
            ∙ ap (option_and_then (datum_number files)) one_datum ∙ named.name_is;
      }

  by_number : (file token y : ℕ) → constant_at files file token ≡ Some y → (m : ℕ) × At file token y m
  by_number file token y is = by (key_at files file token) refl is where
    by : (o : Option Key) → key_at files file token ≡ o → option_and_then (constant_number files) o ≡ Some y → (m : ℕ) × At file token y m
    by None at is = absurd (cc is)
    by (Some key) at is =
        let (z, m, named) = numbered.constant file token key at (numbered.only file token key y at is) in
        let same : z ≡ y = same_some z y (sym named.constant.number_is ∙ is) in
        (m, subst (λ k. At file token k m) same (at_both file token z m key at named))

  pub by_name : (file token m : ℕ) → name_at files file token ≡ Some m → (y : ℕ) × At file token y m
  by_name file token m is = by (key_at files file token) refl is where
    by : (o : Option Key) → key_at files file token ≡ o → option_and_then (constant_name files) o ≡ Some m → (y : ℕ) × At file token y m
    by None at is = absurd (cc is)
    by (Some key) at is = by_kind (is_constant (kind_of files key)) refl is where
      by_kind : (b : Bool) → is_constant (kind_of files key) ≡ b → cond b (option_and_then (datum_number files) (datum_of files key)) None ≡ Some m → (y : ℕ) × At file token y m
      by_kind false kind is = absurd (cc is)
      by_kind true kind is =
          let (y, k, named) = numbered.constant file token key at kind in
          let one = at_both file token y k key at named in
          let one_datum : datum_of files key ≡ Some named.datum = ap (datum_of files) named.key_is in
          let same : k ≡ m = same_some k m (sym (ap (option_and_then (datum_number files)) one_datum ∙ named.name_is) ∙ is) in
          (y, subst (λ j. At file token y j) same one)

  module _ (c : Circles) (labels : AreLabels (name_uses files) c.labels.items) where
    -- what is found by names, and by constants
    abbrev pub name_found : ℕ → ℕ → ℕ → List Finding
    name_found n file token = option_map_or (λ u. circle_of c n file u (Some token)) (name_at files file token) []

    abbrev pub constant_found : ℕ → ℕ → ℕ → List Finding
    constant_found x file token = cond (circles.leads_back files x (constant_at files file token)) (found Circular (place file token) ∷ []) []

    module _ (x n : ℕ) (r : R files numbered x n) (token : ℕ) (there : Contains (tokens_for files r.is.datum) token) where
      found_constant : (f : Finding) → In f (name_found n r.is.datum.scope.file token) → In f (constant_found x r.is.datum.scope.file token)
      found_constant f h = by (name_at files r.is.datum.scope.file token) refl h where
        by : (o : Option ℕ) → name_at files r.is.datum.scope.file token ≡ o → In f (option_map_or (λ u. circle_of c n r.is.datum.scope.file u (Some token)) o [])
            → In f (constant_found x r.is.datum.scope.file token)
        by None is h = absurd h
        by (Some m) is h = on (leads_back c n m) refl h where
          on : (b : Bool) → leads_back c n m ≡ b → In f (cond b (found Circular (place r.is.datum.scope.file token) ∷ []) []) → In f (constant_found x r.is.datum.scope.file token)
          on false back h = absurd h
          on true back h =
              let (y, a) = by_name r.is.datum.scope.file token m is in
              let use_of : Uses (name_uses files) n m = name_use_at files numbered x n r token a.key y m there a.at a.named in
              let leads : Leads (constant_uses files) y x = back_to_constant files numbered x n y m r (record { key = a.key; is = a.named }) (circle_leads files numbered c.labels.items labels x n m r use_of back) in
              let yes : leads_to (constant_uses files) y x ≡ true = leads_all (constant_uses files) y x (number_known files numbered r.key x r.is.constant) leads in
              subst (λ b. In f (cond b (found Circular (place r.is.datum.scope.file token) ∷ []) [])) (sym (ap (circles.leads_back files x) a.number_is ∙ yes)) h

      found_name : (f : Finding) → In f (constant_found x r.is.datum.scope.file token) → In f (name_found n r.is.datum.scope.file token)
      found_name f h = by (constant_at files r.is.datum.scope.file token) refl h where
        by : (o : Option ℕ) → constant_at files r.is.datum.scope.file token ≡ o → In f (cond (circles.leads_back files x o) (found Circular (place r.is.datum.scope.file token) ∷ []) [])
            → In f (name_found n r.is.datum.scope.file token)
        by None is h = absurd h
        by (Some y) is h = on (leads_to (constant_uses files) y x) refl h where
          on : (b : Bool) → leads_to (constant_uses files) y x ≡ b → In f (cond b (found Circular (place r.is.datum.scope.file token) ∷ []) []) → In f (name_found n r.is.datum.scope.file token)
          on false back h = absurd h
          on true back h =
              let (m, a) = by_number r.is.datum.scope.file token y is in
              let use_of : Uses (name_uses files) n m = name_use_at files numbered x n r token a.key y m there a.at a.named in
              let leads : Leads (name_uses files) m n = back_to_name files numbered x n y m r (record { key = a.key; is = a.named }) (leads_from (constant_uses files) y x back) in
              let yes : leads_back c n m ≡ true = leads_on_circle files numbered c.labels.items labels x n m r use_of leads in
              subst (λ o. In f (option_map_or (λ u. circle_of c n r.is.datum.scope.file u (Some token)) o [])) (sym a.name_is)
              (subst (λ b. In f (cond b (found Circular (place r.is.datum.scope.file token) ∷ []) [])) (sym yes) h)

-- ---- all of them

module _ (files : List FileTree) (p : Project) (g : IsGathered files p) (trees : AreTrees files) (numbered : AreNumbered files) (entities : AreEntities files) (c : Circles) (are : AreCircles p c) where
  labels : AreLabels (name_uses files) c.labels.items
  labels = subst (λ u. AreLabels u c.labels.items) (uses_are files p g trees numbered entities) are.labels

  uses_at : (n : ℕ) → n < length p.names.items → used_by (lists_of c.uses.items) n ≡ refers p n
  uses_at n less = ap (λ l. used_by l n) are.uses ∙ get_or-map-range_with_len (refers p) 0 (length p.names.items) n n [] less (omega arith)

  tokens_at : (n : ℕ) → n < length p.names.items → used_by (lists_of c.tokens.items) n ≡ refers_at p n
  tokens_at n less = ap (λ l. used_by l n) are.tokens ∙ get_or-map-range_with_len (refers_at p) 0 (length p.names.items) n n [] less (omega arith)

  module _ (n : ℕ) (d : Datum) (there : slice_get (all_data files) n ≡ Some d) where
    less : n < length p.names.items
    less = name_within files p g n d there

    file_is : file_of p.names.items n ≡ d.scope.file
    file_is = file_there files p g trees numbered entities n d there

    both : circles_of c n (file_of p.names.items n) ≡ circles_at c n (file_of p.names.items n) (refers_at p n) 0 (refers p n)
    both = ap₂ (λ ts us. circles_at c n (file_of p.names.items n) ts 0 us) (tokens_at n less) (uses_at n less)

    circles_are : is_constant (kind_of files (own d.scope d.name)) ≡ true
        → circles_of c n (file_of p.names.items n) ≡ flat_map (name_found files numbered c labels n d.scope.file) (tokens_for files d)
    unfolding one_found
    circles_are kind =
        both
        ∙ ap (λ b. circles_at c n (file_of p.names.items n) (cond b (references.tokens_in p (file_of p.names.items n) mentions) []) 0 (cond b (references.used_in p (file_of p.names.items n) mentions) []))
        (constant_is files p g trees numbered entities n d there ∙ kind)
        ∙ side_by_side c n (file_of p.names.items n) (λ (m : Mention). references.constant_at p (file_of p.names.items n) m.token) token_of [] mentions
        ∙ ap (λ f. flat_map (one_found c n f (λ (m : Mention). references.constant_at p f m.token) token_of) mentions) file_is
        ∙ flat_same (one_found c n d.scope.file (λ (m : Mention). references.constant_at p d.scope.file m.token) token_of) (λ (m : Mention). name_found files numbered c labels n d.scope.file m.token)
        (λ m. ap (λ o. option_map_or (λ u. circle_of c n d.scope.file u (Some m.token)) o []) (constant_there files p g trees numbered entities d.scope.file m.token)) mentions
        ∙ sym (flat_map-map (name_found files numbered c labels n d.scope.file) token_of mentions)
        ∙ ap (λ ms. flat_map (name_found files numbered c labels n d.scope.file) (map token_of ms)) (ap mentions_of_written (written_there files p g n d there) ∙ written_mentions files d)
      where
        mentions : List Mention
        mentions = mentions_of_written (written_at p.written.items n)

        flat_same : {X : Type 0} (f h : X → List Finding) → ((x : X) → f x ≡ h x) → (xs : List X) → flat_map f xs ≡ flat_map h xs
        flat_same f h same [] = refl
        flat_same f h same (x ∷ xs) = ap₂ (λ (a b : List Finding). a ++ b) (same x) (flat_same f h same xs)

    no_circles : is_constant (kind_of files (own d.scope d.name)) ≡ false → circles_of c n (file_of p.names.items n) ≡ []
    no_circles kind =
        both
        ∙ ap (λ b. circles_at c n (file_of p.names.items n) (refers_at p n) 0 (cond b (references.used_in p (file_of p.names.items n) (mentions_of_written (written_at p.written.items n))) []))
        (constant_is files p g trees numbered entities n d there ∙ kind)

    of_name : (f : Finding) → In f (circles_of c n (file_of p.names.items n)) → In f (spec.circular_findings files)
    of_name f h = by (is_constant (kind_of files (own d.scope d.name))) refl where
      by : (b : Bool) → is_constant (kind_of files (own d.scope d.name)) ≡ b → In f (spec.circular_findings files)
      by false kind = absurd (subst (λ fs. In f fs) (no_circles kind) h)
      by true kind =
          let (x, named) = numbered.named n d there kind in
          let r : R files numbered x n = record { key = own d.scope d.name; is = named } in
          let same : named.datum ≡ d = same_some named.datum d (sym named.there ∙ there) in
          let w = out_of_flat (name_found files numbered c labels n d.scope.file) (tokens_for files d) f (subst (λ fs. In f fs) (circles_are kind) h) in
          let stands : Contains (tokens_for files named.datum) w.of = subst (λ e. Contains (tokens_for files e) w.of) (sym same) (in_contains (tokens_for files d) w.of w.among) in
          let here : In f (constant_found files numbered c labels x named.datum.scope.file w.of) =
          found_constant files numbered c labels x n r w.of stands f (subst (λ e. In f (name_found files numbered c labels n e.scope.file w.of)) (sym same) w.here) in
          let all : In f (spec.circles files x named.datum) = in_flat (constant_found files numbered c labels x named.datum.scope.file) (tokens_for files named.datum) w.of f (contains_in (tokens_for files named.datum) w.of stands) here in
          let same_number : 0 + x ≡ x = omega arith in
          in_flat (λ pair. option_map_or (spec.circles files pair.0) (datum_of files pair.1) []) (enumerate_from 0 (constants files)) (x, own d.scope d.name) f
          (subst (λ k. In (k, own d.scope d.name) (enumerate_from 0 (constants files))) same_number (in_numbered 0 (constants files) x (own d.scope d.name) named.constant.there))
          (subst (λ o. In f (option_map_or (spec.circles files x) o [])) (sym (ap (datum_of files) named.key_is)) all)

  -- those of the code are defined
  pub circle_defined : (f : Finding) → In f (circular_findings c p) → In f (spec.circular_findings files)
  circle_defined f h =
      let w = out_of_flat (λ name. circles_of c name (file_of p.names.items name)) (range_with_len 0 (length p.names.items)) f h in
      let k = in_contains (range_with_len 0 (length p.names.items)) w.of w.among in
      let long : length (range_with_len 0 (length p.names.items)) ≡ length p.names.items = length-range_with_len 0 (length p.names.items) in
      let within : k.0 < length p.names.items = subst (λ n. k.0 < n) long k.1 in
      let same : w.of ≡ 0 + k.0 = sym k.2 ∙ get_or-range_with_len 0 (length p.names.items) k.0 w.of within in
      let less : w.of < length p.names.items = omega (arith, within, same) in
      let (d, there) = datum_there files p g w.of less in
      of_name w.of d there f w.here

  -- those that are defined are among the code's
  pub circle_told : (f : Finding) → In f (spec.circular_findings files) → In f (circular_findings c p)
  circle_told f h =
      let w = out_of_flat (λ pair. option_map_or (spec.circles files pair.0) (datum_of files pair.1) []) (enumerate_from 0 (constants files)) f h in
      let k = out_of_numbered 0 (constants files) w.of w.among in
      let (n, named) = numbered.all k.place w.of.1 k.is in
      let r : R files numbered k.place n = record { key = w.of.1; is = named } in
      let number : w.of.0 ≡ k.place = k.number ∙ none k.place in
      let here : In f (spec.circles files k.place named.datum) =
      subst (λ o. In f (option_map_or (spec.circles files k.place) o [])) (ap (datum_of files) named.key_is)
      (subst (λ j. In f (option_map_or (spec.circles files j) (datum_of files w.of.1) [])) number w.here) in
      let v = out_of_flat (constant_found files numbered c labels k.place named.datum.scope.file) (tokens_for files named.datum) f here in
      let stands : Contains (tokens_for files named.datum) v.of = in_contains (tokens_for files named.datum) v.of v.among in
      let told : In f (name_found files numbered c labels n named.datum.scope.file v.of) = found_name files numbered c labels k.place n r v.of stands f v.here in
      let kind : is_constant (kind_of files (own named.datum.scope named.datum.name)) ≡ true = ap (λ key. is_constant (kind_of files key)) (sym named.key_is) ∙ named.kind in
      let all : In f (circles_of c n (file_of p.names.items n)) =
      subst (λ fs. In f fs) (sym (circles_are n named.datum named.there kind)) (in_flat (name_found files numbered c labels n named.datum.scope.file) (tokens_for files named.datum) v.of f v.among told) in
      let less : n < length p.names.items = name_within files p g n named.datum named.there in
      let long : length (range_with_len 0 (length p.names.items)) ≡ length p.names.items = length-range_with_len 0 (length p.names.items) in
      let within : n < length (range_with_len 0 (length p.names.items)) = subst (λ j. n < j) (sym long) less in
      let place : slice_get (range_with_len 0 (length p.names.items)) n ≡ Some n =
      slice_get-get_or (range_with_len 0 (length p.names.items)) n 0 within ∙ ap Some (get_or-range_with_len 0 (length p.names.items) n 0 less ∙ none n) in
      in_flat (λ name. circles_of c name (file_of p.names.items name)) (range_with_len 0 (length p.names.items)) n f (in_place (range_with_len 0 (length p.names.items)) n n place) all
    where
      none : (k : ℕ) → 0 + k ≡ k
      none k = omega arith
