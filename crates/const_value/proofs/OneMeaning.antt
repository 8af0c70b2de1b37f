-- Where a project has no fault of its modules and names each occurrence of a name denotes one entity.
use Rattle.std.proofs.Common.{◌≡◌, ℕ, zero, suc, ◌+◌, ◌-◌, ◌<◌, ◌≤◌, Bool, true, false, cond, List, [], ◌∷◌, ◌++◌, filter, length, map, Option, Some, None, inl, inr, refl, sym, subst, ap, ◌∙◌, arith}
use Rattle.std.specs.Prelude.{◌&&◌, ◌==◌, nat_eq, not, slice_get}
use Rattle.std.specs.List.{enumerate_from, flat_map, last_or, list_any, range_with_len, AllByRecursion as Each}
use Rattle.std.specs.Option.{option_map, option_map_or, option_or}
use Rattle.std.proofs.lemmas.Bool.Decides.{nat_tests}
use Rattle.ftn_base.specs.declared.fault.FaultKind.{FaultKind}
use Rattle.ftn_tree.specs.declared.mention.Mention.{Mention}
use Rattle.ftn_tree.specs.declared.mention.Role.{Role}
use Rattle.ftn_tree.specs.declared.mention.Role.TheVariants as role
use Rattle.ftn_tree.specs.declared.table.Extent.{Extent}
use Rattle.ftn_tree.specs.declared.unit.FileTree.{FileTree}
use Rattle.ftn_tree.specs.Bindings.{Denoting, denoting, denotings, denotings_in, keys_at, meaning_by, occurrence_meaning, opened_meaning}
use Rattle.ftn_tree.specs.DeclarationFaults.{Finding, fault_of, first_finding}
use Rattle.ftn_tree.specs.Extents.{covers, encloses, host_of, is_body, scope_of, scoping}
use Rattle.ftn_tree.specs.GlobalNames.{Global, Place, blocks, has_no_host, program_units, same_name}
use Rattle.ftn_tree.specs.Meanings as spec
use Rattle.ftn_tree.specs.Meanings.{Key, Meaning, nothing, one, several, unknown, unit}
use Rattle.ftn_tree.specs.NameFaults.{binding_findings, first_of_names, is_not_public, name_fault, name_findings, name_rank, not_public_at, not_public_findings, reference_findings, use_findings, use_rank}
use Rattle.ftn_tree.specs.Projects.{AreTrees}
use Rattle.ftn_tree.specs.Roles.{says, same_role}
use Rattle.ftn_tree.specs.Sayings.{mentions_at}
use Rattle.ftn_tree.specs.Scopes.{all_statements, name_at, scope_name}
use Rattle.decl_table.proofs.Arounds.{ordered_units}
use Rattle.decl_table.proofs.Hosts.{after_it, around_is, before_it}
use Rattle.decl_table.proofs.Order.{Comes, Ordered, statements_in, Each as All}

-- ---- lists without members

none_first : (rank : FaultKind → ℕ) (all : List Finding) → first_finding rank all ≡ None → all ≡ []
none_first rank [] is = refl
none_first rank (f ∷ all) is = absurd (cc is)

either_none : {A : Type 0} (a b : Option A) → option_or a b ≡ None → (a ≡ None) × (b ≡ None)
either_none None b is = (refl, is)
either_none (Some a) b is = absurd (cc is)

both_empty : {A : Type 0} (xs ys : List A) → xs ++ ys ≡ [] → (xs ≡ []) × (ys ≡ [])
both_empty [] ys is = (refl, is)
both_empty (x ∷ xs) ys is = absurd (cc is)

flat_empty : {A B : Type 0} (f : A → List B) (xs : List A) → flat_map f xs ≡ [] → Each (λ x. f x ≡ []) xs
flat_empty f [] is = tt
flat_empty f (x ∷ xs) is = let parts = both_empty (f x) (flat_map f xs) is in (parts.0, flat_empty f xs parts.1)

map_empty : {A B : Type 0} (f : A → B) (xs : List A) → map f xs ≡ [] → xs ≡ []
map_empty f [] is = refl
map_empty f (x ∷ xs) is = absurd (cc is)

filter_empty : {A : Type 0} (test : A → Bool) (xs : List A) → filter test xs ≡ [] → Each (λ x. test x ≡ false) xs
filter_empty test [] is = tt
filter_empty {A} test (x ∷ xs) is = by (test x) refl is (filter_empty test xs) where
  by : (b : Bool) → test x ≡ b → cond b (x ∷ filter test xs) (filter test xs) ≡ [] → (filter test xs ≡ [] → Each (λ y. test y ≡ false) xs) → (test x ≡ false) × Each (λ y. test y ≡ false) xs
  by true passes is rest = absurd (cc is)
  by false fails is rest = (fails, rest is)

each_both : {A : Type 0} (P Q R : A → Type 0) → ((x : A) → P x → Q x → R x) → (xs : List A) → Each P xs → Each Q xs → Each R xs
each_both P Q R join [] all more = tt
each_both P Q R join (x ∷ xs) all more = (join x all.0 more.0, each_both P Q R join xs all.1 more.1)

each_append : {A : Type 0} (P : A → Type 0) (xs ys : List A) → Each P xs → Each P ys → Each P (xs ++ ys)
each_append P [] ys all more = more
each_append P (x ∷ xs) ys all more = (all.0, each_append P xs ys all.1 more)

pub each_flat : {A B : Type 0} (Q : B → Type 0) (f : A → List B) → ((x : A) → Each Q (f x)) → (xs : List A) → Each Q (flat_map f xs)
each_flat Q f all [] = tt
each_flat Q f all (x ∷ xs) = each_append Q (f x) (flat_map f xs) (all x) (each_flat Q f all xs)

each_map : {A B : Type 0} (Q : B → Type 0) (f : A → B) (xs : List A) → Each (λ x. Q (f x)) xs → Each Q (map f xs)
each_map Q f [] all = tt
each_map Q f (x ∷ xs) all = (all.0, each_map Q f xs all.1)

in_range : (Q : ℕ → Type 0) (a n k : ℕ) → Each Q (range_with_len a n) → a ≤ k → k < a + n → Q k
in_range Q a zero k all low high = absurd (omega (arith, low, high))
in_range Q a (suc n) k all low high = by (a == k) refl (λ more. in_range Q (a + 1) n k all.1 more (omega (arith, high))) where
  by : (b : Bool) → (a == k) ≡ b → (a + 1 ≤ k → Q k) → Q k
  by true is rest = let same : a ≡ k = grind (arith, nat_tests) in subst Q same all.0
  by false is rest = let other : a + 1 ≤ k = grind (arith, nat_tests, low) in rest other

-- ---- the program unit around a statement

none_pass : (test : Extent → Bool) (xs : List Extent) → All (λ x. test x ≡ false) xs → filter test xs ≡ []
none_pass test [] all = refl
none_pass test (x ∷ xs) (first, all) = ap (λ b. cond b (x ∷ filter test xs) (filter test xs)) first ∙ none_pass test xs all

all_and : {A : Type 0} (P Q R : A → Type 0) → ((x : A) → P x → Q x → R x) → (xs : List A) → All P xs → All Q xs → All R xs
all_and P Q R join [] all more = tt
all_and P Q R join (x ∷ xs) (first, all) (other, more) = (join x first other, all_and P Q R join xs all more)

at_end : {A : Type 0} (P : A → Type 0) (xs : List A) (x : A) → All P xs → P x → All P (xs ++ x ∷ [])
at_end P [] x all last = (last, tt)
at_end P (y ∷ xs) x (first, all) last = (first, at_end P xs x all last)

joins : {A : Type 0} (xs : List A) (x : A) (ys : List A) → xs ++ x ∷ ys ≡ (xs ++ x ∷ []) ++ ys
joins [] x ys = refl
joins (y ∷ xs) x ys = ap (λ zs. y ∷ zs) (joins xs x ys)

member_of : (P : Extent → Type 0) (test : Extent → Bool) (a : List Extent) (u : Extent) (b : List Extent) → Each P (filter test (a ++ u ∷ b)) → test u ≡ true → P u
member_of P test [] u b all passes = by (test u) passes all where
  by : (t : Bool) → t ≡ true → Each P (cond t (u ∷ filter test b) (filter test b)) → P u
  by true is all = all.0
  by false is all = absurd (cc is)
member_of P test (x ∷ a) u b all passes = member_of P test a u b (by (test x) all) passes where
  by : (t : Bool) → Each P (cond t (x ∷ filter test (a ++ u ∷ b)) (filter test (a ++ u ∷ b))) → Each P (filter test (a ++ u ∷ b))
  by true all = all.1
  by false all = all

-- an earlier one that doesn't cover the statement isn't around one that does
not_around : (file statement : ℕ) (p u : Extent) → covers file statement u ≡ true → Comes p u → covers file statement p ≡ false → covers u.file u.opening p ≡ false
not_around file statement p u is (inl less) none = grind (arith, nat_tests)
not_around file statement p u is (inr (same, less, inl within)) none =
    let file_is : u.file ≡ file = grind (arith, nat_tests) in
    let low : u.opening ≤ statement = grind (arith, nat_tests) in
    let high : statement ≤ u.ending = grind (arith, nat_tests) in
    let first : p.opening ≤ statement = omega (arith, less, low) in
    let last : statement ≤ p.ending = omega (arith, high, within) in
    absurd (cc (none, covered p (same ∙ file_is) first last)) where
      covered : (p : Extent) → p.file ≡ file → p.opening ≤ statement → statement ≤ p.ending → covers file statement p ≡ true
      covered p same first last = grind (arith, nat_tests)
not_around file statement p u is (inr (same, less, inr apart)) none = grind (arith, nat_tests)

module _ (files : List FileTree) (are : AreTrees files) (file statement : ℕ) (P : Extent → Type 0) (all : Each P (program_units files)) where
  abbrev Outer : Type 0
  Outer = (u : Extent) × P u × (covers file statement u ≡ true)

  outer_at : (a : List Extent) (u : Extent) (b : List Extent) → scoping files ≡ a ++ u ∷ b → All (λ p. covers file statement p ≡ false) a → covers file statement u ≡ true → Outer
  outer_at a u b split none is =
      let ordered : Ordered (λ file. statements_in file files) (a ++ u ∷ b) = subst (Ordered (λ file. statements_in file files)) split (ordered_units files are) in
      let before : All (λ p. Comes p u) a = before_it (λ file. statements_in file files) a u b ordered in
      let after : All (Comes u) b = (after_it (λ file. statements_in file files) a u b ordered).1 in
      let outside : filter (covers u.file u.opening) a ≡ [] =
      none_pass (covers u.file u.opening) a
      (all_and (λ p. Comes p u) (λ p. covers file statement p ≡ false) (λ p. covers u.file u.opening p ≡ false) (λ p comes not_there. not_around file statement p u is comes not_there) a before none) in
      let alone : host_of files u ≡ None =
      ap (λ es. last_or None (filter (encloses u.file u.opening) es)) split ∙ ap (last_or None) (around_is a u b before after ∙ outside) in
      let passes : has_no_host files u ≡ true = ap (λ host. option_map_or (λ (h : Extent). false) host true) alone in
      (u, member_of P (has_no_host files) a u b (subst (λ es. Each P (filter (has_no_host files) es)) split all) passes, is)

  search : (a b : List Extent) (e : Extent) → scoping files ≡ a ++ b → All (λ p. covers file statement p ≡ false) a → last_or None (filter (covers file statement) b) ≡ Some e → Outer
  search a [] e split none is = absurd (cc is)
  search a (u ∷ b) e split none is = by (covers file statement u) refl is (search (a ++ u ∷ []) b e (split ∙ joins a u b)) where
    by : (t : Bool) → covers file statement u ≡ t → last_or None (cond t (u ∷ filter (covers file statement) b) (filter (covers file statement) b)) ≡ Some e
        → (All (λ p. covers file statement p ≡ false) (a ++ u ∷ []) → last_or None (filter (covers file statement) b) ≡ Some e → Outer) → Outer
    by true passes is rest = outer_at a u b split none passes
    by false fails is rest = rest (at_end (λ p. covers file statement p ≡ false) a u none fails) is

  pub outer : (e : Extent) → scope_of files file statement ≡ Some e → Outer
  outer e is = search [] (scoping files) e refl tt is

-- ---- items of USE give something

-- a member that covers the statement, of what is found
last_covers : (file statement : ℕ) (es : List Extent) (found : Option Extent) (e : Extent) → ((x : Extent) → found ≡ Some x → covers file statement x ≡ true)
    → last_or found (filter (covers file statement) es) ≡ Some e → covers file statement e ≡ true
last_covers file statement [] found e before is = before e is
last_covers file statement (x ∷ es) found e before is = by (covers file statement x) refl is (last_covers file statement es (Some x) e) (last_covers file statement es found e before) where
  by : (b : Bool) → covers file statement x ≡ b → last_or found (cond b (x ∷ filter (covers file statement) es) (filter (covers file statement) es)) ≡ Some e
      → (((y : Extent) → Some x ≡ Some y → covers file statement y ≡ true) → last_or (Some x) (filter (covers file statement) es) ≡ Some e → covers file statement e ≡ true)
      → (last_or found (filter (covers file statement) es) ≡ Some e → covers file statement e ≡ true) → covers file statement e ≡ true
  by true passes is here rest = here (λ y same. let equal : x ≡ y = cc same in subst (λ z. covers file statement z ≡ true) equal passes) is
  by false fails is here rest = rest is

in_file : (file statement : ℕ) (e : Extent) → covers file statement e ≡ true → e.file ≡ file
in_file file statement e is = grind (arith, nat_tests)

begins : (file statement : ℕ) (e : Extent) → covers file statement e ≡ true → e.opening ≤ statement
begins file statement e is = grind (arith, nat_tests)

ends : (file statement : ℕ) (e : Extent) → covers file statement e ≡ true → statement ≤ e.ending
ends file statement e is = grind (arith, nat_tests)

module _ (files : List FileTree) (are : AreTrees files) (none : not_public_findings files ≡ []) where
  public_at : (file statement : ℕ) (e : Extent) → scope_of files file statement ≡ Some e → not_public_at files file statement ≡ []
  public_at file statement e is =
      let (u, units, covered) = outer files are file statement (λ u. flat_map (not_public_at files u.file) (all_statements u) ≡ []) (flat_empty (λ u. flat_map (not_public_at files u.file) (all_statements u)) (program_units files) none) e is in
      let first : u.opening ≤ statement = begins file statement u covered in
      let last : statement ≤ u.ending = ends file statement u covered in
      let here : not_public_at files u.file statement ≡ [] =
      in_range (λ s. not_public_at files u.file s ≡ []) u.opening (u.ending + 1 - u.opening) statement (flat_empty (not_public_at files u.file) (all_statements u) units) first (omega (arith, first, last)) in
      ap (λ f. not_public_at files f statement) (sym (in_file file statement u covered)) ∙ here

  pub all_public : (file statement : ℕ) (e : Extent) → scope_of files file statement ≡ Some e → Each (λ m. is_not_public files file statement m ≡ false) (mentions_at files file statement)
  all_public file statement e is =
      filter_empty (is_not_public files file statement) (mentions_at files file statement) (map_empty _ (filter (is_not_public files file statement) (mentions_at files file statement)) (public_at file statement e is))

-- ---- meanings

abbrev pub IsSomething : Meaning → Type 0
IsSomething nothing = ⊥
IsSomething other = Unit {0}

abbrev pub IsOne : Meaning → Type 0
IsOne (one key) = Unit {0}
IsOne other = ⊥

if_something : (b : Bool) (first other : Meaning) → IsSomething first → IsSomething other → IsSomething (cond b first other)
if_something true first other is there = is
if_something false first other is there = there

known_something : (found : Option Key) → IsSomething (spec.known found)
known_something None = tt
known_something (Some key) = tt

or_something : (first other : Meaning) → IsSomething other → IsSomething (spec.or_meaning first other)
or_something nothing other there = there
or_something (one key) other there = tt
or_something (several a b rest) other there = tt
or_something unknown other there = tt

module _ (files : List FileTree) (e : Extent) (statement : ℕ) (m : Mention) where
  reference_something : (name : List ℕ) → IsSomething (spec.reference_meaning files m name)
  reference_something name =
      if_something (says role.Called m) _ _ (known_something (spec.external_of files name))
      (if_something (says role.Parenthesised m && not (says role.Given m)) _ unknown (known_something (spec.or_else (spec.intrinsic_of name) (spec.external_of files name))) tt)

  at_something : IsSomething (spec.meaning_at files e m)
  at_something = or_something (spec.denotes files e (name_at files e.file m.token)) _ (reference_something (name_at files e.file m.token))

  opened_something : IsSomething (opened_meaning files e)
  opened_something = if_something (is_body files e) _ (one (unit e)) (known_something (spec.external_of files (scope_name files e))) tt

  by_role : (r : Role) → (r ≡ role.Source → IsSomething (spec.used_meaning (keys_at files e statement m))) → IsSomething (meaning_by r files e statement m)
  by_role role.Opens given = opened_something
  by_role role.Ends given = if_something (statement == e.ending) (opened_meaning files e) (spec.meaning_at files e m) opened_something at_something
  by_role role.Slash given = if_something (list_any (λ (g : Global). same_name g.name (Some (name_at files e.file m.token))) (blocks files)) _ unknown tt tt
  by_role role.Module given = known_something (option_map unit (spec.unit_of files spec.is_module (name_at files e.file m.token)))
  by_role role.Source given = given refl
  by_role role.Local given = known_something (slice_get (keys_at files e statement m) 0)
  by_role other given = at_something

source_something : (keys : List Key) (r : Role) → (same_role r role.Source && nat_eq (length keys) 0) ≡ false → r ≡ role.Source → IsSomething (spec.used_meaning keys)
unfolding same_role
source_something [] r is same = let yes : (same_role r role.Source && nat_eq (length {A = Key} []) 0) ≡ true = ap (λ x. same_role x role.Source && true) same in absurd (cc (yes, is))
source_something (key ∷ []) r is same = tt
source_something (key ∷ other ∷ rest) r is same = tt

module _ (files : List FileTree) (are : AreTrees files) (no_fault : name_fault files ≡ None) where
  no_findings : first_of_names files ≡ None
  no_findings = by (first_of_names files) no_fault where
    by : (o : Option Finding) → option_map (fault_of files) o ≡ None → o ≡ None
    by None is = refl
    by (Some f) is = absurd (cc is)

  two_stages : option_or (first_finding use_rank (not_public_findings files)) (first_finding name_rank (binding_findings files)) ≡ None
  two_stages = (either_none (first_finding use_rank (use_findings files)) _ no_findings).1

  public_all : not_public_findings files ≡ []
  public_all = none_first use_rank (not_public_findings files) ((either_none (first_finding use_rank (not_public_findings files)) _ two_stages).0)

  pub uses_fine : use_findings files ≡ []
  uses_fine = none_first use_rank (use_findings files) ((either_none (first_finding use_rank (use_findings files)) _ no_findings).0)

  bound_fine : binding_findings files ≡ []
  bound_fine = none_first name_rank (binding_findings files) ((either_none (first_finding use_rank (not_public_findings files)) _ two_stages).1)

  references_fine : Each (λ d. reference_findings files d ≡ []) (denotings files)
  references_fine =
      flat_empty (reference_findings files) (denotings files) ((both_empty (flat_map (reference_findings files) (denotings files)) (flat_map (name_findings files) (scoping files)) bound_fine).0)

  all_something : (file statement : ℕ) → Each (λ m. IsSomething (occurrence_meaning files file statement m)) (mentions_at files file statement)
  all_something file statement = by (scope_of files file statement) refl where
    each_of : (ms : List Mention) → Each (λ (m : Mention). IsSomething unknown) ms
    each_of [] = tt
    each_of (m ∷ ms) = (tt, each_of ms)

    each_in : (e : Extent) → e.file ≡ file → (ms : List Mention) → Each (λ m. is_not_public files file statement m ≡ false) ms → Each (λ (m : Mention). IsSomething (meaning_by m.role files e statement m)) ms
    each_in e same [] all = tt
    each_in e same (m ∷ ms) all =
        (by_role files e statement m m.role (source_something (keys_at files e statement m) m.role (ap (λ f. is_not_public files f statement m) same ∙ all.0)), each_in e same ms all.1)

    by : (found : Option Extent) → scope_of files file statement ≡ found
        → Each (λ (m : Mention). IsSomething (option_map_or (λ e. meaning_by m.role files e statement m) found unknown)) (mentions_at files file statement)
    by None is = each_of (mentions_at files file statement)
    by (Some e) is =
        each_in e (in_file file statement e (last_covers file statement (scoping files) None e (λ x never. absurd (cc never)) is)) (mentions_at files file statement) (all_public files are public_all file statement e is)

  one_by : (at : Place) (name : List ℕ) (meaning : Meaning) → reference_findings files (record { at = at; name = name; meaning = meaning }) ≡ [] → IsSomething meaning → IsOne meaning
  one_by at name nothing none is = is
  one_by at name (one key) none is = tt
  one_by at name (several first second rest) none is = absurd (cc none)
  one_by at name unknown none is = absurd (cc none)

  pub each_one : Each (λ (d : Denoting). IsOne d.meaning) (denotings files)
  each_one =
      each_both (λ d. reference_findings files d ≡ []) (λ (d : Denoting). IsSomething d.meaning) (λ (d : Denoting). IsOne d.meaning) (λ d none is. one_by d.at d.name d.meaning none is) (denotings files) references_fine
      (each_flat (λ (d : Denoting). IsSomething d.meaning) (λ (numbered : ℕ × FileTree). denotings_in files numbered.0 numbered.1)
      (λ numbered. each_flat (λ (d : Denoting). IsSomething d.meaning) (λ statement. map (denoting files numbered.0 statement) (mentions_at files numbered.0 statement))
      (λ statement. each_map (λ (d : Denoting). IsSomething d.meaning) (denoting files numbered.0 statement) (mentions_at files numbered.0 statement) (all_something numbered.0 statement))
      (range_with_len 0 (length numbered.1.statements))) (enumerate_from 0 files))
