-- Keys with numbers of their own have the same number exactly where they are the same.
use Rattle.std.proofs.Common.{◌≡◌, ℕ, ◌+◌, ◌<◌, ◌≤◌, Bool, true, false, ◌&&◌, List, length, Option, Some, None, refl, sym, ap, ap₂, ◌∙◌, subst, arith, bytes_eq, nat_eq}
use Rattle.std.specs.Prelude.{is_some, slice_get}
use Rattle.std.specs.List.{position}
use Rattle.std.specs.Option.{unwrap_or}
use Rattle.std.proofs.lemmas.Bool.Decides.{nat_tests}
use Rattle.std.proofs.lemmas.Slice.Eq.{bytes_eq-Decides}
use Rattle.std.specs.Cmp.Lexicographic.{nat_list_eq_equiv}
use Rattle.ftn_base.specs.Accessible.{is_same_entity}
use Rattle.ftn_tree.specs.declared.table.Extent.{Extent}
use Rattle.ftn_tree.specs.declared.table.Occurrence.{Occurrence}
use Rattle.ftn_tree.specs.declared.unit.FileTree.{FileTree}
use Rattle.ftn_tree.specs.DeclaredEntities.{occurrences_of}
use Rattle.ftn_tree.specs.Extents.{scoping, same_extent}
use Rattle.ftn_tree.specs.Meanings.{Key, unit, own, block, intrinsic_function, same_key}
use Rattle.ftn_tree.specs.Scopes.{scope_number}
use Rattle.decl_table.proofs.OwnStatements.{same_fields, same_number}
use Rattle.scope_bind.specs.steps.Globals.{unit_at}
use Rattle.scope_bind.specs.steps.Numbering.{own_occurrence, name_occurrence, units_count, names_count, number_of, number, IsNumbered}
use Rattle.scope_bind.proofs.Units.{found, number_less, number_same}

-- ---- tests

-- two tests of which each follows from the other
pub iff : (a b : Bool) → (a ≡ true → b ≡ true) → (b ≡ true → a ≡ true) → a ≡ b
iff true b there back = sym (there refl)
iff false true there back = back refl
iff false false there back = refl

pub eq_true : (m n : ℕ) → m ≡ n → nat_eq m n ≡ true
eq_true m n same = grind (arith, nat_tests)

pub eq_same : (m n : ℕ) → nat_eq m n ≡ true → m ≡ n
eq_same m n is = grind (arith, nat_tests)

eq_apart : (m n : ℕ) → m < n → nat_eq m n ≡ false
eq_apart m n less = grind (arith, nat_tests)

eq_beyond : (m n : ℕ) → n < m → nat_eq m n ≡ false
eq_beyond m n less = grind (arith, nat_tests)

and_left : (a b : Bool) → (a && b) ≡ true → a ≡ true
and_left true b is = refl
and_left false b is = is

and_right : (a b : Bool) → (a && b) ≡ true → b ≡ true
and_right true b is = is
and_right false b is = absurd (cc is)

both : (a b : Bool) → a ≡ true → b ≡ true → (a && b) ≡ true
both true true one other = refl
both true false one other = other
both false b one other = one

pub same_bytes : (a b : List ℕ) → bytes_eq a b ≡ true → a ≡ b
same_bytes a b is = (bytes_eq-Decides a b).0 (grind arith)

pub bytes_same : (a b : List ℕ) → a ≡ b → bytes_eq a b ≡ true
bytes_same a b is = subst (λ c. bytes_eq a c ≡ true) is (nat_list_eq_equiv.refl a)

-- ---- places

pub some_is : {X : Type 0} (o : Option X) → is_some o ≡ true → (x : X) × (o ≡ Some x)
some_is None is = absurd (cc is)
some_is (Some x) is = (x, refl)

same_unit : (files : List FileTree) (a b : Extent) (n : ℕ) → scope_number files a ≡ Some n → scope_number files b ≡ Some n → same_extent a b ≡ true
same_unit files a b n one other = meet a b (unit_at files n) (number_same files a n one) (number_same files b n other) where
  meet : (a b c : Extent) → same_extent a c ≡ true → same_extent b c ≡ true → same_extent a b ≡ true
  meet a b c one other = grind (arith, nat_tests)

same_own : (files : List FileTree) (a b : Extent) (n m : ℕ) (name other : List ℕ) → scope_number files a ≡ Some n → scope_number files b ≡ Some m → same_extent a b ≡ true → name ≡ other
    → own_occurrence files n name ≡ own_occurrence files m other
same_own files a b n m name other here there same names =
    let numbers : Some n ≡ Some m = sym here ∙ same_number files a b same ∙ there in
    ap (λ k. own_occurrence files k name) (cc numbers) ∙ ap (own_occurrence files m) names

pub apart_own : (files : List FileTree) (n m i : ℕ) (name other : List ℕ) → own_occurrence files n name ≡ Some i → own_occurrence files m other ≡ Some i → (n ≡ m) × (bytes_eq name other ≡ true)
apart_own files n m i name other one two =
    let (less, o, there, passes) = found (λ (o : Occurrence). nat_eq o.scope n && bytes_eq o.name name) (occurrences_of files) i one in
    let (less', o', there', passes') = found (λ (o : Occurrence). nat_eq o.scope m && bytes_eq o.name other) (occurrences_of files) i two in
    let same : o' ≡ o = cc (there, there') in
    let again : (nat_eq o.scope m && bytes_eq o.name other) ≡ true = subst (λ (o : Occurrence). (nat_eq o.scope m && bytes_eq o.name other) ≡ true) same passes' in (
      sym (eq_same o.scope n (and_left (nat_eq o.scope n) (bytes_eq o.name name) passes)) ∙ eq_same o.scope m (and_left (nat_eq o.scope m) (bytes_eq o.name other) again),
      bytes_same name other
          (sym (same_bytes o.name name (and_right (nat_eq o.scope n) (bytes_eq o.name name) passes)) ∙ same_bytes o.name other (and_right (nat_eq o.scope m) (bytes_eq o.name other) again)),
    )

pub apart_name : (files : List FileTree) (i : ℕ) (name other : List ℕ) → name_occurrence files name ≡ Some i → name_occurrence files other ≡ Some i → bytes_eq name other ≡ true
apart_name files i name other one two =
    let (less, o, there, passes) = found (λ (o : Occurrence). bytes_eq o.name name) (occurrences_of files) i one in
    let (less', o', there', passes') = found (λ (o : Occurrence). bytes_eq o.name other) (occurrences_of files) i two in
    let same : o' ≡ o = cc (there, there') in
    bytes_same name other (sym (same_bytes o.name name passes) ∙ same_bytes o.name other (subst (λ (o : Occurrence). bytes_eq o.name other ≡ true) same passes'))

-- ---- the places of numbers

pub plus_same : (k i j : ℕ) → k + i ≡ k + j → i ≡ j
plus_same k i j same = omega (arith, same)

-- the sort of a key, and the place of its number in it
abbrev pub Place : List FileTree → Key → ℕ → Type 0
Place files (unit e) n = scope_number files e ≡ Some n
Place files (own e name) i = (scope : ℕ) × (scope_number files e ≡ Some scope) × (own_occurrence files scope name ≡ Some i)
Place files (block None) i = ⊥
Place files (block (Some name)) i = name_occurrence files name ≡ Some i
Place files (intrinsic_function name) i = name_occurrence files name ≡ Some i

abbrev pub start : List FileTree → Key → ℕ
start files (unit e) = 0
start files (own e name) = units_count files
start files (block name) = units_count files + names_count files
start files (intrinsic_function name) = units_count files + names_count files + names_count files

pub placed : (files : List FileTree) (key : Key) → IsNumbered files key → (i : ℕ) × Place files key i × (number_of files key ≡ start files key + i)
placed files (unit e) is = let (n, here) = some_is (scope_number files e) is in (n, here, ap (λ o. unwrap_or o 0) here ∙ zero_plus n) where
  zero_plus : (n : ℕ) → n ≡ 0 + n
  zero_plus n = omega arith
placed files (own e name) (scope, here, is) =
    let (i, there) = some_is (own_occurrence files scope name) is in
    (i, (scope, here, there), ap (λ o. units_count files + unwrap_or (own_occurrence files (unwrap_or o 0) name) 0) here ∙ ap (λ o. units_count files + unwrap_or o 0) there)
placed files (block None) is = absurd is
placed files (block (Some name)) is =
    let (i, there) = some_is (name_occurrence files name) is in (i, there, ap (λ o. units_count files + names_count files + unwrap_or o 0) there)
placed files (intrinsic_function name) is =
    let (i, there) = some_is (name_occurrence files name) is in (i, there, ap (λ o. units_count files + names_count files + names_count files + unwrap_or o 0) there)

pub name_less : (files : List FileTree) (name : List ℕ) (i : ℕ) → name_occurrence files name ≡ Some i → i < names_count files
name_less files name i is = (found (λ (o : Occurrence). bytes_eq o.name name) (occurrences_of files) i is).0

pub own_less : (files : List FileTree) (scope : ℕ) (name : List ℕ) (i : ℕ) → own_occurrence files scope name ≡ Some i → i < names_count files
own_less files scope name i is = (found (λ (o : Occurrence). nat_eq o.scope scope && bytes_eq o.name name) (occurrences_of files) i is).0

numbers_same : (m n : ℕ) (b : Bool) → (b ≡ true → m ≡ n) → (m ≡ n → b ≡ true) → nat_eq m n ≡ b
numbers_same m n b there back = iff (nat_eq m n) b (λ is. back (eq_same m n is)) (λ is. eq_true m n (there is))

by_places : (files : List FileTree) (a b : Key) (i j : ℕ) → Place files a i → Place files b j → nat_eq (start files a + i) (start files b + j) ≡ same_key a b
by_places files (unit a) (unit b) i j one two =
    numbers_same (0 + i) (0 + j) (same_extent a b)
    (λ same. let numbers : Some i ≡ Some j = sym one ∙ same_number files a b same ∙ two in cc numbers)
    (λ same. same_unit files a b i one (two ∙ ap Some (sym (plus_same 0 i j same))))
by_places files (unit a) (own b other) i j one (scope, here, two) = let less : i < units_count files = number_less files a i one in eq_apart (0 + i) (units_count files + j) (omega (arith, less))
by_places files (unit a) (block None) i j one two = absurd two
by_places files (unit a) (block (Some other)) i j one two =
    let less : i < units_count files = number_less files a i one in eq_apart (0 + i) (units_count files + names_count files + j) (omega (arith, less))
by_places files (unit a) (intrinsic_function other) i j one two =
    let less : i < units_count files = number_less files a i one in eq_apart (0 + i) (units_count files + names_count files + names_count files + j) (omega (arith, less))
by_places files (own a name) (unit b) i j (scope, here, one) two = let less : j < units_count files = number_less files b j two in eq_beyond (units_count files + i) (0 + j) (omega (arith, less))
by_places files (own a name) (own b other) i j (n, here, one) (m, there, two) =
    numbers_same (units_count files + i) (units_count files + j) (same_extent a b && bytes_eq name other)
    (λ same.
    let equal : Some i ≡ Some j = sym one ∙ same_own files a b n m name other here there (and_left (same_extent a b) (bytes_eq name other) same) (same_bytes name other (and_right (same_extent a b) (bytes_eq name other) same)) ∙ two in
    ap (λ k. units_count files + k) (cc equal))
    (λ same.
    let (scopes, names) = apart_own files n m i name other one (two ∙ ap Some (sym (plus_same (units_count files) i j same))) in
    both (same_extent a b) (bytes_eq name other) (same_unit files a b n here (there ∙ ap Some (sym scopes))) names)
by_places files (own a name) (block None) i j one two = absurd two
by_places files (own a name) (block (Some other)) i j (n, here, one) two =
    let less : i < names_count files = own_less files n name i one in eq_apart (units_count files + i) (units_count files + names_count files + j) (omega (arith, less))
by_places files (own a name) (intrinsic_function other) i j (n, here, one) two =
    let less : i < names_count files = own_less files n name i one in eq_apart (units_count files + i) (units_count files + names_count files + names_count files + j) (omega (arith, less))
by_places files (block None) b i j one two = absurd one
by_places files (block (Some name)) (unit b) i j one two =
    let less : j < units_count files = number_less files b j two in eq_beyond (units_count files + names_count files + i) (0 + j) (omega (arith, less))
by_places files (block (Some name)) (own b other) i j one (m, there, two) =
    let less : j < names_count files = own_less files m other j two in eq_beyond (units_count files + names_count files + i) (units_count files + j) (omega (arith, less))
by_places files (block (Some name)) (block None) i j one two = absurd two
by_places files (block (Some name)) (block (Some other)) i j one two =
    numbers_same (units_count files + names_count files + i) (units_count files + names_count files + j) (bytes_eq name other)
    (λ same. let equal : Some i ≡ Some j = sym one ∙ ap (name_occurrence files) (same_bytes name other same) ∙ two in ap (λ k. units_count files + names_count files + k) (cc equal))
    (λ same. apart_name files i name other one (two ∙ ap Some (sym (plus_same (units_count files + names_count files) i j same))))
by_places files (block (Some name)) (intrinsic_function other) i j one two =
    let less : i < names_count files = name_less files name i one in eq_apart (units_count files + names_count files + i) (units_count files + names_count files + names_count files + j) (omega (arith, less))
by_places files (intrinsic_function name) (unit b) i j one two =
    let less : j < units_count files = number_less files b j two in eq_beyond (units_count files + names_count files + names_count files + i) (0 + j) (omega (arith, less))
by_places files (intrinsic_function name) (own b other) i j one (m, there, two) =
    let less : j < names_count files = own_less files m other j two in eq_beyond (units_count files + names_count files + names_count files + i) (units_count files + j) (omega (arith, less))
by_places files (intrinsic_function name) (block None) i j one two = absurd two
by_places files (intrinsic_function name) (block (Some other)) i j one two =
    let less : j < names_count files = name_less files other j two in eq_beyond (units_count files + names_count files + names_count files + i) (units_count files + names_count files + j) (omega (arith, less))
by_places files (intrinsic_function name) (intrinsic_function other) i j one two =
    numbers_same (units_count files + names_count files + names_count files + i) (units_count files + names_count files + names_count files + j) (bytes_eq name other)
    (λ same. let equal : Some i ≡ Some j = sym one ∙ ap (name_occurrence files) (same_bytes name other same) ∙ two in ap (λ k. units_count files + names_count files + names_count files + k) (cc equal))
    (λ same. apart_name files i name other one (two ∙ ap Some (sym (plus_same (units_count files + names_count files + names_count files) i j same))))

-- ---- the law

pub keys_apart : (files : List FileTree) (a b : Key) → IsNumbered files a → IsNumbered files b → is_same_entity (number files a) (number files b) ≡ same_key a b
keys_apart files a b one two =
    let (i, here, first) = placed files a one in
    let (j, there, second) = placed files b two in
    ap₂ nat_eq first second ∙ by_places files a b i j here there
