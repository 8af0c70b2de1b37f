-- Files in order of names, and the file that may come next.
use Rattle.std.proofs.Common.{◌≡◌, ℕ, ◌+◌, ◌-◌, ◌<◌, ◌≤◌, Bool, true, false, ◌&&◌, List, [], ◌∷◌, ◌++◌, length, slice_get, nat_le, Some, refl, sym, ap, ◌∙◌, arith}
use Rattle.std.specs.declared.cmp.Ordering.{Ordering}
use Rattle.std.specs.declared.cmp.Ordering.TheVariants.{Less, Equal, Greater}
use Rattle.std.specs.FinMap.{is_sorted}
use Rattle.std.specs.FinMap.Entries.{below_all}
use Rattle.std.specs.List.{list_all}
use Rattle.std.specs.Ordering.{is_lt}
use Rattle.std.proofs.lemmas.Bool.{and_parts, and_from, and_right, leb-true, le-leb}
use Rattle.std.proofs.lemmas.Cmp.{nat_list_cmp_total}
use Rattle.std.proofs.lemmas.List.{length-append}
use Rattle.std.proofs.lemmas.List.Sums.{sum_by-append, sum_by-cons}
use Rattle.std.proofs.Math.Bool.{and-true}
use Rattle.ftn_base.specs.Files.{File, by_name, is_source, IsInOrder}
use Rattle.ftn_base.specs.Names.{is_file_name}
use Rattle.ftn_base.specs.Limits.{most_file_bytes, most_project_bytes}
use Rattle.plan_file.specs.Plans.{is_planned, size_of}
use Rattle.plan_file.specs.Fields.{MayBegin}
use Rattle.plan_file.specs.steps.Next.{are_before, IsNext, may_come}

less : (o : Ordering) → is_lt o ≡ true → o ≡ Less
less Less h = refl
less Equal h = cc
less Greater h = cc

last_of : File → List File → File
last_of f [] = f
last_of f (g ∷ gs) = last_of g gs

last_at : (f : File) (fs : List File) → slice_get (f ∷ fs) (length fs) ≡ Some (last_of f fs)
unfolding last_of
last_at f [] = refl
last_at f (g ∷ gs) = last_at g gs

before_by_last : (f : File) (fs : List File) (name : List ℕ) → IsInOrder (f ∷ fs) → is_lt (by_name (last_of f fs).0 name) ≡ are_before (f ∷ fs) name
unfolding last_of
before_by_last f [] name order = sym (and-true (is_lt (by_name f.0 name)))
before_by_last f (g ∷ gs) name order =
    let parts = and_parts (below_all by_name f.0 (g ∷ gs)) (is_sorted by_name (g ∷ gs)) order in
    let first = and_parts (is_lt (by_name f.0 g.0)) (below_all by_name f.0 gs) parts.0 in
    before_by_last g gs name parts.1 ∙ sym (joins (is_lt (by_name g.0 name)) (are_before gs name) (λ h. step first.0 h))
  where
    step : is_lt (by_name f.0 g.0) ≡ true → is_lt (by_name g.0 name) ≡ true → is_lt (by_name f.0 name) ≡ true
    step p q = ap is_lt (nat_list_cmp_total.trans f.0 g.0 name (less _ p) (less _ q))

    joins : (x y : Bool) → (x ≡ true → is_lt (by_name f.0 name) ≡ true) → (is_lt (by_name f.0 name) && (x && y)) ≡ (x && y)
    joins true y h = ap (λ b. b && y) (h refl)
    joins false y h = and_right (is_lt (by_name f.0 name)) false refl

pub later_by_last : (files : List File) (last : File) (name : List ℕ) (r : Bool) → slice_get files (length files - 1) ≡ Some last → IsInOrder files → r ≡ is_lt (by_name last.0 name) → r ≡ are_before files name
later_by_last [] last name r at order is = cc
later_by_last (f ∷ fs) last name r at order is =
    let place : length (f ∷ fs) - 1 ≡ length fs = omega arith in
    let same : Some last ≡ Some (last_of f fs) = sym at ∙ ap (slice_get (f ∷ fs)) place ∙ last_at f fs in
    let this : last ≡ last_of f fs = cc in
    is ∙ ap (λ (l : File). is_lt (by_name l.0 name)) this ∙ before_by_last f fs name order

pub next_from : (files : List File) (size : ℕ) (name : List ℕ) → is_file_name name ≡ true → may_come files size name ≡ true → IsNext files size name
next_from files size name valid may =
    let source : Bool = is_source name in
    let later : Bool = are_before files name in
    let short : Bool = nat_le size most_file_bytes in
    let small : Bool = nat_le (size_of files + size) most_project_bytes in
    let all = and_parts (source && later && short) small may in
    let three = and_parts (source && later) short all.0 in
    let two = and_parts source later three.0 in
    record { valid = valid; source = two.0; short = leb-true size most_file_bytes three.1; later = two.1; small = leb-true (size_of files + size) most_project_bytes all.1 }

pub may_from : (files : List File) (size : ℕ) (name : List ℕ) → IsNext files size name → may_come files size name ≡ true
may_from files size name h =
    let source : Bool = is_source name in
    let later : Bool = are_before files name in
    let short : Bool = nat_le size most_file_bytes in
    let small : Bool = nat_le (size_of files + size) most_project_bytes in
    and_from (source && later && short) small (and_from (source && later) short (and_from source later h.source h.later) (le-leb size most_file_bytes h.short)) (le-leb (size_of files + size) most_project_bytes h.small)

below_push : (name : List ℕ) (files : List File) (file : File) → below_all by_name name files ≡ true → is_lt (by_name name file.0) ≡ true → below_all by_name name (files ++ file ∷ []) ≡ true
below_push name [] file all last = and_from (is_lt (by_name name file.0)) true last refl
below_push name (f ∷ fs) file all last =
    let parts = and_parts (is_lt (by_name name f.0)) (below_all by_name name fs) all in
    and_from (is_lt (by_name name f.0)) (below_all by_name name (fs ++ file ∷ [])) parts.0 (below_push name fs file parts.1 last)

below_at : (name : List ℕ) (files : List File) (file : File) (more : List File) → below_all by_name name (files ++ file ∷ more) ≡ true → is_lt (by_name name file.0) ≡ true
below_at name [] file more all = (and_parts (is_lt (by_name name file.0)) (below_all by_name name more) all).0
below_at name (f ∷ fs) file more all = below_at name fs file more (and_parts (is_lt (by_name name f.0)) (below_all by_name name (fs ++ file ∷ more)) all).1

order_push : (files : List File) (file : File) → IsInOrder files → are_before files file.0 ≡ true → IsInOrder (files ++ file ∷ [])
order_push [] file order before = refl
order_push (f ∷ fs) file order before =
    let parts = and_parts (below_all by_name f.0 fs) (is_sorted by_name fs) order in
    let befores = and_parts (is_lt (by_name f.0 file.0)) (are_before fs file.0) before in
    and_from (below_all by_name f.0 (fs ++ file ∷ [])) (is_sorted by_name (fs ++ file ∷ [])) (below_push f.0 fs file parts.0 befores.0) (order_push fs file parts.1 befores.1)

before_in : (files : List File) (file : File) (more : List File) → IsInOrder (files ++ file ∷ more) → are_before files file.0 ≡ true
before_in [] file more order = refl
before_in (f ∷ fs) file more order =
    let parts = and_parts (below_all by_name f.0 (fs ++ file ∷ more)) (is_sorted by_name (fs ++ file ∷ more)) order in
    and_from (is_lt (by_name f.0 file.0)) (are_before fs file.0) (below_at f.0 fs file more parts.0) (before_in fs file more parts.1)

planned_push : (files : List File) (file : File) → list_all is_planned files ≡ true → is_planned file ≡ true → list_all is_planned (files ++ file ∷ []) ≡ true
planned_push [] file all last = and_from (is_planned file) true last refl
planned_push (f ∷ fs) file all last =
    let parts = and_parts (is_planned f) (list_all is_planned fs) all in
    and_from (is_planned f) (list_all is_planned (fs ++ file ∷ [])) parts.0 (planned_push fs file parts.1 last)

planned_at : (files : List File) (file : File) (more : List File) → list_all is_planned (files ++ file ∷ more) ≡ true → is_planned file ≡ true
planned_at [] file more all = (and_parts (is_planned file) (list_all is_planned more) all).0
planned_at (f ∷ fs) file more all = planned_at fs file more (and_parts (is_planned f) (list_all is_planned (fs ++ file ∷ more)) all).1

pub record Planned (file : File) : Type 0 where
  pub valid : is_file_name file.0 ≡ true
  pub source : is_source file.0 ≡ true
  pub short : length file.1 ≤ most_file_bytes

pub planned_is : (file : File) → is_planned file ≡ true → Planned file
planned_is file h =
    let two = and_parts (is_file_name file.0 && is_source file.0) (nat_le (length file.1) most_file_bytes) h in
    let one = and_parts (is_file_name file.0) (is_source file.0) two.0 in
    record { valid = one.0; source = one.1; short = leb-true (length file.1) most_file_bytes two.1 }

pub size_at : (files : List File) (file : File) (more : List File) → size_of (files ++ file ∷ more) ≡ size_of files + (length file.1 + size_of more)
size_at files file more = sum_by-append (λ (f : File). length f.1) files (file ∷ more) ∙ ap (λ n. size_of files + n) (sum_by-cons (λ (f : File). length f.1) file more)

pub begins_more : (count : ℕ) (files : List File) (file : File) → MayBegin count files → length files < count → IsNext files (length file.1) file.0 → MayBegin count (files ++ file ∷ [])
begins_more count files file begun less next =
    let one : is_planned file ≡ true
    = and_from (is_file_name file.0 && is_source file.0) (nat_le (length file.1) most_file_bytes) (and_from (is_file_name file.0) (is_source file.0) next.valid next.source) (le-leb (length file.1) most_file_bytes next.short) in
    let small = next.small in
    record {
      some = begun.some;
      few = begun.few;
      within = omega (arith, length-append files (file ∷ []));
      planned = planned_push files file begun.planned one;
      in_order = order_push files file begun.in_order next.later;
      small = omega (arith, size_at files file []);
    }

pub next_in : (count : ℕ) (files : List File) (file : File) (more : List File) → MayBegin count (files ++ file ∷ more) → IsNext files (length file.1) file.0
next_in count files file more begun =
    let one = planned_is file (planned_at files file more begun.planned) in
    let small = begun.small in
    record { valid = one.valid; source = one.source; short = one.short; later = before_in files file more begun.in_order; small = omega (arith, size_at files file more) }
