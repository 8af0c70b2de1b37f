-- The scoping units of numbers.
use Rattle.std.proofs.Common.{◌≡◌, ℕ, suc, ◌+◌, ◌<◌, Bool, true, false, cond, List, [], ◌∷◌, length, get_or, is_none, Option, Some, None, refl, sym, ap, ◌∙◌, subst, arith}
use Rattle.std.specs.Prelude.{slice_get}
use Rattle.std.specs.List.{position, position_from}
use Rattle.std.specs.Option.{option_and_then, option_map_or, unwrap_or}
use Rattle.std.proofs.lemmas.Iterator.Adapters.{position_from-zero}
use Rattle.std.proofs.lemmas.Option.{slice_get-get_or}
use Rattle.ftn_tree.specs.declared.table.Extent.{Extent}
use Rattle.ftn_tree.specs.declared.unit.FileTree.{FileTree}
use Rattle.ftn_tree.specs.Extents.{scoping, same_extent, host_of}
use Rattle.ftn_tree.specs.GlobalNames.{has_no_host}
use Rattle.ftn_tree.specs.Scopes.{scope_number, host_number}
use Rattle.ftn_tree.specs.Projects.{AreTrees}
use Rattle.decl_table.proofs.OwnStatements.{number_of}
use Rattle.decl_table.proofs.Said.{host_there}
use Rattle.scope_bind.specs.steps.Globals.{unit_at, no_extent}

-- ---- lists

pub some_there : {X : Type 0} (xs : List X) (n : ℕ) (d : X) → n < length xs → slice_get xs n ≡ Some (unwrap_or (slice_get xs n) d)
some_there xs n d less = there ∙ ap Some (sym (ap (λ o. unwrap_or o d) there)) where
  there : slice_get xs n ≡ Some (get_or xs n d)
  there = slice_get-get_or xs n d less

-- the first that passes is there, and passes
pub found : {X : Type 0} (test : X → Bool) (xs : List X) (i : ℕ) → position test xs ≡ Some i → (i < length xs) × (x : X) × (slice_get xs i ≡ Some x) × (test x ≡ true)
found {X} test xs i is =
    let (k, same, less, x, there, passes) = from xs 0 (sym (position_from-zero test xs) ∙ is) in
    let equal : k ≡ i = omega (arith, same) in
    (subst (λ n. n < length xs) equal less, x, subst (λ n. slice_get xs n ≡ Some x) equal there, passes)
  where
    from : (ys : List X) (at : ℕ) → position_from test at ys ≡ Some i → (k : ℕ) × (i ≡ at + k) × (k < length ys) × (x : X) × (slice_get ys k ≡ Some x) × (test x ≡ true)
    from [] at is = absurd (cc is)
    from (y ∷ ys) at is = by (test y) refl is (from ys (at + 1)) where
      by : (b : Bool) → test y ≡ b → cond b (Some at) (position_from test (at + 1) ys) ≡ Some i
          → (position_from test (at + 1) ys ≡ Some i → (k : ℕ) × (i ≡ at + 1 + k) × (k < length ys) × (x : X) × (slice_get ys k ≡ Some x) × (test x ≡ true))
          → (k : ℕ) × (i ≡ at + k) × (k < length (y ∷ ys)) × (x : X) × (slice_get (y ∷ ys) k ≡ Some x) × (test x ≡ true)
      by true passes is rest = let same : at ≡ i = cc is in (0, omega (arith, same), omega arith, y, refl, passes)
      by false fails is rest = let (k, same, less, x, there, passes) = rest is in (suc k, omega (arith, same), omega (arith, less), x, there, passes)

-- ---- scoping units

pub unit_there : (files : List FileTree) (n : ℕ) → n < length (scoping files) → slice_get (scoping files) n ≡ Some (unit_at files n)
unit_there files n less = some_there (scoping files) n no_extent less

pub unit_is : (files : List FileTree) (n : ℕ) (e : Extent) → slice_get (scoping files) n ≡ Some e → unit_at files n ≡ e
unit_is files n e there = ap (λ o. unwrap_or o no_extent) there

pub unit_number : (files : List FileTree) → AreTrees files → (n : ℕ) → n < length (scoping files) → scope_number files (unit_at files n) ≡ Some n
unit_number files are n less = number_of files are n (unit_at files n) (unit_there files n less)

pub number_less : (files : List FileTree) (e : Extent) (n : ℕ) → scope_number files e ≡ Some n → n < length (scoping files)
number_less files e n is = (found (same_extent e) (scoping files) n is).0

pub number_same : (files : List FileTree) (e : Extent) (n : ℕ) → scope_number files e ≡ Some n → same_extent e (unit_at files n) ≡ true
number_same files e n is =
    let (less, x, there, passes) = found (same_extent e) (scoping files) n is in
    ap (same_extent e) (unit_is files n x there) ∙ passes

-- a scoping unit of the project has its number
pub member_number : (files : List FileTree) → AreTrees files → (j : ℕ) (e : Extent) → slice_get (scoping files) j ≡ Some e → scope_number files e ≡ Some j
member_number files are j e there = number_of files are j e there

pub host_is : (files : List FileTree) → AreTrees files → (e h : Extent) → host_of files e ≡ Some h → (j : ℕ) × (scope_number files h ≡ Some j) × (unit_at files j ≡ h)
host_is files are e h is =
    let (j, there) = host_there files e h is in (j, number_of files are j h there, unit_is files j h there)

-- a scoping unit without a host is a program unit
pub no_host : (files : List FileTree) → AreTrees files → (e : Extent) (host : Option ℕ) → host ≡ host_number files e → is_none host ≡ has_no_host files e
no_host files are e host hosted = ap is_none hosted ∙ by (host_there files e) (host_of files e) refl where
  by : ((h : Extent) → host_of files e ≡ Some h → (j : ℕ) × (slice_get (scoping files) j ≡ Some h)) → (found : Option Extent) → host_of files e ≡ found
      → is_none (option_and_then (scope_number files) (host_of files e)) ≡ option_map_or (λ host. false) (host_of files e) true
  by there None is = rw is refl
  by there (Some h) is = let (j, at) = there h is in rw (is, number_of files are j h at) refl
