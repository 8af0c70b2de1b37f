-- Modules by their numbers, and the scoping units that they are.
use Rattle.std.proofs.Common.{◌≡◌, ℕ, zero, suc, ◌+◌, ◌<◌, ◌≤◌, ◌^◌, arith, Bool, true, false, cond, ◌&&◌, List, [], ◌∷◌, ◌++◌, length, map, take, if◌then◌else◌, Option, Some, None, is_none, refl, sym, ap, ap₂, ◌∙◌, subst}
use Rattle.std.specs.Prelude.{slice_get}
use Rattle.std.specs.List.{filter}
use Rattle.std.specs.Option.{option_map}
use Rattle.std.proofs.lemmas.List.{length-map, map-append}
use Rattle.std.proofs.lemmas.List.Elements.{filter-append}
use Rattle.std.proofs.lemmas.Option.{slice_get-map, slice_get_within}
use Rattle.ftn_tree.specs.declared.table.Extent.{Extent}
use Rattle.ftn_tree.specs.declared.table.ScopeKind.{ScopeKind}
use Rattle.ftn_tree.specs.declared.unit.FileTree.{FileTree}
use Rattle.ftn_tree.specs.Extents.{scoping}
use Rattle.ftn_tree.specs.GlobalNames.{program_units, has_no_host}
use Rattle.ftn_tree.specs.Meanings.{is_module, module_numbered}
use Rattle.ftn_tree.specs.Projects.{AreTrees}
use Rattle.ftn_tree.specs.Scopes.{scope_kind, scope_number, host_number}
use Rattle.decl_table.proofs.Arounds.{units_few}
use Rattle.decl_table.proofs.OwnStatements.{number_of}
use Rattle.decl_table.proofs.Turns.{taken}
use Rattle.scope_bind.specs.steps.Globals.{unit_at, module_at}
use Rattle.scope_bind.proofs.Units.{no_host, unit_there, unit_is, unit_number}

pub filter_there : {X : Type 0} (test : X → Bool) (xs : List X) (i : ℕ) (x : X) → slice_get (filter test xs) i ≡ Some x → (j : ℕ) × (slice_get xs j ≡ Some x)
filter_there test [] i x is = absurd (cc is)
filter_there {X} test (y ∷ xs) i x is = by (test y) i is (λ k. filter_there test xs k x) where
  more : ((k : ℕ) → slice_get (filter test xs) k ≡ Some x → (j : ℕ) × (slice_get xs j ≡ Some x)) → (k : ℕ) → slice_get (filter test xs) k ≡ Some x → (j : ℕ) × (slice_get (y ∷ xs) j ≡ Some x)
  more rest k is = let (j, there) = rest k is in (suc j, there)

  by : (b : Bool) (k : ℕ) → slice_get (if b then y ∷ filter test xs else filter test xs) k ≡ Some x
      → ((k : ℕ) → slice_get (filter test xs) k ≡ Some x → (j : ℕ) × (slice_get xs j ≡ Some x)) → (j : ℕ) × (slice_get (y ∷ xs) j ≡ Some x)
  by true zero is rest = (0, is)
  by true (suc k) is rest = more rest k is
  by false k is rest = more rest k is

-- a module is a scoping unit
pub module_there : (files : List FileTree) (i : ℕ) (m : Extent) → slice_get (module_numbered files) i ≡ Some m → (j : ℕ) × (slice_get (scoping files) j ≡ Some m)
module_there files i m is =
    let (k, there) = filter_there (λ e. is_module (scope_kind files e)) (program_units files) i m is in filter_there (has_no_host files) (scoping files) k m there

some_same : {X : Type 0} (x y : X) → Some x ≡ Some y → x ≡ y
some_same x y same = cc same

pub module_unit : (files : List FileTree) → AreTrees files → (modules : List ℕ) → map (λ (n : ℕ). Some n) modules ≡ map (scope_number files) (module_numbered files)
    → (i scope : ℕ) → slice_get modules i ≡ Some scope → (scope < length (scoping files)) × (slice_get (module_numbered files) i ≡ Some (unit_at files scope))
module_unit files are modules same i scope here = by (slice_get (module_numbered files) i) refl (λ m is. module_there files i m is) numbers where
  numbers : option_map (scope_number files) (slice_get (module_numbered files) i) ≡ Some (Some scope)
  numbers =
      sym (slice_get-map (scope_number files) (module_numbered files) i) ∙ ap (λ xs. slice_get xs i) (sym same)
      ∙ slice_get-map (λ (n : ℕ). Some n) modules i ∙ ap (option_map (λ (n : ℕ). Some n)) here

  by : (o : Option Extent) → slice_get (module_numbered files) i ≡ o → ((m : Extent) → slice_get (module_numbered files) i ≡ Some m → (j : ℕ) × (slice_get (scoping files) j ≡ Some m))
      → option_map (scope_number files) (slice_get (module_numbered files) i) ≡ Some (Some scope)
      → (scope < length (scoping files)) × (slice_get (module_numbered files) i ≡ Some (unit_at files scope))
  by None is there numbers = absurd (cc (is, numbers))
  by (Some m) is there numbers =
      let (j, at) = there m is in
      let told : Some (scope_number files m) ≡ Some (Some scope) = sym (ap (option_map (scope_number files)) is) ∙ numbers in
      let equal : Some j ≡ Some scope = sym (number_of files are j m at) ∙ some_same (scope_number files m) (Some scope) told in
      let place : slice_get (scoping files) scope ≡ Some m = subst (λ k. slice_get (scoping files) k ≡ Some m) (some_same j scope equal) at in
      (slice_get_within (scoping files) scope m place, is ∙ ap Some (sym (unit_is files scope m place)))

-- one scoping unit
pub module_is : (files : List FileTree) → AreTrees files → (n : ℕ) (e : Extent) (host : Option ℕ) (kind : ScopeKind) (counts : Bool) → slice_get (scoping files) n ≡ Some e
    → host ≡ host_number files e → kind ≡ scope_kind files e → counts ≡ (is_none host && is_module kind) → (if counts then n ∷ [] else []) ≡ module_at files n
module_is files are n e host kind counts there hosted is counted =
    ap (λ b. if b then n ∷ [] else []) (counted ∙ ap₂ (λ a b. a && b) (no_host files are e host hosted) (ap is_module is))
    ∙ ap (λ x. if has_no_host files x && is_module (scope_kind files x) then n ∷ [] else []) (sym (unit_is files n e there))

-- one more scoping unit
pub modules_more : (files : List FileTree) → AreTrees files → (n : ℕ) → n < length (scoping files) → (old new : List ℕ)
    → map (λ (n : ℕ). Some n) old ≡ map (scope_number files) (filter (λ e. is_module (scope_kind files e)) (filter (has_no_host files) (take n (scoping files))))
    → new ≡ old ++ module_at files n
    → map (λ (n : ℕ). Some n) new ≡ map (scope_number files) (filter (λ e. is_module (scope_kind files e)) (filter (has_no_host files) (take (n + 1) (scoping files))))
modules_more files are n less old new before pushed =
    ap (map (λ (n : ℕ). Some n)) pushed ∙ map-append (λ (n : ℕ). Some n) old (module_at files n) ∙ ap₂ (λ xs ys. xs ++ ys) before here
    ∙ sym (map-append (scope_number files) (filter kind (filter outer (take n (scoping files)))) (filter kind (filter outer (e ∷ []))))
    ∙ ap (map (scope_number files)) (sym (filter-append kind (filter outer (take n (scoping files))) (filter outer (e ∷ []))))
    ∙ ap (λ xs. map (scope_number files) (filter kind xs)) (sym (filter-append outer (take n (scoping files)) (e ∷ [])))
    ∙ ap (λ xs. map (scope_number files) (filter kind (filter outer xs))) (sym (taken (scoping files) n e (unit_there files n less)))
  where
    e : Extent
    e = unit_at files n

    kind : Extent → Bool
    kind x = is_module (scope_kind files x)

    outer : Extent → Bool
    outer x = has_no_host files x

    here : map (λ (n : ℕ). Some n) (module_at files n) ≡ map (scope_number files) (filter kind (filter outer (e ∷ [])))
    here = by (outer e) (kind e) refl where
      by : (b k : Bool) → kind e ≡ k → map (λ (n : ℕ). Some n) (if b && k then n ∷ [] else []) ≡ map (scope_number files) (filter kind (if b then e ∷ [] else []))
      by true true is = rw is (ap (λ o. o ∷ []) (sym (unit_number files are n less)))
      by true false is = rw is refl
      by false k is = refl

filter_less : {X : Type 0} (test : X → Bool) (xs : List X) → length (filter test xs) ≤ length xs
filter_less test [] = omega arith
filter_less {X} test (x ∷ xs) = by (test x) (filter_less test xs) where
  by : (b : Bool) → length (filter test xs) ≤ length xs → length (if b then x ∷ filter test xs else filter test xs) ≤ suc (length xs)
  by true less = omega (arith, less)
  by false less = omega (arith, less)

pub modules_few : {X : Type 0} (f : Extent → X) (files : List FileTree) → AreTrees files → (all : List X) → all ≡ map f (module_numbered files) → length all < 2 ^ 32
modules_few f files are all is =
    let long : length all ≡ length (module_numbered files) = ap length is ∙ length-map (module_numbered files) f in
    let one : length (module_numbered files) ≤ length (program_units files) = filter_less (λ e. is_module (scope_kind files e)) (program_units files) in
    let two : length (program_units files) ≤ length (scoping files) = filter_less (has_no_host files) (scoping files) in
    let few : length (scoping files) < 2 ^ 32 = units_few files are in
    omega (arith, long, one, two, few)
