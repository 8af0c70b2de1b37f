-- What names denote of which the place alone tells it, by the numbers of scoping units.
use Rattle.std.proofs.Common.{◌≡◌, ℕ, ◌<◌, Bool, true, false, cond, List, [], ◌∷◌, filter, length, get_or, map, Option, Some, None, refl, sym, ap, ◌∙◌, subst}
use Rattle.std.specs.Prelude.{◌&&◌, slice_get}
use Rattle.std.specs.List.{find, flat_map, position, range_with_len}
use Rattle.std.specs.Option.{option_map, option_map_or, option_and_then, unwrap_or}
use Rattle.std.specs.Str.{bytes_eq}
use Rattle.std.proofs.lemmas.List.{length-map}
use Rattle.ftn_base.specs.declared.entity.EntityId.{EntityId}
use Rattle.ftn_tree.specs.declared.mention.Mention.{Mention}
use Rattle.ftn_tree.specs.declared.table.Extent.{Extent}
use Rattle.ftn_tree.specs.declared.unit.FileTree.{FileTree}
use Rattle.ftn_tree.specs.Bindings as spec
use Rattle.ftn_tree.specs.Extents.{scoping, scope_of, is_body}
use Rattle.ftn_tree.specs.GlobalNames.{program_units}
use Rattle.ftn_tree.specs.Meanings as meanings
use Rattle.ftn_tree.specs.Projects.{AreTrees}
use Rattle.ftn_tree.specs.Sayings.{mentions_at}
use Rattle.ftn_tree.specs.Scopes.{scope_kind, scope_name, scope_number}
use Rattle.decl_table.specs.steps.Occurrences.{count_in}
use Rattle.decl_table.specs.steps.Rows.{Row, number_at, rows_of}
use Rattle.decl_table.proofs.Arounds.{statement_scope, scope_there}
use Rattle.decl_table.proofs.OwnStatements.{number_of}
use Rattle.decl_table.proofs.Turns.{alike}
use Rattle.scope_bind.specs.declared.declared.Declared.{Declared}
use Rattle.scope_bind.specs.declared.meaning.Meaning.{Meaning}
use Rattle.scope_bind.specs.declared.meaning.Meaning.TheVariants as made
use Rattle.scope_bind.specs.declared.occurrences.Denoted.{Denoted}
use Rattle.scope_bind.specs.steps.Declared.{meant, procedure_by}
use Rattle.scope_bind.specs.steps.Globals.{is_block, unit_at}
use Rattle.scope_bind.specs.steps.Meaning.{numbered, used_meaning}
use Rattle.scope_bind.specs.steps.Numbering.{number}
use Rattle.scope_bind.specs.steps.Occurrences as steps
use Rattle.scope_bind.proofs.DeclaredNames.{procedure_known}
use Rattle.scope_bind.proofs.DenotedKeys.{scope_fine}
use Rattle.scope_bind.proofs.FoundUnits.{find_position}
use Rattle.scope_bind.proofs.NumberedMeanings.{used_numbered}
use Rattle.scope_bind.proofs.Units.{found, number_less, unit_is, unit_number}

-- ---- what opens

pub opened_body : (files : List FileTree) → AreTrees files → (scope : ℕ) (name other : List ℕ) (declared : Declared) (body : Bool) (meaning : Meaning) → body ≡ is_body files (unit_at files scope) → body ≡ true
    → other ≡ scope_name files (unit_at files scope) → declared ≡ procedure_by files other → meaning ≡ numbered files (meant files scope name declared)
    → meaning ≡ numbered files (spec.opened_meaning files (unit_at files scope))
opened_body files are scope name other declared body meaning is holds named known told =
    told ∙ ap (λ d. numbered files (meant files scope name d)) known ∙ ap (numbered files) (procedure_known files are scope name other)
    ∙ ap (λ n. numbered files (meanings.known (meanings.external_of files n))) named
    ∙ ap (λ b. numbered files (cond b (meanings.known (meanings.external_of files (scope_name files (unit_at files scope)))) (meanings.one (meanings.unit (unit_at files scope))))) (sym holds ∙ is)

-- ---- modules

find_among : {X : Type 0} (among test : X → Bool) (xs : List X) → find (λ x. among x && test x) xs ≡ find test (filter among xs)
find_among among test [] = refl
find_among {X} among test (x ∷ xs) = by (among x) (find_among among test xs) where
  by : (b : Bool) → find (λ x. among x && test x) xs ≡ find test (filter among xs)
      → cond (b && test x) (Some x) (find (λ x. among x && test x) xs) ≡ find test (cond b (x ∷ filter among xs) (filter among xs))
  by true rest = ap (cond (test x) (Some x)) rest
  by false rest = rest

module _ (files : List FileTree) (are : AreTrees files) where
  named_module : (name : List ℕ) → meanings.unit_of files meanings.is_module name ≡ option_and_then (slice_get (meanings.module_numbered files)) (meanings.module_number files name)
  named_module name =
      find_among (λ e. meanings.is_module (scope_kind files e)) (λ e. bytes_eq (scope_name files e) name) (program_units files)
      ∙ find_position (λ e. bytes_eq (scope_name files e) name) (meanings.module_numbered files)

  pub no_module : (name : List ℕ) → None ≡ meanings.module_number files name → made.Unknown ≡ numbered files (spec.module_meaning files name)
  no_module name none = ap (λ o. numbered files (meanings.known (option_map meanings.unit o))) (ap (option_and_then (slice_get (meanings.module_numbered files))) none ∙ sym (named_module name))

  of_module : (modules : List ℕ) (name : List ℕ) (n k : ℕ) → map (λ (k : ℕ). Some k) modules ≡ map (scope_number files) (meanings.module_numbered files) → Some n ≡ meanings.module_number files name
      → k ≡ get_or modules n k → (e : Extent) × (slice_get (meanings.module_numbered files) n ≡ Some e) × (scope_number files e ≡ Some k)
  of_module modules name n k same is at =
      let (less, e, there, passes) = found (λ e. bytes_eq (scope_name files e) name) (meanings.module_numbered files) n (sym is) in
      (e, there, sym (alike (λ (k : ℕ). Some k) (scope_number files) modules (meanings.module_numbered files) n k e same at there))

  pub module_scope_less : (modules : List ℕ) (name : List ℕ) (n k : ℕ) → map (λ (k : ℕ). Some k) modules ≡ map (scope_number files) (meanings.module_numbered files) → Some n ≡ meanings.module_number files name
      → k ≡ get_or modules n k → k < length (scoping files)
  module_scope_less modules name n k same is at = let (e, there, numbered) = of_module modules name n k same is at in number_less files e k numbered

  pub some_module : (modules : List ℕ) (name : List ℕ) (n k : ℕ) (entity : EntityId) → map (λ (k : ℕ). Some k) modules ≡ map (scope_number files) (meanings.module_numbered files)
      → Some n ≡ meanings.module_number files name → k ≡ get_or modules n k → entity ≡ number files (meanings.unit (unit_at files k)) → made.One entity ≡ numbered files (spec.module_meaning files name)
  some_module modules name n k entity same is at told =
      let (e, there, numbers) = of_module modules name n k same is at in
      let one : scope_number files (unit_at files k) ≡ scope_number files e = unit_number files are k (number_less files e k numbers) ∙ sym numbers in
      ap made.One (told ∙ ap (λ o. entity_of (unwrap_or o 0)) one)
      ∙ ap (λ o. numbered files (meanings.known (option_map meanings.unit o))) (sym there ∙ ap (option_and_then (slice_get (meanings.module_numbered files))) is ∙ sym (named_module name))
    where
      entity_of : ℕ → EntityId
      entity_of n = record { 0 = n }

-- ---- blocks

pub block_yes : (files : List FileTree) (name : List ℕ) (b : Bool) (entity : EntityId) → b ≡ is_block files name → b ≡ true → entity ≡ number files (meanings.block (Some name))
    → made.One entity ≡ numbered files (spec.block_meaning files name)
block_yes files name b entity is holds told =
    ap made.One told ∙ ap (λ b. numbered files (cond b (meanings.one (meanings.block (Some name))) meanings.unknown)) (sym holds ∙ is)

pub block_no : (files : List FileTree) (name : List ℕ) (b : Bool) → b ≡ is_block files name → b ≡ false → made.Unknown ≡ numbered files (spec.block_meaning files name)
block_no files name b is fails = ap (λ b. numbered files (cond b (meanings.one (meanings.block (Some name))) meanings.unknown)) (sym fails ∙ is)

-- ---- items

pub first_meaning : (files : List FileTree) (entities : List EntityId) (keys : List meanings.Key) → entities ≡ map (number files) keys
    → steps.local_meaning entities ≡ numbered files (meanings.known (slice_get keys 0))
first_meaning files entities keys is = ap steps.local_meaning is ∙ by keys where
  by : (keys : List meanings.Key) → steps.local_meaning (map (number files) keys) ≡ numbered files (meanings.known (slice_get keys 0))
  by [] = refl
  by (key ∷ keys) = refl

pub several_meaning : (files : List FileTree) (entities : List EntityId) (keys : List meanings.Key) → entities ≡ map (number files) keys
    → used_meaning entities ≡ numbered files (meanings.used_meaning keys)
several_meaning files entities keys is = ap used_meaning is ∙ used_numbered files keys

-- ---- the scoping unit of a statement

module _ (files : List FileTree) (are : AreTrees files) (file statement : ℕ) (within : statement < count_in file files) where
  stands_in : (known : List Row) (stands : Option ℕ) → known ≡ rows_of files (scoping files) → stands ≡ number_at known file statement → stands ≡ option_and_then (scope_number files) (scope_of files file statement)
  stands_in known stands is told = told ∙ ap (λ rows. number_at rows file statement) is ∙ statement_scope files are file statement within

  pub in_unit : (known : List Row) (scope : ℕ) → known ≡ rows_of files (scoping files) → Some scope ≡ number_at known file statement
      → (scope < length (scoping files)) × ((unit_at files scope).file ≡ file) × (scope_of files file statement ≡ Some (unit_at files scope))
  in_unit known scope is told = by (scope_of files file statement) refl (stands_in known (Some scope) is told) where
    by : (x : Option Extent) → scope_of files file statement ≡ x → Some scope ≡ option_and_then (scope_number files) x
        → (scope < length (scoping files)) × ((unit_at files scope).file ≡ file) × (x ≡ Some (unit_at files scope))
    by None here none = absurd (cc none)
    by (Some e) here some =
        let (j, there) = scope_there files are file statement within e here in
        let numbers : Some scope ≡ Some j = some ∙ number_of files are j e there in
        let same : unit_at files scope ≡ e = ap (unit_at files) (cc numbers) ∙ unit_is files j e there in
        (number_less files e scope (sym some), ap (λ (u : Extent). u.file) same ∙ (scope_fine files file statement e here).1, ap Some (sym same))

  pub in_none : (known : List Row) → known ≡ rows_of files (scoping files) → None ≡ number_at known file statement → scope_of files file statement ≡ None
  in_none known is told = by (scope_of files file statement) refl (stands_in known None is told) where
    by : (x : Option Extent) → scope_of files file statement ≡ x → None ≡ option_and_then (scope_number files) x → x ≡ None
    by None here none = refl
    by (Some e) here none =
        let (j, there) = scope_there files are file statement within e here in
        absurd (cc (none ∙ number_of files are j e there))

  map_same : {X Y : Type 0} (f g : X → Y) → ((x : X) → f x ≡ g x) → (xs : List X) → map f xs ≡ map g xs
  map_same f g same [] = refl
  map_same {X} {Y} f g same (x ∷ xs) = ap (λ (y : Y). y ∷ map f xs) (same x) ∙ ap (λ (ys : List Y). g x ∷ ys) (map_same f g same xs)

  map_twice : {X Y Z : Type 0} (g : Y → Z) (f : X → Y) (xs : List X) → map g (map f xs) ≡ map (λ x. g (f x)) xs
  map_twice g f [] = refl
  map_twice {X} {Y} {Z} g f (x ∷ xs) = ap (λ (ys : List Z). g (f x) ∷ ys) (map_twice g f xs)

  pub denoted_in : (known : List Row) (scope : ℕ) → known ≡ rows_of files (scoping files) → Some scope ≡ number_at known file statement
      → map (steps.denoted_by files scope statement) (mentions_at files file statement) ≡ steps.denoted_at files file statement
  denoted_in known scope is told =
      let (less, same, here) = in_unit known scope is told in
      map_same (steps.denoted_by files scope statement) (λ m. steps.denoted files (spec.denoting files file statement m)) (one same here) (mentions_at files file statement)
      ∙ sym (map_twice (steps.denoted files) (spec.denoting files file statement) (mentions_at files file statement))
    where
      one : (unit_at files scope).file ≡ file → scope_of files file statement ≡ Some (unit_at files scope) → (m : Mention)
          → steps.denoted_by files scope statement m ≡ steps.denoted files (spec.denoting files file statement m)
      one same here m =
          ap (λ (f : ℕ). token_at f m (steps.meaning_at files scope statement m)) same
          ∙ ap (λ o. token_at file m (numbered files (option_map_or (λ e. spec.meaning_by m.role files e statement m) o meanings.unknown))) (sym here)
        where
          token_at : ℕ → Mention → Meaning → Denoted
          token_at f m meaning = record { file = f; token = m.token; meaning = meaning }

  pub denoted_nowhere : (known : List Row) → known ≡ rows_of files (scoping files) → None ≡ number_at known file statement
      → map (steps.unknown_at file) (mentions_at files file statement) ≡ steps.denoted_at files file statement
  denoted_nowhere known is told =
      map_same (steps.unknown_at file) (λ m. steps.denoted files (spec.denoting files file statement m)) one (mentions_at files file statement)
      ∙ sym (map_twice (steps.denoted files) (spec.denoting files file statement) (mentions_at files file statement))
    where
      one : (m : Mention) → steps.unknown_at file m ≡ steps.denoted files (spec.denoting files file statement m)
      one m = ap (λ o. token_at (numbered files (option_map_or (λ e. spec.meaning_by m.role files e statement m) o meanings.unknown))) (sym (in_none known is told)) where
        token_at : Meaning → Denoted
        token_at meaning = record { file = file; token = m.token; meaning = meaning }
