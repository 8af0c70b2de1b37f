-- What a scoping unit itself says of a name, by what is heard of it.
use Rattle.std.proofs.Common.{◌≡◌, ℕ, ◌<◌, Bool, true, false, cond, ◌&&◌, ◌||◌, if◌then◌else◌, List, [], ◌∷◌, length, Option, Some, None, refl, sym, ap, ap₂, ◌∙◌}
use Rattle.std.specs.Prelude.{is_some}
use Rattle.std.specs.List.{filter, find, list_any}
use Rattle.std.specs.Option.{option_map}
use Rattle.ftn_base.specs.Keywords.{is_intrinsic}
use Rattle.ftn_tree.specs.declared.mention.Role.{Role}
use Rattle.ftn_tree.specs.declared.mention.Role.TheVariants as role
use Rattle.ftn_tree.specs.declared.table.Extent.{Extent}
use Rattle.ftn_tree.specs.declared.unit.FileTree.{FileTree}
use Rattle.ftn_tree.specs.DeclaredEntities.{has_result_at, is_referenced}
use Rattle.ftn_tree.specs.Extents.{scoping, layer_at, is_body}
use Rattle.ftn_tree.specs.Meanings as spec
use Rattle.ftn_tree.specs.Projects.{AreTrees}
use Rattle.ftn_tree.specs.Sayings.{Saying, external, body, inside}
use Rattle.decl_table.specs.declared.heard.Heard.{Heard}
use Rattle.decl_table.specs.steps.Heard.{heard_of, first_token, is, is_typed_alone}
use Rattle.scope_bind.specs.declared.candidates.Sort.TheVariants as sort
use Rattle.scope_bind.specs.declared.declared.Declared.{Declared}
use Rattle.scope_bind.specs.declared.declared.Declared.TheVariants as made
use Rattle.scope_bind.specs.steps.Declared.{known_unit, intrinsic_or, procedure_by, outside_by, function_by, result_by, inner_by, said_of, declared_by, declared_at, meant}
use Rattle.scope_bind.specs.steps.Exporting.{HasUnit}
use Rattle.scope_bind.specs.steps.Globals.{unit_at, unit_number}
use Rattle.scope_bind.specs.steps.Told.{is_external}
use Rattle.scope_bind.proofs.FoundUnits.{unit_known, unit_number_less, inner_known, inner_less}

-- ---- lists

pub any_or : {X : Type 0} (p q : X → Bool) (xs : List X) → list_any (λ x. p x || q x) xs ≡ (list_any p xs || list_any q xs)
any_or p q [] = refl
any_or p q (x ∷ xs) = ap (λ b. (p x || q x) || b) (any_or p q xs) ∙ turn (p x) (q x) (list_any p xs) (list_any q xs) where
  turn : (a b c d : Bool) → ((a || b) || (c || d)) ≡ ((a || c) || (b || d))
  turn true b c d = refl
  turn false true true d = refl
  turn false true false d = refl
  turn false false c d = refl

pub any_token : (r : Role) (all : List Saying) → is_some (first_token r all) ≡ list_any (is r) all
any_token r [] = refl
any_token r (s ∷ all) = by (is r s) (any_token r all) where
  by : (b : Bool) → is_some (first_token r all) ≡ list_any (is r) all → is_some (option_map (λ (s : Saying). s.said.token) (cond b (Some s) (find (is r) all))) ≡ (b || list_any (is r) all)
  by true rest = refl
  by false rest = rest

-- ---- parts

pub procedure_known : (files : List FileTree) → AreTrees files → (scope : ℕ) (name other : List ℕ) → meant files scope name (procedure_by files other) ≡ spec.known (spec.external_of files other)
procedure_known files are scope name other = unit_known files are scope name other sort.Procedure

pub intrinsic_known : (files : List FileTree) (scope : ℕ) (name : List ℕ) (other : Declared) (key : Option spec.Key) → meant files scope name other ≡ spec.known key
    → meant files scope name (intrinsic_or name other) ≡ spec.known (spec.or_else (spec.intrinsic_of name) key)
intrinsic_known files scope name other key same = by (is_intrinsic name) where
  by : (b : Bool) → meant files scope name (cond b made.Intrinsic other) ≡ spec.known (spec.or_else (cond b (Some (spec.intrinsic_function name)) None) key)
  by true = refl
  by false = same

no_more : (key : Option spec.Key) → spec.or_else key None ≡ key
no_more None = refl
no_more (Some key) = refl

outside_known : (files : List FileTree) → AreTrees files → (scope : ℕ) (name : List ℕ) (said : List Saying)
    → meant files scope name (outside_by files name (list_any is_external said)) ≡ spec.outside_meaning files name said
outside_known files are scope name said = by (list_any is_external said) (any_or external body said) where
  by : (b : Bool) → b ≡ (list_any external said || list_any body said)
      → meant files scope name (outside_by files name b) ≡ (if list_any external said || list_any body said then spec.known (spec.external_of files name) else spec.known (spec.intrinsic_of name))
  by true is = procedure_known files are scope name name ∙ ap (λ b. if b then spec.known (spec.external_of files name) else spec.known (spec.intrinsic_of name)) is
  by false is =
      intrinsic_known files scope name made.Unknown None refl ∙ ap spec.known (no_more (spec.intrinsic_of name))
      ∙ ap (λ b. if b then spec.known (spec.external_of files name) else spec.known (spec.intrinsic_of name)) is

result_known : (files : List FileTree) → AreTrees files → (scope : ℕ) (name : List ℕ) → meant files scope name (result_by files scope name) ≡ spec.result_meaning files (unit_at files scope) name
result_known files are scope name = by (has_result_at (layer_at files (unit_at files scope).file (unit_at files scope).opening)) (is_body files (unit_at files scope)) where
  by : (result body : Bool) → meant files scope name (if result then made.Own else if body then procedure_by files name else made.Unit scope)
      ≡ (if result then spec.one (spec.own (unit_at files scope) name) else if body then spec.known (spec.external_of files name) else spec.one (spec.unit (unit_at files scope)))
  by true body = refl
  by false true = procedure_known files are scope name name
  by false false = refl

-- ---- all

by_parts : (files : List FileTree) (scope : ℕ) (name : List ℕ) (result inner outside function : Declared) (result' inner' outside' function' : spec.Meaning)
    → meant files scope name result ≡ result' → meant files scope name inner ≡ inner' → meant files scope name outside ≡ outside' → meant files scope name function ≡ function'
    → (d a i g g' o r c : Bool) → (i ≡ false → g ≡ g')
    → meant files scope name (if d then made.Own else if a then result else if i then inner else if g then made.Own else if o then outside else if r then function else if c then made.Own else made.Nothing)
    ≡ (if d then spec.one (spec.own (unit_at files scope) name) else if a then result' else if i then inner' else if g' then spec.one (spec.own (unit_at files scope) name)
    else if o then outside' else if r then function' else if c then spec.one (spec.own (unit_at files scope) name) else spec.nothing)
by_parts files scope name result inner outside function result' inner' outside' function' rs is os fs true a i g g' o r c same = refl
by_parts files scope name result inner outside function result' inner' outside' function' rs is os fs false true i g g' o r c same = rs
by_parts files scope name result inner outside function result' inner' outside' function' rs is os fs false false true g g' o r c same = is
by_parts files scope name result inner outside function result' inner' outside' function' rs is os fs false false false g g' o r c same = at g g' (same refl) o r c where
  at : (g g' : Bool) → g ≡ g' → (o r c : Bool)
      → meant files scope name (if g then made.Own else if o then outside else if r then function else if c then made.Own else made.Nothing)
      ≡ (if g' then spec.one (spec.own (unit_at files scope) name) else if o then outside' else if r then function' else if c then spec.one (spec.own (unit_at files scope) name) else spec.nothing)
  at true true same o r c = refl
  at true false same o r c = absurd (cc same)
  at false true same o r c = absurd (cc same)
  at false false same true r c = os
  at false false same false true c = fs
  at false false same false false true = refl
  at false false same false false false = refl

inside_is : (said : List Saying) → list_any (is role.Inner) said ≡ false
    → (is_some (heard_of said).generic || is_some (heard_of said).label) ≡ list_any inside said
inside_is said none =
    ap₂ ◌||◌ (any_token role.Generic said) (any_token role.Label said)
    ∙ ap (λ b. (b || list_any (is role.Generic) said) || list_any (is role.Label) said) (sym none)
    ∙ ap (λ b. b || list_any (is role.Label) said) (sym (any_or (is role.Inner) (is role.Generic) said))
    ∙ sym (any_or (λ s. is role.Inner s || is role.Generic s) (is role.Label) said)

pub declared_known : (files : List FileTree) → AreTrees files → (scope : ℕ) → scope < length (scoping files) → (name : List ℕ)
    → meant files scope name (declared_at files scope name) ≡ spec.declared_in files (unit_at files scope) name
declared_known files are scope less name =
    by_parts files scope name (result_by files scope name) (inner_by files scope name) (outside_by files name (list_any is_external said)) (function_by files name)
    (spec.result_meaning files (unit_at files scope) name) (spec.known (option_map spec.unit (spec.inner_of files (unit_at files scope) name))) (spec.outside_meaning files name said)
    (spec.function_meaning files name)
    (result_known files are scope name) (inner_known files are scope less name) (outside_known files are scope name said)
    (intrinsic_known files scope name (known_unit (unit_number files sort.Function name)) (option_map spec.unit (spec.unit_of files spec.is_function name)) (unit_known files are scope name name sort.Function))
    heard.dummy heard.answer heard.inner (is_some heard.generic || is_some heard.label) (list_any inside said) heard.outside (is_referenced files (unit_at files scope) name && is_typed_alone heard)
    heard.declared (inside_is said)
  where
    said : List Saying
    said = said_of files scope name

    heard : Heard
    heard = heard_of said

-- ---- what it opens is a scoping unit

known_within : (files : List FileTree) (o : Option ℕ) → ((n : ℕ) → o ≡ Some n → n < length (scoping files)) → HasUnit files (known_unit o)
known_within files None less = tt
known_within files (Some n) less = less n refl

pub if_within : (files : List FileTree) (b : Bool) (one other : Declared) → HasUnit files one → HasUnit files other → HasUnit files (if b then one else other)
if_within files true one other is both = is
if_within files false one other is both = both

pub procedure_within : (files : List FileTree) → AreTrees files → (name : List ℕ) → HasUnit files (procedure_by files name)
procedure_within files are name = known_within files (unit_number files sort.Procedure name) (unit_number_less files are sort.Procedure name)

pub declared_within : (files : List FileTree) → AreTrees files → (scope : ℕ) → scope < length (scoping files) → (name : List ℕ) → HasUnit files (declared_at files scope name)
declared_within files are scope less name =
    if_within files heard.dummy made.Own _ tt (
    if_within files heard.answer (result_by files scope name) _ (
    if_within files (has_result_at (layer_at files (unit_at files scope).file (unit_at files scope).opening)) made.Own _ tt (
    if_within files (is_body files (unit_at files scope)) (procedure_by files name) (made.Unit scope) (procedure_within files are name) less)) (
    if_within files heard.inner (inner_by files scope name) _ (known_within files _ (inner_less files scope name)) (
    if_within files (is_some heard.generic || is_some heard.label) made.Own _ tt (
    if_within files heard.outside (outside_by files name outer) _ (
    if_within files outer (procedure_by files name) (intrinsic_or name made.Unknown) (procedure_within files are name) (
    if_within files (is_intrinsic name) made.Intrinsic made.Unknown tt tt)) (
    if_within files (is_referenced files (unit_at files scope) name && is_typed_alone heard) (function_by files name) _ (
    if_within files (is_intrinsic name) made.Intrinsic _ tt (known_within files _ (unit_number_less files are sort.Function name))) (
    if_within files heard.declared made.Own made.Nothing tt tt))))))
  where
    heard : Heard
    heard = heard_of (said_of files scope name)

    outer : Bool
    outer = list_any is_external (said_of files scope name)
