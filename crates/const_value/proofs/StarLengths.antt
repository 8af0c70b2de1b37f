-- A type of the length `*` is one that is written so.
use Rattle.std.proofs.Common.{◌≡◌, ℕ, zero, suc, Bool, true, false, cond, List, [], ◌∷◌, ◌++◌, fold, map, Option, Some, None, slice_get, option_map, refl, ap}
use Rattle.std.specs.Prelude.{◌-◌, slice_index_or}
use Rattle.std.specs.List.{flat_map, AllByRecursion as Each}
use Rattle.std.specs.Option.{option_map_or, unwrap_or}
use Rattle.ftn_base.specs.ImplicitLetters as letters
use Rattle.ftn_base.specs.ImplicitLetters.{Entry, alphabet, entry_of, with_entry}
use Rattle.ftn_base.specs.Letters.{is_within}
use Rattle.ftn_base.specs.declared.entity.Length.TheVariants.{Assumed}
use Rattle.ftn_base.specs.declared.entity.Letter.{Letter}
use Rattle.ftn_base.specs.declared.entity.Letter.TheVariants as letter
use Rattle.ftn_base.specs.declared.entity.Ty.TheVariants as ty
use Rattle.ftn_base.specs.declared.entity.Length.{Length}
use Rattle.ftn_tree.specs.declared.expr.Expr.{Expr}
use Rattle.ftn_tree.specs.declared.form.Form.TheOpen.{Form-F}
use Rattle.ftn_tree.specs.declared.parts.CharLength.{CharLength}
use Rattle.ftn_tree.specs.declared.parts.CharLength.TheVariants as star
use Rattle.ftn_tree.specs.declared.parts.ImplicitType.{ImplicitType}
use Rattle.ftn_tree.specs.declared.parts.ImplicitType.TheVariants as implicit
use Rattle.ftn_tree.specs.declared.parts.LengthValue.TheVariants as lengths
use Rattle.ftn_tree.specs.declared.parts.LetterGroup.{LetterGroup}
use Rattle.ftn_tree.specs.declared.parts.TypeSpec.{TypeSpec}
use Rattle.ftn_tree.specs.declared.parts.TypeSpec.TheVariants as type
use Rattle.ftn_tree.specs.declared.table.Extent.{Extent}
use Rattle.ftn_tree.specs.declared.unit.FileTree.{FileTree}
use Rattle.ftn_tree.specs.declared.value.Value.{Value}
use Rattle.ftn_tree.specs.declared.value.Value.TheVariants as value
use Rattle.ftn_tree.specs.Constants.{Known, declared_type, evaluated_in, length_by, letter_type, written_length, written_type}
use Rattle.ftn_tree.specs.Declarations.{Declared, length_of, typing_of}
use Rattle.ftn_tree.specs.Evaluations.{Evaluated}
use Rattle.ftn_tree.specs.Extents.{is_body, layer_at}
use Rattle.ftn_tree.specs.KeyKinds.{Datum}
use Rattle.ftn_tree.specs.Layers.{FormLayer}
use Rattle.ftn_tree.specs.Meanings.{Key}
use Rattle.ftn_tree.specs.NameFaults.{letter_of}
use Rattle.ftn_tree.specs.ScopeLetters as spec
use Rattle.ftn_tree.specs.ScopeLetters.{Given, after_groups, after_own, after_statement, before_own, entries_of, given_group, given_range, letters_of, put_given}
use Rattle.ftn_tree.specs.Scopes.{chain, own_statements}
use Rattle.ftn_tree.specs.Shapes.{has_star, is_assumed}

-- ---- letters

-- the type has a length of its own
abbrev pub IsLong : Letter → Type 0
IsLong l = l ≡ letter.Known (ty.Character Assumed) → ⊥

abbrev pub AreLong : List Entry → Type 0
AreLong entries = Each (λ (entry : Entry). IsLong entry.0) entries

each_map : {A B : Type 0} (P : B → Type 0) (f : A → B) → ((x : A) → P (f x)) → (xs : List A) → Each P (map f xs)
each_map P f all [] = tt
each_map P f all (x ∷ xs) = (all x, each_map P f all xs)

nothing_long : IsLong letter.Nothing
nothing_long is = cc is

real_long : IsLong letter.Real
real_long is = cc is

integer_long : IsLong (letter.Known ty.Integer)
integer_long is = cc is

entry_long : (code : ℕ) (entries : List Entry) → AreLong entries → IsLong (entry_of code entries).0
entry_long code entries all = at entries (code - 97) all where
  at : (entries : List Entry) (k : ℕ) → AreLong entries → IsLong (slice_index_or entries k (letter.Nothing, false)).0
  at [] k all = nothing_long
  at (entry ∷ entries) zero all = all.0
  at (entry ∷ entries) (suc k) all = at entries k all.1

standard_long : AreLong letters.standard
standard_long = each_map (λ (entry : Entry). IsLong entry.0) (λ code. (letters.standard_type code, false)) (λ code. by (is_within 105 110 code)) alphabet where
  by : (b : Bool) → IsLong (cond b (letter.Known ty.Integer) letter.Real)
  by true = integer_long
  by false = real_long

none_long : AreLong letters.none
none_long = each_map (λ (entry : Entry). IsLong entry.0) (λ code. (letter.Nothing, false)) (λ code. nothing_long) alphabet

inner_long : (entries : List Entry) → AreLong entries → AreLong (letters.inner entries)
inner_long entries all = each_map (λ (entry : Entry). IsLong entry.0) (λ code. (letters.type_of code entries, false)) (λ code. entry_long code entries all) alphabet

put_long : (given : Given) (entries : List Entry) → IsLong given.letter → AreLong entries → AreLong (put_given entries given)
put_long given entries long all =
    each_map (λ (entry : Entry). IsLong entry.0) (λ code. cond (is_within given.from given.to code) (given.letter, true) (entry_of code entries)) (λ code. by code (is_within given.from given.to code)) alphabet
  where
    by : (code : ℕ) (b : Bool) → IsLong (cond b (given.letter, true) (entry_of code entries)).0
    by code true = long
    by code false = entry_long code entries all

written_long : (written : ImplicitType) → IsLong (spec.letter_type written)
written_long implicit.Real = real_long
written_long (implicit.Known type.Integer) = integer_long
written_long (implicit.Known type.Logical) = λ is. cc is
written_long (implicit.Known (type.Character selector)) = λ is. cc is

module _ (files : List FileTree) where
  given_long : (file : ℕ) (groups : List LetterGroup) → Each (λ (given : Given). IsLong given.letter) (flat_map (given_group files file) groups)
  given_long file [] = tt
  given_long file (group ∷ groups) =
      join (given_group files file group) (flat_map (given_group files file) groups) (each_map (λ (given : Given). IsLong given.letter) (given_range files file group.ty) (λ range. written_long group.ty) group.ranges) (given_long file groups)
    where
      join : (xs ys : List Given) → Each (λ (given : Given). IsLong given.letter) xs → Each (λ (given : Given). IsLong given.letter) ys → Each (λ (given : Given). IsLong given.letter) (xs ++ ys)
      join [] ys all more = more
      join (x ∷ xs) ys all more = (all.0, join xs ys all.1 more)

  all_put : (givens : List Given) (entries : List Entry) → Each (λ (given : Given). IsLong given.letter) givens → AreLong entries → AreLong (fold put_given entries givens)
  all_put [] entries long all = all
  all_put (given ∷ givens) entries long all = all_put givens (put_given entries given) long.1 (put_long given entries long.0 all)

  groups_long : (file : ℕ) (groups : Option (List LetterGroup)) (entries : List Entry) → AreLong entries → AreLong (after_groups files file groups entries)
  groups_long file None entries all = none_long
  groups_long file (Some groups) entries all = all_put (flat_map (given_group files file) groups) entries (given_long file groups) all

  statement_long : (file : ℕ) (entries : List Entry) (layer : Option FormLayer) → AreLong entries → AreLong (after_statement files file entries layer)
  statement_long file entries (Some (Form-F.Implicit groups)) all = groups_long file groups entries all
  statement_long file entries other all = all

  statements_long : (e : Extent) (statements : List ℕ) (entries : List Entry) → AreLong entries → AreLong (fold (λ entries statement. after_statement files e.file entries (layer_at files e.file statement)) entries statements)
  statements_long e [] entries all = all
  statements_long e (statement ∷ statements) entries all =
      statements_long e statements (after_statement files e.file entries (layer_at files e.file statement)) (statement_long e.file entries (layer_at files e.file statement) all)

  units_long : (es : List Extent) (entries : List Entry) → AreLong entries → AreLong (fold (after_own files) entries es)
  units_long [] entries all = all
  units_long (e ∷ es) entries all = units_long es (after_own files entries e) (statements_long e (own_statements files e) (before_own (is_body files e) entries) (by (is_body files e))) where
    by : (b : Bool) → AreLong (cond b letters.standard (letters.inner entries))
    by true = standard_long
    by false = inner_long entries all

  pub letter_long : (e : Extent) (name : List ℕ) → IsLong (letter_of files e name)
  letter_long e name = at (entries_of files e) (slice_index_or name 0 97 - 97) (units_long (chain files e) letters.standard standard_long) where
    at : (entries : List Entry) (k : ℕ) → AreLong entries → IsLong (unwrap_or (slice_get (map (λ (entry : Entry). entry.0) entries) k) letter.Nothing)
    at [] k all = nothing_long
    at (entry ∷ entries) zero all = all.0
    at (entry ∷ entries) (suc k) all = at entries k all.1

-- ---- types

letter_type_long : (l : Letter) → IsLong l → letter_type l ≡ Some (ty.Character Assumed) → ⊥
letter_type_long (letter.Known known) long is = let same : known ≡ ty.Character Assumed = cc is in long (ap letter.Known same)
letter_type_long letter.Nothing long is = cc is
letter_type_long letter.Real long is = cc is

value_length : (v : Option Value) → length_by v ≡ Some Assumed → ⊥
value_length (Some (value.Whole z)) is = cc is
value_length (Some (value.Truth t)) is = cc is
value_length (Some (value.Chars text)) is = cc is
value_length None is = cc is

assumed_by : (evaluate : Expr → Evaluated) (o : Option CharLength) → written_length evaluate o ≡ Some Assumed → is_assumed o ≡ true
assumed_by evaluate None is = absurd (cc is)
assumed_by evaluate (Some (star.Whole token z)) is = absurd (cc is)
assumed_by evaluate (Some (star.Paren lengths.Assumed)) is = refl
assumed_by evaluate (Some (star.Paren (lengths.Given e))) is = absurd (value_length (evaluate e).value is)

character_of : (o : Option Length) → option_map ty.Character o ≡ Some (ty.Character Assumed) → o ≡ Some Assumed
character_of None is = absurd (cc is)
character_of (Some l) is = let same : ty.Character l ≡ ty.Character Assumed = cc is in let equal : l ≡ Assumed = cc same in ap Some equal

typing_star : (evaluate : Expr → Evaluated) (typing : TypeSpec × Declared) → written_type evaluate typing ≡ Some (ty.Character Assumed) → is_assumed (length_of typing) ≡ true
typing_star evaluate (type.Integer, d) is = absurd (cc is)
typing_star evaluate (type.Logical, d) is = absurd (cc is)
typing_star evaluate (type.Character selector, d) is = assumed_by evaluate (length_of (type.Character selector, d)) (character_of (written_length evaluate (length_of (type.Character selector, d))) is)

pub star_written : (files : List FileTree) (known : Key → Known) (d : Datum) → declared_type files known d ≡ Some (ty.Character Assumed) → has_star files d ≡ true
star_written files known d is = by (typing_of files d.scope d.name) is where
  by : (o : Option (TypeSpec × Declared)) → option_map_or (written_type (evaluated_in files known d.scope.file)) o (letter_type (letter_of files d.scope d.name)) ≡ Some (ty.Character Assumed)
      → option_map_or (λ typing. is_assumed (length_of typing)) o false ≡ true
  by None is = absurd (letter_type_long (letter_of files d.scope d.name) (letter_long files d.scope d.name) is)
  by (Some typing) is = typing_star (evaluated_in files known d.scope.file) typing is
