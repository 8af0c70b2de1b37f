-- The names of sayings, each once, and their numbers, with one more saying.
use Rattle.std.proofs.Common.{◌≡◌, ℕ, ◌+◌, Bool, true, false, cond, ◌||◌, List, [], ◌∷◌, ◌++◌, length, Some, None, bytes_eq, refl, sym, ap, ◌∙◌, arith, append-nil}
use Rattle.std.specs.Option.{option_or}
use Rattle.std.specs.Cmp.Lexicographic.{nat_list_eq_equiv}
use Rattle.std.proofs.lemmas.Slice.Eq.{bytes_eq-Decides}
use Rattle.ftn_tree.specs.DeclaredEntities.{names_after}
use Rattle.ftn_tree.specs.Sayings.{Saying}
use Rattle.decl_table.specs.steps.Seen.{is_among}
use Rattle.const_value.specs.steps.Names.{number_from}

-- ---- names, each once

names_push : (seen : List (List ℕ)) (said : List Saying) (s : Saying)
    → names_after seen (said ++ s ∷ []) ≡ names_after seen said ++ cond (is_among s.name seen || is_among s.name (names_after seen said)) [] (s.name ∷ [])
names_push seen [] s = by (is_among s.name seen) where
  by : (b : Bool) → cond b [] (s.name ∷ []) ≡ cond (b || false) [] (s.name ∷ [])
  by true = refl
  by false = refl
names_push seen (t ∷ said) s = by (is_among t.name seen) (names_push seen said s) (names_push (t.name ∷ seen) said s) where
  later : List (List ℕ)
  later = names_after (t.name ∷ seen) said

  alike : (a b c : Bool) → ((a || b) || c) ≡ (b || (a || c))
  alike true true c = refl
  alike true false c = refl
  alike false true c = refl
  alike false false c = refl

  by : (b : Bool) → names_after seen (said ++ s ∷ []) ≡ names_after seen said ++ cond (is_among s.name seen || is_among s.name (names_after seen said)) [] (s.name ∷ [])
      → names_after (t.name ∷ seen) (said ++ s ∷ []) ≡ later ++ cond (is_among s.name (t.name ∷ seen) || is_among s.name later) [] (s.name ∷ [])
      → cond b (names_after seen (said ++ s ∷ [])) (t.name ∷ names_after (t.name ∷ seen) (said ++ s ∷ []))
      ≡ cond b (names_after seen said) (t.name ∷ later) ++ cond (is_among s.name seen || is_among s.name (cond b (names_after seen said) (t.name ∷ later))) [] (s.name ∷ [])
  by true old new = old
  by false old new =
      ap (λ (xs : List (List ℕ)). t.name ∷ xs) (new ∙ ap (λ b. later ++ cond b [] (s.name ∷ [])) (alike (bytes_eq t.name s.name) (is_among s.name seen) (is_among s.name later)))

pub name_again : (said : List Saying) (s : Saying) → is_among s.name (names_after [] said) ≡ true → names_after [] (said ++ s ∷ []) ≡ names_after [] said
name_again said s there = names_push [] said s ∙ ap (λ b. names_after [] said ++ cond b [] (s.name ∷ [])) there ∙ append-nil (names_after [] said)

pub name_more : (said : List Saying) (s : Saying) → is_among s.name (names_after [] said) ≡ false → names_after [] (said ++ s ∷ []) ≡ names_after [] said ++ s.name ∷ []
name_more said s apart = names_push [] said s ∙ ap (λ b. names_after [] said ++ cond b [] (s.name ∷ [])) apart

-- ---- no name twice

abbrev pub AreApart : List (List ℕ) → Type 0
AreApart [] = Unit {0}
AreApart (name ∷ rest) = (is_among name rest ≡ false) × AreApart rest

none_seen : (seen : List (List ℕ)) (said : List Saying) (name : List ℕ) → is_among name seen ≡ true → is_among name (names_after seen said) ≡ false
none_seen seen [] name there = refl
none_seen seen (s ∷ said) name there = by (is_among s.name seen) (bytes_eq s.name name) refl refl (none_seen seen said name there) (none_seen (s.name ∷ seen) said name more) where
  more : is_among name (s.name ∷ seen) ≡ true
  more = ap (λ b. bytes_eq s.name name || b) there ∙ with_true (bytes_eq s.name name) where
    with_true : (b : Bool) → (b || true) ≡ true
    with_true true = refl
    with_true false = refl

  by : (b c : Bool) → is_among s.name seen ≡ b → bytes_eq s.name name ≡ c → is_among name (names_after seen said) ≡ false → is_among name (names_after (s.name ∷ seen) said) ≡ false
      → is_among name (cond b (names_after seen said) (s.name ∷ names_after (s.name ∷ seen) said)) ≡ false
  by true c is same old new = old
  by false true is same old new =
      absurd (cc (sym is ∙ ap (λ n. is_among n seen) ((bytes_eq-Decides s.name name).0 (grind arith)) ∙ there))
  by false false is same old new = ap (λ b. b || is_among name (names_after (s.name ∷ seen) said)) same ∙ new

itself : (name : List ℕ) → bytes_eq name name ≡ true
itself name = nat_list_eq_equiv.refl name

names_apart : (seen : List (List ℕ)) (said : List Saying) → AreApart (names_after seen said)
names_apart seen [] = tt
names_apart seen (s ∷ said) = by (is_among s.name seen) (names_apart seen said) (names_apart (s.name ∷ seen) said) where
  by : (b : Bool) → AreApart (names_after seen said) → AreApart (names_after (s.name ∷ seen) said) → AreApart (cond b (names_after seen said) (s.name ∷ names_after (s.name ∷ seen) said))
  by true old new = old
  by false old new = (none_seen (s.name ∷ seen) said s.name (ap (λ b. b || is_among s.name seen) (itself s.name)), new)

pub all_apart : (said : List Saying) → AreApart (names_after [] said)
all_apart said = names_apart [] said

-- ---- their numbers

pub number_none : (first : ℕ) (name : List ℕ) (names : List (List ℕ)) → is_among name names ≡ false → number_from first name names ≡ None
number_none first name [] apart = refl
number_none first name (other ∷ names) apart = by (bytes_eq other name) refl apart (number_none (first + 1) name names) where
  by : (b : Bool) → bytes_eq other name ≡ b → (b || is_among name names) ≡ false → (is_among name names ≡ false → number_from (first + 1) name names ≡ None)
      → cond (bytes_eq name other) (Some first) (number_from (first + 1) name names) ≡ None
  by true same not_there rest = absurd (cc not_there)
  by false differ not_there rest = ap (λ b. cond b (Some first) (number_from (first + 1) name names)) (nat_list_eq_equiv.symm name other ∙ differ) ∙ rest not_there

pub number_push : (first : ℕ) (name : List ℕ) (names : List (List ℕ)) (other : List ℕ) (next : ℕ) → next ≡ first + length names
    → number_from first name (names ++ other ∷ []) ≡ option_or (number_from first name names) (cond (bytes_eq name other) (Some next) None)
number_push first name [] other next is = ap (λ n. cond (bytes_eq name other) (Some n) None) (sym (is ∙ none)) where
  none : first + 0 ≡ first
  none = omega arith
number_push first name (x ∷ names) other next is = by (bytes_eq name x) (number_push (first + 1) name names other next (omega (arith, is))) where
  by : (b : Bool) → number_from (first + 1) name (names ++ other ∷ []) ≡ option_or (number_from (first + 1) name names) (cond (bytes_eq name other) (Some next) None)
      → cond b (Some first) (number_from (first + 1) name (names ++ other ∷ [])) ≡ option_or (cond b (Some first) (number_from (first + 1) name names)) (cond (bytes_eq name other) (Some next) None)
  by true rest = refl
  by false rest = rest
