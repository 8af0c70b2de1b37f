-- Rows with names spelled in another way.
use Rattle.std.proofs.Common.{◌≡◌, ◌⊎◌, inl, inr, refl, sym, ◌∙◌, ap, subst, ◌≤◌, ◌<◌, ℕ, suc, ◌+◌, Bool, ◌&&◌, ◌||◌, nat_lt, if◌then◌else◌, List, [], ◌∷◌, ◌++◌, length, add-zero, arith}
use Rattle.std.specs.List.{Contains}
use Rattle.std.proofs.lemmas.List.Elements.{All-contains, Contains-append_cases}
use Rattle.ftn_tree.specs.declared.lexeme.Lexeme.{Lexeme}
use Rattle.ftn_tree.specs.declared.lexeme.Lexeme.TheVariants as lexeme
use Rattle.ftn_tree.specs.declared.token.Token.{Token}
use Rattle.ftn_tree.specs.Assignments.{IsAssignment, leads_to_equals, is_assignment}
use Rattle.ftn_tree.specs.Lexemes.{lexeme_of}
use Rattle.ftn_tree.specs.Misfits.{is_word_token_at, is_open_at, is_equals_at, depth_at}
use Rattle.ftn_tree.specs.RowNames.{AreNames, IsRespelled, Respelled}
use Rattle.ftn_tree.proofs.AssignmentLaws.{assignment_told, told_assignment}
use Rattle.ftn_tree.proofs.RowLaws.{one_on, from_first, up_to_last}

-- ---- fewer names

pub narrowed : (all some : List ℕ) (at : ℕ) (row others : List Token) → ((place : ℕ) → at ≤ place → place < at + length row → Contains all place → Contains some place)
    → Respelled all at row others → Respelled some at row others
narrowed all some at [] [] fewer alike = tt
narrowed all some at [] (other ∷ others) fewer alike = absurd alike
narrowed all some at (here ∷ rest) [] fewer alike = absurd alike
narrowed all some at (here ∷ rest) (other ∷ others) fewer (one, alike) =
    (by one, narrowed all some (at + 1) rest others (λ place more less. fewer place (omega arith) (less_than place less)) alike)
  where
    less_than : (place : ℕ) → place < at + 1 + length rest → place < at + suc (length rest)
    less_than place less = omega arith

    by : IsRespelled all at here other → IsRespelled some at here other
    by (inl same) = inl same
    by (inr (there, was, is)) = inr (fewer at (omega arith) (omega arith) there, was, is)

-- ---- two rows, one after the other

pub record Parted (numbers : List ℕ) (at : ℕ) (before after others : List Token) : Type 0 where
  pub front : List Token
  pub back : List Token
  pub whole : others ≡ front ++ back
  pub long : length before ≡ length front
  pub fronts : Respelled numbers at before front
  pub backs : Respelled numbers (at + length before) after back

pub parted : (numbers : List ℕ) (at : ℕ) (before after others : List Token) → Respelled numbers at (before ++ after) others → Parted numbers at before after others
parted numbers at [] after others alike = record {
  front = [];
  back = others;
  whole = refl;
  long = refl;
  fronts = tt;
  backs = subst (λ n. Respelled numbers n after others) (sym (add-zero at)) alike;
}
parted numbers at (here ∷ before) after [] alike = absurd alike
parted numbers at (here ∷ before) after (other ∷ others) (one, alike) =
    let rest = parted numbers (at + 1) before after others alike in
    record {
      front = other ∷ rest.front;
      back = rest.back;
      whole = ap (λ row. other ∷ row) rest.whole;
      long = ap suc rest.long;
      fronts = (one, rest.fronts);
      backs = subst (λ n. Respelled numbers n after rest.back) (one_on at (length before)) rest.backs;
    }

-- the names of each half are all that may be spelled otherwise there
pub in_front : (letters : Bool) (first second : List ℕ) (at : ℕ) (before after front : List Token) → AreNames letters (at + length before) after second
    → Respelled (first ++ second) at before front → Respelled first at before front
in_front letters first second at before after front said = narrowed (first ++ second) first at before front fewer where
  fewer : (place : ℕ) → at ≤ place → place < at + length before → Contains (first ++ second) place → Contains first place
  fewer place more less there = by (Contains-append_cases first second place there) where
    by : Contains first place ⊎ Contains second place → Contains first place
    by (inl there) = there
    by (inr there) =
        let later : at + length before ≤ place = All-contains (λ number. at + length before ≤ number) second place (from_first letters after (at + length before) second said) there in
        absurd (omega arith)

pub in_back : (letters : Bool) (first second : List ℕ) (at : ℕ) (before after back : List Token) → AreNames letters at before first
    → Respelled (first ++ second) (at + length before) after back → Respelled second (at + length before) after back
in_back letters first second at before after back said = narrowed (first ++ second) second (at + length before) after back fewer where
  fewer : (place : ℕ) → at + length before ≤ place → place < at + length before + length after → Contains (first ++ second) place → Contains second place
  fewer place more less there = by (Contains-append_cases first second place there) where
    by : Contains first place ⊎ Contains second place → Contains second place
    by (inl there) =
        let sooner : place < at + length before = All-contains (λ number. number < at + length before) first place (up_to_last letters before at first said) there in
        absurd (omega arith)
    by (inr there) = there

-- ---- without names, and one name

pub nothing_respelled : (at : ℕ) (row others : List Token) → Respelled [] at row others → row ≡ others
nothing_respelled at [] [] alike = refl
nothing_respelled at [] (other ∷ others) alike = absurd alike
nothing_respelled at (here ∷ rest) [] alike = absurd alike
nothing_respelled at (here ∷ rest) (other ∷ others) (inl same, alike) =
    ap (λ token. token ∷ rest) same ∙ ap (λ row. other ∷ row) (nothing_respelled (at + 1) rest others alike)
nothing_respelled at (here ∷ rest) (other ∷ others) (inr (there, was, is), alike) = absurd (nowhere there) where
  nowhere : Contains {X = ℕ} [] at → ⊥
  nowhere (k, less, is) = absurd (omega arith)

pub one_respelled : (numbers : List ℕ) (at : ℕ) (here : Token) (others : List Token) → lexeme_of here ≡ lexeme.Word → Respelled numbers at (here ∷ []) others
    → (other : Token) × (others ≡ other ∷ []) × (lexeme_of other ≡ lexeme.Word)
one_respelled numbers at here [] word alike = absurd alike
one_respelled numbers at here (other ∷ []) word (inl same, alike) = (other, refl, ap lexeme_of (sym same) ∙ word)
one_respelled numbers at here (other ∷ []) word (inr (there, was, is), alike) = (other, refl, is)
one_respelled numbers at here (other ∷ next ∷ others) word (one, alike) = absurd alike

-- ---- what is an assignment stays one

same_lexeme : (numbers : List ℕ) (at : ℕ) (here other : Token) → IsRespelled numbers at here other → lexeme_of here ≡ lexeme_of other
same_lexeme numbers at here other (inl same) = ap lexeme_of same
same_lexeme numbers at here other (inr (there, was, is)) = was ∙ sym is

-- one token of that kind
abbrev leads : ℕ → List Token → Lexeme → Bool
leads depth rest kind = if nat_lt 0 depth || is_open_at kind then leads_to_equals (depth_at depth kind) rest else is_equals_at kind

leads_alike : (numbers : List ℕ) (depth at : ℕ) (row others : List Token) → Respelled numbers at row others → leads_to_equals depth row ≡ leads_to_equals depth others
leads_alike numbers depth at [] [] alike = refl
leads_alike numbers depth at [] (other ∷ others) alike = absurd alike
leads_alike numbers depth at (here ∷ rest) [] alike = absurd alike
leads_alike numbers depth at (here ∷ rest) (other ∷ others) (one, alike) =
    ap (leads depth rest) (same_lexeme numbers at here other one)
    ∙ ap (λ b. if nat_lt 0 depth || is_open_at (lexeme_of other) then b else is_equals_at (lexeme_of other))
    (leads_alike numbers (depth_at depth (lexeme_of other)) (at + 1) rest others alike)

is_alike : (numbers : List ℕ) (at : ℕ) (row others : List Token) → Respelled numbers at row others → is_assignment row ≡ is_assignment others
unfolding is_assignment
is_alike numbers at [] [] alike = refl
is_alike numbers at [] (other ∷ others) alike = absurd alike
is_alike numbers at (here ∷ rest) [] alike = absurd alike
is_alike numbers at (here ∷ rest) (other ∷ others) (one, alike) =
    ap (λ kind. is_word_token_at kind && leads_to_equals 0 rest) (same_lexeme numbers at here other one)
    ∙ ap (λ b. is_word_token_at (lexeme_of other) && b) (leads_alike numbers 0 (at + 1) rest others alike)

pub assignment_stays : (numbers : List ℕ) (at : ℕ) (row others : List Token) → Respelled numbers at row others → IsAssignment row → IsAssignment others
assignment_stays numbers at row others alike is = assignment_told others (sym (is_alike numbers at row others alike) ∙ told_assignment row is)

pub assignment_was : (numbers : List ℕ) (at : ℕ) (row others : List Token) → Respelled numbers at row others → IsAssignment others → IsAssignment row
assignment_was numbers at row others alike is = assignment_told row (is_alike numbers at row others alike ∙ told_assignment others is)
