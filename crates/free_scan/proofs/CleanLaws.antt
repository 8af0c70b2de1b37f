-- Sets of names, and a clean program part by part.
use Rattle.std.proofs.Common.{◌≡◌, ℕ, suc, ◌+◌, ◌<◌, ◌≤◌, drop-cons, Bool, true, false, cond, List, [], ◌∷◌, ◌++◌, length, drop, get_or, Option, Some, None, refl, sym, ap, ◌∙◌, append_assoc, add-one}
use Rattle.std.specs.Prelude.{◌&&◌, ◌||◌, not}
use Rattle.std.specs.List.{flat_map, list_all, list_any}
use Rattle.std.specs.Str.{bytes_eq}
use Rattle.std.proofs.lemmas.List.{append-nil, drop_all}
use Rattle.std.proofs.lemmas.List.Folds.{list_all-append}
use Rattle.std.proofs.lemmas.List.Concat.{flat_map-cons}
use Rattle.std.proofs.lemmas.Slice.Eq.{bytes_eq-Decides}
use Rattle.std.specs.Cmp.{both_ways}
use Rattle.std.proofs.Math.Bool.{and_assoc, or_assoc}
use Rattle.free_scan.specs.Clean.{are_distinct, is_among, is_clean, is_free_name, operand_names, statement_fits, statement_names, sum_names, variables}
use Rattle.free_scan.specs.steps.Fresh.{are_fresh}
use Rattle.free_scan.specs.Spelling.{is_some_row}
use Rattle.ftn_base.specs.Keywords.{is_keyword, is_intrinsic}
use Rattle.ftn_base.specs.Limits.{name_limit}
use Rattle.ftn_base.specs.Names.{is_name}
use Rattle.ftn_base.specs.declared.name.Edition.TheVariants.{F90}
use Rattle.free_scan.specs.declared.first_form.program.Program.{Program}
use Rattle.free_scan.specs.declared.first_form.program.Statement.{Statement}
use Rattle.free_scan.specs.declared.first_form.program.Statement.TheVariants as statements
use Rattle.free_scan.specs.declared.first_form.program.Sum.{Sum}
use Rattle.free_scan.specs.declared.first_form.program.Term.{Term}

-- ---- the order of two names does not count

pub turned : (a b : List ℕ) → bytes_eq a b ≡ bytes_eq b a
turned a b = both_ways _ _ (λ h. (bytes_eq-Decides b a).1 (sym ((bytes_eq-Decides a b).0 h))) (λ h. (bytes_eq-Decides a b).1 (sym ((bytes_eq-Decides b a).0 h)))

pub among_turned : (names : List (List ℕ)) (name : List ℕ) → list_any (λ other. bytes_eq name other) names ≡ is_among names name
among_turned [] name = refl
among_turned (other ∷ names) name =
    ap (λ b. b || list_any (λ o. bytes_eq name o) names) (turned name other) ∙ ap (λ b. bytes_eq other name || b) (among_turned names name)

-- ---- lists of lists

pub all_of_lists : {A : Type 0} (p : List ℕ → Bool) (f : A → List (List ℕ)) (xs : List A) → list_all p (flat_map f xs) ≡ list_all (λ x. list_all p (f x)) xs
all_of_lists p f [] = refl
all_of_lists p f (x ∷ xs) =
    ap (list_all p) (flat_map-cons f x xs) ∙ list_all-append p (f x) (flat_map f xs) ∙ ap (λ b. list_all p (f x) && b) (all_of_lists p f xs)

pub fresh_append : (before first second : List (List ℕ)) → are_fresh before (first ++ second) ≡ (are_fresh before first && are_fresh (before ++ first) second)
fresh_append before [] second = ap (λ names. are_fresh names second) (sym (append-nil before))
fresh_append before (name ∷ first) second =
    ap (λ b. not (is_among before name) && b)
    (fresh_append (before ++ name ∷ []) first second
    ∙ ap (λ names. are_fresh (before ++ name ∷ []) first && are_fresh names second) (append_assoc before (name ∷ []) first))
    ∙ sym (and_assoc (not (is_among before name)) (are_fresh (before ++ name ∷ []) first) (are_fresh (before ++ name ∷ first) second))

-- ---- names that are fresh after no name are distinct

or_false : (b : Bool) → (b || false) ≡ (false || b)
or_false true = refl
or_false false = refl

mixed : (a b c d : Bool) → (not (a || b) && (c && not d)) ≡ ((not a && c) && not (b || d))
mixed true b c d = refl
mixed false true true d = refl
mixed false true false d = refl
mixed false false true d = refl
mixed false false false d = refl

grouped : (a b c d : Bool) → (a && ((b && c) && d)) ≡ ((a && b) && (c && d))
grouped true true c d = refl
grouped true false c d = refl
grouped false b c d = refl

-- none of these is among those
abbrev apart : List (List ℕ) → List (List ℕ) → Bool
apart before names = list_all (λ name. not (is_among before name)) names

among_append : (before : List (List ℕ)) (last name : List ℕ) → is_among (before ++ last ∷ []) name ≡ (is_among before name || bytes_eq last name)
among_append [] last name = or_false (bytes_eq last name)
among_append (other ∷ before) last name =
    ap (λ b. bytes_eq other name || b) (among_append before last name) ∙ sym (or_assoc (bytes_eq other name) (is_among before name) (bytes_eq last name))

apart_append : (before : List (List ℕ)) (last : List ℕ) (names : List (List ℕ)) → apart (before ++ last ∷ []) names ≡ (apart before names && not (is_among names last))
apart_append before last [] = refl
apart_append before last (name ∷ names) =
    ap (λ b. not b && apart (before ++ last ∷ []) names) (among_append before last name ∙ ap (λ b. is_among before name || b) (turned last name))
    ∙ ap (λ b. not (is_among before name || bytes_eq name last) && b) (apart_append before last names)
    ∙ mixed (is_among before name) (bytes_eq name last) (apart before names) (is_among names last)

fresh_is : (before names : List (List ℕ)) → are_fresh before names ≡ (apart before names && are_distinct names)
fresh_is before [] = refl
fresh_is before (name ∷ names) =
    ap (λ b. not (is_among before name) && b) (fresh_is (before ++ name ∷ []) names ∙ ap (λ b. b && are_distinct names) (apart_append before name names))
    ∙ grouped (not (is_among before name)) (apart before names) (not (is_among names name)) (are_distinct names)

apart_nothing : (names : List (List ℕ)) → apart [] names ≡ true
apart_nothing [] = refl
apart_nothing (name ∷ names) = apart_nothing names

pub distinct_is : (names : List (List ℕ)) → are_fresh [] names ≡ are_distinct names
distinct_is names = fresh_is [] names ∙ ap (λ b. b && are_distinct names) (apart_nothing names)

-- ---- steps of the loops that gather names

opened : {A : Type 0} (xs : List A) (i : ℕ) (x : A) → i < length xs → x ≡ get_or xs i x → drop i xs ≡ x ∷ drop (i + 1) xs
opened xs i x lt at = drop-cons xs i x lt ∙ ap (λ y. y ∷ drop (suc i) xs) (sym at) ∙ ap (λ k. x ∷ drop k xs) (sym (add-one i))

-- names from that place on: whether they are fresh, and what all come to
abbrev pub Gathers : Bool → List (List ℕ) → List (List ℕ) → List (List ℕ) → Type 0
Gathers fresh whole set rest = (fresh ≡ are_fresh set rest) × (whole ≡ set ++ rest)

pub add_step : (fresh : Bool) (whole set more names : List (List ℕ)) (i : ℕ) (name : List ℕ) → i < length names → name ≡ get_or names i name
    → not (is_among set name) ≡ true → more ≡ set ++ name ∷ [] → Gathers fresh whole set (drop i names) → Gathers fresh whole more (drop (i + 1) names)
add_step fresh whole set more names i name lt at new added h =
    let rest = drop (i + 1) names in (
      h.0 ∙ ap (are_fresh set) (opened names i name lt at) ∙ ap (λ b. b && are_fresh (set ++ name ∷ []) rest) new ∙ ap (λ s. are_fresh s rest) (sym added),
      h.1 ∙ ap (λ xs. set ++ xs) (opened names i name lt at) ∙ sym (append_assoc set (name ∷ []) rest) ∙ ap (λ s. s ++ rest) (sym added),
    )

pub add_stop : (fresh : Bool) (whole set names : List (List ℕ)) (i : ℕ) (name : List ℕ) → i < length names → name ≡ get_or names i name
    → not (is_among set name) ≡ false → Gathers fresh whole set (drop i names) → false ≡ fresh
add_stop fresh whole set names i name lt at old h =
    sym (h.0 ∙ ap (are_fresh set) (opened names i name lt at) ∙ ap (λ b. b && are_fresh (set ++ name ∷ []) (drop (i + 1) names)) old)

pub add_done : (fresh : Bool) (whole set names : List (List ℕ)) (i : ℕ) → length names ≤ i → Gathers fresh whole set (drop i names) → (true ≡ fresh) × (set ≡ whole)
add_done fresh whole set names i le h =
    let none = drop_all i names le in
    (sym (h.0 ∙ ap (are_fresh set) none), sym (h.1 ∙ ap (λ xs. set ++ xs) none ∙ append-nil set))

abbrev pub joined : List (List (List ℕ)) → List (List ℕ)
joined lists = flat_map (λ names. names) lists

joined_at : (lists : List (List (List ℕ))) (i : ℕ) (names : List (List ℕ)) → i < length lists → names ≡ get_or lists i names → joined (drop i lists) ≡ names ++ joined (drop (i + 1) lists)
joined_at lists i names lt at = ap joined (opened lists i names lt at) ∙ flat_map-cons (λ xs. xs) names (drop (i + 1) lists)

pub gather_step : (fresh : Bool) (whole set more : List (List ℕ)) (lists : List (List (List ℕ))) (i : ℕ) (names : List (List ℕ)) → i < length lists → names ≡ get_or lists i names
    → are_fresh set names ≡ true → more ≡ set ++ names → Gathers fresh whole set (joined (drop i lists)) → Gathers fresh whole more (joined (drop (i + 1) lists))
gather_step fresh whole set more lists i names lt at new added h =
    let rest = joined (drop (i + 1) lists) in (
      h.0 ∙ ap (are_fresh set) (joined_at lists i names lt at) ∙ fresh_append set names rest ∙ ap (λ b. b && are_fresh (set ++ names) rest) new ∙ ap (λ s. are_fresh s rest) (sym added),
      h.1 ∙ ap (λ xs. set ++ xs) (joined_at lists i names lt at) ∙ sym (append_assoc set names rest) ∙ ap (λ s. s ++ rest) (sym added),
    )

abbrev pub distinct_or_none : Bool → List (List ℕ) → Option (List (List ℕ))
distinct_or_none distinct names = cond distinct (Some names) None

pub gather_stop : (fresh : Bool) (whole set : List (List ℕ)) (lists : List (List (List ℕ))) (i : ℕ) (names : List (List ℕ)) → i < length lists → names ≡ get_or lists i names
    → are_fresh set names ≡ false → Gathers fresh whole set (joined (drop i lists)) → None ≡ distinct_or_none fresh whole
gather_stop fresh whole set lists i names lt at old h =
    let rest = joined (drop (i + 1) lists) in
    let not_fresh : fresh ≡ false = h.0 ∙ ap (are_fresh set) (joined_at lists i names lt at) ∙ fresh_append set names rest ∙ ap (λ b. b && are_fresh (set ++ names) rest) old in
    sym (ap (λ b. distinct_or_none b whole) not_fresh)

pub gather_done : (fresh : Bool) (whole set : List (List ℕ)) (lists : List (List (List ℕ))) (i : ℕ) → length lists ≤ i → Gathers fresh whole set (joined (drop i lists))
    → Some set ≡ distinct_or_none fresh whole
gather_done fresh whole set lists i le h =
    let none : joined (drop i lists) ≡ [] = ap joined (drop_all i lists le) in
    let is_fresh : fresh ≡ true = h.0 ∙ ap (are_fresh set) none in
    let is_whole : whole ≡ set = h.1 ∙ ap (λ xs. set ++ xs) none ∙ append-nil set in
    sym (ap (λ b. distinct_or_none b whole) is_fresh ∙ ap (λ xs. Some xs) is_whole)

-- ---- a clean program

abbrev pub Filled : Program → Bool
Filled program = list_all is_some_row program.declared && list_all statement_fits program.statements

abbrev pub Free : Program → Bool
Free program = is_free_name program.name && list_all (λ names. list_all is_free_name names) program.declared

abbrev pub Knows : Program → Bool
Knows program = list_all (λ statement. list_all (is_among (variables program)) (statement_names statement)) program.statements

abbrev pub conj : Bool → Bool → Bool → Bool → Bool → Bool
conj filled free among distinct knows = filled && free && (not among && distinct) && knows

pub clean_is : (program : Program) → is_clean program ≡ conj (Filled program) (Free program) (is_among (variables program) program.name) (are_distinct (variables program)) (Knows program)
clean_is program =
    let apart = not (is_among (variables program) program.name) && are_distinct (variables program) in
    ap (λ b. Filled program && (is_free_name program.name && b) && apart && list_all (is_among (variables program)) (flat_map statement_names program.statements))
    (all_of_lists is_free_name (λ names. names) program.declared)
    ∙ ap (λ b. Filled program && Free program && apart && b) (all_of_lists (is_among (variables program)) statement_names program.statements)

pub clean_by : (program : Program) (filled free among distinct knows : Bool) → Filled program ≡ filled → Free program ≡ free → is_among (variables program) program.name ≡ among
    → are_distinct (variables program) ≡ distinct → Knows program ≡ knows → is_clean program ≡ conj filled free among distinct knows
clean_by program filled free among distinct knows a b c d e =
    clean_is program
    ∙ ap (λ x. conj x (Free program) (is_among (variables program) program.name) (are_distinct (variables program)) (Knows program)) a
    ∙ ap (λ x. conj filled x (is_among (variables program) program.name) (are_distinct (variables program)) (Knows program)) b
    ∙ ap (λ x. conj filled free x (are_distinct (variables program)) (Knows program)) c
    ∙ ap (λ x. conj filled free among x (Knows program)) d
    ∙ ap (λ x. conj filled free among distinct x) e

pub not_distinct : (among knows : Bool) → conj true true among false knows ≡ false
not_distinct true knows = refl
not_distinct false knows = refl

pub none_distinct : (b : Bool) (names : List (List ℕ)) → distinct_or_none b names ≡ None → b ≡ false
none_distinct true names e = absurd cc
none_distinct false names e = refl

pub some_distinct : (b : Bool) (names found : List (List ℕ)) → distinct_or_none b names ≡ Some found → (b ≡ true) × (names ≡ found)
some_distinct true names found e = (refl, cc)
some_distinct false names found e = absurd cc

-- ---- what the functions answer

pub gather_begin : (set names : List (List ℕ)) → set ≡ [] → Gathers (are_distinct names) names set names
gather_begin set names e =
    (sym (ap (λ s. are_fresh s names) e ∙ distinct_is names), sym (ap (λ s. s ++ names) e))

pub free_by : (name : List ℕ) (b r : Bool) → is_name (name_limit F90) name ≡ b → r ≡ (b && (not (is_keyword name) && not (is_intrinsic name))) → r ≡ is_free_name name
free_by name b r h e =
    e ∙ sym (and_assoc b (not (is_keyword name)) (not (is_intrinsic name))) ∙ ap (λ x. x && not (is_keyword name) && not (is_intrinsic name)) (sym h)

pub sum_known : (names : List (List ℕ)) (sum : Sum) (rest : List Term) (r : Bool) → list_all (is_among names) (operand_names sum.first) ≡ true → rest ≡ sum.rest
    → r ≡ list_all (λ term. list_all (is_among names) (operand_names term.operand)) rest → r ≡ list_all (is_among names) (sum_names sum)
sum_known names sum rest r first e h =
    let p = is_among names in
    h ∙ ap (list_all (λ (term : Term). list_all p (operand_names term.operand))) e
    ∙ sym (all_of_lists p (λ (term : Term). operand_names term.operand) sum.rest)
    ∙ ap (λ b. b && list_all p (flat_map (λ (term : Term). operand_names term.operand) sum.rest)) (sym first)
    ∙ sym (list_all-append p (operand_names sum.first) (flat_map (λ (term : Term). operand_names term.operand) sum.rest))

pub print_known : (names : List (List ℕ)) (statement : Statement) (items sums : List Sum) (r : Bool) → statement ≡ statements.Print items → sums ≡ items
    → r ≡ list_all (λ sum. list_all (is_among names) (sum_names sum)) sums → r ≡ list_all (is_among names) (statement_names statement)
print_known names statement items sums r is e h =
    let p = is_among names in
    h ∙ ap (list_all (λ sum. list_all p (sum_names sum))) e ∙ sym (all_of_lists p sum_names items) ∙ ap (λ s. list_all p (statement_names s)) (sym is)

pub not_free : (program : Program) → Filled program ≡ true → Free program ≡ false → false ≡ is_clean program
not_free program filled free = sym (clean_by program true false _ _ _ filled free refl refl refl)

pub clean_last : (program : Program) (found : List (List ℕ)) (lists : List (List (List ℕ))) (stated : List Statement) (r : Bool) → lists ≡ program.declared → stated ≡ program.statements
    → Filled program ≡ true → Free program ≡ true → distinct_or_none (are_distinct (joined lists)) (joined lists) ≡ Some found → is_among found program.name ≡ false
    → r ≡ list_all (λ statement. list_all (is_among found) (statement_names statement)) stated → r ≡ is_clean program
clean_last program found lists stated r declared states filled free gathered among known =
    let d = some_distinct (are_distinct (joined lists)) (joined lists) found gathered in
    let v : variables program ≡ found = ap joined (sym declared) ∙ d.1 in
    sym (clean_by program true true false true r filled free
    (ap (λ names. is_among names program.name) v ∙ among)
    (ap (λ xs. are_distinct (joined xs)) (sym declared) ∙ d.0)
    (ap (λ names. list_all (λ statement. list_all (is_among names) (statement_names statement)) program.statements) v
    ∙ ap (list_all (λ statement. list_all (is_among found) (statement_names statement))) (sym states) ∙ sym known))

abbrev AllFree : List (List (List ℕ)) → Bool
AllFree lists = list_all (λ names. list_all is_free_name names) lists

pub free_then : (program : Program) (name : List ℕ) (lists : List (List (List ℕ))) (r : Bool) → name ≡ program.name → lists ≡ program.declared → true ≡ is_free_name name
    → r ≡ AllFree lists → r ≡ Free program
free_then program name lists r named declared free h =
    h ∙ ap AllFree declared ∙ ap (λ b. b && AllFree program.declared) (free ∙ ap is_free_name named)

pub free_else : (program : Program) (name : List ℕ) (r : Bool) → name ≡ program.name → false ≡ is_free_name name → r ≡ is_free_name name → r ≡ Free program
free_else program name r named free h =
    h ∙ sym free ∙ ap (λ b. b && AllFree program.declared) (free ∙ ap is_free_name named)
