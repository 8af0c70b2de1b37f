-- What the rows of files have at tokens: what the first occurrence there denotes.
use Rattle.std.proofs.Common.{◌≡◌, ℕ, zero, suc, ◌+◌, ◌<◌, ◌≤◌, Bool, true, false, cond, List, [], ◌∷◌, ◌++◌, drop, get_or, length, map, replicate, set, Option, Some, None, ◌⊎◌, inl, inr, refl, sym, subst, ap, ap₂, ◌∙◌, arith}
use Rattle.std.specs.Prelude.{◌&&◌, ◌==◌, nat_lt, slice_get}
use Rattle.std.specs.List.{enumerate_from, find, flat_map, range_with_len, AllByRecursion as Each}
use Rattle.std.specs.Option.{is_none, option_and_then, option_map, option_map_or, option_or, unwrap_or}
use Rattle.std.proofs.lemmas.Bool.{cases_eq, cases_lt}
use Rattle.std.proofs.lemmas.Bool.Decides.{nat_tests}
use Rattle.std.proofs.lemmas.List.{get_or-replicate, get_or-set_other, get_or-set_same, length-map, length-replicate, length-set, map-append}
use Rattle.std.proofs.lemmas.Option.{slice_get-get_or, slice_get-map, slice_get_past, slice_get_within}
use Rattle.ftn_base.specs.declared.entity.EntityId.{EntityId}
use Rattle.ftn_tree.specs.declared.mention.Mention.{Mention}
use Rattle.ftn_tree.specs.declared.unit.FileTree.{FileTree}
use Rattle.ftn_tree.specs.declared.unit.Statement.{Statement}
use Rattle.ftn_tree.specs.Bindings.{Denoting, denoting, denotings, denotings_in, meaning_number}
use Rattle.ftn_tree.specs.Extents.{form_in}
use Rattle.ftn_tree.specs.KeyKinds.{is_at, key_at, key_of}
use Rattle.ftn_tree.specs.Meanings.{Meaning, nothing, one, several, unknown, or_else}
use Rattle.ftn_tree.specs.Mentions.{mentions_of}
use Rattle.ftn_tree.specs.NameFaults.{name_fault}
use Rattle.ftn_tree.specs.Projects.{AreTrees}
use Rattle.ftn_tree.specs.Sayings.{mentions_at}
use Rattle.ftn_tree.specs.Roles.{name_bytes, value_of}
use Rattle.ftn_tree.specs.Scopes.{name_at}
use Rattle.decl_table.specs.steps.Occurrences.{IsNameAt}
use Rattle.decl_table.specs.steps.Spelled.{IsSpelled}
use Rattle.decl_table.proofs.MentionNames.{mentions_named}
use Rattle.decl_table.proofs.Order.{Each as All}
use Rattle.const_expr.specs.Namings.{entity_in}
use Rattle.const_value.specs.steps.Gathered.{entity_index}
use Rattle.const_value.specs.steps.Projects.{row_in}
use Rattle.const_value.specs.steps.Tables.{mentions_in, put, put_all, put_at, row_of, rows_of}
use Rattle.const_value.proofs.DataNumbers.{get_front}
use Rattle.const_value.proofs.OneMeaning.{IsOne, each_flat, each_one}

-- ---- one row

or_none : (o : Option ℕ) → option_or o None ≡ o
or_none None = refl
or_none (Some n) = refl

eq_true : (n k : ℕ) → n ≡ k → (n == k) ≡ true
eq_true n k same = grind (arith, nat_tests)

eq_false : (n k : ℕ) → (n ≡ k → ⊥) → (n == k) ≡ false
eq_false n k differ = grind (arith, nat_tests)

lt_true : (n k : ℕ) → n < k → nat_lt n k ≡ true
lt_true n k less = grind (arith, nat_tests)

put_long : (row : List (Option ℕ)) (token entity : ℕ) → length (put row token entity) ≡ length row
put_long row token entity = by (nat_lt token (length row) && is_none (get_or row token None)) where
  by : (b : Bool) → length (cond b (set row token (Some entity)) row) ≡ length row
  by true = length-set row token (Some entity)
  by false = refl

put_get : (row : List (Option ℕ)) (token entity t : ℕ) → t < length row → get_or (put row token entity) t None ≡ option_or (get_or row t None) (cond (token == t) (Some entity) None)
put_get row token entity t less = by (cases_eq token t) where
  by : (token ≡ t) ⊎ (token ≡ t → ⊥) → get_or (put row token entity) t None ≡ option_or (get_or row t None) (cond (token == t) (Some entity) None)
  by (inl same) =
      ap (λ n. get_or (put row n entity) t None) same
      ∙ ap (λ b. get_or (cond (b && is_none (get_or row t None)) (set row t (Some entity)) row) t None) (lt_true t (length row) less)
      ∙ here (get_or row t None) refl
      ∙ sym (ap (λ b. option_or (get_or row t None) (cond b (Some entity) None)) (eq_true token t same))
    where
      here : (o : Option ℕ) → get_or row t None ≡ o → get_or (cond (true && is_none (get_or row t None)) (set row t (Some entity)) row) t None ≡ option_or (get_or row t None) (Some entity)
      here None free =
          ap (λ (o : Option ℕ). get_or (cond (true && is_none o) (set row t (Some entity)) row) t None) free
          ∙ get_or-set_same row t (Some entity) None less ∙ sym (ap (λ (o : Option ℕ). option_or o (Some entity)) free)
      here (Some n) taken =
          ap (λ (o : Option ℕ). get_or (cond (true && is_none o) (set row t (Some entity)) row) t None) taken
          ∙ taken ∙ sym (ap (λ (o : Option ℕ). option_or o (Some entity)) taken)
  by (inr differ) =
      other (nat_lt token (length row) && is_none (get_or row token None))
      ∙ sym (ap (λ b. option_or (get_or row t None) (cond b (Some entity) None)) (eq_false token t differ) ∙ or_none (get_or row t None))
    where
      other : (b : Bool) → get_or (cond b (set row token (Some entity)) row) t None ≡ get_or row t None
      other true = get_or-set_other row token t (Some entity) None (λ same. differ (sym same))
      other false = refl

abbrev pub index_of : List FileTree → Denoting → ℕ
index_of files d = (meaning_number files d.meaning).0

abbrev pub token_of : Denoting → ℕ
token_of d = d.at.token

abbrev pub is_token : ℕ → Denoting → Bool
is_token t d = d.at.token == t

module _ (files : List FileTree) (denotes : List EntityId) where
  -- the occurrences from that one on are these
  abbrev pub Stand : ℕ → List Denoting → Type 0
  Stand at ds = (k : ℕ) (d : Denoting) → slice_get ds k ≡ Some d → slice_get denotes (at + k) ≡ Some (meaning_number files d.meaning)

  first_or : (o rest : Option ℕ) (b : Bool) (n : ℕ) → option_or (option_or o (cond b (Some n) None)) rest ≡ option_or o (cond b (Some n) rest)
  first_or None rest true n = refl
  first_or None rest false n = refl
  first_or (Some k) rest b n = refl

  if_found : (b : Bool) (d : Denoting) (found : Option Denoting) → option_map (index_of files) (cond b (Some d) found) ≡ cond b (Some (index_of files d)) (option_map (index_of files) found)
  if_found true d found = refl
  if_found false d found = refl

  row_get : (at : ℕ) (row : List (Option ℕ)) (ms : List Mention) (ds : List Denoting) → map (λ (m : Mention). m.token) ms ≡ map token_of ds → Stand at ds → (t : ℕ) → t < length row
      → get_or (put_all at row ms denotes) t None ≡ option_or (get_or row t None) (option_map (index_of files) (find (is_token t) ds))
  row_get at row [] [] same stand t less = sym (or_none (get_or row t None))
  row_get at row [] (d ∷ ds) same stand t less = absurd (cc same)
  row_get at row (m ∷ ms) [] same stand t less = absurd (cc same)
  row_get at row (m ∷ ms) (d ∷ ds) same stand t less =
      let first : m.token ≡ d.at.token = cc same in
      let rest : map (λ (m : Mention). m.token) ms ≡ map token_of ds = cc same in
      let here : slice_get denotes at ≡ Some (meaning_number files d.meaning) = ap (slice_get denotes) (plus at) ∙ stand 0 d refl in
      let made : put_at row m denotes at ≡ put row m.token (index_of files d) = ap (λ o. option_map_or (λ (entity : EntityId). put row m.token entity.0) o row) here in
      row_get (at + 1) (put_at row m denotes at) ms ds rest (λ k x is. ap (slice_get denotes) (next at k) ∙ stand (suc k) x is) t (subst (λ r. t < length r) (sym made) (subst (λ n. t < n) (sym (put_long row m.token (index_of files d))) less))
      ∙ ap (λ o. option_or o (option_map (index_of files) (find (is_token t) ds))) (ap (λ r. get_or r t None) made ∙ put_get row m.token (index_of files d) t less)
      ∙ first_or (get_or row t None) (option_map (index_of files) (find (is_token t) ds)) (m.token == t) (index_of files d)
      ∙ ap (λ b. option_or (get_or row t None) (cond b (Some (index_of files d)) (option_map (index_of files) (find (is_token t) ds)))) (ap (λ n. n == t) first)
      ∙ ap (option_or (get_or row t None)) (sym (if_found (d.at.token == t) d (find (is_token t) ds)))
    where
      plus : (at : ℕ) → at ≡ at + 0
      plus at = omega arith

      next : (at k : ℕ) → at + 1 + k ≡ at + suc k
      next at k = omega arith

  row_long : (at : ℕ) (row : List (Option ℕ)) (ms : List Mention) → length (put_all at row ms denotes) ≡ length row
  row_long at row [] = refl
  row_long at row (m ∷ ms) = row_long (at + 1) (put_at row m denotes at) ms ∙ by (slice_get denotes at) where
    by : (o : Option EntityId) → length (option_map_or (λ (entity : EntityId). put row m.token entity.0) o row) ≡ length row
    by None = refl
    by (Some entity) = put_long row m.token entity.0

-- ---- the occurrences of one file

abbrev pub mention_token : Mention → ℕ
mention_token m = m.token

map_denoting : (files : List FileTree) (file statement : ℕ) (ms : List Mention) → map mention_token ms ≡ map token_of (map (denoting files file statement) ms)
map_denoting files file statement [] = refl
map_denoting files file statement (m ∷ ms) = ap (λ xs. m.token ∷ xs) (map_denoting files file statement ms)

module _ (files : List FileTree) (file : ℕ) (tree : FileTree) (there : slice_get files file ≡ Some tree) where
  abbrev here : ℕ → List Denoting
  here statement = map (denoting files file statement) (mentions_at files file statement)

  at_statement : (statement : ℕ) (s : Statement) → slice_get tree.statements statement ≡ Some s → mentions_at files file statement ≡ mentions_of s.form
  at_statement statement s is =
      ap (λ o. option_map_or mentions_of (option_and_then (form_in statement) o) []) there ∙ ap (λ o. option_map_or mentions_of (option_map (λ (s : Statement). s.form) o) []) is

  from_statement : (at : ℕ) (ss : List Statement) → ((k : ℕ) (s : Statement) → slice_get ss k ≡ Some s → slice_get tree.statements (at + k) ≡ Some s)
      → map mention_token (flat_map (λ (s : Statement). mentions_of s.form) ss) ≡ map token_of (flat_map here (range_with_len at (length ss)))
  from_statement at [] stand = refl
  from_statement at (s ∷ ss) stand =
      map-append mention_token (mentions_of s.form) (flat_map (λ (s : Statement). mentions_of s.form) ss)
      ∙ ap₂ (λ (xs ys : List ℕ). xs ++ ys)
      (ap (map mention_token) (sym (at_statement at s (ap (slice_get tree.statements) (plus at) ∙ stand 0 s refl))) ∙ map_denoting files file at (mentions_at files file at))
      (from_statement (at + 1) ss (λ k x is. ap (slice_get tree.statements) (next at k) ∙ stand (suc k) x is))
      ∙ sym (map-append token_of (here at) (flat_map here (range_with_len (at + 1) (length ss))))
    where
      plus : (at : ℕ) → at ≡ at + 0
      plus at = omega arith

      next : (at k : ℕ) → at + 1 + k ≡ at + suc k
      next at k = omega arith

  pub same_tokens : map mention_token (mentions_in tree) ≡ map token_of (denotings_in files file tree)
  same_tokens = from_statement 0 tree.statements (λ k s is. ap (slice_get tree.statements) (zero_plus k) ∙ is) where
    zero_plus : (k : ℕ) → 0 + k ≡ k
    zero_plus k = omega arith

  pub same_count : length (mentions_in tree) ≡ length (denotings_in files file tree)
  same_count = sym (length-map (mentions_in tree) mention_token) ∙ ap length same_tokens ∙ length-map (denotings_in files file tree) token_of

  -- names stand at tokens of the file
  in_range : (t : ℕ) → IsSpelled (name_at files file t) → t < length tree.tokens.items
  in_range t spelled = by (cases_lt t (length tree.tokens.items)) where
    by : (t < length tree.tokens.items) ⊎ (length tree.tokens.items ≤ t) → t < length tree.tokens.items
    by (inl less) = less
    by (inr more) =
        let none : name_at files file t ≡ [] =
        ap (λ o. option_map_or (λ (tree : FileTree). name_bytes tree.tokens t) o []) there ∙ ap value_of (slice_get_past tree.tokens.items t more) in
        absurd (let no : IsSpelled [] = subst IsSpelled none spelled in never no)
      where
        never : IsSpelled [] → ⊥
        never is = cc is

  tokens_here : (ms : List Mention) → All (IsNameAt files file) ms → (statement : ℕ) → Each (λ (d : Denoting). d.at.token < length tree.tokens.items) (map (denoting files file statement) ms)
  tokens_here [] all statement = tt
  tokens_here (m ∷ ms) all statement = (in_range m.token all.0, tokens_here ms all.1 statement)

  pub tokens_less : AreTrees files → Each (λ (d : Denoting). d.at.token < length tree.tokens.items) (denotings_in files file tree)
  tokens_less are =
      each_flat (λ (d : Denoting). d.at.token < length tree.tokens.items) here (λ statement. tokens_here (mentions_at files file statement) (mentions_named files are file statement) statement)
      (range_with_len 0 (length tree.statements))

-- all are of that file
all_of : (files : List FileTree) (file statement : ℕ) (ms : List Mention) → Each (λ (d : Denoting). d.at.file ≡ file) (map (denoting files file statement) ms)
all_of files file statement [] = tt
all_of files file statement (m ∷ ms) = (refl, all_of files file statement ms)

all_in : (files : List FileTree) (file : ℕ) (tree : FileTree) → Each (λ (d : Denoting). d.at.file ≡ file) (denotings_in files file tree)
all_in files file tree =
    each_flat (λ (d : Denoting). d.at.file ≡ file) (λ statement. map (denoting files file statement) (mentions_at files file statement))
    (λ statement. all_of files file statement (mentions_at files file statement)) (range_with_len 0 (length tree.statements))

-- ---- the first occurrence at a token

find_append : (p : Denoting → Bool) (xs ys : List Denoting) → find p (xs ++ ys) ≡ or_else (find p xs) (find p ys)
find_append p [] ys = refl
find_append p (x ∷ xs) ys = by (p x) (find_append p xs ys) where
  by : (b : Bool) → find p (xs ++ ys) ≡ or_else (find p xs) (find p ys) → cond b (Some x) (find p (xs ++ ys)) ≡ or_else (cond b (Some x) (find p xs)) (find p ys)
  by true rest = refl
  by false rest = rest

find_same : (file t : ℕ) (ds : List Denoting) → Each (λ (d : Denoting). d.at.file ≡ file) ds → find (is_at file t) ds ≡ find (is_token t) ds
find_same file t [] all = refl
find_same file t (d ∷ ds) all =
    ap₂ (λ b rest. cond (b && (d.at.token == t)) (Some d) rest) (eq_true d.at.file file all.0) (find_same file t ds all.1)

find_other : (file other t : ℕ) (ds : List Denoting) → (file ≡ other → ⊥) → Each (λ (d : Denoting). d.at.file ≡ file) ds → find (is_at other t) ds ≡ None
find_other file other t [] differ all = refl
find_other file other t (d ∷ ds) differ all =
    ap (λ b. cond (b && (d.at.token == t)) (Some d) (find (is_at other t) ds)) (eq_false d.at.file other (λ same. differ (sym all.0 ∙ same))) ∙ find_other file other t ds differ all.1

find_past : (count t : ℕ) (ds : List Denoting) → count ≤ t → Each (λ (d : Denoting). d.at.token < count) ds → find (is_token t) ds ≡ None
find_past count t [] past all = refl
find_past count t (d ∷ ds) past all =
    let less : d.at.token < count = all.0 in
    ap (λ b. cond b (Some d) (find (is_token t) ds)) (eq_false d.at.token t (λ same. omega (arith, less, past, same))) ∙ find_past count t ds past all.1

find_each : (P : Denoting → Type 0) (p : Denoting → Bool) (ds : List Denoting) (d : Denoting) → Each P ds → find p ds ≡ Some d → P d
find_each P p [] d all is = absurd (cc is)
find_each P p (x ∷ ds) d all is = by (p x) is (find_each P p ds d all.1) where
  by : (b : Bool) → cond b (Some x) (find p ds) ≡ Some d → (find p ds ≡ Some d → P d) → P d
  by true is rest = let same : x ≡ d = cc is in subst P same all.0
  by false is rest = rest is

-- ---- all files

module _ (files : List FileTree) where
  abbrev numbered : ℕ × FileTree → List Denoting
  numbered pair = denotings_in files pair.0 pair.1

  abbrev from : ℕ → List FileTree → List Denoting
  from at trees = flat_map numbered (enumerate_from at trees)

  abbrev number_of : Denoting → EntityId
  number_of d = meaning_number files d.meaning

  drop_front : {X : Type 0} (xs ys : List X) (n : ℕ) → n ≡ length xs → drop n (xs ++ ys) ≡ ys
  drop_front {X} xs ys n same = ap (λ k. drop k (xs ++ ys)) same ∙ front xs where
    front : (xs : List X) → drop (length xs) (xs ++ ys) ≡ ys
    front [] = refl
    front (x ∷ xs) = front xs

  row_at : (at : ℕ) (trees : List FileTree) → ((k : ℕ) (x : FileTree) → slice_get trees k ≡ Some x → slice_get files (at + k) ≡ Some x) → (i : ℕ) (tree : FileTree) → slice_get trees i ≡ Some tree
      → (more : List EntityId) × (slice_get (rows_of trees (map number_of (from at trees))) i ≡ Some (row_of tree (map number_of (denotings_in files (at + i) tree) ++ more)))
  row_at at [] stand i tree is = absurd (cc is)
  row_at at (x ∷ trees) stand zero tree is =
      let same : x ≡ tree = cc is in (
        map number_of (from (at + 1) trees),
        ap Some (ap₂ row_of same (map-append number_of (denotings_in files at x) (from (at + 1) trees) ∙ ap₂ (λ n t. map number_of (denotings_in files n t) ++ map number_of (from (at + 1) trees)) (plus at) same)),
      )
    where
      plus : (at : ℕ) → at ≡ at + 0
      plus at = omega arith
  row_at at (x ∷ trees) stand (suc i) tree is =
      let (more, rest) = row_at (at + 1) trees (λ k y there. ap (slice_get files) (next at k) ∙ stand (suc k) y there) i tree is in (
        more,
        ap (λ ds. slice_get (rows_of trees ds) i)
            (ap (drop (length (mentions_in x))) (map-append number_of (denotings_in files at x) (from (at + 1) trees))
            ∙ drop_front (map number_of (denotings_in files at x)) (map number_of (from (at + 1) trees)) (length (mentions_in x))
            (same_count files at x (ap (slice_get files) (plus at) ∙ stand 0 x refl) ∙ sym (length-map (denotings_in files at x) number_of)))
            ∙ rest ∙ ap (λ n. Some (row_of tree (map number_of (denotings_in files n tree) ++ more))) (next at i),
      )
    where
      plus : (at : ℕ) → at ≡ at + 0
      plus at = omega arith

      next : (at k : ℕ) → at + 1 + k ≡ at + suc k
      next at k = omega arith

  rows_long : (trees : List FileTree) (denotes : List EntityId) → length (rows_of trees denotes) ≡ length trees
  rows_long [] denotes = refl
  rows_long (x ∷ trees) denotes = ap suc (rows_long trees (drop (length (mentions_in x)) denotes))

  find_before : (file t at : ℕ) (trees : List FileTree) → file < at → find (is_at file t) (from at trees) ≡ None
  find_before file t at [] less = refl
  find_before file t at (x ∷ trees) less =
      find_append (is_at file t) (denotings_in files at x) (from (at + 1) trees)
      ∙ ap₂ (λ (a b : Option Denoting). or_else a b) (find_other at file t (denotings_in files at x) (λ same. omega (arith, less, same)) (all_in files at x)) (find_before file t (at + 1) trees (omega (arith, less)))

  or_nothing : (o : Option Denoting) → or_else o None ≡ o
  or_nothing None = refl
  or_nothing (Some d) = refl

  find_in : (t at : ℕ) (trees : List FileTree) (i : ℕ) (tree : FileTree) → slice_get trees i ≡ Some tree → find (is_at (at + i) t) (from at trees) ≡ find (is_token t) (denotings_in files (at + i) tree)
  find_in t at [] i tree is = absurd (cc is)
  find_in t at (x ∷ trees) zero tree is =
      let same : x ≡ tree = cc is in
      let first : at + 0 ≡ at = omega arith in
      ap (λ n. find (is_at n t) (from at (x ∷ trees))) first
      ∙ find_append (is_at at t) (denotings_in files at x) (from (at + 1) trees)
      ∙ ap₂ (λ (a b : Option Denoting). or_else a b) (find_same at t (denotings_in files at x) (all_in files at x)) (find_before at t (at + 1) trees (omega arith))
      ∙ or_nothing (find (is_token t) (denotings_in files at x))
      ∙ ap₂ (λ n y. find (is_token t) (denotings_in files n y)) (sym first) same
  find_in t at (x ∷ trees) (suc i) tree is =
      let next : at + suc i ≡ at + 1 + i = omega arith in
      find_append (is_at (at + suc i) t) (denotings_in files at x) (from (at + 1) trees)
      ∙ ap (λ o. or_else o (find (is_at (at + suc i) t) (from (at + 1) trees))) (find_other at (at + suc i) t (denotings_in files at x) (λ same. omega (arith, same)) (all_in files at x))
      ∙ ap (λ n. find (is_at n t) (from (at + 1) trees)) next ∙ find_in t (at + 1) trees i tree is ∙ ap (λ n. find (is_token t) (denotings_in files n tree)) (sym next)

  find_none : (t at : ℕ) (trees : List FileTree) (i : ℕ) → slice_get trees i ≡ None → find (is_at (at + i) t) (from at trees) ≡ None
  find_none t at [] i is = refl
  find_none t at (x ∷ trees) zero is = absurd (cc is)
  find_none t at (x ∷ trees) (suc i) is =
      let next : at + suc i ≡ at + 1 + i = omega arith in
      find_append (is_at (at + suc i) t) (denotings_in files at x) (from (at + 1) trees)
      ∙ ap (λ o. or_else o (find (is_at (at + suc i) t) (from (at + 1) trees))) (find_other at (at + suc i) t (denotings_in files at x) (λ same. omega (arith, same)) (all_in files at x))
      ∙ ap (λ n. find (is_at n t) (from (at + 1) trees)) next ∙ find_none t (at + 1) trees i is

  one_number : (meaning : Meaning) → IsOne meaning → Some ((meaning_number files meaning).0) ≡ option_map (entity_index files) (key_of meaning)
  one_number nothing is = absurd is
  one_number (one key) is = refl
  one_number (several first second rest) is = absurd is
  one_number unknown is = absurd is

  module _ (are : AreTrees files) (no_fault : name_fault files ≡ None) (t : ℕ) where
    found_number : (file : ℕ) (o : Option Denoting) → find (is_at file t) (denotings files) ≡ o
        → option_map (index_of files) o ≡ option_map (entity_index files) (option_map_or (λ (d : Denoting). key_of d.meaning) o None)
    found_number file None is = refl
    found_number file (Some d) is = one_number d.meaning (find_each (λ (d : Denoting). IsOne d.meaning) (is_at file t) (denotings files) d (each_one files are no_fault) is)

    in_row : (tree : FileTree) (file : ℕ) (more : List EntityId) → slice_get files file ≡ Some tree
        → entity_in (row_of tree (map number_of (denotings_in files file tree) ++ more)) t ≡ option_map (index_of files) (find (is_token t) (denotings_in files file tree))
    in_row tree file more there = by (cases_lt t (length tree.tokens.items)) where
      long : length (row_of tree (map number_of (denotings_in files file tree) ++ more)) ≡ length tree.tokens.items
      long = row_long files (map number_of (denotings_in files file tree) ++ more) 0 (replicate (length tree.tokens.items) None) (mentions_in tree) ∙ length-replicate (length tree.tokens.items) None

      stand : Stand files (map number_of (denotings_in files file tree) ++ more) 0 (denotings_in files file tree)
      stand k d is =
          let less : k < length (denotings_in files file tree) = slice_get_within (denotings_in files file tree) k d is in
          let first : 0 + k ≡ k = omega arith in
          ap (slice_get (map number_of (denotings_in files file tree) ++ more)) first
          ∙ get_front (map number_of (denotings_in files file tree)) more k (subst (λ n. k < n) (sym (length-map (denotings_in files file tree) number_of)) less)
          ∙ slice_get-map number_of (denotings_in files file tree) k ∙ ap (option_map number_of) is

      by : (t < length tree.tokens.items) ⊎ (length tree.tokens.items ≤ t)
          → entity_in (row_of tree (map number_of (denotings_in files file tree) ++ more)) t ≡ option_map (index_of files) (find (is_token t) (denotings_in files file tree))
      by (inl less) =
          ap (option_and_then (λ (entity : Option ℕ). entity)) (slice_get-get_or (row_of tree (map number_of (denotings_in files file tree) ++ more)) t None (subst (λ n. t < n) (sym long) less))
          ∙ row_get files (map number_of (denotings_in files file tree) ++ more) 0 (replicate (length tree.tokens.items) None) (mentions_in tree) (denotings_in files file tree) (same_tokens files file tree there) stand t
          (subst (λ n. t < n) (sym (length-replicate (length tree.tokens.items) None)) less)
          ∙ ap (λ o. option_or o (option_map (index_of files) (find (is_token t) (denotings_in files file tree)))) (get_or-replicate (length tree.tokens.items) t None None less)
      by (inr past) =
          ap (option_and_then (λ (entity : Option ℕ). entity)) (slice_get_past (row_of tree (map number_of (denotings_in files file tree) ++ more)) t (subst (λ n. n ≤ t) (sym long) past))
          ∙ sym (ap (option_map (index_of files)) (find_past (length tree.tokens.items) t (denotings_in files file tree) past (tokens_less files file tree there are)))

    pub token_there : (rows : List (List (Option ℕ))) → rows ≡ rows_of files (map (λ (d : Denoting). meaning_number files d.meaning) (denotings files)) → (file : ℕ)
        → entity_in (row_in rows file) t ≡ option_map (entity_index files) (key_at files file t)
    token_there rows is file = ap (λ rs. entity_in (row_in rs file) t) is ∙ by (slice_get files file) refl where
      zero_plus : (k : ℕ) → 0 + k ≡ k
      zero_plus k = omega arith

      by : (o : Option FileTree) → slice_get files file ≡ o
          → entity_in (row_in (rows_of files (map number_of (denotings files))) file) t ≡ option_map (entity_index files) (key_at files file t)
      by None past =
          ap (λ o. entity_in (unwrap_or o []) t) (slice_get_past (rows_of files (map number_of (denotings files))) file (subst (λ n. n ≤ file) (sym (rows_long files (map number_of (denotings files)))) (past_end files file past)))
          ∙ sym (ap (λ o. option_map (entity_index files) (option_map_or (λ (d : Denoting). key_of d.meaning) o None))
          (ap (λ n. find (is_at n t) (denotings files)) (sym (zero_plus file)) ∙ find_none t 0 files file past))
        where
          past_end : (xs : List FileTree) (n : ℕ) → slice_get xs n ≡ None → length xs ≤ n
          past_end [] n is = omega arith
          past_end (x ∷ xs) zero is = absurd (cc is)
          past_end (x ∷ xs) (suc n) is = let rest : length xs ≤ n = past_end xs n is in omega (arith, rest)
      by (Some tree) there =
          let (more, row) = row_at 0 files (λ k x at. ap (slice_get files) (zero_plus k) ∙ at) file tree there in
          ap (λ o. entity_in (unwrap_or o []) t) (row ∙ ap (λ n. Some (row_of tree (map number_of (denotings_in files n tree) ++ more))) (zero_plus file))
          ∙ in_row tree file more there
          ∙ ap (option_map (index_of files)) (sym (ap (λ n. find (is_at n t) (denotings files)) (sym (zero_plus file)) ∙ find_in t 0 files file tree there ∙ ap (λ n. find (is_token t) (denotings_in files n tree)) (zero_plus file)))
          ∙ found_number file (find (is_at file t) (denotings files)) refl
