-- A scoping unit's own names, in the order in which they begin, by the numbers of entities.
use Rattle.std.proofs.Common.{◌≡◌, ℕ, ◌+◌, ◌<◌, ◌≤◌, ◌==◌, Bool, true, false, cond, List, [], ◌∷◌, ◌++◌, filter, map, take, take_all, get_or, length, Option, Some, None, option_map, refl, sym, ap, ap₂, subst, ◌∙◌, arith}
use Rattle.std.specs.Prelude.{◌&&◌, ◌||◌, nat_lt, IfSome}
use Rattle.std.specs.List.{cons_option, flat_map, AllByRecursion as Each}
use Rattle.std.proofs.lemmas.List.{append-nil, map-append, take_more}
use Rattle.std.proofs.lemmas.List.Concat.{flat_map-append}
use Rattle.std.proofs.lemmas.Option.{slice_get-get_or}
use Rattle.std.specs.Option.{option_map_or, unwrap_or}
use Rattle.std.specs.Str.{bytes_eq}
use Rattle.std.proofs.lemmas.Bool.Decides.{nat_tests}
use Rattle.ftn_base.specs.Accessible.{entities_of, once}
use Rattle.ftn_base.specs.declared.entity.EntityId.{EntityId}
use Rattle.ftn_base.specs.Exports.{PairOf}
use Rattle.ftn_tree.specs.declared.mention.Mention.{Mention}
use Rattle.ftn_tree.specs.declared.table.EntityKind.{EntityKind}
use Rattle.ftn_tree.specs.declared.table.Extent.{Extent}
use Rattle.ftn_tree.specs.declared.unit.FileTree.{FileTree}
use Rattle.ftn_tree.specs.DeclaredEntities.{first_occurrence, has_result_at, is_referenced, kind_said, own_mentions, own_place}
use Rattle.ftn_tree.specs.Extents.{layer_at}
use Rattle.ftn_tree.specs.GlobalNames.{before, place}
use Rattle.ftn_tree.specs.Meanings as spec
use Rattle.ftn_tree.specs.Meanings.{Key, own, unit}
use Rattle.ftn_tree.specs.Projects.{AreTrees}
use Rattle.ftn_tree.specs.Sayings.{Saying, declares, said_at, same_name, saying, sayings}
use Rattle.ftn_tree.specs.Scopes.{all_statements, host_number, name_at, name_token}
use Rattle.decl_table.specs.declared.heard.Heard.{Heard}
use Rattle.decl_table.specs.declared.noted.Noted.{Noted}
use Rattle.decl_table.specs.steps.DeclaredNames.{place_heard}
use Rattle.decl_table.specs.steps.Following.{is_number}
use Rattle.decl_table.specs.steps.Heard.{heard_of, kind_heard}
use Rattle.decl_table.specs.steps.Noted.{noted_of}
use Rattle.decl_table.specs.steps.Ordering.{in_order, put}
use Rattle.decl_table.proofs.DraftedNames.{kind_is, place_is}
use Rattle.decl_table.proofs.Said.{host_test}
use Rattle.scope_bind.specs.declared.declared.Declared.{Declared}
use Rattle.scope_bind.specs.declared.declared.Declared.TheVariants as made
use Rattle.scope_bind.specs.declared.meaning.Meaning.{Meaning}
use Rattle.scope_bind.specs.declared.placed.Placed.{Placed}
use Rattle.scope_bind.specs.steps.Declared.{meant}
use Rattle.scope_bind.specs.steps.Exporting.{AreSpelled, is_for_letter, letter_at, letters_placed, own_at}
use Rattle.scope_bind.specs.steps.Globals.{IsNumber, unit_at}
use Rattle.scope_bind.specs.steps.Meaning.{all_numbered, is_nothing, numbered, or_meaning, used_meaning}
use Rattle.scope_bind.specs.steps.Numbering.{number}
use Rattle.scope_bind.specs.steps.Owned.{PlacedPair, ahead, mentioned, names_at, pair_of, place_of, placed_pair, tokens_of}
use Rattle.decl_table.specs.steps.Spelled.{Each as Every, IsSpelled}
use Rattle.scope_bind.proofs.Leading.{same_number}
use Rattle.scope_bind.proofs.Members.{each_append, each_at, each_filter, each_map, each_weaker}
use Rattle.scope_bind.proofs.Natural.{each_once}
use Rattle.scope_bind.proofs.NumberedMeanings.{accessible_numbered, or_numbered}
use Rattle.scope_bind.proofs.Spelling.{own_spelled, sayings_spelled}
use Rattle.scope_bind.proofs.Units.{unit_there}

-- ---- lists in order

module _ {X Y : Type 0} (f : X → Y) (lt : X → X → Bool) (told : Y → Y → Bool) (same : (a b : X) → told (f a) (f b) ≡ lt a b) where
  put_told : (x : X) (xs : List X) → map f (put lt x xs) ≡ put told (f x) (map f xs)
  put_told x [] = refl
  put_told x (y ∷ ys) =
      by (lt x y) (put_told x ys) ∙ sym (ap (λ b. cond b (f x ∷ f y ∷ map f ys) (f y ∷ put told (f x) (map f ys))) (same x y))
    where
      by : (b : Bool) → map f (put lt x ys) ≡ put told (f x) (map f ys) → map f (cond b (x ∷ y ∷ ys) (y ∷ put lt x ys)) ≡ cond b (f x ∷ f y ∷ map f ys) (f y ∷ put told (f x) (map f ys))
      by true e = refl
      by false e = ap (λ l. f y ∷ l) e

  order_told : (xs : List X) → map f (in_order lt xs) ≡ in_order told (map f xs)
  order_told [] = refl
  order_told (x ∷ xs) = put_told x (in_order lt xs) ∙ ap (put told (f x)) (order_told xs)

earlier : PlacedPair → PlacedPair → Bool
earlier one other = nat_lt one.at other.at

in_file : (file one other : ℕ) → (nat_lt file file || ((file == file) && nat_lt one other)) ≡ nat_lt one other
in_file file one other = grind (arith, nat_tests)

map_again : {A B C : Type 0} (f : B → C) (g : A → B) (xs : List A) → map f (map g xs) ≡ map (λ x. f (g x)) xs
map_again f g [] = refl
map_again f g (x ∷ xs) = ap (λ l. f (g x) ∷ l) (map_again f g xs)

flat_alike : {A B : Type 0} (f g : A → List B) → ((x : A) → f x ≡ g x) → (xs : List A) → flat_map f xs ≡ flat_map g xs
flat_alike f g same [] = refl
flat_alike f g same (x ∷ xs) = ap₂ (λ a b. a ++ b) (same x) (flat_alike f g same xs)

flat_again : {A B C : Type 0} (f : B → List C) (g : A → B) (xs : List A) → flat_map (λ x. f (g x)) xs ≡ flat_map f (map g xs)
flat_again f g [] = refl
flat_again f g (x ∷ xs) = ap (λ l. f (g x) ++ l) (flat_again f g xs)

module _ (files : List FileTree) (e : Extent) where
  put_placed : (pair : PairOf Key) (pairs : List (PairOf Key)) → map (place_of files e) (spec.put_in_place files e pair pairs) ≡ put earlier (place_of files e pair) (map (place_of files e) pairs)
  unfolding earlier
  put_placed pair [] = refl
  put_placed pair (first ∷ rest) =
      by (before (place e.file (spec.begins_at files e pair)) (place e.file (spec.begins_at files e first))) (put_placed pair rest)
      ∙ ap (λ b. cond b (place_of files e pair ∷ place_of files e first ∷ map (place_of files e) rest) (place_of files e first ∷ put earlier (place_of files e pair) (map (place_of files e) rest)))
      (in_file e.file (spec.begins_at files e pair) (spec.begins_at files e first))
    where
      by : (b : Bool) → map (place_of files e) (spec.put_in_place files e pair rest) ≡ put earlier (place_of files e pair) (map (place_of files e) rest)
          → map (place_of files e) (cond b (pair ∷ first ∷ rest) (first ∷ spec.put_in_place files e pair rest))
          ≡ cond b (place_of files e pair ∷ place_of files e first ∷ map (place_of files e) rest) (place_of files e first ∷ put earlier (place_of files e pair) (map (place_of files e) rest))
      by true more = refl
      by false more = ap (λ l. place_of files e first ∷ l) more

  placed_told : (pairs : List (PairOf Key)) → map (place_of files e) (spec.in_place files e pairs) ≡ in_order earlier (map (place_of files e) pairs)
  placed_told [] = refl
  placed_told (pair ∷ pairs) = put_placed pair (spec.in_place files e pairs) ∙ ap (put earlier (place_of files e pair)) (placed_told pairs)

  -- what is placed, put in order, is what is in place
  pub ordered_told : (placed : List Placed) (pairs : List (PairOf Key)) → map (placed_pair files e.file) placed ≡ map (place_of files e) pairs
      → map (pair_of files e.file) (in_order ahead placed) ≡ all_numbered files (spec.in_place files e pairs)
  unfolding earlier
  ordered_told placed pairs same =
      sym (map_again (λ (p : PlacedPair). p.pair) (placed_pair files e.file) (in_order ahead placed))
      ∙ ap (map (λ (p : PlacedPair). p.pair))
      (order_told (placed_pair files e.file) ahead earlier (λ a b. refl) placed ∙ ap (in_order earlier) same ∙ sym (placed_told pairs))
      ∙ map_again (λ (p : PlacedPair). p.pair) (place_of files e) (spec.in_place files e pairs)

-- ---- names by tokens

module _ (files : List FileTree) (e : Extent) where
  token_names : (what : Saying → Bool) (ms : List Mention)
      → names_at files e.file (tokens_of what (map (saying files e.file) ms)) ≡ map (λ (s : Saying). s.name) (filter what (map (saying files e.file) ms))
  token_names what [] = refl
  token_names what (m ∷ ms) = by (what (saying files e.file m)) (token_names what ms)
    where
      by : (b : Bool) → names_at files e.file (tokens_of what (map (saying files e.file) ms)) ≡ map (λ (s : Saying). s.name) (filter what (map (saying files e.file) ms))
          → names_at files e.file (map (λ (s : Saying). s.said.token) (cond b (saying files e.file m ∷ filter what (map (saying files e.file) ms)) (filter what (map (saying files e.file) ms))))
          ≡ map (λ (s : Saying). s.name) (cond b (saying files e.file m ∷ filter what (map (saying files e.file) ms)) (filter what (map (saying files e.file) ms)))
      by true more = ap (λ l. name_at files e.file m.token ∷ l) more
      by false more = more

  pub declaring_names : (tokens : List ℕ) → names_at files e.file tokens ≡ once bytes_eq (names_at files e.file (tokens_of declares (sayings files e))) → names_at files e.file tokens ≡ spec.names_said_in files e
  declaring_names tokens is = is ∙ ap (once bytes_eq) (token_names declares (flat_map (said_at files e) (all_statements e)))

  pub mentioned_names : (tokens : List ℕ) → names_at files e.file tokens ≡ once bytes_eq (names_at files e.file (mentioned (own_mentions files e))) → names_at files e.file tokens ≡ spec.names_in files e
  mentioned_names tokens is = is ∙ ap (once bytes_eq) (map_again (name_at files e.file) (λ (m : Mention). m.token) (own_mentions files e))

-- ---- an entity of its own

same_or : {A : Type 0} (f g : A → ℕ) → ((x : A) → f x ≡ g x) → (x : Option A) (d : ℕ) → option_map_or f x d ≡ option_map_or g x d
same_or f g same None d = refl
same_or f g same (Some x) d = same x

module _ (files : List FileTree) (e : Extent) (name : List ℕ) (has : Bool) (heard : Heard) (noted : Noted) (has_is : has ≡ has_result_at (layer_at files e.file e.opening))
    (heard_is : heard ≡ heard_of (filter (same_name name) (sayings files e))) (noted_is : noted ≡ noted_of files e.file name (own_mentions files e)) where
  abbrev said : List Saying
  said = filter (same_name name) (sayings files e)

  begins_by : option_map_or (λ kind. place_heard kind noted.first heard) (kind_heard has noted.referenced heard) noted.first ≡ spec.begins_at files e (name, own e name)
  begins_by =
      ap₂ (λ (h : Heard) (n : Noted). option_map_or (λ kind. place_heard kind n.first h) (kind_heard has n.referenced h) n.first) heard_is noted_is
      ∙ ap (λ b. option_map_or (λ kind. place_heard kind (first_occurrence files e name) (heard_of said)) (kind_heard b (is_referenced files e name) (heard_of said)) (first_occurrence files e name)) has_is
      ∙ ap (λ k. option_map_or (λ kind. place_heard kind (first_occurrence files e name) (heard_of said)) k (first_occurrence files e name))
      (sym (kind_is (has_result_at (layer_at files e.file e.opening)) (is_referenced files e name) said))
      ∙ same_or (λ kind. place_heard kind (first_occurrence files e name) (heard_of said)) (λ kind. own_place kind (first_occurrence files e name) said)
      (λ kind. place_is kind (first_occurrence files e name) said) (kind_said (has_result_at (layer_at files e.file e.opening)) (is_referenced files e name) said) (first_occurrence files e name)

  -- where a name begins, by what is heard of it
  pub begin_some : (kind : EntityKind) (found : Option EntityKind) (at : ℕ) → found ≡ kind_heard has noted.referenced heard → found ≡ Some kind → at ≡ place_heard kind noted.first heard
      → at ≡ spec.begins_at files e (name, own e name)
  begin_some kind found at is some placed =
      placed ∙ ap (λ o. option_map_or (λ k. place_heard k noted.first heard) o noted.first) (sym some ∙ is) ∙ begins_by

  pub begin_none : (found : Option EntityKind) → found ≡ kind_heard has noted.referenced heard → found ≡ None → noted.first ≡ spec.begins_at files e (name, own e name)
  begin_none found is none =
      ap (λ o. option_map_or (λ k. place_heard k noted.first heard) o noted.first) (sym none ∙ is) ∙ begins_by

abbrev placing : ℕ → List ℕ → EntityId → List PlacedPair
placing at name entity = record { at = at; pair = (name, entity) } ∷ []

module _ (files : List FileTree) (scope : ℕ) (token : ℕ) where
  abbrev e : Extent
  e = unit_at files scope

  abbrev name : List ℕ
  name = name_at files e.file token

  own_here : own_at files scope token made.Own ≡ (name, own e name) ∷ []
  own_here =
      ap (λ b. option_map_or (λ k. (name, k) ∷ []) (cond b (Some (own e name)) None) []) (ap₂ (λ a b. a && b) (same_number e.file) (same_number e.opening))

  pub name_told : (there : List ℕ) (at : ℕ) (entity : EntityId) → there ≡ name → at ≡ spec.begins_at files e (there, own e there) → entity ≡ number files (own e there)
      → map (placed_pair files e.file) (record { at = at; name = token; entity = entity } ∷ []) ≡ map (place_of files e) (own_at files scope token made.Own)
  name_told there at entity same at_is entity_is =
      ap₂ (λ (a : ℕ) (x : EntityId). placing a name x) (at_is ∙ ap (λ n. spec.begins_at files e (n, own e n)) same) (entity_is ∙ ap (λ n. number files (own e n)) same)
      ∙ ap (map (place_of files e)) (sym own_here)

  module _ (are : AreTrees files) (within : IsNumber files scope) (inner : ℕ) where
    abbrev inside : Extent
    inside = unit_at files inner

    inner_is : (b : Bool) → is_number scope (host_number files inside) ≡ b → own_at files scope token (made.Unit inner) ≡ option_map_or (λ k. (name, k) ∷ []) (cond b (Some (unit inside)) None) []
    inner_is b is =
        ap (λ t. option_map_or (λ k. (name, k) ∷ []) (cond t (Some (unit inside)) None) []) (sym (host_test files are scope e inside (unit_there files scope within)) ∙ is)

    pub inner_told : (host : Option ℕ) (test : Bool) (at : ℕ) (entity : EntityId) → host ≡ host_number files inside → test ≡ is_number scope host → test ≡ true
        → at ≡ unwrap_or (name_token files inside) 0 → entity ≡ number files (unit inside)
        → map (placed_pair files e.file) (record { at = at; name = token; entity = entity } ∷ []) ≡ map (place_of files e) (own_at files scope token (made.Unit inner))
    inner_told host test at entity host_is test_is passes at_is entity_is =
        ap₂ (λ (a : ℕ) (x : EntityId). placing a name x) at_is entity_is
        ∙ ap (map (place_of files e)) (sym (inner_is true (ap (is_number scope) (sym host_is) ∙ sym test_is ∙ passes)))

    pub none_told : (host : Option ℕ) (test : Bool) → host ≡ host_number files inside → test ≡ is_number scope host → test ≡ false → [] ≡ map (place_of files e) (own_at files scope token (made.Unit inner))
    none_told host test host_is test_is fails =
        ap (map (place_of files e)) (sym (inner_is false (ap (is_number scope) (sym host_is) ∙ sym test_is ∙ fails)))

-- ---- all of them

-- what a scoping unit declares, token by token
abbrev pub declared_token : List FileTree → ℕ → ℕ → List (PairOf Key)
declared_token files scope token =
    spec.pair_if_own files (unit_at files scope) (name_at files (unit_at files scope).file token) (spec.declared_in files (unit_at files scope) (name_at files (unit_at files scope).file token))

pub declared_told : (files : List FileTree) (scope : ℕ) (tokens : List ℕ) → names_at files (unit_at files scope).file tokens ≡ spec.names_said_in files (unit_at files scope)
    → flat_map (declared_token files scope) tokens
    ≡ flat_map (λ name. spec.pair_if_own files (unit_at files scope) name (spec.declared_in files (unit_at files scope) name)) (spec.names_said_in files (unit_at files scope))
declared_told files scope tokens is =
    flat_again (λ name. spec.pair_if_own files (unit_at files scope) name (spec.declared_in files (unit_at files scope) name)) (name_at files (unit_at files scope).file) tokens
    ∙ ap (flat_map (λ name. spec.pair_if_own files (unit_at files scope) name (spec.declared_in files (unit_at files scope) name))) is

-- what a letter types, token by token
module _ (files : List FileTree) (accessible : List (PairOf Key)) (scope : ℕ) where
  abbrev here : Extent
  here = unit_at files scope

  letter_is : (token : ℕ) → letter_at files accessible scope token ≡ spec.letter_pairs files accessible here spec.nothing (name_at files here.file token)
  letter_is token =
      by (spec.is_nothing (spec.or_meaning (spec.declared_in files here (name_at files here.file token)) (spec.or_meaning (spec.used_meaning (spec.keys_of (name_at files here.file token) accessible)) spec.nothing)))
      (spec.stands_plain files here (name_at files here.file token))
    where
      by : (a b : Bool) → cond (a && b) (spec.pair_if_own files here (name_at files here.file token) (spec.one (own here (name_at files here.file token)))) []
          ≡ cond a (spec.pair_if_own files here (name_at files here.file token) (cond b (spec.one (own here (name_at files here.file token))) spec.nothing)) []
      by true true = refl
      by true false = refl
      by false b = refl

  pub letters_told : (tokens : List ℕ) → names_at files here.file tokens ≡ spec.names_in files here
      → flat_map (letter_at files accessible scope) tokens ≡ flat_map (spec.letter_pairs files accessible here spec.nothing) (spec.names_in files here)
  letters_told tokens is =
      flat_alike (letter_at files accessible scope) (λ token. spec.letter_pairs files accessible here spec.nothing (name_at files here.file token)) letter_is tokens
      ∙ flat_again (spec.letter_pairs files accessible here spec.nothing) (name_at files here.file) tokens
      ∙ ap (flat_map (spec.letter_pairs files accessible here spec.nothing)) is

-- ---- one token more

token_more : {B : Type 0} (f : ℕ → List B) (tokens : List ℕ) (i token : ℕ) → i < length tokens → token ≡ get_or tokens i token → flat_map f (take (i + 1) tokens) ≡ flat_map f (take i tokens) ++ f token
token_more f tokens i token lt at =
    ap (flat_map f) (take_more tokens i token lt ∙ ap (λ (t : ℕ). take i tokens ++ t ∷ []) (sym at))
    ∙ flat_map-append f (take i tokens) (token ∷ []) ∙ ap (λ l. flat_map f (take i tokens) ++ l) (append-nil (f token))

module _ (files : List FileTree) (scope : ℕ) (f : ℕ → List (PairOf Key)) (tokens : List ℕ) (i token : ℕ) (lt : i < length tokens) (at : token ≡ get_or tokens i token) (old new : List Placed) where
  pub placed_more : (one : Option Placed) → map (placed_pair files (unit_at files scope).file) old ≡ map (place_of files (unit_at files scope)) (flat_map f (take i tokens))
      → map (placed_pair files (unit_at files scope).file) (cons_option one []) ≡ map (place_of files (unit_at files scope)) (f token) → new ≡ old ++ cons_option one []
      → map (placed_pair files (unit_at files scope).file) new ≡ map (place_of files (unit_at files scope)) (flat_map f (take (i + 1) tokens))
  placed_more one so_far is put_last =
      ap (map (placed_pair files (unit_at files scope).file)) put_last ∙ map-append (placed_pair files (unit_at files scope).file) old (cons_option one [])
      ∙ ap₂ ◌++◌ so_far is
      ∙ sym (map-append (place_of files (unit_at files scope)) (flat_map f (take i tokens)) (f token))
      ∙ ap (map (place_of files (unit_at files scope))) (sym (token_more f tokens i token lt at))

-- ---- spelled names

abbrev pub Spelled : List FileTree → ℕ → List Placed → Type 0
Spelled files file placed = Each (λ (p : Placed). IsSpelled (name_at files file p.name)) placed

each_unmap : {A B : Type 0} (Q : B → Type 0) (f : A → B) (xs : List A) → Each Q (map f xs) → Each (λ x. Q (f x)) xs
each_unmap Q f [] all = tt
each_unmap Q f (x ∷ xs) all = (all.0, each_unmap Q f xs all.1)

pub to_every : {A : Type 0} (P : A → Type 0) (xs : List A) → Each P xs → Every P xs
to_every P [] all = tt
to_every P (x ∷ xs) all = (all.0, to_every P xs all.1)

module _ (files : List FileTree) (file : ℕ) where
  put_spelled : (p : Placed) (ps : List Placed) → IsSpelled (name_at files file p.name) → Spelled files file ps → Spelled files file (put ahead p ps)
  put_spelled p [] one all = (one, tt)
  put_spelled p (q ∷ qs) one all = by (ahead p q) (put_spelled p qs one all.1)
    where
      by : (b : Bool) → Spelled files file (put ahead p qs) → Spelled files file (cond b (p ∷ q ∷ qs) (q ∷ put ahead p qs))
      by true more = (one, all)
      by false more = (all.0, more)

  order_spelled : (ps : List Placed) → Spelled files file ps → Spelled files file (in_order ahead ps)
  order_spelled [] all = tt
  order_spelled (p ∷ ps) all = put_spelled p (in_order ahead ps) all.0 (order_spelled ps all.1)

  pub in_order_spelled : (ps made : List Placed) → made ≡ in_order ahead ps → Spelled files file ps → AreSpelled files file made
  in_order_spelled ps made is all = to_every (λ (p : Placed). IsSpelled (name_at files file p.name)) made (subst (Spelled files file) (sym is) (order_spelled ps all))

-- tokens whose names are among spelled ones are so too
pub tokens_spelled : (files : List FileTree) (file : ℕ) (all tokens : List ℕ) → names_at files file tokens ≡ once bytes_eq (names_at files file all) → Each (λ (t : ℕ). IsSpelled (name_at files file t)) all
    → Each (λ (t : ℕ). IsSpelled (name_at files file t)) tokens
tokens_spelled files file all tokens is spelled =
    each_unmap IsSpelled (name_at files file) tokens (subst (Each IsSpelled) (sym is) (each_once IsSpelled bytes_eq (names_at files file all) (each_map IsSpelled (name_at files file) all spelled)))

pub spelled_more : (files : List FileTree) (file token : ℕ) (one : Option Placed) (old new : List Placed) → IfSome one (λ (p : Placed). p.name ≡ token) → IsSpelled (name_at files file token)
    → new ≡ old ++ cons_option one [] → Spelled files file old → Spelled files file new
spelled_more files file token one old new named spelled pushed all =
    subst (Spelled files file) (sym pushed) (each_append (λ (p : Placed). IsSpelled (name_at files file p.name)) old (cons_option one []) all (by one named))
  where
    by : (o : Option Placed) → IfSome o (λ (p : Placed). p.name ≡ token) → Spelled files file (cons_option o [])
    by None named = tt
    by (Some p) named = (subst (λ t. IsSpelled (name_at files file t)) (sym named) spelled, tt)

-- a token of a list whose names are spelled
pub token_spelled : (files : List FileTree) (file : ℕ) (tokens : List ℕ) (i token : ℕ) → i < length tokens → token ≡ get_or tokens i token → Each (λ (t : ℕ). IsSpelled (name_at files file t)) tokens
    → IsSpelled (name_at files file token)
token_spelled files file tokens i token lt at all =
    each_at (λ (t : ℕ). IsSpelled (name_at files file t)) tokens i token all (slice_get-get_or tokens i token lt ∙ ap Some (sym at))

-- ---- what is said declares names that are spelled

pub declaring_spelled : (files : List FileTree) → AreTrees files → (e : Extent) → Each (λ (t : ℕ). IsSpelled (name_at files e.file t)) (tokens_of declares (sayings files e))
declaring_spelled files are e =
    each_map (λ (t : ℕ). IsSpelled (name_at files e.file t)) (λ (s : Saying). s.said.token) (filter declares (sayings files e))
    (each_filter (λ (s : Saying). IsSpelled (name_at files e.file s.said.token)) declares (sayings files e)
    (each_weaker (λ (s : Saying). IsSpelled s.name × IsSpelled (name_at files e.file s.said.token)) (λ (s : Saying). IsSpelled (name_at files e.file s.said.token)) (λ s both. both.1)
    (sayings files e) (sayings_spelled files are e)))

pub mentioned_spelled : (files : List FileTree) → AreTrees files → (e : Extent) → Each (λ (t : ℕ). IsSpelled (name_at files e.file t)) (mentioned (own_mentions files e))
mentioned_spelled files are e = each_map (λ (t : ℕ). IsSpelled (name_at files e.file t)) (λ (m : Mention). m.token) (own_mentions files e) (own_spelled files are e)

-- ---- a name that a letter types

is_nothing_so : (files : List FileTree) (m : spec.Meaning) → is_nothing (numbered files m) ≡ spec.is_nothing m
is_nothing_so files spec.nothing = refl
is_nothing_so files (spec.one key) = refl
is_nothing_so files (spec.several first second rest) = refl
is_nothing_so files spec.unknown = refl

or_nothing : (m : spec.Meaning) → m ≡ spec.or_meaning m spec.nothing
or_nothing spec.nothing = refl
or_nothing (spec.one key) = refl
or_nothing (spec.several first second rest) = refl
or_nothing spec.unknown = refl

pub for_letter : (files : List FileTree) (accessible : List (PairOf Key)) (e : Extent) (name : List ℕ) (declared used both : Meaning) (free plain : Bool) → declared ≡ numbered files (spec.declared_in files e name)
    → used ≡ used_meaning (entities_of (all_numbered files accessible) name) → both ≡ or_meaning declared used → free ≡ is_nothing both → plain ≡ spec.stands_plain files e name
    → (free && plain) ≡ is_for_letter files accessible e name
for_letter files accessible e name declared used both free plain declared_is used_is both_is free_is plain_is =
    ap₂ (λ a b. a && b)
    (free_is ∙ ap is_nothing (both_is ∙ ap₂ or_meaning declared_is (used_is ∙ accessible_numbered files accessible name)
    ∙ or_numbered files (spec.declared_in files e name) (spec.used_meaning (spec.keys_of name accessible)))
    ∙ is_nothing_so files (spec.or_meaning (spec.declared_in files e name) (spec.used_meaning (spec.keys_of name accessible)))
    ∙ ap (λ m. spec.is_nothing (spec.or_meaning (spec.declared_in files e name) m)) (or_nothing (spec.used_meaning (spec.keys_of name accessible))))
    plain_is

-- ---- all tokens

-- the names of the tokens that are kept
pub tokens_named : (files : List FileTree) (e u : Extent) (tokens items all told : List ℕ) → u ≡ e → tokens ≡ items → names_at files u.file items ≡ once bytes_eq (names_at files u.file all) → all ≡ told
    → names_at files e.file tokens ≡ once bytes_eq (names_at files e.file told)
tokens_named files e u tokens items all told here kept is given =
    ap (names_at files e.file) kept ∙ subst (λ (x : Extent). names_at files x.file items ≡ once bytes_eq (names_at files x.file all)) here is ∙ ap (λ ts. once bytes_eq (names_at files e.file ts)) given

pub own_declared : (files : List FileTree) (scope token : ℕ) (declared : Declared) (u : Extent) (there : List ℕ) → u ≡ unit_at files scope → there ≡ name_at files u.file token
    → meant files scope there declared ≡ spec.declared_in files (unit_at files scope) there → own_at files scope token declared ≡ declared_token files scope token
own_declared files scope token declared u there here same is =
    let named : there ≡ name_at files (unit_at files scope).file token = same ∙ ap (λ (x : Extent). name_at files x.file token) here in
    ap (spec.pair_if_own files (unit_at files scope) (name_at files (unit_at files scope).file token))
    (subst (λ n. meant files scope n declared ≡ spec.declared_in files (unit_at files scope) n) named is)

module _ (files : List FileTree) (scope : ℕ) (tokens : List ℕ) (i : ℕ) (past : length tokens ≤ i) (placed made : List Placed) (ordered : made ≡ in_order ahead placed) where
  all_placed : (f : ℕ → List (PairOf Key)) → map (placed_pair files (unit_at files scope).file) placed ≡ map (place_of files (unit_at files scope)) (flat_map f (take i tokens))
      → map (pair_of files (unit_at files scope).file) made ≡ all_numbered files (spec.in_place files (unit_at files scope) (flat_map f tokens))
  all_placed f so_far =
      ap (map (pair_of files (unit_at files scope).file)) ordered
      ∙ ordered_told files (unit_at files scope) placed (flat_map f tokens) (so_far ∙ ap (λ ts. map (place_of files (unit_at files scope)) (flat_map f ts)) (take_all i tokens past))

  pub declared_end : map (placed_pair files (unit_at files scope).file) placed ≡ map (place_of files (unit_at files scope)) (flat_map (declared_token files scope) (take i tokens))
      → names_at files (unit_at files scope).file tokens ≡ once bytes_eq (names_at files (unit_at files scope).file (tokens_of declares (sayings files (unit_at files scope))))
      → map (pair_of files (unit_at files scope).file) made ≡ all_numbered files (spec.declared_pairs files (unit_at files scope))
  declared_end so_far names =
      all_placed (declared_token files scope) so_far
      ∙ ap (λ pairs. all_numbered files (spec.in_place files (unit_at files scope) pairs)) (declared_told files scope tokens (declaring_names files (unit_at files scope) tokens names))

  pub letters_end : (accessible : List (PairOf Key)) → map (placed_pair files (unit_at files scope).file) placed ≡ map (place_of files (unit_at files scope)) (flat_map (letter_at files accessible scope) (take i tokens))
      → names_at files (unit_at files scope).file tokens ≡ once bytes_eq (names_at files (unit_at files scope).file (mentioned (own_mentions files (unit_at files scope))))
      → map (pair_of files (unit_at files scope).file) made ≡ all_numbered files (letters_placed files accessible (unit_at files scope))
  letters_end accessible so_far names =
      all_placed (letter_at files accessible scope) so_far
      ∙ ap (λ pairs. all_numbered files (spec.in_place files (unit_at files scope) pairs)) (letters_told files accessible scope tokens (mentioned_names files (unit_at files scope) tokens names))
