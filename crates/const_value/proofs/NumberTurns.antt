-- One turn over the sayings of a scoping unit whose names are numbered.
use Rattle.std.proofs.Common.{◌≡◌, ℕ, ◌+◌, ◌<◌, Bool, true, false, cond, ◌||◌, List, [], ◌∷◌, ◌++◌, filter, length, map, set, Option, Some, None, bytes_eq, refl, sym, ap, ap₂, ◌∙◌, arith, append_assoc, append-nil, length-append}
use Rattle.std.specs.Prelude.{slice_get}
use Rattle.std.specs.Option.{option_map_or, option_or, unwrap_or}
use Rattle.std.specs.Cmp.Lexicographic.{nat_list_eq_equiv}
use Rattle.std.proofs.lemmas.List.{map-append, set_at, length-map}
use Rattle.ftn_tree.specs.DeclaredEntities.{names_after}
use Rattle.ftn_tree.specs.Sayings.{Saying, same_name}
use Rattle.decl_table.specs.steps.Seen.{is_among}
use Rattle.const_value.specs.declared.name_numbers.Owned.{Owned}
use Rattle.const_value.specs.declared.said.Said.{Said}
use Rattle.const_value.specs.steps.Names.{number_from, letter_of, owned, owned_in, unsaid, if_new, with_said, said_at}
use Rattle.const_value.specs.steps.Said.{said_in, with_saying}
use Rattle.const_value.proofs.NamedPlaces.{get_behind, set_behind, same_bytes, same_others, put_there}
use Rattle.const_value.proofs.NamePlaces.{all_apart, name_again, name_more, number_none, number_push}
use Rattle.const_value.proofs.SaidMore.{named_more}

-- ---- of a name that wasn't said nothing was said

pub none_said : (seen : List (List ℕ)) (said : List Saying) (name : List ℕ) → is_among name seen ≡ false → is_among name (names_after seen said) ≡ false → filter (same_name name) said ≡ []
none_said seen [] name fresh apart = refl
none_said seen (t ∷ said) name fresh apart = by (is_among t.name seen) (bytes_eq t.name name) refl refl apart (none_said seen said name fresh) (none_said (t.name ∷ seen) said name) where
  more : bytes_eq t.name name ≡ false → is_among name (t.name ∷ seen) ≡ false
  more differ = ap (λ b. b || is_among name seen) differ ∙ fresh

  skip : bytes_eq t.name name ≡ false → filter (same_name name) said ≡ [] → cond (bytes_eq t.name name) (t ∷ filter (same_name name) said) (filter (same_name name) said) ≡ []
  skip differ rest = ap (λ b. cond b (t ∷ filter (same_name name) said) (filter (same_name name) said)) differ ∙ rest

  by : (b c : Bool) → is_among t.name seen ≡ b → bytes_eq t.name name ≡ c → is_among name (cond b (names_after seen said) (t.name ∷ names_after (t.name ∷ seen) said)) ≡ false
      → (is_among name (names_after seen said) ≡ false → filter (same_name name) said ≡ [])
      → (is_among name (t.name ∷ seen) ≡ false → is_among name (names_after (t.name ∷ seen) said) ≡ false → filter (same_name name) said ≡ [])
      → cond (bytes_eq t.name name) (t ∷ filter (same_name name) said) (filter (same_name name) said) ≡ []
  by true true is same not_there old new = absurd (cc (sym is ∙ ap (λ n. is_among n seen) (same_bytes t.name name same) ∙ fresh))
  by true false is same not_there old new = skip same (old not_there)
  by false true is same not_there old new = absurd (cc (sym (ap (λ b. b || is_among name (names_after (t.name ∷ seen) said)) same) ∙ not_there))
  by false false is same not_there old new =
      skip same (new (more same) (sym (ap (λ b. b || is_among name (names_after (t.name ∷ seen) said)) same) ∙ not_there))

-- ---- one turn

module _ (scope file : ℕ) (in_block_data : Bool) (said : List Saying) (s : Saying) where
  abbrev made_of : List ℕ → Said → Owned
  made_of name one = record { scope = scope; file = file; letter = letter_of name; said = one }

  abbrev before : List ℕ → Owned
  before = owned scope file in_block_data said

  abbrev after : List ℕ → Owned
  after = owned scope file in_block_data (said ++ s ∷ [])

  other_stays : (name : List ℕ) → bytes_eq s.name name ≡ false → after name ≡ before name
  other_stays name differ = ap (made_of name) (named_more in_block_data said s name ∙ ap (λ b. cond b (with_saying in_block_data (said_in in_block_data (filter (same_name name) said)) s) (said_in in_block_data (filter (same_name name) said))) differ)

  named_said : after s.name ≡ with_said in_block_data s (before s.name)
  named_said =
      ap (made_of s.name)
      (named_more in_block_data said s s.name
      ∙ ap (λ b. cond b (with_saying in_block_data (said_in in_block_data (filter (same_name s.name) said)) s) (said_in in_block_data (filter (same_name s.name) said))) (nat_list_eq_equiv.refl s.name))

  abbrev names : List (List ℕ)
  names = names_after [] said

  abbrev kept : List Owned
  kept = owned_in scope file in_block_data said

  -- what is kept of the names, and the numbers that are kept
  pub record Turned (old : List Owned) (number : ℕ) (put now : List Owned) : Type 0 where
    pub within : number < length put
    pub made : now ≡ old ++ owned_in scope file in_block_data (said ++ s ∷ [])
    pub numbers : (other : List ℕ) → cond (bytes_eq s.name other) (Some number) (number_from (length old) other names) ≡ number_from (length old) other (names_after [] (said ++ s ∷ []))

  pub turn : (old put now : List Owned) (number : ℕ) (found : Option ℕ) → found ≡ number_from (length old) s.name names → number ≡ unwrap_or found (length (old ++ kept))
      → put ≡ (old ++ kept) ++ if_new found (unsaid scope file s.name) → now ≡ said_at in_block_data s number put → Turned old number put now
  turn old put now number found is numbered pushed said_is = by (is_among s.name names) refl where
    long : length kept ≡ length names
    long = length-map names before

    by : (b : Bool) → is_among s.name names ≡ b → Turned old number put now
    by true there =
        let p = put_there before after s.name other_stays (length old) (with_said in_block_data s (before s.name)) names named_said (all_apart said) there in
        let same : found ≡ Some (length old + p.k) = is ∙ p.number in
        let at : number ≡ length old + p.k = numbered ∙ ap (λ o. unwrap_or o (length (old ++ kept))) same in
        let kept_is : put ≡ old ++ kept = pushed ∙ ap (λ o. (old ++ kept) ++ if_new o (unsaid scope file s.name)) same ∙ append-nil (old ++ kept) in
        let here : slice_get (old ++ kept) (length old + p.k) ≡ Some (before s.name) = get_behind old kept p.k ∙ p.here in
        let all : length (old ++ kept) ≡ length old + length kept = length-append old kept in
        let size : length put ≡ length (old ++ kept) = ap length kept_is in
        let less : p.k < length names = p.within in record {
          within = omega (arith, at, less, long, all, size);
          made =
              said_is ∙ ap₂ (said_at in_block_data s) at kept_is
              ∙ ap (λ o. option_map_or (λ (o : Owned). set (old ++ kept) (length old + p.k) (with_said in_block_data s o)) o (old ++ kept)) here
              ∙ set_behind old kept p.k (with_said in_block_data s (before s.name))
              ∙ ap (λ xs. old ++ xs) (sym p.made ∙ ap (map after) (sym (name_again said s there)));
          numbers = λ other. same_number other (bytes_eq s.name other) refl p.k at p.number ∙ ap (number_from (length old) other) (sym (name_again said s there));
        }
      where
        same_number : (other : List ℕ) (b : Bool) → bytes_eq s.name other ≡ b → (k : ℕ) → number ≡ length old + k → number_from (length old) s.name names ≡ Some (length old + k)
            → cond b (Some number) (number_from (length old) other names) ≡ number_from (length old) other names
        same_number other true eq k at there = ap Some at ∙ sym there ∙ ap (λ n. number_from (length old) n names) (same_bytes s.name other eq)
        same_number other false eq k at there = refl
    by false apart =
        let none : found ≡ None = is ∙ number_none (length old) s.name names apart in
        let at : number ≡ length (old ++ kept) = numbered ∙ ap (λ o. unwrap_or o (length (old ++ kept))) none in
        let fresh : put ≡ (old ++ kept) ++ unsaid scope file s.name ∷ [] = pushed ∙ ap (λ o. (old ++ kept) ++ if_new o (unsaid scope file s.name)) none in
        let size : length put ≡ length (old ++ kept) + 1 = ap length fresh ∙ length-append (old ++ kept) (unsaid scope file s.name ∷ []) in
        let all : length (old ++ kept) ≡ length old + length kept = length-append old kept in
        let whole : length (old ++ kept) ≡ length old + length names = omega (arith, long, all) in
        let unheard : before s.name ≡ unsaid scope file s.name = ap (λ xs. made_of s.name (said_in in_block_data xs)) (none_said [] said s.name refl apart) in record {
          within = omega (arith, at, size);
          made =
              said_is ∙ ap₂ (said_at in_block_data s) at fresh
              ∙ ap (λ o. option_map_or (λ (o : Owned). set ((old ++ kept) ++ unsaid scope file s.name ∷ []) (length (old ++ kept)) (with_said in_block_data s o)) o ((old ++ kept) ++ unsaid scope file s.name ∷ []))
              (ap (slice_get ((old ++ kept) ++ unsaid scope file s.name ∷ [])) (no_more (length (old ++ kept))) ∙ get_behind (old ++ kept) (unsaid scope file s.name ∷ []) 0)
              ∙ set_at (old ++ kept) (unsaid scope file s.name) [] (with_said in_block_data s (unsaid scope file s.name)) (length (old ++ kept)) refl
              ∙ append_assoc old kept (with_said in_block_data s (unsaid scope file s.name) ∷ [])
              ∙ ap (λ xs. old ++ xs)
              (ap₂ (λ xs y. xs ++ y ∷ []) (sym (same_others before after s.name other_stays names apart)) (ap (with_said in_block_data s) (sym unheard) ∙ sym named_said)
              ∙ sym (map-append after names (s.name ∷ [])) ∙ ap (map after) (sym (name_more said s apart)));
          numbers = λ other. new_number other (bytes_eq s.name other) refl (at ∙ whole) ∙ ap (number_from (length old) other) (sym (name_more said s apart));
        }
      where
        no_more : (n : ℕ) → n ≡ n + 0
        no_more n = omega arith

        new_number : (other : List ℕ) (b : Bool) → bytes_eq s.name other ≡ b → number ≡ length old + length names
            → cond b (Some number) (number_from (length old) other names) ≡ number_from (length old) other (names ++ s.name ∷ [])
        new_number other true eq at =
            ap Some at
            ∙ sym (ap₂ option_or (ap (λ n. number_from (length old) n names) (sym (same_bytes s.name other eq)) ∙ number_none (length old) s.name names apart)
            (ap (λ c. cond c (Some (length old + length names)) None) (nat_list_eq_equiv.symm other s.name ∙ eq)))
            ∙ sym (number_push (length old) other names s.name (length old + length names) refl)
        new_number other false eq at =
            nothing_else (number_from (length old) other names)
            ∙ sym (ap (λ c. option_or (number_from (length old) other names) (cond c (Some (length old + length names)) None)) (nat_list_eq_equiv.symm other s.name ∙ eq))
            ∙ sym (number_push (length old) other names s.name (length old + length names) refl)
          where
            nothing_else : (o : Option ℕ) → o ≡ option_or o None
            nothing_else None = refl
            nothing_else (Some n) = refl

-- the same by the name as it is lent
pub turned_at : (scope file : ℕ) (in_block_data : Bool) (said : List Saying) (s : Saying) (old had : List Owned) (key : List ℕ) (found : Option ℕ) (number : ℕ) (put now : List Owned)
    → had ≡ old ++ owned_in scope file in_block_data said → key ≡ s.name → found ≡ number_from (length old) key (names_after [] said) → number ≡ unwrap_or found (length had)
    → put ≡ had ++ if_new found (unsaid scope file key) → now ≡ said_at in_block_data s number put → Turned scope file in_block_data said s old number put now
turned_at scope file in_block_data said s old had key found number put now had_is named is numbered pushed said_is =
    turn scope file in_block_data said s old put now number found (is ∙ ap (λ k. number_from (length old) k (names_after [] said)) named)
    (numbered ∙ ap (λ xs. unwrap_or found (length xs)) had_is)
    (pushed ∙ ap (λ xs. xs ++ if_new found (unsaid scope file key)) had_is ∙ ap (λ k. (old ++ owned_in scope file in_block_data said) ++ if_new found (unsaid scope file k)) named) said_is
