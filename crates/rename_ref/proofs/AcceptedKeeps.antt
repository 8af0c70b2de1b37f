-- An accepted rename keeps the program: the new text spells the renamed program, which runs alike.
use Rattle.std.proofs.Common.{◌≡◌, ℕ, zero, suc, ◌+◌, ◌-◌, Bool, true, false, cond, not, ◌&&◌, nat_lt, List, [], ◌∷◌, map, length, find, flat_map, slice_get, option_map, Option, Some, None, unwrap_or, refl, sym, ap, ◌∙◌, codes, bytes_eq, if◌then◌else◌, arith, subst, subst₂}
use Rattle.std.specs.List.{list_all}
use Rattle.std.proofs.lemmas.Bool.{and_parts, ltb-false, not-true}
use Rattle.std.proofs.lemmas.Slice.Eq.{bytes_eq-Decides}
use Rattle.std.proofs.lemmas.Option.{same_Some}
use Rattle.std.proofs.lemmas.List.Folds.{list_all-map}
use Rattle.ftn_base.specs.Keywords.{is_keyword, is_intrinsic}
use Rattle.ftn_base.specs.Letters.{folded}
use Rattle.ftn_base.specs.Names.{is_name}
use Rattle.ftn_base.specs.Limits.{line_limit, name_limit}
use Rattle.ftn_base.specs.declared.name.Edition.TheVariants.{F90}
use Rattle.ftn_base.proofs.NameLemmas.{folded_name}
use Rattle.free_scan.specs.Lines.{lines, is_plain}
use Rattle.free_scan.specs.Spelling.{Lexeme, lexeme_rows, spell_program}
use Rattle.free_scan.specs.Clean.{is_clean, is_free_name, is_among, variables, are_distinct, statement_names}
use Rattle.free_scan.specs.FirstForm.{IsProgramText}
use Rattle.free_scan.specs.Tokens.{placed_pieces_of, tokens_of}
use Rattle.free_scan.specs.declared.first_form.program.Program.{Program}
use Rattle.ftn_tree.specs.declared.token.Token.{Token}
use Rattle.rename_ref.specs.declared.rename.Rename.{Rename}
use Rattle.rename_ref.specs.declared.edits.Edit.{Edit}
use Rattle.rename_ref.specs.declared.judgement.Judgement.TheVariants.{Accept}
use Rattle.rename_ref.specs.Conditions.{judged, line_length, on_long_line, renamed_text}
use Rattle.rename_ref.specs.Edits.{replacing, applied_from}
use Rattle.rename_ref.specs.Keeping.{Keeps, RenameKeeps}
use Rattle.rename_ref.specs.Kept.{Alike, Corresponds, Entity, main, scalar, entities, storage_of, denoted, partner, placed, placed_after}
use Rattle.rename_ref.specs.Meaning.{run}
use Rattle.rename_ref.specs.Names.{name_tokens, denoting}
use Rattle.rename_ref.specs.Renaming.{renamed, map_program}
use Rattle.rename_ref.proofs.Accepted.{accepted}
use Rattle.rename_ref.proofs.Alls.{all_weaken, find_none, map_agree}
use Rattle.rename_ref.proofs.Chunks.{Chunk, joined, AreFronts, placed_in, tokens_in, text_cut, placed_of_joined, tokens_of_joined, is_old, tokens_where, name_tokens_in, denoting_in}
use Rattle.rename_ref.proofs.CleanRenamed.{swapped, swapped_same, swapped_renames, is_other, IsClean, clean_parts, clean_from, clean_map, variables_map, among_passes, free_swapped}
use Rattle.rename_ref.proofs.FreshNames.{names_other}
use Rattle.rename_ref.proofs.LinesRenamed.{are_fine, chunk_lines, plain_renamed, token_on_line, lines_joined, lines_put, AreShort}
use Rattle.rename_ref.proofs.PiecesRenamed.{put, fronts_renamed, applied_is}
use Rattle.rename_ref.proofs.ProgramRenamed.{spelled_renamed, program_agrees}
use Rattle.rename_ref.proofs.TokensRenamed.{map_lexeme, rows_renamed, placed_is}

-- ---- what stays

-- a word of statements is left by a renaming of another word
keyword_stays : (old new kw : List ℕ) → is_keyword old ≡ false → is_keyword kw ≡ true → renamed old new kw ≡ kw
keyword_stays old new kw free is = go (bytes_eq kw old) ((bytes_eq-Decides kw old).0)
  where
    go : (t : Bool) → (t ≡ true → kw ≡ old) → (if t then new else kw) ≡ kw
    go true h = let e : is_keyword kw ≡ false = ap is_keyword (h refl) ∙ free in absurd cc
    go false h = refl

-- the edits make the text of the new pieces
text_is : (old new : List ℕ) (cs : List Chunk) → is_keyword old ≡ false → renamed_text old new (tokens_in 0 1 cs) (joined cs) ≡ joined (map (put old new) cs)
text_is old new cs free = ap (λ (ts : List Token). applied_from 0 (joined cs) (replacing new ts)) (denoting_in old free 0 1 cs) ∙ applied_is old new 0 0 1 [] cs refl

-- ---- what an accepted rename gives

-- a clean program's names other than the new one, in a text of these pieces
pub record IsRenaming (old new : List ℕ) (cs : List Chunk) (p : Program) : Type 0 where
  pub fronts : AreFronts cs
  pub plain : is_plain (joined cs) ≡ true
  pub spelled : lexeme_rows (placed_in 0 1 cs) ≡ spell_program p
  pub clean : IsClean p
  pub is_free : is_keyword old ≡ false
  pub name : is_name (name_limit F90) new ≡ true
  pub no_keyword : is_keyword (folded new) ≡ false
  pub no_intrinsic : is_intrinsic (folded new) ≡ false
  pub not_captured : find (λ (token : Token). bytes_eq token.value (folded new)) (name_tokens (tokens_in 0 1 cs)) ≡ None
  pub short : AreShort old new (name_limit F90) name (chunk_lines cs)

module _ (old new : List ℕ) (cs : List Chunk) (p : Program) (a : IsRenaming old new cs p) where
  -- the renaming
  abbrev pub r : List ℕ → List ℕ
  r = renamed old (folded new)

  -- the pieces after it
  abbrev pub new_cs : List Chunk
  new_cs = map (put old new) cs

  -- each stands at the front
  pub new_fronts : AreFronts new_cs
  new_fronts = fronts_renamed old new (name_limit F90) a.name cs a.fronts

  -- the new name is free
  free_new : is_free_name (folded new) ≡ true
  free_new = all_three (is_name (name_limit F90) (folded new)) (is_keyword (folded new)) (is_intrinsic (folded new)) (folded_name (name_limit F90) new a.name) a.no_keyword a.no_intrinsic
    where
      all_three : (n k i : Bool) → n ≡ true → k ≡ false → i ≡ false → ((n && not k) && not i) ≡ true
      all_three n k i hn hk hi = rw (hn, hk, hi) refl

  -- no name of the program is the new one
  others : list_all (is_other (folded new)) (p.name ∷ variables p) ≡ true
  others = names_other (folded new) (placed_in 0 1 cs) p a.not_captured a.spelled a.clean.all_free

  -- swapping the two names is the renaming, in this program
  pub swap_is : map_program (swapped old (folded new)) p ≡ map_program r p
  swap_is =
      let s = and_parts (is_other (folded new) p.name) (list_all (is_other (folded new)) (variables p)) others in
      program_agrees (swapped old (folded new)) r (is_other (folded new)) (swapped_renames old (folded new)) p s.0 s.1
      (all_weaken (is_among (variables p)) (is_other (folded new)) (among_passes (is_other (folded new)) (variables p) s.1) (flat_map statement_names p.statements) a.clean.known)

  -- the renamed program is clean
  new_clean : is_clean (map_program r p) ≡ true
  new_clean =
      let c = clean_map (swapped old (folded new)) (swapped_same old (folded new)) p a.clean (free_swapped old (folded new) free_new (p.name ∷ variables p) a.clean.all_free others) in
      ap is_clean (sym swap_is) ∙ clean_from (map_program (swapped old (folded new)) p) c

  -- the tokens and ends of lines of the new text are those of the new pieces
  new_placed : placed_pieces_of (joined new_cs) ≡ Some (placed_in 0 1 new_cs)
  new_placed = placed_of_joined new_cs new_fronts

  -- The new text spells the renamed program.
  pub new_spells : IsProgramText (joined new_cs) (map_program r p)
  new_spells = record {
    plain = plain_renamed old new (name_limit F90) a.name cs (are_fine cs a.fronts) (are_fine new_cs new_fronts) a.plain a.short;
    spelled =
        ap (option_map lexeme_rows) new_placed
        ∙ ap some_rows (rows_renamed old new 0 0 1 1 cs ∙ ap (map (map (map_lexeme r))) a.spelled
        ∙ sym (spelled_renamed r (keyword_stays old (folded new) (codes "program") a.is_free refl) (keyword_stays old (folded new) (codes "integer") a.is_free refl)
        (keyword_stays old (folded new) (codes "print") a.is_free refl) (keyword_stays old (folded new) (codes "end") a.is_free refl) p));
    clean = new_clean;
  }
    where
      some_rows : List (List Lexeme) → Option (List (List Lexeme))
      some_rows rows = Some rows

  -- the name tokens stand where the edits put them
  pub tokens_stand : map placed (name_tokens (tokens_in 0 1 new_cs)) ≡ map (placed_after r (replacing new (denoting old (tokens_in 0 1 cs)))) (name_tokens (tokens_in 0 1 cs))
  tokens_stand =
      ap (map placed) (name_tokens_in 0 1 new_cs)
      ∙ placed_is old new a.is_free a.no_keyword [] 0 0 1 cs a.fronts (refl, refl)
      ∙ both (sym (denoting_in old a.is_free 0 1 cs)) (sym (name_tokens_in 0 1 cs))
    where
      both : {ts us vs ws : List Token} → ts ≡ us → vs ≡ ws → map (placed_after r (replacing new ts)) vs ≡ map (placed_after r (replacing new us)) ws
      both p q = cc

-- ---- entities

-- a variable as an entity
abbrev scalar_of : List ℕ → Entity
scalar_of name = (scalar, name)

-- the name of an entity
abbrev name_of_entity : Entity → List ℕ
name_of_entity entity = entity.1

-- mapped variables are the partners of variables
scalars_mapped : (f : List ℕ → List ℕ) (names : List (List ℕ)) → map scalar_of (map f names) ≡ map (partner f) (map scalar_of names)
scalars_mapped f [] = refl
scalars_mapped f (name ∷ names) = ap (λ (es : List Entity). scalar_of (f name) ∷ es) (scalars_mapped f names)

-- the entities of a mapped program are the partners
entities_mapped : (f : List ℕ → List ℕ) (p : Program) → entities (map_program f p) ≡ map (partner f) (entities p)
entities_mapped f p = ap (λ (es : List Entity). first ∷ es) (ap (map scalar_of) (variables_map f p) ∙ scalars_mapped f (variables p))
  where
    first : Entity
    first = (main, f p.name)

-- the names of variables
names_of_scalars : (names : List (List ℕ)) → map name_of_entity (map scalar_of names) ≡ names
names_of_scalars [] = refl
names_of_scalars (name ∷ names) = ap (λ (ns : List (List ℕ)). name ∷ ns) (names_of_scalars names)

-- the names of entities
names_of_entities : (p : Program) → map name_of_entity (entities p) ≡ p.name ∷ variables p
names_of_entities p = ap (λ (ns : List (List ℕ)). p.name ∷ ns) (names_of_scalars (variables p))

-- a partner has the same storage
storage_kept : (f : List ℕ → List ℕ) (es : List Entity) → map storage_of (map (partner f) es) ≡ map storage_of es
storage_kept f [] = refl
storage_kept f (e ∷ es) = ap (λ (ss : List (Option _)). storage_of e ∷ ss) (storage_kept f es)

-- names other than the new one are the same after a renaming just where they are before it
renamed_same : (old new a b : List ℕ) → is_other new a ≡ true → is_other new b ≡ true → bytes_eq (renamed old new a) (renamed old new b) ≡ bytes_eq a b
renamed_same old new a b ha hb = both (sym (swapped_renames old new a ha)) (sym (swapped_renames old new b hb)) ∙ swapped_same old new a b
  where
    both : {c d e f : List ℕ} → c ≡ d → e ≡ f → bytes_eq c e ≡ bytes_eq d f
    both p q = cc

-- a renamed name denotes the partner
denoted_partner : (old new name : List ℕ) (es : List Entity) → is_other new name ≡ true → list_all (λ (e : Entity). is_other new e.1) es ≡ true
    → find (λ (e : Entity). bytes_eq e.1 (renamed old new name)) (map (partner (renamed old new)) es) ≡ option_map (partner (renamed old new)) (find (λ (e : Entity). bytes_eq e.1 name) es)
denoted_partner old new name [] o a = refl
denoted_partner old new name (e ∷ es) o a =
    let s = and_parts (is_other new e.1) (list_all (λ (e : Entity). is_other new e.1) es) a in
    go (bytes_eq (renamed old new e.1) (renamed old new name)) (bytes_eq e.1 name) (renamed_same old new e.1 name s.0 o) (denoted_partner old new name es o s.1)
  where
    f : List ℕ → List ℕ
    f = renamed old new

    go : (s t : Bool) → s ≡ t → find (λ (e : Entity). bytes_eq e.1 (f name)) (map (partner f) es) ≡ option_map (partner f) (find (λ (e : Entity). bytes_eq e.1 name) es)
        → cond s (Some (partner f e)) (find (λ (e : Entity). bytes_eq e.1 (f name)) (map (partner f) es)) ≡ option_map (partner f) (cond t (Some e) (find (λ (e : Entity). bytes_eq e.1 name) es))
    go true true d r = refl
    go true false d r = absurd cc
    go false true d r = absurd cc
    go false false d r = r

-- ---- the two laws that are cited

-- a text spells one program at most
abbrev pub OneProgram : Type 0
OneProgram = (text : List ℕ) (first second : Program) → IsProgramText text first → IsProgramText text second → first ≡ second

-- a program does the same by names that are the same just where its own are
abbrev pub RunsKept : Type 0
RunsKept = (f : List ℕ → List ℕ) → ((a b : List ℕ) → bytes_eq (f a) (f b) ≡ bytes_eq a b) → (program : Program) (steps : ℕ) → run (map_program f program) steps ≡ run program steps

module _ (unique : OneProgram) (runs : RunsKept) (old new : List ℕ) (cs : List Chunk) (p : Program) (a : IsRenaming old new cs p) (spells : IsProgramText (joined cs) p) where
  -- the renaming
  abbrev f : List ℕ → List ℕ
  f = renamed old (folded new)

  -- the new text
  abbrev after : List ℕ
  after = joined (map (put old new) cs)

  -- it spells the renamed program
  after_spells : IsProgramText after (map_program f p)
  after_spells = new_spells old new cs p a

  -- Both texts spell programs that run alike.
  pub alike : Alike (joined cs) after
  alike = record {
    old_spells = (p, spells);
    new_spells = (map_program f p, after_spells);
    same_runs = λ q s hq hs steps.
        ap (λ (x : Program). run x steps) (unique after s (map_program f p) hs after_spells ∙ sym (swap_is old new cs p a))
        ∙ runs (swapped old (folded new)) (swapped_same old (folded new)) p steps
        ∙ ap (λ (x : Program). run x steps) (unique (joined cs) p q spells hq);
  }

  -- the entities of the two texts are partners
  partners : (q s : Program) → IsProgramText (joined cs) q → IsProgramText after s → entities s ≡ map (partner f) (entities q)
  partners q s hq hs =
      ap entities (unique after s (map_program f p) hs after_spells) ∙ entities_mapped f p
      ∙ ap (λ (x : Program). map (partner f) (entities x)) (unique (joined cs) p q spells hq)

  -- no entity has the new name
  others_named : list_all (λ (e : Entity). is_other (folded new) e.1) (entities p) ≡ true
  others_named = sym (list_all-map (is_other (folded new)) name_of_entity (entities p)) ∙ ap (list_all (is_other (folded new))) (names_of_entities p) ∙ others old new cs p a

  -- a name token denotes the partner of what it denoted
  denotes_one : (t : Token) → is_other (folded new) t.value ≡ true → denoted (map_program f p) (f t.value) ≡ option_map (partner f) (denoted p t.value)
  denotes_one t o = ap (find (λ (e : Entity). bytes_eq e.1 (f t.value))) (entities_mapped f p) ∙ denoted_partner old (folded new) t.value (entities p) o others_named

  -- the edits of the rename
  abbrev edits : List Edit
  edits = replacing new (denoting old (tokens_in 0 1 cs))

  -- the tokens of the old text are those of the old pieces
  old_tokens_are : (ts : List Token) → tokens_of (joined cs) ≡ Some ts → ts ≡ tokens_in 0 1 cs
  old_tokens_are ts e = same_Some ts (tokens_in 0 1 cs) (sym e ∙ tokens_of_joined cs a.fronts)

  -- the tokens of the new text are those of the new pieces
  new_tokens_are : (ts : List Token) → tokens_of after ≡ Some ts → ts ≡ tokens_in 0 1 (map (put old new) cs)
  new_tokens_are ts e = same_Some ts (tokens_in 0 1 (map (put old new) cs)) (sym e ∙ tokens_of_joined (map (put old new) cs) (new_fronts old new cs p a))

  -- each name token denotes the partner of what it denoted
  denotes_all : map (λ (t : Token). denoted (map_program f p) (f t.value)) (name_tokens (tokens_in 0 1 cs)) ≡ map (λ (t : Token). option_map (partner f) (denoted p t.value)) (name_tokens (tokens_in 0 1 cs))
  denotes_all = map_agree (λ (t : Token). is_other (folded new) t.value) (λ (t : Token). denoted (map_program f p) (f t.value)) (λ (t : Token). option_map (partner f) (denoted p t.value)) denotes_one
      (name_tokens (tokens_in 0 1 cs)) (find_none (λ (t : Token). bytes_eq t.value (folded new)) (name_tokens (tokens_in 0 1 cs)) a.not_captured)

  -- The entities and the name tokens correspond.
  pub corresponds : Corresponds f edits (joined cs) after
  corresponds = record {
    partners = partners;
    one_each = λ s hs. ap are_distinct (names_of_entities s) ∙ (clean_parts s hs.clean).distinct;
    storage = λ q s hq hs. ap (map storage_of) (partners q s hq hs) ∙ storage_kept f (entities q);
    tokens = λ ts us et eu.
        ap (λ (x : List Token). map placed (name_tokens x)) (new_tokens_are us eu) ∙ tokens_stand old new cs p a
        ∙ ap (λ (x : List Token). map (placed_after f edits) (name_tokens x)) (sym (old_tokens_are ts et));
    denotes = λ q s hq hs ts et.
        denotes_of q s ts (unique (joined cs) q p hq spells) (unique after s (map_program f p) hs after_spells) (old_tokens_are ts et);
  }
    where
      denotes_of : (q s : Program) (ts : List Token) → q ≡ p → s ≡ map_program f p → ts ≡ tokens_in 0 1 cs
          → map (λ (t : Token). denoted s (f t.value)) (name_tokens ts) ≡ map (λ (t : Token). option_map (partner f) (denoted q t.value)) (name_tokens ts)
      denotes_of q s ts eq es et =
          ap (λ (x : List Token). map (λ (t : Token). denoted s (f t.value)) (name_tokens x)) et
          ∙ ap (λ (x : Program). map (λ (t : Token). denoted x (f t.value)) (name_tokens (tokens_in 0 1 cs))) es
          ∙ denotes_all
          ∙ ap (λ (x : Program). map (λ (t : Token). option_map (partner f) (denoted x t.value)) (name_tokens (tokens_in 0 1 cs))) (sym eq)
          ∙ ap (λ (x : List Token). map (λ (t : Token). option_map (partner f) (denoted q t.value)) (name_tokens x)) (sym et)

-- ---- lines that are short enough

-- an element of a mapped list
get_map : {X Y : Type 0} (g : X → Y) (xs : List X) (i : ℕ) (x : X) → slice_get xs i ≡ Some x → slice_get (map g xs) i ≡ Some (g x)
get_map g [] i x e = absurd cc
get_map g (y ∷ xs) zero x e = ap (option_map g) e
get_map g (y ∷ xs) (suc i) x e = get_map g xs i x e

-- where LongLine does not fail, each line with a replaced word is short enough
lines_short : (old new : List ℕ) (cs : List Chunk) (fs : AreFronts cs) (name : is_name (name_limit F90) new ≡ true) → is_keyword old ≡ false
    → find (λ (t : Token). nat_lt (line_limit + 1) (line_length (joined (map (put old new) cs)) t.line)) (denoting old (tokens_in 0 1 cs)) ≡ None → AreShort old new (name_limit F90) name (chunk_lines cs)
lines_short old new cs fs name free none i l e h =
    let q : ℕ → Bool = λ n. not (nat_lt (line_limit + 1) (line_length (joined (map (put old new) cs)) n)) in
    let d : list_all (λ (t : Token). not (nat_lt (line_limit + 1) (line_length (joined (map (put old new) cs)) t.line))) (tokens_where (is_old old) 0 1 cs) ≡ true =
    ap (list_all (λ (t : Token). not (nat_lt (line_limit + 1) (line_length (joined (map (put old new) cs)) t.line)))) (sym (denoting_in old free 0 1 cs))
    ∙ find_none (λ (t : Token). nat_lt (line_limit + 1) (line_length (joined (map (put old new) cs)) t.line)) (denoting old (tokens_in 0 1 cs)) none in
    let k : not (nat_lt (line_limit + 1) (line_length (joined (map (put old new) cs)) (1 + i))) ≡ true = token_on_line old (λ n. not (nat_lt (line_limit + 1) (line_length (joined (map (put old new) cs)) n))) 0 1 cs d i l e h in
    let n : (1 + i) - 1 ≡ i = omega arith in
    let w : lines (joined (map (put old new) cs)) ≡ map joined (map (map (put old new)) (chunk_lines cs)) =
    lines_joined (map (put old new) cs) (are_fine (map (put old new) cs) (fronts_renamed old new (name_limit F90) name cs fs)) ∙ ap (map joined) (lines_put old new cs) in
    let g : slice_get (map joined (map (map (put old new)) (chunk_lines cs))) i ≡ Some (joined (map (put old new) l)) =
    get_map joined (map (map (put old new)) (chunk_lines cs)) i (map (put old new) l) (get_map (map (put old new)) (chunk_lines cs) i l e) in
    let m : line_length (joined (map (put old new) cs)) (1 + i) ≡ length (joined (map (put old new) l)) =
    ap (λ (j : ℕ). length (unwrap_or (slice_get (lines (joined (map (put old new) cs))) j) [])) n
    ∙ ap (λ (ls : List (List ℕ)). length (unwrap_or (slice_get ls i) [])) w
    ∙ ap (λ (o : Option (List ℕ)). length (unwrap_or o [])) g in
    let z : nat_lt (line_limit + 1) (line_length (joined (map (put old new) cs)) (1 + i)) ≡ false = not-true (nat_lt (line_limit + 1) (line_length (joined (map (put old new) cs)) (1 + i))) k in
    let y = ltb-false (line_limit + 1) (line_length (joined (map (put old new) cs)) (1 + i)) z in
    omega (arith, y, m)

-- ---- the whole

-- the whole for a text that is given by its pieces
keeps_cut : OneProgram → RunsKept → (order : Rename) (file : List ℕ) (cs : List Chunk) (program : Program) (new_text : List ℕ) → AreFronts cs
    → IsProgramText (joined cs) program → judged order file (joined cs) (tokens_in 0 1 cs) ≡ Accept new_text → Keeps order file (joined cs) (tokens_in 0 1 cs) new_text program
keeps_cut unique runs order file cs program new_text fs spells e =
    let h = accepted order file (joined cs) (tokens_in 0 1 cs) new_text e in
    let made : new_text ≡ joined (map (put h.token.value order.new) cs) = h.is_renamed ∙ text_is h.token.value order.new cs h.is_free in
    let short : on_long_line (joined (map (put h.token.value order.new) cs)) (denoting h.token.value (tokens_in 0 1 cs)) ≡ None =
    ap (λ (x : List ℕ). on_long_line x (denoting h.token.value (tokens_in 0 1 cs))) (sym made) ∙ h.short in
    let a : IsRenaming h.token.value order.new cs program = record {
      fronts = fs;
      plain = spells.plain;
      spelled = same_Some (lexeme_rows (placed_in 0 1 cs)) (spell_program program) (ap (option_map lexeme_rows) (sym (placed_of_joined cs fs)) ∙ spells.spelled);
      clean = clean_parts program spells.clean;
      is_free = h.is_free;
      name = h.name;
      no_keyword = h.no_keyword;
      no_intrinsic = h.no_intrinsic;
      not_captured = h.not_captured;
      short = lines_short h.token.value order.new cs fs h.name h.is_free short;
    } in
    record {
      token = h.token;
      is_chosen = h.is_chosen;
      spells = subst (λ (x : List ℕ). IsProgramText x (map_program (renamed h.token.value (folded order.new)) program)) (sym made) (new_spells h.token.value order.new cs program a);
      alike = subst (λ (x : List ℕ). Alike (joined cs) x) (sym made) (alike unique runs h.token.value order.new cs program a spells);
      corresponds = subst (λ (x : List ℕ). Corresponds (renamed h.token.value (folded order.new)) (replacing order.new (denoting h.token.value (tokens_in 0 1 cs))) (joined cs) x) (sym made)
          (corresponds unique runs h.token.value order.new cs program a spells);
    }

-- Each accepted rename keeps the program, by the two laws.
pub keeping : OneProgram → RunsKept → RenameKeeps
keeping unique runs order file text tokens program new_text et spells e =
    let c = text_cut text tokens et in
    subst₂ (λ (x : List ℕ) (ts : List Token). IsProgramText x program → judged order file x ts ≡ Accept new_text → Keeps order file x ts new_text program) c.1 c.3
    (keeps_cut unique runs order file c.0 program new_text c.2) spells e
