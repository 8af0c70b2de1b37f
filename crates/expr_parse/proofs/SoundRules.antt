-- What each rule reads is of its form, where this holds of the expressions inside.
use Rattle.std.proofs.Common.{◌≡◌, refl, sym, ◌∙◌, ap, subst, lit≤, ℕ, zero, suc, ◌≤◌, Bool, true, false, List, [], ◌∷◌, ◌++◌, length, Option, Some, None, append_assoc, if◌then◌else◌}
use Rattle.std.proofs.lemmas.Option.{some_pair_parts}
use Rattle.std.proofs.lemmas.List.{append-nil}
use Rattle.ftn_tree.specs.declared.expr.Expr.{Expr}
use Rattle.ftn_tree.specs.declared.expr.Part.{Part}
use Rattle.ftn_tree.specs.declared.expr.Expr.TheVariants as exprs
use Rattle.ftn_tree.specs.declared.expr.Expr.TheViews.{roll-Part}
use Rattle.ftn_tree.specs.declared.lexeme.Lexeme.{Lexeme}
use Rattle.ftn_tree.specs.declared.lexeme.Lexeme.TheVariants as lexeme
use Rattle.ftn_tree.specs.Levels.{loosest}
use Rattle.ftn_tree.specs.Trees.{Section, paren, refer, tree_of}
use Rattle.ftn_tree.specs.Phrases.{nothing, ◌·◌, mark, mark_at, name, in_parens}
use Rattle.ftn_tree.specs.Expressions.{is_reference, is_reference_at}
use Rattle.ftn_tree.specs.Grammar.{Spells, SpellsArgs, SpellsList, SpellsMore, SpellsSection, SpellsEnd, expr}
use Rattle.expr_parse.specs.steps.Input.{Input, Reader, ◌>>=◌, ◌>>◌, pure, after, after_if, sees, expect, eat, peek}
use Rattle.expr_parse.specs.steps.Combinators.{◌<$>◌, each_after_comma_from}
use Rattle.expr_parse.specs.steps.Reading as reading
use Rattle.expr_parse.proofs.Pieces.{Took, bind_some, took_both}
use Rattle.expr_parse.proofs.Tokens.{mark_piece, bare_made}
use Rattle.expr_parse.proofs.Lists as lists
use Rattle.ftn_tree.proofs.Inverse.{end_tree, args_tree, list_tree, part_tree, section_tree, tree_paren, tree_refer, tree_part}
use Rattle.expr_parse.proofs.Takes.{retold, none_took, given}
use Rattle.expr_parse.proofs.Sound.{sound_constant, spelled}

-- an expression of at most a level
pub record Upto (most : ℕ) (found : Expr) (i j : Input) : Type 0 where
  pub level : ℕ
  pub small : level ≤ most
  pub took : Took (Spells (tree_of found) level) i j

abbrev pub IsSound : (ℕ → Reader Expr) → Type 0
IsSound read = (most : ℕ) (i : Input) (found : Expr) (j : Input) → 1 ≤ most → read most i ≡ Some (found, j) → Upto most found i j

pub took_expr : (found : Expr) (i j : Input) → Upto loosest found i j → Took (expr found) i j
took_expr found i j upto = retold (Spells (tree_of found) upto.level) (expr found) i j (λ at tokens says. (upto.level, upto.small, says)) upto.took

expected : (number : ℕ) (kind : Lexeme) (i j : Input) → expect kind i ≡ Some (number, j) → Took (mark_at number kind) i j
expected number kind i j got = (mark_piece kind).sound i number j got

bare : (number : ℕ) (kind : Lexeme) (i j : Input) → expect kind i ≡ Some (number, j) → Took (mark kind) i j
bare number kind i j got = retold (mark_at number kind) (mark kind) i j (bare_made kind number) (expected number kind i j got)

module _ (read : ℕ → Reader Expr) (sound : IsSound read) where
  sound_whole : (i : Input) (found : Expr) (j : Input) → read loosest i ≡ Some (found, j) → Took (expr found) i j
  sound_whole i found j got = took_expr found i j (sound loosest i found j (lit≤ tt) got)

  pub sound_parens : (i : Input) (found : Expr) (j : Input) → reading.parenthesized read i ≡ Some (found, j) → Took (Spells (tree_of found) 0) i j
  unfolding reading.parenthesized
  sound_parens i found j got =
      let (number, k, opened, rest) = bind_some (expect lexeme.Open i) (λ at. read loosest >>= (λ inner. expect lexeme.Close >> pure (exprs.Paren at inner))) found j got in
      let (inner, l, read_inner, closing) = bind_some (read loosest k) (λ inner. expect lexeme.Close >> pure (exprs.Paren number inner)) found j rest in
      let (last, m, closed, made) = bind_some (expect lexeme.Close l) (λ at. pure (exprs.Paren number inner)) found j closing in
      let took = took_both (mark_at number lexeme.Open) (expr inner · mark lexeme.Close) i k m (expected number lexeme.Open i k opened)
      (took_both (expr inner) (mark lexeme.Close) k l m (sound_whole k inner l read_inner) (bare last lexeme.Close l m closed)) in
      given (λ found. Spells (tree_of found) 0) (exprs.Paren number inner) found i m j made
      (spelled (paren number (tree_of inner)) (exprs.Paren number inner) (mark_at number lexeme.Open · expr inner · mark lexeme.Close) i m (tree_paren number inner) (λ at tokens says. (refl, says)) took)

  sound_bound : (until : Lexeme) (i : Input) (low : Option Expr) (j : Input) → reading.bound read until i ≡ Some (low, j) → Took (SpellsEnd (end_tree low)) i j
  unfolding reading.bound
  sound_bound until i low j got = by (sees until i) got where
    by : (there : Bool) → (if there then Some (None, i) else (Some <$> read loosest) i) ≡ Some (low, j) → Took (SpellsEnd (end_tree low)) i j
    by true got = given (λ low. SpellsEnd (end_tree low)) None low i i j got (none_took i)
    by false got =
        let (found, k, read_found, made) = bind_some (read loosest i) (λ found. pure (Some found)) low j got in
        given (λ low. SpellsEnd (end_tree low)) (Some found) low i k j made (sound_whole i found k read_found)

  record PartRead (low : Option Expr) (i : Input) (part : Part) (j : Input) : Type 0 where
    high : Option Expr
    is : roll-Part (record { low = low; high = high }) ≡ part
    middle : Input
    inside : Took (mark lexeme.Colon · SpellsEnd (end_tree high)) i middle
    closed : Took (mark lexeme.Close) middle j

  sound_part : (low : Option Expr) (i : Input) (part : Part) (j : Input) → reading.part_from read low i ≡ Some (part, j) → PartRead low i part j
  unfolding reading.part_from
  sound_part low i part j got =
      let close = λ (high : Option Expr). expect lexeme.Close >> pure (roll-Part (record { low = low; high = high })) in
      let (high, l, read_high, closing) = bind_some ((expect lexeme.Colon >> reading.bound read lexeme.Close) i) close part j got in
      let (number, k, colon, read_bound) = bind_some (expect lexeme.Colon i) (λ at. reading.bound read lexeme.Close) high l read_high in
      let (last, m, closed, made) = bind_some (expect lexeme.Close l) (λ at. pure (roll-Part (record { low = low; high = high }))) part j closing in
      let same = some_pair_parts (roll-Part (record { low = low; high = high })) part m j made in
      record {
        high = high;
        is = same.0;
        middle = l;
        inside = took_both (mark lexeme.Colon) (SpellsEnd (end_tree high)) i k l (bare number lexeme.Colon i k colon) (sound_bound lexeme.Close k high l read_bound);
        closed = subst (λ j. Took (mark lexeme.Close) l j) same.1 (bare last lexeme.Close l m closed);
      }

  took_section : (low : Option Expr) (i k l : Input) (part : Part) (j : Input) → Took (mark lexeme.Open) i k → Took (SpellsEnd (end_tree low)) k l → PartRead low l part j → Took (SpellsSection (section_tree part)) i j
  took_section low i k l part j opened took_low got =
      let inside = took_both (SpellsEnd (end_tree low)) (mark lexeme.Colon · SpellsEnd (end_tree got.high)) k l got.middle took_low got.inside in
      let took = took_both (mark lexeme.Open) ((SpellsEnd (end_tree low) · mark lexeme.Colon · SpellsEnd (end_tree got.high)) · mark lexeme.Close) i k j opened
      (took_both (SpellsEnd (end_tree low) · mark lexeme.Colon · SpellsEnd (end_tree got.high)) (mark lexeme.Close) k got.middle j inside got.closed) in
      subst (λ (tree : Section). Took (SpellsSection tree) i j) (sym (tree_part low got.high) ∙ ap section_tree got.is) took

  -- what follows a list in parentheses, or a name
  record RestRead (number : ℕ) (given_args : Option (List Expr)) (i : Input) (found : Expr) (j : Input) : Type 0 where
    part : Option Part
    is : exprs.Refer number given_args part ≡ found
    took : Took (SpellsSection (part_tree part)) i j

  no_part : (number : ℕ) (given_args : Option (List Expr)) (i : Input) (found : Expr) (j : Input) → ◌≡◌ {A = Option (Expr × Input)} (Some (exprs.Refer number given_args None, i)) (Some (found, j)) → RestRead number given_args i found j
  no_part number given_args i found j made =
      let same = some_pair_parts (exprs.Refer number given_args None) found i j made in
      record { part = None; is = same.0; took = subst (λ j. Took nothing i j) same.1 (none_took i) }

  sound_with_args : (number : ℕ) (list : List Expr) (i : Input) (found : Expr) (j : Input) → reading.with_args read number list i ≡ Some (found, j) → RestRead number (Some list) i found j
  unfolding reading.with_args
  sound_with_args number list i found j got = by (sees lexeme.Open i) refl got where
    finish : Part → Reader Expr
    finish part = pure (exprs.Refer number (Some list) (Some part))

    by : (there : Bool) → sees lexeme.Open i ≡ there
        → (if there then (reading.bound read lexeme.Colon >>= reading.part_from read >>= (λ part. pure (exprs.Refer number (Some list) (Some part)))) else pure (exprs.Refer number (Some list) None)) (after_if there i) ≡ Some (found, j)
        → RestRead number (Some list) i found j
    by true there got =
        let (part, m, read_part, made) = bind_some ((reading.bound read lexeme.Colon >>= reading.part_from read) (after i)) (λ part. pure (exprs.Refer number (Some list) (Some part))) found j got in
        let (low, l, read_low, read_rest) = bind_some (reading.bound read lexeme.Colon (after i)) (reading.part_from read) part m read_part in
        let same = some_pair_parts (exprs.Refer number (Some list) (Some part)) found m j made in
        record {
          part = Some part;
          is = same.0;
          took = subst (λ j. Took (SpellsSection (section_tree part)) i j) same.1
              (took_section low i (after i) l part m (lists.took_mark lexeme.Open i there) (sound_bound lexeme.Colon (after i) low l read_low) (sound_part low l part m read_rest));
        }
    by false there got = no_part number (Some list) i found j got

  record Found (found all : List Expr) (i j : Input) : Type 0 where
    items : List Expr
    is : found ++ items ≡ all
    took : Took (SpellsMore (list_tree items)) i j

  none_found : (found all : List Expr) (i j : Input) → ◌≡◌ {A = Option (List Expr × Input)} (Some (found, i)) (Some (all, j)) → Found found all i j
  none_found found all i j got =
      let same = some_pair_parts found all i j got in
      record { items = []; is = append-nil found ∙ same.0; took = subst (λ j. Took nothing i j) same.1 (none_took i) }

  sound_list : (n : ℕ) (found all : List Expr) (i j : Input) → each_after_comma_from (read loosest) n found i ≡ Some (all, j) → Found found all i j
  unfolding each_after_comma_from
  sound_list zero found all i j got = none_found found all i j got
  sound_list (suc n) found all i j got = by (λ item k. sound_list n (found ++ item ∷ []) all k j) (sees lexeme.Comma i) refl got where
    by : ((item : Expr) (k : Input) → each_after_comma_from (read loosest) n (found ++ item ∷ []) k ≡ Some (all, j) → Found (found ++ item ∷ []) all k j) → (there : Bool) → sees lexeme.Comma i ≡ there
        → (if there then (read loosest >>= (λ a. each_after_comma_from (read loosest) n (found ++ a ∷ []))) else pure found) (after_if there i) ≡ Some (all, j) → Found found all i j
    by onward true there got =
        let (item, k, read_item, rest) = bind_some (read loosest (after i)) (λ a. each_after_comma_from (read loosest) n (found ++ a ∷ [])) all j got in
        let later = onward item k rest in
        record {
          items = item ∷ later.items;
          is = sym (append_assoc found (item ∷ []) later.items) ∙ later.is;
          took = took_both (mark lexeme.Comma) (expr item · SpellsMore (list_tree later.items)) i (after i) j (lists.took_mark lexeme.Comma i there)
              (took_both (expr item) (SpellsMore (list_tree later.items)) (after i) k j (sound_whole (after i) item k read_item) later.took);
        }
    by onward false there got = none_found found all i j got

  record GroupRead (number : ℕ) (i : Input) (found : Expr) (j : Input) : Type 0 where
    list : Option (List Expr)
    middle : Input
    took : Took (SpellsArgs (args_tree list)) i middle
    rest : RestRead number list middle found j

  sound_args : (number : ℕ) (first : Expr) (i k l : Input) (found : Expr) (j : Input) → Took (mark lexeme.Open) i k → Took (expr first) k l → reading.args_from read number first l ≡ Some (found, j) → GroupRead number i found j
  unfolding reading.args_from
  sound_args number first i k l found j opened took_first got =
      let (list, m, read_list, rest) = bind_some (reading.list_from read first l) (λ list. expect lexeme.Close >> reading.with_args read number list) found j got in
      let (last, n, closed, read_rest) = bind_some (expect lexeme.Close m) (λ at. reading.with_args read number list) found j rest in
      let items = sound_list (length l.rest) (first ∷ []) list l m read_list in
      let inside = took_both (expr first) (SpellsMore (list_tree items.items)) k l m took_first items.took in
      record {
        list = Some list;
        middle = n;
        took = subst (λ (list : List Expr). Took (in_parens (SpellsList (list_tree list))) i n) items.is
            (took_both (mark lexeme.Open) ((expr first · SpellsMore (list_tree items.items)) · mark lexeme.Close) i k n opened
            (took_both (expr first · SpellsMore (list_tree items.items)) (mark lexeme.Close) k m n inside (bare last lexeme.Close m n closed)));
        rest = sound_with_args number list n found j read_rest;
      }

  sound_with_part : (number : ℕ) (low : Option Expr) (i k l : Input) (found : Expr) (j : Input) → Took (mark lexeme.Open) i k → Took (SpellsEnd (end_tree low)) k l → reading.with_part read number low l ≡ Some (found, j) → GroupRead number i found j
  sound_with_part number low i k l found j opened took_low got =
      let (part, m, read_part, made) = bind_some (reading.part_from read low l) (λ part. pure (exprs.Refer number None (Some part))) found j got in
      let same = some_pair_parts (exprs.Refer number None (Some part)) found m j made in
      record {
        list = None;
        middle = i;
        took = none_took i;
        rest = record {
          part = Some part;
          is = same.0;
          took = subst (λ j. Took (SpellsSection (section_tree part)) i j) same.1 (took_section low i k l part m opened took_low (sound_part low l part m read_part));
        };
      }

  sound_group : (number : ℕ) (i k : Input) (found : Expr) (j : Input) → Took (mark lexeme.Open) i k → reading.group read number k ≡ Some (found, j) → GroupRead number i found j
  unfolding reading.group
  sound_group number i k found j opened got = by (sees lexeme.Close k) refl got where
    by_colon : (first : Expr) (l : Input) → Took (expr first) k l → (there : Bool)
        → (if there then reading.with_part read number (Some first) l else reading.args_from read number first l) ≡ Some (found, j) → GroupRead number i found j
    by_colon first l took_first true got = sound_with_part number (Some first) i k l found j opened took_first got
    by_colon first l took_first false got = sound_args number first i k l found j opened took_first got

    by_low : (low : Option Expr) (l : Input) → Took (SpellsEnd (end_tree low)) k l → reading.group_from read number low l ≡ Some (found, j) → GroupRead number i found j
    by_low None l took_low got = sound_with_part number None i k l found j opened took_low got
    by_low (Some first) l took_low got = by_colon first l took_low (sees lexeme.Colon l) got

    by : (there : Bool) → sees lexeme.Close k ≡ there
        → (if there then reading.with_args read number [] else (reading.bound read lexeme.Colon >>= reading.group_from read number)) (after_if there k) ≡ Some (found, j) → GroupRead number i found j
    by true there got = record {
      list = Some [];
      middle = after k;
      took = took_both (mark lexeme.Open) (nothing · mark lexeme.Close) i k (after k) opened (took_both nothing (mark lexeme.Close) k k (after k) (none_took k) (lists.took_mark lexeme.Close k there));
      rest = sound_with_args number [] (after k) found j got;
    }
    by false there got =
        let (low, l, read_low, rest) = bind_some (reading.bound read lexeme.Colon k) (reading.group_from read number) found j got in
        by_low low l (sound_bound lexeme.Colon k low l read_low) rest

  took_refer : (number : ℕ) (list : Option (List Expr)) (i k l : Input) (found : Expr) (j : Input) → Took (name number) i k → Took (SpellsArgs (args_tree list)) k l → RestRead number list l found j → Took (Spells (tree_of found) 0) i j
  took_refer number list i k l found j took_name took_args rest =
      let took = took_both (name number) (SpellsArgs (args_tree list) · SpellsSection (part_tree rest.part)) i k j took_name
      (took_both (SpellsArgs (args_tree list)) (SpellsSection (part_tree rest.part)) k l j took_args rest.took) in
      subst (λ found. Took (Spells (tree_of found) 0) i j) rest.is
      (spelled (refer number (args_tree list) (part_tree rest.part)) (exprs.Refer number list rest.part) (name number · SpellsArgs (args_tree list) · SpellsSection (part_tree rest.part)) i j
      (tree_refer number list rest.part) (λ at tokens says. (refl, says)) took)

  pub record NamedRead (i : Input) (found : Expr) (j : Input) : Type 0 where
    pub is : is_reference found ≡ true
    pub took : Took (Spells (tree_of found) 0) i j

  is_refer : (number : ℕ) (list : Option (List Expr)) (i : Input) (found : Expr) (j : Input) → RestRead number list i found j → is_reference found ≡ true
  is_refer number list i found j rest = ap is_reference (sym rest.is) ∙ ap is_reference_at (exprs.outs-Refer number list rest.part)

  pub sound_named : (i : Input) (found : Expr) (j : Input) → reading.named read i ≡ Some (found, j) → NamedRead i found j
  unfolding reading.named
  sound_named i found j got =
      let (number, k, named, rest) = bind_some (expect lexeme.Word i) (λ number. eat lexeme.Open >>= (λ has_group. if has_group then reading.group read number else pure (exprs.Refer number None None))) found j got in
      by number k (expected number lexeme.Word i k named) (sees lexeme.Open k) refl rest where
        by : (number : ℕ) (k : Input) → Took (name number) i k → (there : Bool) → sees lexeme.Open k ≡ there
            → (if there then reading.group read number else pure (exprs.Refer number None None)) (after_if there k) ≡ Some (found, j) → NamedRead i found j
        by number k took_name true there got =
            let group = sound_group number k (after k) found j (lists.took_mark lexeme.Open k there) got in
            record { is = is_refer number group.list group.middle found j group.rest; took = took_refer number group.list i k group.middle found j took_name group.took group.rest }
        by number k took_name false there got =
            let rest = no_part number None k found j got in
            record { is = is_refer number None k found j rest; took = took_refer number None i k k found j took_name (none_took k) rest }

  pub sound_primary : (i : Input) (found : Expr) (j : Input) → reading.primary read i ≡ Some (found, j) → Took (Spells (tree_of found) 0) i j
  unfolding reading.primary
  sound_primary i found j got = by (peek i) got where
    by : (kind : Option Lexeme) → reading.primary_by read kind i ≡ Some (found, j) → Took (Spells (tree_of found) 0) i j
    by (Some lexeme.Word) got = (sound_named i found j got).took
    by (Some lexeme.Open) got = sound_parens i found j got
    by _ got = sound_constant i found j got
