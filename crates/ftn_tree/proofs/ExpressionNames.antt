-- The names in expressions.
use Rattle.std.proofs.Common.{◌≡◌, ◌≢◌, inl, refl, sym, ◌∙◌, ap, ℕ, ℤ, Bool, true, false, List, [], ◌++◌, Option, Some, None}
use Rattle.std.specs.List.{flat_map}
use Rattle.ftn_tree.specs.declared.expr.Expr.{Expr}
use Rattle.ftn_tree.specs.declared.expr.Expr.TheVariants as e
use Rattle.ftn_tree.specs.declared.expr.Expr.TheOpen.{Expr-F}
use Rattle.ftn_tree.specs.declared.expr.Expr.TheViews.{roll-Part}
use Rattle.ftn_tree.specs.declared.expr.Expr.TheFolds.{fold-roll-Expr, fold-roll-Part}
use Rattle.ftn_tree.specs.declared.lexeme.Lexeme.TheVariants as lexeme
use Rattle.ftn_tree.specs.declared.mention.Mention.{Mention}
use Rattle.ftn_tree.specs.declared.operator.Operator.{Operator}
use Rattle.ftn_tree.specs.declared.token.Token.{Token}
use Rattle.ftn_tree.specs.Expressions.{role_with, mentions_step, part_mentions_step, mentions_in, mentions_in_args, mentions_in_bound, mentions_in_part}
use Rattle.ftn_tree.specs.Grammar.{IsBetween, IsBefore, truth_lexeme, IsNumber, some_level, Spells, SpellsArgs, SpellsList, SpellsMore, SpellsSection, SpellsEnd, expr, reference}
use Rattle.ftn_tree.specs.Levels.{Binding, Prefix, between, before}
use Rattle.ftn_tree.specs.Lexemes.{lexeme_of}
use Rattle.ftn_tree.specs.Misfits.{is_word_token_at}
use Rattle.ftn_tree.specs.Phrases.{Phrase, token, mark_at}
use Rattle.ftn_tree.specs.Roles.{mention}
use Rattle.ftn_tree.specs.Trees.{Tree, Trees, Args, Section, End, whole, truth, quoted, paren, unary, binary, refer, no_args, args, none, more, no_section, section, no_end, end, tree_of}
use Rattle.ftn_tree.proofs.ExpressionLemmas.{mentions_of_reference}
use Rattle.ftn_tree.proofs.Inverse.{expr_of, args_back, exprs_of, part_back, end_back, same_expr}
use Rattle.ftn_tree.proofs.Namings.{Names, none_named, both, token_named, other_kind, mark_named, mark_at_named, name_named, same_names, ended, parens_named, provided_named}

-- ---- the names in a tree, one layer at a time

in_whole : (number : ℕ) (value : ℤ) → mentions_in (e.Whole number value) ≡ []
in_whole number value = ap mentions_in (sym (e.rolls-Whole number value)) ∙ fold-roll-Expr (List Mention) (List Mention) mentions_step part_mentions_step (Expr-F.Whole number value)

in_truth : (number : ℕ) (value : Bool) → mentions_in (e.Truth number value) ≡ []
in_truth number value = ap mentions_in (sym (e.rolls-Truth number value)) ∙ fold-roll-Expr (List Mention) (List Mention) mentions_step part_mentions_step (Expr-F.Truth number value)

in_quoted : (number : ℕ) (value : List ℕ) → mentions_in (e.Quoted number value) ≡ []
in_quoted number value = ap mentions_in (sym (e.rolls-Quoted number value)) ∙ fold-roll-Expr (List Mention) (List Mention) mentions_step part_mentions_step (Expr-F.Quoted number value)

in_paren : (number : ℕ) (inner : Expr) → mentions_in (e.Paren number inner) ≡ mentions_in inner
in_paren number inner = ap mentions_in (sym (e.rolls-Paren number inner)) ∙ fold-roll-Expr (List Mention) (List Mention) mentions_step part_mentions_step (Expr-F.Paren number inner)

in_unary : (number : ℕ) (operator : Operator) (operand : Expr) → mentions_in (e.Unary number operator operand) ≡ mentions_in operand
in_unary number operator operand =
    ap mentions_in (sym (e.rolls-Unary number operator operand)) ∙ fold-roll-Expr (List Mention) (List Mention) mentions_step part_mentions_step (Expr-F.Unary number operator operand)

in_binary : (number : ℕ) (operator : Operator) (left right : Expr) → mentions_in (e.Binary number operator left right) ≡ mentions_in left ++ mentions_in right
in_binary number operator left right =
    ap mentions_in (sym (e.rolls-Binary number operator left right)) ∙ fold-roll-Expr (List Mention) (List Mention) mentions_step part_mentions_step (Expr-F.Binary number operator left right)

in_part : (low high : Option Expr) → mentions_in_part (Some (roll-Part (record { low = low; high = high }))) ≡ mentions_in_bound low ++ mentions_in_bound high
in_part None None = fold-roll-Part (List Mention) (List Mention) mentions_step part_mentions_step (record { low = None; high = None })
in_part None (Some high) = fold-roll-Part (List Mention) (List Mention) mentions_step part_mentions_step (record { low = None; high = Some high })
in_part (Some low) None = fold-roll-Part (List Mention) (List Mention) mentions_step part_mentions_step (record { low = Some low; high = None })
in_part (Some low) (Some high) = fold-roll-Part (List Mention) (List Mention) mentions_step part_mentions_step (record { low = Some low; high = Some high })

-- ---- tokens that are no names

pub number_named : {letters : Bool} (number : ℕ) (value : ℤ) → Names letters (token (λ at here. (number ≡ at) × IsNumber here value)) []
number_named number value = token_named _ _ (λ at here says. inl (other_kind here lexeme.Whole refl says.1.digits))

pub quoted_named : {letters : Bool} (number : ℕ) (value : List ℕ) → Names letters (token (λ at here. (number ≡ at) × (lexeme_of here ≡ lexeme.Quoted) × (value ≡ here.value))) []
quoted_named number value = token_named _ _ (λ at here says. inl (other_kind here lexeme.Quoted refl says.1))

no_word : (value : Bool) → is_word_token_at (truth_lexeme value) ≡ false
no_word true = refl
no_word false = refl

pub truth_named : {letters : Bool} (number : ℕ) (value : Bool) → Names letters (mark_at number (truth_lexeme value)) []
truth_named number value = mark_at_named number (truth_lexeme value) (no_word value)

between_named : {letters : Bool} (number : ℕ) (how : Binding) → Names letters (token (λ at here. (number ≡ at) × IsBetween here how)) []
between_named number how = token_named _ _ (λ at here says. inl (λ word. no_operator here how says.1 word)) where
  no_operator : (here : Token) (how : Binding) → IsBetween here how → lexeme_of here ≢ lexeme.Word
  no_operator here how says word = let e : None ≡ Some how = ap between (sym word) ∙ says in cc

before_named : {letters : Bool} (number : ℕ) (how : Prefix) → Names letters (token (λ at here. (number ≡ at) × IsBefore here how)) []
before_named number how = token_named _ _ (λ at here says. inl (λ word. no_operator here how says.1 word)) where
  no_operator : (here : Token) (how : Prefix) → IsBefore here how → lexeme_of here ≢ lexeme.Word
  no_operator here how says word = let e : None ≡ Some how = ap before (sym word) ∙ says in cc

-- ---- trees

level_named : {letters : Bool} (phrase : ℕ → Phrase) (mentions : List Mention) → ((level : ℕ) → Names letters (phrase level) mentions) → Names letters (some_level phrase) mentions
level_named phrase mentions named = record {
  say = λ at tokens says. (named says.0).say at tokens says.2;
  free = λ at tokens others says alike. (says.0, says.1, (named says.0).free at tokens others says.2 alike);
}

-- a primary, whose level is 0
primary_named : {letters : Bool} (tree : Tree) (phrase : Phrase) (mentions : List Mention) → Names letters phrase mentions
    → ((level at : ℕ) (tokens : List Token) → Spells tree level at tokens → (level ≡ 0) × phrase at tokens)
    → ((level at : ℕ) (tokens : List Token) → (level ≡ 0) × phrase at tokens → Spells tree level at tokens) → (level : ℕ) → Names letters (Spells tree level) mentions
primary_named tree phrase mentions named said spells level = record {
  say = λ at tokens says. named.say at tokens (said level at tokens says).1;
  free = λ at tokens others says alike.
      let (zero, is) = said level at tokens says in spells level at others (zero, named.free at tokens others is alike);
}

unary_named : {letters : Bool} {mentions : List Mention} (number : ℕ) (operator : Operator) (operand : Tree) (level : ℕ)
    → ((level : ℕ) → Names letters (Spells operand level) mentions) → Names letters (Spells (unary number operator operand) level) mentions
unary_named number operator operand level named =
    record {
      say = λ at tokens says. let (how, is, level_is, k, small, spelled) = says in (both (before_named number how) (named k)).say at tokens spelled;
      free = λ at tokens others says alike. let (how, is, level_is, k, small, spelled) = says in
          (how, is, level_is, k, small, (both (before_named number how) (named k)).free at tokens others spelled alike);
    }

binary_named : {letters : Bool} {first second : List Mention} (number : ℕ) (operator : Operator) (left right : Tree) (level : ℕ)
    → ((level : ℕ) → Names letters (Spells left level) first) → ((level : ℕ) → Names letters (Spells right level) second)
    → Names letters (Spells (binary number operator left right) level) (first ++ second)
binary_named number operator left right level named named_right =
    record {
      say = λ at tokens says. let (how, is, level_is, j, small, k, less, spelled) = says in
          (both (named j) (both (between_named number how) (named_right k))).say at tokens spelled;
      free = λ at tokens others says alike. let (how, is, level_is, j, small, k, less, spelled) = says in
          (how, is, level_is, j, small, k, less, (both (named j) (both (between_named number how) (named_right k))).free at tokens others spelled alike);
    }

mutual
  tree_named : (letters : Bool) (tree : Tree) (level : ℕ) → Names letters (Spells tree level) (mentions_in (expr_of tree))
  tree_named letters (whole number value) level =
      same_names (sym (in_whole number value)) (primary_named (whole number value) _ _ (number_named number value) (λ level at tokens says. says) (λ level at tokens says. says) level)
  tree_named letters (truth number value) level =
      same_names (sym (in_truth number value)) (primary_named (truth number value) _ _ (truth_named number value) (λ level at tokens says. says) (λ level at tokens says. says) level)
  tree_named letters (quoted number value) level =
      same_names (sym (in_quoted number value)) (primary_named (quoted number value) _ _ (quoted_named number value) (λ level at tokens says. says) (λ level at tokens says. says) level)
  tree_named letters (paren number inner) level =
      same_names (sym (in_paren number (expr_of inner)))
      (primary_named (paren number inner) _ _
      (both (mark_at_named number lexeme.Open refl) (ended (level_named (Spells inner) _ (tree_named letters inner)) (mark_named lexeme.Close refl)))
      (λ level at tokens says. says) (λ level at tokens says. says) level)
  tree_named letters (unary number operator operand) level =
      same_names (sym (in_unary number operator (expr_of operand))) (unary_named number operator operand level (λ level. tree_named letters operand level))
  tree_named letters (binary number operator left right) level =
      same_names (sym (in_binary number operator (expr_of left) (expr_of right)))
      (binary_named number operator left right level (λ level. tree_named letters left level) (λ level. tree_named letters right level))
  tree_named letters (refer number given part) level =
      same_names (sym (mentions_of_reference number (args_back given) (part_back part)))
      (primary_named (refer number given part) _ _
      (both (name_named (mention number (role_with (args_back given) (part_back part)))) (both (args_named letters given) (section_named letters part)))
      (λ level at tokens says. says) (λ level at tokens says. says) level)

  args_named : (letters : Bool) (given : Args) → Names letters (SpellsArgs given) (mentions_in_args (args_back given))
  args_named letters no_args = none_named
  args_named letters (args trees) = parens_named (list_named letters trees)

  list_named : (letters : Bool) (trees : Trees) → Names letters (SpellsList trees) (flat_map mentions_in (exprs_of trees))
  list_named letters none = none_named
  list_named letters (more tree trees) = both (level_named (Spells tree) _ (tree_named letters tree)) (more_named letters trees)

  more_named : (letters : Bool) (trees : Trees) → Names letters (SpellsMore trees) (flat_map mentions_in (exprs_of trees))
  more_named letters none = none_named
  more_named letters (more tree trees) = both (mark_named lexeme.Comma refl) (both (level_named (Spells tree) _ (tree_named letters tree)) (more_named letters trees))

  section_named : (letters : Bool) (part : Section) → Names letters (SpellsSection part) (mentions_in_part (part_back part))
  section_named letters no_section = none_named
  section_named letters (section low high) =
      same_names (sym (in_part (end_back low) (end_back high)))
      (parens_named (both (end_named letters low) (both (mark_named lexeme.Colon refl) (end_named letters high))))

  end_named : (letters : Bool) (bound : End) → Names letters (SpellsEnd bound) (mentions_in_bound (end_back bound))
  end_named letters no_end = none_named
  end_named letters (end tree) = level_named (Spells tree) _ (tree_named letters tree)

pub expr_named : {letters : Bool} (found : Expr) → Names letters (expr found) (mentions_in found)
expr_named found = same_names (ap mentions_in (same_expr found)) (level_named (Spells (tree_of found)) _ (tree_named _ (tree_of found)))

pub reference_named : {letters : Bool} (found : Expr) → Names letters (reference found) (mentions_in found)
reference_named found = provided_named _ (expr_named found)
