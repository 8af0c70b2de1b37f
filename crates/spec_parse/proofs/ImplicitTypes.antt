-- Types and groups of letters in IMPLICIT statements, as pieces.
use Rattle.std.proofs.Common.{◌≡◌, refl, sym, ◌∙◌, ap, subst, ℕ, ◌+◌, Bool, true, false, not, ◌&&◌, List, [], ◌∷◌, ◌++◌, length, Option, Some, None, ◌⊎◌, inl, inr, codes, append_assoc}
use Rattle.std.specs.Str.{bytes_eq}
use Rattle.std.proofs.lemmas.Bool.{and_from, and_left, and_right, or_from, or_left, or_right}
use Rattle.ftn_tree.specs.declared.token.Token.{Token}
use Rattle.ftn_tree.specs.declared.expr.Expr.{Expr, out-Expr}
use Rattle.ftn_tree.specs.declared.lexeme.Lexeme.{Lexeme}
use Rattle.ftn_tree.specs.declared.lexeme.Lexeme.TheVariants.{Word, Whole, Open, Times, Comma}
use Rattle.ftn_tree.specs.declared.parts.ImplicitType.{ImplicitType}
use Rattle.ftn_tree.specs.declared.parts.ImplicitType.TheVariants.{Real, Known}
use Rattle.ftn_tree.specs.declared.parts.TypeSpec.TheVariants.{Integer, Logical, Character}
use Rattle.ftn_tree.specs.declared.parts.LengthSelector.{LengthSelector}
use Rattle.ftn_tree.specs.declared.parts.LengthSelector.TheVariants.{Star, Paren}
use Rattle.ftn_tree.specs.declared.parts.LengthValue.TheVariants.{Assumed, Given}
use Rattle.ftn_tree.specs.declared.parts.LetterRange.{LetterRange}
use Rattle.ftn_tree.specs.declared.parts.LetterGroup.{LetterGroup}
use Rattle.ftn_tree.specs.Lexemes.{lexeme_of, is_word, is_word_at, is_text, same_lexeme}
use Rattle.ftn_tree.specs.Phrases.{word, commas}
use Rattle.ftn_tree.specs.TypeForms as text
use Rattle.ftn_tree.specs.UnitForms as written
use Rattle.ftn_tree.specs.UnitForms.{is_whole_at}
use Rattle.expr_parse.specs.steps.Input.{Input, input, sees_word}
use Rattle.expr_parse.proofs.AllKinds.{apart}
use Rattle.expr_parse.proofs.Lists.{list}
use Rattle.expr_parse.proofs.Pieces.{Piece, Apart, begins, seq}
use Rattle.expr_parse.proofs.Tokens.{only, none_of, word_piece, word_made, word_back, after_word, is_same}
use Rattle.spec_parse.specs.steps.Implicits.{group_of, is_plain, is_length}
use Rattle.spec_parse.proofs.Either.{either, rephrased}
use Rattle.spec_parse.proofs.ImplicitLengths.{length_piece, length_made, length_back, given_piece, paren_text}
use Rattle.spec_parse.proofs.Letters.{ranges_piece}
use Rattle.ftn_tree.proofs.PhraseLaws.{led_by, drop_end, add_end}
use Rattle.spec_parse.proofs.Seen.{Starts, starts_word_at, starts_first, shows, hides}
use Rattle.spec_parse.proofs.Wholes.{made_of, image}
use Rattle.spec_parse.proofs.WordKinds.{is_word_kind}
use Rattle.ftn_tree.proofs.Namings.{text_is}

-- ---- types

abbrev pub real_of : ℕ → ImplicitType
real_of number = Real

abbrev pub integer_of : ℕ → ImplicitType
integer_of number = Known Integer

abbrev pub logical_of : ℕ → ImplicitType
logical_of number = Known Logical

abbrev pub character_of : LengthSelector → ImplicitType
character_of found = Known (Character (Some found))

abbrev pub real_piece : Piece ImplicitType
real_piece = made_of (word_piece (codes "real")) real_of

abbrev pub integer_piece : Piece ImplicitType
integer_piece = made_of (word_piece (codes "integer")) integer_of

abbrev pub logical_piece : Piece ImplicitType
logical_piece = made_of (word_piece (codes "logical")) logical_of

abbrev pub character_parts : Piece LengthSelector
character_parts = after_word (codes "character") length_piece

abbrev pub character_piece : Piece ImplicitType
character_piece = made_of character_parts character_of

-- the word that a type begins with
pub real_starts : (ty : ImplicitType) (at : ℕ) (tokens : List Token) → real_piece.phrase ty at tokens → Starts (codes "real") tokens
real_starts ty at tokens (number, same, says) = starts_word_at number (codes "real") at tokens says

pub integer_starts : (ty : ImplicitType) (at : ℕ) (tokens : List Token) → integer_piece.phrase ty at tokens → Starts (codes "integer") tokens
integer_starts ty at tokens (number, same, says) = starts_word_at number (codes "integer") at tokens says

pub logical_starts : (ty : ImplicitType) (at : ℕ) (tokens : List Token) → logical_piece.phrase ty at tokens → Starts (codes "logical") tokens
logical_starts ty at tokens (number, same, says) = starts_word_at number (codes "logical") at tokens says

pub character_starts : (ty : ImplicitType) (at : ℕ) (tokens : List Token) → character_piece.phrase ty at tokens → Starts (codes "character") tokens
character_starts ty at tokens (found, same, says) = starts_first (codes "character") (length_piece.phrase found) at tokens says

abbrev pub two_types : Piece ImplicitType
two_types = either (sees_word (codes "logical")) logical_piece character_piece none_of
    (λ ty at tokens rest says stops. shows (codes "logical") at tokens rest (logical_starts ty at tokens says))
    (λ ty at tokens rest says stops none. hides (codes "character") (codes "logical") at tokens rest refl (character_starts ty at tokens says))

pub two_hide : (ty : ImplicitType) (at : ℕ) (tokens rest : List Token) → logical_piece.phrase ty at tokens ⊎ character_piece.phrase ty at tokens → sees_word (codes "integer") (input at (tokens ++ rest)) ≡ false
two_hide ty at tokens rest (inl says) = hides (codes "logical") (codes "integer") at tokens rest refl (logical_starts ty at tokens says)
two_hide ty at tokens rest (inr says) = hides (codes "character") (codes "integer") at tokens rest refl (character_starts ty at tokens says)

abbrev pub three_types : Piece ImplicitType
three_types = either (sees_word (codes "integer")) integer_piece two_types none_of
    (λ ty at tokens rest says stops. shows (codes "integer") at tokens rest (integer_starts ty at tokens says))
    (λ ty at tokens rest says stops none. two_hide ty at tokens rest says)

pub three_hide : (ty : ImplicitType) (at : ℕ) (tokens rest : List Token) → integer_piece.phrase ty at tokens ⊎ (logical_piece.phrase ty at tokens ⊎ character_piece.phrase ty at tokens)
    → sees_word (codes "real") (input at (tokens ++ rest)) ≡ false
three_hide ty at tokens rest (inl says) = hides (codes "integer") (codes "real") at tokens rest refl (integer_starts ty at tokens says)
three_hide ty at tokens rest (inr (inl says)) = hides (codes "logical") (codes "real") at tokens rest refl (logical_starts ty at tokens says)
three_hide ty at tokens rest (inr (inr says)) = hides (codes "character") (codes "real") at tokens rest refl (character_starts ty at tokens says)

-- a type, but CHARACTER without a length
abbrev pub type_piece : Piece ImplicitType
type_piece = either (sees_word (codes "real")) real_piece three_types none_of
    (λ ty at tokens rest says stops. shows (codes "real") at tokens rest (real_starts ty at tokens says))
    (λ ty at tokens rest says stops none. three_hide ty at tokens rest says)

pub type_made : (ty : ImplicitType) (at : ℕ) (tokens : List Token) → type_piece.phrase ty at tokens → written.implicit_type ty at tokens
type_made ty at tokens (inl (number, same, says)) = subst (λ ty. written.implicit_type ty at tokens) same (word_made (codes "real") number at tokens says)
type_made ty at tokens (inr (inl (number, same, says))) = subst (λ ty. written.implicit_type ty at tokens) same (refl, word_made (codes "integer") number at tokens says)
type_made ty at tokens (inr (inr (inl (number, same, says)))) = subst (λ ty. written.implicit_type ty at tokens) same (refl, word_made (codes "logical") number at tokens says)
type_made ty at tokens (inr (inr (inr (found, same, (before, after, split, says, says_length))))) =
    let (passes, says_found) = length_made found (at + length before) after says_length in
    subst (λ ty. written.implicit_type ty at tokens) same (passes, (before, after, split, says, says_found))

-- ---- groups

pub open_type : Apart ranges_piece.first type_piece.more
unfolding same_lexeme
open_type = apart ranges_piece.first type_piece.more refl

abbrev pub plain_parts : Piece (List LetterRange)
plain_parts = after_word (codes "character") ranges_piece

abbrev pub typed_parts : Piece (ImplicitType × List LetterRange)
typed_parts = seq type_piece ranges_piece open_type

abbrev pub plain_of : List LetterRange → LetterGroup
plain_of all = group_of (Known (Character None)) all

abbrev pub typed_of : ImplicitType × List LetterRange → LetterGroup
typed_of both = group_of both.0 both.1

pub no_longer : (byte : ℕ) (found : Bool) → bytes_eq (byte ∷ []) (codes "len") ≡ found → found ≡ false
no_longer byte true is = let same : byte ∷ [] ≡ codes "len" = text_is (byte ∷ []) (codes "len") is in absurd (too_short byte same) where
  too_short : (byte : ℕ) → byte ∷ [] ≡ codes "len" → ⊥
  too_short byte same = cc same
no_longer byte false is = refl

pub word_no_whole : (kind : Lexeme) → kind ≡ Word → same_lexeme kind Whole ≡ false
unfolding same_lexeme
word_no_whole kind is = ap (λ kind. same_lexeme kind Whole) is

pub times_no_open : (kind : Lexeme) → kind ≡ Times → same_lexeme kind Open ≡ false
unfolding same_lexeme
times_no_open kind is = ap (λ kind. same_lexeme kind Open) is

-- a letter begins no length
pub letter_no_length : (here : Token) (byte : ℕ) → lexeme_of here ≡ Word → here.value ≡ byte ∷ [] → is_length here ≡ false
letter_no_length here byte is value_is = or_from (same_lexeme (lexeme_of here) Whole) (is_word (codes "len") here) (word_no_whole (lexeme_of here) is)
    (ap (λ kind. is_word_at kind here.value (codes "len")) (is_word_kind here.kind here.value is) ∙ ap (λ value. is_text value (codes "len")) value_is
    ∙ no_longer byte (bytes_eq (byte ∷ []) (codes "len")) refl)

pub record FirstLetter (tokens : List Token) : Type 0 where
  pub here : Token
  pub after : List Token
  pub split : tokens ≡ here ∷ after
  pub none : is_length here ≡ false

pub letters_first : (first : ℕ) (last : Option ℕ) (at : ℕ) (tokens : List Token) → written.letters first last at tokens → FirstLetter tokens
letters_first first None at tokens (byte, (here, split, (is_at, is, value_is))) = record { here = here; after = []; split = split; none = letter_no_length here byte is value_is }
letters_first first (Some last) at tokens (byte, other, ordered, (before, after, split, (here, alone, (is_at, is, value_is)), says)) =
    record { here = here; after = after; split = led_by here before after after tokens split alone refl; none = letter_no_length here byte is value_is }

pub commas_first : (all : List LetterRange) (at : ℕ) (tokens : List Token) → commas written.letter_range all at tokens → FirstLetter tokens
commas_first [] at tokens says = absurd says
commas_first (range ∷ all) at tokens (before, after, split, says, says_more) =
    let first = letters_first range.first range.last at before says in
    record { here = first.here; after = first.after ++ after; split = split ∙ ap (λ before. before ++ after) first.split; none = first.none }

pub plain_of_three : (one two three : Token) (rest : List Token) → is_word (codes "character") one ≡ true → lexeme_of two ≡ Open → is_length three ≡ false → is_plain (one ∷ two ∷ three ∷ rest) ≡ true
unfolding is_plain
plain_of_three one two three rest is opens none =
    and_from (is_word (codes "character") one) (same_lexeme (lexeme_of two) Open && not (is_length three)) is
    (and_from (same_lexeme (lexeme_of two) Open) (not (is_length three)) (is_same (lexeme_of two) Open opens) (ap not none))

pub plain_is : (all : List LetterRange) (at : ℕ) (tokens rest : List Token) → plain_parts.phrase all at tokens → is_plain (tokens ++ rest) ≡ true
plain_is all at tokens rest (b1, a1, s1, (t1, o1, i1), (b2, a2, s2, (t2, o2, i2), (b3, a3, s3, says, closes))) =
    let first = commas_first all (at + length b1 + length b2) b3 says in
    let third : a2 ≡ first.here ∷ (first.after ++ a3) = s3 ∙ ap (λ b. b ++ a3) first.split in
    subst (λ tokens. is_plain (tokens ++ rest) ≡ true) (sym (led_by t1 b1 a1 (t2 ∷ first.here ∷ (first.after ++ a3)) tokens s1 o1 (led_by t2 b2 a2 (first.here ∷ (first.after ++ a3)) a1 s2 o2 third)))
    (plain_of_three t1 t2 first.here ((first.after ++ a3) ++ rest) i1 i2 first.none)

pub not_character : (at : ℕ) (tokens : List Token) → sees_word (codes "character") (input at tokens) ≡ false → is_plain tokens ≡ false
unfolding is_plain sees_word
not_character at [] e = refl
not_character at (one ∷ []) e = refl
not_character at (one ∷ two ∷ []) e = refl
not_character at (one ∷ two ∷ three ∷ rest) e = and_left (is_word (codes "character") one) (same_lexeme (lexeme_of two) Open && not (is_length three)) e

pub not_open : (one two : Token) (rest : List Token) → same_lexeme (lexeme_of two) Open ≡ false → is_plain (one ∷ two ∷ rest) ≡ false
unfolding is_plain
not_open one two [] e = refl
not_open one two (three ∷ rest) e =
    and_right (is_word (codes "character") one) (same_lexeme (lexeme_of two) Open && not (is_length three)) (and_left (same_lexeme (lexeme_of two) Open) (not (is_length three)) e)

pub length_third : (one two three : Token) (rest : List Token) → is_length three ≡ true → is_plain (one ∷ two ∷ three ∷ rest) ≡ false
unfolding is_plain
length_third one two three rest e =
    and_right (is_word (codes "character") one) (same_lexeme (lexeme_of two) Open && not (is_length three)) (and_right (same_lexeme (lexeme_of two) Open) (not (is_length three)) (ap not e))

pub starts_no_plain : (word_text : List ℕ) (at : ℕ) (before after rest tokens : List Token) → bytes_eq word_text (codes "character") ≡ false → Starts word_text before → tokens ≡ before ++ after → is_plain (tokens ++ rest) ≡ false
starts_no_plain word_text at before after rest tokens apart starts split =
    subst (λ tokens. is_plain (tokens ++ rest) ≡ false) (sym split)
    (subst (λ tokens. is_plain tokens ≡ false) (sym (append_assoc before after rest)) (not_character at (before ++ (after ++ rest)) (hides word_text (codes "character") at before (after ++ rest) apart starts)))

-- the third token of CHARACTER with a length in parentheses
pub record FirstLength (tokens : List Token) : Type 0 where
  pub here : Token
  pub after : List Token
  pub split : tokens ≡ here ∷ after
  pub is : is_length here ≡ true

pub whole_first : (tokens : List Token) → begins (only Whole) tokens ≡ true → FirstLength tokens
whole_first [] e = absurd (cc e)
whole_first (here ∷ rest) e = record { here = here; after = rest; split = refl; is = or_left (same_lexeme (lexeme_of here) Whole) (is_word (codes "len") here) e }

pub length_first : (has_word : Bool) (found : Expr) (at : ℕ) (tokens : List Token) → is_whole_at (out-Expr found) ≡ true → text.paren_length has_word (Given found) at tokens → FirstLength tokens
length_first true found at tokens passes (before, after, split, (here, alone, is), says) =
    record { here = here; after = after; split = led_by here before after after tokens split alone refl; is = or_right (same_lexeme (lexeme_of here) Whole) (is_word (codes "len") here) is }
length_first false found at tokens passes says = by (given_piece.begun found at tokens (passes, says)) where
  by : (begins given_piece.first tokens ≡ true) ⊎ ((tokens ≡ []) × (false ≡ true)) → FirstLength tokens
  by (inl e) = whole_first tokens e
  by (inr e) = absurd (cc e.1)

pub paren_first : (found : LengthSelector) (at : ℕ) (tokens : List Token) → paren_text found at tokens → (open_mark : Token) × (after : List Token) × (tokens ≡ open_mark ∷ after) × FirstLength after
paren_first (Star found) at tokens says = absurd says
paren_first (Paren has_word Assumed) at tokens (passes, says) = absurd (cc passes)
paren_first (Paren has_word (Given found)) at tokens (passes, (b1, a1, s1, (t1, o1, i1), (b2, a2, s2, says, closes))) =
    let first = length_first has_word found (at + length b1) b2 passes says in
    (t1, a1, led_by t1 b1 a1 a1 tokens s1 o1 refl, record { here = first.here; after = first.after ++ a2; split = s2 ∙ ap (λ b. b ++ a2) first.split; is = first.is })

pub character_no_plain : (found : LengthSelector) (at : ℕ) (before after rest tokens : List Token) → character_parts.phrase found at before → tokens ≡ before ++ after → is_plain (tokens ++ rest) ≡ false
character_no_plain found at before after rest tokens (b1, a1, s1, (t1, o1, i1), inl (b2, a2, s2, (t2, o2, i2), says)) split =
    let all = split ∙ ap (λ b. b ++ after) (led_by t1 b1 a1 (t2 ∷ a2) before s1 o1 (led_by t2 b2 a2 a2 a1 s2 o2 refl)) in
    subst (λ tokens. is_plain (tokens ++ rest) ≡ false) (sym all) (not_open t1 t2 ((a2 ++ after) ++ rest) (times_no_open (lexeme_of t2) i2))
character_no_plain found at before after rest tokens (b1, a1, s1, (t1, o1, i1), inr says) split =
    let (t2, a2, s2, first) = paren_first found (at + length b1) a1 says in
    let all = split ∙ ap (λ b. b ++ after) (led_by t1 b1 a1 (t2 ∷ first.here ∷ first.after) before s1 o1 (s2 ∙ ap (λ a. t2 ∷ a) first.split)) in
    subst (λ tokens. is_plain (tokens ++ rest) ≡ false) (sym all) (length_third t1 t2 first.here ((first.after ++ after) ++ rest) first.is)

pub typed_is : (both : ImplicitType × List LetterRange) (at : ℕ) (tokens rest : List Token) → typed_parts.phrase both at tokens → is_plain (tokens ++ rest) ≡ false
typed_is both at tokens rest (before, after, split, inl says, says_ranges) = starts_no_plain (codes "real") at before after rest tokens refl (real_starts both.0 at before says) split
typed_is both at tokens rest (before, after, split, inr (inl says), says_ranges) = starts_no_plain (codes "integer") at before after rest tokens refl (integer_starts both.0 at before says) split
typed_is both at tokens rest (before, after, split, inr (inr (inl says)), says_ranges) = starts_no_plain (codes "logical") at before after rest tokens refl (logical_starts both.0 at before says) split
typed_is both at tokens rest (before, after, split, inr (inr (inr (found, same, says))), says_ranges) = character_no_plain found at before after rest tokens says split

abbrev pub plain_piece : Piece LetterGroup
plain_piece = made_of plain_parts plain_of

abbrev pub typed_piece : Piece LetterGroup
typed_piece = made_of typed_parts typed_of

abbrev pub by_three : Input → Bool
by_three i = is_plain i.rest

abbrev pub either_group : Piece LetterGroup
either_group = either by_three plain_piece typed_piece none_of
    (λ group at tokens rest says stops. plain_is says.0 at tokens rest says.2)
    (λ group at tokens rest says stops none. typed_is says.0 at tokens rest says.2)

pub group_made : (group : LetterGroup) (at : ℕ) (tokens : List Token) → image plain_parts plain_of group at tokens ⊎ image typed_parts typed_of group at tokens → written.letter_group group at tokens
group_made group at tokens (inl (all, same, (before, after, split, says, says_ranges))) =
    subst (λ group. written.letter_group group at tokens) same (before, after, split, (refl, add_end (word (codes "character")) at before says), says_ranges)
group_made group at tokens (inr (both, same, (before, after, split, says, says_ranges))) =
    subst (λ group. written.letter_group group at tokens) same (before, after, split, type_made both.0 at before says, says_ranges)

pub group_back_by : (ty : ImplicitType) (all : List LetterRange) (at : ℕ) (tokens : List Token) → written.letter_group (group_of ty all) at tokens
    → image plain_parts plain_of (group_of ty all) at tokens ⊎ image typed_parts typed_of (group_of ty all) at tokens
group_back_by Real all at tokens (before, after, split, says, says_ranges) =
    let (number, says_number) = word_back (codes "real") at before says in inr ((Real, all), refl, (before, after, split, inl (number, refl, says_number), says_ranges))
group_back_by (Known Integer) all at tokens (before, after, split, (passes, says), says_ranges) =
    let (number, says_number) = word_back (codes "integer") at before says in inr ((Known Integer, all), refl, (before, after, split, inr (inl (number, refl, says_number)), says_ranges))
group_back_by (Known Logical) all at tokens (before, after, split, (passes, says), says_ranges) =
    let (number, says_number) = word_back (codes "logical") at before says in inr ((Known Logical, all), refl, (before, after, split, inr (inr (inl (number, refl, says_number))), says_ranges))
group_back_by (Known (Character None)) all at tokens (before, after, split, (passes, says), says_ranges) =
    inl (all, refl, (before, after, split, drop_end (word (codes "character")) at before says, says_ranges))
group_back_by (Known (Character (Some found))) all at tokens (before, after, split, (passes, (b, a, s, says, says_length)), says_ranges) =
    inr ((Known (Character (Some found)), all), refl, (before, after, split, inr (inr (inr (found, refl, (b, a, s, says, length_back found (at + length b) a (passes, says_length))))), says_ranges))

pub group_back : (group : LetterGroup) (at : ℕ) (tokens : List Token) → written.letter_group group at tokens → image plain_parts plain_of group at tokens ⊎ image typed_parts typed_of group at tokens
group_back group at tokens says = group_back_by group.ty group.ranges at tokens says

abbrev pub group_piece : Piece LetterGroup
group_piece = rephrased either_group written.letter_group group_made group_back

pub comma_group : Apart (only Comma) group_piece.more
unfolding same_lexeme
comma_group = apart (only Comma) group_piece.more refl

abbrev pub groups_piece : Piece (List LetterGroup)
groups_piece = list group_piece refl comma_group

-- ---- the first word of groups

pub starts_longer : (word_text : List ℕ) (tokens rest : List Token) → Starts word_text tokens → Starts word_text (tokens ++ rest)
starts_longer word_text [] rest e = absurd (cc e)
starts_longer word_text (here ∷ tokens) rest e = e

-- they begin with a word that isn't NONE
pub record NotNone (tokens : List Token) : Type 0 where
  pub word_text : List ℕ
  pub apart_is : bytes_eq word_text (codes "none") ≡ false
  pub starts : Starts word_text tokens

pub not_none : (word_text : List ℕ) (before after tokens : List Token) → bytes_eq word_text (codes "none") ≡ false → Starts word_text before → tokens ≡ before ++ after → NotNone tokens
not_none word_text before after tokens apart_is starts split =
    record { word_text = word_text; apart_is = apart_is; starts = subst (λ tokens. Starts word_text tokens) (sym split) (starts_longer word_text before after starts) }

pub group_no_none : (group : LetterGroup) (at : ℕ) (tokens : List Token) → image plain_parts plain_of group at tokens ⊎ image typed_parts typed_of group at tokens → NotNone tokens
group_no_none group at tokens (inl (all, same, says)) = record { word_text = codes "character"; apart_is = refl; starts = starts_first (codes "character") (ranges_piece.phrase all) at tokens says }
group_no_none group at tokens (inr (both, same, (before, after, split, inl says, rest))) = not_none (codes "real") before after tokens refl (real_starts both.0 at before says) split
group_no_none group at tokens (inr (both, same, (before, after, split, inr (inl says), rest))) = not_none (codes "integer") before after tokens refl (integer_starts both.0 at before says) split
group_no_none group at tokens (inr (both, same, (before, after, split, inr (inr (inl says)), rest))) = not_none (codes "logical") before after tokens refl (logical_starts both.0 at before says) split
group_no_none group at tokens (inr (both, same, (before, after, split, inr (inr (inr says)), rest))) = not_none (codes "character") before after tokens refl (character_starts both.0 at before says) split

pub groups_no_none : (all : List LetterGroup) (at : ℕ) (tokens : List Token) → commas written.letter_group all at tokens → NotNone tokens
groups_no_none [] at tokens says = absurd says
groups_no_none (group ∷ all) at tokens (before, after, split, says, more) =
    let first = group_no_none group at before (group_back group at before says) in not_none first.word_text before after tokens first.apart_is first.starts split

pub hides_none : (all : List LetterGroup) (at : ℕ) (tokens rest : List Token) → commas written.letter_group all at tokens → sees_word (codes "none") (input at (tokens ++ rest)) ≡ false
hides_none all at tokens rest says = let first = groups_no_none all at tokens says in hides first.word_text (codes "none") at tokens rest first.apart_is first.starts
