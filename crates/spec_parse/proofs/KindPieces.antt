-- Attributes of all kinds are read as they are written.
use Rattle.std.proofs.Common.{◌≡◌, refl, ◌∙◌, ap, ℕ, true, false, ◌||◌, List, ◌++◌, ◌⊎◌, inl, inr, codes, if◌then◌else◌}
use Rattle.std.specs.Str.{bytes_eq}
use Rattle.std.proofs.lemmas.Bool.{or_left, or_right, or_from}
use Rattle.ftn_tree.specs.declared.token.Token.{Token}
use Rattle.ftn_tree.specs.declared.parts.BoundPair.{BoundPair}
use Rattle.ftn_tree.specs.declared.parts.AccessWord.{AccessWord}
use Rattle.ftn_tree.specs.declared.parts.AccessWord.TheVariants.{Public, Private}
use Rattle.ftn_tree.specs.declared.parts.ProcedureWord.{ProcedureWord}
use Rattle.ftn_tree.specs.declared.parts.ProcedureWord.TheVariants.{External, Intrinsic}
use Rattle.ftn_tree.specs.declared.parts.IntentMode.{IntentMode}
use Rattle.ftn_tree.specs.declared.parts.Attribute.{Attribute}
use Rattle.ftn_tree.specs.declared.parts.AttributeKind.{AttributeKind}
use Rattle.ftn_tree.specs.declared.parts.AttributeKind.TheVariants as attr
use Rattle.ftn_tree.specs.Phrases.{Phrase, never, ◌·◌, word, word_at, in_parens}
use Rattle.ftn_tree.specs.SpecificationForms as form
use Rattle.expr_parse.specs.steps.Input.{Input, input, Reader, sees_word, and_then, pure}
use Rattle.expr_parse.specs.steps.Combinators.{◌<$>◌}
use Rattle.expr_parse.proofs.Pieces.{Piece, reread, mapped}
use Rattle.expr_parse.proofs.Tokens.{none_of, word_piece, word_made, word_back, after_word}
use Rattle.expr_parse.proofs.Operands.{ReadsExpressions}
use Rattle.spec_parse.specs.steps.Choices.{choose}
use Rattle.spec_parse.specs.steps.Attributes as spec
use Rattle.spec_parse.specs.steps.Attributes.{plain_attribute, word_attribute, attribute_kind, attribute, sees_access, sees_procedure}
use Rattle.spec_parse.proofs.Choices.{choice, chosen_plain, numbered_piece, numbered_phrase}
use Rattle.spec_parse.proofs.Seen.{Starts, starts_word, starts_word_at, starts_first, shows, hides}
use Rattle.spec_parse.proofs.BoundPieces.{bounds_piece}
use Rattle.spec_parse.proofs.AttributePieces.{access_piece, procedure_piece, paren_mode_piece}

-- tokens that begin with a word show neither of two others
hides_both : (text one other : List ℕ) (at : ℕ) (tokens rest : List Token) → bytes_eq text one ≡ false → bytes_eq text other ≡ false → Starts text tokens
    → (sees_word one (input at (tokens ++ rest)) || sees_word other (input at (tokens ++ rest))) ≡ false
hides_both text one other at tokens rest no_one no_other starts =
    or_from (sees_word one (input at (tokens ++ rest))) (sees_word other (input at (tokens ++ rest))) (hides text one at tokens rest no_one starts) (hides text other at tokens rest no_other starts)

-- ---- PARAMETER and SAVE

abbrev pub plain_text : AttributeKind → Phrase
plain_text attr.Parameter = word (codes "parameter")
plain_text attr.Save = word (codes "save")
plain_text _ = never

pub plain_back : (c : AttributeKind) (at : ℕ) (tokens : List Token) → plain_text c at tokens
    → ((n : ℕ) × (spec.parameter_word n ≡ c) × word_at n (codes "parameter") at tokens) ⊎ ((n : ℕ) × (spec.save_word n ≡ c) × word_at n (codes "save") at tokens)
plain_back attr.Parameter at tokens says = let (n, says_n) = word_back (codes "parameter") at tokens says in inl (n, refl, says_n)
plain_back attr.Save at tokens says = let (n, says_n) = word_back (codes "save") at tokens says in inr (n, refl, says_n)
plain_back _ at tokens says = absurd says

abbrev pub plain_choice : Piece AttributeKind
plain_choice = choice (sees_word (codes "parameter")) (word_piece (codes "parameter")) spec.parameter_word (word_piece (codes "save")) spec.save_word plain_text
    (word_made (codes "parameter")) (word_made (codes "save")) plain_back none_of
    (λ n at tokens rest says stops. shows (codes "parameter") at tokens rest (starts_word_at n (codes "parameter") at tokens says))
    (λ n at tokens rest says stops none. hides (codes "save") (codes "parameter") at tokens rest refl (starts_word_at n (codes "save") at tokens says))

pub plain_read : (i : Input) → plain_attribute i ≡ plain_choice.read i
unfolding plain_attribute
plain_read i = refl

abbrev pub plain_piece : Piece AttributeKind
plain_piece = reread plain_choice plain_attribute plain_read

-- ---- also EXTERNAL and INTRINSIC

abbrev pub some_text : AttributeKind → Phrase
some_text attr.Parameter = word (codes "parameter")
some_text attr.Save = word (codes "save")
some_text (attr.Procedure procedure) = word (form.procedure_word procedure)
some_text _ = never

pub some_made : (c : AttributeKind) (at : ℕ) (tokens : List Token) → plain_text c at tokens → some_text c at tokens
some_made attr.Parameter at tokens says = says
some_made attr.Save at tokens says = says
some_made _ at tokens says = absurd says

pub some_back : (c : AttributeKind) (at : ℕ) (tokens : List Token) → some_text c at tokens
    → ((a : ProcedureWord) × (attr.Procedure a ≡ c) × word (form.procedure_word a) at tokens) ⊎ ((b : AttributeKind) × (b ≡ c) × plain_text b at tokens)
some_back attr.Parameter at tokens says = inr (attr.Parameter, refl, says)
some_back attr.Save at tokens says = inr (attr.Save, refl, says)
some_back (attr.Procedure procedure) at tokens says = inl (procedure, refl, says)
some_back _ at tokens says = absurd says

pub is_procedure : (a : ProcedureWord) (at : ℕ) (tokens rest : List Token) → word (form.procedure_word a) at tokens → sees_procedure (input at (tokens ++ rest)) ≡ true
is_procedure External at tokens rest says =
    or_left (sees_word (codes "external") (input at (tokens ++ rest))) (sees_word (codes "intrinsic") (input at (tokens ++ rest))) (shows (codes "external") at tokens rest (starts_word (codes "external") at tokens says))
is_procedure Intrinsic at tokens rest says =
    or_right (sees_word (codes "external") (input at (tokens ++ rest))) (sees_word (codes "intrinsic") (input at (tokens ++ rest))) (shows (codes "intrinsic") at tokens rest (starts_word (codes "intrinsic") at tokens says))

pub no_procedure : (b : AttributeKind) (at : ℕ) (tokens rest : List Token) → plain_text b at tokens → sees_procedure (input at (tokens ++ rest)) ≡ false
no_procedure attr.Parameter at tokens rest says = hides_both (codes "parameter") (codes "external") (codes "intrinsic") at tokens rest refl refl (starts_word (codes "parameter") at tokens says)
no_procedure attr.Save at tokens rest says = hides_both (codes "save") (codes "external") (codes "intrinsic") at tokens rest refl refl (starts_word (codes "save") at tokens says)
no_procedure _ at tokens rest says = absurd says

abbrev pub some_choice : Piece AttributeKind
some_choice = choice sees_procedure procedure_piece attr.Procedure plain_piece (λ c. c) some_text (λ a at tokens says. says) some_made some_back none_of
    (λ a at tokens rest says stops. is_procedure a at tokens rest says) (λ b at tokens rest says stops none. no_procedure b at tokens rest says)

-- ---- also PUBLIC and PRIVATE

abbrev pub word_text : AttributeKind → Phrase
word_text attr.Parameter = word (codes "parameter")
word_text attr.Save = word (codes "save")
word_text (attr.Access access) = word (form.access_word access)
word_text (attr.Procedure procedure) = word (form.procedure_word procedure)
word_text _ = never

pub word_text_made : (c : AttributeKind) (at : ℕ) (tokens : List Token) → some_text c at tokens → word_text c at tokens
word_text_made attr.Parameter at tokens says = says
word_text_made attr.Save at tokens says = says
word_text_made (attr.Procedure procedure) at tokens says = says
word_text_made _ at tokens says = absurd says

pub word_text_back : (c : AttributeKind) (at : ℕ) (tokens : List Token) → word_text c at tokens
    → ((a : AccessWord) × (attr.Access a ≡ c) × word (form.access_word a) at tokens) ⊎ ((b : AttributeKind) × (b ≡ c) × some_text b at tokens)
word_text_back attr.Parameter at tokens says = inr (attr.Parameter, refl, says)
word_text_back attr.Save at tokens says = inr (attr.Save, refl, says)
word_text_back (attr.Access access) at tokens says = inl (access, refl, says)
word_text_back (attr.Procedure procedure) at tokens says = inr (attr.Procedure procedure, refl, says)
word_text_back _ at tokens says = absurd says

pub is_access : (a : AccessWord) (at : ℕ) (tokens rest : List Token) → word (form.access_word a) at tokens → sees_access (input at (tokens ++ rest)) ≡ true
is_access Public at tokens rest says =
    or_left (sees_word (codes "public") (input at (tokens ++ rest))) (sees_word (codes "private") (input at (tokens ++ rest))) (shows (codes "public") at tokens rest (starts_word (codes "public") at tokens says))
is_access Private at tokens rest says =
    or_right (sees_word (codes "public") (input at (tokens ++ rest))) (sees_word (codes "private") (input at (tokens ++ rest))) (shows (codes "private") at tokens rest (starts_word (codes "private") at tokens says))

no_access_word : (a : ProcedureWord) (at : ℕ) (tokens rest : List Token) → word (form.procedure_word a) at tokens → sees_access (input at (tokens ++ rest)) ≡ false
no_access_word External at tokens rest says = hides_both (codes "external") (codes "public") (codes "private") at tokens rest refl refl (starts_word (codes "external") at tokens says)
no_access_word Intrinsic at tokens rest says = hides_both (codes "intrinsic") (codes "public") (codes "private") at tokens rest refl refl (starts_word (codes "intrinsic") at tokens says)

pub no_access : (b : AttributeKind) (at : ℕ) (tokens rest : List Token) → some_text b at tokens → sees_access (input at (tokens ++ rest)) ≡ false
no_access attr.Parameter at tokens rest says = hides_both (codes "parameter") (codes "public") (codes "private") at tokens rest refl refl (starts_word (codes "parameter") at tokens says)
no_access attr.Save at tokens rest says = hides_both (codes "save") (codes "public") (codes "private") at tokens rest refl refl (starts_word (codes "save") at tokens says)
no_access (attr.Procedure procedure) at tokens rest says = no_access_word procedure at tokens rest says
no_access _ at tokens rest says = absurd says

abbrev pub word_choice : Piece AttributeKind
word_choice = choice sees_access access_piece attr.Access some_choice (λ c. c) word_text (λ a at tokens says. says) word_text_made word_text_back none_of
    (λ a at tokens rest says stops. is_access a at tokens rest says) (λ b at tokens rest says stops none. no_access b at tokens rest says)

some_read : (i : Input) → (choose sees_procedure (attr.Procedure <$> procedure_piece.read) plain_attribute) i ≡ some_choice.read i
some_read i = chosen_plain sees_procedure (attr.Procedure <$> procedure_piece.read) plain_attribute i

pub word_read : (i : Input) → word_attribute i ≡ word_choice.read i
unfolding word_attribute
word_read i = chosen_plain sees_access (attr.Access <$> access_piece.read) (choose sees_procedure (attr.Procedure <$> procedure_piece.read) plain_attribute) i
    ∙ ap (λ found. if sees_access i then (attr.Access <$> access_piece.read) i else and_then found (λ c. pure c)) (some_read i)

abbrev pub word_attribute_piece : Piece AttributeKind
word_attribute_piece = reread word_choice word_attribute word_read

-- ---- also DIMENSION and INTENT

abbrev pub kind_text : AttributeKind → Phrase
kind_text attr.Parameter = word (codes "parameter")
kind_text attr.Save = word (codes "save")
kind_text (attr.Access access) = word (form.access_word access)
kind_text (attr.Procedure procedure) = word (form.procedure_word procedure)
kind_text (attr.Intent wanted) = word (codes "intent") · in_parens (form.intent_mode wanted)
kind_text (attr.Dimension pairs) = word (codes "dimension") · form.bounds pairs

abbrev pub intent_text : AttributeKind → Phrase
intent_text attr.Parameter = word (codes "parameter")
intent_text attr.Save = word (codes "save")
intent_text (attr.Access access) = word (form.access_word access)
intent_text (attr.Procedure procedure) = word (form.procedure_word procedure)
intent_text (attr.Intent wanted) = word (codes "intent") · in_parens (form.intent_mode wanted)
intent_text (attr.Dimension pairs) = never

abbrev pub intent_piece : Piece IntentMode
intent_piece = after_word (codes "intent") paren_mode_piece

pub intent_made : (c : AttributeKind) (at : ℕ) (tokens : List Token) → word_text c at tokens → intent_text c at tokens
intent_made attr.Parameter at tokens says = says
intent_made attr.Save at tokens says = says
intent_made (attr.Access access) at tokens says = says
intent_made (attr.Procedure procedure) at tokens says = says
intent_made _ at tokens says = absurd says

pub intent_back : (c : AttributeKind) (at : ℕ) (tokens : List Token) → intent_text c at tokens
    → ((a : IntentMode) × (attr.Intent a ≡ c) × intent_piece.phrase a at tokens) ⊎ ((b : AttributeKind) × (b ≡ c) × word_text b at tokens)
intent_back attr.Parameter at tokens says = inr (attr.Parameter, refl, says)
intent_back attr.Save at tokens says = inr (attr.Save, refl, says)
intent_back (attr.Access access) at tokens says = inr (attr.Access access, refl, says)
intent_back (attr.Procedure procedure) at tokens says = inr (attr.Procedure procedure, refl, says)
intent_back (attr.Intent wanted) at tokens says = inl (wanted, refl, says)
intent_back (attr.Dimension pairs) at tokens says = absurd says

-- an attribute that is one of those words doesn't show that word
hides_access : (other : List ℕ) (a : AccessWord) (at : ℕ) (tokens rest : List Token) → bytes_eq (codes "public") other ≡ false → bytes_eq (codes "private") other ≡ false
    → word (form.access_word a) at tokens → sees_word other (input at (tokens ++ rest)) ≡ false
hides_access other Public at tokens rest one two says = hides (codes "public") other at tokens rest one (starts_word (codes "public") at tokens says)
hides_access other Private at tokens rest one two says = hides (codes "private") other at tokens rest two (starts_word (codes "private") at tokens says)

hides_procedure : (other : List ℕ) (a : ProcedureWord) (at : ℕ) (tokens rest : List Token) → bytes_eq (codes "external") other ≡ false → bytes_eq (codes "intrinsic") other ≡ false
    → word (form.procedure_word a) at tokens → sees_word other (input at (tokens ++ rest)) ≡ false
hides_procedure other External at tokens rest one two says = hides (codes "external") other at tokens rest one (starts_word (codes "external") at tokens says)
hides_procedure other Intrinsic at tokens rest one two says = hides (codes "intrinsic") other at tokens rest two (starts_word (codes "intrinsic") at tokens says)

pub no_intent : (b : AttributeKind) (at : ℕ) (tokens rest : List Token) → word_text b at tokens → sees_word (codes "intent") (input at (tokens ++ rest)) ≡ false
no_intent attr.Parameter at tokens rest says = hides (codes "parameter") (codes "intent") at tokens rest refl (starts_word (codes "parameter") at tokens says)
no_intent attr.Save at tokens rest says = hides (codes "save") (codes "intent") at tokens rest refl (starts_word (codes "save") at tokens says)
no_intent (attr.Access access) at tokens rest says = hides_access (codes "intent") access at tokens rest refl refl says
no_intent (attr.Procedure procedure) at tokens rest says = hides_procedure (codes "intent") procedure at tokens rest refl refl says
no_intent _ at tokens rest says = absurd says

abbrev pub intent_choice : Piece AttributeKind
intent_choice = choice (sees_word (codes "intent")) intent_piece attr.Intent word_attribute_piece (λ c. c) intent_text (λ a at tokens says. says) intent_made intent_back none_of
    (λ a at tokens rest says stops. shows (codes "intent") at tokens rest (starts_first (codes "intent") (in_parens (form.intent_mode a)) at tokens says))
    (λ b at tokens rest says stops none. no_intent b at tokens rest says)

pub no_dimension : (b : AttributeKind) (at : ℕ) (tokens rest : List Token) → intent_text b at tokens → sees_word (codes "dimension") (input at (tokens ++ rest)) ≡ false
no_dimension attr.Parameter at tokens rest says = hides (codes "parameter") (codes "dimension") at tokens rest refl (starts_word (codes "parameter") at tokens says)
no_dimension attr.Save at tokens rest says = hides (codes "save") (codes "dimension") at tokens rest refl (starts_word (codes "save") at tokens says)
no_dimension (attr.Access access) at tokens rest says = hides_access (codes "dimension") access at tokens rest refl refl says
no_dimension (attr.Procedure procedure) at tokens rest says = hides_procedure (codes "dimension") procedure at tokens rest refl refl says
no_dimension (attr.Intent wanted) at tokens rest says = hides (codes "intent") (codes "dimension") at tokens rest refl (starts_first (codes "intent") (in_parens (form.intent_mode wanted)) at tokens says)
no_dimension (attr.Dimension pairs) at tokens rest says = absurd says

pub kind_made : (c : AttributeKind) (at : ℕ) (tokens : List Token) → intent_text c at tokens → kind_text c at tokens
kind_made attr.Parameter at tokens says = says
kind_made attr.Save at tokens says = says
kind_made (attr.Access access) at tokens says = says
kind_made (attr.Procedure procedure) at tokens says = says
kind_made (attr.Intent wanted) at tokens says = says
kind_made (attr.Dimension pairs) at tokens says = absurd says

-- ---- with the number of the word

numbered_word : (text : List ℕ) (number : ℕ) (at : ℕ) (tokens : List Token) → number ≡ at → word text at tokens → word_at number text at tokens
numbered_word text number at tokens is (here, split, holds) = (here, split, (is, holds))

plain_word : (text : List ℕ) (number : ℕ) (at : ℕ) (tokens : List Token) → word_at number text at tokens → (number ≡ at) × word text at tokens
plain_word text number at tokens (here, split, (is, holds)) = (is, (here, split, holds))

numbered_first : (text : List ℕ) (other : Phrase) (number : ℕ) (at : ℕ) (tokens : List Token) → number ≡ at → (word text · other) at tokens → (word_at number text · other) at tokens
numbered_first text other number at tokens is (before, after, split, says, says_other) = (before, after, split, numbered_word text number at before is says, says_other)

plain_first : (text : List ℕ) (other : Phrase) (number : ℕ) (at : ℕ) (tokens : List Token) → (word_at number text · other) at tokens → (number ≡ at) × (word text · other) at tokens
plain_first text other number at tokens (before, after, split, says, says_other) =
    let (is, says_word) = plain_word text number at before says in (is, (before, after, split, says_word, says_other))

pub number_made : (number : ℕ) (c : AttributeKind) (at : ℕ) (tokens : List Token) → number ≡ at → kind_text c at tokens → form.attribute_of number c at tokens
number_made number attr.Parameter at tokens is says = numbered_word (codes "parameter") number at tokens is says
number_made number attr.Save at tokens is says = numbered_word (codes "save") number at tokens is says
number_made number (attr.Access access) at tokens is says = numbered_word (form.access_word access) number at tokens is says
number_made number (attr.Procedure procedure) at tokens is says = numbered_word (form.procedure_word procedure) number at tokens is says
number_made number (attr.Intent wanted) at tokens is says = numbered_first (codes "intent") (in_parens (form.intent_mode wanted)) number at tokens is says
number_made number (attr.Dimension pairs) at tokens is says = numbered_first (codes "dimension") (form.bounds pairs) number at tokens is says

pub number_back : (number : ℕ) (c : AttributeKind) (at : ℕ) (tokens : List Token) → form.attribute_of number c at tokens → (number ≡ at) × kind_text c at tokens
number_back number attr.Parameter at tokens says = plain_word (codes "parameter") number at tokens says
number_back number attr.Save at tokens says = plain_word (codes "save") number at tokens says
number_back number (attr.Access access) at tokens says = plain_word (form.access_word access) number at tokens says
number_back number (attr.Procedure procedure) at tokens says = plain_word (form.procedure_word procedure) number at tokens says
number_back number (attr.Intent wanted) at tokens says = plain_first (codes "intent") (in_parens (form.intent_mode wanted)) number at tokens says
number_back number (attr.Dimension pairs) at tokens says = plain_first (codes "dimension") (form.bounds pairs) number at tokens says

module _ (laws : ReadsExpressions) where
  abbrev pub dimension_piece : Piece (List BoundPair)
  dimension_piece = after_word (codes "dimension") (bounds_piece laws)

  pub kind_back : (c : AttributeKind) (at : ℕ) (tokens : List Token) → kind_text c at tokens
      → ((a : List BoundPair) × (attr.Dimension a ≡ c) × dimension_piece.phrase a at tokens) ⊎ ((b : AttributeKind) × (b ≡ c) × intent_text b at tokens)
  kind_back attr.Parameter at tokens says = inr (attr.Parameter, refl, says)
  kind_back attr.Save at tokens says = inr (attr.Save, refl, says)
  kind_back (attr.Access access) at tokens says = inr (attr.Access access, refl, says)
  kind_back (attr.Procedure procedure) at tokens says = inr (attr.Procedure procedure, refl, says)
  kind_back (attr.Intent wanted) at tokens says = inr (attr.Intent wanted, refl, says)
  kind_back (attr.Dimension pairs) at tokens says = inl (pairs, refl, says)

  abbrev pub kind_choice : Piece AttributeKind
  kind_choice = choice (sees_word (codes "dimension")) dimension_piece attr.Dimension intent_choice (λ c. c) kind_text (λ a at tokens says. says) kind_made kind_back none_of
      (λ a at tokens rest says stops. shows (codes "dimension") at tokens rest (starts_first (codes "dimension") (form.bounds a) at tokens says))
      (λ b at tokens rest says stops none. no_dimension b at tokens rest says)

  abbrev pub intent_reader : Reader AttributeKind
  intent_reader = choose (sees_word (codes "intent")) (attr.Intent <$> intent_piece.read) word_attribute

  intent_read : (i : Input) → intent_reader i ≡ intent_choice.read i
  intent_read i = chosen_plain (sees_word (codes "intent")) (attr.Intent <$> intent_piece.read) word_attribute i

  pub kind_read : (i : Input) → attribute_kind i ≡ kind_choice.read i
  unfolding attribute_kind
  kind_read i = chosen_plain (sees_word (codes "dimension")) (attr.Dimension <$> dimension_piece.read) intent_reader i
      ∙ ap (λ found. if sees_word (codes "dimension") i then (attr.Dimension <$> dimension_piece.read) i else and_then found (λ c. pure c)) (intent_read i)

  abbrev pub kind_piece : Piece AttributeKind
  kind_piece = reread kind_choice attribute_kind kind_read

  pub attribute_made : (b : ℕ × AttributeKind) (at : ℕ) (tokens : List Token) → numbered_phrase kind_piece b at tokens → form.attribute (spec.with_kind b) at tokens
  attribute_made b at tokens (is, says) = number_made b.0 b.1 at tokens is says

  pub attribute_back : (c : Attribute) (at : ℕ) (tokens : List Token) → form.attribute c at tokens → (b : ℕ × AttributeKind) × (spec.with_kind b ≡ c) × numbered_phrase kind_piece b at tokens
  attribute_back c at tokens says = let (is, says_kind) = number_back c.token c.kind at tokens says in ((c.token, c.kind), refl, (is, says_kind))

  abbrev pub attribute_mapped : Piece Attribute
  attribute_mapped = mapped (numbered_piece kind_piece) spec.with_kind form.attribute attribute_made attribute_back

  pub attribute_read : (i : Input) → attribute i ≡ attribute_mapped.read i
  unfolding attribute
  attribute_read i = refl

  -- an attribute
  abbrev pub attribute_piece : Piece Attribute
  attribute_piece = reread attribute_mapped attribute attribute_read
