-- No statement has both a form of a specification statement and one of an executable statement.
use Rattle.std.proofs.Common.{◌≡◌, refl, sym, ◌∙◌, ap, subst, ℕ, ◌+◌, Bool, true, false, not, ◌||◌, List, [], ◌∷◌, ◌++◌, length, Option, Some, None, codes, true≢false}
use Rattle.std.specs.List.{list_any}
use Rattle.std.proofs.lemmas.Slice.Eq.{bytes_eq-Decides}
use Rattle.std.proofs.lemmas.Bool.{or_from, or_left, or_right}
use Rattle.std.proofs.Math.Bool.{or-false}
use Rattle.ftn_tree.specs.declared.token.Token.{Token}
use Rattle.ftn_tree.specs.declared.token.TokenKind.{TokenKind}
use Rattle.ftn_tree.specs.declared.token.TokenKind.TheVariants as kinds
use Rattle.ftn_tree.specs.declared.lexeme.Lexeme.{Lexeme}
use Rattle.ftn_tree.specs.declared.lexeme.Lexeme.TheVariants as lexeme
use Rattle.ftn_tree.specs.declared.form.Form.{Form, out-Form}
use Rattle.ftn_tree.specs.declared.form.Form.TheOpen.{Form-F}
use Rattle.ftn_tree.specs.declared.parts.EndWord.{EndWord}
use Rattle.ftn_tree.specs.declared.parts.EndWord.TheVariants as ends
use Rattle.ftn_tree.specs.Grammar.{expr, reference}
use Rattle.ftn_tree.specs.declared.parts.LengthSelector.{LengthSelector}
use Rattle.ftn_tree.specs.declared.parts.LengthSelector.TheVariants as selector
use Rattle.ftn_tree.specs.declared.parts.TypeSpec.{TypeSpec}
use Rattle.ftn_tree.specs.declared.parts.TypeSpec.TheVariants.{Integer, Logical, Character}
use Rattle.ftn_tree.specs.declared.parts.Ending.{Ending}
use Rattle.ftn_tree.specs.declared.parts.ImplicitType.{ImplicitType}
use Rattle.ftn_tree.specs.declared.parts.ImplicitType.TheVariants as types
use Rattle.ftn_tree.specs.declared.parts.LetterGroup.{LetterGroup}
use Rattle.ftn_tree.specs.declared.parts.SaveItem.{SaveItem}
use Rattle.ftn_tree.specs.declared.parts.SaveItem.TheVariants as saved
use Rattle.ftn_tree.specs.declared.parts.AccessWord.{AccessWord}
use Rattle.ftn_tree.specs.declared.parts.AccessWord.TheVariants as accesses
use Rattle.ftn_tree.specs.declared.parts.ProcedureWord.{ProcedureWord}
use Rattle.ftn_tree.specs.declared.parts.ProcedureWord.TheVariants as procedures
use Rattle.ftn_tree.specs.declared.parts.BlockName.{BlockName}
use Rattle.ftn_tree.specs.declared.parts.BlockName.TheVariants.{Unwritten, Blank, Named}
use Rattle.ftn_tree.specs.declared.parts.CommonGroup.{CommonGroup}
use Rattle.ftn_tree.specs.declared.parts.DataGroup.{DataGroup}
use Rattle.ftn_tree.specs.declared.parts.Designator.{Designator}
use Rattle.ftn_tree.specs.declared.parts.LeaveWord.TheVariants as leave
use Rattle.ftn_tree.specs.declared.parts.IoStyle.TheVariants as style
use Rattle.ftn_tree.specs.Layers.{FormLayer}
use Rattle.ftn_tree.specs.Lexemes.{lexeme_of, lexeme_by, is_word, is_word_at, is_text}
use Rattle.ftn_tree.specs.Misfits.{is_colon_at}
use Rattle.ftn_tree.specs.Phrases.{Phrase, nothing, ◌·◌, word, mark, mark_at, name, maybe, whether, provided, in_parens, commas, commas_or_none, after_commas, each}
use Rattle.ftn_tree.specs.TypeForms.{type_text, length_selector, char_length, paren_length}
use Rattle.ftn_tree.specs.SpecificationForms as decl
use Rattle.ftn_tree.specs.UnitForms as units
use Rattle.ftn_tree.specs.Assignments.{IsAssignment}
use Rattle.ftn_tree.specs.Specifications.{is_specification}
use Rattle.ftn_tree.specs.ExecutableForms as exec
use Rattle.unit_parse.specs.steps.Openings.{first_words, begins_with, first_colon, starts}

-- ---- how tokens begin

abbrev is_one_of : List ℕ → List (List ℕ) → Bool
is_one_of text words = list_any (λ other. is_text text other) words

value_is : (kind : TokenKind) (value text other : List ℕ) → is_word_at kind value text ≡ true → is_word_at kind value other ≡ is_text text other
value_is kinds.Word value text other e = ap (λ (v : List ℕ). is_text v other) ((bytes_eq-Decides value text).0 e)
value_is kinds.Whole value text other e = absurd (cc e)
value_is kinds.RealForm value text other e = absurd (cc e)
value_is kinds.Quoted value text other e = absurd (cc e)
value_is kinds.Dotted value text other e = absurd (cc e)
value_is kinds.Mark value text other e = absurd (cc e)

word_is : (words : List (List ℕ)) (here : Token) (text : List ℕ) → is_word text here ≡ true → begins_with here words ≡ is_one_of text words
word_is [] here text e = refl
word_is (other ∷ words) here text e =
    ap (λ (b : Bool). b || begins_with here words) (value_is here.kind here.value text other e)
    ∙ ap (λ (b : Bool). is_text text other || b) (word_is words here text e)

word_no_colon : (kind : TokenKind) (value text : List ℕ) → is_word_at kind value text ≡ true → is_colon_at (lexeme_by kind value) ≡ false
word_no_colon kinds.Word value text e = refl
word_no_colon kinds.Whole value text e = absurd (cc e)
word_no_colon kinds.RealForm value text e = absurd (cc e)
word_no_colon kinds.Quoted value text e = absurd (cc e)
word_no_colon kinds.Dotted value text e = absurd (cc e)
word_no_colon kinds.Mark value text e = absurd (cc e)

-- ---- phrases that don't begin with a colon

abbrev Free : Phrase → Type 0
Free phrase = (at : ℕ) (tokens : List Token) → phrase at tokens → first_colon tokens ≡ false

-- they have a token, too
abbrev leads : List Token → Type 0
leads [] = ⊥
leads (here ∷ rest) = is_colon_at (lexeme_of here) ≡ false

abbrev Lead : Phrase → Type 0
Lead phrase = (at : ℕ) (tokens : List Token) → phrase at tokens → leads tokens

leads_free : (tokens : List Token) → leads tokens → first_colon tokens ≡ false
leads_free [] is = absurd is
leads_free (here ∷ rest) is = is

leads_more : (before after : List Token) → leads before → leads (before ++ after)
leads_more [] after is = absurd is
leads_more (here ∷ before) after is = is

free_more : (before after : List Token) → first_colon before ≡ false → first_colon after ≡ false → first_colon (before ++ after) ≡ false
free_more [] after one other = other
free_more (here ∷ before) after one other = one

lead_more : (before after : List Token) → first_colon before ≡ false → leads after → leads (before ++ after)
lead_more [] after one other = other
lead_more (here ∷ before) after one other = one

lead_free : (phrase : Phrase) → Lead phrase → Free phrase
lead_free phrase lead at tokens says = leads_free tokens (lead at tokens says)

lead_seq : (one other : Phrase) → Lead one → Lead (one · other)
lead_seq one other lead at tokens says = subst (λ (l : List Token). leads l) (sym says.2) (leads_more says.0 says.1 (lead at says.0 says.3))

free_seq : (one other : Phrase) → Free one → Free other → Free (one · other)
free_seq one other first rest at tokens says =
    subst (λ (l : List Token). first_colon l ≡ false) (sym says.2) (free_more says.0 says.1 (first at says.0 says.3) (rest (at + length says.0) says.1 says.4))

then_lead : (one other : Phrase) → Free one → Lead other → Lead (one · other)
then_lead one other first rest at tokens says =
    subst (λ (l : List Token). leads l) (sym says.2) (lead_more says.0 says.1 (first at says.0 says.3) (rest (at + length says.0) says.1 says.4))

free_nothing : Free nothing
free_nothing at tokens says = ap (λ (l : List Token). first_colon l) says

lead_word : (text : List ℕ) → Lead (word text)
lead_word text at tokens says = subst (λ (l : List Token). leads l) (sym says.1) (word_no_colon says.0.kind says.0.value text says.2)

lead_mark : (kind : Lexeme) → is_colon_at kind ≡ false → Lead (mark kind)
lead_mark kind other at tokens says = subst (λ (l : List Token). leads l) (sym says.1) (ap (λ (k : Lexeme). is_colon_at k) says.2 ∙ other)

lead_mark_at : (number : ℕ) (kind : Lexeme) → is_colon_at kind ≡ false → Lead (mark_at number kind)
lead_mark_at number kind other at tokens says = subst (λ (l : List Token). leads l) (sym says.1) (ap (λ (k : Lexeme). is_colon_at k) says.2.1 ∙ other)

lead_name : (number : ℕ) → Lead (name number)
lead_name number = lead_mark_at number lexeme.Word refl

lead_parens : (phrase : Phrase) → Lead (in_parens phrase)
lead_parens phrase = lead_seq (mark lexeme.Open) (phrase · mark lexeme.Close) (lead_mark lexeme.Open refl)

free_whether : (holds : Bool) (kind : Lexeme) → is_colon_at kind ≡ false → Free (whether holds (mark kind))
free_whether true kind other = lead_free (mark kind) (lead_mark kind other)
free_whether false kind other = free_nothing

module _ {A : Type 0} (phrase : A → Phrase) (lead : (a : A) → Lead (phrase a)) where
  free_maybe : (a : Option A) → Free (maybe phrase a)
  free_maybe None = free_nothing
  free_maybe (Some a) = lead_free (phrase a) (lead a)

  lead_commas : (all : List A) → Lead (commas phrase all)
  lead_commas [] = λ at tokens says. absurd says
  lead_commas (a ∷ rest) = λ at tokens says. lead_seq (phrase a) (after_commas phrase rest) (lead a) at tokens says

  free_commas_or_none : (all : List A) → Free (commas_or_none phrase all)
  free_commas_or_none [] = free_nothing
  free_commas_or_none (a ∷ rest) = lead_free (commas phrase (a ∷ rest)) (lead_commas (a ∷ rest))

  free_items : (colons : Bool) (all : List A) → Free (decl.items_or_none phrase colons all)
  free_items false [] = free_nothing
  free_items true [] = λ at tokens says. absurd says
  free_items false (a ∷ rest) = free_seq (whether false (mark lexeme.Colons)) (commas phrase (a ∷ rest)) free_nothing (lead_free (commas phrase (a ∷ rest)) (lead_commas (a ∷ rest)))
  free_items true (a ∷ rest) = free_seq (mark lexeme.Colons) (commas phrase (a ∷ rest)) (lead_free (mark lexeme.Colons) (lead_mark lexeme.Colons refl)) (lead_free (commas phrase (a ∷ rest)) (lead_commas (a ∷ rest)))

free_after_commas : {A : Type 0} (phrase : A → Phrase) (all : List A) → Free (after_commas phrase all)
free_after_commas phrase [] = free_nothing
free_after_commas phrase (a ∷ rest) = lead_free (mark lexeme.Comma · phrase a · after_commas phrase rest) (lead_seq (mark lexeme.Comma) (phrase a · after_commas phrase rest) (lead_mark lexeme.Comma refl))

-- ---- phrases that begin with a word, which no colon follows

record Opens (text : List ℕ) (tokens : List Token) : Type 0 where
  pub first : Token
  pub rest : List Token
  pub tokens_are : tokens ≡ first ∷ rest
  pub is : is_word text first ≡ true
  pub free : first_colon rest ≡ false

abbrev Opening : List ℕ → Phrase → Type 0
Opening text phrase = (at : ℕ) (tokens : List Token) → phrase at tokens → Opens text tokens

opens_word : (text : List ℕ) → Opening text (word text)
opens_word text at tokens says = record { first = says.0; rest = []; tokens_are = says.1; is = says.2; free = refl }

opens_seq : (text : List ℕ) (one other : Phrase) → Opening text one → Free other → Opening text (one · other)
opens_seq text one other opening free at tokens says =
    let opens = opening at says.0 says.3 in
    record {
      first = opens.first;
      rest = opens.rest ++ says.1;
      tokens_are = says.2 ∙ ap (λ (l : List Token). l ++ says.1) opens.tokens_are;
      is = opens.is;
      free = free_more opens.rest says.1 opens.free (free (at + length says.0) says.1 says.4);
    }

row_of : (text : List ℕ) (phrase : Phrase) → Free phrase → Opening text (word text · phrase)
row_of text phrase free = opens_seq text (word text) phrase (opens_word text) free

opens_none : (text : List ℕ) (other : Phrase) → Opening text other → Opening text (nothing · other)
opens_none text other opening at tokens says =
    let opens = opening (at + length says.0) says.1 says.4 in
    record {
      first = opens.first;
      rest = opens.rest;
      tokens_are = says.2 ∙ ap (λ (l : List Token). l ++ says.1) says.3 ∙ opens.tokens_are;
      is = opens.is;
      free = opens.free;
    }

abbrev NoStart : Phrase → Type 0
NoStart phrase = (at : ℕ) (tokens : List Token) → phrase at tokens → starts tokens ≡ false

no_start : (text : List ℕ) (phrase : Phrase) → is_one_of text first_words ≡ false → Opening text phrase → NoStart phrase
no_start text phrase other opening at tokens says =
    let opens = opening at tokens says in
    ap (λ (l : List Token). starts l) opens.tokens_are
    ∙ or_from (begins_with opens.first first_words) (first_colon opens.rest) (word_is first_words opens.first text opens.is ∙ other) opens.free

-- ---- the rows of specification statements

abbrev type_word : TypeSpec → List ℕ
type_word Integer = codes "integer"
type_word Logical = codes "logical"
type_word (Character length) = codes "character"

lead_selector : (length : LengthSelector) → Lead (length_selector length)
lead_selector (selector.Star length) = lead_seq (mark lexeme.Times) (char_length length) (lead_mark lexeme.Times refl)
lead_selector (selector.Paren has_word length) = lead_parens (paren_length has_word length)

opens_type : (ty : TypeSpec) → Opening (type_word ty) (type_text ty)
opens_type Integer = opens_word (codes "integer")
opens_type Logical = opens_word (codes "logical")
opens_type (Character length) = row_of (codes "character") (maybe length_selector length) (free_maybe length_selector lead_selector length)

lead_type : (ty : TypeSpec) → Lead (type_text ty)
lead_type ty at tokens says =
    let opens = opens_type ty at tokens says in
    subst (λ (l : List Token). leads l) (sym opens.tokens_are) (word_no_colon opens.first.kind opens.first.value (type_word ty) opens.is)

type_other : (ty : TypeSpec) → is_one_of (type_word ty) first_words ≡ false
unfolding first_words
type_other Integer = refl
type_other Logical = refl
type_other (Character length) = refl

typed_row : (ty : TypeSpec) (phrase : Phrase) → Free phrase → NoStart (type_text ty · phrase)
typed_row ty phrase free = no_start (type_word ty) (type_text ty · phrase) (type_other ty) (opens_seq (type_word ty) (type_text ty) phrase (opens_type ty) free)

lead_implicit : (ty : ImplicitType) → Lead (units.implicit_type ty)
lead_implicit types.Real = lead_word (codes "real")
lead_implicit (types.Known ty) = λ at tokens says. lead_type ty at tokens says.1

lead_group : (group : LetterGroup) → Lead (units.letter_group group)
lead_group group = lead_seq (units.implicit_type group.ty) (in_parens (commas units.letter_range group.ranges)) (lead_implicit group.ty)

free_implicit : (groups : Option (List LetterGroup)) → Free (units.implicit_of groups)
free_implicit None = lead_free (word (codes "none")) (lead_word (codes "none"))
free_implicit (Some groups) = lead_free (commas units.letter_group groups) (lead_commas units.letter_group lead_group groups)

lead_saved : (item : SaveItem) → Lead (decl.save_item item)
lead_saved (saved.Variable number) = lead_name number
lead_saved (saved.Block number) = lead_seq (mark lexeme.Divide) (name number · mark lexeme.Divide) (lead_mark lexeme.Divide refl)

free_block : (block : BlockName) → Free (decl.block_name block)
free_block Unwritten = free_nothing
free_block (Blank slash true) = lead_free (mark_at slash lexeme.Concat) (lead_mark_at slash lexeme.Concat refl)
free_block (Blank slash false) = lead_free (mark_at slash lexeme.Divide · mark lexeme.Divide) (lead_seq (mark_at slash lexeme.Divide) (mark lexeme.Divide) (lead_mark_at slash lexeme.Divide refl))
free_block (Named slash number) =
    lead_free (mark_at slash lexeme.Divide · name number · mark lexeme.Divide) (lead_seq (mark_at slash lexeme.Divide) (name number · mark lexeme.Divide) (lead_mark_at slash lexeme.Divide refl))

lead_block_group : (g : CommonGroup) → Lead (decl.group g)
lead_block_group g =
    then_lead (whether g.comma (mark lexeme.Comma)) (decl.block_name g.block · commas decl.member g.members) (free_whether g.comma lexeme.Comma refl)
    (then_lead (decl.block_name g.block) (commas decl.member g.members) (free_block g.block)
    (lead_commas decl.member (λ m. lead_seq (name m.name) (maybe decl.bounds m.bounds) (lead_name m.name)) g.members))

free_groups : (all : List CommonGroup) → Free (decl.groups all)
free_groups [] = λ at tokens says. absurd says
free_groups (g ∷ rest) =
    lead_free (provided (not g.comma) (decl.group g) · decl.later_groups rest)
    (lead_seq (provided (not g.comma) (decl.group g)) (decl.later_groups rest) (λ at tokens says. lead_block_group g at tokens says.1))

lead_designator : (d : Designator) → Lead (decl.designator d)
lead_designator d = lead_seq (name d.name) (maybe (λ subscripts. in_parens (commas expr subscripts)) d.subscripts) (lead_name d.name)

lead_data_group : (g : DataGroup) → Lead (decl.data_group g)
lead_data_group g =
    let more = mark lexeme.Divide · commas decl.data_value g.values · mark lexeme.Divide in
    then_lead (whether g.comma (mark lexeme.Comma)) (commas decl.designator g.objects · more) (free_whether g.comma lexeme.Comma refl)
    (lead_seq (commas decl.designator g.objects) more (lead_commas decl.designator lead_designator g.objects))

free_data : (all : List DataGroup) → Free (decl.data_groups all)
free_data [] = λ at tokens says. absurd says
free_data (g ∷ rest) =
    lead_free (provided (not g.comma) (decl.data_group g) · each decl.data_group rest)
    (lead_seq (provided (not g.comma) (decl.data_group g)) (each decl.data_group rest) (λ at tokens says. lead_data_group g at tokens says.1))

end_other : (which : EndWord) → is_one_of (codes "end" ++ units.end_text which) first_words ≡ false
unfolding first_words
end_other ends.Program = refl
end_other ends.Module = refl
end_other (ends.BlockData true) = refl
end_other (ends.BlockData false) = refl
end_other ends.Subroutine = refl
end_other ends.Function = refl
end_other ends.Interface = refl
end_other ends.If = refl
end_other ends.Do = refl
end_other ends.Select = refl

-- the first word of an END
abbrev end_start : Bool → EndWord → List ℕ
end_start true which = codes "end" ++ units.end_text which
end_start false which = codes "end"

start_other : (joined : Bool) (which : EndWord) → is_one_of (end_start joined which) first_words ≡ false
unfolding first_words
start_other true which = end_other which
start_other false which = refl

opens_end : (joined : Bool) (which : EndWord) → Opening (end_start joined which) (units.end_first joined which)
opens_end true which = opens_word (codes "end" ++ units.end_text which)
opens_end false which = row_of (codes "end") (word (units.end_text which)) (lead_free (word (units.end_text which)) (lead_word (units.end_text which)))

free_word : (holds : Bool) (text : List ℕ) → Free (whether holds (word text))
free_word true text = lead_free (word text) (lead_word text)
free_word false text = free_nothing

ended_row : (joined : Bool) (which : EndWord) (phrase : Phrase) → Free phrase → NoStart (units.end_words joined which · phrase)
unfolding first_words
ended_row joined which phrase free =
    no_start (end_start joined which) (units.end_words joined which · phrase) (start_other joined which)
    (opens_seq (end_start joined which) (units.end_words joined which) phrase
    (opens_seq (end_start joined which) (units.end_first joined which) (whether (units.is_parted which) (word (codes "data"))) (opens_end joined which) (free_word (units.is_parted which) (codes "data"))) free)

end_row : (ending : Option Ending) → NoStart (units.end_of ending)
unfolding first_words
end_row None = no_start (codes "end") (word (codes "end")) refl (opens_word (codes "end"))
end_row (Some ending) = ended_row ending.joined ending.word (maybe name ending.name) (free_maybe name lead_name ending.name)

access_other : (access : AccessWord) → is_one_of (decl.access_word access) first_words ≡ false
unfolding first_words
access_other accesses.Public = refl
access_other accesses.Private = refl

procedure_other : (procedure : ProcedureWord) → is_one_of (decl.procedure_word procedure) first_words ≡ false
unfolding first_words
procedure_other procedures.External = refl
procedure_other procedures.Intrinsic = refl

pub specification_row : (form : FormLayer) → NoStart (units.unit_form_at form)
unfolding first_words
specification_row (Form-F.BlockData true n) =
    no_start (codes "blockdata") (word (codes "blockdata") · maybe name n) refl (row_of (codes "blockdata") (maybe name n) (free_maybe name lead_name n))
specification_row (Form-F.BlockData false n) =
    no_start (codes "block") ((word (codes "block") · word (codes "data")) · maybe name n) refl
    (opens_seq (codes "block") (word (codes "block") · word (codes "data")) (maybe name n)
    (row_of (codes "block") (word (codes "data")) (lead_free (word (codes "data")) (lead_word (codes "data")))) (free_maybe name lead_name n))
specification_row (Form-F.Program n) = no_start (codes "program") (word (codes "program") · name n) refl (row_of (codes "program") (name n) (lead_free (name n) (lead_name n)))
specification_row (Form-F.ModuleProcedure names) =
    let rest = word (codes "procedure") · commas name names in
    no_start (codes "module") (word (codes "module") · rest) refl
    (row_of (codes "module") rest (lead_free rest (lead_seq (word (codes "procedure")) (commas name names) (lead_word (codes "procedure")))))
specification_row (Form-F.Module n) = no_start (codes "module") (word (codes "module") · name n) refl (row_of (codes "module") (name n) (lead_free (name n) (lead_name n)))
specification_row (Form-F.Subroutine n dummies) =
    let more = maybe (λ names. in_parens (commas_or_none name names)) dummies in
    no_start (codes "subroutine") (word (codes "subroutine") · name n · more) refl (row_of (codes "subroutine") (name n · more) (lead_free (name n · more) (lead_seq (name n) more (lead_name n))))
specification_row (Form-F.Function None n dummies answer) =
    let more = in_parens (commas_or_none name dummies) · maybe (λ named. word (codes "result") · in_parens (name named)) answer in
    no_start (codes "function") (nothing · word (codes "function") · name n · more) refl
    (opens_none (codes "function") (word (codes "function") · name n · more) (row_of (codes "function") (name n · more) (lead_free (name n · more) (lead_seq (name n) more (lead_name n)))))
specification_row (Form-F.Function (Some ty) n dummies answer) =
    let more = name n · in_parens (commas_or_none name dummies) · maybe (λ named. word (codes "result") · in_parens (name named)) answer in
    typed_row ty (word (codes "function") · more) (lead_free (word (codes "function") · more) (lead_seq (word (codes "function")) more (lead_word (codes "function"))))
specification_row Form-F.Contains = no_start (codes "contains") (word (codes "contains")) refl (opens_word (codes "contains"))
specification_row (Form-F.End ending) = end_row ending
specification_row (Form-F.UseAll n renames) =
    let more = after_commas units.rename renames in
    no_start (codes "use") (word (codes "use") · name n · more) refl (row_of (codes "use") (name n · more) (lead_free (name n · more) (lead_seq (name n) more (lead_name n))))
specification_row (Form-F.UseOnly n items) =
    let more = mark lexeme.Comma · word (codes "only") · mark lexeme.Colon · commas_or_none units.only_item items in
    no_start (codes "use") (word (codes "use") · name n · more) refl (row_of (codes "use") (name n · more) (lead_free (name n · more) (lead_seq (name n) more (lead_name n))))
specification_row (Form-F.Implicit groups) = no_start (codes "implicit") (word (codes "implicit") · units.implicit_of groups) refl (row_of (codes "implicit") (units.implicit_of groups) (free_implicit groups))
specification_row (Form-F.Interface n) = no_start (codes "interface") (word (codes "interface") · maybe name n) refl (row_of (codes "interface") (maybe name n) (free_maybe name lead_name n))
specification_row (Form-F.Declare ty attributes colons entities) =
    let more = whether colons (mark lexeme.Colons) · commas decl.entity entities in
    λ at tokens says. typed_row ty (after_commas decl.attribute attributes · more)
    (free_seq (after_commas decl.attribute attributes) more (free_after_commas decl.attribute attributes)
    (free_seq (whether colons (mark lexeme.Colons)) (commas decl.entity entities) (free_whether colons lexeme.Colons refl)
    (lead_free (commas decl.entity entities) (lead_commas decl.entity
    (λ e. lead_seq (name e.name) (maybe decl.bounds e.bounds · maybe (λ length. mark lexeme.Times · char_length length) e.length · maybe (λ value. mark lexeme.Equals · expr value) e.value) (lead_name e.name)) entities))))
    at tokens says.1
specification_row (Form-F.Dimension colons arrays) =
    let more = whether colons (mark lexeme.Colons) · commas decl.array arrays in
    no_start (codes "dimension") (word (codes "dimension") · more) refl
    (row_of (codes "dimension") more
    (free_seq (whether colons (mark lexeme.Colons)) (commas decl.array arrays) (free_whether colons lexeme.Colons refl)
    (lead_free (commas decl.array arrays) (lead_commas decl.array (λ a. lead_seq (name a.name) (decl.bounds a.bounds) (lead_name a.name)) arrays))))
specification_row (Form-F.Parameter constants) =
    let more = in_parens (commas decl.constant constants) in
    no_start (codes "parameter") (word (codes "parameter") · more) refl (row_of (codes "parameter") more (lead_free more (lead_parens (commas decl.constant constants))))
specification_row (Form-F.Data all) = no_start (codes "data") (word (codes "data") · decl.data_groups all) refl (row_of (codes "data") (decl.data_groups all) (free_data all))
specification_row (Form-F.Save colons items) =
    no_start (codes "save") (word (codes "save") · decl.items_or_none decl.save_item colons items) refl
    (row_of (codes "save") (decl.items_or_none decl.save_item colons items) (free_items decl.save_item lead_saved colons items))
specification_row (Form-F.Access access colons names) =
    no_start (decl.access_word access) (word (decl.access_word access) · decl.items_or_none name colons names) (access_other access)
    (row_of (decl.access_word access) (decl.items_or_none name colons names) (free_items name lead_name colons names))
specification_row (Form-F.External procedure names) =
    no_start (decl.procedure_word procedure) (word (decl.procedure_word procedure) · commas name names) (procedure_other procedure)
    (row_of (decl.procedure_word procedure) (commas name names) (lead_free (commas name names) (lead_commas name lead_name names)))
specification_row (Form-F.Intent wanted colons names) =
    let more = whether colons (mark lexeme.Colons) · commas name names in
    no_start (codes "intent") (word (codes "intent") · in_parens (decl.intent_mode wanted) · more) refl
    (row_of (codes "intent") (in_parens (decl.intent_mode wanted) · more) (lead_free (in_parens (decl.intent_mode wanted) · more) (lead_seq (in_parens (decl.intent_mode wanted)) more (lead_parens (decl.intent_mode wanted)))))
specification_row (Form-F.Common all) = no_start (codes "common") (word (codes "common") · decl.groups all) refl (row_of (codes "common") (decl.groups all) (free_groups all))
specification_row (Form-F.Equivalence sets) =
    no_start (codes "equivalence") (word (codes "equivalence") · commas decl.equivalence_set sets) refl
    (row_of (codes "equivalence") (commas decl.equivalence_set sets) (lead_free (commas decl.equivalence_set sets)
    (lead_commas decl.equivalence_set (λ set at tokens says. lead_parens (commas decl.designator set) at tokens says.1) sets)))
specification_row _ = λ at tokens says. absurd says

-- ---- the rows of executable statements

abbrev Start : Phrase → Type 0
Start phrase = (at : ℕ) (tokens : List Token) → phrase at tokens → starts tokens ≡ true

starts_more : (before after : List Token) → starts before ≡ true → starts (before ++ after) ≡ true
starts_more [] after e = absurd (cc e)
starts_more (here ∷ []) after e = or_left (begins_with here first_words) (first_colon after) (sym (or-false (begins_with here first_words)) ∙ e)
starts_more (here ∷ next ∷ rest) after e = e

start_word : (text : List ℕ) → is_one_of text first_words ≡ true → Start (word text)
start_word text is at tokens says =
    ap (λ (l : List Token). starts l) says.1 ∙ or_left (begins_with says.0 first_words) false (word_is first_words says.0 text says.2 ∙ is)

start_seq : (one other : Phrase) → Start one → Start (one · other)
start_seq one other start at tokens says = ap (λ (l : List Token). starts l) says.2 ∙ starts_more says.0 says.1 (start at says.0 says.3)

start_none : (other : Phrase) → Start other → Start (nothing · other)
start_none other start at tokens says =
    ap (λ (l : List Token). starts l) (says.2 ∙ ap (λ (l : List Token). l ++ says.1) says.3) ∙ start (at + length says.0) says.1 says.4

start_label : (n : ℕ) → Start (exec.label n)
start_label n at tokens says =
    ap (λ (l : List Token). starts l) (says.2 ∙ ap (λ (l : List Token). l ++ says.1) says.3.1 ∙ ap (λ (l : List Token). says.3.0 ∷ l) says.4.1)
    ∙ or_right (begins_with says.3.0 first_words) (is_colon_at (lexeme_of says.4.0)) (ap (λ (k : Lexeme). is_colon_at k) says.4.2)

start_joined : (whole one other : List ℕ) (joined : Bool) → is_one_of whole first_words ≡ true → is_one_of one first_words ≡ true → Start (exec.joined_words whole one other joined)
start_joined whole one other true is two = start_word whole is
start_joined whole one other false is two = start_seq (word one) (word other) (start_word one two)

start_do : (label : Option ℕ) (phrase : Phrase) → Start (maybe exec.label label · word (codes "do") · phrase)
unfolding first_words
start_do None phrase = start_none (word (codes "do") · phrase) (start_seq (word (codes "do")) phrase (start_word (codes "do") refl))
start_do (Some n) phrase = start_seq (exec.label n) (word (codes "do") · phrase) (start_label n)

action_row : (form : FormLayer) → Start (exec.action_at form)
unfolding first_words
action_row (Form-F.Call n args) = start_seq (word (codes "call")) (name n · maybe (λ args. in_parens (commas_or_none expr args)) args) (start_word (codes "call") refl)
action_row (Form-F.Exit leave.Exit label) = start_seq (word (codes "exit")) (maybe name label) (start_word (codes "exit") refl)
action_row (Form-F.Exit leave.Cycle label) = start_seq (word (codes "cycle")) (maybe name label) (start_word (codes "cycle") refl)
action_row (Form-F.Stop code) = start_seq (word (codes "stop")) (maybe exec.stop_code code) (start_word (codes "stop") refl)
action_row Form-F.Return = start_word (codes "return") refl
action_row Form-F.Continue = start_word (codes "continue") refl
action_row (Form-F.Print style.Star items) = start_seq (word (codes "print")) (mark lexeme.Times · after_commas expr items) (start_word (codes "print") refl)
action_row (Form-F.Print style.Paren items) = start_seq (word (codes "write")) (exec.after_stars (commas_or_none expr items)) (start_word (codes "write") refl)
action_row (Form-F.Read style.Star items) = start_seq (word (codes "read")) (mark lexeme.Times · after_commas reference items) (start_word (codes "read") refl)
action_row (Form-F.Read style.Paren items) = start_seq (word (codes "read")) (exec.after_stars (commas_or_none reference items)) (start_word (codes "read") refl)
action_row _ = λ at tokens says. absurd says

pub statement_row : (form : FormLayer) → Start (exec.statement_at form)
unfolding first_words
statement_row (Form-F.IfThen e) = start_seq (word (codes "if")) (exec.condition e · word (codes "then")) (start_word (codes "if") refl)
statement_row (Form-F.ElseIf joined e) = start_seq (exec.else_if joined) (exec.condition e · word (codes "then")) (start_joined (codes "elseif") (codes "else") (codes "if") joined refl refl)
statement_row Form-F.Else = start_word (codes "else") refl
statement_row (Form-F.If e number inner) = start_seq (word (codes "if")) (exec.condition e · exec.inner_from number inner) (start_word (codes "if") refl)
statement_row (Form-F.Do label counted) = start_do label (maybe exec.control counted)
statement_row (Form-F.DoWhile label comma e) = start_do label (exec.comma_if comma · word (codes "while") · exec.condition e)
statement_row (Form-F.Select joined e) = start_seq (exec.select_case joined) (exec.condition e) (start_joined (codes "selectcase") (codes "select") (codes "case") joined refl refl)
statement_row (Form-F.Case ranges) = start_seq (word (codes "case")) (exec.case_of ranges) (start_word (codes "case") refl)
statement_row other = action_row other

-- ---- the law

apart_at : (one other : FormLayer) (at : ℕ) (tokens : List Token) → (IsAssignment tokens → ⊥) → units.unit_form_at one at tokens → exec.executable_at other at tokens → ⊥
apart_at one (Form-F.Assign target value) at tokens unassigned says is = unassigned is.0
apart_at one other at tokens unassigned says is = true≢false (sym (statement_row other at tokens is.1) ∙ specification_row one at tokens says)

pub apart : (one other : Form) (at : ℕ) (tokens : List Token) → is_specification one at tokens → exec.is_executable other at tokens → ⊥
apart one other at tokens says is = apart_at (out-Form one) (out-Form other) at tokens says.0 says.1 is
