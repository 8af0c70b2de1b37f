-- Statements that are read to their end, from the pieces of their parts.
use Rattle.std.proofs.Common.{◌≡◌, refl, sym, ◌∙◌, ap, subst, ℕ, ◌+◌, Bool, true, false, List, [], length, Some, if◌then◌else◌}
use Rattle.ftn_tree.specs.declared.token.Token.{Token}
use Rattle.ftn_tree.specs.declared.form.Form.{Form, out-Form}
use Rattle.ftn_tree.specs.Phrases.{Phrase}
use Rattle.ftn_tree.specs.UnitForms.{unit_form_at}
use Rattle.expr_parse.specs.steps.Input.{Input, input, Reader, and_then, pure, ◌>>◌, finish}
use Rattle.expr_parse.specs.steps.Combinators.{◌<$>◌, to_the_end}
use Rattle.expr_parse.proofs.Pieces.{Piece, mapped}
use Rattle.expr_parse.proofs.Ends.{whole_sound, whole_complete}

module _ {A B : Type 0} (parts : Piece A) (f : A → B) where
  -- what is made of parts whose phrase these tokens are
  abbrev pub image : B → Phrase
  image b at tokens = (a : A) × (f a ≡ b) × parts.phrase a at tokens

  pub image_made : (a : A) (at : ℕ) (tokens : List Token) → parts.phrase a at tokens → image (f a) at tokens
  image_made a at tokens says = (a, refl, says)

  pub image_back : (b : B) (at : ℕ) (tokens : List Token) → image b at tokens → (a : A) × (f a ≡ b) × parts.phrase a at tokens
  image_back b at tokens says = says

  abbrev pub made_of : Piece B
  made_of = mapped parts f image image_made image_back

-- what the reader gives is written so
abbrev pub Sound : Reader Form → Type 0
Sound read = (at : ℕ) (tokens : List Token) (form : Form) (j : Input) → to_the_end read (input at tokens) ≡ Some (form, j) → unit_form_at (out-Form form) at tokens

-- what is read to the end, and gives that form
abbrev pub GivesForm : Reader Form → ℕ → List Token → Form → Type 0
GivesForm read at tokens form = to_the_end read (input at tokens) ≡ Some (form, input (at + length tokens) [])

module _ {A : Type 0} (parts : Piece A) (f : A → Form) where
  pub row_sound : ((a : A) (at : ℕ) (tokens : List Token) → parts.phrase a at tokens → unit_form_at (out-Form (f a)) at tokens) → Sound (f <$> parts.read)
  row_sound made at tokens form j e =
      let (a, is, says) = whole_sound (made_of parts f) at tokens form j e in
      subst (λ form. unit_form_at (out-Form form) at tokens) is (made a at tokens says)

  pub row_complete : (a : A) (at : ℕ) (tokens : List Token) → parts.phrase a at tokens → GivesForm (f <$> parts.read) at tokens (f a)
  row_complete a at tokens says = whole_complete (made_of parts f) at tokens (f a) (a, refl, says)

-- one of two readers, by a test
module _ (test : Input → Bool) (one other : Reader Form) where
  abbrev chosen : Reader Form
  chosen i = if test i then one i else other i

  pub choose_one : (i : Input) → test i ≡ true → to_the_end chosen i ≡ to_the_end one i
  choose_one i e = ap (λ first. and_then (if first then one i else other i) (λ form. finish >> pure form)) e

  pub choose_other : (i : Input) → test i ≡ false → to_the_end chosen i ≡ to_the_end other i
  choose_other i e = ap (λ first. and_then (if first then one i else other i) (λ form. finish >> pure form)) e

  pub chosen_sound : Sound one → Sound other → Sound chosen
  chosen_sound sound_one sound_other at tokens form j e = by (test (input at tokens)) refl where
    by : (first : Bool) → test (input at tokens) ≡ first → unit_form_at (out-Form form) at tokens
    by true is = sound_one at tokens form j (sym (choose_one (input at tokens) is) ∙ e)
    by false is = sound_other at tokens form j (sym (choose_other (input at tokens) is) ∙ e)
