-- Units and interface blocks hold no statement that begins an arm.
use Rattle.std.proofs.Common.{◌≡◌, ℕ, Bool, true, false, List, Option, Some, None, refl, sym, true≢false}
use Rattle.ftn_tree.specs.declared.parts.EndWord.{EndWord}
use Rattle.ftn_tree.specs.declared.parts.EndWord.TheVariants as word
use Rattle.ftn_tree.specs.declared.mark.Content.{Content}
use Rattle.ftn_tree.specs.declared.mark.Content.TheVariants as content
use Rattle.ftn_tree.specs.declared.mark.Mark.{Mark}
use Rattle.ftn_tree.specs.declared.mark.Mark.TheVariants as mark
use Rattle.ftn_tree.specs.declared.mark.Region.{Region}
use Rattle.ftn_tree.specs.declared.mark.Region.TheVariants as region
use Rattle.ftn_tree.specs.declared.mark.Section.{Section}
use Rattle.ftn_tree.specs.declared.mark.Title.{Title}
use Rattle.ftn_tree.specs.Marks.{belongs, begins_arm, is_construct}
use Rattle.ftn_tree.specs.Regions.{in_order, interface_named, opened, opened_by, procedure_in, sections_in}
use Rattle.unit_parse.proofs.Heads.{Free, all_fit, free}

abbrev pub NoArms : List Mark → Type 0
NoArms marks = Free begins_arm marks

abbrev pub is_plain : Content → Bool
is_plain content.ElseIf = false
is_plain content.Else = false
is_plain content.AnyCase = false
is_plain content.Case = false
is_plain content.Default = false
is_plain _ = true

plain_mark : (m : Mark) (p : Content) → is_plain p ≡ true → belongs p m ≡ true → begins_arm m ≡ false
plain_mark mark.ElseIf content.ElseIf h e = absurd (true≢false (sym h))
plain_mark mark.ElseIf p h e = absurd (true≢false (sym e))
plain_mark mark.Else content.Else h e = absurd (true≢false (sym h))
plain_mark mark.Else p h e = absurd (true≢false (sym e))
plain_mark mark.Case content.AnyCase h e = absurd (true≢false (sym h))
plain_mark mark.Case content.Case h e = absurd (true≢false (sym h))
plain_mark mark.Case p h e = absurd (true≢false (sym e))
plain_mark mark.Default content.AnyCase h e = absurd (true≢false (sym h))
plain_mark mark.Default content.Default h e = absurd (true≢false (sym h))
plain_mark mark.Default p h e = absurd (true≢false (sym e))
plain_mark m p h e = refl

abbrev pub all_plain : List Section → Bool
all_plain sections = all_fit is_plain sections

pub no_arms : (marks : List Mark) (sections : List Section) → all_plain sections ≡ true → in_order sections marks ≡ true → NoArms marks
no_arms = free begins_arm is_plain plain_mark

procedure_plain : (around : Region) → all_plain (sections_in (procedure_in around)) ≡ true
procedure_plain region.File = refl
procedure_plain region.Module = refl
procedure_plain region.Interface = refl
procedure_plain region.GenericInterface = refl
procedure_plain _ = refl

interface_plain : (name : Option ℕ) → all_plain (sections_in (interface_named name)) ≡ true
interface_plain None = refl
interface_plain (Some name) = refl

word_plain : (around : Region) (which : EndWord) (name : Option ℕ) → is_construct which ≡ false → all_plain (sections_in (opened_by around which name)) ≡ true
word_plain around word.Program name e = refl
word_plain around word.Module name e = refl
word_plain around (word.BlockData joined) name e = refl
word_plain around word.Subroutine name e = procedure_plain around
word_plain around word.Function name e = procedure_plain around
word_plain around word.Interface name e = interface_plain name
word_plain around word.If name e = absurd (true≢false e)
word_plain around word.Do name e = absurd (true≢false e)
word_plain around word.Select name e = absurd (true≢false e)

pub unit_plain : (around : Region) (what : Title) → is_construct what.word ≡ false → all_plain (sections_in (opened around what)) ≡ true
unit_plain around what e = word_plain around what.word what.name e
