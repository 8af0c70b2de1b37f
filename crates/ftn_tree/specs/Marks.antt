-- What a statement is to the nesting of statements (Fortran 90, 2.3, 8.1, 11, 12).
use Rattle.std.specs.Prelude.{ℕ, Bool, true, false, ◌||◌, ◌==◌, List, Option, Some, None}
use Rattle.ftn_tree.specs.declared.form.Form.{Form, out-Form}
use Rattle.ftn_tree.specs.declared.form.Form.TheOpen.{Form-F}
use Rattle.ftn_tree.specs.declared.parts.CaseRange.{CaseRange}
use Rattle.ftn_tree.specs.declared.parts.Ending.{Ending}
use Rattle.ftn_tree.specs.declared.parts.EndWord.{EndWord}
use Rattle.ftn_tree.specs.declared.parts.EndWord.TheVariants as word
use Rattle.ftn_tree.specs.declared.parts.ProcedureWord.{ProcedureWord}
use Rattle.ftn_tree.specs.declared.parts.ProcedureWord.TheVariants.{External, Intrinsic}
use Rattle.ftn_tree.specs.declared.mark.Title.{Title}
use Rattle.ftn_tree.specs.declared.mark.Mark.{Mark}
use Rattle.ftn_tree.specs.declared.mark.Mark.TheVariants as mark
use Rattle.ftn_tree.specs.declared.mark.Content.{Content}
use Rattle.ftn_tree.specs.declared.mark.Content.TheVariants as content
use Rattle.ftn_tree.specs.Layers.{FormLayer}

abbrev pub title : EndWord → Option ℕ → Title
title which name = record { word = which; name = name }

abbrev pub opens : EndWord → Option ℕ → Mark
opens which name = mark.Open (title which name)

-- the statement that is carried out: the one inside an IF statement, and else the statement itself (8.1.2.4)
abbrev pub action_at : Form → FormLayer → Form
action_at form (Form-F.If condition at inner) = inner
action_at form _ = form

abbrev pub action_of : Form → Form
action_of form = action_at form (out-Form form)

-- a block data program unit may hold INTRINSIC and no EXTERNAL (11.4)
abbrev pub procedure_mark : ProcedureWord → Mark
procedure_mark External = mark.Specification
procedure_mark Intrinsic = mark.Data

-- CASE DEFAULT has no values
abbrev pub case_mark : Option (List CaseRange) → Mark
case_mark None = mark.Default
case_mark (Some ranges) = mark.Case

abbrev pub end_mark : Option Ending → Mark
end_mark None = mark.PlainEnd
end_mark (Some ending) = mark.End (title ending.word ending.name)

abbrev pub mark_at : FormLayer → Mark
mark_at (Form-F.UseAll name renames) = mark.Use
mark_at (Form-F.UseOnly name items) = mark.Use
mark_at (Form-F.Implicit groups) = mark.Implicit
mark_at (Form-F.Declare ty attributes colons entities) = mark.Declaration
mark_at (Form-F.Dimension colons arrays) = mark.Declaration
mark_at (Form-F.Intent mode colons names) = mark.Intent
mark_at (Form-F.Parameter constants) = mark.Data
mark_at (Form-F.Data groups) = mark.Data
mark_at (Form-F.Save colons items) = mark.Data
mark_at (Form-F.Common groups) = mark.Data
mark_at (Form-F.Equivalence sets) = mark.Data
mark_at (Form-F.Access which colons names) = mark.Specification
mark_at (Form-F.External which names) = procedure_mark which
mark_at (Form-F.ModuleProcedure names) = mark.ModuleProcedure
mark_at (Form-F.Interface name) = opens word.Interface name
mark_at (Form-F.Program name) = opens word.Program (Some name)
mark_at (Form-F.Module name) = opens word.Module (Some name)
mark_at (Form-F.BlockData joined name) = opens (word.BlockData joined) name
mark_at (Form-F.Subroutine name dummies) = opens word.Subroutine (Some name)
mark_at (Form-F.Function ty name dummies answer) = opens word.Function (Some name)
mark_at (Form-F.IfThen condition) = opens word.If None
mark_at (Form-F.Do label control) = opens word.Do label
mark_at (Form-F.DoWhile label comma condition) = opens word.Do label
mark_at (Form-F.Select joined selector) = opens word.Select None
mark_at (Form-F.Assign target value) = mark.Action
mark_at (Form-F.Call name args) = mark.Action
mark_at (Form-F.If condition at inner) = mark.Action
mark_at (Form-F.Stop code) = mark.Action
mark_at Form-F.Continue = mark.Action
mark_at (Form-F.Print style items) = mark.Action
mark_at (Form-F.Read style items) = mark.Action
mark_at (Form-F.Exit which label) = mark.Leave label
mark_at Form-F.Return = mark.Return
mark_at (Form-F.ElseIf joined condition) = mark.ElseIf
mark_at Form-F.Else = mark.Else
mark_at (Form-F.Case ranges) = case_mark ranges
mark_at Form-F.Contains = mark.Contains
mark_at (Form-F.End of) = end_mark of

-- an IF statement is what the statement in it is
abbrev pub mark_of : Form → Mark
mark_of form = mark_at (out-Form (action_of form))

-- ---- what a word ends

abbrev pub word_number : EndWord → ℕ
word_number word.Program = 0
word_number word.Module = 1
word_number word.Subroutine = 2
word_number word.Function = 3
word_number word.Interface = 4
word_number word.If = 5
word_number word.Do = 6
word_number word.Select = 7
word_number (word.BlockData joined) = 8

abbrev pub same_word : EndWord → EndWord → Bool
same_word one other = word_number one == word_number other

abbrev pub is_construct : EndWord → Bool
is_construct word.If = true
is_construct word.Do = true
is_construct word.Select = true
is_construct _ = false

abbrev pub is_procedure : EndWord → Bool
is_procedure word.Subroutine = true
is_procedure word.Function = true
is_procedure _ = false

abbrev pub is_unit : EndWord → Bool
is_unit word.Program = true
is_unit word.Module = true
is_unit (word.BlockData joined) = true
is_unit which = is_procedure which

-- ---- statements of a part

abbrev pub opens_unit : Mark → Bool
opens_unit (mark.Open what) = is_unit what.word
opens_unit _ = false

abbrev pub opens_procedure : Mark → Bool
opens_procedure (mark.Open what) = is_procedure what.word
opens_procedure _ = false

abbrev pub is_specific : Mark → Bool
is_specific mark.ModuleProcedure = true
is_specific m = opens_procedure m

abbrev pub is_use : Mark → Bool
is_use mark.Use = true
is_use _ = false

abbrev pub is_implicit : Mark → Bool
is_implicit mark.Implicit = true
is_implicit _ = false

abbrev pub is_characteristic : Mark → Bool
is_characteristic mark.Declaration = true
is_characteristic mark.Intent = true
is_characteristic _ = false

abbrev pub is_data : Mark → Bool
is_data mark.Declaration = true
is_data mark.Data = true
is_data _ = false

abbrev pub is_specification : Mark → Bool
is_specification mark.Declaration = true
is_specification mark.Intent = true
is_specification mark.Data = true
is_specification mark.Specification = true
is_specification (mark.Open what) = same_word what.word word.Interface
is_specification _ = false

abbrev pub opens_construct : Mark → Bool
opens_construct (mark.Open what) = is_construct what.word
opens_construct _ = false

abbrev pub is_executable : Mark → Bool
is_executable mark.Action = true
is_executable (mark.Leave name) = true
is_executable mark.Return = true
is_executable m = opens_construct m

abbrev pub is_contains : Mark → Bool
is_contains mark.Contains = true
is_contains _ = false

abbrev pub is_else_if : Mark → Bool
is_else_if mark.ElseIf = true
is_else_if _ = false

abbrev pub is_else : Mark → Bool
is_else mark.Else = true
is_else _ = false

abbrev pub is_case : Mark → Bool
is_case mark.Case = true
is_case _ = false

abbrev pub is_default : Mark → Bool
is_default mark.Default = true
is_default _ = false

-- it begins an arm of a construct that isn't the first of an IF
abbrev pub begins_arm : Mark → Bool
begins_arm m = is_else_if m || is_else m || is_case m || is_default m

abbrev pub belongs : Content → Mark → Bool
belongs content.Unit m = opens_unit m
belongs content.Procedure m = opens_procedure m
belongs content.Specific m = is_specific m
belongs content.Use m = is_use m
belongs content.Implicit m = is_implicit m
belongs content.Characteristic m = is_characteristic m
belongs content.Data m = is_data m
belongs content.Specification m = is_specification m
belongs content.Executable m = is_executable m
belongs content.Contains m = is_contains m
belongs content.ElseIf m = is_executable m || is_else_if m
belongs content.Else m = is_else m
belongs content.AnyCase m = is_case m || is_default m
belongs content.Case m = is_executable m || is_case m
belongs content.Default m = is_default m
