-- What encloses a statement, and what it may hold in which order (Fortran 90, 2.3, 8.1, 11, 12.3.2.1, 12.5.2).
-- A path is the list of the openings of all that is open around a statement, the innermost first.
use Rattle.std.specs.Prelude.{ℕ, suc, Bool, true, false, ◌&&◌, ◌||◌, if◌then◌else◌, List, [], ◌∷◌, drop, Option, Some, None}
use Rattle.std.specs.List.{prefix_len}
use Rattle.ftn_tree.specs.declared.parts.EndWord.{EndWord}
use Rattle.ftn_tree.specs.declared.parts.EndWord.TheVariants as word
use Rattle.ftn_tree.specs.declared.mark.Title.{Title}
use Rattle.ftn_tree.specs.declared.mark.Mark.{Mark}
use Rattle.ftn_tree.specs.declared.mark.Mark.TheVariants as mark
use Rattle.ftn_tree.specs.declared.mark.Region.{Region}
use Rattle.ftn_tree.specs.declared.mark.Region.TheVariants as region
use Rattle.ftn_tree.specs.declared.mark.Content.TheVariants as content
use Rattle.ftn_tree.specs.declared.mark.Section.{Section}
use Rattle.ftn_tree.specs.declared.mark.Section.TheVariants as section
use Rattle.ftn_tree.specs.Marks.{same_word, is_construct, belongs}

-- ---- the region that a path ends in

-- what a SUBROUTINE or FUNCTION statement opens
abbrev pub procedure_in : Region → Region
procedure_in region.File = region.ExternalProcedure
procedure_in region.Module = region.ModuleProcedure
procedure_in region.Interface = region.Body
procedure_in region.GenericInterface = region.Body
procedure_in _ = region.InternalProcedure

abbrev pub interface_named : Option ℕ → Region
interface_named None = region.Interface
interface_named (Some name) = region.GenericInterface

abbrev pub opened_by : Region → EndWord → Option ℕ → Region
opened_by around word.Program name = region.MainProgram
opened_by around word.Module name = region.Module
opened_by around (word.BlockData joined) name = region.BlockData
opened_by around word.Subroutine name = procedure_in around
opened_by around word.Function name = procedure_in around
opened_by around word.Interface name = interface_named name
opened_by around word.If name = region.If
opened_by around word.Do name = region.Do
opened_by around word.Select name = region.Select

abbrev pub opened : Region → Title → Region
opened around what = opened_by around what.word what.name

abbrev pub region_of : List Title → Region
region_of [] = region.File
region_of (what ∷ path) = opened (region_of path) what

-- how many constructs are open in the innermost unit
abbrev pub depth : List Title → ℕ
depth [] = 0
depth (what ∷ path) = if is_construct what.word then suc (depth path) else 0

-- the innermost unit is a main program
abbrev pub in_main : List Title → Bool
in_main [] = false
in_main (what ∷ path) = if is_construct what.word then in_main path else same_word what.word word.Program

-- ---- names, where it is given which tokens are the same name

-- a name that may be left out is the name of the opening
abbrev pub fits_name : (ℕ → ℕ → Bool) → Option ℕ → Option ℕ → Bool
fits_name same None of = true
fits_name same (Some name) None = false
fits_name same (Some name) (Some of) = same name of

-- an EXIT or CYCLE with that name, or without one, stands in a DO that it may leave (8.1.4.4)
abbrev pub in_loop : (ℕ → ℕ → Bool) → Option ℕ → List Title → Bool
in_loop same name [] = false
in_loop same name (what ∷ path) = same_word what.word word.Do && fits_name same name what.name || is_construct what.word && in_loop same name path

-- an END alone ends a program unit and an interface body (11.1, 11.3, 11.4, 12.5.2); a module or internal procedure wants its word, and
-- so do interface blocks and constructs
abbrev pub ends_plainly : Region → Bool
ends_plainly region.MainProgram = true
ends_plainly region.Module = true
ends_plainly region.BlockData = true
ends_plainly region.ExternalProcedure = true
ends_plainly region.Body = true
ends_plainly _ = false

-- the statement ends what was opened so, in that region. This project's own: END INTERFACE may carry the name of its block, which
-- Fortran 90 doesn't have (12.3.2.1), and END DO may leave the name of its construct out (8.1.4.1)
abbrev pub ends : (ℕ → ℕ → Bool) → Region → Title → Mark → Bool
ends same within what mark.PlainEnd = ends_plainly within
ends same within what (mark.End by) = same_word by.word what.word && fits_name same by.name what.name
ends same within what _ = false

-- ---- the order of statements

-- the statements of a scoping unit (2.3.1), with executable statements and procedures where it may hold them. This project's choice:
-- PARAMETER and DATA stand after all IMPLICIT statements, and DATA before all executable ones
abbrev pub specification_part : List Section → List Section
specification_part after = section.Any content.Use ∷ section.Any content.Implicit ∷ section.Any content.Specification ∷ after

abbrev pub procedure_part : List Section
procedure_part = section.Once content.Contains ∷ section.Any content.Procedure ∷ []

abbrev pub scope_sections : List Section
scope_sections = specification_part (section.Any content.Executable ∷ procedure_part)

-- This project's choice: MODULE PROCEDURE statements stand among the bodies of a generic interface block, and an interface body holds
-- IMPLICIT, type declarations, DIMENSION and INTENT alone
abbrev pub sections_in : Region → List Section
sections_in region.File = section.Any content.Unit ∷ []
sections_in region.MainProgram = scope_sections
sections_in region.Module = specification_part procedure_part
sections_in region.BlockData = section.Any content.Use ∷ section.Any content.Implicit ∷ section.Any content.Data ∷ []
sections_in region.ExternalProcedure = scope_sections
sections_in region.ModuleProcedure = scope_sections
sections_in region.InternalProcedure = specification_part (section.Any content.Executable ∷ [])
sections_in region.Interface = section.Any content.Procedure ∷ []
sections_in region.GenericInterface = section.Any content.Specific ∷ []
sections_in region.Body = section.Any content.Implicit ∷ section.Any content.Characteristic ∷ []
sections_in region.If = section.Any content.ElseIf ∷ section.Once content.Else ∷ section.Any content.Executable ∷ []
sections_in region.Do = section.Any content.Executable ∷ []
sections_in region.Select = section.First content.AnyCase ∷ section.Any content.Case ∷ section.Once content.Default ∷ section.Any content.Case ∷ []

-- the statements are those sections in turn; to any number of one kind belong as many as follow one another
abbrev pub in_order : List Section → List Mark → Bool
in_order [] [] = true
in_order [] (m ∷ marks) = false
in_order (section.Any p ∷ sections) marks = in_order sections (drop (prefix_len (belongs p) marks) marks)
in_order (section.Once p ∷ sections) [] = true
in_order (section.Once p ∷ sections) (m ∷ marks) = belongs p m && in_order sections marks
in_order (section.First p ∷ sections) [] = true
in_order (section.First p ∷ sections) (m ∷ marks) = belongs p m && in_order sections (m ∷ marks)
