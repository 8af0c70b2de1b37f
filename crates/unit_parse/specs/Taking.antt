-- The stack of openings without an ending, and what each statement does to it. It serves the proof of the code.
use Rattle.std.specs.Prelude.{◌≡◌, ℕ, ◌+◌, Bool, true, false, not, ◌&&◌, ◌||◌, nat_le, if◌then◌else◌, List, [], ◌∷◌, map, drop, Option, Some, None, Result, Ok, Err}
use Rattle.ftn_base.specs.Limits.{most_constructs}
use Rattle.ftn_base.specs.declared.fault.FaultKind.{FaultKind}
use Rattle.ftn_base.specs.declared.fault.FaultKind.TheVariants.{Misplaced, OutOfProfile, TooDeep}
use Rattle.ftn_tree.specs.declared.mark.Mark.{Mark}
use Rattle.ftn_tree.specs.declared.mark.Mark.TheVariants as mark
use Rattle.ftn_tree.specs.declared.mark.Region.{Region}
use Rattle.ftn_tree.specs.declared.mark.Region.TheVariants as region
use Rattle.ftn_tree.specs.declared.mark.Title.{Title}
use Rattle.ftn_tree.specs.declared.unit.Unit.{Unit as UnitTree}
use Rattle.ftn_tree.specs.Marks.{opens_construct, is_implicit, is_characteristic}
use Rattle.ftn_tree.specs.Regions.{depth, in_main, in_loop, ends, opened, sections_in}
use Rattle.ftn_tree.specs.NestFaults.{is_body}
use Rattle.unit_parse.specs.declared.level.Level.{Level}
use Rattle.unit_parse.specs.declared.frames.Frame.{Frame}
use Rattle.unit_parse.specs.declared.fault.NestFault.{NestFault}
use Rattle.unit_parse.specs.declared.fault.NestFault.TheVariants as fault
use Rattle.unit_parse.specs.steps.Following.{follow}
use Rattle.unit_parse.specs.Levels as levels

-- the innermost frame is the first
pub record State : Type 0 where
  pub here : Level
  pub frames : List Frame

abbrev pub path_of : List Frame → List Title
path_of frames = map (λ frame. frame.what) frames

abbrev pub start : State
start = record { here = levels.fresh region.File None; frames = [] }

-- a state, or the kind of the fault
abbrev pub Outcome : Type 0
Outcome = Result State FaultKind

abbrev pub is_too_deep : State → Mark → Bool
is_too_deep s m = opens_construct m && nat_le most_constructs (depth (path_of s.frames))

abbrev pub refused_kind : State → Mark → FaultKind
refused_kind s m =
    if is_body s.here.region && not (is_implicit m || is_characteristic m) then OutOfProfile
    else (if is_too_deep s m then TooDeep else Misplaced)

abbrev pub refusal : State → ℕ → Mark → NestFault
refusal s number m = fault.At (refused_kind s m) number

abbrev pub allows : (ℕ → ℕ → Bool) → State → Mark → Bool
allows same s (mark.Open what) = not (is_too_deep s (mark.Open what))
allows same s (mark.Leave name) = in_loop same name (path_of s.frames)
allows same s mark.Return = not (in_main (path_of s.frames))
allows same s _ = true

-- ---- what a statement does

abbrev pub open_nest : State → ℕ → Title → State
open_nest s number what =
    record { here = levels.fresh (opened s.here.region what) (levels.first_head number what); frames = record { opening = number; what = what; outside = s.here } ∷ s.frames }

abbrev pub add : State → ℕ → Mark → State
add s number (mark.Open what) = open_nest s number what
add s number m = record { here = levels.add_statement s.here number m; frames = s.frames }

abbrev pub at_stage : State → ℕ → State
at_stage s stage = record { here = record s.here { stage = stage }; frames = s.frames }

abbrev pub placed : (ℕ → ℕ → Bool) → State → ℕ → Mark → Option ℕ → Outcome
placed same s number m None = Err (refused_kind s m)
placed same s number m (Some stage) = if allows same s m then Ok (add (at_stage s stage) number m) else Err (refused_kind s m)

abbrev pub place : (ℕ → ℕ → Bool) → State → ℕ → Mark → Outcome
place same s number m = placed same s number m (follow (drop s.here.stage (sections_in s.here.region)) s.here.stage m)

abbrev pub shut_in : Level → List Frame → ℕ → State
shut_in here [] ending = record { here = here; frames = [] }
shut_in here (frame ∷ frames) ending = record { here = levels.add_nest frame.outside frame.opening frame.what here ending; frames = frames }

abbrev pub shut : State → ℕ → State
shut s ending = shut_in s.here s.frames ending

abbrev pub ends_first : (ℕ → ℕ → Bool) → Region → List Frame → Mark → Bool
ends_first same within [] m = false
ends_first same within (frame ∷ frames) m = ends same within frame.what m

abbrev pub close : (ℕ → ℕ → Bool) → State → ℕ → Mark → Outcome
close same s number m = if ends_first same s.here.region s.frames m then Ok (shut s number) else Err (refused_kind s m)

abbrev pub take : (ℕ → ℕ → Bool) → State → ℕ → Mark → Outcome
take same s number mark.PlainEnd = close same s number mark.PlainEnd
take same s number (mark.End by) = close same s number (mark.End by)
take same s number m = place same s number m

-- ---- all statements

-- the state after them, or the fault
abbrev pub Answer : Type 0
Answer = Result State (FaultKind × ℕ)

abbrev pub go_on : Outcome → ℕ → (State → Answer) → Answer
go_on (Ok s) number next = next s
go_on (Err kind) number next = Err (kind, number)

abbrev pub take_all : (ℕ → ℕ → Bool) → State → ℕ → List Mark → Answer
take_all same s number [] = Ok s
take_all same s number (m ∷ marks) = go_on (take same s number m) number (λ next. take_all same next (number + 1) marks)

abbrev pub finished : Level → List Frame → Result (List UnitTree) (FaultKind × ℕ)
finished here [] = Ok here.units
finished here (frame ∷ frames) = Err (Misplaced, frame.opening)

abbrev pub finish : State → Result (List UnitTree) (FaultKind × ℕ)
finish s = finished s.here s.frames

abbrev pub finish_all : Answer → Result (List UnitTree) (FaultKind × ℕ)
finish_all (Ok s) = finish s
finish_all (Err found) = Err found

abbrev pub nest : (ℕ → ℕ → Bool) → List Mark → Result (List UnitTree) (FaultKind × ℕ)
nest same marks = finish_all (take_all same start 0 marks)

-- ---- what calls answer; want of memory is free

abbrev pub Takes : Outcome → Result (Unit {0}) NestFault → ℕ → State → Type 0
Takes outcome (Ok done) number new = outcome ≡ Ok new
Takes outcome (Err (fault.At kind statement)) number new = (outcome ≡ Err kind) × (statement ≡ number)
Takes outcome (Err fault.NoMemory) number new = Unit {0}

abbrev pub Finishes : Result (List UnitTree) (FaultKind × ℕ) → Result (List UnitTree) NestFault → Type 0
Finishes outcome (Ok units) = outcome ≡ Ok units
Finishes outcome (Err (fault.At kind statement)) = outcome ≡ Err (kind, statement)
Finishes outcome (Err fault.NoMemory) = Unit {0}
