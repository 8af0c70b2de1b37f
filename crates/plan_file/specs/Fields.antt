-- The fields of plan texts, and the first field of a text of bytes that is broken or cut.
use Rattle.std.specs.Prelude.{◌≡◌, ⊤, ℕ, ◌≤◌, true, nat_eq, if◌then◌else◌, List, [], ◌∷◌, ◌++◌, length, take}
use Rattle.std.specs.List.{concat, flat_map, list_all}
use Rattle.ftn_base.specs.Files.{File, IsInOrder}
use Rattle.ftn_base.specs.Limits.{most_files, most_project_bytes}
use Rattle.plan_file.specs.Plans.{size_of, is_planned, IsPlan, title, count_field, file_field, text_field, ending, plan_text}
use Rattle.plan_file.specs.declared.fault.PlanFault.{PlanFault}
use Rattle.plan_file.specs.declared.fault.PlanFault.TheVariants.{NotAPlan, NoMemory}

-- the bytes begin with that front
abbrev pub BeginsWith : List ℕ → List ℕ → Type 0
BeginsWith front bytes = (rest : List ℕ) × (bytes ≡ front ++ rest)

-- so many files are announced, and these, the first of them, break no rule of plans
pub record MayBegin (count : ℕ) (files : List File) : Type 0 where
  pub some : 1 ≤ count
  pub few : count ≤ most_files
  pub within : length files ≤ count
  pub planned : list_all is_planned files ≡ true
  pub in_order : IsInOrder files
  pub small : size_of files ≤ most_project_bytes

abbrev pub fields_of : File → List (List ℕ)
fields_of file = file_field (length file.1) file.0 ∷ text_field file.1 ∷ []

-- the last field, which comes once all files that are announced are there
abbrev pub last_field : ℕ → List File → List (List ℕ)
last_field count files = if nat_eq (length files) count then ending ∷ [] else []

-- the fields of the first files of so many
abbrev pub fields : ℕ → List File → List (List ℕ)
fields count files = title ∷ count_field count ∷ (flat_map fields_of files ++ last_field count files)

-- The bytes begin with a row of whole fields in which no rule of plans is broken, and it ends at that place.
pub record HasWhole (bytes : List ℕ) (at : ℕ) : Type 0 where
  pub count : ℕ
  pub files : List File
  pub begun : MayBegin count files
  pub many : ℕ
  pub front : BeginsWith (concat (take many (fields count files))) bytes
  pub ends : at ≡ length (concat (take many (fields count files)))

-- the start of the first field that is broken or cut: where the longest row of whole fields ends
pub record IsFirstBroken (bytes : List ℕ) (at : ℕ) : Type 0 where
  pub whole : HasWhole bytes at
  pub longest : (other : ℕ) → HasWhole bytes other → other ≤ at

-- the bytes are the text of that plan
abbrev pub IsTextOf : List File → List ℕ → Type 0
IsTextOf files bytes = IsPlan files × (plan_text files ≡ bytes)

-- A fault tells that the bytes are no plan's text, with the first field that is broken or cut, or that memory was wanting.
abbrev pub IsFault : PlanFault → List ℕ → Type 0
IsFault (NotAPlan at) bytes = ((files : List File) → IsTextOf files bytes → ⊥) × IsFirstBroken bytes at
IsFault NoMemory bytes = ⊤

-- Where a plan's text begins with a plan's text, the two are one text of one plan.
abbrev pub NoProperFront : Type 0
NoProperFront = (files others : List File) (rest : List ℕ) → IsPlan files → IsPlan others → plan_text others ≡ plan_text files ++ rest → (others ≡ files) × (rest ≡ [])
