-- The field that may come next in a plan's text, as the reader asks for it.
use Rattle.std.specs.Prelude.{◌≡◌, ⊤, ℕ, ◌+◌, ◌-◌, ◌≤◌, ◌<◌, ◌^◌, Bool, true, not, ◌&&◌, ◌==◌, nat_le, List, [], ◌∷◌, ◌++◌, length, ◌⊎◌}
use Rattle.std.specs.List.{list_all}
use Rattle.std.specs.Ordering.{is_lt}
use Rattle.ftn_base.specs.Files.{File, by_name, is_source}
use Rattle.ftn_base.specs.Names.{is_file_name}
use Rattle.ftn_base.specs.Limits.{most_file_bytes, most_project_bytes}
use Rattle.plan_file.specs.Plans.{size_of, file_field, text_field, entry}
use Rattle.plan_file.specs.Fields.{BeginsWith, IsTextOf, IsFirstBroken}
use Rattle.plan_file.specs.declared.fault.Stop.{Stop}
use Rattle.plan_file.specs.declared.fault.Stop.TheVariants.{Broken, NoMemory}

-- each of these names comes before that name
abbrev pub are_before : List File → List ℕ → Bool
are_before files name = list_all (λ file. is_lt (by_name file.0 name)) files

-- after these files a file of that length and name may come
pub record IsNext (files : List File) (size : ℕ) (name : List ℕ) : Type 0 where
  pub valid : is_file_name name ≡ true
  pub source : is_source name ≡ true
  pub short : size ≤ most_file_bytes
  pub later : are_before files name ≡ true
  pub small : size_of files + size ≤ most_project_bytes

-- the same of a file's name, as a test
abbrev pub may_come : List File → ℕ → List ℕ → Bool
may_come files size name = is_source name && are_before files name && nat_le size most_file_bytes && nat_le (size_of files + size) most_project_bytes

-- that byte isn't among these
abbrev pub lacks : ℕ → List ℕ → Bool
lacks byte word = list_all (λ b. not (b == byte)) word

-- a file joins the files, and its fields stand in front of the bytes
pub record Takes (files more : List File) (bytes : List ℕ) (size : ℕ) (rest : List ℕ) : Type 0 where
  pub file : File
  pub joined : more ≡ files ++ file ∷ []
  pub stands : bytes ≡ entry file ++ rest
  pub sized : size ≡ length file.1
  pub next : IsNext files (length file.1) file.0

-- no field of a file that may come next stands in front of the bytes
abbrev pub HasNoNext : List File → List ℕ → Type 0
HasNoNext files bytes = (size : ℕ) (name : List ℕ) → IsNext files size name → BeginsWith (file_field size name) bytes → ⊥

abbrev pub HasNoText : ℕ → List ℕ → Type 0
HasNoText size bytes = (text : List ℕ) → length text ≡ size → BeginsWith (text_field text) bytes → ⊥

-- the field of a file that may come next stands in front of the bytes, and its text doesn't come after it
pub record HasCutText (files : List File) (bytes : List ℕ) (left : ℕ) : Type 0 where
  pub size : ℕ
  pub name : List ℕ
  pub rest : List ℕ
  pub next : IsNext files size name
  pub stands : bytes ≡ file_field size name ++ rest
  pub cut : HasNoText size rest
  pub at : left ≡ length rest

-- why no file comes next
abbrev pub Stops : Stop → List File → List ℕ → Type 0
Stops (Broken left) files bytes = ((left ≡ length bytes) × HasNoNext files bytes) ⊎ HasCutText files bytes left
Stops NoMemory files bytes = ⊤

pub record IsBrokenWith (bytes : List ℕ) (left : ℕ) : Type 0 where
  pub within : left ≤ length bytes
  pub small : length bytes - left < 2 ^ 32
  pub no_plan : (files : List File) → IsTextOf files bytes → ⊥
  pub first : IsFirstBroken bytes (length bytes - left)

-- why the bytes are no plan's text
abbrev pub IsStopped : Stop → List ℕ → Type 0
IsStopped (Broken left) bytes = IsBrokenWith bytes left
IsStopped NoMemory bytes = ⊤
