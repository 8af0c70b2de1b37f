-- The files of a store before, amid and after a change by a plan (this project's own). The plan's text is kept as `ftn.plan` until
-- all its files are put, so that a stop leaves whole old files, whole new ones, or what the plan completes.
use Rattle.std.specs.Prelude.{◌≡◌, ◌≢◌, ◌⊎◌, ℕ, List, codes, fold, Some, None}
use Rattle.ftn_base.specs.Files.{File, IsInOrder, text_of, with_file}
use Rattle.plan_file.specs.Plans.{IsPlan, plan_text}

-- the name of the plan file
abbrev pub plan_name : List ℕ
plan_name = codes "ftn.plan"

-- there is no plan file
abbrev pub HasNoPlan : List File → Type 0
HasNoPlan files = text_of files plan_name ≡ None

-- the files with this text as plan file
abbrev pub with_plan : List ℕ → List File → List File
with_plan text files = with_file plan_name text files

-- the files after those of the plan were put among them
abbrev pub with_files : List File → List File → List File
with_files plan files = fold (λ all file. with_file file.0 file.1 all) files plan

-- files in order without a plan file, and a valid plan for them
pub record IsChange (files plan : List File) : Type 0 where
  pub ordered : IsInOrder files
  pub lacks : HasNoPlan files
  pub valid : IsPlan plan

-- The plan's text is there. Each other file is as it was before, or as it is after the change.
pub record IsAmid (files plan now : List File) : Type 0 where
  pub planned : text_of now plan_name ≡ Some (plan_text plan)
  pub others : (name : List ℕ) → name ≢ plan_name → (text_of now name ≡ text_of files name) ⊎ (text_of now name ≡ text_of (with_files plan files) name)

-- whole old, amid the change, or whole new
abbrev pub IsMiddle : List File → List File → List File → Type 0
IsMiddle files plan now = (now ≡ files) ⊎ (IsAmid files plan now ⊎ (now ≡ with_files plan files))
