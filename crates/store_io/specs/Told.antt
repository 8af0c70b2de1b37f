-- What stores and sinks tell, if they tell anything, and how calls change it.
use Rattle.std.specs.Prelude.{◌≡◌, ◌⊎◌, ℕ, ◌≤◌, List, ◌++◌, take, length, not, Option}
use Rattle.std.specs.List.{filter}
use Rattle.std.specs.Option.{option_map}
use Rattle.std.specs.Ordering.{eq_by_cmp}
use Rattle.ftn_base.specs.Files.{File, by_name, with_file}

-- a sink took this text
abbrev pub Takes : List ℕ → Option (List ℕ) → Option (List ℕ) → Type 0
Takes text before now = now ≡ option_map (λ had. had ++ text) before

-- a sink took a part of this text from its front on
abbrev pub TakesFront : List ℕ → Option (List ℕ) → Option (List ℕ) → Type 0
TakesFront text before now = (count : ℕ) × ((count ≤ length text) × Takes (take count text) before now)

-- the files are as they were, or this text was put under this name
abbrev pub MayPut : List ℕ → List ℕ → Option (List File) → Option (List File) → Type 0
MayPut name text before now = (now ≡ before) ⊎ (now ≡ option_map (with_file name text) before)

-- the files without the one of that name
abbrev pub without_file : List ℕ → List File → List File
without_file name files = filter (λ file. not (eq_by_cmp by_name name file.0)) files

-- the files are as they were, or the one of that name was taken away
abbrev pub MayRemove : List ℕ → Option (List File) → Option (List File) → Type 0
MayRemove name before now = (now ≡ before) ⊎ (now ≡ option_map (without_file name) before)
