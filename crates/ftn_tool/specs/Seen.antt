-- What is seen of the devices of a command.
use Rattle.std.specs.Prelude.{◌≡◌, ℕ, List, Option}
use Rattle.ftn_base.specs.Files.{File}
use Rattle.store_io.specs.Counts.{Rose}
use Rattle.store_io.specs.Told.{Takes, TakesFront}

-- a value before a call and after it
pub record Change (A : Type 0) : Type 0 where
  pub before : A
  pub after : A

-- what the store and the sink tell, and their counts, before and after a call
pub record Seen : Type 0 where
  pub files : Change (Option (List File))
  pub taken : Change (Option (List ℕ))
  pub store : Change ℕ
  pub sink : Change ℕ
  pub wants : Change ℕ

abbrev pub see : Option (List File) → Option (List File) → Option (List ℕ) → Option (List ℕ) → ℕ → ℕ → ℕ → ℕ → ℕ → ℕ → Seen
see files_before files_after taken_before taken_after store_before store_after sink_before sink_after wants_before wants_after = record {
  files = record { before = files_before; after = files_after };
  taken = record { before = taken_before; after = taken_after };
  store = record { before = store_before; after = store_after };
  sink = record { before = sink_before; after = sink_after };
  wants = record { before = wants_before; after = wants_after };
}

abbrev pub HasRisen : Change ℕ → Type 0
HasRisen count = Rose count.before count.after

-- neither count of the sink rose
abbrev pub SinkHolds : Seen → Type 0
SinkHolds seen = (HasRisen seen.sink → ⊥) × (HasRisen seen.wants → ⊥)

-- the sink took a part of the text from its front on, and the whole where no count of it rose
pub record Says (seen : Seen) (text : List ℕ) : Type 0 where
  pub front : TakesFront text seen.taken.before seen.taken.after
  pub whole : SinkHolds seen → Takes text seen.taken.before seen.taken.after

-- the sink took the whole text
abbrev pub HasTaken : Seen → List ℕ → Type 0
HasTaken seen text = Takes text seen.taken.before seen.taken.after

-- the sink took a part of the text from its front on, and maybe nothing
abbrev pub HasTakenFront : Seen → List ℕ → Type 0
HasTakenFront seen text = TakesFront text seen.taken.before seen.taken.after

abbrev pub KeepsFiles : Seen → Type 0
KeepsFiles seen = seen.files.after ≡ seen.files.before
