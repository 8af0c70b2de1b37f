-- What the devices in memory hold.
use Rattle.std.specs.Prelude.{ℕ, List, Option}
use Rattle.ftn_base.specs.Files.{File}
use Rattle.store_io.specs.declared.store_calls.FailAt.{FailAt}

-- a store: its files in order of names, how many replaces need no memory, the calls that fail, the call from which on all
-- fail, and how many calls were made and failed
pub record Held : Type 0 where
  pub files : List File
  pub spare : ℕ
  pub fails : List FailAt
  pub from : Option ℕ
  pub calls : ℕ
  pub faults : ℕ

-- a source: the bytes it has left, the calls that fail, and how many calls were made and failed
pub record Supply : Type 0 where
  pub left : List ℕ
  pub fails : List ℕ
  pub calls : ℕ
  pub faults : ℕ

-- a sink: the bytes it took, the calls that fail, how many calls were made and failed, and how many wanted memory
pub record Intake : Type 0 where
  pub taken : List ℕ
  pub fails : List ℕ
  pub calls : ℕ
  pub faults : ℕ
  pub wants : ℕ
