-- Statements nest in one way, or have one fault; and so is a file read.
use Rattle.std.specs.Prelude.{◌≡◌, ◌⊎◌, ℕ, Bool, List}
use Rattle.ftn_base.specs.declared.fault.FaultKind.{FaultKind}
use Rattle.ftn_tree.specs.declared.mark.Mark.{Mark}
use Rattle.ftn_tree.specs.declared.unit.Unit.{Unit as UnitTree}
use Rattle.ftn_base.specs.declared.name.Edition.{Edition}
use Rattle.ftn_base.specs.declared.place.Range.{Range}
use Rattle.ftn_tree.specs.declared.token.Tokens.{Tokens}
use Rattle.ftn_tree.specs.declared.unit.FileTree.{FileTree}
use Rattle.ftn_tree.specs.Nesting.{Nested}
use Rattle.ftn_tree.specs.NestFaults.{IsNestFault}
use Rattle.ftn_tree.specs.FileFaults.{IsFileTree, IsTreeFault, IsTextFault, IsTreeOf}

pub record IsDecided (same : ℕ → ℕ → Bool) (marks : List Mark) : Type 0 where
  pub one_reading : (units others : List UnitTree) → Nested same marks units → Nested same marks others → units ≡ others
  pub one_fault : (kind other : FaultKind) (at place : ℕ) → IsNestFault same marks kind at → IsNestFault same marks other place → (kind ≡ other) × (at ≡ place)
  pub not_both : (units : List UnitTree) (kind : FaultKind) (at : ℕ) → Nested same marks units → IsNestFault same marks kind at → ⊥
  pub one_of_them : ((units : List UnitTree) × Nested same marks units) ⊎ ((kind : FaultKind) × (at : ℕ) × IsNestFault same marks kind at)

-- whatever names are the same
abbrev pub NestingIsDecided : Type 0
NestingIsDecided = (same : ℕ → ℕ → Bool) (marks : List Mark) → IsDecided same marks

-- tokens of a file have one tree at most, one first fault at most, and never both
pub record HasOneAnswer (tokens : Tokens) : Type 0 where
  pub one_tree : (one other : FileTree) → IsFileTree tokens one → IsFileTree tokens other → one ≡ other
  pub one_fault : (kind other : FaultKind) (bytes place : Range) → IsTreeFault tokens kind bytes → IsTreeFault tokens other place → (kind ≡ other) × (bytes ≡ place)
  pub not_both : (tree : FileTree) (kind : FaultKind) (bytes : Range) → IsFileTree tokens tree → IsTreeFault tokens kind bytes → ⊥

-- the same of a text in an edition
pub record TextHasOneAnswer (edition : Edition) (text : List ℕ) : Type 0 where
  pub one_tree : (one other : FileTree) → IsTreeOf edition text one → IsTreeOf edition text other → one ≡ other
  pub one_fault : (kind other : FaultKind) (bytes place : Range) → IsTextFault edition text kind bytes → IsTextFault edition text other place → (kind ≡ other) × (bytes ≡ place)
  pub not_both : (tree : FileTree) (kind : FaultKind) (bytes : Range) → IsTreeOf edition text tree → IsTextFault edition text kind bytes → ⊥
