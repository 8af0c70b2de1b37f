-- What is told of a file that is not read.
use Rattle.ftn_tree.specs.declared.token.Tokens.{Tokens}
use Rattle.ftn_tree.specs.declared.unit.FileTree.{FileTree}
use Rattle.ftn_tree.specs.FileFaults.{IsFileTree, IsTreeFault}
use Rattle.unit_parse.specs.declared.fault.ParseFault.{ParseFault}
use Rattle.unit_parse.specs.declared.fault.ParseFault.TheVariants.{At, NoMemory}

abbrev pub IsParseFault : Tokens → ParseFault → Type 0
IsParseFault tokens (At kind range) = IsTreeFault tokens kind range
IsParseFault tokens NoMemory = Unit {0}

-- a file with a fault has no tree
abbrev pub HasNoTree : Tokens → ParseFault → Type 0
HasNoTree tokens (At kind range) = (tree : FileTree) → IsFileTree tokens tree → ⊥
HasNoTree tokens NoMemory = Unit {0}
