use Rattle.std.proofs.Common.{◌≡◌, ℕ, ◌+◌, List, length, subst, sym, take, arith}
use Rattle.ftn_tree.specs.declared.unit.FileTree.{FileTree}
use Rattle.ftn_tool.specs.BuiltFaults.{AreTreesOf}
use Rattle.ftn_tool.specs.steps.Found.{IsToldUnread, told_in}
use Rattle.ftn_tool.proofs.FirstFault.{tells_told, tree_more, trees_so_far}
use Rattle.ftn_tool.proofs.checking.read_trees.Goals as goal

pub fault_in-requires : goal.fault_in-requires
fault_in-requires c =
    let so_far : length c.files.trees.items ≡ c.files.file-index = trees_so_far c.args.edition c.args.files.now c.files.file-index c.files.trees.items c.files-test.true c.files.invariant in
    omega (arith, so_far, c.files-test.true, c.requires.few, c.len.ensures)

pub returns-in-Err-clause-fault : goal.returns-in-Err-clause-fault
returns-in-Err-clause-fault c =
    let counted : length c.files.trees.items ≡ c.len.result = omega (arith, c.len.ensures) in
    rw c.fault_in.ensures
    (subst (λ (n : ℕ). IsToldUnread c.args.edition c.args.files.now (told_in n c.in-Err.fault)) counted
    (tells_told c.args.edition c.args.files.now c.files.file-index c.file-item.result c.files.trees.items c.in-Err.fault c.files-test.true c.file-item.is c.files.invariant
    (rw c.bytes.ensures at c.in-Err.ensures.fault)))

pub files-preserved : goal.files-preserved
files-preserved c =
    subst (λ (trees : List FileTree). AreTreesOf c.args.edition (take (c.files.file-index + 1) c.args.files.now) trees) (sym c.in_ok-push-in-Ok.ensures.items)
    (tree_more c.args.edition c.args.files.now c.files.file-index c.file-item.result c.files.trees.items c.in-Ok.tree c.files-test.true c.file-item.is c.files.invariant
    (rw c.bytes.ensures at c.in-Ok.ensures.tree))
