use Rattle.decl_table.proofs.GlobalLists.{global_told}
use Rattle.decl_table.proofs.global_names.global_fault.Goals as goal

pub returns : goal.returns
returns c =
    global_told c.args.files.now c.in_ok-units.units.items c.deref.result.now c.deref-2.result.now c.in_ok-names.names.items c.deref-3.result.now c.in_ok-blocks.blocks.items c.deref-4.result.now
    c.in_ok-twice.twice c.in_ok-conflict.conflict c.earlier.result
    c.in_ok-units.ensures c.deref.ensures.value c.deref-2.ensures.value c.in_ok-names.ensures c.in_ok-blocks.ensures c.deref-3.ensures.value c.deref-4.ensures.value
    c.in_ok-twice.ensures.found (c.in_ok-conflict.ensures c.deref-3.result.now c.in_ok-twice.ensures.kept) c.earlier.ensures.joined
