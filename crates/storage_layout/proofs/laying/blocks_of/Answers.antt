use Rattle.std.proofs.Common.{◌+◌, ◌<◌, ℕ, List, length, sym, subst, arith}
use Rattle.std.proofs.lemmas.List.{get_or_read}
use Rattle.storage_layout.proofs.Noted.{noted}
use Rattle.storage_layout.proofs.laying.blocks_of.Goals as goal

pub loop-number-preserved : goal.loop-number-preserved
loop-number-preserved c =
    let names : List ℕ = c.args.things.now.names.items in
    let class : List ℕ = c.args.found.now.class.items in
    let at : ℕ = c.args.things.now.objects + c.loop-number.number in
    let inside : c.loop-number.number < length names = omega (arith, c.loop-number-test.true, c.len-number-end.ensures, c.args.things.now.names.ok.0) in
    let sized = c.requires.sized in
    let lt : c.args.things.now.objects + c.loop-number.number < length class = omega (arith, inside, sized) in
    let area = get_or_read class at c.index-area.result.now lt c.index-area.ensures 0 in
    let name = get_or_read names c.loop-number.number c.index.result.now inside c.index.ensures 0 in
    noted c.args.things.now.objects names class c.args.found.now.size.items c.loop-number.block.items c.loop-number.number c.index-area.result.now c.index.result.now inside (sym area) (sym name)
    (subst (λ (a : ℕ). a < length c.args.found.now.size.items) (sym area) (c.requires.known at 0 lt)) c.loop-number.invariant
