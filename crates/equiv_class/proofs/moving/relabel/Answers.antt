use Rattle.equiv_class.proofs.Relabels.{moved_next}
use Rattle.equiv_class.proofs.moving.relabel.Goals as goal

pub loop-object-preserved : goal.loop-object-preserved
loop-object-preserved c =
    moved_next c.args.label.now c.args.place.now c.args.moved.now c.loop-object.label c.loop-object.place c.args.to c.args.up c.args.down c.loop-object.object-index c.loop-object-test.true
    c.requires.places c.requires.known c.requires.once c.requires.low c.loop-object.invariant
