use Rattle.std.proofs.Common.{arith}
use Rattle.store_io.proofs.Placing.{placed_at, placed_later}
use Rattle.store_io.proofs.mem_store.place_of.Goals as goal

pub returns-in-Equal-clause-found : goal.returns-in-Equal-clause-found
returns-in-Equal-clause-found c = (
  c.places-test.true,
  λ text. placed_at c.args.files.now c.args.name.now c.places.at c.index-files-at.result c.places-test.true c.index-files-at.is text _ (cc) (c.places.invariant.front text),
)

pub places-preserved : goal.places-preserved
places-preserved c = record {
  within = omega arith;
  front = λ text. placed_later c.args.files.now c.args.name.now c.places.at c.index-files-at.result c.places-test.true c.index-files-at.is text _ (cc) (c.places.invariant.front text);
}
