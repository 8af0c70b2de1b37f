use Rattle.store_io.proofs.Removing.{removed_in, present_in}
use Rattle.store_io.proofs.mem_store.place_in.Goals as goal

pub returns-clause-found : goal.returns-clause-found
returns-clause-found c = removed_in c.args.files.now c.args.name.now c.first_place.result c.requires c.first_place.ensures.within c.first_place.ensures.place

pub returns-clause-present : goal.returns-clause-present
returns-clause-present c = present_in c.args.files.now c.args.name.now c.first_place.result c.first_place.ensures.place
