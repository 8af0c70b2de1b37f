use Rattle.unit_parse.proofs.Tiles.{units_tile}
use Rattle.unit_parse.proofs.laws.units_hold_each_statement_once.Goals as goal

pub returns : goal.returns
returns c = units_tile
