use Rattle.std.proofs.Common.{map, Ok, Err}
use Rattle.std.specs.String.{string_bytes}
use Rattle.ftn_tool.proofs.Editions.{found_as}
use Rattle.ftn_tool.proofs.command.read_words.Goals as goal

pub returns-in-Ok : goal.returns-in-Ok
returns-in-Ok c = found_as (map string_bytes c.args.words.now) c.option_at-option.result (Ok c.in-Ok.command) c.option_at-option.ensures c.in-Ok.ensures

pub returns-in-Err-Bad : goal.returns-in-Err-Bad
returns-in-Err-Bad c =
    rw c.position_of.ensures
    (found_as (map string_bytes c.args.words.now) c.option_at-option.result (Err c.in-Err-Bad.position) c.option_at-option.ensures (rw c.in-Err-Bad.field-0-is at c.in-Err-Bad.ensures))
