use Rattle.scope_bind.specs.steps.Globals.{unit_at}
use Rattle.scope_bind.proofs.Owning.{begin_some, begin_none}
use Rattle.scope_bind.proofs.owned.own_begin.Goals as goal

pub returns-in-Some : goal.returns-in-Some
returns-in-Some c =
    let files = c.args.known.now.files.now in
    begin_some files (unit_at files c.args.scope) c.args.name.now c.has_result.result c.heard-heard.result c.noted-noted.result c.has_result.ensures c.heard-heard.ensures c.noted-noted.ensures
    c.in-Some.kind c.kind.result c.own_place.result c.kind.ensures c.in-Some.is c.own_place.ensures

pub returns-in-None : goal.returns-in-None
returns-in-None c =
    let files = c.args.known.now.files.now in
    begin_none files (unit_at files c.args.scope) c.args.name.now c.has_result.result c.heard-heard.result c.noted-noted.result c.has_result.ensures c.heard-heard.ensures c.noted-noted.ensures
    c.kind.result c.kind.ensures c.in-None.is
