use Rattle.ftn_tree.specs.declared.form.Form.{out-Form}
use Rattle.type_check.specs.steps.Noted.{first_seen}
use Rattle.type_check.proofs.StatedLaws.{stated}
use Rattle.type_check.proofs.statements.statement_faults.Goals as goal

pub returns : goal.returns
returns c = λ files e right of_data none.
    stated files e c.args.setting.now right (out-Form c.args.form.now) (first_seen c.args.faults.now) (first_seen c.placed_faults.new.faults) (first_seen c.whole_faults.new.faults)
    c.whole_faults.result c.in_ok-placed_faults.ensures (c.whole_faults.ensures files e of_data none)
