use Rattle.std.proofs.Common.{sym, ◌∙◌, ap}
use Rattle.ftn_tree.specs.Assignments.{is_assignment}
use Rattle.unit_parse.specs.steps.Openings.{starts}
use Rattle.unit_parse.proofs.Misreads.{started_fits, other_fits}
use Rattle.unit_parse.proofs.forms.read_fitting.Goals as goal

pub returns-then-begins_executable : goal.returns-then-begins_executable
returns-then-begins_executable c =
    started_fits c.args.cursor.now.at c.args.cursor.now.rest c.fitting_executable-then-begins_executable.result
    (sym (ap starts c.rest-else-is_assignment.ensures) ∙ sym c.begins_executable.ensures ∙ c.if-begins_executable.true) c.fitting_executable-then-begins_executable.ensures

pub returns-else-begins_executable : goal.returns-else-begins_executable
returns-else-begins_executable c =
    other_fits c.args.cursor.now.at c.args.cursor.now.rest c.fitting_specification.result
    (sym (ap is_assignment c.rest.ensures) ∙ sym c.is_assignment.ensures.value ∙ c.if-is_assignment.false)
    (sym (ap starts c.rest-else-is_assignment.ensures) ∙ sym c.begins_executable.ensures ∙ c.if-begins_executable.false) c.fitting_specification.ensures
