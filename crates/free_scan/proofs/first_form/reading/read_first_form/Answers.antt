use Rattle.std.proofs.Common.{ap, sym, ◌∙◌}
use Rattle.std.specs.Option.{option_map}
use Rattle.free_scan.proofs.OneProgram.{lacks_program, spells}
use Rattle.free_scan.proofs.first_form.reading.read_first_form.Goals as goal

pub returns-in_default-2-clause-program : goal.returns-in_default-2-clause-program
returns-in_default-2-clause-program c =
    lacks_program c.args.text.now c.in-Some.pieces.items (sym c.in_ok-pieces.ensures ∙ ap (option_map (λ pieces. pieces.items)) c.in-Some.is)
    (rw (← c.deref.ensures.value) (sym c.in_ok-program.ensures ∙ c.in_default-2.is))

pub returns-clause-program : goal.returns-clause-program
returns-clause-program c =
    spells c.args.text.now c.in-Some.pieces.items c.in-Some-2.program (sym c.if-not-is_plain.ensures) (sym c.in_ok-pieces.ensures ∙ ap (option_map (λ pieces. pieces.items)) c.in-Some.is)
    (rw (← c.deref.ensures.value) (sym c.in_ok-program.ensures ∙ c.in-Some-2.is))
