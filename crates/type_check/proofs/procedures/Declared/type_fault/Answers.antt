use Rattle.std.proofs.Common.{refl, sym, ap}
use Rattle.ftn_tree.specs.KeyKinds.{datum}
use Rattle.type_check.specs.steps.Noted.{first_seen, noted}
use Rattle.type_check.proofs.ToldTypes.{numbered_datum, told_unnumbered}
use Rattle.type_check.proofs.procedures.Declared.type_fault.Goals as goal

pub returns-in-Some : goal.returns-in-Some
returns-in-Some c =
    c.name_fault.ensures (datum c.args.e c.args.name.now)
    (numbered_datum c.args.files.now c.args.self.now c.requires.known c.args.scope c.args.e c.requires.unit c.args.name.now c.in-Some.number (sym c.in-Some.ensures)) refl

pub returns-in-None : goal.returns-in-None
returns-in-None c =
    ap (noted c.args.e.file (first_seen c.args.faults.now))
    (sym (told_unnumbered c.args.files.now c.args.self.now c.requires.known c.args.scope c.args.e c.requires.unit c.args.name.now (sym c.in-None.ensures)))
