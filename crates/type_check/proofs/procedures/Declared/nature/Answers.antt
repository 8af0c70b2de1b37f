use Rattle.std.proofs.Common.{◌≡◌, IfOk, arith, subst}
use Rattle.type_check.specs.steps.Natures.{nature_by, nature_seen}
use Rattle.const_value.proofs.GatheredNames.{name_within, written_within}
use Rattle.type_check.proofs.DeclaredNames.{nature_here}
use Rattle.type_check.proofs.procedures.Declared.nature.Goals as goal
use Rattle.type_check.proofs.procedures.Declared.nature.Goals.{else-name-len-via-then-name-len+else-name-len-2, else-name-len-via-else-name-len}

pub returns-then-name-len-2 : goal.returns-then-name-len-2
returns-then-name-len-2 c files d a there =
    let known = c.args.self.now in
    subst (λ x. IfOk c.nature_of.result (λ made. nature_seen made ≡ x)) (nature_here files known a c.args.name d there)
    (subst (λ namings. IfOk c.nature_of.result (λ made. nature_seen made ≡ nature_by known.names.now.project.now namings c.args.name)) c.deref.ensures.value c.nature_of.ensures)

pub returns-else-name-len : goal.returns-else-name-len
returns-else-name-len c files d a there =
    let p = c.args.self.now.names.now.project.now in
    let within = name_within files p a.names.gathered c.args.name d there in
    let written = written_within files p a.names.gathered c.args.name d there in
    elim c.else-name-len.branch [
      | else-name-len-via-then-name-len+else-name-len-2 w ↦ absurd (omega (arith, w.if-name-len-2, w.len-then-name-len.ensures, written))
      | else-name-len-via-else-name-len w ↦ absurd (omega (arith, w.if-name-len, c.len.ensures, within))
    ]
