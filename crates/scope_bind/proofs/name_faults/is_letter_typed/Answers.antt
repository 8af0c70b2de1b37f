use Rattle.std.proofs.Common.{ap, sym, ◌∙◌}
use Rattle.ftn_tree.specs.Meanings.{declared_in}
use Rattle.scope_bind.specs.steps.Declared.{meant}
use Rattle.scope_bind.specs.steps.Globals.{unit_at}
use Rattle.scope_bind.specs.steps.NameFaults.{is_own_meaning}
use Rattle.scope_bind.proofs.LetterTypes.{letter_by}
use Rattle.scope_bind.proofs.name_faults.is_letter_typed.Goals as goal

pub returns : goal.returns
returns c =
    let files = c.args.known.now.files.now in
    let scope = c.args.scope in
    let name = c.args.name.now in
    let declared = c.declared-declared.result in
    letter_by files c.requires.known.trees scope c.requires.within name declared c.is_nothing.result c.denotes-meaning.result c.is_own_meaning.result
    (ap (λ b. meant files scope b declared) (sym c.bytes.ensures.bytes) ∙ c.declared-declared.ensures.meant ∙ ap (declared_in files (unit_at files scope)) c.bytes.ensures.bytes)
    c.is_nothing.ensures c.if-not-is_nothing.false c.denotes-meaning.ensures
    (c.is_own_meaning.ensures ∙ ap (λ b. is_own_meaning files scope b c.denotes-meaning.result) c.bytes-2.ensures.bytes)
