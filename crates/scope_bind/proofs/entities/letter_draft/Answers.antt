use Rattle.std.proofs.Common.{◌∙◌}
use Rattle.scope_bind.proofs.LetterDrafts.{letter_drafted}
use Rattle.scope_bind.proofs.entities.letter_draft.Goals as goal

pub returns : goal.returns
returns c =
    letter_drafted c.args.known.now.files.now c.requires.known.trees c.args.scope c.requires.within c.args.token c.unit-file.result c.in_ok-name.name c.bytes.result.now c.noted.result c.is_letter_typed.result
    c.unit-file.ensures (c.in_ok-name.ensures ∙ c.name_at.ensures) c.is_letter_typed.ensures c.if-not-is_letter_typed.false c.noted.ensures c.bytes.ensures.bytes
