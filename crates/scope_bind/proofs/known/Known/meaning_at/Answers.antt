use Rattle.std.proofs.Common.{ap, ap₂, sym, ◌∙◌}
use Rattle.ftn_tree.specs.Meanings as spec
use Rattle.scope_bind.specs.steps.Declared.{meant}
use Rattle.scope_bind.specs.steps.Globals.{unit_at}
use Rattle.scope_bind.specs.steps.Meaning.{numbered, or_meaning}
use Rattle.scope_bind.proofs.NumberedMeanings.{or_numbered}
use Rattle.scope_bind.proofs.known.Known.meaning_at.Goals as goal

pub returns : goal.returns
returns c =
    let files = c.args.self.now.files.now in
    let scope = c.args.scope in
    let e = unit_at files scope in
    let m = c.args.mention.now in
    let name = c.args.name.now in
    let referenced = c.meaning_of-referenced.ensures
    ∙ ap (λ b. numbered files (meant files scope b c.reference.result)) (c.bytes.ensures.bytes ∙ sym c.bytes-2.ensures.bytes)
    ∙ ap (numbered files) (c.reference.ensures.meant scope) ∙ ap (λ b. numbered files (spec.reference_meaning files m b)) c.bytes-2.ensures.bytes in
    c.or_meaning.ensures ∙ ap₂ or_meaning c.denotes.ensures referenced
    ∙ or_numbered files (spec.denotes files e name) (spec.reference_meaning files m name)
    ∙ ap (λ b. numbered files (spec.or_meaning (spec.denotes files e b) (spec.reference_meaning files m b))) c.requires.name
