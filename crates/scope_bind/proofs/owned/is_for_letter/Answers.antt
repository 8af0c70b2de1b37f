use Rattle.std.proofs.Common.{◌≡◌, ◌&&◌, ◌∙◌, ap, sym}
use Rattle.ftn_base.specs.Accessible.{entities_of}
use Rattle.ftn_tree.specs.Meanings as spec
use Rattle.scope_bind.specs.steps.Declared.{meant}
use Rattle.scope_bind.specs.steps.Globals.{unit_at}
use Rattle.scope_bind.specs.steps.Meaning.{numbered, used_meaning}
use Rattle.scope_bind.proofs.Owning.{for_letter}
use Rattle.scope_bind.proofs.owned.is_for_letter.Goals as goal

pub returns-then-is_nothing : goal.returns-then-is_nothing
returns-then-is_nothing c accessible is =
    let files = c.args.known.now.files.now in
    let scope = c.args.scope in
    let e = unit_at files scope in
    let name = c.args.name.now in
    let declared = c.meaning_of-declared.ensures
    ∙ ap (λ b. numbered files (meant files scope b c.declared-own.result)) (c.bytes-2.ensures.bytes ∙ sym c.bytes.ensures.bytes)
    ∙ ap (numbered files) c.declared-own.ensures.meant ∙ ap (λ b. numbered files (spec.declared_in files e b)) c.bytes.ensures.bytes in
    let used = c.used_meaning.ensures ∙ ap used_meaning (c.entities.ensures ∙ ap (λ xs. entities_of xs name) is) in
    let plain = c.is_plain-plain.ensures ∙ ap (spec.stands_plain files e) c.bytes-3.ensures.bytes in
    sym (ap (λ b. b && c.is_plain-plain.result) c.if-is_nothing.true)
    ∙ for_letter files accessible e name c.meaning_of-declared.result c.used_meaning.result c.or_meaning-meaning.result c.is_nothing.result c.is_plain-plain.result declared used
    c.or_meaning-meaning.ensures c.is_nothing.ensures plain

pub returns-else-is_nothing : goal.returns-else-is_nothing
returns-else-is_nothing c accessible is =
    let files = c.args.known.now.files.now in
    let scope = c.args.scope in
    let e = unit_at files scope in
    let name = c.args.name.now in
    let declared = c.meaning_of-declared.ensures
    ∙ ap (λ b. numbered files (meant files scope b c.declared-own.result)) (c.bytes-2.ensures.bytes ∙ sym c.bytes.ensures.bytes)
    ∙ ap (numbered files) c.declared-own.ensures.meant ∙ ap (λ b. numbered files (spec.declared_in files e b)) c.bytes.ensures.bytes in
    let used = c.used_meaning.ensures ∙ ap used_meaning (c.entities.ensures ∙ ap (λ xs. entities_of xs name) is) in
    let plain = c.is_plain-plain.ensures ∙ ap (spec.stands_plain files e) c.bytes-3.ensures.bytes in
    c.if-is_nothing.false ∙ sym (ap (λ b. b && c.is_plain-plain.result) c.if-is_nothing.false)
    ∙ for_letter files accessible e name c.meaning_of-declared.result c.used_meaning.result c.or_meaning-meaning.result c.is_nothing.result c.is_plain-plain.result declared used
    c.or_meaning-meaning.ensures c.is_nothing.ensures plain
