use Rattle.std.proofs.Common.{ap, sym, ◌∙◌, if◌then◌else◌}
use Rattle.ftn_base.specs.Accessible.{entities_of}
use Rattle.ftn_tree.specs.Meanings as spec
use Rattle.scope_bind.specs.declared.meaning.Meaning.TheVariants as made
use Rattle.scope_bind.specs.steps.Declared.{meant}
use Rattle.scope_bind.specs.steps.Globals.{unit_at}
use Rattle.scope_bind.specs.steps.Meaning.{numbered, or_meaning, used_meaning, all_numbered}
use Rattle.scope_bind.proofs.NumberedMeanings.{meaning_step}
use Rattle.scope_bind.proofs.UnitReads.{map_read}
use Rattle.scope_bind.proofs.known.Known.meaning_in.Goals as goal

pub returns : goal.returns
returns c = λ outer is.
    let files = c.args.self.now.files.now in
    let scope = c.args.scope in
    let e = unit_at files scope in
    let name = c.args.name.now in
    let declared = c.meaning_of-declared.ensures
    ∙ ap (λ b. numbered files (meant files scope b c.declared-own.result)) (c.bytes-2.ensures.bytes ∙ sym c.bytes.ensures.bytes)
    ∙ ap (numbered files) c.declared-own.ensures.meant ∙ ap (λ b. numbered files (spec.declared_in files e b)) c.bytes.ensures.bytes in
    let there = map_read (λ x. all_numbered files (spec.accessible_in files x)) files scope c.args.used.now c.index-used-scope.result c.requires.used c.requires.within c.index-used-scope.is in
    let used = c.used_meaning-used.ensures ∙ ap used_meaning (c.entities.ensures ∙ ap (λ xs. entities_of xs name) there) in
    let around = c.unless_body-around.ensures ∙ ap (λ m. if c.is_body.result then made.Nothing else m) is in
    let letter = c.letter_meaning-letter.ensures ∙ ap (λ b. numbered files (spec.letter_meaning files e b)) c.bytes-3.ensures.bytes in
    c.or_meaning-3.ensures
    ∙ ap (or_meaning c.meaning_of-declared.result) (c.or_meaning-2.ensures ∙ ap (or_meaning c.used_meaning-used.result) c.or_meaning.ensures)
    ∙ meaning_step files e name (spec.accessible_in files e) outer c.is_body.result c.meaning_of-declared.result c.used_meaning-used.result c.unless_body-around.result c.letter_meaning-letter.result
    c.is_body.ensures declared used around letter
