use Rattle.std.proofs.Common.{◌≡◌, ◌<◌, ap, sym, ◌∙◌, refl, arith, Some}
use Rattle.ftn_tree.specs.Meanings as spec
use Rattle.scope_bind.specs.steps.Globals.{unit_at}
use Rattle.scope_bind.specs.steps.Meaning.{numbered}
use Rattle.scope_bind.proofs.Denoting.{host_first, denotes_inside, denotes_outer}
use Rattle.scope_bind.proofs.known.Known.+denotes.Goals as goal

pub denotes-around-requires : goal.denotes-around-requires
denotes-around-requires t c =
    let first : c.in-Some.host < c.args.scope = host_first c.args.self.now.files.now c.requires.known.trees c.args.scope c.requires.within c.in-Some.host (sym c.host.ensures ∙ c.in-Some.is) in
    (omega (arith, first, c.decreases), (c.requires.known, (omega (arith, first, c.requires.within), c.requires.used)))

pub returns-in-Some : goal.returns-in-Some
returns-in-Some t c =
    let files = c.args.self.now.files.now in
    c.meaning_in.ensures (spec.denotes files (unit_at files c.in-Some.host) c.args.name.now) c.denotes-around.ensures
    ∙ ap (numbered files) (denotes_inside files c.requires.known.trees c.args.scope c.requires.within c.args.name.now c.in-Some.host (sym c.in-Some.is ∙ c.host.ensures))

pub returns-in-None : goal.returns-in-None
returns-in-None t c =
    let files = c.args.self.now.files.now in
    c.meaning_in-in-None.ensures spec.nothing refl
    ∙ ap (numbered files) (denotes_outer files c.requires.known.trees c.args.scope c.requires.within c.args.name.now (sym c.in-None.is ∙ c.host.ensures))
