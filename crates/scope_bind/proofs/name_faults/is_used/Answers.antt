use Rattle.std.proofs.Common.{ap, not, sym, ◌∙◌, length, nat_eq}
use Rattle.ftn_base.specs.Accessible.{entities_of}
use Rattle.ftn_tree.specs.Meanings.{accessible_in}
use Rattle.scope_bind.specs.steps.Globals.{unit_at}
use Rattle.scope_bind.specs.steps.Meaning.{all_numbered}
use Rattle.scope_bind.proofs.TypeFindings.{used_told}
use Rattle.scope_bind.proofs.UnitReads.{map_read}
use Rattle.scope_bind.proofs.name_faults.is_used.Goals as goal

pub returns : goal.returns
returns c =
    let files = c.args.known.now.files.now in
    let scope = c.args.scope in
    let there = map_read (λ x. all_numbered files (accessible_in files x)) files scope c.args.used.now c.index-used-scope.result c.requires.used c.requires.within c.index-used-scope.is in
    ap not (c.is_empty.ensures ∙ ap (λ xs. nat_eq (length xs) 0) (c.entities.ensures ∙ ap (λ xs. entities_of xs c.args.name.now) there))
    ∙ used_told files (accessible_in files (unit_at files scope)) c.args.name.now
