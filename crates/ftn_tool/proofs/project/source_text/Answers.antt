use Rattle.std.proofs.Common.{◌≡◌, true, arith}
use Rattle.ftn_base.specs.Files.{is_source}
use Rattle.ftn_base.specs.Limits.{most_file_bytes}
use Rattle.ftn_tool.proofs.ProjectFiles.{told_front}
use Rattle.ftn_tool.proofs.project.source_text.Goals as goal

pub returns-in-Ok-clause-found : goal.returns-in-Ok-clause-found
returns-in-Ok-clause-found g c =
    let source : is_source c.args.name.now ≡ true = grind (arith, c.is_source.ensures, c.if-not-is_source.false, c.if-not-is_source.ensures) in
    rw c.from_vec.ensures (told_front most_file_bytes (g.S.Store.files c.args.store.now) c.args.name.now c.in-Ok.text.items c.in-Ok.ensures.text source)
