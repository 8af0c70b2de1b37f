use Rattle.std.proofs.Common.{◌≡◌, drop}
use Rattle.ftn_base.specs.Files.{text_of}
use Rattle.store_io.proofs.mem_store.text_here.Given as goal

abbrev pub invariant-loop-file : goal.invariant-loop-file
invariant-loop-file l = text_of l.files l.name ≡ text_of (drop l.file-index l.files) l.name
