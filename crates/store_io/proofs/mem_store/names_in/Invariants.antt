use Rattle.std.proofs.Common.{◌≡◌, take}
use Rattle.ftn_base.specs.Files.{names_of}
use Rattle.store_io.proofs.mem_store.names_in.Given as goal

abbrev pub invariant-loop-file : goal.invariant-loop-file
invariant-loop-file l = l.names.items ≡ names_of (take l.file-index l.files)
