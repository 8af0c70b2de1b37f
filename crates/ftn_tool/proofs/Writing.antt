-- Texts that a sink takes one after the other, and counts that rise.
use Rattle.std.proofs.Common.{ℕ, ◌+◌, ◌≤◌, List, ◌++◌, length, take, Option, arith, length-append}
use Rattle.std.proofs.Math.Seq.{take-append-add}
use Rattle.store_io.specs.Counts.{Rose}
use Rattle.store_io.specs.Told.{Takes, TakesFront}
use Rattle.store_io.proofs.Taking.{takes_both}

-- a count that rose from later on rose
pub rose_since : (before mid after : ℕ) → before ≤ mid → Rose mid after → Rose before after
rose_since before mid after earlier rose = omega arith

-- the whole of the first text and a front of the second
pub takes_then_front : (a b : List ℕ) (before mid after : Option (List ℕ)) → Takes a before mid → TakesFront b mid after → TakesFront (a ++ b) before after
takes_then_front a b before mid after first second =
    (length a + second.0, (omega (arith, length-append a b, second.1.0), rw take-append-add (takes_both a (take second.0 b) before mid after first second.1.1)))
