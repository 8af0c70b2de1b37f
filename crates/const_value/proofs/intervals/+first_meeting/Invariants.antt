use Rattle.std.proofs.Common.{length}
use Rattle.const_value.proofs.intervals.+first_meeting.Given as goal

abbrev pub decreases-first_meeting : goal.decreases-first_meeting
decreases-first_meeting l = length l.lists.now
