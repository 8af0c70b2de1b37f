use Rattle.std.proofs.Common.{[], length, take}
use Rattle.storage_layout.specs.steps.Naming.{IsNaming, end_in}
use Rattle.storage_layout.specs.steps.Numbered.{AreMemberTies}
use Rattle.storage_layout.proofs.things.tie_members.Given as goal

abbrev pub invariant-loop-member : goal.invariant-loop-member
invariant-loop-member l = record {
  naming : IsNaming l.sizes (take l.member-index l.members) l.names.names.keys l.names.sizes.items (end_in l.names.ends);
  ties : AreMemberTies (length l.sizes) l.names.names.keys l.sizes [] (take l.member-index l.members) l.ties.items;
}
