use Rattle.std.proofs.Common.{◌≡◌, ℕ, get_or, take, arith}
use Rattle.ftn_base.specs.declared.storage.Member.{Member}
use Rattle.ftn_base.specs.StorageMembers.{units_in}
use Rattle.storage_layout.specs.steps.Naming.{end_in}
use Rattle.storage_layout.proofs.Counted.{objects_few, names_few, end_few, member_there}
use Rattle.storage_layout.proofs.Named.{at_most, taken}
use Rattle.storage_layout.proofs.things.tie_members.Goals as goal

-- what a read past the end would give
abbrev none : Member
none = record { block = 0; scope = 0; object = 0 }

pub add-requires-clause-room : goal.add-requires-clause-room
add-requires-clause-room c =
    let i : ℕ = c.loop-member.member-index in
    let member : Member = get_or c.args.members.now i none in
    let few = end_few c.args.sizes.now c.args.members.now c.requires i none c.loop-member-test.true in
    let end : end_in c.loop-member.names.ends member.block member.scope ≡ units_in c.args.sizes.now (take i c.args.members.now) member.block member.scope = c.loop-member.invariant.naming.ends member.block member.scope in
    omega (arith, few, end)

pub add-requires-clause-few : goal.add-requires-clause-few
add-requires-clause-few c =
    let few = names_few c.args.sizes.now c.args.members.now c.requires c.loop-member.member-index c.loop-member.names.names.keys c.loop-member.names.sizes.items c.loop-member.invariant.naming.names_are in
    omega (arith, few)

pub overflow_cast-sizes : goal.overflow_cast-sizes
overflow_cast-sizes c = let few = objects_few c.args.sizes.now c.args.members.now c.requires in omega (arith, few)

pub overflow_add-sizes : goal.overflow_add-sizes
overflow_add-sizes c =
    let objects = objects_few c.args.sizes.now c.args.members.now c.requires in
    let few = names_few c.args.sizes.now c.args.members.now c.requires c.loop-member.member-index c.loop-member.names.names.keys c.loop-member.names.sizes.items c.loop-member.invariant.naming.names_are in
    let at = at_most c.loop-member.names.names.keys (get_or c.args.members.now c.loop-member.member-index none).block in
    let name = c.in_ok-name.ensures.number in
    omega (arith, objects, few, at, name)

pub loop-member-preserved : goal.loop-member-preserved
loop-member-preserved c =
    let next = taken c.args.sizes.now c.args.members.now c.loop-member.member-index none c.loop-member-test.true c.loop-member.names.names.keys c.loop-member.names.sizes.items (end_in c.loop-member.names.ends) c.loop-member.ties.items
    c.loop-member.invariant.naming c.loop-member.invariant.ties c.in_ok-name.name c.in_ok-name.start c.in_ok-name.ensures.number c.in_ok-name.ensures.start
    c.add.new.self.names.keys c.add.new.self.sizes.items (end_in c.add.new.self.ends) c.push.new.self.items c.in_ok-name.ensures.names c.in_ok-name.ensures.sizes c.in_ok-name.ensures.ends c.in_ok-push.ensures.items
    (c.requires.filled (get_or c.args.members.now c.loop-member.member-index none).object (member_there c.args.sizes.now c.args.members.now c.requires c.loop-member.member-index none c.loop-member-test.true)) in
    record { naming = next.0; ties = next.1 }
