use Rattle.std.proofs.Common.{nat_eq, ap, ◌∙◌}
use Rattle.std.specs.Map.{keys_of}
use Rattle.indexmap.specs.IndexSet.{insert_key}
use Rattle.use_assoc.proofs.Keys.{keys-insert_entry, twice_is_once}
use Rattle.use_assoc.proofs.Once.{same_as_itself}
use Rattle.use_assoc.proofs.groups.add.Goals as goal

pub returns-clause-order : goal.returns-clause-order
returns-clause-order c =
    ap keys_of c.in_ok-insert.ensures.entries ∙ keys-insert_entry nat_eq c.insert.new.self.entries c.args.list.now.«module» _
    ∙ ap (λ ks. insert_key nat_eq ks c.args.list.now.«module») (ap keys_of c.in_ok-group.ensures.entries ∙ keys-insert_entry nat_eq c.args.groups.now.entries c.args.list.now.«module» _)
    ∙ twice_is_once nat_eq (keys_of c.args.groups.now.entries) c.args.list.now.«module» (same_as_itself c.args.list.now.«module»)
