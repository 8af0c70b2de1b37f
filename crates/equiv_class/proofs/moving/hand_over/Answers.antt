use Rattle.std.proofs.Common.{rules, ap, sym, ◌∙◌, ◌≡◌, ◌++◌}
use Rattle.equiv_class.specs.steps.Lists.{member_lists, members_of}
use Rattle.equiv_class.proofs.Relabels.{handed_over, list_at}
use Rattle.equiv_class.proofs.moving.hand_over.Goals as goal

pub returns-clause-lists : goal.returns-clause-lists
returns-clause-lists c =
    let taken : c.deref.result.now ≡ members_of (member_lists c.args.members.now) c.args.from =
    c.deref.ensures.value ∙ ap (λ v. v.items) c.replace-moved.ensures.value ∙ sym (ap (λ v. v.items) c.index-members-from.is) ∙ list_at c.args.members.now c.args.from c.index-members-from.result c.requires.from c.index-members-from.is in
    let grown : c.extend_from_slice.new.self.items ≡ c.index-members-to.result.items ++ c.deref.result.now = search rules in
    handed_over c.args.members.now c.args.from c.args.to c.replace-moved.new.dest c.index-members-to.result c.extend_from_slice.new.self c.deref.result.now c.requires.from c.requires.to c.requires.apart
    (ap (λ v. v.items) c.replace-moved.ensures.after ∙ c.new.ensures.items) c.index-members-to.is taken grown
