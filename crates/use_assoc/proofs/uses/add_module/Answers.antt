use Rattle.std.proofs.Common.{not, sym, ◌∙◌}
use Rattle.ftn_base.specs.Exports.{is_among}
use Rattle.use_assoc.specs.steps.Groups.{lists_in}
use Rattle.use_assoc.specs.steps.Table.{found_in}
use Rattle.use_assoc.proofs.Adding.{any-map}
use Rattle.use_assoc.proofs.Modules.{items_and_others, only_items}
use Rattle.use_assoc.proofs.uses.add_module.Goals as goal

pub returns-in_ok-add_others : goal.returns-in_ok-add_others
returns-in_ok-add_others c =
    items_and_others (found_in c.args.table.now.by_name) c.args.pairs.now (lists_in c.args.lists.now) c.args.given.now c.add_lists.new.given c.requires c.in_ok-add_lists.ensures
    c.add_others.new.given (is_among c.in_ok-sources.sources) (sym c.if-takes_all.true ∙ c.takes_all.ensures ∙ sym (any-map (λ list. not list.only) (λ list. list.now) c.args.lists.now)) c.in_ok-sources.ensures c.in_ok-add_others.ensures

pub returns-else-takes_all : goal.returns-else-takes_all
returns-else-takes_all c =
    only_items (found_in c.args.table.now.by_name) c.args.pairs.now (lists_in c.args.lists.now) c.args.given.now c.add_lists.new.given c.requires c.in_ok-add_lists.ensures
    (sym c.if-takes_all.false ∙ c.takes_all.ensures ∙ sym (any-map (λ list. not list.only) (λ list. list.now) c.args.lists.now))
