use Rattle.std.proofs.Common.{◌∙◌, ◌++◌, map, refl, ap}
use Rattle.std.specs.List.{flat_map}
use Rattle.ftn_tree.specs.Calls.{called_from, statement_calls}
use Rattle.decl_table.proofs.Entries.{own_said}
use Rattle.name_types.specs.declared.names.Setting.{Setting}
use Rattle.name_types.proofs.RightSenses.{senses_right}
use Rattle.type_check.specs.steps.Calling.{call_seen, site_seen}
use Rattle.type_check.proofs.calls.push_unit.Goals as goal

pub statements_calls-requires : goal.statements_calls-requires
statements_calls-requires c =
    let setting : Setting = record { names = c.args.names; file = c.args.unit.file; scope = c.args.number } in
    record { right = senses_right c.args.files.now c.requires.trees c.args.unit setting refl c.requires.unit c.requires.names }

pub returns : goal.returns
returns c =
    let files = c.args.files.now in
    let e = c.args.unit in
    let rows = c.args.scoping.now.rows.items in
    let own_is = c.deref-2.ensures.value ∙ own_said files c.requires.trees c.args.number e c.deref.result.now rows c.in_ok-own.own.items c.requires.unit c.deref.ensures.value c.requires.scoping.rows c.in_ok-own.ensures in
    c.in_ok-push_sites.ensures
    ∙ ap (λ xs. map site_seen c.args.sites.now.items ++ map (called_from e) xs)
    (ap (map call_seen) c.deref-3.ensures.value ∙ c.in_ok-made.ensures ∙ ap (flat_map (statement_calls files e)) own_is)
