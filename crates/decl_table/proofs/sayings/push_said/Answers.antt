use Rattle.std.proofs.Common.{◌≡◌, ◌++◌, length, OnOk, sym, ap, ◌∙◌, subst}
use Rattle.ftn_tree.specs.Extents.{scoping}
use Rattle.decl_table.specs.steps.Rows.{number_at}
use Rattle.decl_table.specs.steps.Said.{IsWithin, said_by}
use Rattle.decl_table.proofs.Said.{number_within, pushed_said}
use Rattle.decl_table.proofs.sayings.push_said.Goals as goal

pub push_by-requires-clause-within : goal.push_by-requires-clause-within
push_by-requires-clause-within c =
    subst (IsWithin (length (scoping c.args.files.now)))
    (sym (c.number_at-stands.ensures ∙ ap (λ rows. number_at rows c.args.unit.file c.args.statement) (c.deref.ensures.value ∙ c.requires.known.rows)))
    ((number_within c.args.files.now c.requires.trees c.args.number c.args.unit c.requires.unit c.args.statement c.requires.low c.requires.high).1)

pub returns : goal.returns
returns c =
    subst (λ said. OnOk c.push_by.result (c.push_by.new.found.items ≡ c.args.found.now.items ++ said))
    (ap (said_by c.args.files.now c.args.number c.args.unit.file c.args.statement) c.number_at-stands.ensures
    ∙ pushed_said c.args.files.now c.requires.trees c.args.number c.args.unit c.requires.unit c.args.statement c.requires.low c.requires.high
    c.deref.result.now (c.deref.ensures.value ∙ c.requires.known.rows))
    c.push_by.ensures
