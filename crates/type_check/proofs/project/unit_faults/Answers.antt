use Rattle.std.proofs.Common.{◌≡◌, OnOk, refl, sym, ap, ◌∙◌, subst}
use Rattle.std.specs.List.{flat_map}
use Rattle.ftn_tree.specs.ConstantFaults as constants
use Rattle.ftn_tree.specs.Scopes.{own_statements}
use Rattle.ftn_tree.specs.TypeFaults.{statement_told}
use Rattle.decl_table.proofs.Entries.{own_said}
use Rattle.name_types.specs.declared.names.Setting.{Setting}
use Rattle.name_types.proofs.RightSenses.{senses_right}
use Rattle.type_check.specs.steps.Declared.{declared_told}
use Rattle.type_check.specs.steps.Noted.{first_seen, noted}
use Rattle.type_check.proofs.FineStatements.{statements_fine}
use Rattle.type_check.proofs.NotedLaws.{noted_append}
use Rattle.type_check.proofs.RightData.{data_right}
use Rattle.type_check.proofs.project.unit_faults.Goals as goal

pub each_fault-requires-clause-settled : goal.each_fault-requires-clause-settled
each_fault-requires-clause-settled c =
    let k = c.requires.known in
    let files = c.args.known.now.files.now in
    let setting : Setting = record { names = c.args.known.now.names; file = c.args.unit.file; scope = c.args.number } in
    record {
      right = senses_right files k.trees c.args.unit setting refl c.requires.unit k.names;
      of_data = data_right files k.trees k.faultless k.declared k.constants c.args.unit setting refl c.requires.unit k.names;
    }

pub each_fault-requires-clause-fine : goal.each_fault-requires-clause-fine
each_fault-requires-clause-fine c =
    let files = c.args.known.now.files.now in
    let rows = c.args.known.now.scoping.now.rows.items in
    ap (flat_map (constants.statement_told files c.args.unit.file))
    (c.deref-2.ensures.value ∙ own_said files c.requires.known.trees c.args.number c.args.unit c.deref.result.now rows c.in_ok-own.own.items c.requires.unit c.deref.ensures.value c.requires.known.scoping.rows c.in_ok-own.ensures)
    ∙ statements_fine files c.requires.known.constants c.args.number c.args.unit c.requires.unit

pub returns : goal.returns
returns c =
    let files = c.args.known.now.files.now in
    let e = c.args.unit in
    let rows = c.args.known.now.scoping.now.rows.items in
    let first = first_seen c.args.faults.now in
    let own_is = c.deref-2.ensures.value ∙ own_said files c.requires.known.trees c.args.number e c.deref.result.now rows c.in_ok-own.own.items c.requires.unit c.deref.ensures.value c.requires.known.scoping.rows c.in_ok-own.ensures in
    let all =
    ap (λ o. noted e.file o (declared_told files e)) (c.in_ok-each_fault.ensures ∙ ap (λ own. noted e.file first (flat_map (statement_told files e) own)) own_is)
    ∙ sym (noted_append e.file first (flat_map (statement_told files e) (own_statements files e)) (declared_told files e)) in
    subst (λ due. OnOk c.scope_faults.result (first_seen c.scope_faults.new.faults ≡ due)) all c.scope_faults.ensures
