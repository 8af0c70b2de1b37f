use Rattle.std.proofs.Common.{◌≡◌, OnOk, Some, None, sym, ap, ◌∙◌, subst}
use Rattle.std.specs.Prelude.{slice_get}
use Rattle.std.specs.Option.{unwrap_or}
use Rattle.std.proofs.lemmas.Option.{slice_get-get_or}
use Rattle.ftn_tree.specs.Extents.{scoping}
use Rattle.ftn_tree.specs.Meanings.{unit}
use Rattle.ftn_tree.specs.Scopes.{scope_name}
use Rattle.ftn_tree.specs.TypeFaults.{against}
use Rattle.name_types.specs.steps.Generics.{outside_number}
use Rattle.name_types.specs.steps.Index.{found_in}
use Rattle.type_check.specs.steps.Noted.{first_seen, noted}
use Rattle.type_check.proofs.OutsideBodies.{body_is, none_outside, same_unit}
use Rattle.type_check.proofs.procedures.Declared.body_faults.Goals as goal

pub returns-in_default : goal.returns-in_default
returns-in_default c =
    let files = c.args.files.now in
    let e = c.args.e in
    let none : outside_number files (scope_name files e) ≡ None =
    sym (c.requires.known.outside (scope_name files e)) ∙ ap (found_in c.args.self.now.outside 0) (sym c.scope_name.ensures) ∙ sym (c.in_default.ensures {u = tt}) in
    ap (noted e.file (first_seen c.args.faults.now)) (sym (body_is files e None c.requires.body (none_outside files c.requires.known.trees (scope_name files e) none)))

pub against-requires-clause-defined : goal.against-requires-clause-defined
against-requires-clause-defined c =
    let h = (c.in-Some-get.ensures {u = tt}).lookup in
    ap (λ l. slice_get l c.in-Some.number) (sym c.requires.known.units.units ∙ sym c.deref.ensures.value)
    ∙ slice_get-get_or c.deref.result.now c.in-Some.number c.in-Some-get.defined.now h.3.0 ∙ ap Some (sym h.1)

pub returns : goal.returns
returns c =
    let files = c.args.files.now in
    let e = c.args.e in
    let x = c.in-Some-get.defined.now in
    let h = (c.in-Some-get.ensures {u = tt}).lookup in
    let here : slice_get (scoping files) c.in-Some.number ≡ Some x =
    ap (λ l. slice_get l c.in-Some.number) (sym c.requires.known.units.units ∙ sym c.deref.ensures.value)
    ∙ slice_get-get_or c.deref.result.now c.in-Some.number x h.3.0 ∙ ap Some (sym h.1) in
    let some : outside_number files (scope_name files e) ≡ Some c.in-Some.number =
    sym (c.requires.known.outside (scope_name files e)) ∙ ap (found_in c.args.self.now.outside 0) (sym c.scope_name.ensures) ∙ sym (c.in-Some.ensures {u = tt}) in
    let outside = same_unit files c.requires.known.trees (scope_name files e) c.in-Some.number x some here in
    let name = c.unwrap_or-name.ensures ∙ ap (λ o. unwrap_or o 0) c.name_token.ensures in
    subst (λ told. OnOk c.against.result (first_seen c.against.new.faults ≡ noted e.file (first_seen c.args.faults.now) told))
    (ap (λ n. against files n e (Some (unit x))) name ∙ sym (body_is files e (Some (unit x)) c.requires.body outside))
    c.against.ensures
