use Rattle.std.proofs.Common.{◌≡◌, true, false, List, length, Some, None, sym, ap, subst, ◌∙◌}
use Rattle.std.specs.Prelude.{nat_lt, slice_get}
use Rattle.std.proofs.lemmas.Bool.{lt-ltb}
use Rattle.std.proofs.lemmas.Option.{slice_get-get_or, slice_get_within}
use Rattle.ftn_tree.specs.declared.table.Extent.{Extent}
use Rattle.ftn_tree.specs.Extents.{layer_at, scoping}
use Rattle.ftn_tree.specs.Procedures.{result_of, result_token}
use Rattle.ftn_tree.specs.Scopes.{name_at}
use Rattle.const_value.specs.steps.Names.{number_at}
use Rattle.type_check.specs.steps.Declared.{IsResult}
use Rattle.type_check.proofs.OpenedData.{no_result, result_there}
use Rattle.type_check.proofs.procedures.Declared.result_of.Goals as goal

pub returns-in-Some-result_token : goal.returns-in-Some-result_token
returns-in-Some-result_token c = λ e there.
    let files = c.args.files.now in
    let h = c.in-Some.ensures.lookup in
    let at : slice_get c.deref.result.now c.args.scope ≡ Some c.in-Some.unit.now = slice_get-get_or c.deref.result.now c.args.scope c.in-Some.unit.now h.3.0 ∙ ap Some (sym h.1) in
    let units : c.deref.result.now ≡ scoping files = c.deref.ensures.value ∙ c.requires.units.units in
    let same : Some c.in-Some.unit.now ≡ Some e = sym at ∙ ap (λ (all : List Extent). slice_get all c.args.scope) units ∙ there in
    let one : c.in-Some.unit.now ≡ e = cc same in
    let token : result_token (layer_at files e.file e.opening) ≡ Some c.in-Some-result_token.token =
    ap (λ (x : Extent). result_token (layer_at files x.file x.opening)) (sym one) ∙ sym c.result_token.ensures ∙ c.in-Some-result_token.is in
    subst (λ n. IsResult files n (result_of files e))
    (sym (c.number_at.ensures ∙ ap (λ (x : Extent). number_at c.args.self.now.numbers.items c.args.scope (name_at files x.file c.in-Some-result_token.token)) one))
    (result_there files c.args.self.now c.requires c.args.scope e there c.in-Some-result_token.token token)

pub returns-in-None-result_token : goal.returns-in-None-result_token
returns-in-None-result_token c = λ e there.
    let files = c.args.files.now in
    let h = c.in-Some.ensures.lookup in
    let at : slice_get c.deref.result.now c.args.scope ≡ Some c.in-Some.unit.now = slice_get-get_or c.deref.result.now c.args.scope c.in-Some.unit.now h.3.0 ∙ ap Some (sym h.1) in
    let units : c.deref.result.now ≡ scoping files = c.deref.ensures.value ∙ c.requires.units.units in
    let same : Some c.in-Some.unit.now ≡ Some e = sym at ∙ ap (λ (all : List Extent). slice_get all c.args.scope) units ∙ there in
    let one : c.in-Some.unit.now ≡ e = cc same in
    let none : result_token (layer_at files e.file e.opening) ≡ None =
    ap (λ (x : Extent). result_token (layer_at files x.file x.opening)) (sym one) ∙ sym c.result_token.ensures ∙ c.in-None-result_token.is in
    no_result files c.args.self.now c.requires c.args.scope e there none

pub returns-in-None : goal.returns-in-None
returns-in-None c = λ e there.
    let units : c.deref.result.now ≡ scoping c.args.files.now = c.deref.ensures.value ∙ c.requires.units.units in
    let here : slice_get c.deref.result.now c.args.scope ≡ Some e = ap (λ (all : List Extent). slice_get all c.args.scope) units ∙ there in
    let within : nat_lt c.args.scope (length c.deref.result.now) ≡ true = lt-ltb c.args.scope (length c.deref.result.now) (slice_get_within c.deref.result.now c.args.scope e here) in
    let past : false ≡ nat_lt c.args.scope (length c.deref.result.now) = c.in-None.ensures.lookup.0 in
    let broken : false ≡ true = past ∙ within in
    absurd (cc broken)
