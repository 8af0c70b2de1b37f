use Rattle.std.proofs.Common.{◌≡◌, List, inl, refl, sym, ◌∙◌, false, true, ap, ℕ, Ok, Err}
use Rattle.std.specs.Result.{IsErrOf}
use Rattle.std.proofs.lemmas.Bool.{true_from_ne_false}
use Rattle.ftn_base.specs.Files.{File}
use Rattle.ftn_base.specs.Names.{is_file_name}
use Rattle.ftn_base.specs.declared.name.NameFault.{NameFault}
use Rattle.ftn_base.specs.declared.name.NameFault.TheVariants.{NotAName}
use Rattle.plan_file.specs.steps.Next.{may_come}
use Rattle.plan_file.proofs.Order.{next_from}
use Rattle.plan_file.proofs.Steps.{no_field, no_name, not_named, not_next, takes_from}
use Rattle.plan_file.proofs.reading.next_file.Goals as goal

pub returns-in_default-clause-stopped : goal.returns-in_default-clause-stopped
returns-in_default-clause-stopped c = inl (refl, no_field c.in_ok-size.field-0 (λ x. x.1.now) (λ x. x.0) c.args.files.now.items c.args.bytes.now c.in_default.is c.in_ok-size.ensures.only)

pub returns-in-Err-NotAName-clause-stopped : goal.returns-in-Err-NotAName-clause-stopped
returns-in-Err-NotAName-clause-stopped c =
    let invalid = c.in-Err-NotAName.ensures.not_a_name.0 (ap Err c.in-Err-NotAName.field-0-is) in
    inl (refl, no_name c.in_ok-size.field-0 (λ x. x.1.now) (λ x. x.0) c.args.files.now.items c.args.bytes.now _ c.in-Some.is c.in_ok-size.ensures.only (not_named c.args.files.now.items c.in-Some.size c.in-Some.name.now invalid))

pub returns-then-not-may_come-clause-stopped : goal.returns-then-not-may_come-clause-stopped
returns-then-not-may_come-clause-stopped c =
    let answer : c.may_come.result ≡ may_come c.args.files.now.items c.in-Some.size c.in-Some.name.now
    = c.may_come.ensures ∙ ap (λ (fs : List File). may_come fs c.in-Some.size c.in-Ok.name) c.deref.ensures.value ∙ ap (may_come c.args.files.now.items c.in-Some.size) c.in-Ok.ensures.name in
    let may : may_come c.args.files.now.items c.in-Some.size c.in-Some.name.now ≡ false = sym answer ∙ c.if-not-may_come.true in
    inl (refl, no_name c.in_ok-size.field-0 (λ x. x.1.now) (λ x. x.0) c.args.files.now.items c.args.bytes.now _ c.in-Some.is c.in_ok-size.ensures.only (not_next c.args.files.now.items c.in-Some.size c.in-Some.name.now may))

pub returns-clause-took : goal.returns-clause-took
returns-clause-took c =
    let answer : c.may_come.result ≡ may_come c.args.files.now.items c.in-Some.size c.in-Some.name.now
    = c.may_come.ensures ∙ ap (λ (fs : List File). may_come fs c.in-Some.size c.in-Ok.name) c.deref.ensures.value ∙ ap (may_come c.args.files.now.items c.in-Some.size) c.in-Ok.ensures.name in
    let may : may_come c.args.files.now.items c.in-Some.size c.in-Some.name.now ≡ true = sym answer ∙ c.if-not-may_come.false in
    let valid : is_file_name c.in-Some.name.now ≡ true = true_from_ne_false (is_file_name c.in-Some.name.now) (λ h. differ c.in-Ok.name (c.in-Ok.ensures.not_a_name.1 h)) in
    takes_from c.in_ok-size.field-0 (λ x. x.1.now) (λ x. x.2.now) (λ x. x.0) _ c.args.files.now.items c.push.new.self.items c.args.bytes.now c.in-Some-text_at.text.now c.in-Some-text_at.rest.now
    (c.name.inside.bytes.items, c.in_ok-from_slice.field-0) c.in-Some.is c.in_ok-size.ensures.stands c.in-Some-text_at.ensures.1 c.in-Some-text_at.ensures.0 (c.name.view_is ∙ c.in-Ok.ensures.name) c.in_ok-from_slice.ensures c.in_ok-push.ensures.items
    (next_from c.args.files.now.items c.in-Some.size c.in-Some.name.now valid may)
  where
    differ : (name : List ℕ) → IsErrOf {T = List ℕ} {E = NameFault} (Ok name) NotAName → ⊥
    differ name h = cc
