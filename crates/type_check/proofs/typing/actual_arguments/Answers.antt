use Rattle.std.proofs.Common.{◌≡◌, sym, ◌∙◌, ap, subst, map, IfOk}
use Rattle.type_check.specs.steps.Kept.{typed_seen}
use Rattle.type_check.specs.steps.Ranges.{given_seen}
use Rattle.type_check.specs.steps.Sights.{argument}
use Rattle.type_check.proofs.TypedTrees.{some_arguments}
use Rattle.type_check.proofs.typing.actual_arguments.Goals as goal

pub returns-in-Some : goal.returns-in-Some
returns-in-Some c =
    subst (λ y. IfOk c.arguments.result (λ made. map typed_seen made.items ≡ y))
    (ap (λ xs. map argument (map typed_seen xs)) c.deref.ensures.value
    ∙ some_arguments c.args.setting.now c.args.args.now (map typed_seen c.in-Some.given.items) (sym (ap given_seen c.in-Some.is) ∙ c.in_ok-given.ensures))
    c.arguments.ensures
