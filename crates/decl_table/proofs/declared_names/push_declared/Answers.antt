use Rattle.std.proofs.Common.{◌≡◌, ◌++◌, ◌∙◌, [], ap, refl}
use Rattle.std.proofs.lemmas.Result.{IfOk-weaker}
use Rattle.decl_table.specs.declared.declared_names.Owner.{Owner}
use Rattle.decl_table.specs.steps.DeclaredNames.{drafts_by, drafts_of}
use Rattle.decl_table.specs.steps.Heard.{heard_in}
use Rattle.decl_table.specs.steps.Noted.{noted_in}
use Rattle.decl_table.proofs.NameTurns.{declared_are}
use Rattle.decl_table.proofs.declared_names.push_declared.Goals as goal

pub returns : goal.returns
returns c =
    let unit = c.args.unit in
    let owner : Owner = record { file = unit.file; number = c.args.number; has_result = c.has_result.result } in
    let drafts = drafts_by owner (noted_in c.in_ok-noted.noted) (heard_in c.in_ok-heard.heard) [] c.args.said.now in
    let all = drafts_of c.args.files.now unit c.args.number c.args.said.now c.args.own.now in
    IfOk-weaker c.push_names.result (λ _. c.push_names.new.found.items ≡ c.args.found.now.items ++ drafts) (λ _. c.push_names.new.found.items ≡ c.args.found.now.items ++ all)
    (λ _ is. is ∙ ap (λ xs. c.args.found.now.items ++ xs) (declared_are c.args.files.now unit c.args.number c.args.said.now c.args.own.now owner c.has_result.result refl
    c.has_result.ensures (noted_in c.in_ok-noted.noted) (heard_in c.in_ok-heard.heard) c.in_ok-noted.ensures c.in_ok-heard.ensures)) c.push_names.ensures
