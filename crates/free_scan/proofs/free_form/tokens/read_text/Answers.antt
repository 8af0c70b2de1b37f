use Rattle.std.proofs.Common.{◌≤◌, ◌-◌, ◌^◌, length, ap, ◌∙◌, arith}
use Rattle.free_scan.specs.steps.Firsts.{merged}
use Rattle.free_scan.specs.steps.Scanning.{finished}
use Rattle.free_scan.proofs.WholeText.{whole_tokens, whole_firsts, few_statements}
use Rattle.free_scan.proofs.free_form.tokens.read_text.Goals as goal

pub returns-clause-tokens : goal.returns-clause-tokens
returns-clause-tokens g c =
    rw (c.into_parts-parts.ensures.items, c.into_parts-parts.ensures.statements)
    (whole_tokens c.args.edition c.args.text.now c.cut.new.self c.in_ok-scanner.field-0.starts (c.in_ok-cut.ensures ∙ ap finished c.in_ok-scanner.ensures.row) c.in_ok-scanner.ensures.starts)

pub returns-clause-firsts : goal.returns-clause-firsts
returns-clause-firsts g c =
    whole_firsts c.args.edition c.args.text.now c.cut.new.self c.in_ok-scanner.field-0.long c.note_end.new.code c.merged-firsts.result
    (c.in_ok-cut.ensures ∙ ap finished c.in_ok-scanner.ensures.row) c.in_ok-scanner.ensures.long (c.note_end.ensures ∙ c.in_ok-scanner.ensures.code)
    (c.merged-firsts.ensures ∙ ap (merged c.merged.result) c.into_parts-parts.ensures.firsts ∙ ap (λ found. merged found c.cut.new.self.firsts) c.merged.ensures)

pub returns-clause-few : goal.returns-clause-few
returns-clause-few g c =
    let few : length c.cut.new.self.statements ≤ 2 ^ 31 - 1 =
    few_statements (2 ^ 31 - 1) c.args.edition c.args.text.now _ c.cut.new.self c.in_ok-scanner.ensures.within c.in_ok-cut.ensures (c.in_ok-cut.ensures ∙ ap finished c.in_ok-scanner.ensures.row) in
    rw c.into_parts-parts.ensures.statements (omega (arith, few))
