use Rattle.std.proofs.Common.{◌≡◌, ◌&&◌, ◌<◌, ℕ, max, cond, nat_eq, length, refl, subst, ap, ◌∙◌, arith}
use Rattle.std.proofs.lemmas.Option.{slice_get_read}
use Rattle.storage_layout.specs.steps.EndTable.{end_in}
use Rattle.storage_layout.specs.steps.Ends.{IsGreatest}
use Rattle.storage_layout.proofs.Greatest.{greatest_more}
use Rattle.storage_layout.proofs.ends.ends_of.Goals as goal

pub loop-number-preserved : goal.loop-number-preserved
loop-number-preserved c = λ block scope.
    let members = c.args.things.now.members.items in
    let ties = c.args.things.now.ties.items in
    let number = c.loop-number.number in
    let inside : number < length members = omega (arith, c.loop-number-test.true, c.len-number-end.ensures) in
    let tie_inside : number < length ties = omega (arith, inside, c.requires.tied) in
    let old : ℕ = end_in c.loop-number.ends.ends block scope in
    greatest_more members ties c.args.tied.now.class.items c.args.tied.now.offset.items c.args.tied.now.size.items number c.index-member.result.now c.index.result.now
    (slice_get_read members (length members) number c.index-member.result.now refl inside c.index-member.ensures) (slice_get_read ties (length ties) number c.index.result.now refl tie_inside c.index.ensures)
    block scope old (c.loop-number.invariant block scope) (end_in c.extend.new.self.ends block scope)
    (c.in_ok-extend.ensures block scope ∙ ap (λ (k : ℕ). cond (nat_eq c.index-member.result.now.block block && nat_eq c.index-member.result.now.scope scope) (max old k) old) c.end_by-end.ensures)

pub returns : goal.returns
returns c = λ block scope.
    let all : c.loop-number.number ≡ length c.args.things.now.members.items = omega (arith, c.loop-number-test.false, c.loop-number.auto.number-end, c.len-number-end.ensures) in
    subst (λ (count : ℕ). IsGreatest c.args.things.now.members.items c.args.things.now.ties.items c.args.tied.now.class.items c.args.tied.now.offset.items c.args.tied.now.size.items count block scope (end_in c.loop-number.ends.ends block scope)) all
    (c.loop-number.invariant block scope)
