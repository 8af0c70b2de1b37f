use Rattle.std.proofs.Common.{length, subst, ap, sym, ◌∙◌}
use Rattle.decl_table.specs.steps.Said.{IsWithin}
use Rattle.const_value.specs.declared.written.Written.{Written}
use Rattle.const_value.specs.steps.Written.{with_declared, written_seen}
use Rattle.const_value.proofs.UnitWriting.{put_some}
use Rattle.const_value.proofs.data.put_one.Goals as goal

pub returns-in-Some : goal.returns-in-Some
returns-in-Some c =
    put_some c.args.written.now c.in-Some.number c.args.number c.index-written-number.result c.with.result c.args.declared.now
    (subst (λ o. IsWithin (length c.args.written.now) o) c.in-Some.is c.requires) c.in-Some.is c.index-written-number.is
    (c.with.ensures ∙ ap (λ (w : Written). with_declared (written_seen w) c.args.declared.now) (sym c.index-written-number.is))
