use Rattle.std.proofs.Common.{◌++◌, [], ◌∷◌, ◌∙◌, ap}
use Rattle.ftn_tree.specs.declared.mention.Mention.{Mention}
use Rattle.ftn_tree.specs.declared.mention.Role.{Role}
use Rattle.ftn_tree.specs.Roles.{mention}
use Rattle.ftn_tree.proofs.ExpressionLemmas.{mentions_pushed}
use Rattle.ftn_tree.proofs.expr.+mentions.Goals as goal

pub Expr::push_mentions-returns-in_ok-push_in_part-in-Refer :
    goal.Expr::push_mentions-returns-in_ok-push_in_part-in-Refer
Expr::push_mentions-returns-in_ok-push_in_part-in-Refer t c =
    mentions_pushed c.args.mentions.now.items c.push.new.self.items c.push_in_args.new.mentions.items c.push_in_part.new.mentions.items
    c.args.self.now c.in-Refer.name c.in-Refer.args c.in-Refer.part
    (c.in_ok-push-in-Refer.ensures.items
    ∙ ap (λ (made : Mention). c.args.mentions.now.items ++ made ∷ []) (c.new.ensures ∙ ap (λ (role : Role). mention c.in-Refer.name role) c.role_with.ensures))
    c.in_ok-push_in_args-in-Refer.ensures c.in_ok-push_in_part-in-Refer.ensures c.in-Refer.is
