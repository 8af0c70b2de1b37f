use Rattle.std.proofs.Common.{◌++◌, ◌∷◌, ◌∙◌, List, ℕ, [], set, sym, ap}
use Rattle.std.proofs.lemmas.List.{get_or-map, map-set}
use Rattle.const_value.specs.steps.Lists.{lists_of}
use Rattle.const_value.proofs.components.push_user.Goals as goal

pub returns : goal.returns
returns c =
    let users = c.args.users.now in
    let old = sym (get_or-map (λ v. v.items) users c.args.used c.index-users-used.result [] c.requires) in
    map-set (λ v. v.items) users c.args.used c.push.new.self
    ∙ ap (λ (l : List ℕ). set (lists_of users) c.args.used l) (c.in_ok-push.ensures.items ∙ ap (λ (l : List ℕ). l ++ c.args.user ∷ []) old)
