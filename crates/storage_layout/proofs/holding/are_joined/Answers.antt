use Rattle.std.proofs.Common.{◌≡◌, ◌+◌, ◌-◌, ◌<◌, ◌∙◌, ℕ, List, Bool, Result, Ok, Err, All, take, drop, length, get_or, sym, subst, ap, arith}
use Rattle.std.specs.Prelude.{IfOk, Decides}
use Rattle.std.proofs.lemmas.List.{get_or_default, take_rest}
use Rattle.std.proofs.lemmas.List.Elements.{All-drop}
use Rattle.ftn_base.specs.declared.entity.Tie.{Tie}
use Rattle.ftn_base.specs.Storage.{IsContradicted, tie_links}
use Rattle.ftn_base.specs.StorageFaults.{AreBlocksJoined}
use Rattle.equiv_class.specs.Sound as classes
use Rattle.storage_layout.specs.steps.Held.{HasTwins}
use Rattle.storage_layout.specs.steps.Kept.{given_of, sizes_in}
use Rattle.storage_layout.proofs.Parts.{take_among, agree_among}
use Rattle.storage_layout.proofs.Judged.{joined_on, joined_back}
use Rattle.storage_layout.proofs.holding.are_joined.Goals as goal

pub joined-requires-clause-agree : goal.joined-requires-clause-agree
joined-requires-clause-agree c =
    let t = c.args.things.now in
    subst (λ (ties : List Tie). IsContradicted (tie_links ties) → ⊥) (sym c.ties_up_to.ensures)
    (agree_among (take (length t.members.items + c.args.count) t.ties.items) t.ties.items (take_among (length t.members.items + c.args.count) t.ties.items) c.requires.agree)

pub has_twins-requires : goal.has_twins-requires
has_twins-requires c =
    let t = c.args.things.now in
    let found = c.in_ok-found.found in
    let sound = c.in_ok-found.ensures in
    let known : All (λ number. number < length found.size.items) found.class.items = (λ k d lt.
    (let all : length found.class.items ≡ length c.deref.result.now = sound.classes.all in
    let at : get_or found.class.items k d ≡ get_or found.class.items k 0 = get_or_default found.class.items k d 0 lt in
    let is : get_or found.class.items k 0 < length found.size.items = sound.ends.known k (omega (arith, lt, all)) in omega (arith, at, is))) in
    let size : length found.size.items ≡ c.len.result = omega (arith, c.len.ensures, found.size.ok.0) in
    subst (λ (list : List ℕ). All (λ number. number < c.len.result) list) (sym (take_rest c.deref-2.result.now t.objects))
    (subst (λ (list : List ℕ). All (λ number. number < c.len.result) (drop t.objects list)) (sym c.deref-2.ensures.value)
    (subst (λ (n : ℕ). All (λ number. number < n) (drop t.objects found.class.items)) size (All-drop (λ number. number < length found.size.items) t.objects found.class.items known)))

decided : (E : Type 0) (result : Result Bool E) (P Q : Type 0) → IfOk result (λ found. Decides found P) → (P → Q) → (Q → P) → IfOk result (λ found. Decides found Q)
decided E (Ok found) P Q told on back = ((λ e. on (told.0 e)), (λ q. told.1 (back q)))
decided E (Err e) P Q told on back = tt

pub returns : goal.returns
returns c =
    let t = c.args.things.now in
    let kept = c.requires.kept in
    let found = c.in_ok-found.found in
    let list : take (length c.deref-2.result.now - t.objects) (drop t.objects c.deref-2.result.now) ≡ drop (length (sizes_in t)) found.class.items =
    take_rest c.deref-2.result.now t.objects ∙ ap (drop t.objects) c.deref-2.ensures.value ∙ ap (λ (n : ℕ). drop n found.class.items) (sym kept.count) in
    let sound : classes.IsSound t.sizes.items (tie_links (take (length t.members.items + c.args.count) t.ties.items)) found.class.items found.offset.items found.size.items =
    subst (λ (sizes : List ℕ). classes.IsSound sizes (tie_links (take (length t.members.items + c.args.count) t.ties.items)) found.class.items found.offset.items found.size.items) c.deref.ensures.value
    (subst (λ (ties : List Tie). classes.IsSound c.deref.result.now (tie_links ties) found.class.items found.offset.items found.size.items) c.ties_up_to.ensures c.in_ok-found.ensures) in
    decided _ c.has_twins.result (HasTwins (drop (length (sizes_in t)) found.class.items)) (AreBlocksJoined (sizes_in t) t.members.items (take c.args.count (given_of t)))
    (subst (λ (numbers : List ℕ). IfOk c.has_twins.result (λ found. Decides found (HasTwins numbers))) list c.has_twins.ensures)
    (joined_on (sizes_in t) t.members.items (given_of t) t.sizes.items t.names.items (length t.members.items) t.ties.items kept.are kept.members kept.given kept.linkable c.requires.agree c.args.count found.class.items found.offset.items found.size.items sound)
    (joined_back (sizes_in t) t.members.items (given_of t) t.sizes.items t.names.items (length t.members.items) t.ties.items kept.are kept.members kept.given kept.linkable c.requires.agree c.args.count found.class.items found.offset.items found.size.items sound)
