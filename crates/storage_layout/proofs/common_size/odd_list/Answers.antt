use Rattle.std.proofs.Common.{◌≡◌, ◌<◌, ◌≤◌, ◌+◌, ◌++◌, ◌∷◌, [], ℕ, cond, nat_eq, take, length, Some, refl, sym, ap, ◌∙◌, below_more, arith}
use Rattle.std.specs.Option.{unwrap_or}
use Rattle.std.proofs.lemmas.List.{take_more}
use Rattle.std.proofs.lemmas.Option.{slice_get_read, slice_get_within}
use Rattle.indexmap.specs.IndexMap.{get}
use Rattle.ftn_base.specs.declared.storage.BlockList.{BlockList}
use Rattle.storage_layout.specs.steps.EndTable.{end_in}
use Rattle.storage_layout.specs.steps.Ends.{first_of}
use Rattle.storage_layout.proofs.Firsts.{first_push, is_uneven, uneven_is}
use Rattle.storage_layout.proofs.common_size.odd_list.Goals as goal

pub returns-then-is_odd : goal.returns-then-is_odd
returns-then-is_odd c =
    let blocks = c.args.blocks.now in
    let list : BlockList = c.index-blocks-number.result in
    let inside : c.loop-number.number < length blocks = omega (arith, c.loop-number-test.true) in
    let there = slice_get_read blocks (length blocks) c.loop-number.number list refl inside c.index-blocks-number.is in
    let first : c.in_ok-first.first ≡ unwrap_or (first_of list.block (take c.loop-number.number blocks)) list.scope =
    c.in_ok-first.ensures.first ∙ ap (λ o. unwrap_or o list.scope) (c.loop-number.invariant.firsts list.block) in (
      end_in c.in_ok-ends.ends.ends,
      c.in_ok-ends.ensures,
      (is_uneven blocks (end_in c.in_ok-ends.ends.ends) c.loop-number.number list there c.in_ok-first.first first (c.is_odd.ensures.0 c.if-is_odd.true), c.loop-number.invariant.none),
    )

pub loop-number-preserved : goal.loop-number-preserved
loop-number-preserved c =
    let blocks = c.args.blocks.now in
    let number : ℕ = c.loop-number.number in
    let list : BlockList = c.index-blocks-number.result in
    let inside : number < length blocks = omega (arith, c.loop-number-test.true) in
    let there = slice_get_read blocks (length blocks) number list refl inside c.index-blocks-number.is in
    let first : c.in_ok-first.first ≡ unwrap_or (first_of list.block (take number blocks)) list.scope =
    c.in_ok-first.ensures.first ∙ ap (λ o. unwrap_or o list.scope) (c.loop-number.invariant.firsts list.block) in
    let front : take (number + 1) blocks ≡ take number blocks ++ list ∷ [] =
    take_more blocks number list inside ∙ ap (λ (l : BlockList). take number blocks ++ l ∷ []) (sym c.index-blocks-number.is) in
    record {
      firsts = λ block.
          c.in_ok-first.ensures.noted block
          ∙ ap (λ o. cond (nat_eq list.block block) (Some (unwrap_or o list.scope)) (get nat_eq c.loop-number.firsts block)) (c.loop-number.invariant.firsts list.block)
          ∙ ap (cond (nat_eq list.block block) (Some (unwrap_or (first_of list.block (take number blocks)) list.scope))) (c.loop-number.invariant.firsts block)
          ∙ sym (first_push block (take number blocks) list) ∙ ap (first_of block) (sym front);
      none = below_more _ _ c.loop-number.invariant.none
          (λ uneven. (let odd = c.is_odd.ensures.1 (uneven_is blocks (end_in c.in_ok-ends.ends.ends) number list there c.in_ok-first.first first uneven) in cc (odd, c.if-is_odd.false)));
    }

pub returns : goal.returns
returns c =
    let blocks = c.args.blocks.now in
    let all : length blocks ≤ c.loop-number.number = omega (arith, c.loop-number-test.false) in (
      end_in c.in_ok-ends.ends.ends,
      c.in_ok-ends.ensures,
      λ number uneven. (let lt = slice_get_within blocks number uneven.list uneven.there in c.loop-number.invariant.none number (omega (arith, lt, all)) uneven),
    )
