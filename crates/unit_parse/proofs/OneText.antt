-- A text has one tree, or one first fault, and never both.
use Rattle.std.proofs.Common.{◌≡◌, ◌⊎◌, ℕ, ◌+◌, List, inl, inr, sym, ◌∙◌, ap}
use Rattle.ftn_base.specs.declared.name.Edition.{Edition}
use Rattle.ftn_base.specs.declared.fault.FaultKind.{FaultKind}
use Rattle.ftn_base.specs.declared.place.Range.{Range}
use Rattle.ftn_tree.specs.declared.token.Tokens.{Tokens}
use Rattle.ftn_tree.specs.declared.unit.FileTree.{FileTree}
use Rattle.ftn_tree.specs.Reading.{tokens_of}
use Rattle.ftn_tree.specs.FileFaults.{IsTextFault, IsTreeOf}
use Rattle.unit_parse.specs.Decided.{HasOneAnswer, TextHasOneAnswer}
use Rattle.unit_parse.proofs.OneTree.{one_tree}
use Rattle.unit_parse.proofs.OneFault.{one_tree_fault, tree_no_fault}
use Rattle.unit_parse.proofs.OneBreak.{one_break, no_break}

pub one_answer : (tokens : Tokens) → HasOneAnswer tokens
one_answer tokens = record { one_tree = one_tree tokens; one_fault = one_tree_fault tokens; not_both = tree_no_fault tokens }

abbrev byte_at : ℕ → Range
byte_at at = record { start = at; end = at + 1 }

module _ (edition : Edition) (text : List ℕ) where
  one_text_fault : (kind other : FaultKind) (bytes place : Range) → IsTextFault edition text kind bytes → IsTextFault edition text other place → (kind ≡ other) × (bytes ≡ place)
  one_text_fault kind other bytes place (inl (at, is, here)) (inl (spot, was, there)) =
      let same = one_break edition text at spot kind other is was in
      (same.1, here ∙ ap (λ (k : ℕ). byte_at k) same.0 ∙ sym there)
  one_text_fault kind other bytes place (inl (at, is, here)) (inr (none, was)) = absurd (no_break edition text at kind none is)
  one_text_fault kind other bytes place (inr (none, is)) (inl (spot, was, there)) = absurd (no_break edition text spot other none was)
  one_text_fault kind other bytes place (inr (none, is)) (inr (nothing, was)) = one_tree_fault (tokens_of text) kind other bytes place is was

  tree_no_text_fault : (tree : FileTree) (kind : FaultKind) (bytes : Range) → IsTreeOf edition text tree → IsTextFault edition text kind bytes → ⊥
  tree_no_text_fault tree kind bytes (none, is) (inl (at, was, here)) = no_break edition text at kind none was
  tree_no_text_fault tree kind bytes (none, is) (inr (nothing, was)) = tree_no_fault (tokens_of text) tree kind bytes is was

  pub one_text_answer : TextHasOneAnswer edition text
  one_text_answer = record {
    one_tree = λ one other is was. one_tree (tokens_of text) one other is.1 was.1;
    one_fault = one_text_fault;
    not_both = tree_no_text_fault;
  }
