-- The tree of a chain of terms, from its last term.
use Rattle.std.proofs.Common.{◌≡◌, suc, ◌-◌, ◌≤◌, List, [], ◌∷◌, ◌++◌, length, get_or, take, refl, ◌∙◌, ap, arith}
use Rattle.free_scan.specs.declared.first_form.program.Term.{Term}
use Rattle.rename_ref.specs.Meaning.{Tree, node, tree_with}
use Rattle.free_scan.proofs.Whole.{last_of}

tree_with-append : (tree : Tree) (front : List Term) (term : Term) → tree_with tree (front ++ term ∷ []) ≡ node (tree_with tree front) term.sign term.operand
tree_with-append tree [] term = refl
tree_with-append tree (first ∷ front) term = tree_with-append (node tree first.sign first.operand) front term

pub last_term : (tree : Tree) (terms : List Term) (term : Term) → 1 ≤ length terms → term ≡ get_or terms (length terms - 1) term
    → tree_with tree terms ≡ node (tree_with tree (take (length terms - 1) terms)) term.sign term.operand
last_term tree terms term some e =
    let long : length terms ≡ suc (length terms - 1) = omega arith in
    ap (tree_with tree) (last_of (length terms - 1) terms term long e) ∙ tree_with-append tree (take (length terms - 1) terms) term
