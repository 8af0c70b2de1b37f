use Rattle.std.proofs.Common.{◌≡◌, ℕ, ◌+◌, List, [], ◌∷◌, ◌++◌, map, take, get_or, Some, sym, ap, subst, ◌∙◌}
use Rattle.std.specs.Prelude.{slice_get}
use Rattle.std.proofs.lemmas.Option.{slice_get-get_or}
use Rattle.ftn_tree.specs.Extents.{layer_at}
use Rattle.ftn_tree.specs.Procedures.{dummy_tokens}
use Rattle.ftn_tree.specs.Scopes.{name_at}
use Rattle.const_value.specs.steps.Names.{number_at}
use Rattle.type_check.specs.steps.Declared.{AreData}
use Rattle.type_check.proofs.OpenedData.{datum_at, dummy_never, dummy_next}
use Rattle.type_check.proofs.procedures.Declared.dummies_of.Goals.{in-Some+in_ok-push, in_default}
use Rattle.type_check.proofs.procedures.Declared.dummies_of.Goals as goal

pub loop-token-preserved : goal.loop-token-preserved
loop-token-preserved c =
    let files = c.args.files.now in
    let known = c.args.self.now in
    let e = c.args.e in
    let items = c.dummy_tokens-token-items.result.now in
    let i = c.loop-token.token-index in
    let token = get_or items i 0 in
    let is : items ≡ dummy_tokens (layer_at files e.file e.opening) = c.dummy_tokens-token-items.ensures in
    let at : slice_get (dummy_tokens (layer_at files e.file e.opening)) i ≡ Some token = ap (λ (xs : List ℕ). slice_get xs i) (sym is) ∙ slice_get-get_or items i 0 c.loop-token-test.true in
    let before : AreData files c.loop-token.made.items (map (datum_at files e) (take i (dummy_tokens (layer_at files e.file e.opening)))) =
    subst (λ xs. AreData files c.loop-token.made.items (map (datum_at files e) (take i xs))) is c.loop-token.invariant in
    elim c.match-number_at.branch [
      | in-Some+in_ok-push w ↦
          let number : number_at known.numbers.items c.args.scope (name_at files e.file token) ≡ Some w.in-Some.number = sym c.number_at.ensures ∙ w.in-Some.is in
          let pushed : c.match-number_at.made.items ≡ c.loop-token.made.items ++ w.in-Some.number ∷ [] = ap (λ v. v.items) w.made-is ∙ w.in_ok-push.ensures.items in
          subst (λ xs. AreData files c.match-number_at.made.items (map (datum_at files e) (take (i + 1) xs))) (sym is)
          (subst (λ made. AreData files made (map (datum_at files e) (take (i + 1) (dummy_tokens (layer_at files e.file e.opening))))) (sym pushed)
          (dummy_next files known c.requires.known c.args.scope e c.requires.unit c.loop-token.made.items w.in-Some.number i token at number before))
      | in_default w ↦ absurd (dummy_never files known c.requires.known c.args.scope e c.requires.unit i token at (sym c.number_at.ensures ∙ w.in_default.is))
    ]
