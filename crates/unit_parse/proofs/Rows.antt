-- One row after another.
use Rattle.std.proofs.Common.{◌≡◌, ℕ, Bool, List, ◌∷◌, ◌++◌, refl, sym, ◌∙◌, ap, append_assoc}
use Rattle.ftn_tree.specs.declared.mark.Mark.{Mark}
use Rattle.ftn_tree.specs.declared.mark.Mark.TheVariants as mark
use Rattle.ftn_tree.specs.declared.mark.Title.{Title}
use Rattle.ftn_tree.specs.Nesting.{Row, none, stands, nest, spelled, heads, IsNested}

abbrev pub joined : Row → Row → Row
joined none more = more
joined (stands m rest) more = stands m (joined rest more)
joined (nest what inside end rest) more = nest what inside end (joined rest more)

pub spelled_joined : (row more : Row) → spelled (joined row more) ≡ spelled row ++ spelled more
spelled_joined none more = refl
spelled_joined (stands m rest) more = ap (λ (marks : List Mark). m ∷ marks) (spelled_joined rest more)
spelled_joined (nest what inside end rest) more =
    ap (λ (marks : List Mark). mark.Open what ∷ (spelled inside ++ end ∷ marks)) (spelled_joined rest more)
    ∙ ap (λ (marks : List Mark). mark.Open what ∷ marks) (sym (append_assoc (spelled inside) (end ∷ spelled rest) (spelled more)))

pub heads_joined : (row more : Row) → heads (joined row more) ≡ heads row ++ heads more
heads_joined none more = refl
heads_joined (stands m rest) more = ap (λ (marks : List Mark). m ∷ marks) (heads_joined rest more)
heads_joined (nest what inside end rest) more = ap (λ (marks : List Mark). mark.Open what ∷ marks) (heads_joined rest more)

module _ (same : ℕ → ℕ → Bool) (path : List Title) where
  pub nested_joined : (row more : Row) → IsNested same path row → IsNested same path more → IsNested same path (joined row more)
  nested_joined none more one two = two
  nested_joined (stands m rest) more one two = (one.0, nested_joined rest more one.1 two)
  nested_joined (nest what inside end rest) more one two = (one.0, one.1, one.2, one.3, nested_joined rest more one.4 two)
