-- Names that come one after the other, each kept the first time.
use Rattle.std.proofs.Common.{◌≡◌, ℕ, suc, ◌+◌, ◌<◌, Bool, true, false, not, cond, ◌||◌, List, [], ◌∷◌, ◌++◌, take, length, map, get_or, if◌then◌else◌, bytes_eq, refl, sym, ap, ap₂, ◌∙◌, arith}
use Rattle.std.specs.List.{list_any}
use Rattle.std.specs.Cmp.Lexicographic.{nat_list_eq_equiv}
use Rattle.std.proofs.Math.Seq.{take-suc}
use Rattle.std.proofs.lemmas.List.{append-nil, map-append}
use Rattle.std.proofs.lemmas.List.Folds.{list_any-append}
use Rattle.std.proofs.lemmas.List.Sums.{fold-append}
use Rattle.indexmap.specs.IndexSet.{insert_all, insert_key}
use Rattle.ftn_base.specs.Accessible.{once}
use Rattle.ftn_tree.specs.declared.unit.FileTree.{FileTree}
use Rattle.ftn_tree.specs.Scopes.{name_at}
use Rattle.decl_table.specs.steps.Seen.{is_among}
use Rattle.decl_table.proofs.NameTurns.{same_names}
use Rattle.use_assoc.proofs.Once.{once_is}
use Rattle.scope_bind.specs.steps.Owned.{names_at}
use Rattle.scope_bind.proofs.KeyNumbers.{same_bytes}

turned : (name : List ℕ) (names : List (List ℕ)) → list_any (bytes_eq name) names ≡ is_among name names
turned name [] = refl
turned name (x ∷ names) = ap₂ ◌||◌ (nat_list_eq_equiv.symm name x) (turned name names)

module _ (files : List FileTree) (file : ℕ) (made now : List ℕ) (token : ℕ) (first : Bool) (come later : List ℕ → Bool) where
  abbrev name : List ℕ
  name = name_at files file token

  abbrev names : List (List ℕ)
  names = names_at files file made

  pub put_first : ((other : List ℕ) → come other ≡ is_among other names) → first ≡ not (come name) → ((other : List ℕ) → later other ≡ (bytes_eq name other || come other))
      → now ≡ made ++ (if first then token ∷ [] else [])
      → (names_at files file now ≡ insert_key bytes_eq names name) × ((other : List ℕ) → later other ≡ is_among other (names_at files file now))
  put_first known is put pushed = by (is_among name names) refl where
    swap : (a b : Bool) → (a || b) ≡ (b || (a || false))
    swap true true = refl
    swap true false = refl
    swap false true = refl
    swap false false = refl

    by : (b : Bool) → is_among name names ≡ b → (names_at files file now ≡ insert_key bytes_eq names name) × ((other : List ℕ) → later other ≡ is_among other (names_at files file now))
    by true there =
        let no : first ≡ false = is ∙ ap not (known name ∙ there) in
        let same : now ≡ made = pushed ∙ ap (λ b. made ++ (if b then token ∷ [] else [])) no ∙ append-nil made in (
          ap (names_at files file) same ∙ sym (ap (λ b. if b then names else names ++ name ∷ []) (turned name names ∙ there)),
          λ other. put other ∙ ap (λ b. bytes_eq name other || b) (known other) ∙ same_names names name other there ∙ ap (λ ts. is_among other (names_at files file ts)) (sym same),
        )
    by false apart =
        let yes : first ≡ true = is ∙ ap not (known name ∙ apart) in
        let more : names_at files file now ≡ names ++ name ∷ [] = ap (names_at files file) (pushed ∙ ap (λ b. made ++ (if b then token ∷ [] else [])) yes) ∙ map-append (name_at files file) made (token ∷ []) in (
          more ∙ sym (ap (λ b. if b then names else names ++ name ∷ []) (turned name names ∙ apart)),
          λ other.
              put other ∙ ap (λ b. bytes_eq name other || b) (known other) ∙ swap (bytes_eq name other) (is_among other names)
              ∙ sym (list_any-append (λ earlier. bytes_eq earlier other) names (name ∷ [])) ∙ ap (is_among other) (sym more),
        )

next_is : (i : ℕ) → suc i ≡ i + 1
next_is i = omega arith

pub one_name_more : (files : List FileTree) (file : ℕ) (tokens : List ℕ) (i token d : ℕ) → i < length tokens → token ≡ get_or tokens i d
    → insert_key bytes_eq (insert_all bytes_eq [] (names_at files file (take i tokens))) (name_at files file token) ≡ insert_all bytes_eq [] (names_at files file (take (i + 1) tokens))
one_name_more files file tokens i token d less is =
    sym (fold-append (insert_key bytes_eq) [] (names_at files file (take i tokens)) (name_at files file token ∷ []))
    ∙ ap (insert_all bytes_eq []) (sym (map-append (name_at files file) (take i tokens) (token ∷ [])))
    ∙ ap (λ ts. insert_all bytes_eq [] (names_at files file ts))
    (ap (λ t. take i tokens ++ t ∷ []) is ∙ sym (take-suc tokens i d less) ∙ ap (λ k. take k tokens) (next_is i))

pub all_once : (names : List (List ℕ)) → insert_all bytes_eq [] names ≡ once bytes_eq names
all_once names = once_is bytes_eq same_bytes names
