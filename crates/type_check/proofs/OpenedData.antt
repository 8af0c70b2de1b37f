-- The numbers that are kept of the dummy arguments and the result of a procedure are those of what is defined.
use Rattle.std.proofs.Common.{◌≡◌, ℕ, zero, suc, ◌+◌, List, [], ◌∷◌, ◌++◌, map, take, Option, Some, None, option_map, sym, ap, ap₂, ◌∙◌, arith}
use Rattle.std.specs.Prelude.{slice_get}
use Rattle.std.proofs.lemmas.List.{map-append}
use Rattle.ftn_tree.specs.declared.table.Extent.{Extent}
use Rattle.ftn_tree.specs.declared.unit.FileTree.{FileTree}
use Rattle.ftn_tree.specs.Extents.{layer_at, scoping}
use Rattle.ftn_tree.specs.KeyKinds.{Datum, datum}
use Rattle.ftn_tree.specs.Procedures.{dummy_tokens, result_of, result_token}
use Rattle.ftn_tree.specs.Scopes.{name_at}
use Rattle.const_value.specs.steps.Names.{all_data, number_at}
use Rattle.type_check.specs.declared.procedures.Declared.{Declared}
use Rattle.type_check.specs.steps.Declared.{AreData, AreDeclared, IsResult}
use Rattle.type_check.proofs.OpeningNames.{Numbered, dummy_number, result_number}

take_next : (xs : List ℕ) (i x : ℕ) → slice_get xs i ≡ Some x → take (i + 1) xs ≡ take i xs ++ x ∷ []
take_next [] i x is = absurd (cc is)
take_next (y ∷ xs) zero x is = let one : 0 + 1 ≡ suc zero = omega arith in let same : y ≡ x = cc is in ap (λ n. take n (y ∷ xs)) one ∙ ap (λ z. z ∷ []) same
take_next (y ∷ xs) (suc i) x is = let more : suc i + 1 ≡ suc (i + 1) = omega arith in ap (λ n. take n (y ∷ xs)) more ∙ ap (λ zs. y ∷ zs) (take_next xs i x is)

-- the name that a token tells
abbrev pub datum_at : List FileTree → Extent → ℕ → Datum
datum_at files e token = datum e (name_at files e.file token)

module _ (files : List FileTree) (known : Declared) (a : AreDeclared files known) (scope : ℕ) (e : Extent) (there : slice_get (scoping files) scope ≡ Some e) where
  at_token : (token : ℕ) (n : Numbered files a.trees a.bound scope e there token) → number_at known.numbers.items scope (name_at files e.file token) ≡ Some n.number
  at_token token n = a.numbers scope (name_at files e.file token) ∙ n.number_is

  -- ---- the result

  pub no_result : result_token (layer_at files e.file e.opening) ≡ None → IsResult files None (result_of files e)
  no_result none = sym (ap (λ o. option_map Some (option_map (λ token. datum e (name_at files e.file token)) o)) none)

  pub result_there : (token : ℕ) → result_token (layer_at files e.file e.opening) ≡ Some token → IsResult files (number_at known.numbers.items scope (name_at files e.file token)) (result_of files e)
  result_there token at =
      let n = result_number files a.trees a.bound scope e there token at in
      ap (option_map (slice_get (all_data files))) (at_token token n) ∙ ap Some n.datum_is
      ∙ sym (ap (λ o. option_map Some (option_map (λ token. datum e (name_at files e.file token)) o)) at)

  -- ---- dummy arguments

  pub dummy_there : (i token : ℕ) → slice_get (dummy_tokens (layer_at files e.file e.opening)) i ≡ Some token
      → option_map (slice_get (all_data files)) (number_at known.numbers.items scope (name_at files e.file token)) ≡ Some (Some (datum e (name_at files e.file token)))
  dummy_there i token at =
      let n = dummy_number files a.trees a.bound scope e there i token at in
      ap (option_map (slice_get (all_data files))) (at_token token n) ∙ ap Some n.datum_is

  abbrev tokens : List ℕ
  tokens = dummy_tokens (layer_at files e.file e.opening)

  -- each has a number
  pub dummy_never : (i token : ℕ) → slice_get tokens i ≡ Some token → number_at known.numbers.items scope (name_at files e.file token) ≡ None → ⊥
  dummy_never i token at none =
      let broken : None ≡ Some (Some (datum_at files e token)) = sym (ap (option_map (slice_get (all_data files))) none) ∙ dummy_there i token at in absurd (cc broken)

  -- one more of them
  pub dummy_next : (made : List ℕ) (n i token : ℕ) → slice_get tokens i ≡ Some token → number_at known.numbers.items scope (name_at files e.file token) ≡ Some n
      → AreData files made (map (datum_at files e) (take i tokens)) → AreData files (made ++ n ∷ []) (map (datum_at files e) (take (i + 1) tokens))
  dummy_next made n i token at number before =
      let both : Some (slice_get (all_data files) n) ≡ Some (Some (datum_at files e token)) = sym (ap (option_map (slice_get (all_data files))) number) ∙ dummy_there i token at in
      let here : slice_get (all_data files) n ≡ Some (datum_at files e token) = cc both in
      map-append (slice_get (all_data files)) made (n ∷ [])
      ∙ ap₂ (λ (xs ys : List (Option Datum)). xs ++ ys) before (ap (λ o. o ∷ []) here)
      ∙ sym (map-append Some (map (datum_at files e) (take i tokens)) (datum_at files e token ∷ []))
      ∙ ap (map Some) (sym (map-append (datum_at files e) (take i tokens) (token ∷ [])))
      ∙ ap (λ ts. map Some (map (datum_at files e) ts)) (sym (take_next tokens i token at))
