-- Operations on parts.
use Rattle.std.proofs.Common.{◌≡◌, sym, ◌∙◌, ap, ℕ, List, [], ◌∷◌, Option, Some, None, Result, Err}
use Rattle.std.specs.List.{flat_map}
use Rattle.ftn_tree.specs.declared.intrinsic.ValueFault.{ValueFault}
use Rattle.ftn_tree.specs.declared.value.Value.{Value}
use Rattle.ftn_tree.specs.Evaluations as spec
use Rattle.const_expr.specs.declared.evaluated.Evaluated.{Evaluated}
use Rattle.const_expr.specs.declared.told.Told.{Told}
use Rattle.const_expr.specs.FirstTold.{told_by, joined}
use Rattle.const_expr.specs.Seen.{seen}
use Rattle.const_expr.specs.steps.Parts.{told_in_parts}
use Rattle.const_expr.proofs.Firsts.{told_of_fault}

abbrev made : ℕ → Option Value → Told → Evaluated
made first value told = record { first = first; value = value; told = told }

pub faulty :
    (first : ℕ) (parts : List spec.Evaluated) (fault : ValueFault) (due : Result Value ValueFault) (told all : Told) →
    told ≡ told_in_parts parts → due ≡ Err fault → all ≡ joined told (told_by [] ((fault, first) ∷ []))
    → made first None all ≡ seen (spec.operation first parts (Some due))
faulty first parts fault due told all same none more =
    ap (made first None) (
    more ∙ ap (λ t. joined t (told_by [] ((fault, first) ∷ []))) same
    ∙ told_of_fault (flat_map (λ (part : spec.Evaluated). part.strays) parts) (flat_map (λ (part : spec.Evaluated). part.breaches) parts) ((fault, first) ∷ [])
    ) ∙ ap (λ d. seen (spec.operation first parts (Some d))) (sym none)
