-- From a scoping unit to its host.
use Rattle.std.proofs.Common.{◌≡◌, ◌≢◌, ℕ, suc, ◌+◌, ◌-◌, ◌<◌, false, List, Option, Some, sym, ◌∙◌, ap, ap₂, arith}
use Rattle.std.specs.Prelude.{◌==◌, ◌||◌}
use Rattle.std.specs.Option.{option_map_or}
use Rattle.std.proofs.lemmas.Bool.Decides.{nat_tests}
use Rattle.name_types.specs.steps.Senses.{host_in, is_within}

one_less : (e c : ℕ) → c < e → e - c ≡ suc (e - (c + 1))
one_less e c less = omega (arith, less)

differs : (at outer : ℕ) → at ≢ outer → (at == outer) ≡ false
differs at outer apart = grind (arith, nat_tests, apart)

-- one host on
pub climbs :
    (hosts : List (Option ℕ)) (outer at host e c : ℕ) → c < e → at ≢ outer → Some host ≡ host_in hosts at →
    is_within (e - c) hosts outer at ≡ is_within (e - (c + 1)) hosts outer host
climbs hosts outer at host e c less apart is =
    ap (λ n. is_within n hosts outer at) (one_less e c less)
    ∙ ap₂ (λ b o. b || option_map_or (is_within (e - (c + 1)) hosts outer) o false) (differs at outer apart) (sym is)
