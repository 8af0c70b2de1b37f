-- What is found of a plan file.
use Rattle.std.proofs.Common.{◌≡◌, ℕ, ◌+◌, ◌<◌, false, List, length, take, min, Option, Some, None, is_some, refl, sym, ap, ◌∙◌, arith, true≢false}
use Rattle.std.specs.Prelude.{IfSome}
use Rattle.std.specs.List.{list_any}
use Rattle.std.specs.Option.{option_map}
use Rattle.std.specs.Ordering.{eq_by_cmp}
use Rattle.std.specs.FinMap.Entries.{is_some-find}
use Rattle.std.proofs.lemmas.List.{length-take}
use Rattle.ftn_base.specs.Files.{File, IsInOrder, by_name, names_of, text_of}
use Rattle.store_io.proofs.Reading.{whole_read}
use Rattle.plan_store.specs.Found.{IsFound, most_plan_bytes}
use Rattle.plan_store.specs.Middle.{HasNoPlan, plan_name}
use Rattle.plan_store.specs.declared.finding.Found.{Found}
use Rattle.plan_store.specs.declared.finding.Found.TheVariants as found
use Rattle.plan_store.specs.steps.Puts.{IsFoundIn}

none_of : (text : Option (List ℕ)) → is_some text ≡ false → text ≡ None
none_of None is = refl
none_of (Some text) is = absurd (true≢false is)

-- a name that isn't listed has no file
pub not_listed : (told : Option (List File)) (names : List (List ℕ)) → IfSome told (λ files. (names ≡ names_of files) × IsInOrder files) → list_any (eq_by_cmp by_name plan_name) names ≡ false → IfSome told HasNoPlan
not_listed None names listed none = tt
not_listed (Some files) names listed none =
    none_of (text_of files plan_name) (is_some-find by_name plan_name files ∙ ap (list_any (eq_by_cmp by_name plan_name)) (sym listed.0) ∙ none)

some_front : (most : ℕ) (text : Option (List ℕ)) (front : List ℕ) → option_map (take (most + 1)) text ≡ Some front → most < length front → (all : List ℕ) × (text ≡ Some all) × (most < length all)
some_front most None front read long = absurd cc
some_front most (Some all) front read long =
    let same : take (most + 1) all ≡ front = cc in
    let size : min (most + 1) (length all) ≡ length front = sym (length-take (most + 1) all) ∙ ap length same in
    (all, refl, omega (arith, size, long))

found_told : (files : List File) (front : List ℕ) (made : Found) → option_map (take (most_plan_bytes + 1)) (text_of files plan_name) ≡ Some front → IsFoundIn front made → IsFound files made
found_told files front found.Nothing read is = absurd is
found_told files front found.TooLong read is = some_front most_plan_bytes (text_of files plan_name) front read is
found_told files front (found.Broken at) read is = (front, whole_read most_plan_bytes (text_of files plan_name) front read is.0, is.0, is.1)
found_told files front (found.Planned plan) read is = (front, whole_read most_plan_bytes (text_of files plan_name) front read is.0, is.0, is.1)

-- what the bytes that were read tell is what the store has
pub found_in_told : (told : Option (List File)) (front : List ℕ) (made : Found) → IfSome told (λ files. option_map (take (most_plan_bytes + 1)) (text_of files plan_name) ≡ Some front) → IsFoundIn front made → IfSome told (λ files. IsFound files made)
found_in_told None front made read is = tt
found_in_told (Some files) front made read is = found_told files front made read is
