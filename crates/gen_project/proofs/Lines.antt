-- One more line, and one more file, as the loops write them.
use Rattle.std.proofs.Common.{◌≡◌, ℕ, zero, suc, ◌+◌, List, [], ◌∷◌, ◌++◌, map, sym, ap, refl, ◌∙◌, arith}
use Rattle.std.specs.List.{range_with_len, flat_map}
use Rattle.std.proofs.lemmas.List.{flat_map_more}
use Rattle.std.proofs.lemmas.List.FromFn.{map-range_with_len_more}
use Rattle.std.specs.Prelude.{codes}
use Rattle.std.proofs.Common.{append_assoc}
use Rattle.gen_project.specs.Files.{line_each, use_line, call_line, body_of, end_of, uses_of, calls_of, module_file}

last : (a n j : ℕ) → a + n ≡ j → range_with_len a (suc n) ≡ range_with_len a n ++ j ∷ []
last a zero j e = let same : a ≡ j = omega arith in ap (λ k. k ∷ []) same
last a (suc n) j e = ap (λ l. a ∷ l) (last (a + 1) n j (omega arith))

counting_more : (i : ℕ) → range_with_len 0 (i + 1) ≡ range_with_len 0 i ++ i ∷ []
counting_more i = let on : i + 1 ≡ suc i = omega arith in ap (range_with_len 0) on ∙ last 0 i i (omega arith)

pub one_more : (line : ℕ → List ℕ) (old : List ℕ) (i : ℕ) → (old ++ line_each line i) ++ line i ≡ old ++ line_each line (i + 1)
one_more line old i = flat_map_more line old (range_with_len 0 i) i ∙ ap (λ (ks : List ℕ). old ++ flat_map line ks) (sym (counting_more i))

pub one_more_file : (seed i : ℕ) → map (module_file seed) (range_with_len 0 i) ++ module_file seed i ∷ [] ≡ map (module_file seed) (range_with_len 0 (i + 1))
one_more_file seed i = sym (map-range_with_len_more (module_file seed) 0 i i (omega arith))

regroup : (out a b c : List ℕ) → ((out ++ a) ++ b) ++ c ≡ out ++ (a ++ (b ++ c))
regroup out a b c = append_assoc (out ++ a) b c ∙ append_assoc out a (b ++ c)

regroup_more : (out a b c d e : List ℕ) → ((((out ++ a) ++ b) ++ c) ++ d) ++ e ≡ out ++ ((((a ++ b) ++ c) ++ d) ++ e)
regroup_more out a b c d e = simp append_assoc

pub body_is : (out n : List ℕ) → ((((out ++ codes "  subroutine s") ++ n) ++ codes "(x)\n    integer, intent(inout) :: x\n    x = x + v") ++ n) ++ codes "\n" ≡ out ++ body_of n
unfolding body_of
body_is out n = regroup_more out (codes "  subroutine s") n (codes "(x)\n    integer, intent(inout) :: x\n    x = x + v") n (codes "\n")

pub end_is : (out n : List ℕ) → ((((out ++ codes "  end subroutine s") ++ n) ++ codes "\nend module m") ++ n) ++ codes "\n" ≡ out ++ end_of n
unfolding end_of
end_is out n = regroup_more out (codes "  end subroutine s") n (codes "\nend module m") n (codes "\n")

pub uses_are : (out : List ℕ) (count : ℕ) → ((out ++ codes "program main\n") ++ line_each use_line count) ++ codes "  implicit none\n" ≡ out ++ uses_of count
unfolding uses_of
uses_are out count = regroup out (codes "program main\n") (line_each use_line count) (codes "  implicit none\n")

pub calls_are : (out : List ℕ) (count : ℕ) → ((out ++ codes "  integer :: t\n  t = 0\n") ++ line_each call_line count) ++ codes "  print *, t\nend program main\n" ≡ out ++ calls_of count
unfolding calls_of
calls_are out count = regroup out (codes "  integer :: t\n  t = 0\n") (line_each call_line count) (codes "  print *, t\nend program main\n")
