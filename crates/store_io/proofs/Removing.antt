-- What follows where a file is taken away from files in order of names.
use Rattle.std.proofs.Common.{◌≡◌, ◌≢◌, ℕ, suc, ◌+◌, ◌<◌, Bool, true, false, cond, not, ◌&&◌, T, List, [], ◌∷◌, length, Option, Some, None, is_some, refl, arith, sym, ap, ◌∙◌, subst, IsTrue, remove, position, ltb, true≢false, IfSome, IsSome}
use Rattle.std.proofs.lemmas.Bool.Decides.{nat_tests}
use Rattle.std.proofs.lemmas.Float.{T_from_true}
use Rattle.std.specs.List.{position_or_len}
use Rattle.std.specs.Ordering.{eq_by_cmp, is_eq, is_lt}
use Rattle.std.specs.FinMap.{slice_cmp-IsAntisymmetric, nat_cmp-IsAntisymmetric}
use Rattle.std.specs.FinMap.Entries.{below_all, is_sorted, is_sorted-where_key}
use Rattle.std.specs.declared.cmp.Ordering.{Ordering}
use Rattle.std.specs.declared.cmp.Ordering.TheVariants.{Less, Equal, Greater}
use Rattle.ftn_base.specs.Files.{File, IsInOrder, by_name, text_of}
use Rattle.store_io.specs.Told.{without_file}

first : (a b : Bool) → T (a && b) → T a
first true b holds = tt
first false b holds = holds

second : (a b : Bool) → T (a && b) → T b
second true b holds = holds
second false b holds = absurd holds

true_from_T : (test : Bool) → T test → IsTrue test
true_from_T true holds = refl
true_from_T false holds = absurd holds

equal : (order : Ordering) → not (is_eq order) ≡ false → order ≡ Equal
equal Less is = absurd (true≢false is)
equal Equal is = refl
equal Greater is = absurd (true≢false is)

module _ (name : List ℕ) where
  abbrev is_it : File → Bool
  is_it file = eq_by_cmp by_name name file.0

  above : (order : Ordering) (file : File) (files : List File) (rest : Bool) → T (is_lt order && rest) → (T rest → without_file name files ≡ files) → cond (not (is_eq order)) (file ∷ without_file name files) (without_file name files) ≡ file ∷ files
  above Less file files rest holds next = ap (λ (kept : List File). file ∷ kept) (next holds)
  above Equal file files rest holds next = absurd holds
  above Greater file files rest holds next = absurd holds

  -- files of later names stay
  later_stay : (files : List File) → T (below_all by_name name files) → without_file name files ≡ files
  later_stay [] holds = refl
  later_stay (file ∷ files) holds = above (by_name name file.0) file files (below_all by_name name files) holds (later_stay files)

  same_name : (file : File) → not (is_it file) ≡ false → name ≡ file.0
  same_name file is = slice_cmp-IsAntisymmetric nat_cmp-IsAntisymmetric name file.0 (equal (by_name name file.0) is)

  shorter : (other : Bool) (at size : ℕ) → other ≡ true → cond other (1 + at) 0 < suc size → at < size
  shorter true at size is holds = omega (arith, holds)
  shorter false at size is holds = absurd (true≢false (sym is))

  step : (other : Bool) (file : File) (files kept : List File) (at : ℕ) → (other ≡ true → remove files at ≡ kept) → (other ≡ false → files ≡ kept) → remove (file ∷ files) (cond other (1 + at) 0) ≡ cond other (file ∷ kept) kept
  step true file files kept at later here =
      let next : 1 + at ≡ suc at = omega arith in
      ap (λ (n : ℕ). remove (file ∷ files) n) next ∙ ap (λ (rest : List File). file ∷ rest) (later refl)
  step false file files kept at later here = here refl

  cut : (files : List File) → T (is_sorted by_name files) → position_or_len is_it files < length files → remove files (position_or_len is_it files) ≡ without_file name files
  cut [] ordered within = absurd (omega (arith, within))
  cut (file ∷ files) ordered within = step (not (is_it file)) file files (without_file name files) (position_or_len is_it files)
      (λ other. cut files (second _ _ ordered) (shorter (not (is_it file)) (position_or_len is_it files) (length files) other within))
      (λ here. sym (later_stay files (subst (λ (key : List ℕ). T (below_all by_name key files)) (sym (same_name file here)) (first _ _ ordered))))

  found_at : (n size at : ℕ) (within : Bool) → ltb n size ≡ within → cond within (Some n) None ≡ Some at → n ≡ at
  found_at n size at true is found = cc
  found_at n size at false is found = cc

  there : (here : Bool) (text : List ℕ) (rest : Option (List ℕ)) (n size : ℕ) → is_some rest ≡ ltb n size → is_some (cond here (Some text) rest) ≡ ltb (cond (not here) (1 + n) 0) (suc size)
  there true text rest n size is =
      let below : true ≡ ltb 0 (suc size) = grind (arith, nat_tests) in
      below
  there false text rest n size is =
      let same : ltb n size ≡ ltb (1 + n) (suc size) = grind (arith, nat_tests) in
      is ∙ same

  is_there : (files : List File) → is_some (text_of files name) ≡ ltb (position_or_len is_it files) (length files)
  is_there [] = refl
  is_there (file ∷ files) = there (is_it file) file.1 (text_of files name) (position_or_len is_it files) (length files) (is_there files)

  none : (text : Option (List ℕ)) (n size : ℕ) (within : Bool) → ltb n size ≡ within → is_some text ≡ within → cond within (Some n) None ≡ None → text ≡ None
  none None n size within is same found = refl
  none (Some text) n size true is same found = cc
  none (Some text) n size false is same found = absurd (true≢false same)

  some : (text : Option (List ℕ)) (n size at : ℕ) (within : Bool) → is_some text ≡ within → cond within (Some n) None ≡ Some at → text ≢ None
  some None n size at true same found = λ is. absurd (true≢false (sym same))
  some None n size at false same found = cc
  some (Some text) n size at within same found = λ is. cc

-- the file at the first place of that name is the one that is taken away
removed_at : (files : List File) (name : List ℕ) (at : ℕ) → IsInOrder files → at < length files → Some at ≡ position (λ (file : File). eq_by_cmp by_name name file.0) files → remove files at ≡ without_file name files
removed_at files name at ordered within found =
    let is : position_or_len (is_it name) files ≡ at = found_at name (position_or_len (is_it name) files) (length files) at _ refl (sym found) in
    let inside : position_or_len (is_it name) files < length files = omega (arith, is, within) in
    ap (λ (n : ℕ). remove files n) (sym is) ∙ cut name files (T_from_true _ ordered) inside

pub removed_in : (files : List File) (name : List ℕ) (found : Option ℕ) → IsInOrder files → IfSome found (λ at. at < length files) → found ≡ position (λ (file : File). eq_by_cmp by_name name file.0) files → IfSome found (λ at. remove files at ≡ without_file name files)
removed_in files name None ordered within is = tt
removed_in files name (Some at) ordered within is = removed_at files name at ordered within is

-- where a place has that name, there is such a file
pub present_in : (files : List File) (name : List ℕ) (found : Option ℕ) → found ≡ position (λ (file : File). eq_by_cmp by_name name file.0) files → IsSome found → text_of files name ≢ None
present_in files name None is held = absurd (true≢false (sym held))
present_in files name (Some at) is held = some name (text_of files name) (position_or_len (is_it name) files) (length files) at _ (is_there name files) (sym is)

-- where none has it, there is no such file
pub absent_at : (files : List File) (name : List ℕ) → position (λ (file : File). eq_by_cmp by_name name file.0) files ≡ None → text_of files name ≡ None
absent_at files name found = none name (text_of files name) (position_or_len (is_it name) files) (length files) _ refl (is_there name files) found

in_order : (files : List File) (name : List ℕ) → IsInOrder files → IsInOrder (without_file name files)
in_order files name ordered = true_from_T _ (is_sorted-where_key by_name (λ (key : List ℕ). not (eq_by_cmp by_name name key)) files (T_from_true _ ordered))

in_order_both : (made : Bool) (files : List File) (name : List ℕ) → IsInOrder files → IsInOrder (cond made (without_file name files) files)
in_order_both true files name ordered = in_order files name ordered
in_order_both false files name ordered = ordered

-- a call that takes a file away, or doesn't, keeps files in order of names
pub kept_in_order : (made : Bool) (files now : List File) (name : List ℕ) → IsInOrder files → now ≡ cond made (without_file name files) files → IsInOrder now
kept_in_order made files now name ordered removed = subst IsInOrder (sym removed) (in_order_both made files name ordered)
