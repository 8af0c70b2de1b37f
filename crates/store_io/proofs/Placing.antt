-- Walks over files in order of names.
use Rattle.std.proofs.Common.{◌≡◌, ℕ, suc, ◌+◌, ◌<◌, Bool, true, false, List, ◌∷◌, ◌++◌, [], length, take, drop, get_or, set, Option, Some, refl, arith, sym, ap, ◌∙◌, append_assoc, cond, subst, T, IsTrue}
use Rattle.std.proofs.lemmas.List.{drop_more, take_more, set_split}
use Rattle.std.specs.Ordering.{eq_by_cmp}
use Rattle.std.specs.FinMap.{slice_cmp-IsAntisymmetric, nat_cmp-IsAntisymmetric}
use Rattle.std.specs.FinMap.Entries.{by_order, is_sorted-put}
use Rattle.std.proofs.lemmas.Cmp.{nat_list_cmp_total}
use Rattle.std.proofs.lemmas.Float.{T_from_true}
use Rattle.std.specs.declared.cmp.Ordering.{Ordering}
use Rattle.std.specs.declared.cmp.Ordering.TheVariants.{Less, Equal, Greater}
use Rattle.ftn_base.specs.Files.{File, IsInOrder, by_name, text_of, with_file}

module _ (files : List File) (name : List ℕ) (at : ℕ) (file : File) (here : at < length files) (is : file ≡ get_or files at file) where
  split : drop at files ≡ file ∷ drop (at + 1) files
  split = drop_more files at file here ∙ ap (λ (one : File). one ∷ drop (at + 1) files) (sym is)

  split_front : take (at + 1) files ≡ take at files ++ file ∷ []
  split_front = take_more files at file here ∙ ap (λ (one : File). take at files ++ one ∷ []) (sym is)

  -- a file of another name is passed
  pub found_later : (now : Option (List ℕ)) → eq_by_cmp by_name name file.0 ≡ false → now ≡ text_of (drop at files) name → now ≡ text_of (drop (at + 1) files) name
  found_later now other so_far = so_far ∙ ap (λ (rest : List File). text_of rest name) split ∙ ap (λ (tied : Bool). cond tied (Some file.1) (text_of (drop (at + 1) files) name)) other

  -- the first file whose name ties is the one
  pub found_here : (now : Option (List ℕ)) → eq_by_cmp by_name name file.0 ≡ true → now ≡ text_of (drop at files) name → now ≡ Some file.1
  found_here now same so_far = so_far ∙ ap (λ (rest : List File). text_of rest name) split ∙ ap (λ (tied : Bool). cond tied (Some file.1) (text_of (drop (at + 1) files) name)) same

  at_file : (text : List ℕ) (order : Ordering) → by_name name file.0 ≡ order → with_file name text (drop at files) ≡ by_order order ((name, text) ∷ file ∷ drop (at + 1) files) ((file.0, text) ∷ drop (at + 1) files) (file ∷ with_file name text (drop (at + 1) files))
  at_file text order compared = ap (λ (rest : List File). with_file name text rest) split ∙ ap (λ (o : Ordering). by_order o ((name, text) ∷ file ∷ drop (at + 1) files) ((file.0, text) ∷ drop (at + 1) files) (file ∷ with_file name text (drop (at + 1) files))) compared

  -- a name above the file's belongs behind it
  pub placed_later : (text : List ℕ) (now : List File) → by_name name file.0 ≡ Greater → now ≡ take at files ++ with_file name text (drop at files) → now ≡ take (at + 1) files ++ with_file name text (drop (at + 1) files)
  placed_later text now above so_far =
      so_far ∙ ap (λ (rest : List File). take at files ++ rest) (at_file text Greater above)
      ∙ sym (append_assoc (take at files) (file ∷ []) (with_file name text (drop (at + 1) files)))
      ∙ ap (λ (front : List File). front ++ with_file name text (drop (at + 1) files)) (sym split_front)

  -- a name below the file's belongs before it
  pub placed_here : (text : List ℕ) (now : List File) → by_name name file.0 ≡ Less → now ≡ take at files ++ with_file name text (drop at files) → now ≡ take at files ++ (name, text) ∷ drop at files
  placed_here text now below so_far =
      so_far ∙ ap (λ (rest : List File). take at files ++ rest) (at_file text Less below)
      ∙ ap (λ (rest : List File). take at files ++ (name, text) ∷ rest) (sym split)

  -- at the same name the text is set
  pub placed_at : (text : List ℕ) (now : List File) → by_name name file.0 ≡ Equal → now ≡ take at files ++ with_file name text (drop at files) → now ≡ set files at (name, text)
  placed_at text now same so_far =
      let next : at + 1 ≡ suc at = omega arith in
      so_far ∙ ap (λ (rest : List File). take at files ++ rest) (at_file text Equal same)
      ∙ ap (λ (kept : List ℕ). take at files ++ (kept, text) ∷ drop (at + 1) files) (sym (slice_cmp-IsAntisymmetric nat_cmp-IsAntisymmetric name file.0 same))
      ∙ ap (λ (n : ℕ). take at files ++ (name, text) ∷ drop n files) next
      ∙ sym (set_split files at (name, text) here)

true_from_T : (test : Bool) → T test → IsTrue test
true_from_T true holds = refl
true_from_T false holds = absurd holds

-- a put keeps files in order of names
put_in_order : (files : List File) (name text : List ℕ) → IsInOrder files → IsInOrder (with_file name text files)
put_in_order files name text ordered = true_from_T _ (is_sorted-put by_name nat_list_cmp_total name text files (T_from_true _ ordered))

in_order_both : (made : Bool) (files : List File) (name text : List ℕ) → IsInOrder files → IsInOrder (cond made (with_file name text files) files)
in_order_both true files name text ordered = put_in_order files name text ordered
in_order_both false files name text ordered = ordered

-- so does a call that makes a put, or doesn't
pub stays_in_order : (made : Bool) (files now : List File) (name text : List ℕ) → IsInOrder files → now ≡ cond made (with_file name text files) files → IsInOrder now
stays_in_order made files now name text ordered put = subst IsInOrder (sym put) (in_order_both made files name text ordered)
