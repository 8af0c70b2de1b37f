-- What is looked up among files after a change.
use Rattle.std.proofs.Common.{◌≡◌, ◌≢◌, ℕ, Bool, true, false, cond, not, ◌&&◌, T, List, [], ◌∷◌, ◌++◌, Option, Some, None, refl, sym, ap, ◌∙◌, subst, inl, inr, IsTrue, true≢false}
use Rattle.std.specs.Prelude.{◌⊎◌}
use Rattle.std.specs.Option.{option_or}
use Rattle.std.specs.Ordering.{eq_by_cmp, is_eq, is_lt}
use Rattle.std.specs.Cmp.{tied_itself}
use Rattle.std.specs.FinMap.{slice_cmp-IsAntisymmetric, nat_cmp-IsAntisymmetric}
use Rattle.std.specs.FinMap.Entries.{below_all, find-put, find-where_key, is_sorted, same_entries}
use Rattle.std.proofs.lemmas.Cmp.{nat_list_cmp_total}
use Rattle.std.proofs.lemmas.Float.{T_from_true}
use Rattle.std.specs.declared.cmp.Ordering.{Ordering}
use Rattle.std.specs.declared.cmp.Ordering.TheVariants.{Less, Equal, Greater}
use Rattle.ftn_base.specs.Files.{File, IsInOrder, by_name, text_of, with_file}
use Rattle.store_io.specs.Told.{without_file}
use Rattle.plan_store.specs.Middle.{with_files}

first : (a b : Bool) → T (a && b) → T a
first true b holds = tt
first false b holds = holds

second : (a b : Bool) → T (a && b) → T b
second true b holds = holds
second false b holds = absurd holds

both : (a b : Bool) → T a → T b → T (a && b)
both true b one two = two
both false b one two = one

true_from_T : (test : Bool) → T test → IsTrue test
true_from_T true holds = refl
true_from_T false holds = absurd holds

abbrev pub is_named : List ℕ → List ℕ → Bool
is_named one other = eq_by_cmp by_name one other

equal : (order : Ordering) → is_eq order ≡ true → order ≡ Equal
equal Less is = absurd (true≢false (sym is))
equal Equal is = refl
equal Greater is = absurd (true≢false (sym is))

-- names that tie are one
pub one_name : (one other : List ℕ) → is_named one other ≡ true → one ≡ other
one_name one other tied = slice_cmp-IsAntisymmetric nat_cmp-IsAntisymmetric one other (equal (by_name one other) tied)

pub itself : (name : List ℕ) → is_named name name ≡ true
itself name = ap is_eq (tied_itself nat_list_cmp_total name)

-- names that differ don't tie
pub two_names : (one other : List ℕ) → one ≢ other → is_named one other ≡ false
two_names one other differ = on (is_named one other) refl
  where
    on : (b : Bool) → is_named one other ≡ b → is_named one other ≡ false
    on true is = absurd (differ (one_name one other is))
    on false is = is

-- each name is this one or another
pub same_or_other : {P : Type 0} (one other : List ℕ) → (one ≡ other → P) → (one ≢ other → P) → P
same_or_other {P = P} one other same apart = on (is_named one other) refl
  where
    differ : is_named one other ≡ false → one ≢ other
    differ is e = true≢false (sym (itself other) ∙ ap (λ (name : List ℕ). is_named name other) (sym e) ∙ is)

    on : (b : Bool) → is_named one other ≡ b → P
    on true is = same (one_name one other is)
    on false is = apart (differ is)

-- ---- one file put, one taken away

pub put_lookup : (name text : List ℕ) (files : List File) (asked : List ℕ) → text_of (with_file name text files) asked ≡ cond (is_named asked name) (Some text) (text_of files asked)
put_lookup name text files asked = find-put by_name nat_list_cmp_total asked name text files

pub put_here : (name text : List ℕ) (files : List File) → text_of (with_file name text files) name ≡ Some text
put_here name text files = put_lookup name text files name ∙ ap (λ (b : Bool). cond b (Some text) (text_of files name)) (itself name)

pub put_elsewhere : (name text : List ℕ) (files : List File) (asked : List ℕ) → asked ≢ name → text_of (with_file name text files) asked ≡ text_of files asked
put_elsewhere name text files asked other = put_lookup name text files asked ∙ ap (λ (b : Bool). cond b (Some text) (text_of files asked)) (two_names asked name other)

without_lookup : (name : List ℕ) (files : List File) (asked : List ℕ) → text_of (without_file name files) asked ≡ cond (not (is_named name asked)) (text_of files asked) None
without_lookup name files asked =
    find-where_key by_name (λ (key : List ℕ). not (is_named name key)) asked
    (λ key tied. ap (λ (k : List ℕ). not (is_named name k)) (sym (slice_cmp-IsAntisymmetric nat_cmp-IsAntisymmetric asked key tied))) files

pub gone_here : (name : List ℕ) (files : List File) → text_of (without_file name files) name ≡ None
gone_here name files = without_lookup name files name ∙ ap (λ (b : Bool). cond (not b) (text_of files name) None) (itself name)

pub gone_elsewhere : (name : List ℕ) (files : List File) (asked : List ℕ) → asked ≢ name → text_of (without_file name files) asked ≡ text_of files asked
gone_elsewhere name files asked other =
    without_lookup name files asked ∙ ap (λ (b : Bool). cond (not b) (text_of files asked) None) (two_names name asked (λ e. other (sym e)))

-- ---- files put one after another

none_below : (files : List File) (name : List ℕ) → T (below_all by_name name files) → text_of files name ≡ None
none_below [] name below = refl
none_below (file ∷ files) name below = above (by_name name file.0) (first _ _ below) (none_below files name (second _ _ below))
  where
    above : (order : Ordering) → T (is_lt order) → text_of files name ≡ None → cond (is_eq order) (Some file.1) (text_of files name) ≡ None
    above Less less none = none
    above Equal less none = absurd less
    above Greater less none = absurd less

-- a file is the new one where the plan has it, and else the old one
lookup_all : (plan : List File) → T (is_sorted by_name plan) → (files : List File) (asked : List ℕ) → text_of (with_files plan files) asked ≡ option_or (text_of plan asked) (text_of files asked)
lookup_all [] ordered files asked = refl
lookup_all (file ∷ plan) ordered files asked =
    lookup_all plan (second _ _ ordered) (with_file file.0 file.1 files) asked
    ∙ ap (λ (old : Option (List ℕ)). option_or (text_of plan asked) old) (put_lookup file.0 file.1 files asked)
    ∙ on (is_named asked file.0) refl
  where
    here : is_named asked file.0 ≡ true → text_of plan asked ≡ None
    here tied = none_below plan asked (subst (λ (name : List ℕ). T (below_all by_name name plan)) (sym (one_name asked file.0 tied)) (first _ _ ordered))

    on : (b : Bool) → is_named asked file.0 ≡ b → option_or (text_of plan asked) (cond b (Some file.1) (text_of files asked)) ≡ option_or (cond b (Some file.1) (text_of plan asked)) (text_of files asked)
    on true tied = ap (λ (new : Option (List ℕ)). option_or new (Some file.1)) (here tied)
    on false tied = refl

pub all_lookup : (plan : List File) → IsInOrder plan → (files : List File) (asked : List ℕ) → text_of (with_files plan files) asked ≡ option_or (text_of plan asked) (text_of files asked)
all_lookup plan ordered files asked = lookup_all plan (T_from_true _ ordered) files asked

-- a front of the plan has each of its files or hasn't
pub front_lookup : (front rest : List File) (asked : List ℕ) → (text_of front asked ≡ None) ⊎ (text_of front asked ≡ text_of (front ++ rest) asked)
front_lookup [] rest asked = inl refl
front_lookup (file ∷ front) rest asked = on (is_named asked file.0) (front_lookup front rest asked)
  where
    on : (b : Bool) → (text_of front asked ≡ None) ⊎ (text_of front asked ≡ text_of (front ++ rest) asked)
        → (cond b (Some file.1) (text_of front asked) ≡ None) ⊎ (cond b (Some file.1) (text_of front asked) ≡ cond b (Some file.1) (text_of (front ++ rest) asked))
    on true either = inr refl
    on false either = either

below_front : (name : List ℕ) (front rest : List File) → T (below_all by_name name (front ++ rest)) → T (below_all by_name name front)
below_front name [] rest below = tt
below_front name (file ∷ front) rest below = both _ _ (first _ _ below) (below_front name front rest (second _ _ below))

front_sorted : (front rest : List File) → T (is_sorted by_name (front ++ rest)) → T (is_sorted by_name front)
front_sorted [] rest ordered = tt
front_sorted (file ∷ front) rest ordered = both _ _ (below_front file.0 front rest (first _ _ ordered)) (front_sorted front rest (second _ _ ordered))

pub front_in_order : (front rest : List File) → IsInOrder (front ++ rest) → IsInOrder front
front_in_order front rest ordered = true_from_T _ (front_sorted front rest (T_from_true _ ordered))

-- ---- files in order that have the same texts

pub same_files : (one other : List File) → IsInOrder one → IsInOrder other → ((asked : List ℕ) → text_of one asked ≡ text_of other asked) → one ≡ other
same_files one other ordered also same =
    same_entries by_name nat_list_cmp_total (slice_cmp-IsAntisymmetric nat_cmp-IsAntisymmetric) one other (T_from_true _ ordered) (T_from_true _ also) same
