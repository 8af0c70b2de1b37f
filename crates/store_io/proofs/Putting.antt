-- What a put changes among files, and what it leaves.
use Rattle.std.proofs.Common.{◌≡◌, ◌≢◌, ℕ, Bool, false, List, Some, refl, ap, ◌∙◌, cond}
use Rattle.std.proofs.lemmas.Cmp.{nat_list_cmp_total, tied_itself}
use Rattle.std.specs.Ordering.{is_eq}
use Rattle.std.specs.declared.cmp.Ordering.{Ordering}
use Rattle.std.specs.declared.cmp.Ordering.TheVariants.{Less, Equal, Greater}
use Rattle.std.specs.FinMap.{slice_cmp-IsAntisymmetric, nat_cmp-IsAntisymmetric}
use Rattle.std.specs.FinMap.Entries.{find-put}
use Rattle.ftn_base.specs.Files.{File, by_name, text_of, with_file}

apart : (order : Ordering) → order ≢ Equal → is_eq order ≡ false
apart Less other = refl
apart Equal other = absurd (other refl)
apart Greater other = refl

-- the name has the text that was put
pub text_put : (files : List File) (name text : List ℕ) → text_of (with_file name text files) name ≡ Some text
text_put files name text =
    find-put by_name nat_list_cmp_total name name text files
    ∙ ap (λ (order : Ordering). cond (is_eq order) (Some text) (text_of files name)) (tied_itself nat_list_cmp_total name)

-- another name has the text that it had
pub other_text_kept : (files : List File) (name other text : List ℕ) → other ≢ name → text_of (with_file name text files) other ≡ text_of files other
other_text_kept files name other text differs =
    find-put by_name nat_list_cmp_total other name text files
    ∙ ap (λ (tied : Bool). cond tied (Some text) (text_of files other)) (apart (by_name other name) (λ same. differs (slice_cmp-IsAntisymmetric nat_cmp-IsAntisymmetric other name same)))
