-- The project after its one file's text was replaced.
use Rattle.std.proofs.Common.{◌≡◌, ℕ, Bool, true, false, cond, List, [], ◌∷◌, Option, Some, refl, sym, ap, ◌∙◌}
use Rattle.std.proofs.lemmas.Bool.{and_from, and_parts}
use Rattle.std.specs.Ordering.{is_lt}
use Rattle.std.specs.FinMap.{slice_cmp-IsAntisymmetric, nat_cmp-IsAntisymmetric}
use Rattle.std.specs.FinMap.Entries.{below_all, by_order, is_sorted}
use Rattle.std.specs.Cmp.{tied_itself}
use Rattle.std.proofs.lemmas.Cmp.{nat_list_cmp_total}
use Rattle.std.proofs.lemmas.Option.{none-some}
use Rattle.std.specs.declared.cmp.Ordering.{Ordering}
use Rattle.std.specs.declared.cmp.Ordering.TheVariants.{Less, Equal, Greater}
use Rattle.ftn_base.specs.Files.{File, IsInOrder, by_name, is_source, project, with_file}
use Rattle.ftn_tool.specs.Verdicts.{sole}

is_less : (order : Ordering) → is_lt order ≡ true → order ≡ Less
is_less Less e = refl
is_less Equal e = absurd cc
is_less Greater e = absurd cc

-- a name below the first is below all
below_rest : (name : List ℕ) (file : File) (files : List File) → by_name name file.0 ≡ Less → below_all by_name file.0 files ≡ true → below_all by_name name files ≡ true
below_rest name file [] less below = refl
below_rest name file (next ∷ files) less below =
    let further : by_name file.0 next.0 ≡ Less = is_less (by_name file.0 next.0) (and_parts _ _ below).0 in
    and_from _ _ (ap is_lt (nat_list_cmp_total.trans name file.0 next.0 less further)) (below_rest name file files less (and_parts _ _ below).1)

-- a file whose name is below those of a project's comes before them
before_project : (name text : List ℕ) (files : List File) → below_all by_name name files ≡ true → with_file name text (project files) ≡ (name, text) ∷ project files
before_project name text [] below = refl
before_project name text (file ∷ files) below =
    let less : by_name name file.0 ≡ Less = is_less (by_name name file.0) (and_parts _ _ below).0 in
    elim (is_source file.0) as (λ (source : Bool). with_file name text (cond source (file ∷ project files) (project files)) ≡ (name, text) ∷ cond source (file ∷ project files) (project files)) [
      | true ↦ ap (λ (order : Ordering). by_order order ((name, text) ∷ file ∷ project files) ((file.0, text) ∷ project files) (file ∷ with_file name text (project files))) less
      | false ↦ before_project name text files (and_parts _ _ below).1
    ]

-- a project file that is put is put into the project
pub project_put : (name text : List ℕ) (files : List File) → is_sorted by_name files ≡ true → is_source name ≡ true → project (with_file name text files) ≡ with_file name text (project files)
project_put name text [] ordered source = ap (λ (b : Bool). cond b ((name, text) ∷ []) []) source
project_put name text (file ∷ files) ordered source =
    let below : below_all by_name file.0 files ≡ true = (and_parts _ _ ordered).0 in
    let rest : project (with_file name text files) ≡ with_file name text (project files) = project_put name text files (and_parts _ _ ordered).1 source in
    elim (by_name name file.0) as (λ (order : Ordering). by_name name file.0 ≡ order → project (by_order order ((name, text) ∷ file ∷ files) ((file.0, text) ∷ files) (file ∷ with_file name text files)) ≡ with_file name text (project (file ∷ files))) [
      | Less ↦ λ less. ap (λ (b : Bool). cond b ((name, text) ∷ project (file ∷ files)) (project (file ∷ files))) source
          ∙ sym (before_project name text (file ∷ files) (and_from _ _ (ap is_lt less) (below_rest name file files less below)))
      | Equal ↦ λ same.
          let name_is : name ≡ file.0 = slice_cmp-IsAntisymmetric nat_cmp-IsAntisymmetric name file.0 same in
          let also : is_source file.0 ≡ true = ap is_source (sym name_is) ∙ source in
          ap (λ (b : Bool). cond b ((file.0, text) ∷ project files) (project files)) also
          ∙ sym (ap (λ (b : Bool). with_file name text (cond b (file ∷ project files) (project files))) also
          ∙ ap (λ (order : Ordering). by_order order ((name, text) ∷ file ∷ project files) ((file.0, text) ∷ project files) (file ∷ with_file name text (project files))) same)
      | Greater ↦ λ more. elim (is_source file.0) as (λ (b : Bool). cond b (file ∷ project (with_file name text files)) (project (with_file name text files)) ≡ with_file name text (cond b (file ∷ project files) (project files))) [
        | true ↦ ap (λ (others : List File). file ∷ others) rest
            ∙ sym (ap (λ (order : Ordering). by_order order ((name, text) ∷ file ∷ project files) ((file.0, text) ∷ project files) (file ∷ with_file name text (project files))) more)
        | false ↦ rest
      ]
    ] refl

some_file : (file name_file : File) → ◌≡◌ {A = Option File} (Some file) (Some name_file) → file ≡ name_file
some_file file name_file e = cc

-- the one file of a list
only_file : (files : List File) (file : File) → sole files ≡ Some file → files ≡ file ∷ []
only_file [] file e = absurd (none-some file e)
only_file (one ∷ []) file e = ap (λ (f : File). f ∷ []) (some_file one file e)
only_file (one ∷ next ∷ files) file e = absurd (none-some file e)

no_head : (others : List File) (file : File) → ◌≡◌ {A = List File} [] (file ∷ others) → ⊥
no_head others file e = cc

same_head : (a b : File) (xs ys : List File) → ◌≡◌ {A = List File} (a ∷ xs) (b ∷ ys) → a ≡ b
same_head a b xs ys e = cc

first_source : (one file : File) (files rest : List File) (b : Bool) → is_source one.0 ≡ b → cond b (one ∷ project files) (project files) ≡ file ∷ rest → (project files ≡ file ∷ rest → is_source file.0 ≡ true) → is_source file.0 ≡ true
first_source one file files rest true is made later = ap (λ (f : File). is_source f.0) (sym (same_head one file (project files) rest made)) ∙ is
first_source one file files rest false is made later = later made

-- the first file of a project is a project file
project_source : (files rest : List File) (file : File) → project files ≡ file ∷ rest → is_source file.0 ≡ true
project_source [] rest file e = absurd (no_head rest file e)
project_source (one ∷ files) rest file e = first_source one file files rest (is_source one.0) refl e (λ made. project_source files rest file made)

-- the new project is the one file with its new text
pub new_project : (files : List File) (name text new_text : List ℕ) → IsInOrder files → sole (project files) ≡ Some (name, text) → project (with_file name new_text files) ≡ (name, new_text) ∷ []
new_project files name text new_text ordered is =
    let one : project files ≡ (name, text) ∷ [] = only_file (project files) (name, text) is in
    let source : is_source name ≡ true = project_source files [] (name, text) one in
    project_put name new_text files ordered source
    ∙ ap (with_file name new_text) one
    ∙ ap (λ (order : Ordering). by_order order ((name, new_text) ∷ (name, text) ∷ []) ((name, new_text) ∷ []) ((name, text) ∷ (name, new_text) ∷ [])) (tied_itself nat_list_cmp_total name)
