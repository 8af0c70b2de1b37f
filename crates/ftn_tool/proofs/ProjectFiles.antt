-- Reading the listed files one by one gives the project's files.
use Rattle.std.proofs.Common.{◌≡◌, ℕ, suc, ◌+◌, ◌≤◌, ◌<◌, Bool, true, false, cond, List, [], ◌∷◌, ◌++◌, length, map, take, drop, get_or, Option, None, Some, is_some, true≢false, refl, sym, ap, ◌∙◌, subst, arith}
use Rattle.std.proofs.lemmas.Bool.{and_from, and_parts}
use Rattle.std.proofs.lemmas.List.Folds.{list_all-append}
use Rattle.std.specs.Prelude.{IfSome, Result, Ok, Err, IfOk, IfErr, OnOk, Vec}
use Rattle.std.specs.List.{filter, list_any}
use Rattle.std.proofs.lemmas.List.{append-nil, drop_more, length-map}
use Rattle.std.specs.Option.{option_map}
use Rattle.std.specs.Ordering.{is_eq, is_lt, ordering_reverse, eq_by_cmp}
use Rattle.std.specs.FinMap.Entries.{below_all, is_some-find, is_sorted}
use Rattle.std.specs.Cmp.{tied_itself}
use Rattle.std.proofs.lemmas.Cmp.{nat_list_cmp_total}
use Rattle.std.specs.declared.cmp.Ordering.{Ordering}
use Rattle.std.specs.declared.cmp.Ordering.TheVariants.{Less, Equal, Greater}
use Rattle.ftn_base.specs.Files.{File, IsInOrder, by_name, is_source, names_of, project, text_of}
use Rattle.ftn_base.specs.Limits.{most_files}
use Rattle.ftn_base.specs.declared.limits.Limit.{Limit}
use Rattle.ftn_base.specs.declared.limits.Limit.TheVariants as limits
use Rattle.ftn_tree.specs.ProjectLimits.{limit_of, past_bytes}
use Rattle.plan_store.specs.Middle.{HasNoPlan, plan_name}
use Rattle.ftn_tool.specs.declared.project.ProjectFault.{ProjectFault}
use Rattle.ftn_tool.specs.declared.project.ProjectFault.TheVariants as faults
use Rattle.ftn_tool.specs.steps.Fronts.{IsPassed, IsStopped, are_sources, front, front_of, fronts, source_front, with_name}
use Rattle.ftn_tool.specs.Verdicts.{HasPlan}
use Rattle.ftn_tool.proofs.Sizes.{few_files, many_files}

-- each of these files is found by its name
abbrev AreFound : List File → List File → Type 0
AreFound whole [] = Unit {0}
AreFound whole (file ∷ files) = (text_of whole file.0 ≡ Some file.1) × AreFound whole files

-- the files of a whole list that are found are read as the project's
fronts_found : (whole files : List File) → AreFound whole files → fronts whole (names_of files) ≡ map front_of (project files)
fronts_found whole [] found = refl
fronts_found whole (file ∷ files) found =
    let rest = fronts_found whole files found.1 in
    elim (is_source file.0) as (λ (source : Bool). with_name file.0 (cond source (option_map front (text_of whole file.0)) None) (fronts whole (names_of files)) ≡ map front_of (cond source (file ∷ project files) (project files))) [
      | true ↦ ap (λ (text : Option (List ℕ)). with_name file.0 (option_map front text) (fronts whole (names_of files))) found.0 ∙ ap (λ (others : List File). front_of file ∷ others) rest
      | false ↦ rest
    ]

-- a name that another is below does not tie with it
apart : (order : Ordering) → is_lt order ≡ true → is_eq (ordering_reverse order) ≡ false
apart Less e = refl
apart Equal e = absurd cc
apart Greater e = absurd cc

-- a file whose name is below those of these files hides none of them
still_found : (file : File) (whole files : List File) → below_all by_name file.0 files ≡ true → AreFound whole files → AreFound (file ∷ whole) files
still_found file whole [] below found = tt
still_found file whole (other ∷ files) below found =
    let less : is_lt (by_name file.0 other.0) ≡ true = (and_parts _ _ below).0 in
    let not_tied : eq_by_cmp by_name other.0 file.0 ≡ false = ap is_eq (nat_list_cmp_total.antisymm other.0 file.0) ∙ apart (by_name file.0 other.0) less in
    (ap (λ (tied : Bool). cond tied (Some file.1) (text_of whole other.0)) not_tied ∙ found.0, still_found file whole files (and_parts _ _ below).1 found.1)

-- files in order are all found
all_found : (files : List File) → is_sorted by_name files ≡ true → AreFound files files
all_found [] ordered = tt
all_found (file ∷ files) ordered =
    let itself : eq_by_cmp by_name file.0 file.0 ≡ true = ap is_eq (tied_itself nat_list_cmp_total file.0) in
    (ap (λ (tied : Bool). cond tied (Some file.1) (text_of files file.0)) itself, still_found file files files (and_parts _ _ ordered).0 (all_found files (and_parts _ _ ordered).1))

-- what was found among the listed names is the project
listed_fronts : (files : List File) (names : List (List ℕ)) → names ≡ names_of files → IsInOrder files → fronts files names ≡ map front_of (project files)
listed_fronts files names listed ordered = ap (fronts files) listed ∙ fronts_found files files (all_found files ordered)

-- how many project files are listed
count_names : (files : List File) → length (filter is_source (names_of files)) ≡ length (project files)
count_names [] = refl
count_names (file ∷ files) = elim (is_source file.0) as (λ (b : Bool). length (cond b (file.0 ∷ filter is_source (names_of files)) (filter is_source (names_of files))) ≡ length (cond b (file ∷ project files) (project files))) [
  | true ↦ ap suc (count_names files)
  | false ↦ count_names files
]

front_count : (files : List File) (names : List (List ℕ)) → names ≡ names_of files → length (filter is_source names) ≡ length (map front_of (project files))
front_count files names listed = ap (λ (all : List (List ℕ)). length (filter is_source all)) listed ∙ count_names files ∙ sym (length-map (project files) front_of)

abbrev AreListed : List (List ℕ) → List File → Type 0
AreListed names files = (names ≡ names_of files) × IsInOrder files

-- the same for a store that may tell its files
pub told_files : {A : Type 0} (told : Option (List File)) (names : List (List ℕ)) (result : Result (Vec File A) ProjectFault) → IfSome told (AreListed names)
    → IfOk result (λ found. IfSome told (λ files. found.items ≡ fronts files names))
    → IfOk result (λ found. IfSome told (λ files. found.items ≡ map front_of (project files)))
told_files None names (Ok found) listed is = tt
told_files (Some files) names (Ok found) listed is = is ∙ listed_fronts files names listed.0 listed.1
told_files told names (Err fault) listed is = tt

pub told_within : {A : Type 0} (names : List (List ℕ)) (result : Result (Vec File A) ProjectFault) → length (filter is_source names) ≤ most_files
    → IfOk result (λ found. length found.items ≤ length (filter is_source names)) → IfOk result (λ found. past_bytes 0 found.items ≡ None)
    → IfOk result (λ found. limit_of found.items ≡ None)
told_within names (Ok found) count few none = few_files found.items (omega (arith, count, few)) ∙ none
told_within names (Err fault) count few none = tt

past_limit : (passed other : Option Limit) (fault : ProjectFault) → passed ≡ other → IsPassed other fault → IsPassed passed fault
past_limit passed other (faults.Past which) same is = same ∙ is
past_limit passed other faults.Waiting same is = is
past_limit passed other faults.StoreFailed same is = tt
past_limit passed other faults.NoMemory same is = tt

-- ---- a plan file

some_of : (text : Option (List ℕ)) → is_some text ≡ true → (found : List ℕ) × (text ≡ Some found)
some_of None is = absurd (true≢false (sym is))
some_of (Some found) is = (found, refl)

-- a plan file that is listed is there
pub told_waiting : (told : Option (List File)) (names : List (List ℕ)) → IfSome told (AreListed names) → list_any (eq_by_cmp by_name plan_name) names ≡ true → IfSome told HasPlan
told_waiting None names listed here = tt
told_waiting (Some files) names listed here =
    some_of (text_of files plan_name) (is_some-find by_name plan_name files ∙ ap (list_any (eq_by_cmp by_name plan_name)) (sym listed.0) ∙ here)

-- ---- why no project is read

stopped_by : (files : List File) (fault : ProjectFault) → HasNoPlan files → IsPassed (limit_of (map front_of (project files))) fault → IsStopped fault files
stopped_by files faults.Waiting none is = absurd is
stopped_by files (faults.Past which) none is = (none, is)
stopped_by files faults.StoreFailed none is = tt
stopped_by files faults.NoMemory none is = tt

pub told_many : (told : Option (List File)) (names : List (List ℕ)) → IfSome told (AreListed names) → IfSome told HasNoPlan → most_files < length (filter is_source names)
    → IfSome told (IsStopped (faults.Past limits.Files))
told_many None names listed none many = tt
told_many (Some files) names listed none many = (none, many_files (map front_of (project files)) (subst (λ (n : ℕ). most_files < n) (front_count files names listed.0) many))

pub told_stopped : {A : Type 0} (told : Option (List File)) (names : List (List ℕ)) (result : Result (Vec File A) ProjectFault) → IfSome told (AreListed names) → IfSome told HasNoPlan
    → length (filter is_source names) ≤ most_files
    → IfErr result (λ fault. IfSome told (λ files. IsPassed (past_bytes 0 (fronts files names)) fault))
    → IfErr result (λ fault. IfSome told (IsStopped fault))
told_stopped told names (Ok found) listed none count is = tt
told_stopped None names (Err fault) listed none count is = tt
told_stopped (Some files) names (Err fault) listed none count is =
    let few : length (map front_of (project files)) ≤ most_files = subst (λ (n : ℕ). n ≤ most_files) (front_count files names listed.0) count in
    stopped_by files fault none (past_limit _ _ fault (few_files (map front_of (project files)) few ∙ ap (past_bytes 0) (sym (listed_fronts files names listed.0 listed.1))) is)

-- the front of a text that was read
pub told_front : (most : ℕ) (told : Option (List File)) (name text : List ℕ) → IfSome told (λ files. option_map (take (most + 1)) (text_of files name) ≡ Some text) → is_source name ≡ true
    → IfSome told (λ files. Some text ≡ cond (is_source name) (option_map (take (most + 1)) (text_of files name)) None)
told_front most None name text read source = tt
told_front most (Some files) name text read source = sym (ap (λ (b : Bool). cond b (option_map (take (most + 1)) (text_of files name)) None) source ∙ read)

-- ---- one file after another

pub within_all : (files : List File) (size : ℕ) → ((rest : List File) → past_bytes 0 (files ++ rest) ≡ past_bytes size rest) → past_bytes 0 files ≡ None
within_all files size measured = ap (past_bytes 0) (sym (append-nil files)) ∙ measured []

pub passed_at : (told : Option (List File)) (names : List (List ℕ)) (files : List File) (i size : ℕ) (name text : List ℕ) (fault : ProjectFault)
    → i < length names → name ≡ get_or names i name
    → IfSome told (λ all. fronts all names ≡ files ++ fronts all (drop i names))
    → ((rest : List File) → past_bytes 0 (files ++ rest) ≡ past_bytes size rest)
    → IfSome told (λ all. Some text ≡ source_front all name)
    → ((rest : List File) → IsPassed (past_bytes size ((name, text) ∷ rest)) fault)
    → IfSome told (λ all. IsPassed (past_bytes 0 (fronts all names)) fault)
passed_at None names files i size name text fault inside is found measured read passed = tt
passed_at (Some all) names files i size name text fault inside is found measured read passed =
    let more : List File = fronts all (drop (i + 1) names) in
    let next : drop i names ≡ name ∷ drop (i + 1) names = drop_more names i name inside ∙ ap (λ (n : List ℕ). n ∷ drop (i + 1) names) (sym is) in
    let here : fronts all (drop i names) ≡ (name, text) ∷ more = ap (fronts all) next ∙ ap (λ (o : Option (List ℕ)). with_name name o more) (sym read) in
    past_limit _ _ fault (ap (past_bytes 0) (found ∙ ap (λ (rest : List File). files ++ rest) here) ∙ measured ((name, text) ∷ more)) (passed more)

-- what holds holds of an answer that is no fault
pub on_ok : {A E P : Type 0} (result : Result A E) → P → OnOk result P
on_ok (Ok x) holds = holds
on_ok (Err fault) holds = tt

pub sources_more : (files : List File) (name text : List ℕ) → are_sources files ≡ true → is_source name ≡ true → are_sources (files ++ (name, text) ∷ []) ≡ true
sources_more files name text sources source =
    list_all-append (λ (file : File). is_source file.0) files ((name, text) ∷ []) ∙ and_from _ _ sources (and_from _ _ source refl)
