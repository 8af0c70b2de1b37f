-- Files amid a change stay so while files of its plan are put, and are the new ones once all are.
use Rattle.std.proofs.Common.{◌≡◌, ◌≢◌, ℕ, Bool, true, false, cond, List, [], ◌∷◌, ◌++◌, Option, Some, None, refl, sym, ap, ◌∙◌, subst, inl, inr, true≢false}
use Rattle.std.specs.Prelude.{◌⊎◌}
use Rattle.std.specs.List.{list_all}
use Rattle.std.specs.Option.{option_map, option_or}
use Rattle.std.proofs.lemmas.Bool.{and_parts}
use Rattle.ftn_base.specs.Files.{File, IsInOrder, is_source, text_of, with_file}
use Rattle.ftn_base.specs.Names.{is_file_name}
use Rattle.plan_file.specs.Plans.{IsPlan, is_planned, plan_text}
use Rattle.store_io.proofs.Placing.{stays_in_order}
use Rattle.store_io.proofs.Removing.{kept_in_order}
use Rattle.plan_store.specs.Middle.{HasNoPlan, IsAmid, IsChange, IsMiddle, plan_name, with_files, with_plan}
use Rattle.plan_store.specs.steps.Puts.{Finishes, PutsPlan, finished}
use Rattle.plan_store.proofs.Lookups.{all_lookup, front_in_order, front_lookup, gone_elsewhere, gone_here, is_named, one_name, put_elsewhere, put_here, same_files, same_or_other}

-- ---- no plan holds the plan file

no_source : is_source plan_name ≡ false
no_source = refl

planned_source : (file : File) → is_planned file ≡ true → is_source file.0 ≡ true
planned_source file planned = (and_parts (is_file_name file.0) (is_source file.0) (and_parts _ _ planned).0).1

not_planned : (plan : List File) → list_all is_planned plan ≡ true → HasNoPlan plan
not_planned [] planned = refl
not_planned (file ∷ plan) planned = on (is_named plan_name file.0) refl (not_planned plan (and_parts _ _ planned).1)
  where
    on : (b : Bool) → is_named plan_name file.0 ≡ b → HasNoPlan plan → cond b (Some file.1) (text_of plan plan_name) ≡ None
    on true is none = absurd (true≢false (sym (planned_source file (and_parts _ _ planned).0) ∙ ap is_source (sym (one_name plan_name file.0 is)) ∙ no_source))
    on false is none = none

pub plan_apart : (plan : List File) → IsPlan plan → HasNoPlan plan
plan_apart plan valid = not_planned plan valid.planned

-- ---- files stay in order

pub put_in_order : (name text : List ℕ) (files : List File) → IsInOrder files → IsInOrder (with_file name text files)
put_in_order name text files ordered = stays_in_order true files (with_file name text files) name text ordered refl

pub all_in_order : (plan files : List File) → IsInOrder files → IsInOrder (with_files plan files)
all_in_order [] files ordered = ordered
all_in_order (file ∷ plan) files ordered = all_in_order plan (with_file file.0 file.1 files) (put_in_order file.0 file.1 files ordered)

finished_in_order : (plan files : List File) → IsInOrder files → IsInOrder (finished plan files)
finished_in_order plan files ordered = kept_in_order true (with_files plan files) (finished plan files) plan_name (all_in_order plan files ordered) refl

-- ---- amid a change

twice : (new old : Option (List ℕ)) → option_or new (option_or new old) ≡ option_or new old
twice None old = refl
twice (Some text) old = refl

module _ (files plan : List File) (change : IsChange files plan) where
  in_order_front : (front rest : List File) → plan ≡ front ++ rest → IsInOrder front
  in_order_front front rest parts = front_in_order front rest (subst IsInOrder parts change.valid.in_order)

  new_lookup : (asked : List ℕ) → text_of (with_files plan files) asked ≡ option_or (text_of plan asked) (text_of files asked)
  new_lookup asked = all_lookup plan change.valid.in_order files asked

  -- putting the plan's own file gives the new text
  put_again : (now : List File) → IsAmid files plan now → (asked : List ℕ) → asked ≢ plan_name → option_or (text_of plan asked) (text_of now asked) ≡ text_of (with_files plan files) asked
  put_again now amid asked other = on (amid.others asked other)
    where
      on : (text_of now asked ≡ text_of files asked) ⊎ (text_of now asked ≡ text_of (with_files plan files) asked) → option_or (text_of plan asked) (text_of now asked) ≡ text_of (with_files plan files) asked
      on (inl old) = ap (λ (text : Option (List ℕ)). option_or (text_of plan asked) text) old ∙ sym (new_lookup asked)
      on (inr new) = ap (λ (text : Option (List ℕ)). option_or (text_of plan asked) text) (new ∙ new_lookup asked) ∙ twice (text_of plan asked) (text_of files asked) ∙ sym (new_lookup asked)

  pub amid_first : IsAmid files plan (with_plan (plan_text plan) files)
  amid_first = record { planned = put_here plan_name (plan_text plan) files; others = λ asked other. inl (put_elsewhere plan_name (plan_text plan) files asked other) }

  -- the plan file after a front of the plan was put
  front_planned : (now front rest : List File) → IsAmid files plan now → plan ≡ front ++ rest → text_of (with_files front now) plan_name ≡ Some (plan_text plan)
  front_planned now front rest amid parts =
      all_lookup front (in_order_front front rest parts) now plan_name
      ∙ ap (λ (new : Option (List ℕ)). option_or new (text_of now plan_name)) (on (front_lookup front rest plan_name))
      ∙ amid.planned
    where
      on : (text_of front plan_name ≡ None) ⊎ (text_of front plan_name ≡ text_of (front ++ rest) plan_name) → text_of front plan_name ≡ None
      on (inl none) = none
      on (inr same) = same ∙ ap (λ (all : List File). text_of all plan_name) (sym parts) ∙ plan_apart plan change.valid

  -- and the others
  front_others : (now front rest : List File) → IsAmid files plan now → plan ≡ front ++ rest → (asked : List ℕ) → asked ≢ plan_name
      → (text_of (with_files front now) asked ≡ text_of files asked) ⊎ (text_of (with_files front now) asked ≡ text_of (with_files plan files) asked)
  front_others now front rest amid parts asked other = on (front_lookup front rest asked)
    where
      found : text_of (with_files front now) asked ≡ option_or (text_of front asked) (text_of now asked)
      found = all_lookup front (in_order_front front rest parts) now asked

      on : (text_of front asked ≡ None) ⊎ (text_of front asked ≡ text_of (front ++ rest) asked)
          → (text_of (with_files front now) asked ≡ text_of files asked) ⊎ (text_of (with_files front now) asked ≡ text_of (with_files plan files) asked)
      on (inl none) =
          let same : text_of (with_files front now) asked ≡ text_of now asked = found ∙ ap (λ (new : Option (List ℕ)). option_or new (text_of now asked)) none in
          either same (amid.others asked other)
        where
          either : text_of (with_files front now) asked ≡ text_of now asked → (text_of now asked ≡ text_of files asked) ⊎ (text_of now asked ≡ text_of (with_files plan files) asked)
              → (text_of (with_files front now) asked ≡ text_of files asked) ⊎ (text_of (with_files front now) asked ≡ text_of (with_files plan files) asked)
          either same (inl old) = inl (same ∙ old)
          either same (inr new) = inr (same ∙ new)
      on (inr whole) =
          inr (found ∙ ap (λ (new : Option (List ℕ)). option_or new (text_of now asked)) (whole ∙ ap (λ (all : List File). text_of all asked) (sym parts)) ∙ put_again now amid asked other)

  -- files of the plan that are put leave files amid the change
  pub amid_front : (now front rest : List File) → IsAmid files plan now → plan ≡ front ++ rest → IsAmid files plan (with_files front now)
  amid_front now front rest amid parts = record { planned = front_planned now front rest amid parts; others = front_others now front rest amid parts }

  -- ---- the end of a change

  -- the new files have no plan file
  pub new_planless : text_of (with_files plan files) plan_name ≡ None
  new_planless = new_lookup plan_name ∙ ap (λ (new : Option (List ℕ)). option_or new (text_of files plan_name)) (plan_apart plan change.valid) ∙ change.lacks

  finished_lookup : (now : List File) → IsAmid files plan now → (asked : List ℕ) → text_of (finished plan now) asked ≡ text_of (with_files plan files) asked
  finished_lookup now amid asked =
      same_or_other asked plan_name
      (λ same. ap (λ (name : List ℕ). text_of (finished plan now) name) same ∙ gone_here plan_name (with_files plan now) ∙ sym new_planless ∙ ap (λ (name : List ℕ). text_of (with_files plan files) name) (sym same))
      (λ other. gone_elsewhere plan_name (with_files plan now) asked other ∙ all_lookup plan change.valid.in_order now asked ∙ put_again now amid asked other)

  -- once all files are put and the plan is taken away, the files are the new ones
  pub amid_finished : (now : List File) → IsInOrder now → IsAmid files plan now → finished plan now ≡ with_files plan files
  amid_finished now ordered amid = same_files (finished plan now) (with_files plan files) (finished_in_order plan now ordered) (all_in_order plan files change.ordered) (finished_lookup now amid)

  -- ---- over a store that tells its files

  module _ (now : List File) (ordered : IsInOrder now) (amid : IsAmid files plan now) where
    pub done_told : (before after : Option (List File)) → before ≡ Some now → after ≡ option_map (finished plan) before → after ≡ Some (with_files plan files)
    done_told before after told done = done ∙ ap (option_map (finished plan)) told ∙ ap Some (amid_finished now ordered amid)

    pub part_told : (before after : Option (List File)) → before ≡ Some now → Finishes plan before after → (later : List File) × (after ≡ Some later) × (IsAmid files plan later ⊎ (later ≡ with_files plan files))
    part_told before after told (inl puts) =
        (with_files puts.0 now, puts.3 ∙ ap (option_map (with_files puts.0)) told, inl (amid_front now puts.0 puts.1 amid puts.2))
    part_told before after told (inr done) = (with_files plan files, done_told before after told done, inr refl)

  pub put_done : (before after : Option (List File)) → before ≡ Some files → after ≡ option_map (finished plan) (option_map (with_plan (plan_text plan)) before) → after ≡ Some (with_files plan files)
  put_done before after told done =
      done_told (with_plan (plan_text plan) files) (put_in_order plan_name (plan_text plan) files change.ordered) amid_first
      (option_map (with_plan (plan_text plan)) before) after (ap (option_map (with_plan (plan_text plan))) told) done

  pub put_part : (before after : Option (List File)) → before ≡ Some files → PutsPlan (plan_text plan) plan before after → (later : List File) × (after ≡ Some later) × IsMiddle files plan later
  put_part before after told (inl same) = (files, same ∙ told, inl refl)
  put_part before after told (inr puts) =
      let part = part_told (with_plan (plan_text plan) files) (put_in_order plan_name (plan_text plan) files change.ordered) amid_first
      (option_map (with_plan (plan_text plan)) before) after (ap (option_map (with_plan (plan_text plan))) told) puts in
      (part.0, part.1, inr part.2)
