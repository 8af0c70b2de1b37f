-- Putting files of a plan one after another.
use Rattle.std.proofs.Common.{◌≡◌, ℕ, ◌+◌, ◌≤◌, Bool, true, false, cond, not, List, [], ◌∷◌, ◌++◌, length, remove, slice_get, Option, Some, None, refl, sym, ap, ◌∙◌, inl, inr, arith, append_assoc, append-nil}
use Rattle.std.specs.Prelude.{◌↔◌, IfSome, OnErr, Result, Ok, Err}
use Rattle.std.specs.Option.{option_map}
use Rattle.std.specs.Ordering.{eq_by_cmp}
use Rattle.std.proofs.lemmas.List.Sums.{fold-append}
use Rattle.ftn_base.specs.Files.{File, by_name, text_of, with_file}
use Rattle.store_io.specs.Told.{MayPut, MayRemove, without_file}
use Rattle.plan_store.specs.Middle.{plan_name, with_files, with_plan}
use Rattle.plan_store.specs.steps.Puts.{Finishes, PutsFront, PutsPlan, finished}

-- those before what is left were put, and there is room for what is left
pub record Going (plan left : List File) (before now : Option (List File)) (spare : ℕ) : Type 0 where
  pub front : List File
  pub parts : plan ≡ front ++ left
  pub put : now ≡ option_map (with_files front) before
  pub room : length left ≤ spare

same_some : (one other : File) → ◌≡◌ {A = Option File} (Some one) (Some other) → one ≡ other
same_some one other e = cc

-- the first of what is left
pub first_left : (left rest : List File) (file : File) → slice_get left 0 ≡ Some file → rest ≡ remove left 0 → left ≡ file ∷ rest
first_left [] rest file here is = absurd cc
first_left (one ∷ left) rest file here is = ap (λ (f : File). f ∷ left) (same_some one file here) ∙ ap (λ (fs : List File). file ∷ fs) (sym is)

start_put : (before : Option (List File)) → before ≡ option_map (with_files []) before
start_put None = refl
start_put (Some files) = refl

pub start : (plan : List File) (before : Option (List File)) (spare : ℕ) → length plan ≤ spare → Going plan plan before before spare
start plan before spare room = record { front = []; parts = refl; put = start_put before; room = room }

one_more : (front : List File) (file : File) (before : Option (List File)) → option_map (with_file file.0 file.1) (option_map (with_files front) before) ≡ option_map (with_files (front ++ file ∷ [])) before
one_more front file None = refl
one_more front file (Some files) = ap Some (sym (fold-append (λ (all : List File) (f : File). with_file f.0 f.1 all) files front (file ∷ [])))

module _ (plan left rest : List File) (file : File) (before now : Option (List File)) (spare : ℕ) (going : Going plan left before now spare) (is : left ≡ file ∷ rest) where
  parts_are : plan ≡ (going.front ++ file ∷ []) ++ rest
  parts_are = going.parts ∙ ap (λ (more : List File). going.front ++ more) is ∙ sym (append_assoc going.front (file ∷ []) rest)

  put_is : (after : Option (List File)) → after ≡ option_map (with_file file.0 file.1) now → after ≡ option_map (with_files (going.front ++ file ∷ [])) before
  put_is after put = put ∙ ap (option_map (with_file file.0 file.1)) going.put ∙ one_more going.front file before

  many : length left ≡ length rest + 1
  many = ap length is ∙ omega arith

  pub has_room : 1 ≤ spare
  has_room = omega (arith, many, going.room)

  pub next : (after : Option (List File)) (spare_after : ℕ) → after ≡ option_map (with_file file.0 file.1) now → spare ≤ spare_after + 1 → Going plan rest before after spare_after
  next after spare_after put less = record { front = going.front ++ file ∷ []; parts = parts_are; put = put_is after put; room = omega (arith, many, going.room, less) }

  pub stopped : (after : Option (List File)) → MayPut file.0 file.1 now after → PutsFront plan before after
  stopped after (inl same) = (going.front, left, going.parts, same ∙ going.put)
  stopped after (inr put) = (going.front ++ file ∷ [], rest, parts_are, put_is after put)

pub all_put : (plan left : List File) (before now : Option (List File)) (spare : ℕ) → Going plan left before now spare → left ≡ [] → now ≡ option_map (with_files plan) before
all_put plan left before now spare going is =
    let whole : going.front ≡ plan = sym (going.parts ∙ ap (λ (more : List File). going.front ++ more) is ∙ append-nil going.front) in
    going.put ∙ ap (λ (front : List File). option_map (with_files front) before) whole

-- ---- where there is nothing to take away

kept_file : (b : Bool) (file : File) (files kept : List File) (text : Option (List ℕ)) → cond b (Some file.1) text ≡ None → (text ≡ None → kept ≡ files) → cond (not b) (file ∷ kept) kept ≡ file ∷ files
kept_file true file files kept text none rest = absurd cc
kept_file false file files kept text none rest = ap (λ (all : List File). file ∷ all) (rest none)

without_none : (name : List ℕ) (files : List File) → text_of files name ≡ None → without_file name files ≡ files
without_none name [] none = refl
without_none name (file ∷ files) none = kept_file (eq_by_cmp by_name name file.0) file files (without_file name files) (text_of files name) none (without_none name files)

pub gone_already : {A : Type 0} (name : List ℕ) (before now : Option (List File)) → IfSome before (λ files. A ↔ (text_of files name ≡ None)) → A → now ≡ before → now ≡ option_map (without_file name) before
gone_already name None now absent is same = same
gone_already name (Some files) now absent is same = same ∙ ap Some (sym (without_none name files (absent.0 is)))

-- ---- the plan's end

finished_map : (plan : List File) (before : Option (List File)) → option_map (without_file plan_name) (option_map (with_files plan) before) ≡ option_map (finished plan) before
finished_map plan None = refl
finished_map plan (Some files) = refl

pub finish_done : (plan : List File) (before between after : Option (List File)) → between ≡ option_map (with_files plan) before → after ≡ option_map (without_file plan_name) between → after ≡ option_map (finished plan) before
finish_done plan before between after put gone = gone ∙ ap (option_map (without_file plan_name)) put ∙ finished_map plan before

pub finish_part : (plan : List File) (before between after : Option (List File)) → between ≡ option_map (with_files plan) before → MayRemove plan_name between after → Finishes plan before after
finish_part plan before between after put (inl same) = inl (plan, [], sym (append-nil plan), same ∙ put)
finish_part plan before between after put (inr gone) = inr (finish_done plan before between after put gone)

pub plan_part : (text : List ℕ) (plan : List File) (before after : Option (List File)) → MayPut plan_name text before after → PutsPlan text plan before after
plan_part text plan before after (inl same) = inl same
plan_part text plan before after (inr put) = inr (inl ([], plan, refl, put ∙ start_put (option_map (with_plan text) before)))

-- what holds holds of an answer that is a fault
pub on_err : {A E P : Type 0} (result : Result A E) → P → OnErr result P
on_err (Ok x) holds = tt
on_err (Err fault) holds = holds
