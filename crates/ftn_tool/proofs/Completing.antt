-- From what was carried out of a plan file to what `recover` promises.
use Rattle.std.proofs.Common.{◌≡◌, ◌≢◌, ℕ, ◌≤◌, ◌<◌, List, [], ◌++◌, length, Option, Some, refl, sym, ap, ◌∙◌, subst, inl, inr, arith, length-append}
use Rattle.std.specs.Prelude.{◌⊎◌, IfSome}
use Rattle.std.specs.List.{flat_map}
use Rattle.std.specs.Option.{option_map}
use Rattle.std.proofs.lemmas.List.{append-nil}
use Rattle.std.proofs.lemmas.Option.{none-some, same_Some}
use Rattle.ftn_base.specs.Files.{File, IsInOrder}
use Rattle.ftn_base.specs.declared.status.Status.{Status}
use Rattle.ftn_base.specs.declared.status.Status.TheVariants as status
use Rattle.plan_file.proofs.Rows.{opening, plan_spelled}
use Rattle.plan_file.proofs.Sizes.{opening_short}
use Rattle.plan_file.specs.Fields.{MayBegin, IsTextOf, NoProperFront}
use Rattle.plan_file.specs.Plans.{IsPlan, count_field, ending, entry, plan_text, title}
use Rattle.plan_file.specs.declared.plan.Plan.{Plan}
use Rattle.plan_store.proofs.Amid.{done_told, part_told}
use Rattle.plan_store.specs.Found.{HasPlanText, IsFound, most_plan_bytes}
use Rattle.plan_store.specs.Middle.{HasNoPlan, IsAmid, IsChange}
use Rattle.plan_store.specs.declared.finding.Found.{Found}
use Rattle.plan_store.specs.declared.finding.Found.TheVariants as founds
use Rattle.plan_store.specs.steps.Puts.{Finishes, finished}
use Rattle.ftn_tool.specs.Forces.{Forced}
use Rattle.ftn_tool.specs.Lines.{store_fault_line}
use Rattle.ftn_tool.specs.Recovering.{Completes, Recovered, Recovers, due_line, due_status}
use Rattle.ftn_tool.specs.Seen.{HasRisen, HasTaken, HasTakenFront, KeepsFiles, Says, Seen, see}
use Rattle.ftn_tool.specs.steps.Carrying.{CarriesFound, IsFinished}
use Rattle.ftn_tool.proofs.Applying.{Change, Line, always, at_told, both_told, line_cases, line_forced, put_cases, put_forced, put_kept, puts_since, said_since}

-- ---- what is found has one answer

plan_or_none : {A : Type 0} (files : List File) (text : List ℕ) → HasPlanText files text → HasNoPlan files → A
plan_or_none files text some none = absurd (none-some text (sym none ∙ some))

one_text : (files : List File) (one other : List ℕ) → HasPlanText files one → HasPlanText files other → one ≡ other
one_text files one other is also = same_Some one other (sym is ∙ also)

long_or_short : {A : Type 0} (files : List File) (one other : List ℕ) → HasPlanText files one → HasPlanText files other → most_plan_bytes < length one → length other ≤ most_plan_bytes → A
long_or_short files one other is also long short = absurd (omega (arith, long, short, ap length (one_text files one other is also)))

plan_or_broken : {A : Type 0} (files plan : List File) (one other : List ℕ) → HasPlanText files one → HasPlanText files other → ((others : List File) → IsTextOf others one → ⊥) → IsTextOf plan other → A
plan_or_broken files plan one other is also none text = absurd (none plan (subst (λ (t : List ℕ). IsTextOf plan t) (one_text files other one also is) text))

found_status : (files : List File) (one other : Found) → IsFound files one → IsFound files other → due_status one ≡ due_status other
found_status files founds.Nothing founds.Nothing is also = refl
found_status files founds.Nothing founds.TooLong is also = plan_or_none files also.0 also.1 is
found_status files founds.Nothing (founds.Broken at) is also = plan_or_none files also.0 also.1 is
found_status files founds.Nothing (founds.Planned plan) is also = refl
found_status files founds.TooLong founds.Nothing is also = plan_or_none files is.0 is.1 also
found_status files founds.TooLong founds.TooLong is also = refl
found_status files founds.TooLong (founds.Broken at) is also = long_or_short files is.0 also.0 is.1 also.1 is.2 also.2
found_status files founds.TooLong (founds.Planned plan) is also = long_or_short files is.0 also.0 is.1 also.1 is.2 also.2
found_status files (founds.Broken at) founds.Nothing is also = plan_or_none files is.0 is.1 also
found_status files (founds.Broken at) founds.TooLong is also = long_or_short files also.0 is.0 also.1 is.1 also.2 is.2
found_status files (founds.Broken at) (founds.Broken other) is also = refl
found_status files (founds.Broken at) (founds.Planned plan) is also = plan_or_broken files plan.files is.0 also.0 is.1 also.1 is.3.0 also.3
found_status files (founds.Planned plan) founds.Nothing is also = refl
found_status files (founds.Planned plan) founds.TooLong is also = long_or_short files also.0 is.0 also.1 is.1 also.2 is.2
found_status files (founds.Planned plan) (founds.Broken at) is also = plan_or_broken files plan.files also.0 is.0 also.1 is.1 also.3.0 is.3
found_status files (founds.Planned plan) (founds.Planned other) is also = refl

-- ---- the text of a plan isn't too long

text_fits : (plan : List File) → IsPlan plan → length (plan_text plan) ≤ most_plan_bytes
text_fits plan valid =
    let begun : MayBegin (length plan) plan = record { some = valid.some; few = valid.few; within = omega arith; planned = valid.planned; in_order = valid.in_order; small = valid.small } in
    let front : length (opening (length plan) plan) ≤ 20000000 = opening_short (length plan) plan begun in
    let spelled : length (plan_text plan) ≡ length (title ++ (count_field (length plan) ++ (flat_map entry plan ++ ending))) = ap length (plan_spelled plan) in
    omega (
      arith,
      front,
      spelled,
      length-append title (count_field (length plan) ++ (flat_map entry plan ++ ending)),
      length-append (count_field (length plan)) (flat_map entry plan ++ ending),
      length-append (flat_map entry plan) ending,
      length-append title (count_field (length plan) ++ flat_map entry plan),
      length-append (count_field (length plan)) (flat_map entry plan),
    )

-- ---- amid a change its plan is found

same_plan : NoProperFront → (one other : List File) → IsPlan one → IsPlan other → plan_text one ≡ plan_text other → one ≡ other
same_plan law one other valid also is = (law other one [] also valid (is ∙ sym (append-nil (plan_text other)))).0

module _ (files plan now : List File) (change : IsChange files plan) (amid : IsAmid files plan now) where
  amid_plan : NoProperFront → (found : Plan) → IsFound now (founds.Planned found) → found.files ≡ plan
  amid_plan law found is = same_plan law found.files plan is.3.0 change.valid (is.3.1 ∙ one_text now is.0 (plan_text plan) is.1 amid.planned)

  amid_done : (found : Found) → IsFound now found → due_status found ≡ status.Done
  amid_done founds.Nothing is = refl
  amid_done founds.TooLong is = long_or_short now is.0 (plan_text plan) is.1 amid.planned is.2 (text_fits plan change.valid)
  amid_done (founds.Broken at) is = plan_or_broken now plan is.0 (plan_text plan) is.1 amid.planned is.3.0 (change.valid, refl)
  amid_done (founds.Planned found) is = refl

  -- ---- what a recovery leaves amid a change

  module _ (seen : Seen) (told : seen.files.before ≡ Some now) where
    kept_completes : (answer : Status) → answer ≢ status.Done → KeepsFiles seen → Completes files plan seen answer
    kept_completes status.Done other same = absurd (other refl)
    kept_completes status.StoreFault other same = (now, same ∙ told, inl amid)
    kept_completes status.Refused other same = same
    kept_completes status.BadWords other same = same
    kept_completes status.BadProject other same = same
    kept_completes status.Limit other same = same
    kept_completes status.InputFault other same = same
    kept_completes status.OutputFault other same = same
    kept_completes status.NoMemory other same = same
    kept_completes status.ProgramFaulted other same = same
    kept_completes status.StepsSpent other same = same
    kept_completes status.Pending other same = same

    put_completes : IsInOrder now → (line : List ℕ) (answer : Status) → Change seen line (IsFinished plan) (Finishes plan) answer → Completes files plan seen answer
    put_completes ordered line answer (inl made) =
        subst (λ (a : Status). Completes files plan seen a) (sym made.0) (done_told files plan change now ordered amid seen.files.before seen.files.after told made.1)
    put_completes ordered line answer (inr (inl made)) =
        subst (λ (a : Status). Completes files plan seen a) (sym made.0) (part_told files plan change now ordered amid seen.files.before seen.files.after told made.2)
    put_completes ordered line answer (inr (inr (inl made))) = subst (λ (a : Status). Completes files plan seen a) (sym made.0) made.2
    put_completes ordered line answer (inr (inr (inr made))) = subst (λ (a : Status). Completes files plan seen a) (sym made.0) made.1

    limit_not_done : (answer due : Status) → answer ≡ due → (due ≡ status.Done → ⊥) → answer ≢ status.Done
    limit_not_done answer due is other e = other (sym is ∙ e)

    completes_change : NoProperFront → IsInOrder now → (found : Found) (line : List ℕ) (answer : Status) → IsFound now found → CarriesFound line found seen answer → Completes files plan seen answer
    completes_change law ordered founds.Nothing line answer is carried = plan_or_none now (plan_text plan) amid.planned is
    completes_change law ordered founds.TooLong line answer is carried = kept_completes answer (limit_not_done answer status.Limit carried.answer_is (λ e. absurd cc)) carried.files
    completes_change law ordered (founds.Broken at) line answer is carried = kept_completes answer (limit_not_done answer status.BadProject carried.answer_is (λ e. absurd cc)) carried.files
    completes_change law ordered (founds.Planned found) line answer is carried =
        put_completes ordered line answer
        (subst (λ (p : List File). Change seen line (IsFinished p) (Finishes p) answer) (amid_plan law found is) (put_cases seen line (IsFinished found.files) (Finishes found.files) answer carried))

-- ---- over a store that tells its files

module _ (files : List File) (seen : Seen) (told : seen.files.before ≡ Some files) where
  line_answered : (answer : Status) → IsFound files founds.Nothing → (line : List ℕ) → line ≡ due_line founds.Nothing → KeepsFiles seen → Line seen line answer → Recovered files seen answer
  line_answered answer due line is kept (inl made) =
      subst (λ (a : Status). Recovered files seen a) (sym made.0)
      (record { found = founds.Nothing; accepted = record { due = due; done = refl }; files_after = kept ∙ told; said = subst (λ (l : List ℕ). HasTaken seen l) is made.1 })
  line_answered answer due line is kept (inr (inl made)) =
      subst (λ (a : Status). Recovered files seen a) (sym made.0)
      (record { found = founds.Nothing; accepted = record { due = due; done = refl }; said = subst (λ (l : List ℕ). HasTakenFront seen l) is made.2 })
  line_answered answer due line is kept (inr (inr made)) =
      subst (λ (a : Status). Recovered files seen a) (sym made.0)
      (inr (record { found = founds.Nothing; accepted = record { due = due; done = refl }; said = subst (λ (l : List ℕ). HasTakenFront seen l) is made.1 }))

  put_answered : (plan : Plan) (answer : Status) → IsFound files (founds.Planned plan) → (line : List ℕ) → line ≡ due_line (founds.Planned plan)
      → Change seen line (IsFinished plan.files) (Finishes plan.files) answer → Recovered files seen answer
  put_answered plan answer due line is (inl made) =
      subst (λ (a : Status). Recovered files seen a) (sym made.0)
      (record {
        found = founds.Planned plan;
        accepted = record { due = due; done = refl };
        files_after = made.1 ∙ ap (option_map (finished plan.files)) told;
        said = subst (λ (l : List ℕ). HasTaken seen l) is made.2;
      })
  put_answered plan answer due line is (inr (inl made)) =
      subst (λ (a : Status). Recovered files seen a) (sym made.0)
      (inr (record { plan = plan; due = due; said = subst (λ (l : List ℕ). Says seen (l ++ store_fault_line)) is made.3 }))
  put_answered plan answer due line is (inr (inr (inl made))) =
      subst (λ (a : Status). Recovered files seen a) (sym made.0)
      (record { found = founds.Planned plan; accepted = record { due = due; done = refl }; said = subst (λ (l : List ℕ). HasTakenFront seen l) is made.3 })
  put_answered plan answer due line is (inr (inr (inr made))) =
      subst (λ (a : Status). Recovered files seen a) (sym made.0)
      (inr (record { found = founds.Planned plan; accepted = record { due = due; done = refl }; said = subst (λ (l : List ℕ). HasTakenFront seen l) is made.2 }))

  answered : (found : Found) (answer : Status) → IsFound files found → (line : List ℕ) → line ≡ due_line found → CarriesFound line found seen answer → Recovered files seen answer
  answered founds.Nothing answer due line is carried = line_answered answer due line is carried.0 (line_cases seen line answer carried.1)
  answered founds.TooLong answer due line is carried =
      subst (λ (a : Status). Recovered files seen a) (sym carried.answer_is)
      (record { found = founds.TooLong; due = due; status_is = refl; said = subst (λ (l : List ℕ). Says seen l) is carried.said })
  answered (founds.Broken at) answer due line is carried =
      subst (λ (a : Status). Recovered files seen a) (sym carried.answer_is)
      (record { found = founds.Broken at; due = due; status_is = refl; said = subst (λ (l : List ℕ). Says seen l) is carried.said })
  answered (founds.Planned plan) answer due line is carried = put_answered plan answer due line is (put_cases seen line (IsFinished plan.files) (Finishes plan.files) answer carried)

  -- without a plan file nothing changes
  none_kept : (found : Found) (line : List ℕ) (answer : Status) → IsFound files found → CarriesFound line found seen answer → HasNoPlan files → KeepsFiles seen
  none_kept founds.Nothing line answer is carried none = carried.0
  none_kept founds.TooLong line answer is carried none = carried.files
  none_kept (founds.Broken at) line answer is carried none = carried.files
  none_kept (founds.Planned plan) line answer is carried none = plan_or_none files is.0 is.1 none

-- ---- over every store

module _ (seen : Seen) (line : List ℕ) where
  due_or_forced : (found : Found) (answer : Status) → CarriesFound line found seen answer → (answer ≡ due_status found) ⊎ Forced seen answer
  due_or_forced founds.Nothing answer carried = line_forced seen line answer (line_cases seen line answer carried.1)
  due_or_forced founds.TooLong answer carried = inl carried.answer_is
  due_or_forced (founds.Broken at) answer carried = inl carried.answer_is
  due_or_forced (founds.Planned plan) answer carried = put_forced seen line (IsFinished plan.files) (Finishes plan.files) answer (put_cases seen line (IsFinished plan.files) (Finishes plan.files) answer carried)

  leaves : (found : Found) (answer : Status) → CarriesFound line found seen answer → answer ≢ status.Done → answer ≢ status.StoreFault → KeepsFiles seen
  leaves founds.Nothing answer carried other also = carried.0
  leaves founds.TooLong answer carried other also = carried.files
  leaves (founds.Broken at) answer carried other also = carried.files
  leaves (founds.Planned plan) answer carried other also =
      put_kept seen line (IsFinished plan.files) (Finishes plan.files) answer (put_cases seen line (IsFinished plan.files) (Finishes plan.files) answer carried) other also

no_store_fault : (found : Found) → due_status found ≡ status.StoreFault → ⊥
no_store_fault founds.Nothing e = absurd cc
no_store_fault founds.TooLong e = absurd cc
no_store_fault (founds.Broken at) e = absurd cc
no_store_fault (founds.Planned plan) e = absurd cc

no_output_fault : (found : Found) → due_status found ≡ status.OutputFault → ⊥
no_output_fault founds.Nothing e = absurd cc
no_output_fault founds.TooLong e = absurd cc
no_output_fault (founds.Broken at) e = absurd cc
no_output_fault (founds.Planned plan) e = absurd cc

forced_store : (seen : Seen) (found : Found) (answer : Status) → (answer ≡ due_status found) ⊎ Forced seen answer → answer ≡ status.StoreFault → HasRisen seen.store
forced_store seen found answer (inl is) fault = absurd (no_store_fault found (sym is ∙ fault))
forced_store seen found answer (inr forced) fault = subst (λ (a : Status). Forced seen a) fault forced

forced_sink : (seen : Seen) (found : Found) (answer : Status) → (answer ≡ due_status found) ⊎ Forced seen answer → answer ≡ status.OutputFault → HasRisen seen.sink
forced_sink seen found answer (inl is) fault = absurd (no_output_fault found (sym is ∙ fault))
forced_sink seen found answer (inr forced) fault = subst (λ (a : Status). Forced seen a) fault forced

due_instead : (seen : Seen) (answer due other : Status) → due ≡ other → (answer ≡ due) ⊎ Forced seen answer → (answer ≡ other) ⊎ Forced seen answer
due_instead seen answer due other same (inl is) = inl (is ∙ same)
due_instead seen answer due other same (inr forced) = inr forced

-- ---- the answers of a recovery

-- what is found and was carried out is what is promised
pub recovers : NoProperFront → (seen : Seen) (answer : Status) (found : Found) (line : List ℕ) → line ≡ due_line found → IfSome seen.files.before (λ files. IsFound files found)
    → IfSome seen.files.before IsInOrder → CarriesFound line found seen answer → Recovers seen answer
recovers law seen answer found line is_line is in_order carried =
    let P : List File → Type 0 = λ files. IsFound files found in
    let forced = due_or_forced seen line found answer carried in
    record {
      answered = at_told seen.files.before P (λ files. Recovered files seen answer) (λ files told found_is. answered files seen told found answer found_is line is_line carried) is;
      due = at_told seen.files.before P (λ files. (other : Found) → IsFound files other → (answer ≡ due_status other) ⊎ Forced seen answer)
          (λ files told found_is other also. due_instead seen answer (due_status found) (due_status other) (found_status files found other found_is also) forced) is;
      change = at_told seen.files.before (λ files. P files × IsInOrder files) (λ now. (files plan : List File) → IsChange files plan → IsAmid files plan now → Completes files plan seen answer)
          (λ now told known files plan changes amid. completes_change files plan now changes amid seen told law known.1 found line answer known.0 carried) (both_told seen.files.before P IsInOrder is in_order);
      completes = at_told seen.files.before P (λ now. (files plan : List File) → IsChange files plan → IsAmid files plan now → (answer ≡ status.Done) ⊎ Forced seen answer)
          (λ now told found_is files plan changes amid. due_instead seen answer (due_status found) status.Done (amid_done files plan now changes amid found found_is) forced) is;
      none = at_told seen.files.before P (λ files. HasNoPlan files → KeepsFiles seen) (λ files told found_is no_plan. none_kept files seen told found line answer found_is carried no_plan) is;
      files = leaves seen line found answer carried;
      store_fault = forced_store seen found answer forced;
      output_fault = forced_sink seen found answer forced;
    }

-- an answer that is forced before anything was found, and that changes nothing
forced_early : (seen : Seen) (answer : Status) → Forced seen answer → answer ≢ status.Done → KeepsFiles seen → ((files : List File) → Recovered files seen answer)
    → (answer ≡ status.StoreFault → HasRisen seen.store) → (answer ≡ status.OutputFault → HasRisen seen.sink) → Recovers seen answer
forced_early seen answer forced other same answers store sink = record {
  answered = always seen.files.before (λ files. Recovered files seen answer) answers;
  due = always seen.files.before (λ files. (found : Found) → IsFound files found → (answer ≡ due_status found) ⊎ Forced seen answer) (λ files found is. inr forced);
  change = at_told seen.files.before (λ files. Unit {0}) (λ now. (files plan : List File) → IsChange files plan → IsAmid files plan now → Completes files plan seen answer)
      (λ now told known files plan changes amid. kept_completes files plan now changes amid seen told answer other same) (always seen.files.before (λ files. Unit {0}) (λ files. tt));
  completes = always seen.files.before (λ now. (files plan : List File) → IsChange files plan → IsAmid files plan now → (answer ≡ status.Done) ⊎ Forced seen answer) (λ now files plan changes amid. inr forced);
  none = always seen.files.before (λ files. HasNoPlan files → KeepsFiles seen) (λ files no_plan. same);
  files = λ one two. same;
  store_fault = store;
  output_fault = sink;
}

pub recovers_store_fault : (seen : Seen) → KeepsFiles seen → HasRisen seen.store → Says seen store_fault_line → Recovers seen status.StoreFault
recovers_store_fault seen same risen said = forced_early seen status.StoreFault risen (λ e. absurd cc) same (λ files. inl (same, said)) (λ e. risen) (λ e. absurd cc)

pub recovers_no_memory : (seen : Seen) → KeepsFiles seen → seen.taken.after ≡ seen.taken.before → Recovers seen status.NoMemory
recovers_no_memory seen same silent = forced_early seen status.NoMemory tt (λ e. absurd cc) same (λ files. inl silent) (λ e. absurd cc) (λ e. absurd cc)

-- ---- a reading of a store before what was found was carried out

pub found_since : (line : List ℕ) (found : Found) (files mid after : Option (List File)) (taken took : Option (List ℕ)) (s m e k l w v : ℕ) (answer : Status) → mid ≡ files → s ≤ m
    → CarriesFound line found (see mid after taken took m e k l w v) answer → CarriesFound line found (see files after taken took s e k l w v) answer
found_since line founds.Nothing files mid after taken took s m e k l w v answer same later carried = (carried.0 ∙ same, carried.1)
found_since line founds.TooLong files mid after taken took s m e k l w v answer same later carried = said_since line _ files mid after taken took s m e k l w v answer same carried
found_since line (founds.Broken at) files mid after taken took s m e k l w v answer same later carried = said_since line _ files mid after taken took s m e k l w v answer same carried
found_since line (founds.Planned plan) files mid after taken took s m e k l w v answer same later carried =
    puts_since line (IsFinished plan.files) (Finishes plan.files) files mid after taken took s m e k l w v answer same later carried
