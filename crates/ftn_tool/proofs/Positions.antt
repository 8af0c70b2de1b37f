-- Reading words one after the other finds the command, or the least position with which differs command begins.
use Rattle.std.proofs.Common.{◌≡◌, ℕ, ◌+◌, ◌≤◌, Bool, true, false, cond, List, [], ◌∷◌, Option, Some, None, refl, sym, subst, arith}
use Rattle.std.specs.Prelude.{codes, length, slice_get, Result, Ok, Err}
use Rattle.std.specs.List.{find}
use Rattle.std.proofs.lemmas.Bool.{cond_both}
use Rattle.std.proofs.lemmas.Slice.Eq.{bytes_eq-Decides}
use Rattle.ftn_base.specs.declared.name.Edition.{Edition}
use Rattle.ftn_tool.specs.declared.command.Command.{Command}
use Rattle.ftn_tool.specs.declared.command.Command.TheVariants.{Project, Recover}
use Rattle.ftn_tool.specs.declared.command.ProjectCommand.TheVariants.{Ask}
use Rattle.ftn_tool.specs.declared.command.Request.TheVariants.{Check}
use Rattle.ftn_tool.specs.Words.{Row, Word, commands, is_begun, is_count_word, is_file_word, is_plain_word, is_text, is_whole, least_bad}
use Rattle.ftn_tool.specs.steps.Reading.{◌>>=◌, counted, ended, is_word, read, read_apply, tested}

-- ---- without an edition

-- what words mean that name differs edition
abbrev pub meant_plain : Edition → List Word → Option Row → Result Command ℕ
meant_plain edition words (Some row) = Ok (row.1 edition words)
meant_plain edition words None = Err (least_bad is_begun (length words) 1 words)

abbrev pub plain_command : Edition → List Word → Result Command ℕ
plain_command edition words = meant_plain edition words (find (is_whole words) commands)

abbrev Agree : Edition → List Word → Type 0
Agree edition words = read edition words ≡ plain_command edition words

check_first : (edition : Edition) (rest : List Word) → Agree edition (codes "check" ∷ rest)
check_first edition [] = refl
check_first edition (b ∷ more) = refl

recover_first : (edition : Edition) (rest : List Word) → Agree edition (codes "recover" ∷ rest)
recover_first edition [] = refl
recover_first edition (b ∷ more) = refl

one : (edition : Edition) (a : Word) (p : Bool) → is_text (codes "check") a ≡ false → is_text (codes "recover") a ≡ false
    → is_text (codes "apply") a ≡ p
    → Agree edition (a ∷ [])
one edition a false differs apart ea = simp (differs, apart, ea) refl
one edition a true differs apart ea = simp (differs, apart, ea) refl

two : (edition : Edition) (a b : Word) (p q : Bool) → is_text (codes "check") a ≡ false → is_text (codes "recover") a ≡ false
    → is_text (codes "apply") a ≡ p → is_text (codes "rename") b ≡ q
    → Agree edition (a ∷ b ∷ [])
two edition a b false q differs apart ea eb = simp (differs, apart, ea) refl
two edition a b true false differs apart ea eb = simp (differs, apart, ea, eb) refl
two edition a b true true differs apart ea eb = simp (differs, apart, ea, eb) refl

three : (edition : Edition) (a b c : Word) (p q r : Bool) → is_text (codes "check") a ≡ false → is_text (codes "recover") a ≡ false
    → is_text (codes "apply") a ≡ p → is_text (codes "rename") b ≡ q → is_file_word c ≡ r
    → Agree edition (a ∷ b ∷ c ∷ [])
three edition a b c false q r differs apart ea eb ec = simp (differs, apart, ea) refl
three edition a b c true false r differs apart ea eb ec = simp (differs, apart, ea, eb) refl
three edition a b c true true false differs apart ea eb ec = simp (differs, apart, ea, eb, ec) refl
three edition a b c true true true differs apart ea eb ec = simp (differs, apart, ea, eb, ec) refl

four : (edition : Edition) (a b c d : Word) (p q r s : Bool) → is_text (codes "check") a ≡ false → is_text (codes "recover") a ≡ false
    → is_text (codes "apply") a ≡ p → is_text (codes "rename") b ≡ q → is_file_word c ≡ r → is_count_word d ≡ s
    → Agree edition (a ∷ b ∷ c ∷ d ∷ [])
four edition a b c d false q r s differs apart ea eb ec ed = simp (differs, apart, ea) refl
four edition a b c d true false r s differs apart ea eb ec ed = simp (differs, apart, ea, eb) refl
four edition a b c d true true false s differs apart ea eb ec ed = simp (differs, apart, ea, eb, ec) refl
four edition a b c d true true true false differs apart ea eb ec ed = simp (differs, apart, ea, eb, ec, ed) refl
four edition a b c d true true true true differs apart ea eb ec ed = simp (differs, apart, ea, eb, ec, ed) refl

five : (edition : Edition) (a b c d e : Word) (p q r s t : Bool) → is_text (codes "check") a ≡ false → is_text (codes "recover") a ≡ false
    → is_text (codes "apply") a ≡ p → is_text (codes "rename") b ≡ q → is_file_word c ≡ r → is_count_word d ≡ s → is_count_word e ≡ t
    → Agree edition (a ∷ b ∷ c ∷ d ∷ e ∷ [])
five edition a b c d e false q r s t differs apart ea eb ec ed ee = simp (differs, apart, ea) refl
five edition a b c d e true false r s t differs apart ea eb ec ed ee = simp (differs, apart, ea, eb) refl
five edition a b c d e true true false s t differs apart ea eb ec ed ee = simp (differs, apart, ea, eb, ec) refl
five edition a b c d e true true true false t differs apart ea eb ec ed ee = simp (differs, apart, ea, eb, ec, ed) refl
five edition a b c d e true true true true false differs apart ea eb ec ed ee = simp (differs, apart, ea, eb, ec, ed, ee) refl
five edition a b c d e true true true true true differs apart ea eb ec ed ee = simp (differs, apart, ea, eb, ec, ed, ee) refl

six : (edition : Edition) (a b c d e f : Word) (more : List Word) (p q r s t u : Bool) → is_text (codes "check") a ≡ false → is_text (codes "recover") a ≡ false
    → is_text (codes "apply") a ≡ p → is_text (codes "rename") b ≡ q → is_file_word c ≡ r → is_count_word d ≡ s → is_count_word e ≡ t → is_plain_word f ≡ u
    → Agree edition (a ∷ b ∷ c ∷ d ∷ e ∷ f ∷ more)
six edition a b c d e f more false q r s t u differs apart ea eb ec ed ee ef = simp (differs, apart, ea) refl
six edition a b c d e f more true false r s t u differs apart ea eb ec ed ee ef = simp (differs, apart, ea, eb) refl
six edition a b c d e f more true true false s t u differs apart ea eb ec ed ee ef = simp (differs, apart, ea, eb, ec) refl
six edition a b c d e f more true true true false t u differs apart ea eb ec ed ee ef = simp (differs, apart, ea, eb, ec, ed) refl
six edition a b c d e f more true true true true false u differs apart ea eb ec ed ee ef = simp (differs, apart, ea, eb, ec, ed, ee) refl
six edition a b c d e f more true true true true true false differs apart ea eb ec ed ee ef = simp (differs, apart, ea, eb, ec, ed, ee, ef) refl
six edition a b c d e f [] true true true true true true differs apart ea eb ec ed ee ef = simp (differs, apart, ea, eb, ec, ed, ee, ef) refl
six edition a b c d e f (g ∷ rest) true true true true true true differs apart ea eb ec ed ee ef = simp (differs, apart, ea, eb, ec, ed, ee, ef) refl

-- where the first word is neither `check` nor `recover`
other_first : (edition : Edition) (a : Word) (rest : List Word) → is_text (codes "check") a ≡ false → is_text (codes "recover") a ≡ false → Agree edition (a ∷ rest)
other_first edition a [] differs apart = one edition a _ differs apart refl
other_first edition a (b ∷ []) differs apart = two edition a b _ _ differs apart refl refl
other_first edition a (b ∷ c ∷ []) differs apart = three edition a b c _ _ _ differs apart refl refl refl
other_first edition a (b ∷ c ∷ d ∷ []) differs apart = four edition a b c d _ _ _ _ differs apart refl refl refl refl
other_first edition a (b ∷ c ∷ d ∷ e ∷ []) differs apart = five edition a b c d e _ _ _ _ _ differs apart refl refl refl refl refl
other_first edition a (b ∷ c ∷ d ∷ e ∷ f ∷ more) differs apart = six edition a b c d e f more _ _ _ _ _ _ differs apart refl refl refl refl refl refl

pub read_is_plain_command : (edition : Edition) (words : List Word) → read edition words ≡ plain_command edition words
read_is_plain_command edition [] = refl
read_is_plain_command edition (a ∷ rest) = on (is_text (codes "check") a) (is_text (codes "recover") a) refl refl
  where
    on : (b c : Bool) → is_text (codes "check") a ≡ b → is_text (codes "recover") a ≡ c → Agree edition (a ∷ rest)
    on true c is other = subst (λ (w : Word). Agree edition (w ∷ rest)) (sym ((bytes_eq-Decides a (codes "check")).0 is)) (check_first edition rest)
    on false true differs is = subst (λ (w : Word). Agree edition (w ∷ rest)) (sym ((bytes_eq-Decides a (codes "recover")).0 is)) (recover_first edition rest)
    on false false differs apart = other_first edition a rest differs apart

-- ---- positions are small

abbrev Few : {A : Type 0} → Result A ℕ → Type 0
Few reading = (k : ℕ) → reading ≡ Err k → k ≤ 7

ok_few : {A : Type 0} (x : A) → Few (Ok x)
ok_few x k e = absurd cc

err_is : {A : Type 0} (n k : ℕ) → ◌≡◌ {A = Result A ℕ} (Err n) (Err k) → n ≡ k
err_is n k e = cc

err_few : {A : Type 0} (n : ℕ) → n ≤ 7 → Few {A = A} (Err n)
err_few {A = A} n few k e = subst (λ (m : ℕ). m ≤ 7) (err_is {A = A} n k e) few

then_few : {A B : Type 0} (reading : Result A ℕ) (more : A → Result B ℕ) → Few reading → ((x : A) → Few (more x)) → Few (reading >>= more)
then_few (Ok x) more few next = next x
then_few {A = A} {B = B} (Err n) more few next = err_few {A = B} n (few n refl)

tested_few : (test : Word → Bool) (at : ℕ) (word : Option Word) → at ≤ 6 → Few (tested test at word)
tested_few test at None small = err_few {A = Word} (at + 1) (omega (arith, small))
tested_few test at (Some word) small = cond_both (test word) _ _ (λ (r : Result Word ℕ). Few r) (λ e. ok_few word) (λ e. err_few {A = Word} (at + 1) (omega (arith, small)))

ended_few : (at : ℕ) (word : Option Word) → at ≤ 6 → Few (ended at word)
ended_few at None small = ok_few {A = Word} []
ended_few at (Some word) small = err_few {A = Word} (at + 1) (omega (arith, small))

counted_few : (at : ℕ) (word : Option Word) → at ≤ 6 → Few (counted at word)
counted_few at word small = then_few (tested is_count_word at word) _ (tested_few is_count_word at word small) (λ text. ok_few _)

apply_few : (edition : Edition) (words : List Word) → Few (read_apply edition words)
apply_few edition words =
    then_few _ _ (tested_few (is_text (codes "apply")) 0 (slice_get words 0) (omega arith)) (λ a.
    then_few _ _ (tested_few (is_text (codes "rename")) 1 (slice_get words 1) (omega arith)) (λ r.
    then_few _ _ (tested_few is_file_word 2 (slice_get words 2) (omega arith)) (λ file.
    then_few _ _ (counted_few 3 (slice_get words 3) (omega arith)) (λ line.
    then_few _ _ (counted_few 4 (slice_get words 4) (omega arith)) (λ column.
    then_few _ _ (tested_few is_plain_word 5 (slice_get words 5) (omega arith)) (λ new.
    then_few _ _ (ended_few 6 (slice_get words 6) (omega arith)) (λ no_more. ok_few _)))))))

pub few_positions : (edition : Edition) (words : List Word) (k : ℕ) → read edition words ≡ Err k → k ≤ 7
few_positions edition words =
    cond_both (is_word (codes "check") (slice_get words 0)) (ended 1 (slice_get words 1) >>= (λ no_more. Ok (Project (Ask Check edition)))) others (λ (r : Result Command ℕ). Few r)
    (λ e. then_few _ _ (ended_few 1 (slice_get words 1) (omega arith)) (λ no_more. ok_few _))
    (λ e.
    cond_both (is_word (codes "recover") (slice_get words 0)) (ended 1 (slice_get words 1) >>= (λ no_more. Ok Recover)) (read_apply edition words) (λ (r : Result Command ℕ). Few r)
    (λ e. then_few _ _ (ended_few 1 (slice_get words 1) (omega arith)) (λ no_more. ok_few _))
    (λ e. apply_few edition words))
  where
    others : Result Command ℕ
    others = cond (is_word (codes "recover") (slice_get words 0)) (ended 1 (slice_get words 1) >>= (λ no_more. Ok Recover)) (read_apply edition words)
