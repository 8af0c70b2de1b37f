-- Rows of fields that stand in front of the same bytes.
use Rattle.std.proofs.Common.{◌≡◌, ℕ, ◌+◌, ◌*◌, ◌<◌, ◌≤◌, Bool, true, false, if◌then◌else◌, suc, zero, List, [], ◌∷◌, ◌++◌, length, take, get_or, ◌⊎◌, inl, inr, refl, sym, ap, ◌∙◌, arith}
use Rattle.std.specs.List.{concat, flat_map, list_all}
use Rattle.std.proofs.lemmas.Bool.{and_parts}
use Rattle.std.proofs.lemmas.List.{append_assoc, append_cancel_left, append-nil, length-append, nil_from_length, take_at}
use Rattle.ftn_base.specs.Files.{File}
use Rattle.plan_file.specs.Plans.{is_planned, title, count_field, file_field, text_field, entry, ending, plan_text}
use Rattle.plan_file.specs.Fields.{fields_of, MayBegin, IsTextOf, NoProperFront}
use Rattle.plan_file.proofs.Order.{Planned, planned_is}
use Rattle.plan_file.proofs.Words.{counts_apart, files_apart, SameFields, name_lacks}

-- the last field, if it is there
abbrev pub end_if : Bool → List (List ℕ)
end_if there = if there then ending ∷ [] else []

pub texts_apart : (text other xs ys : List ℕ) → length text ≡ length other → text_field text ++ xs ≡ text_field other ++ ys → (text ≡ other) × (xs ≡ ys)
texts_apart text other xs ys long is =
    let spelled : text ++ 10 ∷ xs ≡ other ++ 10 ∷ ys = sym (append_assoc text (10 ∷ []) xs) ∙ is ∙ append_assoc other (10 ∷ []) ys in
    let same : text ≡ other = sym (take_at text (10 ∷ xs) (length text) refl) ∙ ap (take (length text)) spelled ∙ take_at other (10 ∷ ys) (length text) (sym long) in
    let rest : 10 ∷ xs ≡ 10 ∷ ys = append_cancel_left other (10 ∷ xs) (10 ∷ ys) (ap (λ (w : List ℕ). w ++ 10 ∷ xs) (sym same) ∙ spelled) in
    (same, cc)

-- two files whose fields stand in front of the same bytes have one length and name
same_file : (f g : File) (fs : List File) (rest row after : List ℕ) → Planned f → Planned g → flat_map entry (f ∷ fs) ++ rest ≡ (file_field (length g.1) g.0 ++ row) ++ after
    → SameFields (length f.1) (length g.1) f.0 g.0 (text_field f.1 ++ (flat_map entry fs ++ rest)) (row ++ after)
same_file f g fs rest row after f_is g_is is =
    let f_short = f_is.short in
    let g_short = g_is.short in
    let spelled : file_field (length f.1) f.0 ++ (text_field f.1 ++ (flat_map entry fs ++ rest)) ≡ file_field (length g.1) g.0 ++ (row ++ after)
    = sym (append_assoc (file_field (length f.1) f.0) (text_field f.1) (flat_map entry fs ++ rest)) ∙ sym (append_assoc (entry f) (flat_map entry fs) rest) ∙ is ∙ append_assoc (file_field (length g.1) g.0) row after in
    files_apart (length f.1) (length g.1) f.0 g.0 (text_field f.1 ++ (flat_map entry fs ++ rest)) (row ++ after) (omega arith) (omega arith) (name_lacks 10 f.0 (omega arith) f_is.valid) (name_lacks 10 g.0 (omega arith) g_is.valid) spelled

-- a row ends within the fields of these files
pub record Behind (files others : List File) (many : ℕ) (row : List ℕ) : Type 0 where
  pub short : length row ≤ length (flat_map entry files)
  pub less : (many ≤ 2 * length files) ⊎ (length others < length files)

-- a row goes on after the fields of these files
pub record Beyond (there : Bool) (files others : List File) (rest : List ℕ) (many : ℕ) (row after : List ℕ) : Type 0 where
  pub more : List File
  pub left : ℕ
  pub whole : others ≡ files ++ more
  pub count : many ≡ 2 * length files + left
  pub front : row ≡ flat_map entry files ++ concat (take left (flat_map fields_of more ++ end_if there))
  pub next : rest ≡ concat (take left (flat_map fields_of more ++ end_if there)) ++ after

abbrev pub row_of : Bool → ℕ → List File → List ℕ
row_of there many others = concat (take many (flat_map fields_of others ++ end_if there))

file_is_no_ending : (size : ℕ) (name xs ys : List ℕ) → file_field size name ++ xs ≡ ending ++ ys → ⊥
file_is_no_ending size name xs ys is = let heads : 102 ≡ 101 = ap (λ (w : List ℕ). get_or w 0 0) is in omega (arith, heads)

module _ (there : Bool) (f g : File) (fs gs : List File) (rest : List ℕ) (many : ℕ) (after : List ℕ) (same : f ≡ g) where
  less_on : (many ≤ 2 * length fs) ⊎ (length gs < length fs) → (suc (suc many) ≤ 2 * length (f ∷ fs)) ⊎ (length (g ∷ gs) < length (f ∷ fs))
  less_on (inl h) = inl (omega arith)
  less_on (inr h) = inr (omega arith)

  further : Behind fs gs many (row_of there many gs) ⊎ Beyond there fs gs rest many (row_of there many gs) after
      → Behind (f ∷ fs) (g ∷ gs) (suc (suc many)) (row_of there (suc (suc many)) (g ∷ gs)) ⊎ Beyond there (f ∷ fs) (g ∷ gs) rest (suc (suc many)) (row_of there (suc (suc many)) (g ∷ gs)) after
  further (inl b) =
      let row : List ℕ = row_of there many gs in
      let sizes : length (file_field (length g.1) g.0 ++ (text_field g.1 ++ row)) ≡ length (entry f) + length row
      = ap length (sym (append_assoc (file_field (length g.1) g.0) (text_field g.1) row)) ∙ length-append (entry g) row ∙ ap (λ (x : File). length (entry x) + length row) (sym same) in
      inl (record { short = omega (arith, sizes, b.short, length-append (entry f) (flat_map entry fs)); less = less_on b.less })
  further (inr b) =
      let tail : List ℕ = concat (take b.left (flat_map fields_of b.more ++ end_if there)) in
      let count = b.count in
      inr (record {
        more = b.more;
        left = b.left;
        whole = λ i. sym same i ∷ b.whole i;
        count = omega arith;
        front = ap (λ (r : List ℕ). file_field (length g.1) g.0 ++ (text_field g.1 ++ r)) b.front
            ∙ sym (append_assoc (file_field (length g.1) g.0) (text_field g.1) (flat_map entry fs ++ tail))
            ∙ sym (append_assoc (entry g) (flat_map entry fs) tail)
            ∙ ap (λ (x : File). (entry x ++ flat_map entry fs) ++ tail) (sym same);
        next = b.next;
      })

pub walk : (there : Bool) (files others : List File) (rest : List ℕ) (many : ℕ) (after : List ℕ) → list_all is_planned files ≡ true → list_all is_planned others ≡ true
    → flat_map entry files ++ rest ≡ row_of there many others ++ after → Behind files others many (row_of there many others) ⊎ Beyond there files others rest many (row_of there many others) after
walk there [] others rest many after first second is = inr (record { more = others; left = many; whole = refl; count = omega arith; front = refl; next = is })
walk there (f ∷ fs) others rest zero after first second is = inl (record { short = omega arith; less = inl (omega arith) })
walk false (f ∷ fs) [] rest (suc many) after first second is = inl (record { short = omega arith; less = inr (omega arith) })
walk true (f ∷ fs) [] rest (suc many) after first second is =
    absurd (file_is_no_ending (length f.1) f.0 (text_field f.1 ++ (flat_map entry fs ++ rest)) (concat (take many []) ++ after)
    (sym (append_assoc (file_field (length f.1) f.0) (text_field f.1) (flat_map entry fs ++ rest)) ∙ sym (append_assoc (entry f) (flat_map entry fs) rest) ∙ is ∙ append_assoc ending (concat (take many [])) after))
walk there (f ∷ fs) (g ∷ gs) rest (suc zero) after first second is =
    let f_is = planned_is f (and_parts (is_planned f) (list_all is_planned fs) first).0 in
    let g_is = planned_is g (and_parts (is_planned g) (list_all is_planned gs) second).0 in
    let same = same_file f g fs rest [] after f_is g_is is in
    let sizes : length (file_field (length g.1) g.0) ≡ length (file_field (length f.1) f.0) = ap length (ap (λ n. file_field n g.0) (sym same.sized) ∙ ap (file_field (length f.1)) (sym same.named)) in
    inl (record {
      short = omega (arith, sizes, length-append (file_field (length g.1) g.0) [], length-append (entry f) (flat_map entry fs), length-append (file_field (length f.1) f.0) (text_field f.1));
      less = inl (omega arith);
    })
walk there (f ∷ fs) (g ∷ gs) rest (suc (suc many)) after first second is =
    let f_parts = and_parts (is_planned f) (list_all is_planned fs) first in
    let g_parts = and_parts (is_planned g) (list_all is_planned gs) second in
    let same = same_file f g fs rest (text_field g.1 ++ row_of there many gs) after (planned_is f f_parts.0) (planned_is g g_parts.0) is in
    let texts = texts_apart f.1 g.1 (flat_map entry fs ++ rest) (row_of there many gs ++ after) same.sized (same.rest ∙ append_assoc (text_field g.1) (row_of there many gs) after) in
    further there f g fs gs rest many after (λ i. (same.named i, texts.0 i)) (walk there fs gs rest many after f_parts.1 g_parts.1 texts.1)

-- the row of all fields of files, and some more
pub all_before : (there : Bool) (files more : List File) (left : ℕ) → row_of there (2 * length files + left) (files ++ more) ≡ flat_map entry files ++ row_of there left more
all_before there [] more left = ap (λ n. row_of there n more) (omega arith)
all_before there (f ∷ fs) more left =
    let many : 2 * length (f ∷ fs) + left ≡ suc (suc (2 * length fs + left)) = omega arith in
    ap (λ n. row_of there n (f ∷ (fs ++ more))) many
    ∙ ap (λ (r : List ℕ). file_field (length f.1) f.0 ++ (text_field f.1 ++ r)) (all_before there fs more left)
    ∙ sym (append_assoc (file_field (length f.1) f.0) (text_field f.1) (flat_map entry fs ++ row_of there left more))
    ∙ sym (append_assoc (entry f) (flat_map entry fs) (row_of there left more))

pub all_of : (there : Bool) (files : List File) (left : ℕ) → row_of there (2 * length files + left) files ≡ flat_map entry files ++ concat (take left (end_if there))
all_of there files left = ap (row_of there (2 * length files + left)) (sym (append-nil files)) ∙ all_before there files [] left

-- the bytes up to some file of so many
abbrev pub opening : ℕ → List File → List ℕ
opening count files = title ++ (count_field count ++ flat_map entry files)

-- the fields of these files stand in front of the bytes, and are followed by the rest
pub record Stands (bytes : List ℕ) (count : ℕ) (files : List File) (rest : List ℕ) : Type 0 where
  pub begun : MayBegin count files
  pub is : bytes ≡ title ++ (count_field count ++ (flat_map entry files ++ rest))

pub record GoesOn (bytes : List ℕ) (count : ℕ) (files : List File) (rest : List ℕ) (others : List File) : Type 0 where
  pub more : List File
  pub whole : others ≡ files ++ more
  pub count_is : length others ≡ count
  pub next : rest ≡ flat_map entry more ++ ending

pub plan_spelled : (files : List File) → plan_text files ≡ title ++ (count_field (length files) ++ (flat_map entry files ++ ending))
plan_spelled files = append_assoc (title ++ count_field (length files)) (flat_map entry files) ending ∙ append_assoc title (count_field (length files)) (flat_map entry files ++ ending)

-- where the bytes are a plan's text, the plan begins with what stands in front
pub plan_goes_on : (bytes : List ℕ) (count : ℕ) (files : List File) (rest : List ℕ) (others : List File) → Stands bytes count files rest → IsTextOf others bytes → GoesOn bytes count files rest others
plan_goes_on bytes count files rest others stands text =
    let begun = stands.begun in
    let valid = text.0 in
    let few = begun.few in
    let few_others = valid.few in
    let within = begun.within in
    let both : count_field count ++ (flat_map entry files ++ rest) ≡ count_field (length others) ++ (flat_map entry others ++ ending)
    = append_cancel_left title _ _ (sym stands.is ∙ sym text.1 ∙ plan_spelled others) in
    let counts = counts_apart count (length others) (flat_map entry files ++ rest) (flat_map entry others ++ ending) (omega arith) (omega arith) both in
    let row : row_of true (2 * length others + 1) others ++ [] ≡ flat_map entry others ++ ending = append-nil (row_of true (2 * length others + 1) others) ∙ all_of true others 1 in
    on counts.0 within (walk true files others rest (2 * length others + 1) [] begun.planned valid.planned (counts.1 ∙ sym row))
  where
    on : count ≡ length others → length files ≤ count → Behind files others (2 * length others + 1) (row_of true (2 * length others + 1) others) ⊎ Beyond true files others rest (2 * length others + 1) (row_of true (2 * length others + 1) others) []
        → GoesOn bytes count files rest others
    on same within (inl b) = absurd (never b.less)
      where
        never : (2 * length others + 1 ≤ 2 * length files) ⊎ (length others < length files) → ⊥
        never (inl h) = omega arith
        never (inr h) = omega arith
    on same within (inr b) =
        let sizes : length others ≡ length files + length b.more = ap length b.whole ∙ length-append files b.more in
        let count_on = b.count in
        let left : b.left ≡ 2 * length b.more + 1 = omega arith in
        record {
          more = b.more;
          whole = b.whole;
          count_is = sym same;
          next = b.next ∙ append-nil (row_of true b.left b.more) ∙ ap (λ n. row_of true n b.more) left ∙ all_of true b.more 1;
        }

pub no_proper_front : NoProperFront
no_proper_front files others rest first second is =
    let few = first.few in
    let begun : MayBegin (length files) files = record { some = first.some; few = first.few; within = omega arith; planned = first.planned; in_order = first.in_order; small = first.small } in
    let spelled : plan_text others ≡ title ++ (count_field (length files) ++ (flat_map entry files ++ (ending ++ rest)))
    = is ∙ ap (λ (w : List ℕ). w ++ rest) (plan_spelled files) ∙ append_assoc title (count_field (length files) ++ (flat_map entry files ++ ending)) rest
    ∙ ap (λ (w : List ℕ). title ++ w) (append_assoc (count_field (length files)) (flat_map entry files ++ ending) rest ∙ ap (λ (w : List ℕ). count_field (length files) ++ w) (append_assoc (flat_map entry files) ending rest)) in
    let on = plan_goes_on (plan_text others) (length files) files (ending ++ rest) others (record { begun = begun; is = spelled }) (second, refl) in
    let sizes : length others ≡ length files + length on.more = ap length on.whole ∙ length-append files on.more in
    let count_is = on.count_is in
    let none : on.more ≡ [] = nil_from_length on.more (omega arith) in
    let next : ending ++ rest ≡ ending ++ [] = on.next ∙ ap (λ (m : List File). flat_map entry m ++ ending) none in
    (on.whole ∙ ap (λ (m : List File). files ++ m) none ∙ append-nil files, append_cancel_left ending rest [] next)

pub one_plan : (files others : List File) (bytes : List ℕ) → IsTextOf files bytes → IsTextOf others bytes → others ≡ files
one_plan files others bytes first second = (no_proper_front files others [] first.0 second.0 (second.1 ∙ sym first.1 ∙ sym (append-nil (plan_text files)))).0
