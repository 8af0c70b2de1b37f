-- Where the first field that is broken or cut begins.
use Rattle.std.proofs.Common.{◌≡◌, ℕ, ◌+◌, ◌*◌, ◌-◌, ◌<◌, ◌≤◌, ◌^◌, Bool, true, false, nat_eq, suc, zero, List, [], ◌∷◌, ◌++◌, length, take, replicate, ◌⊎◌, inl, inr, refl, sym, ap, subst, ◌∙◌, arith}
use Rattle.std.specs.List.{concat, flat_map}
use Rattle.std.proofs.lemmas.Bool.{eqb-true, eq-eqb}
use Rattle.std.proofs.lemmas.List.{append_assoc, append_cancel_left, append-nil, length-append, length-replicate, nil_from_length}
use Rattle.ftn_base.specs.Files.{File}
use Rattle.ftn_base.specs.Limits.{most_files}
use Rattle.plan_file.specs.Plans.{IsPlan, title, count_field, file_field, text_field, entry, ending}
use Rattle.plan_file.specs.Fields.{BeginsWith, MayBegin, fields_of, fields, HasWhole, IsTextOf}
use Rattle.plan_file.specs.steps.Next.{IsNext, HasNoNext, HasNoText, IsBrokenWith}
use Rattle.plan_file.proofs.Order.{begins_more, next_in}
use Rattle.plan_file.proofs.Rows.{end_if, row_of, Behind, Beyond, walk, all_before, all_of, opening, Stands, GoesOn, plan_spelled, plan_goes_on}
use Rattle.plan_file.proofs.Sizes.{opening_short, file_short}
use Rattle.plan_file.proofs.Words.{counts_apart, files_apart, SameFields, name_lacks}

broken_after : (bytes front rest : List ℕ) → bytes ≡ front ++ rest → length front < 2 ^ 32 → ((files : List File) → IsTextOf files bytes → ⊥)
    → HasWhole bytes (length front) → ((other : ℕ) → HasWhole bytes other → other ≤ length front) → IsBrokenWith bytes (length rest)
broken_after bytes front rest is small no_plan whole longest =
    let sizes : length bytes ≡ length front + length rest = ap length is ∙ length-append front rest in
    let at : length bytes - length rest ≡ length front = omega arith in
    record {
      within = omega arith;
      small = omega arith;
      no_plan = no_plan;
      first = record { whole = subst (λ n. HasWhole bytes n) (sym at) whole; longest = λ other h. let l : other ≤ length front = longest other h in omega arith };
    }

first_begins : MayBegin 1 []
first_begins = record { some = omega arith; few = omega arith; within = omega arith; planned = refl; in_order = refl; small = omega arith }

pub broken_title : (bytes : List ℕ) → (BeginsWith title bytes → ⊥) → IsBrokenWith bytes (length bytes)
broken_title bytes none =
    broken_after bytes [] bytes refl (omega arith)
    (λ files text. none (count_field (length files) ++ (flat_map entry files ++ ending), sym text.1 ∙ plan_spelled files))
    (record { count = 1; files = []; begun = first_begins; many = 0; front = (bytes, refl); ends = refl })
    (λ other w. ends other w.count w.files w.many w.front w.ends)
  where
    ends : (other count : ℕ) (files : List File) (many : ℕ) → BeginsWith (concat (take many (fields count files))) bytes → other ≡ length (concat (take many (fields count files))) → other ≤ 0
    ends other count files zero front is = omega arith
    ends other count files (suc many) front is = absurd (none (concat (take many (count_field count ∷ (flat_map fields_of files ++ _))) ++ front.0, front.1 ∙ append_assoc title _ front.0))

pub broken_count : (bytes rest : List ℕ) → bytes ≡ title ++ rest → ((n : ℕ) → 1 ≤ n → n ≤ most_files → BeginsWith (count_field n) rest → ⊥) → IsBrokenWith bytes (length rest)
broken_count bytes rest is none =
    broken_after bytes title rest is (omega arith)
    (λ files text. let valid = text.0 in none (length files) valid.some valid.few (flat_map entry files ++ ending, append_cancel_left title _ _ (sym is ∙ sym text.1 ∙ plan_spelled files)))
    (record { count = 1; files = []; begun = first_begins; many = 1; front = (rest, is); ends = refl })
    (λ other w. ends other w.count w.files w.begun w.many w.front w.ends)
  where
    ends : (other count : ℕ) (files : List File) → MayBegin count files → (many : ℕ) → BeginsWith (concat (take many (fields count files))) bytes → other ≡ length (concat (take many (fields count files))) → other ≤ 11
    ends other count files begun zero front is' = omega arith
    ends other count files begun (suc zero) front is' = omega arith
    ends other count files begun (suc (suc many)) front is' =
        let row : List ℕ = row_of (nat_eq (length files) count) many files in
        let spelled : title ++ rest ≡ title ++ (count_field count ++ (row ++ front.0))
        = sym is ∙ front.1 ∙ append_assoc title (count_field count ++ row) front.0 ∙ ap (λ (w : List ℕ). title ++ w) (append_assoc (count_field count) row front.0) in
        absurd (none count begun.some begun.few (row ++ front.0, append_cancel_left title _ _ spelled))

-- another row of whole fields goes on after what stands in front
record Further (count : ℕ) (files : List File) (rest : List ℕ) (other : ℕ) : Type 0 where
  more : List File
  left : ℕ
  there : Bool
  after : List ℕ
  begun : MayBegin count (files ++ more)
  there_is : there ≡ nat_eq (length (files ++ more)) count
  size : other ≡ length (opening count files) + length (row_of there left more)
  next : rest ≡ row_of there left more ++ after

rows_end : (bytes : List ℕ) (count : ℕ) (files : List File) (rest : List ℕ) (other : ℕ) → Stands bytes count files rest → HasWhole bytes other → (other ≤ length (opening count files)) ⊎ Further count files rest other
rows_end bytes count files rest other stands w = ends w.count w.files w.begun w.many w.front w.ends
  where
    ends : (c : ℕ) (fs : List File) → MayBegin c fs → (many : ℕ) → BeginsWith (concat (take many (fields c fs))) bytes → other ≡ length (concat (take many (fields c fs))) → (other ≤ length (opening count files)) ⊎ Further count files rest other
    ends c fs begun zero front is = inl (omega arith)
    ends c fs begun (suc zero) front is = inl (omega (arith, length-append title (count_field count ++ flat_map entry files)))
    ends c fs begun (suc (suc many)) front is =
        let there : Bool = nat_eq (length fs) c in
        let row : List ℕ = row_of there many fs in
        let both : count_field count ++ (flat_map entry files ++ rest) ≡ count_field c ++ (row ++ front.0)
        = append_cancel_left title _ _ (sym stands.is ∙ front.1 ∙ append_assoc title (count_field c ++ row) front.0 ∙ ap (λ (w : List ℕ). title ++ w) (append_assoc (count_field c) row front.0)) in
        let own = stands.begun in
        let few = own.few in
        let few_there = begun.few in
        let counts = counts_apart count c (flat_map entry files ++ rest) (row ++ front.0) (omega arith) (omega arith) both in
        sorted (walk there files fs rest many front.0 own.planned begun.planned counts.1) counts.0
      where
        fields_size : length (opening count files) ≡ 11 + (length (count_field count) + length (flat_map entry files))
        fields_size = length-append title (count_field count ++ flat_map entry files) ∙ ap (λ n. 11 + n) (length-append (count_field count) (flat_map entry files))

        sorted : Behind files fs many (row_of (nat_eq (length fs) c) many fs) ⊎ Beyond (nat_eq (length fs) c) files fs rest many (row_of (nat_eq (length fs) c) many fs) front.0 → count ≡ c
            → (other ≤ length (opening count files)) ⊎ Further count files rest other
        sorted (inl b) same =
            let row : List ℕ = row_of (nat_eq (length fs) c) many fs in
            let sizes : other ≡ 11 + (length (count_field count) + length row) = is ∙ length-append title (count_field c ++ row) ∙ ap (λ n. 11 + n) (length-append (count_field c) row ∙ ap (λ n. length (count_field n) + length row) (sym same)) in
            let short = b.short in
            inl (omega (arith, sizes, fields_size, short))
        sorted (inr b) same =
            let there : Bool = nat_eq (length fs) c in
            let row : List ℕ = row_of there many fs in
            let tail : List ℕ = row_of there b.left b.more in
            let sizes : other ≡ 11 + (length (count_field count) + length row) = is ∙ length-append title (count_field c ++ row) ∙ ap (λ n. 11 + n) (length-append (count_field c) row ∙ ap (λ n. length (count_field n) + length row) (sym same)) in
            let longer : length row ≡ length (flat_map entry files) + length tail = ap length b.front ∙ length-append (flat_map entry files) tail in
            inr (record {
              more = b.more;
              left = b.left;
              there = there;
              after = front.0;
              begun = subst (λ (os : List File). MayBegin count os) b.whole (subst (λ n. MayBegin n fs) (sym same) begun);
              there_is = ap (λ n. nat_eq (length fs) n) (sym same) ∙ ap (λ (os : List File). nat_eq (length os) count) b.whole;
              size = omega (arith, sizes, fields_size, longer);
              next = b.next;
            })

stands_front : (bytes : List ℕ) (count : ℕ) (files : List File) (rest : List ℕ) → Stands bytes count files rest → bytes ≡ opening count files ++ rest
stands_front bytes count files rest stands =
    stands.is ∙ ap (λ (w : List ℕ). title ++ w) (sym (append_assoc (count_field count) (flat_map entry files) rest)) ∙ sym (append_assoc title (count_field count ++ flat_map entry files) rest)

-- the row of all fields of the files that are there
row_there : (count : ℕ) (files : List File) (there : Bool) (left : ℕ) → concat (take (2 + (2 * length files + left)) (title ∷ count_field count ∷ (flat_map fields_of files ++ end_if there))) ≡ opening count files ++ concat (take left (end_if there))
row_there count files there left =
    let tail : List ℕ = concat (take left (end_if there)) in
    let many : 2 + (2 * length files + left) ≡ suc (suc (2 * length files + left)) = omega arith in
    ap (λ n. concat (take n (title ∷ count_field count ∷ (flat_map fields_of files ++ end_if there)))) many
    ∙ ap (λ (w : List ℕ). title ++ (count_field count ++ w)) (all_of there files left)
    ∙ ap (λ (w : List ℕ). title ++ w) (sym (append_assoc (count_field count) (flat_map entry files) tail)) ∙ sym (append_assoc title (count_field count ++ flat_map entry files) tail)

whole_there : (bytes : List ℕ) (count : ℕ) (files : List File) (rest : List ℕ) → Stands bytes count files rest → HasWhole bytes (length (opening count files))
whole_there bytes count files rest stands =
    let row : concat (take (2 + (2 * length files + 0)) (fields count files)) ≡ opening count files
    = row_there count files (nat_eq (length files) count) 0 ∙ append-nil (opening count files) in
    record {
      count = count;
      files = files;
      begun = stands.begun;
      many = 2 + (2 * length files + 0);
      front = (rest, stands_front bytes count files rest stands ∙ ap (λ (w : List ℕ). w ++ rest) (sym row));
      ends = ap length (sym row);
    }

begun_plan : (files : List File) → IsPlan files → MayBegin (length files) files
begun_plan files valid = let few = valid.few in record { some = valid.some; few = few; within = omega arith; planned = valid.planned; in_order = valid.in_order; small = valid.small }

-- a plan that goes on begins another file, where files are lacking
plan_begins : {bytes : List ℕ} {count : ℕ} {files : List File} {rest : List ℕ} {others : List File} → length files < count → IsTextOf others bytes → GoesOn bytes count files rest others
    → (file : File) × (more : List File) × MayBegin count (files ++ file ∷ more) × (rest ≡ file_field (length file.1) file.0 ++ (text_field file.1 ++ (flat_map entry more ++ ending)))
plan_begins {bytes} {count} {files} {rest} {others} less text on = begins on.more on.whole on.count_is on.next
  where
    begins : (more : List File) → others ≡ files ++ more → length others ≡ count → rest ≡ flat_map entry more ++ ending
        → (file : File) × (more : List File) × MayBegin count (files ++ file ∷ more) × (rest ≡ file_field (length file.1) file.0 ++ (text_field file.1 ++ (flat_map entry more ++ ending)))
    begins [] whole count_is next = let sizes : length others ≡ length files = ap length (whole ∙ append-nil files) in absurd (omega arith)
    begins (g ∷ gs) whole count_is next = (
      g,
      gs,
      subst (λ (os : List File). MayBegin count os) whole (subst (λ n. MayBegin n others) count_is (begun_plan others text.0)),
      next ∙ append_assoc (entry g) (flat_map entry gs) ending ∙ append_assoc (file_field (length g.1) g.0) (text_field g.1) (flat_map entry gs ++ ending),
    )

pub broken_file : (bytes : List ℕ) (count : ℕ) (files : List File) (rest : List ℕ) → Stands bytes count files rest → length files < count → HasNoNext files rest → IsBrokenWith bytes (length rest)
broken_file bytes count files rest stands less none =
    broken_after bytes (opening count files) rest (stands_front bytes count files rest stands) (let short = opening_short count files stands.begun in omega arith)
    (λ others text. let b = plan_begins less text (plan_goes_on bytes count files rest others stands text) in none (length b.0.1) b.0.0 (next_in count files b.0 b.1 b.2) (_, b.3))
    (whole_there bytes count files rest stands)
    (λ other w. short (rows_end bytes count files rest other stands w))
  where
    empty : (more : List File) (left : ℕ) (there : Bool) (after : List ℕ) → MayBegin count (files ++ more) → there ≡ nat_eq (length (files ++ more)) count → rest ≡ row_of there left more ++ after → length (row_of there left more) ≡ 0
    empty more zero there after begun there_is next = refl
    empty [] (suc left) false after begun there_is next = refl
    empty [] (suc left) true after begun there_is next =
        let full : length (files ++ []) ≡ count = eqb-true (length (files ++ [])) count (sym there_is) in
        absurd (omega (arith, full, ap length (append-nil files)))
    empty (g ∷ gs) (suc left) there after begun there_is next =
        absurd (none (length g.1) g.0 (next_in count files g gs begun) (_, next ∙ append_assoc (file_field (length g.1) g.0) (concat (take left (text_field g.1 ∷ (flat_map fields_of gs ++ end_if there)))) after))

    short : {other : ℕ} → (other ≤ length (opening count files)) ⊎ Further count files rest other → other ≤ length (opening count files)
    short (inl h) = h
    short (inr k) = let size = k.size in let none = empty k.more k.left k.there k.after k.begun k.there_is k.next in omega arith

pub broken_end : (bytes : List ℕ) (count : ℕ) (files : List File) (rest : List ℕ) → Stands bytes count files rest → length files ≡ count → (BeginsWith ending rest → ⊥) → IsBrokenWith bytes (length rest)
broken_end bytes count files rest stands full none =
    broken_after bytes (opening count files) rest (stands_front bytes count files rest stands) (let short = opening_short count files stands.begun in omega arith)
    (λ others text. no_plan others (plan_goes_on bytes count files rest others stands text))
    (whole_there bytes count files rest stands)
    (λ other w. short (rows_end bytes count files rest other stands w))
  where
    no_plan : (others : List File) → GoesOn bytes count files rest others → ⊥
    no_plan others on =
        let sizes : length others ≡ length files + length on.more = ap length on.whole ∙ length-append files on.more in
        let count_is = on.count_is in
        let nothing : on.more ≡ [] = nil_from_length on.more (omega arith) in
        none ([], on.next ∙ ap (λ (m : List File). flat_map entry m ++ ending) nothing ∙ sym (append-nil ending))

    empty : (more : List File) (left : ℕ) (there : Bool) (after : List ℕ) → MayBegin count (files ++ more) → rest ≡ row_of there left more ++ after → length (row_of there left more) ≡ 0
    empty more zero there after begun next = refl
    empty [] (suc left) false after begun next = refl
    empty [] (suc left) true after begun next = absurd (none (_, next ∙ append_assoc ending (concat (take left [])) after))
    empty (g ∷ gs) (suc left) there after begun next = let within = begun.within in absurd (omega (arith, within, length-append files (g ∷ gs)))

    short : {other : ℕ} → (other ≤ length (opening count files)) ⊎ Further count files rest other → other ≤ length (opening count files)
    short (inl h) = h
    short (inr k) = let size = k.size in let none = empty k.more k.left k.there k.after k.begun k.next in omega arith

pub whole_text : (bytes : List ℕ) (count : ℕ) (files : List File) → Stands bytes count files ending → length files ≡ count → IsTextOf files bytes
whole_text bytes count files stands full =
    let begun = stands.begun in
    let few = begun.few in
    let some = begun.some in (
      record { some = omega arith; few = omega arith; planned = begun.planned; in_order = begun.in_order; small = begun.small },
      plan_spelled files ∙ ap (λ n. title ++ (count_field n ++ (flat_map entry files ++ ending))) full ∙ sym stands.is,
    )

pub broken_more : (bytes : List ℕ) (count : ℕ) (files : List File) (rest more : List ℕ) → Stands bytes count files rest → length files ≡ count → rest ≡ ending ++ more → 0 < length more → IsBrokenWith bytes (length more)
broken_more bytes count files rest more stands full ended long =
    let front : bytes ≡ (opening count files ++ ending) ++ more = stands_front bytes count files rest stands ∙ ap (λ (w : List ℕ). opening count files ++ w) ended ∙ sym (append_assoc (opening count files) ending more) in
    let row : concat (take (2 + (2 * length files + 1)) (fields count files)) ≡ opening count files ++ ending
    = row_there count files (nat_eq (length files) count) 1 ∙ ap (λ b. opening count files ++ concat (take 1 (end_if b))) (eq-eqb (length files) count full) in
    broken_after bytes (opening count files ++ ending) more front (let short = opening_short count files stands.begun in omega (arith, length-append (opening count files) ending))
    (λ others text. no_plan others (plan_goes_on bytes count files rest others stands text))
    (record {
      count = count;
      files = files;
      begun = stands.begun;
      many = 2 + (2 * length files + 1);
      front = (more, front ∙ ap (λ (w : List ℕ). w ++ more) (sym row));
      ends = ap length (sym row);
    })
    (λ other w. short (rows_end bytes count files rest other stands w))
  where
    no_plan : (others : List File) → GoesOn bytes count files rest others → ⊥
    no_plan others on =
        let sizes : length others ≡ length files + length on.more = ap length on.whole ∙ length-append files on.more in
        let count_is = on.count_is in
        let nothing : on.more ≡ [] = nil_from_length on.more (omega arith) in
        let same : ending ++ more ≡ ending ++ [] = sym ended ∙ on.next ∙ ap (λ (m : List File). flat_map entry m ++ ending) nothing in
        let none : more ≡ [] = append_cancel_left ending more [] same in
        omega (arith, ap length none)

    ends : (others : List File) (left : ℕ) (there : Bool) → MayBegin count (files ++ others) → length (row_of there left others) ≤ 4
    ends others zero there begun = omega arith
    ends [] (suc left) false begun = omega arith
    ends [] (suc zero) true begun = omega arith
    ends [] (suc (suc left)) true begun = omega arith
    ends (g ∷ gs) (suc left) there begun = let within = begun.within in absurd (omega (arith, within, length-append files (g ∷ gs)))

    short : {other : ℕ} → (other ≤ length (opening count files)) ⊎ Further count files rest other → other ≤ length (opening count files ++ ending)
    short (inl h) = omega (arith, length-append (opening count files) ending)
    short (inr k) = let size = k.size in let last = ends k.more k.left k.there k.begun in omega (arith, length-append (opening count files) ending)

-- what stands in front, where the file field of one more file is whole
module _ (bytes : List ℕ) (count : ℕ) (files : List File) (rest : List ℕ) (stands : Stands bytes count files rest) (less : length files < count) (size : ℕ) (name text : List ℕ) (next : IsNext files size name) (is : rest ≡ file_field size name ++ text) (cut : HasNoText size text) where
  -- a file of that length and name
  blank : File
  blank = (name, replicate size 0)

  named_front : List ℕ
  named_front = opening count files ++ file_field size name

  named_begun : MayBegin count (files ++ blank ∷ [])
  unfolding blank
  named_begun = begins_more count files blank stands.begun less (rw length-replicate next)

  named_row : concat (take (2 + (2 * length files + 1)) (fields count (files ++ blank ∷ []))) ≡ named_front
  unfolding blank named_front
  named_row =
      let there : Bool = nat_eq (length (files ++ blank ∷ [])) count in
      let many : 2 + (2 * length files + 1) ≡ suc (suc (2 * length files + 1)) = omega arith in
      let field : row_of there 1 (blank ∷ []) ≡ file_field size name = append-nil (file_field (length (replicate size 0)) name) ∙ ap (λ n. file_field n name) (length-replicate size 0) in
      ap (λ n. concat (take n (fields count (files ++ blank ∷ [])))) many
      ∙ ap (λ (w : List ℕ). title ++ (count_field count ++ w)) (all_before there files (blank ∷ []) 1 ∙ ap (λ (w : List ℕ). flat_map entry files ++ w) field)
      ∙ ap (λ (w : List ℕ). title ++ w) (sym (append_assoc (count_field count) (flat_map entry files) (file_field size name)))
      ∙ sym (append_assoc title (count_field count ++ flat_map entry files) (file_field size name))

  named_whole : HasWhole bytes (length named_front)
  unfolding named_front
  named_whole = record {
    count = count;
    files = files ++ blank ∷ [];
    begun = named_begun;
    many = 2 + (2 * length files + 1);
    front = (text, stands_front bytes count files rest stands ∙ ap (λ (w : List ℕ). opening count files ++ w) is ∙ sym (append_assoc (opening count files) (file_field size name) text) ∙ ap (λ (w : List ℕ). w ++ text) (sym named_row));
    ends = ap length (sym named_row);
  }

  -- a file that begins there has that length and that name
  same_there : (g : File) (gs : List File) (row after : List ℕ) → MayBegin count (files ++ g ∷ gs) → rest ≡ (file_field (length g.1) g.0 ++ row) ++ after → SameFields size (length g.1) name g.0 text (row ++ after)
  same_there g gs row after begun there =
      let found = next_in count files g gs begun in
      let short = next.short in
      let short_found = found.short in
      files_apart size (length g.1) name g.0 text (row ++ after) (omega arith) (omega arith) (name_lacks 10 name (omega arith) next.valid) (name_lacks 10 g.0 (omega arith) found.valid)
      (sym is ∙ there ∙ append_assoc (file_field (length g.1) g.0) row after)

  no_plan : (others : List File) → IsTextOf others bytes → ⊥
  no_plan others text_of =
      let b = plan_begins less text_of (plan_goes_on bytes count files rest others stands text_of) in
      let same = same_there b.0 b.1 (text_field b.0.1 ++ (flat_map entry b.1 ++ ending)) [] b.2 (b.3 ∙ sym (append-nil _)) in
      cut b.0.1 (sym same.sized) (_, same.rest ∙ append-nil (text_field b.0.1 ++ (flat_map entry b.1 ++ ending)))

  row_ends : (more : List File) (left : ℕ) (there : Bool) (after : List ℕ) → MayBegin count (files ++ more) → there ≡ nat_eq (length (files ++ more)) count → rest ≡ row_of there left more ++ after → length (row_of there left more) ≤ length (file_field size name)
  row_ends more zero there after begun there_is row = omega arith
  row_ends [] (suc left) false after begun there_is row = omega arith
  row_ends [] (suc left) true after begun there_is row =
      let full : length (files ++ []) ≡ count = eqb-true (length (files ++ [])) count (sym there_is) in
      absurd (omega (arith, full, ap length (append-nil files)))
  row_ends (g ∷ gs) (suc zero) there after begun there_is row =
      let same = same_there g gs [] after begun row in
      let sizes : length (file_field (length g.1) g.0) ≡ length (file_field size name) = ap length (ap (λ n. file_field n g.0) (sym same.sized) ∙ ap (file_field size) (sym same.named)) in
      omega (arith, sizes, length-append (file_field (length g.1) g.0) [])
  row_ends (g ∷ gs) (suc (suc left)) there after begun there_is row =
      let tail : List ℕ = row_of there left gs in
      let same = same_there g gs (text_field g.1 ++ tail) after begun row in
      absurd (cut g.1 (sym same.sized) (tail ++ after, same.rest ∙ append_assoc (text_field g.1) tail after))

  pub broken_text : IsBrokenWith bytes (length text)
  unfolding named_front
  broken_text =
      broken_after bytes named_front text
      (stands_front bytes count files rest stands ∙ ap (λ (w : List ℕ). opening count files ++ w) is ∙ sym (append_assoc (opening count files) (file_field size name) text))
      (let short = opening_short count files stands.begun in let field = file_short size name next.short next.valid in omega (arith, length-append (opening count files) (file_field size name)))
      no_plan named_whole (λ other w. short (rows_end bytes count files rest other stands w))
    where
      short : {other : ℕ} → (other ≤ length (opening count files)) ⊎ Further count files rest other → other ≤ length (opening count files ++ file_field size name)
      short (inl h) = omega (arith, length-append (opening count files) (file_field size name))
      short (inr k) = let size_is = k.size in let last = row_ends k.more k.left k.there k.after k.begun k.there_is k.next in omega (arith, length-append (opening count files) (file_field size name))
