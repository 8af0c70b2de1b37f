-- What is read of a plan's text, file by file.
use Rattle.std.proofs.Common.{◌≡◌, ℕ, ◌+◌, ◌<◌, ◌≤◌, ◌^◌, List, [], ◌∷◌, ◌++◌, length, Option, Some, None, inl, inr, refl, sym, ap, subst, ◌∙◌, arith}
use Rattle.std.specs.List.{flat_map}
use Rattle.std.specs.Option.{IfSome, IsSomeAnd}
use Rattle.std.proofs.lemmas.List.{append_assoc, append-nil, length-append, nil_from_length}
use Rattle.std.proofs.lemmas.List.Concat.{flat_map-append}
use Rattle.ftn_base.specs.Files.{File}
use Rattle.ftn_base.specs.Limits.{most_files, most_project_bytes}
use Rattle.plan_file.specs.Plans.{size_of, title, count_field, entry, ending}
use Rattle.plan_file.specs.Fields.{BeginsWith, MayBegin, IsTextOf}
use Rattle.plan_file.specs.steps.Next.{Takes, Stops, IsStopped, IsBrokenWith}
use Rattle.plan_file.specs.declared.fault.Stop.{Stop}
use Rattle.plan_file.specs.declared.fault.Stop.TheVariants.{Broken, NoMemory}
use Rattle.plan_file.proofs.Order.{begins_more, size_at}
use Rattle.plan_file.proofs.Rows.{Stands}
use Rattle.plan_file.proofs.Broken.{broken_count, broken_file, broken_text, whole_text}

-- the reader stands after these files
pub record Standing (bytes : List ℕ) (count : ℕ) (files : List File) (left : List ℕ) (total turns : ℕ) : Type 0 where
  pub stands : Stands bytes count files left
  pub number : length files ≡ turns
  pub sum : total ≡ size_of files

pub no_count : {X : Type 0} (found : Option X) (number : X → ℕ) (bytes rest : List ℕ) → bytes ≡ title ++ rest → found ≡ None
    → ((n : ℕ) → n < 2 ^ 32 → BeginsWith (count_field n) rest → IsSomeAnd found (λ x. number x ≡ n)) → IsBrokenWith bytes (length rest)
no_count None number bytes rest is none only = broken_count bytes rest is (λ n some few begins. only n (omega arith) begins)
no_count (Some x) number bytes rest is none only = cc

pub bad_count : {X : Type 0} (found : Option X) (number : X → ℕ) (bytes rest : List ℕ) (x : X) → bytes ≡ title ++ rest → found ≡ Some x
    → ((n : ℕ) → n < 2 ^ 32 → BeginsWith (count_field n) rest → IsSomeAnd found (λ x. number x ≡ n)) → (1 ≤ number x → number x ≤ most_files → ⊥) → IsBrokenWith bytes (length rest)
bad_count None number bytes rest x is some only bad = cc
bad_count (Some y) number bytes rest x is some only bad =
    let same : y ≡ x = cc in
    broken_count bytes rest is (λ n few many begins. let number_is : number y ≡ n = only n (omega arith) begins in let here : number x ≡ n = ap number (sym same) ∙ number_is in bad (omega arith) (omega arith))

pub stands_first : {X : Type 0} (found : Option X) (number : X → ℕ) (after : X → List ℕ) (bytes rest : List ℕ) (x : X) (files : List File) → bytes ≡ title ++ rest → found ≡ Some x
    → IfSome found (λ x. rest ≡ count_field (number x) ++ after x) → 1 ≤ number x → number x ≤ most_files → files ≡ [] → Standing bytes (number x) files (after x) 0 0
stands_first found number after bytes rest x files is some field few many none =
    let field_is : rest ≡ count_field (number x) ++ after x = subst (λ (o : Option _). IfSome o (λ x. rest ≡ count_field (number x) ++ after x)) some field in
    subst (λ (fs : List File). Standing bytes (number x) fs (after x) 0 0) (sym none) (record {
      stands = record {
        begun = record { some = few; few = many; within = omega arith; planned = refl; in_order = refl; small = omega arith };
        is = is ∙ ap (λ (w : List ℕ). title ++ w) field_is;
      };
      number = refl;
      sum = refl;
    })

pub stands_more : (bytes : List ℕ) (count : ℕ) (files more : List File) (left rest : List ℕ) (total turns size : ℕ) → Standing bytes count files left total turns → turns < count → Takes files more left size rest → Standing bytes count more rest (total + size) (turns + 1)
stands_more bytes count files more left rest total turns size h less takes =
    let number = h.number in
    let file : File = takes.file in
    let begun : MayBegin count (files ++ file ∷ []) = begins_more count files file h.stands.begun (omega arith) takes.next in
    let entries : flat_map entry files ++ left ≡ flat_map entry (files ++ file ∷ []) ++ rest
    = ap (λ (w : List ℕ). flat_map entry files ++ w) (takes.stands ∙ ap (λ (w : List ℕ). w ++ rest) (sym (append-nil (entry file))))
    ∙ sym (append_assoc (flat_map entry files) (entry file ++ []) rest) ∙ ap (λ (w : List ℕ). w ++ rest) (sym (flat_map-append entry files (file ∷ []))) in
    let stands : Stands bytes count (files ++ file ∷ []) rest = record { begun = begun; is = h.stands.is ∙ ap (λ (w : List ℕ). title ++ (count_field count ++ w)) entries } in
    let sum = h.sum in
    let sized = takes.sized in
    let longer : length (files ++ file ∷ []) ≡ turns + 1 = omega (arith, length-append files (file ∷ [])) in
    let larger : total + size ≡ size_of (files ++ file ∷ []) = omega (arith, size_at files file []) in
    subst (λ (fs : List File). Standing bytes count fs rest (total + size) (turns + 1)) (sym takes.joined) (record { stands = stands; number = longer; sum = larger })

pub stays_small : (files more : List File) (left rest : List ℕ) (total size : ℕ) → total ≡ size_of files → Takes files more left size rest → total + size ≤ most_project_bytes
stays_small files more left rest total size sum takes = let small = takes.next.small in let sized = takes.sized in omega arith

pub stopped_there : (stop : Stop) (bytes : List ℕ) (count : ℕ) (files : List File) (left : List ℕ) → Stands bytes count files left → length files < count → Stops stop files left → IsStopped stop bytes
stopped_there (Broken at) bytes count files left stands less (inl h) = subst (λ n. IsBrokenWith bytes n) (sym h.0) (broken_file bytes count files left stands less h.1)
stopped_there (Broken at) bytes count files left stands less (inr h) =
    subst (λ n. IsBrokenWith bytes n) (sym h.at) (broken_text bytes count files left stands less h.size h.name h.rest h.next h.stands h.cut)
stopped_there NoMemory bytes count files left stands less h = tt

pub whole_there : (bytes : List ℕ) (count : ℕ) (files : List File) (left more : List ℕ) → Stands bytes count files left → length files ≡ count → left ≡ ending ++ more → length more ≡ 0 → IsTextOf files bytes
whole_there bytes count files left more stands full ended none =
    let nothing : more ≡ [] = nil_from_length more none in
    let end : left ≡ ending = ended ∙ ap (λ (w : List ℕ). ending ++ w) nothing ∙ append-nil ending in
    whole_text bytes count files (subst (λ (w : List ℕ). Stands bytes count files w) end stands) full
