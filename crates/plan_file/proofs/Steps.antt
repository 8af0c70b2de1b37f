-- Whether a file comes next.
use Rattle.std.proofs.Common.{◌≡◌, ℕ, ◌<◌, ◌^◌, true, false, List, [], ◌∷◌, ◌++◌, length, Option, Some, None, sym, ap, subst, ◌∙◌, arith}
use Rattle.std.specs.Option.{IsSomeAnd, IfSome}
use Rattle.std.proofs.lemmas.Bool.{both_ways}
use Rattle.std.proofs.lemmas.List.{append_assoc}
use Rattle.ftn_base.specs.Files.{File}
use Rattle.ftn_base.specs.Names.{is_file_name}
use Rattle.plan_file.specs.Plans.{file_field, text_field}
use Rattle.plan_file.specs.Fields.{BeginsWith}
use Rattle.plan_file.specs.steps.Next.{IsNext, HasNoNext, Takes, may_come}
use Rattle.plan_file.proofs.Order.{may_from}

pub no_field : {X : Type 0} (found : Option X) (named : X → List ℕ) (sized : X → ℕ) (files : List File) (bytes : List ℕ) → found ≡ None
    → ((size : ℕ) (name : List ℕ) → size < 2 ^ 32 → is_file_name name ≡ true → BeginsWith (file_field size name) bytes → IsSomeAnd found (λ x. (sized x ≡ size) × (named x ≡ name)))
    → HasNoNext files bytes
no_field None named sized files bytes none only = λ size name next begins. only size name (let short = next.short in omega arith) next.valid begins
no_field (Some x) named sized files bytes none only = cc

pub no_name : {X : Type 0} (found : Option X) (named : X → List ℕ) (sized : X → ℕ) (files : List File) (bytes : List ℕ) (x : X) → found ≡ Some x
    → ((size : ℕ) (name : List ℕ) → size < 2 ^ 32 → is_file_name name ≡ true → BeginsWith (file_field size name) bytes → IsSomeAnd found (λ x. (sized x ≡ size) × (named x ≡ name)))
    → (IsNext files (sized x) (named x) → ⊥) → HasNoNext files bytes
no_name None named sized files bytes x some only not_next = cc
no_name (Some y) named sized files bytes x some only not_next = λ size name next begins.
    let same : y ≡ x = cc in
    let is = only size name (let short = next.short in omega arith) next.valid begins in
    let size_is : size ≡ sized x = sym is.0 ∙ ap sized same in
    let name_is : name ≡ named x = sym is.1 ∙ ap named same in
    not_next (rw (← name_is, ← size_is) next)

pub not_named : (files : List File) (size : ℕ) (name : List ℕ) → is_file_name name ≡ false → IsNext files size name → ⊥
not_named files size name invalid next = both_ways (is_file_name name) invalid next.valid

pub not_next : (files : List File) (size : ℕ) (name : List ℕ) → may_come files size name ≡ false → IsNext files size name → ⊥
not_next files size name may next = both_ways (may_come files size name) may (may_from files size name next)

pub takes_from : {X : Type 0} (found : Option X) (named after : X → List ℕ) (sized : X → ℕ) (x : X) (files more : List File) (bytes text rest : List ℕ) (file : File)
    → found ≡ Some x → IfSome found (λ x. bytes ≡ file_field (sized x) (named x) ++ after x)
    → after x ≡ text_field text ++ rest → length text ≡ sized x → file.0 ≡ named x → file.1 ≡ text → more ≡ files ++ file ∷ [] → IsNext files (sized x) (named x)
    → Takes files more bytes (sized x) rest
takes_from found named after sized x files more bytes text rest file some stands cut size name_is text_is joined next =
    let field : bytes ≡ file_field (sized x) (named x) ++ after x = subst (λ (o : Option _). IfSome o (λ x. bytes ≡ file_field (sized x) (named x) ++ after x)) some stands in
    let long : sized x ≡ length file.1 = sym size ∙ ap length (sym text_is) in
    record {
      file = file;
      joined = joined;
      stands = field ∙ ap (λ (w : List ℕ). file_field (sized x) (named x) ++ w) cut ∙ sym (append_assoc (file_field (sized x) (named x)) (text_field text) rest)
          ∙ ap (λ (w : List ℕ). (file_field (sized x) (named x) ++ text_field w) ++ rest) (sym text_is) ∙ ap (λ (w : List ℕ). (file_field (sized x) w ++ text_field file.1) ++ rest) (sym name_is)
          ∙ ap (λ n. (file_field n file.0 ++ text_field file.1) ++ rest) long;
      sized = long;
      next = rw (← long, name_is) next;
    }
