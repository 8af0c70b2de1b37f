-- What goes on after a computation has its active procedures and its places back.
use Rattle.std.proofs.Common.{◌≡◌, ◌≤◌, ◌+◌, ℕ, zero, suc, List, [], ◌∷◌, length, drop, map, refl, ap, ◌∙◌, arith}
use Rattle.std.specs.Prelude.{Bool, true, false, if◌then◌else◌, slice_set, replicate, Option, Some, Result, Ok, Err}
use Rattle.std.proofs.lemmas.List.{length-set, length-append, length-take-le}
use Rattle.ftn_tree.specs.declared.value.Value.{Value}
use Rattle.core_prog.specs.declared.site.Site.{Site}
use Rattle.core_prog.specs.declared.storage.Area.{Area}
use Rattle.core_prog.specs.declared.storage.Content.{Content}
use Rattle.core_prog.specs.declared.storage.Content.TheVariants.{Nothing}
use Rattle.core_prog.specs.Ends.{End}
use Rattle.core_prog.specs.Ends as ended
use Rattle.core_prog.specs.Contents.{stored, contents_of}
use Rattle.core_prog.specs.Memory.{Memory, Holding}
use Rattle.core_prog.specs.Programs.{Program, Procedure}
use Rattle.core_prog.specs.Holdings.{procedure}
use Rattle.core_prog.specs.Entries.{Argument, taken, begun, not_active, emptied, is_emptied_by, own_contents, prepared, with_frame, held_at, entered, result_at, left}
use Rattle.core_prog.specs.Actions.{Block}
use Rattle.core_prog.specs.Terms.{Term}
use Rattle.core_prog.specs.States.{State, Ran, Went, Ended, M, goes_on, ◌>>=◌, ◌>>◌, pure, ticked, tick, told, asks, remembers, took, Way, GoOn, Exit, Cycle, Return, around}
use Rattle.core_prog.specs.Values.{called, entering, leaving, value_of}
use Rattle.core_prog.specs.Statements.{turns, block}
use Rattle.core_prog.specs.Runs.{bodies}
use Rattle.core_prog.specs.Lasting.{Back, IsBack, Returns}
use Rattle.core_prog.proofs.Closing.{Closed}
use Rattle.core_prog.proofs.Keeping.{block_kept, value_kept}

pub back_same : (s : State) → Back s s
back_same s = record { active = refl; places = refl }

pub back_then : (s t u : State) → Back s t → Back t u → Back s u
back_then s t u h k = record { active = k.active ∙ h.active; places = k.places ∙ h.places }

is_back_from : {A : Type 0} (s t : State) (r : Ran A) → Back s t → IsBack t r → IsBack s r
is_back_from s t (Went a u) h k = back_then s t u h k
is_back_from s t (Ended e u) h k = tt

returns_on : {A B : Type 0} (s : State) (r : Ran A) (f : A → M B) → IsBack s r → ((a : A) → Returns (f a)) → IsBack s (goes_on r f)
returns_on s (Went a t) f h k = is_back_from s t (f a t) h (k a t)
returns_on s (Ended e t) f h k = tt

pub returns_binds : {A B : Type 0} (m : M A) (f : A → M B) → Returns m → ((a : A) → Returns (f a)) → Returns (m >>= f)
returns_binds m f h k s = returns_on s (m s) f (h s) k

returns_ticked : (n : ℕ) (s : State) → IsBack s (ticked n s)
returns_ticked zero s = tt
returns_ticked (suc n) s = record { active = refl; places = refl }

pub returns_tick : Returns tick
returns_tick s = returns_ticked s.left s

returns_told : {A : Type 0} (r : Result A End) → Returns (told r)
returns_told (Ok a) s = back_same s
returns_told (Err e) s = tt

returns_took : (bytes : List ℕ) → Returns (took bytes)
returns_took [] s = back_same s
returns_took (byte ∷ bytes) s = returns_on s (tick s) (λ _ t. Went (Some byte) (record t { input = bytes })) (returns_tick s) (λ _ t. record { active = refl; places = refl })

pub length_stored : (first : ℕ) (contents cells : List Content) → length (stored first contents cells) ≡ length cells
length_stored first [] cells = refl
length_stored first (content ∷ contents) cells = length_stored (first + 1) contents (slice_set cells first content) ∙ length-set cells first content

returns_around : (next : M Way) → Returns next → (way : Way) → Returns (around next way)
returns_around next h GoOn = h
returns_around next h (Exit zero) = back_same
returns_around next h (Exit (suc depth)) = back_same
returns_around next h (Cycle zero) = h
returns_around next h (Cycle (suc depth)) = back_same
returns_around next h Return = back_same

returns_turn : (again : Bool) (turn next : M Way) → Returns turn → Returns next → Returns (if again then tick >> (turn >>= (λ way. around next way)) else pure GoOn)
returns_turn true turn next h k = returns_binds tick _ returns_tick (λ _. returns_binds turn _ h (returns_around next k))
returns_turn false turn next h k = back_same

returns_turns : (n : ℕ) (test : M Bool) (turn : M Way) → Returns test → Returns turn → Returns (turns n test turn)
returns_turns zero test turn h k = λ s. tt
returns_turns (suc n) test turn h k = returns_binds test _ h (λ again. returns_turn again turn (turns n test turn) k (returns_turns n test turn h k))

-- ---- a call

length_emptied : (number : ℕ) (areas : List Area) (cells : List Content) → length (emptied number areas cells) ≡ length cells
length_emptied number [] cells = refl
length_emptied number (area ∷ areas) cells = length_emptied number areas _ ∙ length_one (is_emptied_by number area.emptied) area cells
  where
    length_one : (yes : Bool) (area : Area) (cells : List Content) → length (if yes then stored area.start (replicate area.size Nothing) cells else cells) ≡ length cells
    length_one true area cells = length_stored area.start (replicate area.size Nothing) cells
    length_one false area cells = refl

-- a procedure that was entered lies above what was active, and no place is gone
pub record Above (before now : Memory) : Type 0 where
  pub active : drop 1 now.active ≡ before.active
  pub places : length before.cells ≤ length now.cells

longer : (a b c : ℕ) → b ≡ a + c → a ≤ b
longer a b c e = omega arith

length_prepared : (program : Program) (number : ℕ) (args : List Argument) (memory : Memory) → length memory.cells ≤ length (prepared program number args memory).cells
length_prepared program number args memory =
    longer (length memory.cells) _ (length (own_contents args))
    (length-append (emptied number program.areas memory.cells) (own_contents args) ∙ ap (λ n. n + length (own_contents args)) (length_emptied number program.areas memory.cells))

abbrev AboveIf : Memory → Result Memory End → Type 0
AboveIf before (Ok now) = Above before now
AboveIf before (Err e) = Unit {0}

framed_above : (program : Program) (number : ℕ) (args : List Argument) (memory : Memory) (r : Result (List Holding) End) →
    AboveIf memory (ended.◌>>=◌ r (λ held. Ok (with_frame number held (prepared program number args memory))))
framed_above program number args memory (Ok held) = record { active = refl; places = length_prepared program number args memory }
framed_above program number args memory (Err x) = tt

entered_above : (program : Program) (at : Site) (number : ℕ) (dummies : List ℕ) (args : List Argument) (memory : Memory) → AboveIf memory (entered program at number dummies args memory)
entered_above program at number dummies args memory =
    framed_above program number args memory
    (held_at program at (with_frame number (map begun (taken (length memory.cells) args)) (prepared program number args memory)) dummies (taken (length memory.cells) args))

enough : (n was inside now : ℕ) → n ≡ was → was ≤ inside → now ≡ inside → n ≤ now
enough n was inside now e h k = omega arith

closing : (s t : State) (inside : Memory) → Above s.memory inside → Back (record s { memory = inside }) t → Back s (record t { memory = left (length s.memory.cells) t.memory })
closing s t inside h k = record {
  active = ap (λ frames. drop 1 frames) k.active ∙ h.active;
  places = length-take-le (length s.memory.cells) t.memory.cells (enough (length s.memory.cells) (length s.memory.cells) (length inside.cells) (length t.memory.cells) refl h.places k.places);
}

told_back : {A B : Type 0} (s t : State) (r : Result A End) (f : A → M B) → ((a : A) → IsBack s (f a t)) → IsBack s (goes_on (told r t) f)
told_back s t (Ok a) f h = h a
told_back s t (Err e) f h = tt

on_back : {A B : Type 0} (s before : State) (r : Ran A) (f : A → M B) → IsBack before r → ((a : A) (t : State) → Back before t → IsBack s (f a t)) → IsBack s (goes_on r f)
on_back s before (Went a t) f h k = k a t h
on_back s before (Ended e t) f h k = tt

abbrev with_result : ℕ → Option Value → M (Option Value)
with_result mark result = asks (λ memory. Ok (left mark memory)) >>= (λ outside. remembers outside >> pure result)

leaving_back : (program : Program) (at : Site) (proc : Procedure) (s : State) (inside : Memory) → Above s.memory inside → (t : State) → Back (record s { memory = inside }) t →
    (n : ℕ) → IsBack s (goes_on (ticked n t) (λ _. asks (result_at program at proc.result) >>= with_result (length s.memory.cells)))
leaving_back program at proc s inside h t k zero = tt
leaving_back program at proc s inside h t k (suc n) =
    told_back s (record t { left = n }) (result_at program at proc.result t.memory) (with_result (length s.memory.cells))
    (λ result. closing s (record t { left = n }) inside h (record { active = k.active; places = k.places }))

body_back : (program : Program) (body : ℕ → M Way) (at : Site) (number : ℕ) (proc : Procedure) → Returns (body number) → (s : State) (q : Result Memory End) → AboveIf s.memory q →
    IsBack s (goes_on (told q s) (λ inside. remembers inside >> (body number >> leaving program at proc (length s.memory.cells))))
body_back program body at number proc h s (Ok inside) a =
    on_back s (record s { memory = inside }) (body number (record s { memory = inside })) (λ _. leaving program at proc (length s.memory.cells))
    (h (record s { memory = inside })) (λ way t k. leaving_back program at proc s inside a t k t.left)
body_back program body at number proc h s (Err e) a = tt

returns_entering : (program : Program) (body : ℕ → M Way) (at : Site) (number : ℕ) (args : List Argument) → Returns (body number) → Returns (entering program body at number args)
returns_entering program body at number args h s =
    told_back s s (procedure program number)
    (λ proc t. goes_on (told (entered program at number proc.dummies args t.memory) t) (λ inside. remembers inside >> (body number >> leaving program at proc (length t.memory.cells))))
    (λ proc. body_back program body at number proc h s (entered program at number proc.dummies args s.memory) (entered_above program at number proc.dummies args s.memory))

pub returns_called : (program : Program) (body : ℕ → M Way) (at : Site) (number : ℕ) (args : List Argument) → Returns (body number) → Returns (called program body at number args)
returns_called program body at number args h =
    returns_binds (asks (not_active at number)) (λ _. tick >> entering program body at number args) (λ s. returns_told (not_active at number s.memory) s) (λ _.
    returns_binds tick (λ _. entering program body at number args) returns_tick (λ _. returns_entering program body at number args h))

pub returning : Closed Returns (λ b A m n. Returns m)
returning = record {
  pures = λ b a. back_same;
  stops = λ b e s. tt;
  binds = λ b m n f g h k. returns_binds m f h k;
  ticks = λ b. returns_tick;
  asked = λ b question s. returns_told (question s.memory) s;
  put = λ b p v s. record { active = refl; places = length_stored p.first (contents_of p.units v) s.memory.cells };
  emitted = λ b bytes. λ s. record { active = refl; places = refl };
  taken = λ b s. returns_took s.input s;
  inputs = λ b f g h s. h (suc (length s.input)) s;
  loops = λ b test other turn round h k s. returns_turns (suc s.left) test turn h k s;
  calls = λ b program body other at number args h k below. returns_called program body at number args h;
}

pub bodies_return : (program : Program) (room number : ℕ) → Returns (bodies program room number)
bodies_return program zero number = λ s. tt
bodies_return program (suc room) number =
    returns_binds (told (procedure program number)) (λ proc. block program (bodies program room) proc.body) (returns_told (procedure program number)) (λ (proc : Procedure).
    block_kept Returns (λ b A m n. Returns m) returning program 0 (bodies program room) (bodies program room) (bodies_return program room) (bodies_return program room) (λ c h n. bodies_return program room n) proc.body)

pub blocks_return : (program : Program) (room : ℕ) (b : Block) → Returns (block program (bodies program room) b)
blocks_return program room b =
    block_kept Returns (λ b A m n. Returns m) returning program 0 (bodies program room) (bodies program room) (bodies_return program room) (bodies_return program room) (λ c h n. bodies_return program room n) b

pub values_return : (program : Program) (room : ℕ) (t : Term) → Returns (value_of program (bodies program room) t)
values_return program room t =
    value_kept Returns (λ b A m n. Returns m) returning program 0 (bodies program room) (bodies program room) (bodies_return program room) (bodies_return program room) (λ c h n. bodies_return program room n) t
