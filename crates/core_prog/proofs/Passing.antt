-- Each computation of the language goes to a later state.
use Rattle.std.proofs.Common.{◌≡◌, ◌≤◌, ℕ, zero, suc, List, [], ◌∷◌, ◌++◌, length, refl, sym, ap, ◌∙◌, arith}
use Rattle.std.specs.Prelude.{Bool, true, false, if◌then◌else◌, Some, Result, Ok, Err}
use Rattle.std.proofs.lemmas.List.{append_assoc, append-nil}
use Rattle.core_prog.specs.declared.site.Site.{Site}
use Rattle.core_prog.specs.Ends.{End}
use Rattle.core_prog.specs.Memory.{Memory}
use Rattle.core_prog.specs.Programs.{Program, Procedure}
use Rattle.core_prog.specs.Holdings.{procedure}
use Rattle.core_prog.specs.Entries.{Argument, not_active}
use Rattle.core_prog.specs.Actions.{Block}
use Rattle.core_prog.specs.Terms.{Term}
use Rattle.core_prog.specs.States.{State, Ran, Went, Ended, M, goes_on, ◌>>=◌, ◌>>◌, pure, ticked, tick, told, asks, remembers, emits, took, Way, GoOn, Exit, Cycle, Return, around}
use Rattle.core_prog.specs.Values.{called, entering, value_of}
use Rattle.core_prog.specs.Statements.{turns, block}
use Rattle.core_prog.specs.Runs.{bodies}
use Rattle.core_prog.specs.Lasting.{Later, Passes, state_of}
use Rattle.core_prog.proofs.Closing.{Closed, Chained}
use Rattle.core_prog.proofs.Entering.{entering_chained}
use Rattle.core_prog.proofs.Keeping.{block_kept, value_kept}

no_more : (n : ℕ) → n ≤ n
no_more n = omega arith

-- memory alone may change
pub later_with : (s : State) (memory : Memory) → Later s (record s { memory = memory })
later_with s memory = record { steps = no_more s.left; added = []; output = sym (append-nil s.output); read = []; input = refl }

pub later_same : (s : State) → Later s s
later_same s = record { steps = no_more s.left; added = []; output = sym (append-nil s.output); read = []; input = refl }

at_most : (a b c : ℕ) → b ≤ a → c ≤ b → c ≤ a
at_most a b c h k = omega arith

pub joined : (a b c x y : List ℕ) → b ≡ a ++ x → c ≡ b ++ y → c ≡ a ++ (x ++ y)
joined a b c x y h k = k ∙ ap (λ z. z ++ y) h ∙ append_assoc a x y

pub later_then : (s t u : State) → Later s t → Later t u → Later s u
later_then s t u h k = record {
  steps = at_most s.left t.left u.left h.steps k.steps;
  added = h.added ++ k.added;
  output = joined s.output t.output u.output h.added k.added h.output k.output;
  read = h.read ++ k.read;
  input = h.input ∙ ap (λ z. h.read ++ z) k.input ∙ sym (append_assoc h.read k.read u.input);
}

pub passes_on : {A B : Type 0} (s : State) (r : Ran A) (f : A → M B) → Later s (state_of r) → ((a : A) → Passes (f a)) → Later s (state_of (goes_on r f))
passes_on s (Went a t) f h k = later_then s t (state_of (f a t)) h (k a t)
passes_on s (Ended e t) f h k = h

pub passes_binds : {A B : Type 0} (m : M A) (f : A → M B) → Passes m → ((a : A) → Passes (f a)) → Passes (m >>= f)
passes_binds m f h k s = passes_on s (m s) f (h s) k

less : (n total : ℕ) → total ≡ suc n → n ≤ total
less n total e = omega arith

passes_ticked : (n : ℕ) (s : State) → s.left ≡ n → Later s (state_of (ticked n s))
passes_ticked zero s e = later_same s
passes_ticked (suc n) s e = record { steps = less n s.left e; added = []; output = sym (append-nil s.output); read = []; input = refl }

pub passes_tick : Passes tick
passes_tick s = passes_ticked s.left s refl

pub passes_told : {A : Type 0} (r : Result A End) → Passes (told r)
passes_told (Ok a) s = later_same s
passes_told (Err e) s = later_same s

pub passes_asks : {A : Type 0} (question : Memory → Result A End) → Passes (asks question)
passes_asks question s = passes_told (question s.memory) s

pub passes_remembers : (memory : Memory) → Passes (remembers memory)
passes_remembers memory s = later_with s memory

passes_byte : (n : ℕ) (s : State) (byte : ℕ) (bytes : List ℕ) → s.left ≡ n → s.input ≡ byte ∷ bytes →
    Later s (state_of (goes_on (ticked n s) (λ _ t. Went (Some byte) (record t { input = bytes }))))
passes_byte zero s byte bytes e h = later_same s
passes_byte (suc n) s byte bytes e h = record { steps = less n s.left e; added = []; output = sym (append-nil s.output); read = byte ∷ []; input = h }

passes_took : (bytes : List ℕ) (s : State) → s.input ≡ bytes → Later s (state_of (took bytes s))
passes_took [] s h = later_same s
passes_took (byte ∷ bytes) s h = passes_byte s.left s byte bytes refl h

passes_emits : (bytes : List ℕ) → Passes (emits bytes)
passes_emits bytes s = record { steps = no_more s.left; added = bytes; output = refl; read = []; input = refl }

pub passes_around : (next : M Way) → Passes next → (way : Way) → Passes (around next way)
passes_around next h GoOn = h
passes_around next h (Exit zero) = later_same
passes_around next h (Exit (suc depth)) = later_same
passes_around next h (Cycle zero) = h
passes_around next h (Cycle (suc depth)) = later_same
passes_around next h Return = later_same

pub passes_turn : (again : Bool) (turn next : M Way) → Passes turn → Passes next → Passes (if again then tick >> (turn >>= (λ way. around next way)) else pure GoOn)
passes_turn true turn next h k = passes_binds tick _ passes_tick (λ _. passes_binds turn _ h (passes_around next k))
passes_turn false turn next h k = later_same

pub passes_turns : (n : ℕ) (test : M Bool) (turn : M Way) → Passes test → Passes turn → Passes (turns n test turn)
passes_turns zero test turn h k = later_same
passes_turns (suc n) test turn h k = passes_binds test _ h (λ again. passes_turn again turn (turns n test turn) k (passes_turns n test turn h k))

passing_chained : Chained (λ A m n. Passes m)
passing_chained = record {
  pures = λ a. later_same;
  stops = λ e. later_same;
  binds = λ m n f g h k. passes_binds m f h k;
  ticks = passes_tick;
  asked = λ question. passes_asks question;
  remembered = λ memory. passes_remembers memory;
}

pub passes_entering : (program : Program) (body : ℕ → M Way) (at : Site) (number : ℕ) (args : List Argument) → Passes (body number) → Passes (entering program body at number args)
passes_entering program body at number args h = entering_chained (λ A m n. Passes m) passing_chained program body body at number args h

pub passes_called : (program : Program) (body : ℕ → M Way) (at : Site) (number : ℕ) (args : List Argument) → Passes (body number) → Passes (called program body at number args)
passes_called program body at number args h =
    passes_binds (asks (not_active at number)) (λ _. tick >> entering program body at number args) (passes_asks (not_active at number)) (λ _.
    passes_binds tick (λ _. entering program body at number args) passes_tick (λ _. passes_entering program body at number args h))

pub passing : Closed Passes (λ b A m n. Passes m)
passing = record {
  pures = λ b a. later_same;
  stops = λ b e. later_same;
  binds = λ b m n f g h k. passes_binds m f h k;
  ticks = λ b. passes_tick;
  asked = λ b question. passes_asks question;
  put = λ b p v s. later_with s _;
  emitted = λ b bytes. passes_emits bytes;
  taken = λ b s. passes_took s.input s refl;
  inputs = λ b f g h s. h (suc (length s.input)) s;
  loops = λ b test other turn round h k s. passes_turns (suc s.left) test turn h k s;
  calls = λ b program body other at number args h k below. passes_called program body at number args h;
}

pub bodies_pass : (program : Program) (room number : ℕ) → Passes (bodies program room number)
bodies_pass program zero number = later_same
bodies_pass program (suc room) number =
    passes_binds (told (procedure program number)) (λ proc. block program (bodies program room) proc.body) (passes_told (procedure program number)) (λ (proc : Procedure).
    block_kept Passes (λ b A m n. Passes m) passing program 0 (bodies program room) (bodies program room) (bodies_pass program room) (bodies_pass program room) (λ c h n. bodies_pass program room n) proc.body)

pub blocks_pass : (program : Program) (room : ℕ) (b : Block) → Passes (block program (bodies program room) b)
blocks_pass program room b =
    block_kept Passes (λ b A m n. Passes m) passing program 0 (bodies program room) (bodies program room) (bodies_pass program room) (bodies_pass program room) (λ c h n. bodies_pass program room n) b

pub values_pass : (program : Program) (room : ℕ) (t : Term) → Passes (value_of program (bodies program room) t)
values_pass program room t =
    value_kept Passes (λ b A m n. Passes m) passing program 0 (bodies program room) (bodies program room) (bodies_pass program room) (bodies_pass program room) (λ c h n. bodies_pass program room n) t
