-- States of a run, and computations that go from one to the next (this project's own).
use Rattle.std.specs.Prelude.{ℕ, zero, suc, List, [], ◌∷◌, ◌++◌, length, Option, Some, None, Result, Ok, Err}
use Rattle.ftn_tree.specs.declared.value.Value.{Value}
use Rattle.core_prog.specs.Ends.{End, Cut}
use Rattle.core_prog.specs.Memory.{Memory, Place, with_value}

-- memory, the input that is left, the output so far, the steps that are left
pub record State : Type 0 where
  pub memory : Memory
  pub input : List ℕ
  pub output : List ℕ
  pub left : ℕ

-- a value and the state with which the run goes on, or how it ended and in which state
pub data Ran (A : Type 0) : Type 0 where
  Went : A → State → Ran A
  Ended : End → State → Ran A

abbrev pub M : Type 0 → Type 0
M A = State → Ran A

abbrev pub goes_on : {A B : Type 0} → Ran A → (A → M B) → Ran B
goes_on (Went a s) f = f a s
goes_on (Ended e s) f = Ended e s

infixl 10 ◌>>=◌
abbrev pub ◌>>=◌ : {A B : Type 0} → M A → (A → M B) → M B
m >>= f = λ s. goes_on (m s) f

infixl 10 ◌>>◌
abbrev pub ◌>>◌ : {A B : Type 0} → M A → M B → M B
m >> n = m >>= (λ _. n)

abbrev pub pure : {A : Type 0} → A → M A
pure a = λ s. Went a s

abbrev pub ends : {A : Type 0} → End → M A
ends e = λ s. Ended e s

abbrev pub ticked : ℕ → M (Unit {0})
ticked zero = ends Cut
ticked (suc n) = λ s. Went tt (record s { left = n })

-- one step
abbrev pub tick : M (Unit {0})
tick = λ s. ticked s.left s

abbrev pub told : {A : Type 0} → Result A End → M A
told (Ok a) = pure a
told (Err e) = ends e

-- what memory says
abbrev pub asks : {A : Type 0} → (Memory → Result A End) → M A
asks question = λ s. told (question s.memory) s

-- a value put into units
abbrev pub puts : Place → Value → M (Unit {0})
puts p value = λ s. Went tt (record s { memory = with_value p value s.memory })

abbrev pub remembers : Memory → M (Unit {0})
remembers memory = λ s. Went tt (record s { memory = memory })

abbrev pub emits : List ℕ → M (Unit {0})
emits bytes = λ s. Went tt (record s { output = s.output ++ bytes })

abbrev pub took : List ℕ → M (Option ℕ)
took [] = pure None
took (byte ∷ bytes) = tick >> (λ s. Went (Some byte) (record s { input = bytes }))

-- the next byte of the input, after its step; at the input's end none, without a step
abbrev pub takes : M (Option ℕ)
takes = λ s. took s.input s

-- what goes by the number of bytes that are left
abbrev pub by_input : {A : Type 0} → (ℕ → M A) → M A
by_input f = λ s. f (suc (length s.input)) s

-- how statements go on: with the next one, behind a DO construct, with its next turn (each told by the number of others inside it
-- that are left too), behind the call
pub data Way : Type 0 where
  GoOn : Way
  Exit : ℕ → Way
  Cycle : ℕ → Way
  Return : Way

-- the next statement is reached only where this one goes on
abbrev pub onward : M Way → Way → M Way
onward next GoOn = next
onward next way = pure way

-- what a DO construct makes of the way in which a turn ended
abbrev pub around : M Way → Way → M Way
around next GoOn = next
around next (Exit zero) = pure GoOn
around next (Exit (suc depth)) = pure (Exit depth)
around next (Cycle zero) = next
around next (Cycle (suc depth)) = pure (Cycle depth)
around next Return = pure Return
