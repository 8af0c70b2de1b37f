-- The next statement of a file that was read so far.
use Rattle.std.proofs.Common.{◌≡◌, ◌⊎◌, ℕ, suc, ◌+◌, ◌<◌, Bool, List, [], ◌∷◌, ◌++◌, length, map, take, drop, get_or, Ok, Err, inl, inr, refl, sym, ◌∙◌, ap, subst, append_assoc, arith}
use Rattle.std.proofs.lemmas.List.{map-append, length-map, length-append, take-append-drop, take_more}
use Rattle.ftn_base.specs.declared.fault.FaultKind.{FaultKind}
use Rattle.ftn_base.specs.declared.fault.FaultKind.TheVariants as kinds
use Rattle.ftn_base.specs.declared.place.Range.{Range}
use Rattle.ftn_tree.specs.declared.form.Form.{Form}
use Rattle.ftn_tree.specs.declared.mark.Mark.{Mark}
use Rattle.ftn_tree.specs.declared.token.Tokens.{Tokens}
use Rattle.ftn_tree.specs.declared.unit.FileTree.{FileTree}
use Rattle.ftn_tree.specs.declared.unit.Statement.{Statement}
use Rattle.ftn_tree.specs.Marks.{mark_of}
use Rattle.ftn_tree.specs.Nesting.{Begins}
use Rattle.ftn_tree.specs.NestFaults.{marks_of, same_name, IsRefused}
use Rattle.ftn_tree.specs.FileFaults.{IsRead, AreRead, IsMisread, IsFileTree, IsStatementFault, first_bytes}
use Rattle.unit_parse.specs.declared.fault.NestFault.{NestFault}
use Rattle.unit_parse.specs.declared.fault.NestFault.TheVariants as nest
use Rattle.unit_parse.specs.declared.fault.ParseFault.{ParseFault}
use Rattle.unit_parse.specs.declared.fault.ParseFault.TheVariants as fault
use Rattle.unit_parse.specs.declared.statements.Reading.{Reading}
use Rattle.unit_parse.specs.Taking.{State, Outcome, start, go_on, Takes, take as take_mark, take_all}
use Rattle.unit_parse.specs.steps.Progress.{IsForm, AddsForm, Holds, Goes, Stays, Stops, StopsAt, refused, nothing}
use Rattle.unit_parse.proofs.Reached.{reached, reached_none}
use Rattle.unit_parse.proofs.Closed.{begins}
use Rattle.unit_parse.proofs.Unended.{openings}
use Rattle.unit_parse.proofs.LeftOpen.{leaves_open}
use Rattle.unit_parse.proofs.Answers.{goes_through, takes_none, kind_is}

-- ---- lists

-- what a read past the end would give
abbrev pub none : Range
none = record { start = 0; end = 0 }

split_at : (ranges : List Range) (i : ℕ) → i < length ranges → ranges ≡ take i ranges ++ get_or ranges i none ∷ drop (i + 1) ranges
split_at ranges i low =
    sym (take-append-drop (i + 1) ranges)
    ∙ ap (λ (l : List Range). l ++ drop (i + 1) ranges) (take_more ranges i none low)
    ∙ append_assoc (take i ranges) (get_or ranges i none ∷ []) (drop (i + 1) ranges)

marks_more : (statements : List Statement) (statement : Statement) → marks_of (statements ++ statement ∷ []) ≡ marks_of statements ++ mark_of statement.form ∷ []
marks_more statements statement = map-append (λ (s : Statement). mark_of s.form) statements (statement ∷ [])

pub marks_length : (statements : List Statement) → length (marks_of statements) ≡ length statements
marks_length statements = length-map statements (λ (s : Statement). mark_of s.form)

module _ (tokens : Tokens) where
  -- what reads two lists of ranges is two lists
  pub parted : (ranges : List Range) (statements : List Statement) (more : List Range) → AreRead tokens (ranges ++ more) statements
      → (front : List Statement) × (rest : List Statement) × (statements ≡ front ++ rest) × AreRead tokens ranges front × AreRead tokens more rest
  parted [] statements more are = ([], statements, refl, tt, are)
  parted (range ∷ ranges) [] more are = absurd are
  parted (range ∷ ranges) (statement ∷ statements) more are =
      let parts = parted ranges statements more are.1 in
      (statement ∷ parts.0, parts.1, ap (λ (l : List Statement). statement ∷ l) parts.2, (are.0, parts.3), parts.4)

  one_read : (range : Range) (statements : List Statement) → AreRead tokens (range ∷ []) statements → (statement : Statement) × (statements ≡ statement ∷ []) × IsRead tokens range statement
  one_read range [] are = absurd are
  one_read range (statement ∷ []) are = (statement, refl, are.0)
  one_read range (statement ∷ other ∷ statements) are = absurd are.1

  pub first_read : (range : Range) (more : List Range) (statements : List Statement) → AreRead tokens (range ∷ more) statements
      → (statement : Statement) × (rest : List Statement) × (statements ≡ statement ∷ rest) × IsRead tokens range statement
  first_read range more [] are = absurd are
  first_read range more (statement ∷ rest) are = (statement, rest, refl, are.0)

  read_more : (ranges : List Range) (statements : List Statement) (range : Range) (statement : Statement) → AreRead tokens ranges statements → IsRead tokens range statement
      → AreRead tokens (ranges ++ range ∷ []) (statements ++ statement ∷ [])
  read_more [] [] range statement are one = (one, tt)
  read_more [] (s ∷ statements) range statement are one = absurd are
  read_more (r ∷ ranges) [] range statement are one = absurd are
  read_more (r ∷ ranges) (s ∷ statements) range statement are one = (are.0, read_more ranges statements range statement are.1 one)

  -- a longer list is a list and one more
  only_more : (ranges : List Range) (statements : List Statement) (range : Range) (statement : Statement)
      → ((others : List Statement) → AreRead tokens ranges others → others ≡ statements) → ((other : Statement) → IsRead tokens range other → other ≡ statement)
      → (others : List Statement) → AreRead tokens (ranges ++ range ∷ []) others → others ≡ statements ++ statement ∷ []
  only_more ranges statements range statement only one others are =
      let parts = parted ranges others (range ∷ []) are in
      let last = one_read range parts.1 parts.4 in
      parts.2
      ∙ ap (λ (l : List Statement). l ++ parts.1) (only parts.0 parts.3)
      ∙ ap (λ (l : List Statement). statements ++ l) (last.1 ∙ ap (λ (s : Statement). s ∷ []) (one last.0 last.2))

  pub read_length : (ranges : List Range) (statements : List Statement) → AreRead tokens ranges statements → length statements ≡ length ranges
  read_length [] [] are = refl
  read_length [] (s ∷ statements) are = absurd are
  read_length (r ∷ ranges) [] are = absurd are
  read_length (r ∷ ranges) (s ∷ statements) are = ap (λ (n : ℕ). suc n) (read_length ranges statements are.1)

-- ---- what the nesting takes and refuses

module _ (same : ℕ → ℕ → Bool) where
  one_step : (s next : State) (n : ℕ) (m : Mark) → take_mark same s n m ≡ Ok next → take_all same s n (m ∷ []) ≡ Ok next
  one_step s next n m e = ap (λ (o : Outcome). go_on o n (λ s. take_all same s (n + 1) [])) e

  takes_more : (front : List Mark) (m : Mark) (last next : State) → take_all same start 0 front ≡ Ok last → take_mark same last (length front) m ≡ Ok next
      → take_all same start 0 (front ++ m ∷ []) ≡ Ok next
  takes_more front m last next before is =
      let from_none : length front ≡ 0 + length front = omega arith in
      goes_through same front start last 0 (m ∷ []) before
      ∙ one_step last next (0 + length front) m (subst (λ (n : ℕ). take_mark same last n m ≡ Ok next) from_none is)

  refuses : (front : List Mark) (m : Mark) (last : State) (kind : FaultKind) → take_all same start 0 front ≡ Ok last → take_mark same last (length front) m ≡ Err kind
      → IsRefused same (front ++ m ∷ []) kind (length front)
  refuses front m last kind before stops = record {
    front = front;
    refused = m;
    rest = [];
    whole = refl;
    place = refl;
    before = begins same front last (reached same front [] start last 0 (reached_none same) before);
    after = takes_none same front m last (length front) kind (omega arith) before stops;
    path = openings last.frames;
    leaves = leaves_open same front last before;
    kind_is = kind_is same front last (length front) m kind before stops;
  }

-- ---- one statement

module _ (tokens : Tokens) (range : Range) where
  moved : (s t : State) (n k : ℕ) (m l : Mark) (o : Outcome) → s ≡ t → n ≡ k → m ≡ l → take_mark (same_name tokens) s n m ≡ o → take_mark (same_name tokens) t k l ≡ o
  moved s t n k m l o one two three e =
      ap (λ (x : State). take_mark (same_name tokens) x k l) (sym one)
      ∙ ap (λ (x : ℕ). take_mark (same_name tokens) s x l) (sym two)
      ∙ ap (λ (x : Mark). take_mark (same_name tokens) s n x) (sym three)
      ∙ e

  module _ (old mid : Reading) (form : Form) (m : Mark) (number : ℕ)
      (is : IsForm tokens range (Ok form)) (adds : AddsForm old form range (Ok m) mid) (numbers : number ≡ length old.statements) where
    abbrev made : Statement
    made = record { form = form; tokens = range }

    same_made : (other : Statement) → IsRead tokens range other → other ≡ made
    same_made other read =
        let is_form : other.form ≡ form = is.2 other.form read.says in
        let is_range : other.tokens ≡ range = read.place in
        ap (λ (f : Form). record { form = f; tokens = other.tokens }) is_form ∙ ap (λ (r : Range). record { form = form; tokens = r }) is_range

    made_read : IsRead tokens range made
    made_read = record { place = refl; shallow = is.0; says = is.1 }

    taken_as : (o : Outcome) → take_mark (same_name tokens) mid.nesting number m ≡ o → take_mark (same_name tokens) old.nesting (length old.statements) (mark_of form) ≡ o
    taken_as o e = moved mid.nesting old.nesting number (length old.statements) m (mark_of form) o (ap (λ (r : Reading). r.nesting) adds.1) numbers adds.0 e

    pub goes : (s : State) → take_mark (same_name tokens) mid.nesting number m ≡ Ok s → Goes tokens range old (record { statements = mid.statements; nesting = s })
    goes s e = record {
      statement = made;
      read = made_read;
      only = same_made;
      statements = ap (λ (r : Reading). r.statements) adds.1;
      taken = taken_as (Ok s) e;
    }

    pub stays : (found : NestFault) (s : State) (bytes : Range) → Takes (take_mark (same_name tokens) mid.nesting number m) (Err found) number s → bytes ≡ first_bytes tokens range
        → Stops tokens range old (refused found bytes)
    stays (nest.At kind statement) s bytes takes place = (inr (record { statement = made; read = made_read; only = same_made; refused = taken_as (Err kind) takes.0 }), place)
    stays nest.NoMemory s bytes takes place = tt

-- ---- the steps of the loop

module _ (tokens : Tokens) (i : ℕ) (low : i < length tokens.statements) where
  abbrev here : Range
  here = get_or tokens.statements i none

  abbrev WasRead : ℕ → Reading → Type 0
  WasRead n reading = Holds tokens (take n tokens.statements) reading × (length reading.statements ≡ n)

  numbered : (old : Reading) (m : Mark) (o : Outcome) → take_mark (same_name tokens) old.nesting (length old.statements) m ≡ o
      → take_mark (same_name tokens) old.nesting (length (marks_of old.statements)) m ≡ o
  numbered old m o e = subst (λ (n : ℕ). take_mark (same_name tokens) old.nesting n m ≡ o) (sym (marks_length old.statements)) e

  holds_next : (old new : Reading) → Holds tokens (take i tokens.statements) old → Goes tokens here old new → Holds tokens (take (i + 1) tokens.statements) new
  holds_next old new was goes =
      let statement = goes.statement in
      record {
        read =
            subst (λ (l : List Range). AreRead tokens l new.statements) (sym (take_more tokens.statements i none low))
            (subst (λ (l : List Statement). AreRead tokens (take i tokens.statements ++ here ∷ []) l) (sym goes.statements)
            (read_more tokens (take i tokens.statements) old.statements here statement was.read goes.read));
        only =
            λ others are.
            only_more tokens (take i tokens.statements) old.statements here statement was.only goes.only others
            (subst (λ (l : List Range). AreRead tokens l others) (take_more tokens.statements i none low) are)
            ∙ sym goes.statements;
        taken =
            ap (λ (l : List Statement). take_all (same_name tokens) start 0 (marks_of l)) goes.statements
            ∙ ap (λ (l : List Mark). take_all (same_name tokens) start 0 l) (marks_more old.statements statement)
            ∙ takes_more (same_name tokens) (marks_of old.statements) (mark_of statement.form) old.nesting new.nesting was.taken
            (numbered old (mark_of statement.form) (Ok new.nesting) goes.taken);
      }

  one_longer : (old new : Reading) → length old.statements ≡ i → Goes tokens here old new → length new.statements ≡ i + 1
  one_longer old new long goes =
      ap (λ (l : List Statement). length l) goes.statements
      ∙ length-append old.statements (goes.statement ∷ [])
      ∙ ap (λ (n : ℕ). n + 1) long

  pub read_next : (old new : Reading) → WasRead i old → Goes tokens here old new → WasRead (i + 1) new
  read_next old new was goes = (holds_next old new was.0 goes, one_longer old new was.1 goes)

  begun : (old : Reading) → Holds tokens (take i tokens.statements) old → Begins (same_name tokens) (marks_of old.statements)
  begun old was =
      begins (same_name tokens) (marks_of old.statements) old.nesting
      (reached (same_name tokens) (marks_of old.statements) [] start old.nesting 0 (reached_none (same_name tokens)) was.taken)

  is_refused : (old : Reading) (kind : FaultKind) → Holds tokens (take i tokens.statements) old → (stays : Stays tokens here old kind)
      → IsRefused (same_name tokens) (marks_of (old.statements ++ stays.statement ∷ [])) kind (length old.statements)
  is_refused old kind was stays =
      subst (λ (n : ℕ). IsRefused (same_name tokens) (marks_of (old.statements ++ stays.statement ∷ [])) kind n) (marks_length old.statements)
      (subst (λ (l : List Mark). IsRefused (same_name tokens) l kind (length (marks_of old.statements))) (sym (marks_more old.statements stays.statement))
      (refuses (same_name tokens) (marks_of old.statements) (mark_of stays.statement.form) old.nesting kind was.taken
      (numbered old (mark_of stays.statement.form) (Err kind) stays.refused)))

  fault_of : (old : Reading) (kind : FaultKind) → Holds tokens (take i tokens.statements) old → IsMisread tokens here kind ⊎ Stays tokens here old kind
      → IsMisread tokens here kind
      ⊎ ((statement : Statement) × IsRead tokens here statement × IsRefused (same_name tokens) (marks_of (old.statements ++ statement ∷ [])) kind (length old.statements))
  fault_of old kind was (inl misread) = inl misread
  fault_of old kind was (inr stays) = inr (stays.statement, stays.read, is_refused old kind was stays)

  -- the statements of a tree go on from those before with one that these tokens say
  module _ (tree : FileTree) (is : IsFileTree tokens tree) where
    ahead : (front : List Statement) × (rest : List Statement) × (tree.statements ≡ front ++ rest) × AreRead tokens (take i tokens.statements) front × AreRead tokens (here ∷ drop (i + 1) tokens.statements) rest
    ahead = parted tokens (take i tokens.statements) tree.statements (here ∷ drop (i + 1) tokens.statements) (subst (λ (l : List Range). AreRead tokens l tree.statements) (split_at tokens.statements i low) is.read)

    next : (statement : Statement) × (rest : List Statement) × (ahead.1 ≡ statement ∷ rest) × IsRead tokens here statement
    next = first_read tokens here (drop (i + 1) tokens.statements) ahead.1 ahead.4

    misread_tree : (kind : FaultKind) → IsMisread tokens here kind → ⊥
    misread_tree kinds.TooDeep wrong = next.3.shallow wrong
    misread_tree kinds.OutOfProfile wrong = wrong.1 next.0.form next.3.says
    misread_tree kinds.NotAStatement wrong = wrong.1 next.0.form next.3.says
    misread_tree other wrong = absurd wrong

    refused_tree : (old : Reading) (kind : FaultKind) → Holds tokens (take i tokens.statements) old → Stays tokens here old kind → ⊥
    refused_tree old kind was stays =
        let whole : tree.statements ≡ old.statements ++ stays.statement ∷ next.1 =
        ahead.2
        ∙ ap (λ (l : List Statement). l ++ ahead.1) (was.only ahead.0 ahead.3)
        ∙ ap (λ (l : List Statement). old.statements ++ l) (next.2 ∙ ap (λ (s : Statement). s ∷ next.1) (stays.only next.0 next.3)) in
        let marks : marks_of tree.statements ≡ (marks_of old.statements ++ mark_of stays.statement.form ∷ []) ++ marks_of next.1 =
        ap (λ (l : List Statement). marks_of l) whole
        ∙ map-append (λ (s : Statement). mark_of s.form) old.statements (stays.statement ∷ next.1)
        ∙ sym (append_assoc (marks_of old.statements) (mark_of stays.statement.form ∷ []) (marks_of next.1)) in
        takes_none (same_name tokens) (marks_of old.statements) (mark_of stays.statement.form) old.nesting (length (marks_of old.statements)) kind (omega arith) was.taken
        (numbered old (mark_of stays.statement.form) (Err kind) stays.refused)
        (is.nested.0, marks_of next.1, is.nested.1, is.nested.2 ∙ marks)

    no_tree_here : (old : Reading) (kind : FaultKind) → Holds tokens (take i tokens.statements) old → IsMisread tokens here kind ⊎ Stays tokens here old kind → ⊥
    no_tree_here old kind was (inl wrong) = misread_tree kind wrong
    no_tree_here old kind was (inr stays) = refused_tree old kind was stays

  pub stops_here : (old : Reading) (found : ParseFault) → WasRead i old → Stops tokens here old found → StopsAt tokens found
  stops_here old (fault.At kind bytes) was stops = (
    record {
      before = take i tokens.statements;
      here = here;
      after = drop (i + 1) tokens.statements;
      whole = split_at tokens.statements i low;
      statements = old.statements;
      read = was.0.read;
      begins = begun old was.0;
      fault = fault_of old kind was.0 stops.0;
      place = stops.1;
    },
    λ tree is. no_tree_here tree is old kind was.0 stops.0,
  )
  stops_here old fault.NoMemory was stops = tt

-- ---- the begin of the loop

alone : (tokens : Tokens) (others : List Statement) → AreRead tokens [] others → others ≡ []
alone tokens [] are = refl
alone tokens (statement ∷ others) are = absurd are

pub holds_none : (tokens : Tokens) → Holds tokens [] nothing
holds_none tokens = record { read = tt; only = λ others are. alone tokens others are; taken = refl }
