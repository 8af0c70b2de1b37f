-- The test for assignments tells exactly them.
use Rattle.std.proofs.Common.{◌≡◌, ◌≤◌, ◌<◌, ℕ, zero, suc, ◌+◌, ◌-◌, true, false, ◌||◌, if◌then◌else◌, List, [], ◌∷◌, ◌++◌, length, take, ◌⊎◌, inl, inr, refl, sym, ◌∙◌, ap, subst, append_assoc, arith}
use Rattle.std.specs.List.{All, flat_map}
use Rattle.std.proofs.lemmas.Bool.{lt-ltb, and_parts, and_from}
use Rattle.std.proofs.lemmas.List.Elements.{All-nil, All-cons, All-head, All-tail}
use Rattle.ftn_tree.specs.declared.token.Token.{Token}
use Rattle.ftn_tree.specs.declared.lexeme.Lexeme.{Lexeme}
use Rattle.ftn_tree.specs.declared.lexeme.Lexeme.TheVariants as lexeme
use Rattle.ftn_tree.specs.Lexemes.{lexeme_of}
use Rattle.ftn_tree.specs.Misfits.{is_open_at, is_close_at, is_equals_at, depth_at, is_open, is_close, is_name, depth_after}
use Rattle.ftn_tree.specs.Assignments.{opens, closes, IsGroup, is_equals, IsAssignment, leads_to_equals, is_assignment}

-- ---- one token

-- it opens, it closes, or it does neither
record Opens (here : Token) : Type 0 where
  begins : is_open here ≡ true
  others : is_close here ≡ false
  deeper : (d : ℕ) → depth_after d here ≡ d + 1

record Closes (here : Token) : Type 0 where
  ends : is_close here ≡ true
  others : is_open here ≡ false
  higher : (d : ℕ) → depth_after d here ≡ d - 1

record Passes (here : Token) : Type 0 where
  opens_not : is_open here ≡ false
  closes_not : is_close here ≡ false
  same : (d : ℕ) → depth_after d here ≡ d

abbrev Part : Token → Type 0
Part here = Opens here ⊎ Closes here ⊎ Passes here

part_by : (here : Token) (kind : Lexeme) → lexeme_of here ≡ kind → Part here
part_by here lexeme.Open e = inl (record { begins = ap is_open_at e; others = ap is_close_at e; deeper = λ d. ap (depth_at d) e })
part_by here lexeme.Close e = inr (inl (record { ends = ap is_close_at e; others = ap is_open_at e; higher = λ d. ap (depth_at d) e }))
part_by here _ e = inr (inr (record { opens_not = ap is_open_at e; closes_not = ap is_close_at e; same = λ d. ap (depth_at d) e }))

part : (here : Token) → Part here
part here = part_by here (lexeme_of here) refl

-- ---- a row that closes parentheses which were open before it

record Shuts (depth : ℕ) (row : List Token) : Type 0 where
  even : depth + opens row ≡ closes row
  within : (n : ℕ) → n < length row → closes (take n row) < depth + opens (take n row)

counts_opens : (here : Token) (rest : List Token) → is_open here ≡ true → is_close here ≡ false → (opens (here ∷ rest) ≡ suc (opens rest)) × (closes (here ∷ rest) ≡ closes rest)
counts_opens here rest o c = ((rw o refl), (rw c refl))

counts_closes : (here : Token) (rest : List Token) → is_close here ≡ true → is_open here ≡ false → (opens (here ∷ rest) ≡ opens rest) × (closes (here ∷ rest) ≡ suc (closes rest))
counts_closes here rest c o = ((rw o refl), (rw c refl))

counts_passes : (here : Token) (rest : List Token) → is_open here ≡ false → is_close here ≡ false → (opens (here ∷ rest) ≡ opens rest) × (closes (here ∷ rest) ≡ closes rest)
counts_passes here rest o c = ((rw o refl), (rw c refl))

-- one token on, the balance is that of the depth after it
balance : (depth : ℕ) (here : Token) (rest : List Token) → 0 < depth → depth + opens (here ∷ rest) + closes rest ≡ closes (here ∷ rest) + (depth_after depth here + opens rest)
balance depth here rest some = of (part here) where
  of : Part here → depth + opens (here ∷ rest) + closes rest ≡ closes (here ∷ rest) + (depth_after depth here + opens rest)
  of (inl p) = let (o, c) = counts_opens here rest p.begins p.others in let e = p.deeper depth in omega arith
  of (inr (inl p)) = let (o, c) = counts_closes here rest p.ends p.others in let e = p.higher depth in omega arith
  of (inr (inr p)) = let (o, c) = counts_passes here rest p.opens_not p.closes_not in let e = p.same depth in omega arith

shuts_none : (depth : ℕ) → Shuts depth [] → depth ≡ 0
shuts_none depth shuts = let e : depth + 0 ≡ 0 = shuts.even in omega arith

none_shuts : Shuts 0 []
none_shuts = record { even = refl; within = λ n lt. omega (arith, lt) }

shuts_some : (depth : ℕ) (here : Token) (rest : List Token) → Shuts depth (here ∷ rest) → 0 < depth
shuts_some depth here rest shuts =
    let none : 0 < length (here ∷ rest) = omega arith in
    let first : 0 < depth + 0 = shuts.within 0 none in
    omega arith

shuts_rest : (depth : ℕ) (here : Token) (rest : List Token) → Shuts depth (here ∷ rest) → Shuts (depth_after depth here) rest
shuts_rest depth here rest shuts = record { even = even; within = within } where
  some : 0 < depth
  some = shuts_some depth here rest shuts

  even : depth_after depth here + opens rest ≡ closes rest
  even = let b = balance depth here rest some in let e = shuts.even in omega arith

  within : (n : ℕ) → n < length rest → closes (take n rest) < depth_after depth here + opens (take n rest)
  within n lt =
      let more : suc n < length (here ∷ rest) = omega arith in
      let b = balance depth here (take n rest) some in
      let e = shuts.within (suc n) more in
      omega arith

rest_shuts : (depth : ℕ) (here : Token) (rest : List Token) → 0 < depth → Shuts (depth_after depth here) rest → Shuts depth (here ∷ rest)
rest_shuts depth here rest some shuts = record { even = even; within = within } where
  even : depth + opens (here ∷ rest) ≡ closes (here ∷ rest)
  even = let b = balance depth here rest some in let e = shuts.even in omega arith

  within : (n : ℕ) → n < length (here ∷ rest) → closes (take n (here ∷ rest)) < depth + opens (take n (here ∷ rest))
  within zero lt = omega arith
  within (suc n) lt =
      let less : n < length rest = omega arith in
      let b = balance depth here (take n rest) some in
      let e = shuts.within n less in
      omega arith

-- ---- a group is `(` and a row that closes it

group_rest : (here : Token) (rest : List Token) → IsGroup (here ∷ rest) → Shuts 1 rest
group_rest here rest group = of (part here) where
  of : Part here → Shuts 1 rest
  of (inl p) = record {
    even = let (o, c) = counts_opens here rest p.begins p.others in let e = group.balanced in omega arith;
    within = λ n lt.
        let (o, c) = counts_opens here (take n rest) p.begins p.others in
        let one : 1 ≤ suc n = omega arith in
        let more : suc n < length (here ∷ rest) = omega arith in
        let e = group.within (suc n) one more in
        omega arith;
  }
  of (inr (inl p)) = let e : true ≡ false = sym group.begins ∙ p.others in cc
  of (inr (inr p)) = let e : true ≡ false = sym group.begins ∙ p.opens_not in cc

rest_group : (here : Token) (rest : List Token) → is_open here ≡ true → Shuts 1 rest → IsGroup (here ∷ rest)
rest_group here rest begins shuts = of (part here) where
  of : Part here → IsGroup (here ∷ rest)
  of (inl p) = record { begins = begins; balanced = let (o, c) = counts_opens here rest p.begins p.others in let e = shuts.even in omega arith; within = within } where
    within : (n : ℕ) → 1 ≤ n → n < length (here ∷ rest) → closes (take n (here ∷ rest)) < opens (take n (here ∷ rest))
    within zero one lt = omega arith
    within (suc n) one lt =
        let (o, c) = counts_opens here (take n rest) p.begins p.others in
        let less : n < length rest = omega arith in
        let e = shuts.within n less in
        omega arith
  of (inr (inl p)) = let e : true ≡ false = sym begins ∙ p.others in cc
  of (inr (inr p)) = let e : true ≡ false = sym begins ∙ p.opens_not in cc

-- ---- what is told is one

flat : List (List Token) → List Token
flat groups = flat_map (λ group. group) groups

-- a row that leads to `=`, where so many parentheses are open
record Leads (depth : ℕ) (row : List Token) : Type 0 where
  before : List Token
  groups : List (List Token)
  equals : Token
  value : List Token
  row_is : row ≡ before ++ (flat_map (λ group. group) groups ++ equals ∷ value)
  shuts : Shuts depth before
  grouped : All IsGroup groups
  equal : is_equals equals ≡ true

at_equals : (here : Token) (rest : List Token) → is_equals here ≡ true → Leads 0 (here ∷ rest)
at_equals here rest equal = record { before = []; groups = []; equals = here; value = rest; row_is = refl; shuts = none_shuts; grouped = All-nil IsGroup; equal = equal }

opening : (here : Token) (rest : List Token) → is_open here ≡ true → Leads 1 rest → Leads 0 (here ∷ rest)
opening here rest begins leads = record {
  before = [];
  groups = (here ∷ leads.before) ∷ leads.groups;
  equals = leads.equals;
  value = leads.value;
  row_is = ap (λ row. here ∷ row) leads.row_is ∙ sym (ap (λ row. here ∷ row) (append_assoc leads.before (flat_map (λ group. group) leads.groups) (leads.equals ∷ leads.value)));
  shuts = none_shuts;
  grouped = All-cons IsGroup (here ∷ leads.before) leads.groups (rest_group here leads.before begins leads.shuts) leads.grouped;
  equal = leads.equal;
}

onward : (depth : ℕ) (here : Token) (rest : List Token) → 0 < depth → Leads (depth_after depth here) rest → Leads depth (here ∷ rest)
onward depth here rest some leads = record {
  before = here ∷ leads.before;
  groups = leads.groups;
  equals = leads.equals;
  value = leads.value;
  row_is = ap (λ row. here ∷ row) leads.row_is;
  shuts = rest_shuts depth here leads.before some leads.shuts;
  grouped = leads.grouped;
  equal = leads.equal;
}

-- inside parentheses any token may come
passing : (depth : ℕ) (here : Token) (rest : List Token) → 0 < depth → leads_to_equals depth (here ∷ rest) ≡ leads_to_equals (depth_after depth here) rest
passing depth here rest some = ap (λ inside. if inside || is_open here then leads_to_equals (depth_after depth here) rest else is_equals here) (lt-ltb 0 depth some)

begun : (here : Token) (rest : List Token) → leads_to_equals 0 (here ∷ rest) ≡ true → (leads_to_equals (depth_after 0 here) rest ≡ true → Leads (depth_after 0 here) rest) → Leads 0 (here ∷ rest)
begun here rest told inner = of (part here) where
  of : Part here → Leads 0 (here ∷ rest)
  of (inl p) = opening here rest p.begins (subst (λ depth. Leads depth rest) (p.deeper 0) (inner (rw p.begins at told)))
  of (inr (inl p)) = at_equals here rest (rw p.others at told)
  of (inr (inr p)) = at_equals here rest (rw p.opens_not at told)

leads_from : (depth : ℕ) (row : List Token) → leads_to_equals depth row ≡ true → Leads depth row
leads_from depth [] told = let e : false ≡ true = told in cc
leads_from zero (here ∷ rest) told = begun here rest told (leads_from (depth_after 0 here) rest)
leads_from (suc depth) (here ∷ rest) told =
    onward (suc depth) here rest (omega arith) (leads_from (depth_after (suc depth) here) rest (sym (passing (suc depth) here rest (omega arith)) ∙ told))

pub assignment_told : (row : List Token) → is_assignment row ≡ true → IsAssignment row
unfolding is_assignment
assignment_told [] told = let e : false ≡ true = told in cc
assignment_told (first ∷ rest) told =
    let (named, leads_on) = and_parts (is_name first) (leads_to_equals 0 rest) told in
    of named (leads_from 0 rest leads_on) where
      of : is_name first ≡ true → Leads 0 rest → IsAssignment (first ∷ rest)
      of named leads = record {
        first = first;
        groups = leads.groups;
        equals = leads.equals;
        value = leads.value;
        row_is = ap (λ row. first ∷ row) (leads.row_is ∙ ap (λ before. before ++ (flat_map (λ group. group) leads.groups ++ leads.equals ∷ leads.value)) (nothing leads.before leads.shuts));
        named = named;
        grouped = leads.grouped;
        equal = leads.equal;
      } where
        nothing : (before : List Token) → Shuts 0 before → before ≡ []
        nothing [] shuts = refl
        nothing (here ∷ before) shuts = let e = shuts_some 0 here before shuts in absurd (omega arith)

-- ---- what is one is told

past : (depth : ℕ) (before rest : List Token) → Shuts depth before → leads_to_equals depth (before ++ rest) ≡ leads_to_equals 0 rest
past depth [] rest shuts = ap (λ d. leads_to_equals d rest) (shuts_none depth shuts)
past zero (here ∷ before) rest shuts = absurd (omega (arith, shuts_some 0 here before shuts))
past (suc depth) (here ∷ before) rest shuts =
    passing (suc depth) here (before ++ rest) (omega arith) ∙ past (depth_after (suc depth) here) before rest (shuts_rest (suc depth) here before shuts)

past_group : (group rest : List Token) → IsGroup group → leads_to_equals 0 (group ++ rest) ≡ leads_to_equals 0 rest
past_group [] rest g = let e : false ≡ true = g.begins in cc
past_group (here ∷ inner) rest g = of (part here) where
  of : Part here → leads_to_equals 0 ((here ∷ inner) ++ rest) ≡ leads_to_equals 0 rest
  of (inl p) = rw p.begins (ap (λ depth. leads_to_equals depth (inner ++ rest)) (p.deeper 0) ∙ past 1 inner rest (group_rest here inner g))
  of (inr (inl p)) = let e : true ≡ false = sym g.begins ∙ p.others in cc
  of (inr (inr p)) = let e : true ≡ false = sym g.begins ∙ p.opens_not in cc

past_groups : (groups : List (List Token)) (rest : List Token) → All IsGroup groups → leads_to_equals 0 (flat_map (λ group. group) groups ++ rest) ≡ leads_to_equals 0 rest
past_groups [] rest grouped = refl
past_groups (group ∷ groups) rest grouped =
    ap (leads_to_equals 0) (append_assoc group (flat_map (λ group. group) groups) rest)
    ∙ past_group group (flat_map (λ group. group) groups ++ rest) (All-head IsGroup group groups grouped)
    ∙ past_groups groups rest (All-tail IsGroup group groups grouped)

told_equals : (here : Token) (rest : List Token) → is_equals here ≡ true → leads_to_equals 0 (here ∷ rest) ≡ true
told_equals here rest equal = by (lexeme_of here) refl where
  by : (kind : Lexeme) → lexeme_of here ≡ kind → leads_to_equals 0 (here ∷ rest) ≡ true
  by lexeme.Open e = let e : false ≡ true = sym (ap is_equals_at e) ∙ equal in cc
  by _ e = rw (ap is_open_at e) equal

pub told_assignment : (row : List Token) → IsAssignment row → is_assignment row ≡ true
unfolding is_assignment
told_assignment row a =
    ap is_assignment a.row_is
    ∙ and_from (is_name a.first) (leads_to_equals 0 (flat_map (λ group. group) a.groups ++ a.equals ∷ a.value)) a.named
    (past_groups a.groups (a.equals ∷ a.value) a.grouped ∙ told_equals a.equals a.value a.equal)
