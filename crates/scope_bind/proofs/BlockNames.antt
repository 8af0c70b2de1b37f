-- Whether a common block has a name.
use Rattle.std.proofs.Common.{◌≡◌, ℕ, Bool, true, false, ◌||◌, List, [], ◌∷◌, ◌++◌, Option, Some, None, map, refl, sym, ap, ◌∙◌, arith, bytes_eq, if◌then◌else◌}
use Rattle.std.specs.List.{list_any}
use Rattle.std.proofs.lemmas.Slice.Eq.{bytes_eq-Decides}
use Rattle.ftn_tree.specs.declared.unit.FileTree.{FileTree}
use Rattle.ftn_tree.specs.GlobalNames.{Global, Place, place, same_name, firsts_after, blocks, block_names, program_units}
use Rattle.ftn_tree.specs.Scopes.{name_at}
use Rattle.decl_table.specs.declared.block_names.TokenAt.{TokenAt}
use Rattle.decl_table.specs.steps.Blocks.{global_of, names_of}
use Rattle.decl_table.proofs.FirstBlocks.{all_given}
use Rattle.scope_bind.specs.steps.Globals.{is_block}

abbrev has : List ℕ → List Global → Bool
has name globals = list_any (λ (g : Global). same_name g.name (Some name)) globals

same_as : (one other : Option (List ℕ)) (name : List ℕ) → same_name one other ≡ true → same_name other (Some name) ≡ same_name one (Some name)
same_as None None name is = refl
same_as None (Some b) name is = absurd (cc is)
same_as (Some a) None name is = absurd (cc is)
same_as (Some a) (Some b) name is = ap (λ x. bytes_eq x name) (sym ((bytes_eq-Decides a b).0 (grind arith)))

absorbed : (seen : List Global) (g : Global) (name : List ℕ) → list_any (λ earlier. same_name earlier.name g.name) seen ≡ true → (has name seen || same_name g.name (Some name)) ≡ has name seen
absorbed [] g name is = absurd (cc is)
absorbed (s ∷ seen) g name is = by (same_name s.name g.name) refl is (absorbed seen g name) where
  turn : (a b c : Bool) → (b || c) ≡ b → ((a || b) || c) ≡ (a || b)
  turn true b c same = refl
  turn false b c same = same

  first : (a b c : Bool) → c ≡ a → ((a || b) || c) ≡ (a || b)
  first true b c same = refl
  first false true c same = refl
  first false false c same = same

  by : (b : Bool) → same_name s.name g.name ≡ b → (b || list_any (λ earlier. same_name earlier.name g.name) seen) ≡ true
      → (list_any (λ earlier. same_name earlier.name g.name) seen ≡ true → (has name seen || same_name g.name (Some name)) ≡ has name seen)
      → ((same_name s.name (Some name) || has name seen) || same_name g.name (Some name)) ≡ (same_name s.name (Some name) || has name seen)
  by true same is rest = first (same_name s.name (Some name)) (has name seen) (same_name g.name (Some name)) (same_as s.name g.name name same)
  by false same is rest = turn (same_name s.name (Some name)) (has name seen) (same_name g.name (Some name)) (rest is)

firsts_have : (seen all : List Global) (name : List ℕ) → (has name seen || has name (firsts_after seen all)) ≡ (has name seen || has name all)
firsts_have seen [] name = refl
firsts_have seen (g ∷ all) name = by (list_any (λ earlier. same_name earlier.name g.name) seen) refl (firsts_have seen all name) (firsts_have (g ∷ seen) all name) where
  assoc : (a b c : Bool) → (a || (b || c)) ≡ ((a || b) || c)
  assoc true b c = refl
  assoc false b c = refl

  swap : (a b c : Bool) → (a || (b || c)) ≡ ((b || a) || c)
  swap true true c = refl
  swap true false c = refl
  swap false true c = refl
  swap false false c = refl

  by : (b : Bool) → list_any (λ earlier. same_name earlier.name g.name) seen ≡ b → (has name seen || has name (firsts_after seen all)) ≡ (has name seen || has name all)
      → (has name (g ∷ seen) || has name (firsts_after (g ∷ seen) all)) ≡ (has name (g ∷ seen) || has name all)
      → (has name seen || has name (if b then firsts_after seen all else g ∷ firsts_after (g ∷ seen) all)) ≡ (has name seen || (same_name g.name (Some name) || has name all))
  by true is old new =
      old
      ∙ ap (λ b. b || has name all) (sym (absorbed seen g name is))
      ∙ sym (assoc (has name seen) (same_name g.name (Some name)) (has name all))
  by false is old new =
      swap (has name seen) (same_name g.name (Some name)) (has name (firsts_after (g ∷ seen) all))
      ∙ new
      ∙ sym (swap (has name seen) (same_name g.name (Some name)) (has name all))

any_map : {X Y : Type 0} (test : Y → Bool) (f : X → Y) (xs : List X) → list_any test (map f xs) ≡ list_any (λ x. test (f x)) xs
any_map test f [] = refl
any_map test f (x ∷ xs) = ap (λ b. test (f x) || b) (any_map test f xs)

pub blocks_named : (files : List FileTree) (tokens : List TokenAt) (name : List ℕ) → tokens ≡ names_of files (program_units files)
    → list_any (λ (at : TokenAt). bytes_eq (name_at files at.file at.token) name) tokens ≡ is_block files name
blocks_named files tokens name is =
    sym (any_map (λ (g : Global). same_name g.name (Some name)) (global_of files) tokens)
    ∙ ap (λ ts. has name (map (global_of files) ts)) is
    ∙ ap (has name) (all_given files (program_units files) refl)
    ∙ sym (firsts_have [] (block_names files) name)
