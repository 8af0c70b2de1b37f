-- Numbers of things by a number and a name. It serves the proof alone.
use Rattle.std.specs.Prelude.{ℕ, Bool, ◌&&◌, nat_eq, List, Option}
use Rattle.std.specs.List.{position}
use Rattle.std.specs.Borrow.{Bor}
use Rattle.std.specs.Str.{bytes_eq}
use Rattle.indexmap.specs.IndexMap.{IndexMap, get_by}
use Rattle.decl_table.specs.steps.Following.{is_number}

-- a name, and the number under which it counts, or none
pub record Candidate : Type 0 where
  pub under : Option ℕ
  pub name : List ℕ

abbrev pub candidate : Option ℕ → List ℕ → Candidate
candidate under name = record { under = under; name = name }

abbrev pub is_at : ℕ → List ℕ → Candidate → Bool
is_at under name c = is_number under c.under && bytes_eq c.name name

-- the number of the first that counts so
abbrev pub first_at : ℕ → List ℕ → List Candidate → Option ℕ
first_at under name all = position (is_at under name) all

-- what an index has
abbrev pub found_in : {S : Type 0} → IndexMap (ℕ × Bor (List ℕ)) ℕ S → ℕ → List ℕ → Option ℕ
found_in index under name = get_by (λ key. nat_eq under key.0 && bytes_eq name key.1.now) index
