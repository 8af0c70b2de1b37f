-- The scoping units of numbers, and what a name denotes in one by what it denotes in its host.
use Rattle.std.proofs.Common.{◌≡◌, ℕ, zero, suc, ◌<◌, List, [], ◌∷◌, ◌++◌, length, get_or, Option, Some, None, fold, sym, ap, ◌∙◌, subst, inl, inr}
use Rattle.std.specs.Prelude.{slice_get}
use Rattle.std.specs.Option.{unwrap_or}
use Rattle.std.proofs.lemmas.List.Sums.{fold-append}
use Rattle.std.proofs.lemmas.Option.{slice_get-get_or, slice_get_within}
use Rattle.ftn_tree.specs.declared.table.Extent.{Extent}
use Rattle.ftn_tree.specs.declared.unit.FileTree.{FileTree}
use Rattle.ftn_tree.specs.Extents.{scoping}
use Rattle.ftn_tree.specs.Meanings.{Meaning, nothing, meaning_in, accessible_in, denotes}
use Rattle.ftn_tree.specs.Projects.{AreTrees}
use Rattle.ftn_tree.specs.Scopes.{host_number, chain}
use Rattle.decl_table.proofs.Arounds.{split_at}
use Rattle.decl_table.proofs.Paths.{HostCase, host_case}

abbrev pub no_extent : Extent
no_extent = record { file = 0; opening = 0; ending = 0 }

-- the scoping unit of a number
abbrev pub unit_at : List FileTree → ℕ → Extent
unit_at files number = unwrap_or (slice_get (scoping files) number) no_extent

pub unit_there : (files : List FileTree) (n : ℕ) → n < length (scoping files) → slice_get (scoping files) n ≡ Some (unit_at files n)
unit_there files n less = there ∙ ap Some (sym (ap (λ o. unwrap_or o no_extent) there)) where
  there : slice_get (scoping files) n ≡ Some (get_or (scoping files) n no_extent)
  there = slice_get-get_or (scoping files) n no_extent less

pub unit_is : (files : List FileTree) (n : ℕ) (e : Extent) → slice_get (scoping files) n ≡ Some e → unit_at files n ≡ e
unit_is files n e there = ap (λ o. unwrap_or o no_extent) there

-- what it denotes in the scoping unit of that number, or nothing
abbrev pub in_host : List FileTree → List ℕ → Option ℕ → Meaning
in_host files name None = nothing
in_host files name (Some host) = denotes files (unit_at files host) name

abbrev pub step : List FileTree → List ℕ → Meaning → Extent → Meaning
step files name around one = meaning_in files (accessible_in files one) one name around

front_get : (pre : List Extent) (more : List Extent) (j : ℕ) (h : Extent) → slice_get pre j ≡ Some h → slice_get (pre ++ more) j ≡ Some h
front_get [] more j h is = absurd (cc is)
front_get (x ∷ pre) more zero h is = is
front_get (x ∷ pre) more (suc j) h is = front_get pre more j h is

pub host_first : (files : List FileTree) → AreTrees files → (n : ℕ) → n < length (scoping files) → (host : ℕ) → host_number files (unit_at files n) ≡ Some host → host < n
host_first files are n less host is =
    let (pre, post, split, long) = split_at (scoping files) n (unit_at files n) (unit_there files n less) in
    subst (λ k. host < k) long (by pre (host_case files are pre (unit_at files n) post split))
  where
    by : (pre : List Extent) → HostCase files pre (unit_at files n) → host < length pre
    by pre (inl (none, alone)) = absurd (cc (is, none))
    by pre (inr (h, j, front, number, there, its, more)) =
        let same : j ≡ host = cc (is, number) in subst (λ k. k < length pre) same (slice_get_within pre j h there)

pub denotes_host : (files : List FileTree) → AreTrees files → (n : ℕ) → n < length (scoping files) → (name : List ℕ)
    → denotes files (unit_at files n) name ≡ step files name (in_host files name (host_number files (unit_at files n))) (unit_at files n)
denotes_host files are n less name =
    let (pre, post, split, long) = split_at (scoping files) n e (unit_there files n less) in by pre post split (host_case files are pre e post split)
  where
    e : Extent
    e = unit_at files n

    by : (pre post : List Extent) → scoping files ≡ pre ++ e ∷ post → HostCase files pre e → denotes files e name ≡ step files name (in_host files name (host_number files e)) e
    by pre post split (inl (none, alone)) =
        ap (fold (step files name) nothing) alone ∙ ap (λ host. step files name (in_host files name host) e) (sym none)
    by pre post split (inr (h, j, front, number, there, its, more)) =
        let at : unit_at files j ≡ h = unit_is files j h (ap (λ es. slice_get es j) split ∙ front_get pre (e ∷ post) j h there) in
        ap (fold (step files name) nothing) more
        ∙ fold-append (step files name) nothing (chain files h) (e ∷ [])
        ∙ ap (λ x. step files name (denotes files x name) e) (sym at)
        ∙ ap (λ host. step files name (in_host files name host) e) (sym number)
