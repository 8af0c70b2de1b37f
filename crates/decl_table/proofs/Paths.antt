-- The path and the letters of a scoping unit by those of its host.
use Rattle.std.proofs.Common.{◌≡◌, ℕ, List, [], ◌∷◌, ◌++◌, length, Option, Some, None, map, fold, refl, sym, ap, ◌∙◌, subst, inl, inr, append_assoc}
use Rattle.std.specs.Prelude.{slice_get, ◌⊎◌}
use Rattle.std.specs.List.{filter, last_or, join_with_byte, position}
use Rattle.std.specs.Option.{option_and_then, option_map_or, option_map}
use Rattle.std.proofs.lemmas.List.Sums.{fold-append}
use Rattle.std.proofs.lemmas.Option.{slice_get-map}
use Rattle.ftn_base.specs.ImplicitLetters as letters
use Rattle.ftn_base.specs.ImplicitLetters.{Entry}
use Rattle.ftn_tree.specs.declared.table.Extent.{Extent}
use Rattle.ftn_tree.specs.declared.unit.FileTree.{FileTree}
use Rattle.ftn_tree.specs.Extents.{covers, encloses, same_extent, innermost, scoping, host_of}
use Rattle.ftn_tree.specs.Scopes.{host_number, scope_number, chain, scope_name, path_of}
use Rattle.ftn_tree.specs.ScopeLetters.{after_own, entries_of}
use Rattle.ftn_tree.specs.Projects.{AreTrees}
use Rattle.decl_table.specs.steps.Following.{path_by, entries_by}
use Rattle.decl_table.proofs.Order.{Ordered, statements_in}
use Rattle.decl_table.proofs.Hosts.{around_is, before_it, after_it, position_is}
use Rattle.decl_table.proofs.Chains.{Split, none_of, last_split, chain_is, host_chain}
use Rattle.decl_table.proofs.Arounds.{ordered_units}

-- without a host, or with one that comes before
abbrev pub HasHost : List FileTree → List Extent → Extent → Type 0
HasHost files pre e =
    (h : Extent) × (j : ℕ) × (front : List Extent) × (host_number files e ≡ Some j) × (slice_get pre j ≡ Some h)
    × (chain files h ≡ front ++ h ∷ []) × (chain files e ≡ chain files h ++ e ∷ [])

abbrev pub HostCase : List FileTree → List Extent → Extent → Type 0
HostCase files pre e = ((host_number files e ≡ None) × (chain files e ≡ e ∷ [])) ⊎ HasHost files pre e

at_place : (a : List Extent) (h : Extent) (b : List Extent) → slice_get (a ++ h ∷ b) (length a) ≡ Some h
at_place [] h b = refl
at_place (x ∷ a) h b = at_place a h b

pub host_case : (files : List FileTree) → AreTrees files → (pre : List Extent) (e : Extent) (post : List Extent) → scoping files ≡ pre ++ e ∷ post → HostCase files pre e
host_case files are pre e post split = by (last_or None (filter (covers e.file e.opening) pre)) refl where
  count : ℕ → ℕ
  count file = statements_in file files

  ordered : Ordered count (pre ++ e ∷ post)
  ordered = subst (Ordered count) split (ordered_units files are)

  host : host_of files e ≡ last_or None (filter (covers e.file e.opening) pre)
  host =
      ap (innermost (encloses e.file e.opening)) split
      ∙ ap (last_or None) (around_is pre e post (before_it count pre e post ordered) ((after_it count pre e post ordered).1))

  its_chain : chain files e ≡ filter (covers e.file e.opening) pre ++ e ∷ []
  its_chain = ap (filter (covers e.file e.opening)) split ∙ chain_is count pre e post ordered

  with_split : (h : Extent) → host_of files e ≡ Some h → Split (covers e.file e.opening) pre h → HasHost files pre e
  with_split h found (a, b, is, passes, none) =
      let whole : scoping files ≡ a ++ h ∷ (b ++ e ∷ post) = split ∙ ap (λ (xs : List Extent). xs ++ e ∷ post) is ∙ append_assoc a (h ∷ b) (e ∷ post) in
      let around : Ordered count (a ++ h ∷ (b ++ e ∷ post)) = subst (Ordered count) whole (ordered_units files are) in
      let number : scope_number files h ≡ Some (length a) =
      ap (position (same_extent h)) whole ∙ position_is a h (b ++ e ∷ post) (before_it count a h (b ++ e ∷ post) around) in (
        h,
        length a,
        filter (covers h.file h.opening) a,
        ap (option_and_then (scope_number files)) found ∙ number,
        ap (λ (xs : List Extent). slice_get xs (length a)) is ∙ at_place a h b,
        ap (filter (covers h.file h.opening)) whole ∙ chain_is count a h (b ++ e ∷ post) around,
        its_chain ∙ ap (λ (xs : List Extent). xs ++ e ∷ [])
            (host_chain count pre e post h ordered (a, b, is, passes, none) ∙ ap (filter (covers h.file h.opening)) (sym split)),
      )

  chosen : (h : Extent) → host_of files e ≡ Some h → ((None ≡ Some h) × (filter (covers e.file e.opening) pre ≡ [])) ⊎ Split (covers e.file e.opening) pre h → HasHost files pre e
  chosen h found (inl (is, none)) = absurd (cc is)
  chosen h found (inr parts) = with_split h found parts

  by : (found : Option Extent) → last_or None (filter (covers e.file e.opening) pre) ≡ found → HostCase files pre e
  by None is =
      inl (ap (option_and_then (scope_number files)) (host ∙ is), its_chain ∙ ap (λ (xs : List Extent). xs ++ e ∷ []) (none_of (covers e.file e.opening) None pre is))
  by (Some h) is = inr (chosen h (host ∙ is) (last_split (covers e.file e.opening) None h pre is))

-- ---- paths

join_push : (c : ℕ) (front : List (List ℕ)) (h y : List ℕ) → join_with_byte c ((front ++ h ∷ []) ++ y ∷ []) ≡ join_with_byte c (front ++ h ∷ []) ++ c ∷ y
join_push c [] h y = refl
join_push c (x ∷ []) h y = sym (append_assoc x (c ∷ h) (c ∷ y))
join_push c (x ∷ z ∷ front) h y =
    ap (λ more. x ++ c ∷ more) (join_push c (z ∷ front) h y) ∙ sym (append_assoc x (c ∷ join_with_byte c ((z ∷ front) ++ h ∷ [])) (c ∷ y))

map_push : (f : Extent → List ℕ) (front : List Extent) (h : Extent) → map f (front ++ h ∷ []) ≡ map f front ++ f h ∷ []
map_push f [] h = refl
map_push f (x ∷ front) h = ap (λ (ys : List (List ℕ)). f x ∷ ys) (map_push f front h)

pub path_is : (files : List FileTree) → AreTrees files → (pre : List Extent) (e : Extent) (post : List Extent) → scoping files ≡ pre ++ e ∷ post
    → path_by files e (host_number files e) (map (path_of files) pre) ≡ path_of files e
path_is files are pre e post split = by (host_case files are pre e post split) where
  by : HostCase files pre e → path_by files e (host_number files e) (map (path_of files) pre) ≡ path_of files e
  by (inl (none, alone)) =
      ap (λ host. path_by files e host (map (path_of files) pre)) none ∙ ap (λ es. join_with_byte 47 (map (scope_name files) es)) (sym alone)
  by (inr (h, j, front, number, there, its, more)) =
      ap (λ host. path_by files e host (map (path_of files) pre)) number
      ∙ ap (λ found. option_map_or (λ path. path ++ 47 ∷ scope_name files e) found (scope_name files e)) (slice_get-map (path_of files) pre j ∙ ap (option_map (path_of files)) there)
      ∙ ap (λ es. join_with_byte 47 (map (scope_name files) es) ++ 47 ∷ scope_name files e) its
      ∙ ap (λ names. join_with_byte 47 names ++ 47 ∷ scope_name files e) (map_push (scope_name files) front h)
      ∙ sym (join_push 47 (map (scope_name files) front) (scope_name files h) (scope_name files e))
      ∙ ap (λ names. join_with_byte 47 (names ++ scope_name files e ∷ [])) (sym (map_push (scope_name files) front h))
      ∙ ap (λ names. join_with_byte 47 names) (sym (map_push (scope_name files) (front ++ h ∷ []) e))
      ∙ ap (λ es. join_with_byte 47 (map (scope_name files) (es ++ e ∷ []))) (sym its)
      ∙ ap (λ es. join_with_byte 47 (map (scope_name files) es)) (sym more)

-- ---- letters

pub entries_are : (files : List FileTree) → AreTrees files → (pre : List Extent) (e : Extent) (post : List Extent) → scoping files ≡ pre ++ e ∷ post
    → entries_by files e (host_number files e) (map (entries_of files) pre) ≡ entries_of files e
entries_are files are pre e post split = by (host_case files are pre e post split) where
  by : HostCase files pre e → entries_by files e (host_number files e) (map (entries_of files) pre) ≡ entries_of files e
  by (inl (none, alone)) =
      ap (λ host. entries_by files e host (map (entries_of files) pre)) none ∙ ap (λ es. fold (after_own files) letters.standard es) (sym alone)
  by (inr (h, j, front, number, there, its, more)) =
      ap (λ host. entries_by files e host (map (entries_of files) pre)) number
      ∙ ap (λ found. after_own files (option_map_or (λ entries. entries) found letters.standard) e) (slice_get-map (entries_of files) pre j ∙ ap (option_map (entries_of files)) there)
      ∙ sym (fold-append (after_own files) letters.standard (chain files h) (e ∷ []))
      ∙ ap (λ es. fold (after_own files) letters.standard es) (sym more)
