-- The global names of a project as they are listed.
use Rattle.std.proofs.Common.{◌≡◌, ℕ, Bool, true, false, List, [], ◌∷◌, ◌++◌, Option, Some, None, map, take, is_none, refl, sym, ap, ◌∙◌, if◌then◌else◌}
use Rattle.std.specs.Prelude.{◌+◌, slice_get}
use Rattle.std.specs.List.{filter, flat_map}
use Rattle.std.specs.Option.{option_and_then, option_map_or}
use Rattle.std.proofs.lemmas.List.{map-append}
use Rattle.ftn_tree.specs.declared.table.Extent.{Extent}
use Rattle.ftn_tree.specs.declared.unit.FileTree.{FileTree}
use Rattle.ftn_tree.specs.DeclarationFaults.{Finding, first_finding, declaration_rank, global_findings}
use Rattle.ftn_tree.specs.Extents.{scoping, host_of}
use Rattle.ftn_tree.specs.GlobalNames.{Global, has_no_host, program_units, unit_global, unit_globals, block_names, unit_pairs}
use Rattle.ftn_tree.specs.Projects.{AreTrees}
use Rattle.ftn_tree.specs.Scopes.{host_number, scope_number}
use Rattle.decl_table.specs.steps.Blocks.{global_of, names_of}
use Rattle.decl_table.specs.steps.GlobalLists.{outer_at}
use Rattle.decl_table.specs.steps.Globals.{of_pair, first_of, block_pairs}
use Rattle.decl_table.proofs.Entries.{flat_more}
use Rattle.decl_table.proofs.FirstBlocks.{all_given}
use Rattle.decl_table.proofs.OwnStatements.{number_of}
use Rattle.decl_table.proofs.Said.{host_there}

-- ---- program units

host_none : (files : List FileTree) → AreTrees files → (e : Extent) → is_none (host_number files e) ≡ has_no_host files e
host_none files are e = by (host_there files e) (host_of files e) refl where
  by : ((h : Extent) → host_of files e ≡ Some h → (j : ℕ) × (slice_get (scoping files) j ≡ Some h)) → (found : Option Extent) → host_of files e ≡ found
      → is_none (option_and_then (scope_number files) (host_of files e)) ≡ option_map_or (λ host. false) (host_of files e) true
  by there None is = rw is refl
  by there (Some h) is = let (j, at) = there h is in rw (is, number_of files are j h at) refl

filter_flat : (test : Extent → Bool) (es : List Extent) → filter test es ≡ flat_map (λ e. if test e then e ∷ [] else []) es
filter_flat test [] = refl
filter_flat test (e ∷ es) = by (test e) (filter_flat test es) where
  by : (passes : Bool) → filter test es ≡ flat_map (λ e. if test e then e ∷ [] else []) es
      → (if passes then e ∷ filter test es else filter test es) ≡ (if passes then e ∷ [] else []) ++ flat_map (λ e. if test e then e ∷ [] else []) es
  by true rest = ap (λ (more : List Extent). e ∷ more) rest
  by false rest = rest

pub outer_more : (files : List FileTree) → AreTrees files → (old new : List Extent) (n : ℕ) (e : Extent) (host : Option ℕ) → slice_get (scoping files) n ≡ Some e → host ≡ host_number files e
    → old ≡ filter (has_no_host files) (take n (scoping files)) → new ≡ old ++ outer_at e host → new ≡ filter (has_no_host files) (take (n + 1) (scoping files))
outer_more files are old new n e host there is so made =
    made
    ∙ ap (λ (front : List Extent). front ++ outer_at e host) (so ∙ filter_flat (has_no_host files) (take n (scoping files)))
    ∙ ap (λ b. flat_map (λ e. if has_no_host files e then e ∷ [] else []) (take n (scoping files)) ++ (if b then e ∷ [] else [])) (ap is_none is ∙ host_none files are e)
    ∙ sym (flat_more (λ e. if has_no_host files e then e ∷ [] else []) (scoping files) n e there)
    ∙ sym (filter_flat (has_no_host files) (take (n + 1) (scoping files)))

-- ---- both

pub global_told : (files : List FileTree) (units one other : List Extent) (names known : List Global) (blocks listed : List Global) (first second next : Option Finding)
    → units ≡ program_units files → one ≡ units → other ≡ units → names ≡ map (unit_global files) one → blocks ≡ map (global_of files) (names_of files other) → known ≡ names → listed ≡ blocks
    → first ≡ first_of (unit_pairs [] known) → second ≡ first_of (block_pairs known listed)
    → ((xs ys : List Finding) → first ≡ first_finding declaration_rank xs → second ≡ first_finding declaration_rank ys → next ≡ first_finding declaration_rank (xs ++ ys))
    → next ≡ first_finding declaration_rank (global_findings files)
global_told files units one other names known blocks listed first second next is a b made laid c d told more joined =
    let all : known ≡ unit_globals files = c ∙ made ∙ ap (map (unit_global files)) (a ∙ is) in
    let lists : listed ≡ block_names files = d ∙ laid ∙ all_given files other (b ∙ is) in
    joined (map of_pair (unit_pairs [] (unit_globals files))) (map of_pair (block_pairs (unit_globals files) (block_names files)))
    (told ∙ ap (λ globals. first_of (unit_pairs [] globals)) all)
    (more ∙ ap (λ globals. first_of (block_pairs globals listed)) all ∙ ap (λ names. first_of (block_pairs (unit_globals files) names)) lists)
    ∙ ap (first_finding declaration_rank) (sym (map-append of_pair (unit_pairs [] (unit_globals files)) (block_pairs (unit_globals files) (block_names files))))
