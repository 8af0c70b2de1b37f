use Rattle.std.proofs.Common.{◌≡◌, ℕ, ◌<◌, List, [], ◌∷◌, ◌++◌, map, length, get_or, Option, Some, None, option_map, refl, sym, ap, ◌∙◌}
use Rattle.std.specs.Prelude.{slice_get}
use Rattle.std.specs.Borrow.{Bor}
use Rattle.std.specs.List.{flat_map}
use Rattle.std.proofs.lemmas.List.{take_all}
use Rattle.std.proofs.lemmas.Option.{get_or_from_slice_get, slice_get-get_or, slice_get-map}
use Rattle.ftn_tree.specs.declared.table.Extent.{Extent}
use Rattle.ftn_tree.specs.declared.unit.FileTree.{FileTree}
use Rattle.ftn_tree.specs.DeclaredEntities.{names_after}
use Rattle.ftn_tree.specs.Extents.{scoping}
use Rattle.ftn_tree.specs.Sayings.{Saying, sayings}
use Rattle.ftn_tree.specs.TypeFaults.{type_told}
use Rattle.type_check.specs.steps.Noted.{first_seen, noted}
use Rattle.type_check.specs.steps.SaidNames.{lent}
use Rattle.type_check.proofs.NotedLaws.{turn}
use Rattle.type_check.proofs.procedures.Declared.type_faults.Goals as goal

-- the element at a place that is there
itself : {X : Type 0} (xs : List X) (at : ℕ) (d : X) → at < length xs → get_or xs at d ≡ get_or xs at (get_or xs at d)
itself xs at d less = sym (get_or_from_slice_get xs at (get_or xs at d) (get_or xs at d) (slice_get-get_or xs at d less))

pub loop-name-preserved : goal.loop-name-preserved
loop-name-preserved c =
    let none : Bor (List ℕ) = record { ref_ptr = (0, 0); now = [] } in
    turn c.args.e.file (λ (name : Bor (List ℕ)). type_told c.args.files.now c.args.e name.now) c.deref-name-items.result.now c.loop-name.name-index (get_or c.deref-name-items.result.now c.loop-name.name-index none) (first_seen c.args.faults.now)
    (first_seen c.loop-name.faults)
    (first_seen c.type_fault.new.faults) c.loop-name-test.true (itself c.deref-name-items.result.now c.loop-name.name-index none c.loop-name-test.true) c.loop-name.invariant c.in_ok-type_fault.ensures

flat_lent : {Y : Type 0} (f : List ℕ → List Y) (names : List (Bor (List ℕ))) → flat_map (λ (name : Bor (List ℕ)). f name.now) names ≡ flat_map f (lent names)
flat_lent f [] = refl
flat_lent f (name ∷ names) = ap (λ ys. f name.now ++ ys) (flat_lent f names)

-- what is said in the scoping unit of that number
said_there : {V : Type 0} (items : V → List Saying) (files : List FileTree) (said : List V) (scope : ℕ) (e : Extent) (d : V) → map items said ≡ map (sayings files) (scoping files) → slice_get (scoping files) scope ≡ Some e
    → items (get_or said scope d) ≡ sayings files e
said_there {V} items files said scope e d is there = of (slice_get said scope) refl (sym (slice_get-map items said scope) ∙ ap (λ xs. slice_get xs scope) is ∙ slice_get-map (sayings files) (scoping files) scope ∙ ap (option_map (sayings files)) there)
  where
    of : (o : Option V) → slice_get said scope ≡ o → option_map items o ≡ Some (sayings files e) → items (get_or said scope d) ≡ sayings files e
    of None at same = absurd (cc same)
    of (Some v) at same = let one : items v ≡ sayings files e = cc same in ap items (get_or_from_slice_get said scope v d at) ∙ one

pub returns : goal.returns
returns c =
    let items = c.deref-name-items.result.now in
    let said = said_there (λ one. one.items) c.args.files.now c.args.self.now.said.now c.args.scope c.args.e c.index-self-scope.result c.requires.known.said c.requires.unit in
    c.loop-name.invariant
    ∙ ap (λ names. noted c.args.e.file (first_seen c.args.faults.now) (flat_map (λ (name : Bor (List ℕ)). type_told c.args.files.now c.args.e name.now) names)) (take_all c.loop-name.name-index items c.loop-name-test.false)
    ∙ ap (noted c.args.e.file (first_seen c.args.faults.now))
    (flat_lent (type_told c.args.files.now c.args.e) items
    ∙ ap (flat_map (type_told c.args.files.now c.args.e)) (ap lent c.deref-name-items.ensures.value ∙ c.in_ok-names.ensures ∙ ap (names_after []) (c.deref.ensures.value ∙ said)))
