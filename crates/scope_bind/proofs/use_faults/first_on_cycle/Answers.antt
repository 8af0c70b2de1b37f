use Rattle.std.proofs.Common.{◌≡◌, ◌∙◌, ◌<◌, ℕ, Bool, List, length, get_or, Some, sym, ap₂, subst, arith}
use Rattle.std.specs.List.{flat_map}
use Rattle.std.proofs.lemmas.List.{get_or_default}
use Rattle.ftn_base.specs.ModuleUses.{AreKnown}
use Rattle.ftn_tree.specs.DeclarationFaults.{first_finding}
use Rattle.ftn_tree.specs.Extents.{scoping}
use Rattle.ftn_tree.specs.GlobalNames.{program_units}
use Rattle.ftn_tree.specs.NameFaults.{use_rank}
use Rattle.scope_bind.specs.steps.UseFaults.{uses_by}
use Rattle.scope_bind.proofs.LeastModule.{few_lists, least_found, least_told, least_within, scope_within, told_by_lists, uses_known}
use Rattle.scope_bind.proofs.use_faults.first_on_cycle.Goals as goal

pub leading_to-requires-clause-few : goal.leading_to-requires-clause-few
leading_to-requires-clause-few c =
    let small = c.requires.known.small.names in
    let few : length (scoping c.args.known.now.files.now) < 4294967296 = omega arith in
    few_lists c.args.known.now.files.now c.args.uses.now 4294967296 c.requires.uses few

pub leading_to-requires-clause-known : goal.leading_to-requires-clause-known
leading_to-requires-clause-known c = subst AreKnown (sym c.requires.uses) (uses_known c.args.known.now.files.now)

pub first_of_uses-requires-clause-cycle : goal.first_of_uses-requires-clause-cycle
first_of_uses-requires-clause-cycle c =
    let files = c.args.known.now.files.now in
    let modules = c.args.known.now.globals.now.modules.items in
    let scopes = c.requires.known.globals.modules in
    let lt = least_within files c.requires.known.trees modules scopes c.args.least c.requires.least in
    let scope_is = c.index-scope.ensures ∙ get_or_default modules c.args.least c.index-scope.result.now 0 lt in
    subst (λ (k : ℕ). k < length (scoping files)) (sym scope_is) (scope_within files c.requires.known.trees modules scopes c.args.least c.requires.least)

pub returns-clause-first : goal.returns-clause-first
returns-clause-first c =
    let files = c.args.known.now.files.now in
    let modules = c.args.known.now.globals.now.modules.items in
    let scopes = c.requires.known.globals.modules in
    let marks = c.in_ok-marks.marks.items in
    let lt = least_within files c.requires.known.trees modules scopes c.args.least c.requires.least in
    let scope_is = c.index-scope.ensures ∙ get_or_default modules c.args.least c.index-scope.result.now 0 lt in
    least_told files c.requires.known.trees modules scopes c.args.least c.requires.least marks
    (told_by_lists files c.args.uses.now c.requires.uses c.args.least marks c.in_ok-marks.ensures) c.first_of_uses.result
    (c.first_of_uses.ensures ∙ ap₂ (λ (s : ℕ) (ms : List Bool). first_finding use_rank (flat_map (uses_by files (Some s) ms) (program_units files))) scope_is c.deref.ensures.value)

pub returns-clause-some : goal.returns-clause-some
returns-clause-some c =
    let files = c.args.known.now.files.now in
    let modules = c.args.known.now.globals.now.modules.items in
    let scopes = c.requires.known.globals.modules in
    let marks = c.in_ok-marks.marks.items in
    let lt = least_within files c.requires.known.trees modules scopes c.args.least c.requires.least in
    let scope_is = c.index-scope.ensures ∙ get_or_default modules c.args.least c.index-scope.result.now 0 lt in
    least_found files c.requires.known.trees modules scopes c.args.least c.requires.least marks
    (told_by_lists files c.args.uses.now c.requires.uses c.args.least marks c.in_ok-marks.ensures) c.first_of_uses.result
    (c.first_of_uses.ensures ∙ ap₂ (λ (s : ℕ) (ms : List Bool). first_finding use_rank (flat_map (uses_by files (Some s) ms) (program_units files))) scope_is c.deref.ensures.value)
