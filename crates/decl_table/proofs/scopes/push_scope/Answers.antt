use Rattle.std.proofs.Common.{◌++◌, ◌∷◌, [], map, take, sym, ap, ◌∙◌}
use Rattle.ftn_base.specs.ImplicitLetters.{Entry}
use Rattle.ftn_tree.specs.DeclaredEntities.{scope_entry}
use Rattle.ftn_tree.specs.Extents.{scoping}
use Rattle.ftn_tree.specs.ScopeLetters.{entries_of}
use Rattle.ftn_tree.specs.Scopes.{path_of}
use Rattle.decl_table.proofs.Entries.{one_more, own_said, path_said, entries_said}
use Rattle.decl_table.proofs.scopes.push_scope.Goals as goal

pub letters_of-map-requires-clause-own : goal.letters_of-map-requires-clause-own
letters_of-map-requires-clause-own c =
    c.deref-3.ensures.value
    ∙ own_said c.args.files.now c.requires.trees c.args.number c.unit_at-body.result.0 c.deref.result.now c.args.scoping.now.rows.items c.in_ok-own.own.items
    c.unit_at-body.ensures.unit c.deref.ensures.value c.requires.known.rows c.in_ok-own.ensures

pub entry_of-requires-clause-path : goal.entry_of-requires-clause-path
entry_of-requires-clause-path c =
    path_said c.args.files.now c.requires.trees c.args.number c.unit_at-body.result.0 c.unit_at-body.result.2 c.deref-2.result.now c.args.paths.now.items c.in_ok-path.path
    c.unit_at-body.ensures.unit c.unit_at-body.ensures.host c.deref-2.ensures.value c.requires.paths c.in_ok-path.ensures

pub entry_of-requires-clause-types : goal.entry_of-requires-clause-types
entry_of-requires-clause-types c =
    c.from_vec-types.ensures ∙ c.in_ok-types.ensures
    ∙ ap (λ entries. map (λ (entry : Entry). entry.0) entries)
    (entries_said c.args.files.now c.requires.trees c.args.number c.unit_at-body.result.0 c.unit_at-body.result.2 c.deref-4.result.now c.args.maps.now.items c.letters_of-map.result
    c.unit_at-body.ensures.unit c.unit_at-body.ensures.host c.deref-4.ensures.value c.requires.maps c.letters_of-map.ensures)

pub returns-clause-scope : goal.returns-clause-scope
returns-clause-scope c =
    one_more (scope_entry c.args.files.now) (scoping c.args.files.now) c.args.number c.unit_at-body.result.0 c.unit_at-body.ensures.unit
    ∙ ap (λ scope. map (scope_entry c.args.files.now) (take c.args.number (scoping c.args.files.now)) ++ scope ∷ []) (sym c.entry_of.ensures)

pub returns-clause-paths : goal.returns-clause-paths
returns-clause-paths c =
    c.in_ok-push.ensures.items
    ∙ ap (λ paths. paths ++ c.in_ok-copy.field-0 ∷ []) c.requires.paths
    ∙ ap (λ path. map (path_of c.args.files.now) (take c.args.number (scoping c.args.files.now)) ++ path ∷ [])
    (c.in_ok-copy.ensures
    ∙ path_said c.args.files.now c.requires.trees c.args.number c.unit_at-body.result.0 c.unit_at-body.result.2 c.deref-2.result.now c.args.paths.now.items c.in_ok-path.path
    c.unit_at-body.ensures.unit c.unit_at-body.ensures.host c.deref-2.ensures.value c.requires.paths c.in_ok-path.ensures)
    ∙ sym (one_more (path_of c.args.files.now) (scoping c.args.files.now) c.args.number c.unit_at-body.result.0 c.unit_at-body.ensures.unit)

pub returns-clause-maps : goal.returns-clause-maps
returns-clause-maps c =
    c.in_ok-push-2.ensures.items
    ∙ ap (λ maps. maps ++ c.letters_of-map.result ∷ []) c.requires.maps
    ∙ ap (λ map'. map (entries_of c.args.files.now) (take c.args.number (scoping c.args.files.now)) ++ map' ∷ [])
    (entries_said c.args.files.now c.requires.trees c.args.number c.unit_at-body.result.0 c.unit_at-body.result.2 c.deref-4.result.now c.args.maps.now.items c.letters_of-map.result
    c.unit_at-body.ensures.unit c.unit_at-body.ensures.host c.deref-4.ensures.value c.requires.maps c.letters_of-map.ensures)
    ∙ sym (one_more (entries_of c.args.files.now) (scoping c.args.files.now) c.args.number c.unit_at-body.result.0 c.unit_at-body.ensures.unit)
