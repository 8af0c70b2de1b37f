use Rattle.std.proofs.Common.{◌≡◌, ◌∙◌, ◌∷◌, ◌++◌, [], ◌<◌, ℕ, Bool, true, false, List, length, map, filter, take_all, sym, ap, subst, arith}
use Rattle.ftn_tree.specs.Roles.{says}
use Rattle.ftn_tree.specs.Sayings.{Saying, sayings}
use Rattle.decl_table.specs.steps.Spelled.{IsSpelled}
use Rattle.scope_bind.specs.steps.Globals.{unit_at}
use Rattle.scope_bind.proofs.Spelling.{name_more, name_same, spelled_at}
use Rattle.scope_bind.proofs.UnitReads.{lists_read}
use Rattle.scope_bind.proofs.exporting.names_said.Goals.{then-says+in_ok-name_of+in_ok-push, else-says}
use Rattle.scope_bind.proofs.exporting.names_said.Goals as goal

pub name_of-requires : goal.name_of-requires
name_of-requires c =
    let files = c.args.known.now.files.now in
    let said_are = c.deref-said.ensures.value ∙ ap (λ v. v.items) (sym c.index-known-scope.is) ∙ lists_read (λ one. one.items) (sayings files) files c.args.scope c.args.known.now.said.now c.index-known-scope.result c.requires.known.said c.requires.within c.index-known-scope.is in
    subst IsSpelled (sym (ap (λ (x : Saying). x.name) c.s.view_is))
    (spelled_at files c.requires.known.trees (unit_at files c.args.scope) c.deref-said.result.now said_are c.loop-s.s-index c.s-item.result c.loop-s-test.true c.s-item.is)

pub loop-s-preserved : goal.loop-s-preserved
loop-s-preserved c =
    let what : Saying → Bool = λ (s : Saying). says c.args.role s.said in
    let said = c.deref-said.result.now in
    let i = c.loop-s.s-index in
    let s = c.s-item.result in
    let name_is = ap (λ (x : Saying). x.name) c.s.view_is in
    let says_it = ap (λ (x : Saying). says c.args.role x.said) c.s.view_is in
    elim c.if-says.branch [
      | then-says+in_ok-name_of+in_ok-push w ↦
          rw w.names-is (w.in_ok-push.ensures.ok ∙ ap (λ (n : List ℕ). c.loop-s.names ++ n ∷ []) (w.in_ok-name_of.ensures ∙ name_is)
          ∙ name_more what said i s c.loop-s-test.true c.s-item.is c.loop-s.names (sym says_it ∙ sym w.if-says.ensures) c.loop-s.invariant)
      | else-says w ↦
          rw w.names-is (name_same what said i s c.loop-s-test.true c.s-item.is c.loop-s.names (sym says_it ∙ sym w.if-says.ensures) c.loop-s.invariant)
    ]

pub returns : goal.returns
returns c =
    let files = c.args.known.now.files.now in
    let said_are = c.deref-said.ensures.value ∙ ap (λ v. v.items) (sym c.index-known-scope.is) ∙ lists_read (λ one. one.items) (sayings files) files c.args.scope c.args.known.now.said.now c.index-known-scope.result c.requires.known.said c.requires.within c.index-known-scope.is in
    c.loop-s.invariant ∙ ap (λ (l : List Saying). map (λ (s : Saying). s.name) (filter (λ s. says c.args.role s.said) l)) (take_all c.loop-s.s-index c.deref-said.result.now c.loop-s-test.false ∙ said_are)
