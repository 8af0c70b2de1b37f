use Rattle.std.proofs.Common.{sym, subst}
use Rattle.scope_bind.specs.steps.Known.{AreAllNames}
use Rattle.scope_bind.proofs.Small.{trees_small}
use Rattle.scope_bind.proofs.binding.find_with.Goals as goal

pub find_all-requires : goal.find_all-requires
find_all-requires c = record {
  known = record {
    trees = c.requires.trees;
    small = trees_small c.args.files.now c.requires.trees;
    tables = c.requires.tables;
    scoping = c.requires.scoping;
    said = c.requires.said;
    own = c.requires.own;
    names = subst (AreAllNames c.args.files.now) (sym c.deref.ensures.value) c.in_ok-names.ensures;
    globals = c.in_ok-globals.ensures;
    numbering = c.in_ok-numbering.ensures;
  };
}
