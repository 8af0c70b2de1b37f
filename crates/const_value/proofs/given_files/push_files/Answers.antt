use Rattle.std.proofs.Common.{◌++◌}
use Rattle.const_value.specs.steps.Giving.{files_fit, files_given}
use Rattle.const_value.proofs.GivenTurns.{files_fit_more, files_more}
use Rattle.const_value.proofs.given_files.push_files.Goals as goal

pub loop-tree-preserved : goal.loop-tree-preserved
loop-tree-preserved c =
    let p = c.args.project.now in
    let known = c.args.all.now.known.items in
    let namings = c.args.all.now.namings.items in
    record {
      given = files_more p known namings c.args.rows.now c.args.bodies.now p.files.now c.loop-tree.tree-index c.loop-tree.file c.in_ok-file.file c.tree-item.result
          (c.args.found.now.items ++ files_given p known namings c.args.rows.now c.args.bodies.now 0 p.files.now) c.loop-tree.found.items c.push_file.new.found.items c.loop-tree-test.true c.tree-item.is
          c.in_ok-push_file.ensures.given c.in_ok-file.ensures c.loop-tree.invariant.given;
      fits = files_fit_more p known namings c.args.rows.now c.args.bodies.now p.files.now c.loop-tree.tree-index c.loop-tree.file c.in_ok-file.file c.tree-item.result
          (files_fit p known namings c.args.rows.now c.args.bodies.now 0 p.files.now) c.loop-tree-test.true c.tree-item.is c.in_ok-push_file.ensures.fits c.in_ok-file.ensures c.loop-tree.invariant.fits;
    }
