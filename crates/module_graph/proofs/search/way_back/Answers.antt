use Rattle.std.proofs.Common.{◌≡◌, ◌<◌, false, List, length, replicate, ap, arith}
use Rattle.std.proofs.lemmas.Bool.Decides.{nat_tests}
use Rattle.std.proofs.lemmas.Grind.{common_steps}
use Rattle.std.proofs.lemmas.List.{length-map}
use Rattle.module_graph.specs.Uses.{used_lists}
use Rattle.module_graph.specs.steps.Walks.{modules_of}
use Rattle.module_graph.specs.declared.entries.Entry.{Entry}
use Rattle.module_graph.proofs.Listing.{lists_length}
use Rattle.module_graph.proofs.Searching as searching
use Rattle.module_graph.proofs.search.way_back.Goals as goal

pub steps-init : goal.steps-init
steps-init c = record {
  search =
      let uses = used_lists c.args.uses.now in
      let size = lists_length c.args.uses.now in
      let known : c.args.from < length uses = omega arith in
      let marks : c.in_ok-marks.marks.items ≡ replicate (length uses) false = rw size (c.in_ok-marks.ensures.items_if_clones_equal (λ y e. e)) in
      searching.begun uses c.args.from c.in_ok-marks.marks.items (modules_of c.in_ok-path.path.items) known marks (ap (λ (p : List Entry). modules_of p) c.in_ok-path.ensures.items);
  entries = grind (arith, common_steps);
}

pub returns : goal.returns
returns c =
    let none : length (modules_of c.steps.path.items) ≡ 0 =
    let size = length-map c.steps.path.items (λ (e : Entry). e.user) in
    let none : length c.steps.path.items ≡ 0 = grind (arith, nat_tests) in
    omega arith in
    searching.no_way_back (used_lists c.args.uses.now) c.args.from c.steps.marks.items (modules_of c.steps.path.items) c.steps.invariant.search none
