use Rattle.std.proofs.Common.{◌∙◌}
use Rattle.name_types.proofs.NamesBuilt.{namings_built, signatures_built}
use Rattle.name_types.proofs.gathering.names_of.Goals as goal

pub returns : goal.returns
returns c = record {
  gathered = c.requires.gathered;
  values = c.requires.values;
  hosts = c.in_ok-from_slice.ensures.items ∙ c.deref-3.ensures.value ∙ c.requires.scoping.hosts;
  signatures =
      signatures_built c.args.files.now c.requires.trees c.requires.names c.in_ok-declared.declared c.in_ok-declared.ensures c.in_ok-signatures.signatures.items c.deref-2.result.now (c.deref-2.ensures.value ∙ c.requires.scoping.units) c.in_ok-signatures.ensures;
  namings = namings_built c.args.files.now c.requires.trees c.requires.names c.in_ok-declared.declared c.in_ok-declared.ensures _ c.in_ok-namings.ensures;
}
