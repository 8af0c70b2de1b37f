use Rattle.std.proofs.Common.{List, ap, ◌∙◌}
use Rattle.ftn_tree.specs.Sayings.{Saying}
use Rattle.const_value.specs.steps.Names.{number_of}
use Rattle.type_check.proofs.ValuedNames.{tokens_right}
use Rattle.type_check.proofs.procedures.Declared.of.Goals as goal

pub returns : goal.returns
returns c =
    let r = c.requires in record {
      trees = r.trees;
      declared = r.declared;
      bound = r.bound;
      names = r.names;
      units = r.known;
      said = r.said;
      numbers = λ scope name. c.in_ok-numbered.ensures.numbers scope name ∙ ap (λ (all : List (List Saying)). number_of all scope name) r.said;
      tokens = tokens_right c.args.files.now r.trees r.bound r.constants c.args.names.now r.names c.in_ok-namings.namings.items c.in_ok-namings.ensures;
      outside = c.in_ok-outside.ensures;
    }
