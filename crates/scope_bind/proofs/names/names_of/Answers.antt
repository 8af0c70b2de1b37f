use Rattle.std.proofs.Common.{ap, ◌∙◌}
use Rattle.std.specs.List.{filter, list_any}
use Rattle.ftn_tree.specs.Sayings.{same_name}
use Rattle.decl_table.specs.steps.Heard.{heard_of}
use Rattle.decl_table.specs.steps.Noted.{noted_of}
use Rattle.scope_bind.specs.steps.Known.{is_plain_of}
use Rattle.scope_bind.specs.steps.Told.{told_of}
use Rattle.scope_bind.proofs.names.names_of.Goals as goal

pub returns : goal.returns
returns c =
    let files = c.args.files.now in
    let file = c.args.unit.file in record {
      heard = λ name. c.in_ok-hear.ensures name ∙ ap (λ ss. heard_of (filter (same_name name) ss)) c.requires.said;
      noted = λ name. c.in_ok-note.ensures name ∙ ap (noted_of files file name) c.requires.own;
      told = λ name. c.in_ok-tell.ensures name ∙ ap (λ ss. told_of (filter (same_name name) ss)) c.requires.said;
      plain = λ name. c.in_ok-plain_names.ensures name ∙ ap (list_any (is_plain_of files file name)) c.requires.own;
    }
