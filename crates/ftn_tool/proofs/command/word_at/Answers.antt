use Rattle.std.proofs.Common.{◌∙◌, ap, map}
use Rattle.std.specs.List.{slice_get}
use Rattle.std.specs.String.{string_bytes}
use Rattle.ftn_tool.proofs.Editions.{word_left}
use Rattle.ftn_tool.proofs.command.word_at.Goals as goal

pub returns : goal.returns
returns c =
    c.bytes_at.ensures ∙ ap (slice_get (map string_bytes c.args.words.now)) c.place_of.ensures ∙ word_left c.args.option (map string_bytes c.args.words.now) c.args.at
