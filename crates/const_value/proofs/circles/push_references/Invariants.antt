use Rattle.std.proofs.Common.{◌≡◌, ◌++◌, take}
use Rattle.const_value.specs.steps.References.{tokens_in, used_in}
use Rattle.const_value.proofs.circles.push_references.Given as goal

abbrev pub invariant-loop-mention : goal.invariant-loop-mention
invariant-loop-mention l = record {
  used : l.used.items ≡ l.initial.used.items ++ used_in l.project l.file (take l.mention-index l.mentions);
  tokens : l.tokens.items ≡ l.initial.tokens.items ++ tokens_in l.project l.file (take l.mention-index l.mentions);
}
