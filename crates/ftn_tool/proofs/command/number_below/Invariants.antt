use Rattle.std.proofs.Common.{◌≡◌, ◌^◌, ◌<◌, drop}
use Rattle.std.specs.Prelude.{fold}
use Rattle.free_scan.specs.Spelling.{number_of}
use Rattle.ftn_tool.proofs.Numbers.{add_digit}
use Rattle.ftn_tool.proofs.command.number_below.Given as goal

abbrev pub invariant-loop-digit : goal.invariant-loop-digit
invariant-loop-digit l = record {
  value : number_of l.digits ≡ fold add_digit l.number (drop l.digit-index l.digits);
  small : l.number < 2 ^ 32;
}
