use Rattle.ftn_tree.specs.RowNames.{has_letters, names_in}
use Rattle.ftn_tree.proofs.RowLaws.{rising, words_of, others_plain}
use Rattle.ftn_tree.proofs.StatementNames.{statement_names, statement_free}
use Rattle.ftn_tree.proofs.laws.names_are_those_of_tokens.Goals as goal

pub returns : goal.returns
returns c = record {
  names = statement_names;
  rise = λ form at row says. rising (has_letters form) row at (names_in form) (statement_names form at row says);
  inside = λ form at row says. words_of (has_letters form) row at (names_in form) (statement_names form at row says);
  others = λ form at row says. others_plain (has_letters form) row at (names_in form) (statement_names form at row says);
  free = statement_free;
}
