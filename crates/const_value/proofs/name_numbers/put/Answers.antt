use Rattle.std.proofs.Common.{ap, bytes_eq, ◌∙◌}
use Rattle.std.specs.Map.{lookup}
use Rattle.decl_table.proofs.KnownNames.{lookup-insert_entry}
use Rattle.const_value.proofs.name_numbers.put.Goals as goal

pub returns : goal.returns
returns c = λ other.
    ap (λ es. lookup (λ key. bytes_eq other key.now) es) c.in_ok-insert.ensures.entries
    ∙ lookup-insert_entry c.args.numbers.now.entries c.args.name c.args.number other
