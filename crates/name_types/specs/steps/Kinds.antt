-- What the code keeps of types and procedures, by the definitions. It serves the proof alone.
use Rattle.std.specs.Prelude.{map}
use Rattle.std.specs.Option.{option_map}
use Rattle.ftn_tree.specs.KeyKinds as kinds
use Rattle.ftn_tree.specs.Procedures as procedures
use Rattle.const_value.specs.steps.Projects.{sort_seen}
use Rattle.name_types.specs.declared.kinds.Formal.{Formal}
use Rattle.name_types.specs.declared.kinds.Kind.{Kind}
use Rattle.name_types.specs.declared.kinds.Signature.{Signature}

abbrev pub kind_seen : Kind → kinds.Kind
kind_seen k = kinds.kind (sort_seen k.sort) k.rank

abbrev pub formal_seen : Formal → procedures.Formal
formal_seen f = record { kind = option_map kind_seen f.kind; out = f.out }

abbrev pub signature_seen : Signature → procedures.Signature
signature_seen s = record { procedure = s.procedure; formals = map formal_seen s.formals.items; function = s.function; result = option_map kind_seen s.result }
