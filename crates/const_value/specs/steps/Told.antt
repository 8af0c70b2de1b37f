-- What is told of expressions, as findings. It serves the proof alone.
use Rattle.std.specs.Prelude.{ℕ, Option}
use Rattle.std.specs.Option.{option_map}
use Rattle.ftn_base.specs.declared.fault.FaultKind.TheVariants.{NotConstant}
use Rattle.ftn_tree.specs.GlobalNames.{place}
use Rattle.ftn_tree.specs.DeclarationFaults.{Finding, found}
use Rattle.const_expr.specs.declared.told.Breach.{Breach}
use Rattle.const_expr.specs.declared.told.Told.{Told}
use Rattle.const_value.specs.declared.faults.Faults.{Faults}
use Rattle.const_value.specs.steps.Findings.{finding_seen}

abbrev pub first_seen : Faults → Option Finding
first_seen faults = option_map finding_seen faults.first

abbrev pub stray_finding : ℕ → ℕ → Finding
stray_finding file token = found NotConstant (place file token)

abbrev pub breach_finding : ℕ → Breach → Finding
breach_finding file b = found b.kind (place file b.token)

abbrev pub stray_found : ℕ → Told → Option Finding
stray_found file told = option_map (stray_finding file) told.stray

abbrev pub breach_found : ℕ → Told → Option Finding
breach_found file told = option_map (breach_finding file) told.breach
