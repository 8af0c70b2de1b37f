-- Which specific procedure of a generic name is meant, by what the code keeps. It serves the proof alone.
use Rattle.type_check.specs.declared.generic_references.Choice.{Choice}
use Rattle.type_check.specs.declared.generic_references.Choice.TheVariants as kept
use Rattle.name_types.specs.steps.Kinds.{signature_seen}
use Rattle.type_check.specs.steps.Sights as sights

abbrev pub choice_kept : Choice → sights.Choice
choice_kept kept.Unknown = sights.Unknown
choice_kept kept.NoneFits = sights.NoneFits
choice_kept (kept.One signature) = sights.One (signature_seen signature.now)
choice_kept kept.Several = sights.Several
