use Rattle.std.proofs.Common.{◌≡◌, List, Option, None, Some, option_map, ap₂, ◌∙◌}
use Rattle.std.specs.Prelude.{slice_get}
use Rattle.ftn_tree.specs.declared.unit.FileTree.{FileTree}
use Rattle.ftn_tree.specs.KeyKinds.{Datum}
use Rattle.ftn_tree.specs.Procedures.{result_of}
use Rattle.ftn_tree.specs.TypeFaults.{is_same_type, nature_of, same_type}
use Rattle.const_value.specs.steps.Names.{all_data}
use Rattle.type_check.specs.steps.Natures.{nature_seen}
use Rattle.type_check.proofs.procedures.Declared.has_type_of.Goals as goal

pub returns-in_ok-theirs-in-Some : goal.returns-in_ok-theirs-in-Some
returns-in_ok-theirs-in-Some c =
    λ d e there unit. of d (c.in_ok-ours-in-Some.ensures c.args.files.now d c.requires there) (result_of c.args.files.now e) (c.in-Some.ensures e unit)
  where
    files : List FileTree
    files = c.args.files.now

    of : (d : Datum) → nature_seen c.in_ok-ours-in-Some.ours ≡ nature_of files d → (o : Option Datum) → option_map (slice_get (all_data files)) (Some c.in-Some.result) ≡ option_map (λ (x : Datum). Some x) o
        → c.is_same_type.result ≡ is_same_type files d o
    of d ours None is = absurd (cc is)
    of d ours (Some r) is =
        let here : slice_get (all_data files) c.in-Some.result ≡ Some r = cc is in
        c.is_same_type.ensures ∙ ap₂ same_type ours (c.in_ok-theirs-in-Some.ensures files r c.requires here)
