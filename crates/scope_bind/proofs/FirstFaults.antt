-- The first fault of modules and names by the first of each kind, and what there is where there is none.
use Rattle.std.proofs.Common.{◌≡◌, List, map, Option, Some, None, option_map, refl, sym, ap}
use Rattle.std.specs.Option.{option_or}
use Rattle.ftn_base.specs.declared.fault.Fault.{Fault}
use Rattle.ftn_tree.specs.declared.table.Entity.{Entity}
use Rattle.ftn_tree.specs.declared.table.Tables.{Tables}
use Rattle.ftn_tree.specs.declared.unit.FileTree.{FileTree}
use Rattle.ftn_tree.specs.Bindings.{bound_of}
use Rattle.ftn_tree.specs.DeclarationFaults.{Finding, fault_of, first_finding}
use Rattle.ftn_tree.specs.DeclaredEntities.{tables_of}
use Rattle.ftn_tree.specs.NameFaults.{use_rank, name_rank, use_findings, not_public_findings, binding_findings, first_of_names, name_fault}
use Rattle.scope_bind.specs.declared.binding.Found.{Found}
use Rattle.scope_bind.specs.steps.Binding.{IsFound, bound_with}

first_told : (told : Finding → Fault) (a b : Option Finding) (f : Fault) → option_map told a ≡ Some f → option_map told (option_or a b) ≡ Some f
first_told told None b f is = absurd (cc is)
first_told told (Some x) b f is = is

rest_told : (told : Finding → Fault) (a b : Option Finding) (f : Fault) → a ≡ None → option_map told b ≡ Some f → option_map told (option_or a b) ≡ Some f
rest_told told None b f none is = is
rest_told told (Some x) b f none is = absurd (cc none)

none_of : (a b : Option Finding) → a ≡ None → b ≡ None → option_or a b ≡ None
none_of None b one two = two
none_of (Some x) b one two = absurd (cc one)

pub use_told : (files : List FileTree) (f : Fault) → option_map (fault_of files) (first_finding use_rank (use_findings files)) ≡ Some f → name_fault files ≡ Some f
use_told files f is =
    first_told (fault_of files) (first_finding use_rank (use_findings files)) (option_or (first_finding use_rank (not_public_findings files)) (first_finding name_rank (binding_findings files))) f is

pub public_told : (files : List FileTree) (f : Fault) → first_finding use_rank (use_findings files) ≡ None
    → option_map (fault_of files) (first_finding use_rank (not_public_findings files)) ≡ Some f → name_fault files ≡ Some f
public_told files f none is =
    rest_told (fault_of files) (first_finding use_rank (use_findings files)) (option_or (first_finding use_rank (not_public_findings files)) (first_finding name_rank (binding_findings files))) f none
    (first_told (fault_of files) (first_finding use_rank (not_public_findings files)) (first_finding name_rank (binding_findings files)) f is)

pub binding_told : (files : List FileTree) (f : Fault) → first_finding use_rank (use_findings files) ≡ None → first_finding use_rank (not_public_findings files) ≡ None
    → option_map (fault_of files) (first_finding name_rank (binding_findings files)) ≡ Some f → name_fault files ≡ Some f
binding_told files f none hidden is =
    rest_told (fault_of files) (first_finding use_rank (use_findings files)) (option_or (first_finding use_rank (not_public_findings files)) (first_finding name_rank (binding_findings files))) f none
    (rest_told (fault_of files) (first_finding use_rank (not_public_findings files)) (first_finding name_rank (binding_findings files)) f hidden is)

pub none_told : (files : List FileTree) → first_finding use_rank (use_findings files) ≡ None → first_finding use_rank (not_public_findings files) ≡ None
    → first_finding name_rank (binding_findings files) ≡ None → first_of_names files ≡ None
none_told files none hidden sound =
    none_of (first_finding use_rank (use_findings files)) (option_or (first_finding use_rank (not_public_findings files)) (first_finding name_rank (binding_findings files))) none
    (none_of (first_finding use_rank (not_public_findings files)) (first_finding name_rank (binding_findings files)) hidden sound)

pub sound_told : (files : List FileTree) → first_of_names files ≡ None → name_fault files ≡ None
sound_told files none = ap (option_map (fault_of files)) none

-- what is found makes the tables of the project whole
pub bound_is : (files : List FileTree) (tables : Tables) (found : Found) → tables ≡ tables_of files → IsFound files found → bound_with tables found ≡ bound_of files
bound_is files tables found same is =
    λ i. record {
      tables = record { scopes = (same i).scopes; entities = is.entities i; occurrences = (same i).occurrences };
      denotes = is.denotes i;
      accessible = is.accessible i;
    }
