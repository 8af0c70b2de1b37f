-- What is told of the shape of a name, by what is kept of it.
use Rattle.std.proofs.Common.{◌≡◌, ℕ, Bool, true, false, not, List, [], Option, Some, None, refl, sym, ap, ap₂, ◌∙◌}
use Rattle.std.specs.Prelude.{slice_get}
use Rattle.std.specs.Borrow.{Bor}
use Rattle.std.specs.Option.{is_none, is_some, option_copied, option_map_or}
use Rattle.ftn_tree.specs.declared.table.EntityKind.{EntityKind}
use Rattle.ftn_tree.specs.DeclarationFaults.{Finding}
use Rattle.const_expr.specs.declared.naming.Naming.{Naming}
use Rattle.const_expr.specs.Namings.{evaluated_by}
use Rattle.const_value.specs.declared.measured.Measured.{Measured}
use Rattle.const_value.specs.declared.name_numbers.Owned.{Owned}
use Rattle.const_value.specs.declared.project.Project.{Project}
use Rattle.const_value.specs.steps.Findings.{gathered}
use Rattle.const_value.specs.steps.Projects.{kind_of, row_in, written_at}
use Rattle.const_value.specs.steps.Shaping.{name_told, owned_told, told_with}
use Rattle.const_value.specs.steps.Written.{WrittenAs}

pub none_copied : {A : Type 0} (o : Option (Bor A)) (b : Bool) → is_some o ≡ not b → b ≡ is_none (option_copied o)
none_copied None true is = refl
none_copied None false is = absurd (cc)
none_copied (Some x) true is = absurd (cc)
none_copied (Some x) false is = refl

pub name_noted : (p : Project) (known : List Measured) (namings : List Naming) (name : ℕ) (o : Owned) (w : WrittenAs) (m : Measured) (kind : Option EntityKind) (seen : Project) (file : ℕ) (row : List (Option ℕ))
    (ns : List Naming) (old new : Option Finding) → slice_get p.names.items name ≡ Some o → slice_get known name ≡ Some m → written_at p.written.items name ≡ w → kind ≡ kind_of p.bound.now p.links name
    → seen ≡ p → file ≡ o.file → row ≡ row_in p.rows.items o.file → ns ≡ namings → new ≡ gathered old (owned_told seen file (evaluated_by row ns) o w m kind)
    → new ≡ gathered old (name_told p known namings name)
name_noted p known namings name o w m kind seen file row ns old new names_is known_is written_is kind_is seen_is file_is row_is ns_is one =
    one ∙ ap₂ (λ (q : Project) (f : ℕ). gathered old (owned_told q f (evaluated_by row ns) o w m kind)) seen_is file_is
    ∙ ap₂ (λ (r : List (Option ℕ)) (n : List Naming). gathered old (owned_told p o.file (evaluated_by r n) o w m kind)) row_is ns_is
    ∙ ap₂ (λ (x : WrittenAs) (k : Option EntityKind). gathered old (owned_told p o.file (evaluated_by (row_in p.rows.items o.file) namings) o x m k)) (sym written_is) kind_is
    ∙ sym (ap (λ x. gathered old (option_map_or (λ o. option_map_or (told_with p namings name o) (slice_get known name) []) x [])) names_is
    ∙ ap (λ x. gathered old (option_map_or (told_with p namings name o) x [])) known_is)
