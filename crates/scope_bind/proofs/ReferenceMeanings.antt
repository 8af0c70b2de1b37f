-- What a reference to a name denotes that denotes nothing in its scoping unit.
use Rattle.std.proofs.Common.{◌≡◌, ℕ, true, false, ◌&&◌, not, List, if◌then◌else◌, sym, ap, ap₂, ◌∙◌}
use Rattle.ftn_tree.specs.declared.mention.Mention.{Mention}
use Rattle.ftn_tree.specs.declared.mention.Role.TheVariants as role
use Rattle.ftn_tree.specs.declared.unit.FileTree.{FileTree}
use Rattle.ftn_tree.specs.Meanings.{known, unknown, or_else, intrinsic_of, external_of, reference_meaning}
use Rattle.ftn_tree.specs.Roles.{says}

pub called_known : (files : List FileTree) (m : Mention) (name : List ℕ) → says role.Called m ≡ true → known (external_of files name) ≡ reference_meaning files m name
called_known files m name is =
    sym (ap (λ b. if b then known (external_of files name)
    else if says role.Parenthesised m && not (says role.Given m) then known (or_else (intrinsic_of name) (external_of files name))
    else unknown) is)

pub referenced_known : (files : List FileTree) (m : Mention) (name : List ℕ) → says role.Called m ≡ false → says role.Parenthesised m ≡ true → not (says role.Given m) ≡ true
    → known (or_else (intrinsic_of name) (external_of files name)) ≡ reference_meaning files m name
referenced_known files m name called stands own =
    sym (ap (λ b. if b then known (external_of files name)
    else if says role.Parenthesised m && not (says role.Given m) then known (or_else (intrinsic_of name) (external_of files name))
    else unknown) called
    ∙ ap₂ (λ a b. if a && b then known (or_else (intrinsic_of name) (external_of files name)) else unknown) stands own)
