-- What an accepted rename keeps.
use Rattle.std.specs.Prelude.{◌≡◌, ℕ, List, Some}
use Rattle.ftn_base.specs.Letters.{folded}
use Rattle.free_scan.specs.FirstForm.{IsProgramText}
use Rattle.free_scan.specs.Tokens.{tokens_of}
use Rattle.free_scan.specs.declared.first_form.program.Program.{Program}
use Rattle.ftn_tree.specs.declared.token.Token.{Token}
use Rattle.rename_ref.specs.declared.rename.Rename.{Rename}
use Rattle.rename_ref.specs.declared.judgement.Judgement.TheVariants.{Accept}
use Rattle.rename_ref.specs.Conditions.{chosen, judged}
use Rattle.rename_ref.specs.Edits.{replacing}
use Rattle.rename_ref.specs.Kept.{Alike, Corresponds}
use Rattle.rename_ref.specs.Names.{denoting}
use Rattle.rename_ref.specs.Renaming.{renamed, map_program}

-- The new text spells the renamed program and does the same; entities and names correspond, where the order names the
-- entity of this token.
pub record Keeps (order : Rename) (file text : List ℕ) (tokens : List Token) (new_text : List ℕ) (program : Program) : Type 0 where
  pub token : Token
  pub is_chosen : chosen order file text tokens ≡ Some token
  pub spells : IsProgramText new_text (map_program (renamed token.value (folded order.new)) program)
  pub alike : Alike text new_text
  pub corresponds : Corresponds (renamed token.value (folded order.new)) (replacing order.new (denoting token.value tokens)) text new_text

-- each accepted rename in a program in first form does
abbrev pub RenameKeeps : Type 0
RenameKeeps = (order : Rename) (file text : List ℕ) (tokens : List Token) (program : Program) (new_text : List ℕ)
    → tokens_of text ≡ Some tokens → IsProgramText text program → judged order file text tokens ≡ Accept new_text → Keeps order file text tokens new_text program
