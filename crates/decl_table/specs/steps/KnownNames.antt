-- What is known of names, by name.
use Rattle.std.specs.Prelude.{ℕ, List}
use Rattle.std.specs.Borrow.{Bor}
use Rattle.std.specs.Option.{unwrap_or}
use Rattle.std.specs.Str.{bytes_eq}
use Rattle.indexmap.specs.IndexMap.{IndexMap, get_by}
use Rattle.decl_table.specs.declared.firsts.Firsts.{Firsts}
use Rattle.decl_table.specs.steps.Firsts.{nothing}

-- what a map has by that name
abbrev pub known : {S : Type 0} → IndexMap (Bor (List ℕ)) Firsts S → List ℕ → Firsts
known names name = unwrap_or (get_by (λ key. bytes_eq name key.now) names) nothing
