use Rattle.std.proofs.Common.{◌≡◌, ℕ, List, ◌++◌, ap, ◌∙◌}
use Rattle.std.specs.List.{list_any}
use Rattle.std.specs.Str.{bytes_eq}
use Rattle.std.proofs.lemmas.Result.{IfOk-weaker}
use Rattle.ftn_tree.specs.Scopes.{name_at}
use Rattle.decl_table.specs.declared.block_names.TokenAt.{TokenAt}
use Rattle.decl_table.specs.steps.Blocks.{names_of}
use Rattle.decl_table.specs.steps.Seen.{has_come}
use Rattle.scope_bind.specs.steps.Globals.{is_block}
use Rattle.scope_bind.proofs.BlockNames.{blocks_named}
use Rattle.scope_bind.proofs.globals.blocks_of.Goals as goal

pub returns : goal.returns
returns c =
    let files = c.args.files.now in
    IfOk-weaker c.names_at.result (λ seen. (name : List ℕ) → has_come seen name ≡ list_any (λ (at : TokenAt). bytes_eq (name_at files at.file at.token) name) c.deref-2.result.now)
    (λ seen. (name : List ℕ) → has_come seen name ≡ is_block files name)
    (λ seen is name. is name ∙ blocks_named files c.deref-2.result.now name (c.deref-2.ensures.value ∙ c.in_ok-push_names.ensures ∙ ap (λ ts. ts ++ names_of files c.deref.result.now) c.new-tokens.ensures.items ∙ ap (names_of files) (c.deref.ensures.value ∙ c.in_ok-units.ensures)))
    c.names_at.ensures
