-- Drafts of the names that a scoping unit declares, by what is heard of them.
use Rattle.std.specs.Prelude.{ℕ, false, not, ◌&&◌, if◌then◌else◌, List, [], ◌∷◌, Option, Some, None}
use Rattle.std.specs.List.{cons_option, filter}
use Rattle.std.specs.Option.{option_map, unwrap_or}
use Rattle.ftn_tree.specs.declared.mention.Mention.{Mention}
use Rattle.ftn_tree.specs.declared.table.EntityKind.{EntityKind}
use Rattle.ftn_tree.specs.declared.table.EntityKind.TheVariants as kinds
use Rattle.ftn_tree.specs.declared.table.Extent.{Extent}
use Rattle.ftn_tree.specs.declared.unit.FileTree.{FileTree}
use Rattle.ftn_tree.specs.Extents.{layer_at}
use Rattle.ftn_tree.specs.Sayings.{Saying, same_name}
use Rattle.ftn_tree.specs.DeclaredEntities.{has_result_at, has_type}
use Rattle.decl_table.specs.declared.declared_names.Owner.{Owner}
use Rattle.decl_table.specs.declared.draft.Draft.{Draft}
use Rattle.decl_table.specs.declared.heard.Heard.{Heard}
use Rattle.decl_table.specs.declared.noted.Noted.{Noted}
use Rattle.decl_table.specs.steps.Heard.{heard_of, kind_heard}
use Rattle.decl_table.specs.steps.Noted.{noted_of}
use Rattle.decl_table.specs.steps.Seen.{is_among}

abbrev pub place_heard : EntityKind → ℕ → Heard → ℕ
place_heard kinds.Generic first h = unwrap_or h.generic first
place_heard kinds.Construct first h = unwrap_or h.label first
place_heard _ first h = first

abbrev pub draft_as : Owner → ℕ → Noted → Heard → EntityKind → Draft
draft_as owner token n h kind = record {
  file = owner.file;
  token = place_heard kind n.first h;
  last = false;
  name = Some token;
  home = Some owner.number;
  kind = kind;
  implicit = has_type kind && not h.typed;
  opens = None;
}

abbrev pub draft_heard : Owner → ℕ → Noted → Heard → Option Draft
draft_heard owner token n h = option_map (draft_as owner token n h) (kind_heard owner.has_result n.referenced h)

-- of each name, where it is said first and isn't among these
abbrev pub drafts_by : Owner → (List ℕ → Noted) → (List ℕ → Heard) → List (List ℕ) → List Saying → List Draft
drafts_by owner noted heard names [] = []
drafts_by owner noted heard names (s ∷ rest) =
    if is_among s.name names then drafts_by owner noted heard names rest
    else cons_option (draft_heard owner s.said.token (noted s.name) (heard s.name)) (drafts_by owner noted heard (s.name ∷ names) rest)

abbrev pub owner_of : List FileTree → Extent → ℕ → Owner
owner_of files e number = record { file = e.file; number = number; has_result = has_result_at (layer_at files e.file e.opening) }

abbrev pub drafts_of : List FileTree → Extent → ℕ → List Saying → List Mention → List Draft
drafts_of files e number said own =
    drafts_by (owner_of files e number) (λ name. noted_of files e.file name own) (λ name. heard_of (filter (same_name name) said)) [] said
