-- What the names at the tokens of files denote, one mention after the other. It serves the proof alone.
use Rattle.std.specs.Prelude.{ℕ, ◌+◌, nat_lt, ◌&&◌, if◌then◌else◌, List, [], ◌∷◌, length, drop, replicate, slice_get, slice_index_or, slice_set, Option, Some, None}
use Rattle.std.specs.List.{flat_map}
use Rattle.std.specs.Option.{is_none, option_map_or}
use Rattle.ftn_base.specs.declared.entity.EntityId.{EntityId}
use Rattle.ftn_tree.specs.declared.mention.Mention.{Mention}
use Rattle.ftn_tree.specs.declared.unit.FileTree.{FileTree}
use Rattle.ftn_tree.specs.declared.unit.Statement.{Statement}
use Rattle.ftn_tree.specs.Mentions.{mentions_of}

-- an entity at a token where none is
abbrev pub put : List (Option ℕ) → ℕ → ℕ → List (Option ℕ)
put row token entity = if nat_lt token (length row) && is_none (slice_index_or row token None) then slice_set row token (Some entity) else row

-- what the occurrence with that number denotes, at the token of a mention
abbrev pub put_at : List (Option ℕ) → Mention → List EntityId → ℕ → List (Option ℕ)
put_at row m denotes at = option_map_or (λ (entity : EntityId). put row m.token entity.0) (slice_get denotes at) row

abbrev pub put_all : ℕ → List (Option ℕ) → List Mention → List EntityId → List (Option ℕ)
put_all at row [] denotes = row
put_all at row (m ∷ mentions) denotes = put_all (at + 1) (put_at row m denotes at) mentions denotes

abbrev pub mentions_in : FileTree → List Mention
mentions_in tree = flat_map (λ (s : Statement). mentions_of s.form) tree.statements

abbrev pub rest_of : List EntityId → ℕ → List EntityId
rest_of denotes count = drop count denotes

abbrev pub row_of : FileTree → List EntityId → List (Option ℕ)
row_of tree denotes = put_all 0 (replicate (length tree.tokens.items) None) (mentions_in tree) denotes

abbrev pub rows_of : List FileTree → List EntityId → List (List (Option ℕ))
rows_of [] denotes = []
rows_of (tree ∷ files) denotes = row_of tree denotes ∷ rows_of files (drop (length (mentions_in tree)) denotes)
