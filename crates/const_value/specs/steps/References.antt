-- The constants to which constants refer, by the numbers of names. It serves the proof alone.
use Rattle.std.specs.Prelude.{◌≡◌, ℕ, ◌+◌, Bool, true, false, ◌==◌, if◌then◌else◌, List, [], ◌∷◌, ◌++◌, length, map, slice_get, Option, Some, None}
use Rattle.std.specs.List.{filter_map, flat_map, list_any, range_with_len}
use Rattle.std.specs.Option.{option_map, option_map_or, option_and_then}
use Rattle.ftn_base.specs.ModuleUses.{AreKnown, used_by}
use Rattle.ftn_base.specs.declared.fault.FaultKind.TheVariants.{Circular}
use Rattle.ftn_tree.specs.declared.mention.Mention.{Mention}
use Rattle.ftn_tree.specs.declared.parts.BoundPair.{BoundPair}
use Rattle.ftn_tree.specs.declared.table.Entity.{Entity}
use Rattle.ftn_tree.specs.DeclarationFaults.{Finding, found}
use Rattle.ftn_tree.specs.Expressions.{mentions_in, mentions_in_bound}
use Rattle.ftn_tree.specs.GlobalNames.{place}
use Rattle.ftn_tree.specs.KeyKinds as kinds
use Rattle.const_expr.specs.Namings.{entity_in}
use Rattle.const_value.specs.declared.circles.Circles.{Circles}
use Rattle.const_value.specs.declared.name_numbers.Owned.{Owned}
use Rattle.const_value.specs.declared.project.Project.{Project}
use Rattle.const_value.specs.steps.Components.{IsFinishOrder}
use Rattle.const_value.specs.steps.Labelling.{AreLabels, label_at}
use Rattle.const_value.specs.steps.Lengths.{LengthAs, Given, length_as}
use Rattle.const_value.specs.steps.Lists.{lists_of}
use Rattle.const_value.specs.steps.Projects as steps
use Rattle.const_value.specs.steps.Projects.{kind_of, row_in, written_at}
use Rattle.const_value.specs.steps.Written.{TypedAs, WrittenAs, pairs}

-- ---- the names in what is written for a name

abbrev pub mentions_of_pair : BoundPair → List Mention
mentions_of_pair pair = mentions_in_bound pair.low ++ mentions_in_bound pair.high

abbrev pub mentions_of_length : LengthAs → List Mention
mentions_of_length (Given e) = mentions_in e
mentions_of_length other = []

abbrev pub mentions_of_typing : Option TypedAs → List Mention
mentions_of_typing typing = option_map_or (λ (t : TypedAs). mentions_of_length (length_as t)) typing []

abbrev pub mentions_of_written : WrittenAs → List Mention
mentions_of_written w = mentions_in_bound w.value ++ (mentions_of_typing w.typing ++ flat_map mentions_of_pair (pairs w))

-- ---- the constants among them

abbrev pub is_constant : Project → ℕ → Bool
is_constant p name = option_map_or kinds.is_constant (kind_of p.bound.now p.links name) false

abbrev pub constant_name : Project → ℕ → Entity → Option ℕ
constant_name p number entity = if kinds.is_constant entity.kind then steps.name_of p.links number else None

abbrev pub constant_entity : Project → ℕ → Option ℕ
constant_entity p number = option_and_then (constant_name p number) (steps.entity_in p.bound.now number)

-- the number of the name of the constant that a name denotes
abbrev pub constant_at : Project → ℕ → ℕ → Option ℕ
constant_at p file token = option_and_then (constant_entity p) (entity_in (row_in p.rows.items file) token)

-- the token, where a constant is named there
abbrev pub token_at : Project → ℕ → ℕ → Option ℕ
token_at p file token = option_map (λ name. token) (constant_at p file token)

abbrev pub used_in : Project → ℕ → List Mention → List ℕ
used_in p file mentions = filter_map (λ (m : Mention). constant_at p file m.token) mentions

abbrev pub tokens_in : Project → ℕ → List Mention → List ℕ
tokens_in p file mentions = filter_map (λ (m : Mention). token_at p file m.token) mentions

abbrev pub file_of : List Owned → ℕ → ℕ
file_of names name = option_map_or (λ (o : Owned). o.file) (slice_get names name) 0

-- ---- of one name, and of all

abbrev pub refers : Project → ℕ → List ℕ
refers p name = if is_constant p name then used_in p (file_of p.names.items name) (mentions_of_written (written_at p.written.items name)) else []

abbrev pub refers_at : Project → ℕ → List ℕ
refers_at p name = if is_constant p name then tokens_in p (file_of p.names.items name) (mentions_of_written (written_at p.written.items name)) else []

abbrev pub all_uses : Project → List (List ℕ)
all_uses p = map (refers p) (range_with_len 0 (length p.names.items))

abbrev pub all_tokens : Project → List (List ℕ)
all_tokens p = map (refers_at p) (range_with_len 0 (length p.names.items))

-- for each name what is written, and its entity
pub record IsSized (p : Project) : Type 0 where
  pub written : length p.written.items ≡ length p.names.items
  pub entities : length p.links.entity_of.items ≡ length p.names.items

-- ---- how they hang together

pub record AreCircles (p : Project) (c : Circles) : Type 0 where
  pub uses : lists_of c.uses.items ≡ all_uses p
  pub tokens : lists_of c.tokens.items ≡ all_tokens p
  pub order : IsFinishOrder (all_uses p) c.order.items
  pub labels : AreLabels (all_uses p) c.labels.items

abbrev pub same_label : Option ℕ → Option ℕ → Bool
same_label (Some one) (Some other) = one == other
same_label None None = true
same_label one other = false

abbrev pub leads_back : Circles → ℕ → ℕ → Bool
leads_back c name used = same_label (label_at c.labels.items name) (label_at c.labels.items used)

abbrev pub is_circular : Circles → ℕ → Bool
is_circular c name = list_any (leads_back c name) (used_by (lists_of c.uses.items) name)

-- labels and tokens are there for all
pub record IsWhole (c : Circles) : Type 0 where
  pub labels : length c.labels.items ≡ length c.uses.items
  pub tokens : length c.tokens.items ≡ length c.uses.items
  pub known : AreKnown (lists_of c.uses.items)

-- ---- references to such as lead back

abbrev pub circle_of : Circles → ℕ → ℕ → ℕ → Option ℕ → List Finding
circle_of c name file used None = []
circle_of c name file used (Some token) = if leads_back c name used then found Circular (place file token) ∷ [] else []

abbrev pub circles_at : Circles → ℕ → ℕ → List ℕ → ℕ → List ℕ → List Finding
circles_at c name file tokens at [] = []
circles_at c name file tokens at (used ∷ more) = circle_of c name file used (slice_get tokens at) ++ circles_at c name file tokens (at + 1) more

abbrev pub circles_of : Circles → ℕ → ℕ → List Finding
circles_of c name file = circles_at c name file (used_by (lists_of c.tokens.items) name) 0 (used_by (lists_of c.uses.items) name)

abbrev pub circular_findings : Circles → Project → List Finding
circular_findings c p = flat_map (λ name. circles_of c name (file_of p.names.items name)) (range_with_len 0 (length p.names.items))
