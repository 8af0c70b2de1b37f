-- The first saying that says each thing of a name, by its index.
use Rattle.std.specs.Prelude.{ℕ, suc, min, Bool, not, ◌&&◌, if◌then◌else◌, List, [], ◌∷◌, Option, Some, None, is_some}
use Rattle.std.specs.Option.{option_map, option_or}
use Rattle.ftn_tree.specs.declared.mention.Role.TheVariants as role
use Rattle.ftn_tree.specs.Roles.{says}
use Rattle.ftn_tree.specs.Sayings.{Saying}
use Rattle.ftn_tree.specs.Sayings as said
use Rattle.decl_table.specs.declared.firsts.Firsts.{Firsts}

-- the index of the first saying that passes
abbrev pub place : (Saying → Bool) → List Saying → Option ℕ
place test [] = None
place test (s ∷ all) = if test s then Some 0 else option_map suc (place test all)

-- a member of no named block
abbrev pub blank : Saying → Bool
blank s = said.member s && not (says role.NamedMember s.said)

-- each thing that may be said, with what a function of its test gives
abbrev pub each_thing : ((Saying → Bool) → Option ℕ) → Firsts
each_thing of = record {
  typed = of said.typed;
  bounded = of said.bounded;
  valued = of said.valued;
  initial = of said.initial;
  parameter = of said.parameter;
  saved = of said.saved;
  dummy = of said.dummy;
  answer = of said.answer;
  external = of said.external;
  intrinsic = of said.intrinsic;
  body = of said.body;
  inside = of said.inside;
  member = of said.member;
  blank = of blank;
  tied = of said.tied;
  intent = of said.intent;
  public = of said.public;
  private = of said.private;
}

-- of those sayings that are ours
abbrev pub firsts_of : (Saying → Bool) → List Saying → Firsts
firsts_of ours all = each_thing (λ test. place (λ s. ours s && test s) all)

abbrev pub nothing : Firsts
nothing = each_thing (λ test. None)

abbrev pub least : Option ℕ → Option ℕ → Option ℕ
least None other = other
least (Some a) None = Some a
least (Some a) (Some b) = Some (min a b)

abbrev pub with : Option ℕ → Option ℕ → Option ℕ
with index other = if is_some other then index else None

abbrev pub first : Bool → Option ℕ
first is_said = if is_said then Some 0 else None

-- of one saying
abbrev pub alone : Saying → Firsts
alone s = each_thing (λ test. first (test s))

abbrev pub next : ℕ → Option ℕ → Option ℕ → Option ℕ
next index before one = option_or before (with (Some index) one)

-- of some, and then of one with that index
abbrev pub joined : ℕ → Firsts → Firsts → Firsts
joined index before one = record {
  typed = next index before.typed one.typed;
  bounded = next index before.bounded one.bounded;
  valued = next index before.valued one.valued;
  initial = next index before.initial one.initial;
  parameter = next index before.parameter one.parameter;
  saved = next index before.saved one.saved;
  dummy = next index before.dummy one.dummy;
  answer = next index before.answer one.answer;
  external = next index before.external one.external;
  intrinsic = next index before.intrinsic one.intrinsic;
  body = next index before.body one.body;
  inside = next index before.inside one.inside;
  member = next index before.member one.member;
  blank = next index before.blank one.blank;
  tied = next index before.tied one.tied;
  intent = next index before.intent one.intent;
  public = next index before.public one.public;
  private = next index before.private one.private;
}
