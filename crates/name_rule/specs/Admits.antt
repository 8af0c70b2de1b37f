-- Names that a pattern admits.
use Rattle.std.specs.Prelude.{ℕ, ◌<◌, Bool, not, ◌&&◌, ◌||◌, ◌==◌, nat_le, List, length, slice_index}
use Rattle.std.specs.List.{list_any, starts_with}
use Rattle.name_rule.specs.declared.pattern.NamePattern.{NamePattern}

-- `_`
abbrev pub is_underscore : ℕ → Bool
is_underscore b = b == 95

abbrev pub has_underscore : List ℕ → Bool
has_underscore name = list_any is_underscore name

-- the name begins with the prefix, is at most so long, and has an underscore only where the pattern allows it
abbrev pub admits : NamePattern → List ℕ → Bool
admits pattern name =
    starts_with ◌==◌ name pattern.prefix
    && nat_le (length name) pattern.most
    && (pattern.underscores || not (has_underscore name))

-- numbers below 256
abbrev pub AreBytes : List ℕ → Type 0
AreBytes bytes = (k : ℕ) → slice_index bytes k < 256
