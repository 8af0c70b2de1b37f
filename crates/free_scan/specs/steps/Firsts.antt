-- The first of the places at which a text breaks a rule, found one after another. It serves the proof of the code.
use Rattle.std.specs.Prelude.{◌≡◌, Bool, ◌&&◌, ◌||◌, ◌==◌, nat_lt, if◌then◌else◌, List, [], fold, Option, Some, None}
use Rattle.ftn_tree.specs.Breaks.{Breach, IsFirst, rank}

-- by place and, at one place, by kind
abbrev pub comes_before : Breach → Breach → Bool
comes_before breach other = nat_lt breach.0 other.0 || breach.0 == other.0 && nat_lt (rank breach.1) (rank other.1)

abbrev pub earlier : Option Breach → Breach → Option Breach
earlier None breach = Some breach
earlier (Some found) breach = if comes_before breach found then Some breach else Some found

-- the first of what was found and of these
abbrev pub least : Option Breach → List Breach → Option Breach
least found breaches = fold earlier found breaches

-- the first of what two searches found
abbrev pub merged : Option Breach → Option Breach → Option Breach
merged found None = found
merged found (Some other) = earlier found other

-- it is the first of those, and nothing where there is none
abbrev pub IsFirstOf : Option Breach → List Breach → Type 0
IsFirstOf None breaches = breaches ≡ []
IsFirstOf (Some breach) breaches = IsFirst breach breaches
