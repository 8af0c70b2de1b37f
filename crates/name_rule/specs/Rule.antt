-- Rules whose test answers their pattern.
use Rattle.std.specs.Prelude.{◌≡◌, ℕ, Bool, List}
use Rattle.std.specs.Fn.{Shared, always_fn}
use Rattle.name_rule.specs.Admits.{AreBytes, admits}
use Rattle.name_rule.specs.declared.pattern.NamePattern.{NamePattern}
use Rattle.name_rule.specs.declared.rule.NameRule.{NameRule}
use denote.Ref.{Bor}

abbrev pub pattern_of : {F : Type 0} → NameRule F → NamePattern
pattern_of rule = rule.pattern

-- The test may be called on all names, and answers exactly whether the pattern admits them.
pub record AnswersPattern {F : Type 0} (g : Shared F (Bor (List ℕ) × Unit {0}) Bool) (rule : NameRule F) : Type 0 where
  pub callable : always_fn g rule.test
  pub answers : (name : Bor (List ℕ)) (answer : Bool) → AreBytes name.now → g.post rule.test (name, tt) answer → answer ≡ admits rule.pattern name.now
