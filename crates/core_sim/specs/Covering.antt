-- A pairing covers a tree of the old program where whatever the tree names has a partner (the word is this project's own).
use Rattle.core_prog.specs.Terms.{Term, literal, paren, unary, binary, variable, constant, intrinsic, call, Terms, none, more, Designator, designator, Named, named, Section, no_section, section, Bound, no_bound, bound, Passed, no_passed, by_value, alone, to_end, constants}
use Rattle.core_prog.specs.Actions as act
use Rattle.core_sim.specs.Pairings.{Pairing, IsPaired}

module _ (pairing : Pairing) where
  abbrev mutual
    pub CoversTerm : Term → Type 0
    CoversTerm (literal v) = Unit {0}
    CoversTerm (paren inner) = CoversTerm inner
    CoversTerm (unary at operator arg) = CoversTerm arg
    CoversTerm (binary at operator left right) = CoversTerm left × CoversTerm right
    CoversTerm (variable of) = CoversDesignator of
    CoversTerm (constant of) = CoversNamed of
    CoversTerm (intrinsic at function args) = CoversTerms args
    CoversTerm (call at number args) = IsPaired pairing.procedure number × CoversPassed args

    pub CoversTerms : Terms → Type 0
    CoversTerms none = Unit {0}
    CoversTerms (more term rest) = CoversTerm term × CoversTerms rest

    pub CoversDesignator : Designator → Type 0
    CoversDesignator (designator at number subscripts range) = IsPaired pairing.variable number × CoversTerms subscripts × CoversSection range

    pub CoversNamed : Named → Type 0
    CoversNamed (named at v bounds subscripts range) = CoversTerms subscripts × CoversSection range

    pub CoversSection : Section → Type 0
    CoversSection no_section = Unit {0}
    CoversSection (section low high) = CoversBound low × CoversBound high

    pub CoversBound : Bound → Type 0
    CoversBound no_bound = Unit {0}
    CoversBound (bound term) = CoversTerm term

    pub CoversPassed : Passed → Type 0
    CoversPassed no_passed = Unit {0}
    CoversPassed (by_value term rest) = CoversTerm term × CoversPassed rest
    CoversPassed (alone of rest) = CoversDesignator of × CoversPassed rest
    CoversPassed (to_end of rest) = CoversDesignator of × CoversPassed rest
    CoversPassed (constants of rest) = CoversNamed of × CoversPassed rest

  abbrev pub CoversWritten : act.Written → Type 0
  CoversWritten act.no_written = Unit {0}
  CoversWritten (act.scalar term rest) = CoversTerm term × CoversWritten rest
  CoversWritten (act.array at number rest) = IsPaired pairing.variable number × CoversWritten rest
  CoversWritten (act.constants v bounds rest) = CoversWritten rest

  abbrev pub CoversWanted : act.Wanted → Type 0
  CoversWanted act.no_wanted = Unit {0}
  CoversWanted (act.one of rest) = CoversDesignator of × CoversWanted rest
  CoversWanted (act.each at number rest) = IsPaired pairing.variable number × CoversWanted rest

  abbrev pub CoversAction : act.Action → Type 0
  CoversAction (act.assign target term) = CoversDesignator target × CoversTerm term
  CoversAction (act.fill number term) = IsPaired pairing.variable number × CoversTerm term
  CoversAction (act.call at number args) = IsPaired pairing.procedure number × CoversPassed args
  CoversAction (act.exit depth) = Unit {0}
  CoversAction (act.cycle depth) = Unit {0}
  CoversAction act.return = Unit {0}
  CoversAction act.stop = Unit {0}
  CoversAction act.continue = Unit {0}
  CoversAction (act.print items) = CoversWritten items
  CoversAction (act.read at items) = CoversWanted items

  abbrev mutual
    pub CoversStatement : act.Statement → Type 0
    CoversStatement (act.does action) = CoversAction action
    CoversStatement (act.choose arms otherwise) = CoversArms arms × CoversBlock otherwise
    CoversStatement (act.select term cases otherwise) = CoversTerm term × CoversCases cases × CoversBlock otherwise
    CoversStatement (act.count at number from to by turn) = IsPaired pairing.variable number × CoversTerm from × CoversTerm to × CoversBound by × CoversBlock turn
    CoversStatement (act.while term turn) = CoversTerm term × CoversBlock turn
    CoversStatement (act.forever turn) = CoversBlock turn

    pub CoversBlock : act.Block → Type 0
    CoversBlock act.empty = Unit {0}
    CoversBlock (act.row first rest) = CoversStatement first × CoversBlock rest

    pub CoversArms : act.Arms → Type 0
    CoversArms act.no_arms = Unit {0}
    CoversArms (act.arm term turn rest) = CoversTerm term × CoversBlock turn × CoversArms rest

    pub CoversCases : act.Cases → Type 0
    CoversCases act.no_cases = Unit {0}
    CoversCases (act.case values turn rest) = CoversBlock turn × CoversCases rest
