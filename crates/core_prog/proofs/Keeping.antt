-- A relation that is closed holds between what a program does with related bodies: by the form of expressions and statements.
use Rattle.std.specs.Prelude.{ℕ, zero, suc, ℤ, pos, ◌<◌, List, [], ◌∷◌, Bool, true, false, if◌then◌else◌, ◌++◌, Option, Some, None, Result, Ok, Err, map}
use Rattle.std.specs.List.{list_any}
use Rattle.ftn_tree.specs.declared.value.Value.{Value}
use Rattle.ftn_tree.specs.ListItems.{is_item_byte}
use Rattle.core_prog.specs.declared.site.Site.{Site}
use Rattle.core_prog.specs.Ends.{End}
use Rattle.ftn_base.specs.Arithmetic.{sum}
use Rattle.ftn_tree.specs.declared.value.Value.TheVariants.{Whole}
use Rattle.core_prog.specs.Operations.{as_whole, as_truth, whole_at}
use Rattle.core_prog.specs.Contents.{units_of}
use Rattle.ftn_tree.specs.Arrays.{axis_from, elements, element, part}
use Rattle.core_prog.specs.Memory.{Place, Holding, element_at, place_of, read_at, in_bounds}
use Rattle.core_prog.specs.Programs.{Program}
use Rattle.core_prog.specs.Holdings.{holding}
use Rattle.core_prog.specs.Entries.{Argument}
use Rattle.core_prog.specs.Terms.{Term, literal, paren, unary, binary, variable, constant, intrinsic, call, Terms, none, more as next_term, Designator, designator, Named, named, Section, no_section, section, Bound, no_bound, bound, Passed, no_passed, by_value, alone, to_end, constants}
use Rattle.core_prog.specs.Actions as act
use Rattle.core_prog.specs.States.{M, Way, GoOn, Exit, Cycle, Return, ◌>>◌, tick, told, takes, around, onward}
use Rattle.core_prog.specs.Input.{Last, Nothing, Amid, Over, run_of, run_with, run_past, run_end, scalar_in, elements_in, rest_of, rest_with, item_at, last_of}
use Rattle.core_prog.specs.Values.{value_of, values_of, wholes_of, bound_or, range_of, place_at, read_of, constant_in, constants_from, arguments_of, cut_out}
use Rattle.core_prog.specs.Statements.{elements_out, copies_out, filled, grown, rounds, whole_of, truth_of, written, wanted, counted, block, chosen, selected, has, not_zero, turn_count}
use Rattle.core_prog.specs.Statements as stmts
use Rattle.core_prog.proofs.Closing.{Closed}

module _ (Sure : M Way → Type 0) (Rel : ℕ → (A : Type 0) → M A → M A → Type 0) (closed : Closed Sure Rel) where
  told_kept : {A : Type 0} (b : ℕ) (r : Result A End) → Rel b A (told r) (told r)
  told_kept b (Ok a) = closed.pures b a
  told_kept b (Err e) = closed.stops b e

  step_kept : {A : Type 0} (b : ℕ) (m n : M A) → Rel b A m n → Rel b A (tick >> m) (tick >> n)
  step_kept b m n r = closed.binds b tick tick (λ _. m) (λ _. n) (closed.ticks b) (λ _. r)

  module _ (program : Program) (b : ℕ) (body other : ℕ → M Way) (sure : (n : ℕ) → Sure (body n)) (sure' : (n : ℕ) → Sure (other n))
      (below : (c : ℕ) → c < b → (n : ℕ) → Rel c Way (body n) (other n)) where
    mutual
      pub value_kept : (t : Term) → Rel b Value (value_of program body t) (value_of program other t)
      value_kept (literal v) = step_kept b _ _ (closed.pures b v)
      value_kept (paren inner) = value_kept inner
      value_kept (unary at operator arg) = step_kept b _ _ (closed.binds b _ _ _ _ (value_kept arg) (λ a. told_kept b _))
      value_kept (binary at operator left right) = step_kept b _ _ (closed.binds b _ _ _ _ (value_kept left) (λ a. closed.binds b _ _ _ _ (value_kept right) (λ c. told_kept b _)))
      value_kept (variable of) = step_kept b _ _ (read_kept of)
      value_kept (constant of) = step_kept b _ _ (constant_kept of)
      value_kept (intrinsic at function args) = step_kept b _ _ (closed.binds b _ _ _ _ (values_kept args) (λ vs. told_kept b _))
      value_kept (call at number args) =
          step_kept b _ _ (closed.binds b _ _ _ _ (arguments_kept args) (λ given. closed.binds b _ _ _ _ (closed.calls b program body other at number given (sure number) (sure' number) (λ c h. below c h number)) (λ result. told_kept b _)))

      pub values_kept : (ts : Terms) → Rel b (List Value) (values_of program body ts) (values_of program other ts)
      values_kept none = closed.pures b []
      values_kept (next_term t rest) = closed.binds b _ _ _ _ (value_kept t) (λ v. closed.binds b _ _ _ _ (values_kept rest) (λ vs. closed.pures b (v ∷ vs)))

      pub wholes_kept : (ts : Terms) → Rel b (List ℤ) (wholes_of program body ts) (wholes_of program other ts)
      wholes_kept none = closed.pures b []
      wholes_kept (next_term t rest) =
          closed.binds b _ _ _ _ (value_kept t) (λ v. closed.binds b _ _ _ _ (told_kept b (as_whole v)) (λ z. closed.binds b _ _ _ _ (wholes_kept rest) (λ zs. closed.pures b (z ∷ zs))))

      pub bound_kept : (z : ℤ) (t : Bound) → Rel b ℤ (bound_or program body z t) (bound_or program other z t)
      bound_kept z no_bound = closed.pures b z
      bound_kept z (bound t) = closed.binds b _ _ _ _ (value_kept t) (λ v. told_kept b (as_whole v))

      pub range_kept : (n : ℕ) (s : Section) → Rel b (Option (ℤ × ℤ)) (range_of program body n s) (range_of program other n s)
      range_kept n no_section = closed.pures b None
      range_kept n (section low high) =
          closed.binds b _ _ _ _ (bound_kept (pos 1) low) (λ x. closed.binds b _ _ _ _ (bound_kept (pos n) high) (λ y. closed.pures b (Some (x, y))))

      pub place_kept : (d : Designator) → Rel b Place (place_at program body d) (place_at program other d)
      place_kept (designator at number subscripts range) =
          closed.binds b _ _ _ _ (closed.asked b (holding program number)) (λ h. closed.binds b _ _ _ _ (wholes_kept subscripts) (λ zs. closed.binds b _ _ _ _ (range_kept h.unit range) (λ r. told_kept b _)))

      read_kept : (d : Designator) → Rel b Value (read_of program body d) (read_of program other d)
      read_kept (designator at number subscripts range) =
          closed.binds b _ _ _ _ (closed.asked b (holding program number)) (λ h. closed.binds b _ _ _ _ (wholes_kept subscripts) (λ zs. closed.binds b _ _ _ _ (range_kept h.unit range) (λ r.
          closed.binds b _ _ _ _ (told_kept b (place_of at h zs r)) (λ p. closed.asked b (read_at at p)))))

      constant_kept : (c : Named) → Rel b Value (constant_in program body c) (constant_in program other c)
      constant_kept (named at v bounds subscripts range) =
          closed.binds b _ _ _ _ (wholes_kept subscripts) (λ zs. closed.binds b _ _ _ _ (range_kept (units_of v) range) (λ r.
          closed.binds b _ _ _ _ (told_kept b (in_bounds at (element (elements (map axis_from bounds)) (map axis_from bounds) zs))) (λ n.
          closed.binds b _ _ _ _ (told_kept b (in_bounds at (part (units_of v) r))) (λ found. closed.pures b (cut_out found v)))))

      constants_kept : (c : Named) → Rel b Argument (constants_from program body c) (constants_from program other c)
      constants_kept (named at v bounds subscripts range) =
          closed.binds b _ _ _ _ (wholes_kept subscripts) (λ zs. closed.binds b _ _ _ _ (told_kept b (in_bounds at (element (elements (map axis_from bounds)) (map axis_from bounds) zs))) (λ n. closed.pures b _))

      pub arguments_kept : (p : Passed) → Rel b (List Argument) (arguments_of program body p) (arguments_of program other p)
      arguments_kept no_passed = closed.pures b []
      arguments_kept (by_value t rest) = closed.binds b _ _ _ _ (value_kept t) (λ v. closed.binds b _ _ _ _ (arguments_kept rest) (λ args. closed.pures b _))
      arguments_kept (alone of rest) = step_kept b _ _ (closed.binds b _ _ _ _ (place_kept of) (λ p. closed.binds b _ _ _ _ (arguments_kept rest) (λ args. closed.pures b _)))
      arguments_kept (to_end of rest) = step_kept b _ _ (closed.binds b _ _ _ _ (place_kept of) (λ p. closed.binds b _ _ _ _ (arguments_kept rest) (λ args. closed.pures b _)))
      arguments_kept (constants of rest) = step_kept b _ _ (closed.binds b _ _ _ _ (constants_kept of) (λ arg. closed.binds b _ _ _ _ (arguments_kept rest) (λ args. closed.pures b _)))

    ended_kept : (at : Site) (bytes : List ℕ) → Rel b (List ℕ × Last) (run_end at bytes) (run_end at bytes)
    ended_kept at [] = closed.stops b _
    ended_kept at (byte ∷ bytes) = closed.pures b _

    past_kept : (more other : List ℕ → M (List ℕ × Last)) → ((bytes : List ℕ) → Rel b (List ℕ × Last) (more bytes) (other bytes)) →
        (bytes : List ℕ) (byte : ℕ) → Rel b (List ℕ × Last) (run_past more bytes byte) (run_past other bytes byte)
    past_kept more other r [] byte = r []
    past_kept more other r (first ∷ bytes) byte = closed.pures b _

    byte_kept : (more other : List ℕ → M (List ℕ × Last)) → ((bytes : List ℕ) → Rel b (List ℕ × Last) (more bytes) (other bytes)) →
        (bytes : List ℕ) (byte : ℕ) (is_item : Bool) →
        Rel b (List ℕ × Last) (if is_item then more (bytes ++ byte ∷ []) else run_past more bytes byte) (if is_item then other (bytes ++ byte ∷ []) else run_past other bytes byte)
    byte_kept more other r bytes byte true = r (bytes ++ byte ∷ [])
    byte_kept more other r bytes byte false = past_kept more other r bytes byte

    with_kept : (at : Site) (more : List ℕ → M (List ℕ × Last)) → ((bytes : List ℕ) → Rel b (List ℕ × Last) (more bytes) (more bytes)) →
        (bytes : List ℕ) (next : Option ℕ) → Rel b (List ℕ × Last) (run_with at more bytes next) (run_with at more bytes next)
    with_kept at more r bytes None = ended_kept at bytes
    with_kept at more r bytes (Some byte) = byte_kept more more r bytes byte (is_item_byte byte)

    pub run_kept : (at : Site) (n : ℕ) (bytes : List ℕ) → Rel b (List ℕ × Last) (run_of at n bytes) (run_of at n bytes)
    run_kept at zero bytes = closed.stops b _
    run_kept at (suc n) bytes = closed.binds b takes takes _ _ (closed.taken b) (with_kept at (run_of at n) (run_kept at n) bytes)

    pub scalar_kept : (at : Site) (p : Place) → Rel b Last (scalar_in at p) (scalar_in at p)
    scalar_kept at p =
        closed.binds b _ _ _ _ (closed.inputs b (λ n. run_of at n []) (λ n. run_of at n []) (λ n. run_kept at n [])) (λ run.
        closed.binds b _ _ _ _ (told_kept b (item_at at run.0 p.ty)) (λ value. step_kept b _ _ (closed.binds b _ _ _ _ (closed.put b p value) (λ _. closed.pures b run.1))))

    pub elements_kept : (at : Site) (h : Holding) (n more : ℕ) (last : Last) → Rel b Last (elements_in at h n more last) (elements_in at h n more last)
    elements_kept at h n zero last = closed.pures b last
    elements_kept at h n (suc more) last = closed.binds b _ _ _ _ (scalar_kept at (element_at h n)) (elements_kept at h (suc n) more)

    rest_with_kept : (at : Site) (more : Last → M (Unit {0})) → ((last : Last) → Rel b (Unit {0}) (more last) (more last)) →
        (last : Last) (next : Option ℕ) → Rel b (Unit {0}) (rest_with at more last next) (rest_with at more last next)
    rest_with_kept at more r Nothing None = closed.stops b _
    rest_with_kept at more r Amid None = closed.pures b tt
    rest_with_kept at more r Over None = closed.pures b tt
    rest_with_kept at more r Nothing (Some byte) = r (last_of byte)
    rest_with_kept at more r Amid (Some byte) = r (last_of byte)
    rest_with_kept at more r Over (Some byte) = r (last_of byte)

    pub rest_kept : (at : Site) (n : ℕ) (last : Last) → Rel b (Unit {0}) (rest_of at n last) (rest_of at n last)
    rest_kept at zero last = closed.stops b _
    rest_kept at (suc n) Over = closed.pures b tt
    rest_kept at (suc n) Nothing = closed.binds b takes takes _ _ (closed.taken b) (rest_with_kept at (rest_of at n) (rest_kept at n) Nothing)
    rest_kept at (suc n) Amid = closed.binds b takes takes _ _ (closed.taken b) (rest_with_kept at (rest_of at n) (rest_kept at n) Amid)

    pub out_kept : (at : Site) (h : Holding) (n more : ℕ) → Rel b (List Value) (elements_out at h n more) (elements_out at h n more)
    out_kept at h n zero = closed.pures b []
    out_kept at h n (suc more) = step_kept b _ _ (closed.binds b _ _ _ _ (closed.asked b (read_at at (element_at h n))) (λ v. closed.binds b _ _ _ _ (out_kept at h (suc n) more) (λ vs. closed.pures b (v ∷ vs))))

    pub copies_kept : (v : Value) (more : ℕ) → Rel b (List Value) (copies_out v more) (copies_out v more)
    copies_kept v zero = closed.pures b []
    copies_kept v (suc more) = closed.binds b tick tick _ _ (closed.ticks b) (λ _. closed.binds b _ _ _ _ (copies_kept v more) (λ vs. closed.pures b (v ∷ vs)))

    pub filled_kept : (h : Holding) (v : Value) (n more : ℕ) → Rel b Way (filled h v n more) (filled h v n more)
    filled_kept h v n zero = closed.pures b GoOn
    filled_kept h v n (suc more) = closed.binds b tick tick _ _ (closed.ticks b) (λ _. closed.binds b _ _ _ _ (closed.put b (element_at h n) v) (λ _. filled_kept h v (suc n) more))

    pub grown_kept : (at : Site) (h : Holding) (by : ℤ) → Rel b (Unit {0}) (grown at h by) (grown at h by)
    grown_kept at h by =
        closed.binds b _ _ _ _ (closed.asked b (read_at at (element_at h 0))) (λ v. closed.binds b _ _ _ _ (told_kept b (as_whole v)) (λ z.
        closed.binds b _ _ _ _ (told_kept b (whole_at at (sum z by))) (λ w. closed.put b (element_at h 0) w)))

    pub around_kept : (next next' : M Way) → Rel b Way next next' → (way : Way) → Rel b Way (around next way) (around next' way)
    around_kept next next' r GoOn = r
    around_kept next next' r (Exit zero) = closed.pures b GoOn
    around_kept next next' r (Exit (suc depth)) = closed.pures b (Exit depth)
    around_kept next next' r (Cycle zero) = r
    around_kept next next' r (Cycle (suc depth)) = closed.pures b (Cycle depth)
    around_kept next next' r Return = closed.pures b Return

    pub onward_kept : (next next' : M Way) → Rel b Way next next' → (way : Way) → Rel b Way (onward next way) (onward next' way)
    onward_kept next next' r GoOn = r
    onward_kept next next' r (Exit depth) = closed.pures b _
    onward_kept next next' r (Cycle depth) = closed.pures b _
    onward_kept next next' r Return = closed.pures b _

    pub rounds_kept : (n : ℕ) (after : M (Unit {0})) (turn turn' : M Way) → Rel b (Unit {0}) after after → Rel b Way turn turn' → Rel b Way (rounds n after turn) (rounds n after turn')
    rounds_kept zero after turn turn' r t = closed.pures b GoOn
    rounds_kept (suc n) after turn turn' r t =
        step_kept b _ _ (closed.binds b turn turn' _ _ t (around_kept _ _ (closed.binds b after after _ _ r (λ _. rounds_kept n after turn turn' r t))))

    pub whole_kept : (t : Term) → Rel b ℤ (whole_of program body t) (whole_of program other t)
    whole_kept t = closed.binds b _ _ _ _ (value_kept t) (λ v. told_kept b (as_whole v))

    pub truth_kept : (t : Term) → Rel b Bool (truth_of program body t) (truth_of program other t)
    truth_kept t = closed.binds b _ _ _ _ (value_kept t) (λ v. told_kept b (as_truth v))

    pub written_kept : (w : act.Written) → Rel b (List Value) (written program body w) (written program other w)
    written_kept act.no_written = closed.pures b []
    written_kept (act.scalar t rest) = closed.binds b _ _ _ _ (value_kept t) (λ v. closed.binds b _ _ _ _ (written_kept rest) (λ vs. closed.pures b (v ∷ vs)))
    written_kept (act.array at number rest) =
        step_kept b _ _ (closed.binds b _ _ _ _ (closed.asked b (holding program number)) (λ h. closed.binds b _ _ _ _ (out_kept at h 0 h.count) (λ vs. closed.binds b _ _ _ _ (written_kept rest) (λ ws. closed.pures b _))))
    written_kept (act.constants v bounds rest) =
        step_kept b _ _ (closed.binds b _ _ _ _ (copies_kept v (elements (map axis_from bounds))) (λ vs. closed.binds b _ _ _ _ (written_kept rest) (λ ws. closed.pures b _)))

    pub wanted_kept : (w : act.Wanted) (last : Last) → Rel b Last (wanted program body w last) (wanted program other w last)
    wanted_kept act.no_wanted last = closed.pures b last
    wanted_kept (act.one (designator at number subscripts range) rest) last =
        closed.binds b _ _ _ _ (place_kept (designator at number subscripts range)) (λ p. closed.binds b _ _ _ _ (scalar_kept at p) (wanted_kept rest))
    wanted_kept (act.each at number rest) last =
        closed.binds b _ _ _ _ (closed.asked b (holding program number)) (λ h. closed.binds b _ _ _ _ (elements_kept at h 0 h.count last) (wanted_kept rest))

    pub counted_kept : (at : Site) (number : ℕ) (turn turn' : M Way) → Rel b Way turn turn' → (from to by : ℤ) → Rel b Way (counted program body at number turn from to by) (counted program other at number turn' from to by)
    counted_kept at number turn turn' t from to by =
        closed.binds b _ _ _ _ (told_kept b (not_zero at by)) (λ _. closed.binds b _ _ _ _ (closed.asked b (holding program number)) (λ h.
        closed.binds b _ _ _ _ (closed.put b (element_at h 0) (Whole from)) (λ _. rounds_kept (turn_count from to by) _ turn turn' (grown_kept at h by) t)))

    pub choice_kept : {A : Type 0} (yes : Bool) (m m' n n' : M A) → Rel b A m m' → Rel b A n n' → Rel b A (if yes then m else n) (if yes then m' else n')
    choice_kept true m m' n n' r q = r
    choice_kept false m m' n n' r q = q

    pub act_kept : (a : act.Action) → Rel b Way (stmts.act program body a) (stmts.act program other a)
    act_kept (act.assign target t) =
        step_kept b _ _ (closed.binds b _ _ _ _ (place_kept target) (λ p. closed.binds b _ _ _ _ (value_kept t) (λ v. closed.binds b _ _ _ _ (closed.put b p v) (λ _. closed.pures b GoOn))))
    act_kept (act.fill number t) =
        step_kept b _ _ (closed.binds b _ _ _ _ (value_kept t) (λ v. closed.binds b _ _ _ _ (closed.asked b (holding program number)) (λ h. filled_kept h v 0 h.count)))
    act_kept (act.call at number args) =
        step_kept b _ _ (closed.binds b _ _ _ _ (arguments_kept args) (λ given.
        closed.binds b _ _ _ _ (closed.calls b program body other at number given (sure number) (sure' number) (λ c h. below c h number)) (λ _. closed.pures b GoOn)))
    act_kept (act.exit depth) = step_kept b _ _ (closed.pures b _)
    act_kept (act.cycle depth) = step_kept b _ _ (closed.pures b _)
    act_kept act.return = step_kept b _ _ (closed.pures b _)
    act_kept act.stop = step_kept b _ _ (closed.stops b _)
    act_kept act.continue = step_kept b _ _ (closed.pures b _)
    act_kept (act.print items) = step_kept b _ _ (closed.binds b _ _ _ _ (written_kept items) (λ vs. closed.binds b _ _ _ _ (closed.emitted b _) (λ _. closed.pures b GoOn)))
    act_kept (act.read at items) =
        step_kept b _ _ (closed.binds b _ _ _ _ (wanted_kept items Nothing) (λ last.
        closed.binds b _ _ _ _ (closed.inputs b (λ n. rest_of at n last) (λ n. rest_of at n last) (λ n. rest_kept at n last)) (λ _. closed.pures b GoOn)))

    mutual
      pub perform_kept : (a : act.Statement) → Rel b Way (stmts.perform program body a) (stmts.perform program other a)
      perform_kept (act.does action) = act_kept action
      perform_kept (act.choose arms otherwise) = chosen_kept arms _ _ (block_kept otherwise)
      perform_kept (act.select t cases otherwise) = step_kept b _ _ (closed.binds b _ _ _ _ (whole_kept t) (λ z. selected_kept z cases _ _ (block_kept otherwise)))
      perform_kept (act.count at number from to by turn) =
          step_kept b _ _ (closed.binds b _ _ _ _ (whole_kept from) (λ x. closed.binds b _ _ _ _ (whole_kept to) (λ y. closed.binds b _ _ _ _ (bound_kept (pos 1) by) (λ z.
          counted_kept at number _ _ (block_kept turn) x y z))))
      perform_kept (act.while t turn) = step_kept b _ _ (closed.loops b _ _ _ _ (truth_kept t) (block_kept turn))
      perform_kept (act.forever turn) = step_kept b _ _ (closed.loops b _ _ _ _ (closed.pures b true) (block_kept turn))

      pub block_kept : (s : act.Block) → Rel b Way (block program body s) (block program other s)
      block_kept act.empty = closed.pures b GoOn
      block_kept (act.row first rest) = closed.binds b _ _ _ _ (perform_kept first) (onward_kept _ _ (block_kept rest))

      pub chosen_kept : (arms : act.Arms) (m m' : M Way) → Rel b Way m m' → Rel b Way (chosen program body arms m) (chosen program other arms m')
      chosen_kept act.no_arms m m' r = r
      chosen_kept (act.arm t turn rest) m m' r =
          step_kept b _ _ (closed.binds b _ _ _ _ (truth_kept t) (λ yes. choice_kept yes _ _ _ _ (block_kept turn) (chosen_kept rest m m' r)))

      pub selected_kept : (z : ℤ) (cases : act.Cases) (m m' : M Way) → Rel b Way m m' → Rel b Way (selected program body z cases m) (selected program other z cases m')
      selected_kept z act.no_cases m m' r = r
      selected_kept z (act.case values turn rest) m m' r = choice_kept (list_any (has z) values) _ _ _ _ (block_kept turn) (selected_kept z rest m m' r)
