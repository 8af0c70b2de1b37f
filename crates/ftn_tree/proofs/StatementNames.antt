-- The names in statements.
use Rattle.std.proofs.Common.{◌≡◌, refl, ℕ, Bool, true, false, List, [], ◌++◌, Option, Some, None, ◌⊎◌, inl, inr, codes}
use Rattle.ftn_tree.specs.declared.expr.Expr.{Expr}
use Rattle.ftn_tree.specs.declared.form.Form.{Form, out-Form}
use Rattle.ftn_tree.specs.declared.form.Form.TheOpen.{Form-F}
use Rattle.ftn_tree.specs.declared.lexeme.Lexeme.TheVariants as lexeme
use Rattle.ftn_tree.specs.declared.mention.Mention.{Mention}
use Rattle.ftn_tree.specs.declared.mention.Role.TheVariants as role
use Rattle.ftn_tree.specs.declared.parts.DoControl.{DoControl}
use Rattle.ftn_tree.specs.declared.parts.LeaveWord.{LeaveWord}
use Rattle.ftn_tree.specs.declared.parts.LeaveWord.TheVariants as leave
use Rattle.ftn_tree.specs.declared.parts.CaseRange.{CaseRange}
use Rattle.ftn_tree.specs.declared.parts.CaseRange.TheVariants as range
use Rattle.ftn_tree.specs.declared.parts.IoStyle.{IoStyle}
use Rattle.ftn_tree.specs.declared.parts.IoStyle.TheVariants as style
use Rattle.ftn_tree.specs.declared.token.Token.{Token}
use Rattle.ftn_tree.specs.Expressions.{mentions_in, mentions_in_args, mentions_in_bound}
use Rattle.ftn_tree.specs.Assignments.{IsAssignment}
use Rattle.ftn_tree.specs.ExecutableForms as text
use Rattle.ftn_tree.specs.FileFaults.{is_statement}
use Rattle.ftn_tree.specs.Grammar.{expr}
use Rattle.ftn_tree.specs.Layers.{FormLayer}
use Rattle.ftn_tree.specs.Lexemes.{lexeme_of}
use Rattle.ftn_tree.specs.Mentions.{action_mentions_at, action_mentions, case_mentions, executable_mentions_at, declared_mentions_at, mentions_at}
use Rattle.ftn_tree.specs.PartMentions as spec
use Rattle.ftn_tree.specs.Phrases.{Phrase, ◌·◌, mark, maybe, in_parens, commas_or_none}
use Rattle.ftn_tree.specs.Roles.{mention}
use Rattle.ftn_tree.specs.RowNames.{AreNames, Respelled, has_letters_at, has_letters, names_in}
use Rattle.ftn_tree.specs.SpecificationForms.{declaration_at}
use Rattle.ftn_tree.specs.UnitForms.{unit_form_at}
use Rattle.ftn_tree.proofs.Namings.{Names, never_named, none_named, both, token_named, other_kind, word_named, mark_named, name_named, whether_named, provided_named, maybe_none, ended, parens_named, after_commas_named, commas_named, commas_or_none_named, is_listed}
use Rattle.ftn_tree.proofs.Respellings.{assignment_stays, assignment_was}
use Rattle.ftn_tree.proofs.ExpressionNames.{expr_named, reference_named}
use Rattle.ftn_tree.proofs.PartNames.{type_named, access_listed, procedure_listed, mode_named, attribute_named, entity_named, array_named, constant_named, saved_named, names_or_none_named, names_named}
use Rattle.ftn_tree.proofs.DataNames.{groups_named, sets_named, data_groups_named}
use Rattle.ftn_tree.proofs.UnitNames.{maybe_name_named, subroutine_named, function_named, end_named, block_data_named, rename_named, only_item_named, implicit_named}

-- ---- statements that may stand in an IF statement

assignment_named : {letters : Bool} (target value : Expr) → Names letters (text.assignment target value) (mentions_in target ++ mentions_in value)
assignment_named target value = both (reference_named target) (both (mark_named lexeme.Equals refl) (expr_named value))

leave_named : {letters : Bool} (which : LeaveWord) → Names letters (text.leave_word which) []
leave_named leave.Exit = word_named (codes "exit") refl
leave_named leave.Cycle = word_named (codes "cycle") refl

code_named : {letters : Bool} (number : ℕ) → Names letters (text.stop_code number) []
code_named number = token_named _ _ (λ at here says. inl (by here says.1)) where
  by : (here : Token) → (lexeme_of here ≡ lexeme.Whole) ⊎ (lexeme_of here ≡ lexeme.Quoted) → lexeme_of here ≡ lexeme.Word → ⊥
  by here (inl whole) = other_kind here lexeme.Whole refl whole
  by here (inr quoted) = other_kind here lexeme.Quoted refl quoted

call_args_named : {letters : Bool} (args : Option (List Expr)) → Names letters (maybe (λ args. in_parens (commas_or_none expr args)) args) (mentions_in_args args)
call_args_named None = none_named
call_args_named (Some args) = parens_named (commas_or_none_named expr_named args)

after_stars_named : {letters : Bool} {phrase : Phrase} {mentions : List Mention} → Names letters phrase mentions → Names letters (text.after_stars phrase) mentions
after_stars_named named =
    both (mark_named lexeme.Open refl) (both (mark_named lexeme.Times refl) (both (mark_named lexeme.Comma refl) (both (mark_named lexeme.Times refl) (both (mark_named lexeme.Close refl) named))))

output_named : {letters : Bool} (how : IoStyle) (items : List Expr) → Names letters (text.output how items) (spec.in_all items)
output_named style.Star items = both (word_named (codes "print") refl) (both (mark_named lexeme.Times refl) (after_commas_named expr_named items))
output_named style.Paren items = both (word_named (codes "write") refl) (after_stars_named (commas_or_none_named expr_named items))

input_named : {letters : Bool} (how : IoStyle) (items : List Expr) → Names letters (text.input how items) (spec.in_all items)
input_named style.Star items = both (word_named (codes "read") refl) (both (mark_named lexeme.Times refl) (after_commas_named reference_named items))
input_named style.Paren items = both (word_named (codes "read") refl) (after_stars_named (commas_or_none_named reference_named items))

-- what is no assignment stays none
otherwise_named : {letters : Bool} {phrase : Phrase} {mentions : List Mention} → Names letters phrase mentions → Names letters (text.otherwise phrase) mentions
otherwise_named named = record {
  say = λ at tokens says. named.say at tokens says.1;
  free = λ at tokens others says alike. ((λ is. says.0 (assignment_was _ at tokens others alike is)), named.free at tokens others says.1 alike);
}

-- and an assignment stays one
assigns_named : {letters : Bool} {phrase : Phrase} {mentions : List Mention} → Names letters phrase mentions
    → Names letters (λ at tokens. IsAssignment tokens × phrase at tokens) mentions
assigns_named named = record {
  say = λ at tokens says. named.say at tokens says.1;
  free = λ at tokens others says alike. (assignment_stays _ at tokens others alike says.0, named.free at tokens others says.1 alike);
}

action_named : {letters : Bool} (layer : FormLayer) → Names letters (text.action_at layer) (action_mentions_at layer)
action_named (Form-F.Call number args) = both (word_named (codes "call") refl) (both (name_named (mention number role.Called)) (call_args_named args))
action_named (Form-F.Exit which label) = both (leave_named which) (maybe_name_named role.Leaves label)
action_named (Form-F.Stop code) = both (word_named (codes "stop") refl) (maybe_none code_named code)
action_named Form-F.Return = word_named (codes "return") refl
action_named Form-F.Continue = word_named (codes "continue") refl
action_named (Form-F.Print how items) = output_named how items
action_named (Form-F.Read how items) = input_named how items
action_named _ = never_named _ (λ at tokens says. says)

-- in an IF statement
inner_named : {letters : Bool} (layer : FormLayer) → Names letters (text.inner_at layer) (action_mentions_at layer)
inner_named (Form-F.Assign target value) = let all = assigns_named (assignment_named target value) in record { say = all.say; free = all.free }
inner_named layer = let all = otherwise_named (action_named layer) in record { say = all.say; free = all.free }

inner_from_named : {letters : Bool} (number : ℕ) (inner : Form) → Names letters (text.inner_from number inner) (action_mentions inner)
inner_from_named number inner =
    let one = inner_named (out-Form inner) in
    record { say = λ at tokens says. one.say at tokens says.1; free = λ at tokens others says alike. (says.0, one.free at tokens others says.1 alike) }

-- ---- constructs

condition_named : {letters : Bool} (found : Expr) → Names letters (text.condition found) (mentions_in found)
condition_named found = parens_named (expr_named found)

joined_named : {letters : Bool} (whole one other : List ℕ) (joined : Bool) → is_listed whole ≡ true → is_listed one ≡ true → is_listed other ≡ true
    → Names letters (text.joined_words whole one other joined) []
joined_named whole one other true a b c = word_named whole a
joined_named whole one other false a b c = both (word_named one b) (word_named other c)

comma_named : {letters : Bool} (comma : Bool) → Names letters (text.comma_if comma) []
comma_named comma = whether_named comma (mark_named lexeme.Comma refl)

label_named : {letters : Bool} (label : Option ℕ) → Names letters (maybe text.label label) (spec.maybe_named role.Label label)
label_named None = none_named
label_named (Some number) = both (name_named (mention number role.Label)) (mark_named lexeme.Colon refl)

step_named : {letters : Bool} (step : Option Expr) → Names letters (maybe (λ step. mark lexeme.Comma · expr step) step) (mentions_in_bound step)
step_named None = none_named
step_named (Some step) = both (mark_named lexeme.Comma refl) (expr_named step)

control_named : {letters : Bool} (control : Option DoControl) → Names letters (maybe text.control control) (spec.in_control control)
control_named None = none_named
control_named (Some c) =
    both (comma_named c.comma) (both (name_named (mention c.variable role.Plain)) (both (mark_named lexeme.Equals refl) (both (expr_named c.from)
    (both (mark_named lexeme.Comma refl) (both (expr_named c.to) (step_named c.step))))))

range_named : {letters : Bool} (found : CaseRange) → Names letters (text.case_range found) (spec.in_range found)
range_named (range.One value) = expr_named value
range_named (range.From low) = ended (expr_named low) (mark_named lexeme.Colon refl)
range_named (range.To high) = both (mark_named lexeme.Colon refl) (expr_named high)
range_named (range.Between low high) = both (expr_named low) (both (mark_named lexeme.Colon refl) (expr_named high))

case_named : {letters : Bool} (ranges : Option (List CaseRange)) → Names letters (text.case_of ranges) (case_mentions ranges)
case_named None = word_named (codes "default") refl
case_named (Some ranges) = parens_named (commas_named range_named ranges)

statement_named : {letters : Bool} (layer : FormLayer) → Names letters (text.statement_at layer) (executable_mentions_at layer)
statement_named (Form-F.IfThen found) = both (word_named (codes "if") refl) (ended (condition_named found) (word_named (codes "then") refl))
statement_named (Form-F.ElseIf joined found) =
    both (joined_named (codes "elseif") (codes "else") (codes "if") joined refl refl refl) (ended (condition_named found) (word_named (codes "then") refl))
statement_named Form-F.Else = word_named (codes "else") refl
statement_named (Form-F.If found number inner) =
    both (word_named (codes "if") refl) (both (condition_named found) (inner_from_named number inner))
statement_named (Form-F.Do label control) = both (label_named label) (both (word_named (codes "do") refl) (control_named control))
statement_named (Form-F.DoWhile label comma found) =
    both (label_named label) (both (word_named (codes "do") refl) (both (comma_named comma) (both (word_named (codes "while") refl) (condition_named found))))
statement_named (Form-F.Select joined found) = both (joined_named (codes "selectcase") (codes "select") (codes "case") joined refl refl refl) (condition_named found)
statement_named (Form-F.Case ranges) = both (word_named (codes "case") refl) (case_named ranges)
statement_named layer = let one = action_named layer in record { say = one.say; free = one.free }

executable_named : (layer : FormLayer) → Names (has_letters_at layer) (text.executable_at layer) (mentions_at layer)
executable_named (Form-F.Assign target value) = let all = assigns_named (assignment_named target value) in record { say = all.say; free = all.free }
executable_named (Form-F.BlockData joined number) = never_named _ (λ at tokens says. says.1)
executable_named (Form-F.Program number) = never_named _ (λ at tokens says. says.1)
executable_named (Form-F.ModuleProcedure names) = never_named _ (λ at tokens says. says.1)
executable_named (Form-F.Module number) = never_named _ (λ at tokens says. says.1)
executable_named (Form-F.Subroutine number dummies) = never_named _ (λ at tokens says. says.1)
executable_named (Form-F.Function ty number dummies answer) = never_named _ (λ at tokens says. says.1)
executable_named Form-F.Contains = never_named _ (λ at tokens says. says.1)
executable_named (Form-F.End ending) = never_named _ (λ at tokens says. says.1)
executable_named (Form-F.UseAll number renames) = never_named _ (λ at tokens says. says.1)
executable_named (Form-F.UseOnly number items) = never_named _ (λ at tokens says. says.1)
executable_named (Form-F.Implicit groups) = never_named _ (λ at tokens says. says.1)
executable_named (Form-F.Interface number) = never_named _ (λ at tokens says. says.1)
executable_named (Form-F.Declare ty attributes colons entities) = never_named _ (λ at tokens says. says.1)
executable_named (Form-F.Dimension colons arrays) = never_named _ (λ at tokens says. says.1)
executable_named (Form-F.Parameter constants) = never_named _ (λ at tokens says. says.1)
executable_named (Form-F.Data groups) = never_named _ (λ at tokens says. says.1)
executable_named (Form-F.Save colons items) = never_named _ (λ at tokens says. says.1)
executable_named (Form-F.Access which colons names) = never_named _ (λ at tokens says. says.1)
executable_named (Form-F.External which names) = never_named _ (λ at tokens says. says.1)
executable_named (Form-F.Intent wanted colons names) = never_named _ (λ at tokens says. says.1)
executable_named (Form-F.Common groups) = never_named _ (λ at tokens says. says.1)
executable_named (Form-F.Equivalence sets) = never_named _ (λ at tokens says. says.1)
executable_named layer = let all = otherwise_named (statement_named layer) in record { say = all.say; free = all.free }

-- ---- specifications

declaration_named : {letters : Bool} (layer : FormLayer) → Names letters (declaration_at layer) (declared_mentions_at layer)
declaration_named (Form-F.Declare ty attributes colons entities) =
    provided_named _ (both (type_named ty) (both (after_commas_named attribute_named attributes)
    (both (whether_named colons (mark_named lexeme.Colons refl)) (commas_named (entity_named (spec.given_by attributes)) entities))))
declaration_named (Form-F.Dimension colons arrays) =
    both (word_named (codes "dimension") refl) (both (whether_named colons (mark_named lexeme.Colons refl)) (commas_named array_named arrays))
declaration_named (Form-F.Parameter constants) = both (word_named (codes "parameter") refl) (parens_named (commas_named constant_named constants))
declaration_named (Form-F.Data groups) = both (word_named (codes "data") refl) (data_groups_named groups)
declaration_named (Form-F.Save colons items) = both (word_named (codes "save") refl) (saved_named colons items)
declaration_named (Form-F.Access which colons names) = both (word_named _ (access_listed which)) (names_or_none_named (spec.access_role which) colons names)
declaration_named (Form-F.External which names) = both (word_named _ (procedure_listed which)) (names_named (spec.procedure_role which) names)
declaration_named (Form-F.Intent wanted colons names) =
    both (word_named (codes "intent") refl) (both (parens_named (mode_named wanted)) (both (whether_named colons (mark_named lexeme.Colons refl)) (names_named (spec.intent_role wanted) names)))
declaration_named (Form-F.Common groups) = both (word_named (codes "common") refl) (groups_named groups)
declaration_named (Form-F.Equivalence sets) = both (word_named (codes "equivalence") refl) (sets_named sets)
declaration_named _ = never_named _ (λ at tokens says. says)

-- ---- openings, endings, USE and IMPLICIT

unit_form_named : (layer : FormLayer) → Names (has_letters_at layer) (unit_form_at layer) (mentions_at layer)
unit_form_named (Form-F.BlockData joined number) = both (block_data_named joined) (maybe_name_named role.Opens number)
unit_form_named (Form-F.Program number) = both (word_named (codes "program") refl) (name_named (mention number role.Opens))
unit_form_named (Form-F.ModuleProcedure names) = both (word_named (codes "module") refl) (both (word_named (codes "procedure") refl) (names_named role.Specific names))
unit_form_named (Form-F.Module number) = both (word_named (codes "module") refl) (name_named (mention number role.Opens))
unit_form_named (Form-F.Subroutine number dummies) = subroutine_named number dummies
unit_form_named (Form-F.Function ty number dummies answer) = function_named ty number dummies answer
unit_form_named Form-F.Contains = word_named (codes "contains") refl
unit_form_named (Form-F.End ending) = end_named ending
unit_form_named (Form-F.UseAll number renames) =
    both (word_named (codes "use") refl) (both (name_named (mention number role.Module)) (after_commas_named rename_named renames))
unit_form_named (Form-F.UseOnly number items) =
    both (word_named (codes "use") refl) (both (name_named (mention number role.Module)) (both (mark_named lexeme.Comma refl)
    (both (word_named (codes "only") refl) (both (mark_named lexeme.Colon refl) (commas_or_none_named only_item_named items)))))
unit_form_named (Form-F.Implicit groups) = both (word_named (codes "implicit") refl) (implicit_named groups)
unit_form_named (Form-F.Interface number) = both (word_named (codes "interface") refl) (maybe_name_named role.Generic number)
unit_form_named layer = let one = declaration_named layer in record { say = one.say; free = one.free }

-- ---- all of them

pub statement_names : (form : Form) (at : ℕ) (row : List Token) → is_statement form at row → AreNames (has_letters form) at row (names_in form)
statement_names form at row (inl says) = (unit_form_named (out-Form form)).say at row says.1
statement_names form at row (inr says) = (executable_named (out-Form form)).say at row says

pub statement_free : (form : Form) (at : ℕ) (row other : List Token) → is_statement form at row → Respelled (names_in form) at row other → is_statement form at other
statement_free form at row other (inl says) alike =
    inl ((λ is. says.0 (assignment_was (names_in form) at row other alike is)), (unit_form_named (out-Form form)).free at row other says.1 alike)
statement_free form at row other (inr says) alike = inr ((executable_named (out-Form form)).free at row other says alike)
