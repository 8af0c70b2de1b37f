-- The statements that are no executable ones (Fortran 90, 2.1).
use Rattle.ftn_tree.specs.declared.form.Form.{Form, out-Form}
use Rattle.ftn_tree.specs.Assignments.{IsAssignment}
use Rattle.ftn_tree.specs.Phrases.{Phrase}
use Rattle.ftn_tree.specs.UnitForms.{unit_form_at}

-- such a statement, which is no assignment: `dimension(1) = 2` is one
abbrev pub is_specification : Form → Phrase
is_specification form at tokens = (IsAssignment tokens → ⊥) × unit_form_at (out-Form form) at tokens
