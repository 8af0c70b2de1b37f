-- The conditions of a rename in first form, in the order in which they are tested, each with its least place.
use Rattle.std.specs.Prelude.{ℕ, not, ◌+◌, ◌-◌, ◌||◌, nat_lt, List, [], length, codes, Option, Some, None, unwrap_or, slice_get, if◌then◌else◌}
use Rattle.std.specs.List.{find}
use Rattle.std.specs.Str.{bytes_eq}
use Rattle.ftn_base.specs.Keywords.{is_keyword, is_intrinsic}
use Rattle.ftn_base.specs.Letters.{folded}
use Rattle.ftn_base.specs.Limits.{line_limit, name_limit}
use Rattle.ftn_base.specs.Names.{is_name}
use Rattle.ftn_base.specs.declared.name.Edition.TheVariants.{F90}
use Rattle.ftn_tree.specs.declared.token.Token.{Token}
use Rattle.free_scan.specs.Lines.{lines}
use Rattle.rename_ref.specs.declared.rename.Rename.{Rename}
use Rattle.rename_ref.specs.declared.judgement.Cond.{Cond}
use Rattle.rename_ref.specs.declared.judgement.Cond.TheVariants.{NoName, BadName, Keyword, Captured, LongLine}
use Rattle.rename_ref.specs.declared.judgement.Judgement.{Judgement}
use Rattle.rename_ref.specs.declared.judgement.Judgement.TheVariants.{Refuse, Accept}
use Rattle.rename_ref.specs.Names.{name_tokens, covering, denoting}
use Rattle.rename_ref.specs.Edits.{applied, replacing}

abbrev pub name_of : Cond → List ℕ
name_of NoName = codes "NoName"
name_of BadName = codes "BadName"
name_of Keyword = codes "Keyword"
name_of Captured = codes "Captured"
name_of LongLine = codes "LongLine"

-- the name token that the order names, in the one file of the project
abbrev pub chosen : Rename → List ℕ → List ℕ → List Token → Option Token
chosen order file text tokens = if bytes_eq order.file file then covering order.line order.column text tokens else None

-- the length of a line with its LF, the lines counted from 1
abbrev pub line_length : List ℕ → ℕ → ℕ
line_length text line = length (unwrap_or (slice_get (lines text) (line - 1)) [])

-- the first of these tokens on a line that has more than 132 bytes in the new text
abbrev pub on_long_line : List ℕ → List Token → Option Token
on_long_line new_text tokens = find (λ token. nat_lt (line_limit + 1) (line_length new_text token.line)) tokens

-- the text after all tokens that denote the entity of that name are replaced
abbrev pub renamed_text : List ℕ → List ℕ → List Token → List ℕ → List ℕ
renamed_text old new tokens text = applied text (replacing new (denoting old tokens))

abbrev pub refused : Cond → Option Token → Judgement
refused cond None = Refuse cond None
refused cond (Some token) = Refuse cond (Some token.range.start)

-- LongLine, the last condition
abbrev pub judged_line : List ℕ → Option Token → Judgement
judged_line new_text None = Accept new_text
judged_line new_text (Some token) = refused LongLine (Some token)

abbrev pub judged_lines : List ℕ → List Token → Judgement
judged_lines new_text replaced = judged_line new_text (on_long_line new_text replaced)

-- Captured, and then what follows it
abbrev pub judged_names : List ℕ → List ℕ → List ℕ → List Token → Option Token → Judgement
judged_names old new text tokens None = judged_lines (renamed_text old new tokens text) (denoting old tokens)
judged_names old new text tokens (Some token) = refused Captured (Some token)

-- the conditions on the new name
abbrev pub judged_new : List ℕ → List ℕ → List ℕ → List Token → Judgement
judged_new old new text tokens =
    if not (is_name (name_limit F90) new) then refused BadName None
    else if is_keyword (folded new) || is_intrinsic (folded new) then refused Keyword None
    else judged_names old new text tokens (find (λ token. bytes_eq token.value (folded new)) (name_tokens tokens))

abbrev pub judged_token : List ℕ → List ℕ → List Token → Option Token → Judgement
judged_token new text tokens None = refused NoName None
judged_token new text tokens (Some token) = judged_new token.value new text tokens

-- what becomes of the order in a project of one file of that name, text and tokens
abbrev pub judged : Rename → List ℕ → List ℕ → List Token → Judgement
judged order file text tokens = judged_token order.new text tokens (chosen order file text tokens)
