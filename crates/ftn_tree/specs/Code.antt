-- Character constants, comments and continuations in a line (Fortran 90, 3.3.1.1 to 3.3.1.3, 4.3.2.1).
use Rattle.std.specs.Prelude.{ℕ, suc, ◌+◌, ◌-◌, Bool, true, false, not, ◌&&◌, ◌||◌, ◌==◌, nat_le, nat_lt, if◌then◌else◌, List, [], ◌∷◌, fold, length, reverse, take, drop, Option, Some, None}
use Rattle.std.specs.List.{list_all, ends_with, prefix_len}
use Rattle.ftn_base.specs.Letters.{is_blank}
use Rattle.ftn_tree.specs.Lines.{begins_with, indent}

abbrev pub is_quote : ℕ → Bool
is_quote b = b == 39 || b == 34

-- which quote is open after a byte: a quote opens a constant, and the same quote closes it (a doubled one closes it and opens it anew)
abbrev pub quote_after : Option ℕ → ℕ → Option ℕ
quote_after None b = if is_quote b then Some b else None
quote_after (Some quote) b = if b == quote then None else Some quote

abbrev pub open_after : Option ℕ → List ℕ → Option ℕ
open_after within bytes = fold quote_after within bytes

-- no constant is open
abbrev pub is_outside : Option ℕ → Bool
is_outside None = true
is_outside (Some quote) = false

-- how many bytes are code: those before the first `!` outside constants
abbrev pub code_len : Option ℕ → List ℕ → ℕ
code_len within [] = 0
code_len within (b ∷ rest) = if is_outside within && b == 33 then 0 else suc (code_len (quote_after within b) rest)

abbrev pub code_of : Option ℕ → List ℕ → List ℕ
code_of within bytes = take (code_len within bytes) bytes

-- how many bytes stand up to the last that is no blank
abbrev pub stem_len : List ℕ → ℕ
stem_len bytes = length bytes - prefix_len is_blank (reverse bytes)

-- the last byte that is no blank is `&`
abbrev pub goes_on : List ℕ → Bool
goes_on bytes = ends_with ◌==◌ (take (stem_len bytes) bytes) (38 ∷ [])

-- what stands before that `&`, if there is one
abbrev pub before_mark : List ℕ → List ℕ
before_mark bytes = if goes_on bytes then take (stem_len bytes - 1) bytes else bytes

-- the first byte that is no blank is `&`
abbrev pub leads : List ℕ → Bool
leads body = begins_with 38 (drop (indent body) body)

-- outside constants: nothing but one `&`, before a comment if there is one
abbrev pub is_lone : List ℕ → Bool
is_lone body = leads body && list_all is_blank (code_of None (drop (indent body + 1) body))

-- a control byte, other than a tab
abbrev pub is_control : ℕ → Bool
is_control b = nat_lt b 32 && not (b == 9) || b == 127

-- a byte that may not stand there, where an `&` neither leads nor ends its line
abbrev pub is_wrong : Option ℕ → ℕ → Bool
is_wrong within b = is_control b || is_outside within && (nat_le 128 b || b == 38)
