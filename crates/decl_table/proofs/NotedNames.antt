-- Where each name occurs, with one more mention before.
use Rattle.std.proofs.Common.{◌≡◌, ℕ, Bool, true, false, cond, ◌&&◌, ◌||◌, List, ◌∷◌, Option, Some, bytes_eq, refl, sym, ap, ap₂, ◌∙◌, arith}
use Rattle.std.specs.List.{find, list_any}
use Rattle.std.specs.Option.{option_map_or}
use Rattle.std.proofs.lemmas.Slice.Eq.{bytes_eq-Decides}
use Rattle.ftn_tree.specs.declared.mention.Mention.{Mention}
use Rattle.ftn_tree.specs.declared.mention.Role.TheVariants as role
use Rattle.ftn_tree.specs.declared.unit.FileTree.{FileTree}
use Rattle.ftn_tree.specs.Roles.{same_role}
use Rattle.ftn_tree.specs.Scopes.{name_at}
use Rattle.ftn_tree.specs.DeclaredEntities.{may_be_own, is_named}
use Rattle.decl_table.specs.declared.noted.Noted.{Noted}
use Rattle.decl_table.specs.steps.Noted.{noted_of, after}

abbrev noted : ℕ → Bool → Noted
noted first referenced = record { first = first; referenced = referenced }

token_of : Mention → ℕ
token_of m = m.token

-- of that name, or of another one
more_of : (files : List FileTree) (file : ℕ) (name : List ℕ) (m : Mention) (own : List Mention) (named : Bool) → is_named files file name m ≡ named
    → noted_of files file name (m ∷ own) ≡ cond named (after m (noted_of files file name own)) (noted_of files file name own)
more_of files file name m own named is =
    ap₂ noted (ap (λ n. option_map_or (λ (m : Mention). m.token) (cond (may_be_own m.role && n) (Some m) (find (λ m. may_be_own m.role && is_named files file name m) own)) 0) is
    ∙ first named (may_be_own m.role) (find (λ m. may_be_own m.role && is_named files file name m) own))
    (ap (λ n. (same_role m.role role.Parenthesised && n) || list_any (λ m. same_role m.role role.Parenthesised && is_named files file name m) own) is
    ∙ refers named (same_role m.role role.Parenthesised) (list_any (λ m. same_role m.role role.Parenthesised && is_named files file name m) own))
    ∙ both named
  where
    first : (named own : Bool) (later : Option Mention) → option_map_or (λ (m : Mention). m.token) (cond (own && named) (Some m) later) 0
        ≡ cond named (cond own m.token (option_map_or (λ (m : Mention). m.token) later 0)) (option_map_or (λ (m : Mention). m.token) later 0)
    first true true later = refl
    first true false later = refl
    first false true later = refl
    first false false later = refl

    refers : (named this later : Bool) → ((this && named) || later) ≡ cond named (this || later) later
    refers true true later = refl
    refers true false later = refl
    refers false true later = refl
    refers false false later = refl

    both : (named : Bool) → noted (cond named (cond (may_be_own m.role) m.token (noted_of files file name own).first) (noted_of files file name own).first)
        (cond named (same_role m.role role.Parenthesised || (noted_of files file name own).referenced) (noted_of files file name own).referenced)
        ≡ cond named (after m (noted_of files file name own)) (noted_of files file name own)
    both true = refl
    both false = refl

pub noted_next : (files : List FileTree) (file : ℕ) (m : Mention) (rest : List Mention) (name : List ℕ) (new here there : Noted) (key : List ℕ) → key ≡ name_at files file m.token
    → new ≡ cond (bytes_eq key name) (after m here) there → here ≡ noted_of files file key rest → there ≡ noted_of files file name rest
    → new ≡ noted_of files file name (m ∷ rest)
noted_next files file m rest name new here there key same put one other = by (bytes_eq key name) refl where
  named : bytes_eq key name ≡ is_named files file name m
  named = ap (λ k. bytes_eq k name) same

  by : (b : Bool) → bytes_eq key name ≡ b → new ≡ noted_of files file name (m ∷ rest)
  by true is =
      put ∙ ap (λ b. cond b (after m here) there) is
      ∙ ap (after m) (one ∙ ap (λ k. noted_of files file k rest) ((bytes_eq-Decides key name).0 (grind arith)))
      ∙ sym (more_of files file name m rest true (sym named ∙ is))
  by false is =
      put ∙ ap (λ b. cond b (after m here) there) is ∙ other
      ∙ sym (more_of files file name m rest false (sym named ∙ is))
