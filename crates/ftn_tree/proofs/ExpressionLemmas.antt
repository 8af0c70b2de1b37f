-- The names of a reference.
use Rattle.std.proofs.Common.{◌≡◌, ◌++◌, List, [], ◌∷◌, Option, Some, None, ℕ, map, sym, ◌∙◌, ap, append_assoc}
use Rattle.std.specs.List.{flat_map}
use Rattle.std.proofs.lemmas.List.Folds.{flat_map-map}
use Rattle.ftn_tree.specs.declared.expr.Expr.{Expr}
use Rattle.ftn_tree.specs.declared.expr.Part.{Part}
use Rattle.ftn_tree.specs.declared.expr.Expr.TheOpen.{Expr-F}
use Rattle.ftn_tree.specs.declared.expr.Expr.TheVariants.{Refer, rolls-Refer}
use Rattle.ftn_tree.specs.declared.expr.Expr.TheViews.{roll-Expr}
use Rattle.ftn_tree.specs.declared.expr.Expr.TheFolds.{fold-roll-Expr}
use Rattle.ftn_tree.specs.declared.mention.Mention.{Mention}
use Rattle.ftn_tree.specs.Roles.{mention}
use Rattle.ftn_tree.specs.Expressions.{role_with, mentions_step, part_mentions_step, mentions_in, mentions_in_args, mentions_in_part}

rolled : (name : ℕ) (args : Option (List Expr)) (part : Option Part) → mentions_in (Refer name args part) ≡ mentions_in (roll-Expr (Expr-F.Refer name args part))
rolled name args part = ap mentions_in (sym (rolls-Refer name args part))

of_all : (args : List Expr) → flat_map (λ (mentions : List Mention). mentions) (map mentions_in args) ≡ flat_map mentions_in args
of_all args = flat_map-map (λ (mentions : List Mention). mentions) mentions_in args

pub mentions_of_reference : (name : ℕ) (args : Option (List Expr)) (part : Option Part) → mentions_in (Refer name args part) ≡ mention name (role_with args part) ∷ (mentions_in_args args ++ mentions_in_part part)
mentions_of_reference name None None = rolled name None None ∙ fold-roll-Expr (List Mention) (List Mention) mentions_step part_mentions_step (Expr-F.Refer name None None)
mentions_of_reference name None (Some part) = rolled name None (Some part) ∙ fold-roll-Expr (List Mention) (List Mention) mentions_step part_mentions_step (Expr-F.Refer name None (Some part))
mentions_of_reference name (Some args) None =
    rolled name (Some args) None ∙ fold-roll-Expr (List Mention) (List Mention) mentions_step part_mentions_step (Expr-F.Refer name (Some args) None)
    ∙ ap (λ mentions. mention name (role_with {B = Part} (Some args) None) ∷ (mentions ++ [])) (of_all args)
mentions_of_reference name (Some args) (Some part) =
    rolled name (Some args) (Some part) ∙ fold-roll-Expr (List Mention) (List Mention) mentions_step part_mentions_step (Expr-F.Refer name (Some args) (Some part))
    ∙ ap (λ mentions. mention name (role_with (Some args) (Some part)) ∷ (mentions ++ mentions_in_part (Some part))) (of_all args)

regrouped : (old : List Mention) (first : Mention) (args part : List Mention) → ((old ++ (first ∷ [])) ++ args) ++ part ≡ old ++ (first ∷ (args ++ part))
regrouped old first args part = simp append_assoc

-- they are pushed one after the other
pub mentions_pushed :
    (old one two all : List Mention) (expr : Expr) (name : ℕ) (args : Option (List Expr)) (part : Option Part) →
    one ≡ old ++ mention name (role_with args part) ∷ [] → two ≡ one ++ mentions_in_args args → all ≡ two ++ mentions_in_part part →
    expr ≡ Refer name args part → all ≡ old ++ mentions_in expr
mentions_pushed old one two all expr name args part a b c e =
    c ∙ ap (λ xs. xs ++ mentions_in_part part) (b ∙ ap (λ xs. xs ++ mentions_in_args args) a)
    ∙ regrouped old (mention name (role_with args part)) (mentions_in_args args) (mentions_in_part part)
    ∙ ap (λ xs. old ++ xs) (sym (ap mentions_in e ∙ mentions_of_reference name args part))
