-- Which procedures references call, by the forms of expressions and statements, and by what names are.
use Rattle.std.proofs.Common.{◌≡◌, refl, sym, ◌∙◌, ap, ap₂, Bool, true, ℕ, List, [], ◌∷◌, ◌++◌, map, Option, Some, None, append_assoc}
use Rattle.std.specs.List.{flat_map}
use Rattle.std.specs.Option.{is_some, unwrap_or}
use Rattle.ftn_tree.specs.declared.expr.Expr.{Expr}
use Rattle.ftn_tree.specs.declared.expr.Expr.TheVariants as e
use Rattle.ftn_tree.specs.declared.expr.Part.{Part}
use Rattle.ftn_tree.specs.Calls.{Call, call_by, calls, calls_all, calls_args, calls_end, calls_section}
use Rattle.ftn_tree.specs.ExpressionTypes.{Typed, argument, typed_all, typed_args}
use Rattle.ftn_tree.specs.Procedures.{Sense}
use Rattle.ftn_tree.specs.Trees.{Tree, Trees, Args, Section, End, whole, truth, quoted, paren, unary, binary, refer, no_args, args, none, more, no_section, section, no_end, end}
use Rattle.ftn_tree.proofs.Inverse.{args_tree, list_tree, part_tree, tree_refer}
use Rattle.name_types.specs.declared.names.Setting.{Setting}
use Rattle.name_types.specs.steps.Senses.{sense_by}
use Rattle.type_check.specs.steps.Calling.{args_calls, calls_by, name_calls, part_calls}
use Rattle.type_check.specs.steps.Typing.{typed_by}
use Rattle.type_check.proofs.TypedTrees.{typed_alike}

-- ---- calls that are added to others

pub added : {X : Type 0} (first some others before after : List X) → before ≡ first ++ some → after ≡ before ++ others → after ≡ first ++ (some ++ others)
added first some others before after so_far one = one ∙ ap (λ xs. xs ++ others) so_far ∙ append_assoc first some others

-- ---- by the forms of expressions

module _ (s : Setting) where
  arguments_listed : (list : List Expr) → map (λ arg. argument (typed_by s arg)) list ≡ map argument (typed_all (sense_by s) (list_tree list))
  arguments_listed [] = refl
  arguments_listed (first ∷ rest) = ap (λ others. argument (typed_by s first) ∷ others) (arguments_listed rest)

  named : (name : ℕ) (given : Option (List Expr)) → name_calls s name given
      ≡ call_by name (sense_by s name (is_some (typed_args (sense_by s) (args_tree given)))) (map argument (unwrap_or (typed_args (sense_by s) (args_tree given)) []))
  named name None = refl
  named name (Some list) = ap (call_by name (sense_by s name true)) (arguments_listed list)

  all_listed : (list : List Expr) → flat_map (calls_by s) list ≡ calls_all (sense_by s) (list_tree list)
  all_listed [] = refl
  all_listed (first ∷ rest) = ap (λ others. calls_by s first ++ others) (all_listed rest)

  args_listed : (given : Option (List Expr)) → args_calls s given ≡ calls_args (sense_by s) (args_tree given)
  args_listed None = refl
  args_listed (Some list) = all_listed list

  part_is : (part : Option Part) → part_calls s part ≡ calls_section (sense_by s) (part_tree part)
  part_is None = refl
  part_is (Some part) = refl

  refer_calls : (name : ℕ) (given : Option (List Expr)) (part : Option Part) (expr : Expr) → expr ≡ e.Refer name given part
      → calls_by s expr ≡ name_calls s name given ++ (args_calls s given ++ part_calls s part)
  refer_calls name given part expr same =
      ap (calls_by s) same ∙ ap (calls (sense_by s)) (tree_refer name given part)
      ∙ sym (ap₂ (λ xs ys. xs ++ ys) (named name given) (ap₂ (λ xs ys. xs ++ ys) (args_listed given) (part_is part)))

  pub refer_added : (name : ℕ) (given : Option (List Expr)) (part : Option Part) (expr : Expr) (first one two three : List Call) → expr ≡ e.Refer name given part
      → one ≡ first ++ name_calls s name given → two ≡ one ++ args_calls s given → three ≡ two ++ part_calls s part → three ≡ first ++ calls_by s expr
  refer_added name given part expr first one two three same of_name of_args of_part =
      added one (args_calls s given) (part_calls s part) two three of_args of_part ∙ ap (λ xs. xs ++ (args_calls s given ++ part_calls s part)) of_name
      ∙ append_assoc first (name_calls s name given) (args_calls s given ++ part_calls s part)
      ∙ ap (λ xs. first ++ xs) (sym (refer_calls name given part expr same))

-- ---- what names are decides what is called

module _ (s t : ℕ → Bool → Sense) (same : (token : ℕ) (has_args : Bool) → s token has_args ≡ t token has_args) where
  all_alike : (trees : Trees) → typed_all s trees ≡ typed_all t trees
  all_alike none = refl
  all_alike (more tree rest) = ap₂ (λ x xs. x ∷ xs) (typed_alike s t same tree) (all_alike rest)

  args_alike : (given : Args) → typed_args s given ≡ typed_args t given
  args_alike no_args = refl
  args_alike (args given) = ap Some (all_alike given)

  mutual
    pub calls_alike : (tree : Tree) → calls s tree ≡ calls t tree
    calls_alike (whole token z) = refl
    calls_alike (truth token b) = refl
    calls_alike (quoted token text) = refl
    calls_alike (paren token inner) = calls_alike inner
    calls_alike (unary op operator arg) = calls_alike arg
    calls_alike (binary op operator left right) = ap₂ (λ xs ys. xs ++ ys) (calls_alike left) (calls_alike right)
    calls_alike (refer name given part) =
        ap₂ (λ xs ys. xs ++ ys)
        (ap (λ x. call_by name x (map argument (unwrap_or (typed_args s given) []))) (same name (is_some (typed_args s given)))
        ∙ ap (λ (ts : Option (List Typed)). call_by name (t name (is_some ts)) (map argument (unwrap_or ts []))) (args_alike given))
        (ap₂ (λ xs ys. xs ++ ys) (given_alike given) (section_alike part))

    given_alike : (given : Args) → calls_args s given ≡ calls_args t given
    given_alike no_args = refl
    given_alike (args given) = trees_alike given

    trees_alike : (trees : Trees) → calls_all s trees ≡ calls_all t trees
    trees_alike none = refl
    trees_alike (more tree rest) = ap₂ (λ xs ys. xs ++ ys) (calls_alike tree) (trees_alike rest)

    section_alike : (part : Section) → calls_section s part ≡ calls_section t part
    section_alike no_section = refl
    section_alike (section low high) = ap₂ (λ xs ys. xs ++ ys) (end_alike low) (end_alike high)

    end_alike : (part : End) → calls_end s part ≡ calls_end t part
    end_alike no_end = refl
    end_alike (end tree) = calls_alike tree
