-- The constants that lead to one another, and what is known of all names, where a project is gathered.
use Rattle.std.proofs.Common.{◌≡◌, sym, ◌∙◌, ap, subst, cond, ℕ, ◌<◌, Bool, true, false, List, [], length, get_or, Some, All}
use Rattle.std.specs.List.{filter_map}
use Rattle.std.proofs.lemmas.List.{length-map}
use Rattle.std.proofs.lemmas.List.Elements.{All-map, All-nil}
use Rattle.std.proofs.lemmas.List.FromFn.{length-map-range_with_len}
use Rattle.std.proofs.lemmas.Option.{slice_get_within}
use Rattle.ftn_base.specs.ModuleUses.{AreKnown}
use Rattle.ftn_tree.specs.declared.unit.FileTree.{FileTree}
use Rattle.ftn_tree.specs.Circles.{tokens_for}
use Rattle.ftn_tree.specs.KeyKinds.{Datum, is_constant, kind_of}
use Rattle.ftn_tree.specs.Meanings.{own}
use Rattle.ftn_tree.specs.Projects.{AreTrees}
use Rattle.const_expr.specs.Namings.{naming_by}
use Rattle.const_value.specs.declared.circles.Circles.{Circles}
use Rattle.const_value.specs.declared.knowledge.Knowledge.{Knowledge}
use Rattle.const_value.specs.declared.project.Project.{Project}
use Rattle.const_value.specs.steps.Gathered.{IsGathered}
use Rattle.const_value.specs.steps.Known.{IsKnown}
use Rattle.const_value.specs.steps.Knowing.{Knowing, measure_all, seen}
use Rattle.const_value.specs.steps.Names.{all_data}
use Rattle.const_value.specs.steps.Numbered.{AreEntities, AreNumbered, name_at, name_refers, name_uses}
use Rattle.const_value.specs.steps.Projects.{row_in}
use Rattle.const_value.specs.steps.References.{AreCircles, IsWhole, all_uses, refers, refers_at}
use Rattle.const_value.proofs.CircularFindings.{by_name}
use Rattle.const_value.proofs.KnownNames.{known_names, known_tokens}
use Rattle.const_value.proofs.Rounds.{All-filter_map}
use Rattle.const_value.proofs.TiedNames.{are_tied, uses_are}

-- ---- circles of any project

module _ (p : Project) (c : Circles) (are : AreCircles p c) where
  uses_long : length (all_uses p) ≡ length p.names.items
  uses_long = length-map-range_with_len (refers p) 0 (length p.names.items)

  pub uses_count : length c.uses.items ≡ length p.names.items
  uses_count = sym (length-map c.uses.items (λ list. list.items)) ∙ ap length are.uses ∙ uses_long

  tokens_count : length c.tokens.items ≡ length p.names.items
  tokens_count = sym (length-map c.tokens.items (λ list. list.items)) ∙ ap length are.tokens ∙ length-map-range_with_len (refers_at p) 0 (length p.names.items)

  pub circles_whole : AreKnown (all_uses p) → IsWhole c
  circles_whole known = record {
    labels = are.labels.sized ∙ uses_long ∙ sym uses_count;
    tokens = tokens_count ∙ sym uses_count;
    known = subst AreKnown (sym are.uses) known;
  }

  pub order_within : All (λ name. name < length p.names.items) c.order.items
  order_within = subst (λ n. All (λ name. name < n) c.order.items) uses_long are.order.known

-- ---- of one that is gathered

module _ (files : List FileTree) (p : Project) (g : IsGathered files p) (trees : AreTrees files) (numbered : AreNumbered files) (entities : AreEntities files) where
  refers_within : (d : Datum) → All (λ name. name < length (all_data files)) (name_refers files d)
  refers_within d = by (is_constant (kind_of files (own d.scope d.name))) where
    within : (token m : ℕ) → name_at files d.scope.file token ≡ Some m → m < length (all_data files)
    within token m is =
        let (y, a) = by_name files numbered d.scope.file token m is in
        slice_get_within (all_data files) m a.named.datum a.named.there

    by : (b : Bool) → All (λ name. name < length (all_data files)) (cond b (filter_map (name_at files d.scope.file) (tokens_for files d)) [])
    by true = All-filter_map (name_at files d.scope.file) (λ name. name < length (all_data files)) within (tokens_for files d)
    by false = All-nil (λ name. name < length (all_data files))

  pub names_known : AreKnown (all_uses p)
  names_known =
      subst AreKnown (sym (uses_are files p g trees numbered entities))
      (subst (λ n. All (All (λ used. used < n)) (name_uses files)) (sym (length-map (all_data files) (name_refers files)))
      (All-map (All (λ used. used < length (all_data files))) (name_refers files) (all_data files) (λ i d less. refers_within (get_or (all_data files) i d))))

  pub is_known : (c : Circles) → AreCircles p c → (all : Knowledge) → seen all ≡ measure_all p c → IsKnown files p all.known.items all.namings.items
  is_known c are all is =
      let tied = are_tied files p g trees numbered entities c are in record {
        names = ap (λ (k : Knowing). k.known) is ∙ known_names files p c tied numbered entities;
        tokens = λ file token. ap (λ (k : Knowing). naming_by (row_in p.rows.items file) k.namings token) is ∙ known_tokens files p c tied numbered entities file token;
      }
