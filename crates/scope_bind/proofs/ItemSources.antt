-- Items of USE by the tokens in them, and what they give.
use Rattle.std.proofs.Common.{◌≡◌, ℕ, zero, suc, ◌-◌, ◌<◌, ◌≤◌, drop, get_or, Bool, true, false, cond, List, [], ◌∷◌, ◌++◌, length, map, Option, Some, None, refl, sym, ap, ◌∙◌, subst, arith}
use Rattle.std.specs.Prelude.{◌==◌, nat_eq, slice_get, IsTrue}
use Rattle.std.specs.List.{find, flat_map}
use Rattle.std.specs.Option.{option_map, option_map_or, option_and_then, unwrap_or}
use Rattle.std.proofs.lemmas.Bool.Decides.{nat_tests}
use Rattle.std.proofs.lemmas.List.{get_or_default, length-map}
use Rattle.std.proofs.lemmas.Option.{slice_get-map, slice_get-get_or, get_or_from_slice_get}
use Rattle.ftn_base.specs.Accessible.{entities_of, exports_of}
use Rattle.ftn_base.specs.Exports.{PairOf, Pair}
use Rattle.ftn_tree.specs.declared.form.Form.{Form, out-Form}
use Rattle.ftn_tree.specs.declared.form.Form.TheOpen.{Form-F}
use Rattle.ftn_tree.specs.declared.mention.Mention.{Mention}
use Rattle.ftn_tree.specs.declared.mention.Role.TheVariants as role
use Rattle.ftn_tree.specs.declared.parts.OnlyItem.{OnlyItem}
use Rattle.ftn_tree.specs.declared.parts.Rename.{Rename}
use Rattle.ftn_tree.specs.declared.unit.FileTree.{FileTree}
use Rattle.ftn_tree.specs.Bindings.{module_token, item_tokens, rename_tokens, only_tokens, item_keys, keys_by_tokens, exported_keys}
use Rattle.ftn_tree.specs.Extents.{form_at, layer_at}
use Rattle.ftn_tree.specs.Layers.{FormLayer}
use Rattle.ftn_tree.specs.Meanings.{Key, module_number, module_numbered, all_exports, exports_after, exports_from}
use Rattle.ftn_tree.specs.Mentions as mentioned
use Rattle.ftn_tree.specs.PartMentions.{in_rename, in_only_item, maybe_named}
use Rattle.ftn_tree.specs.Roles.{mention}
use Rattle.ftn_tree.specs.Projects.{AreTrees}
use Rattle.ftn_tree.specs.Sayings.{mentions_at}
use Rattle.ftn_tree.specs.Scopes.{name_at}
use Rattle.decl_table.specs.steps.Occurrences.{IsNameAt}
use Rattle.decl_table.specs.steps.Spelled.{IsSpelled}
use Rattle.decl_table.proofs.HeardNames.{opened_before}
use Rattle.decl_table.proofs.MentionNames.{mentions_named}
use Rattle.decl_table.proofs.Order.{Each}
use Rattle.scope_bind.specs.steps.Exporting.{exported_everywhere}
use Rattle.scope_bind.specs.steps.Items.{source_of, items_at, entities_at}
use Rattle.scope_bind.specs.steps.Meaning.{all_numbered}
use Rattle.scope_bind.specs.steps.Numbering.{number}
use Rattle.scope_bind.specs.steps.Uses.{used_by_token, module_token_at}
use Rattle.scope_bind.proofs.Natural.{entities_told}
use Rattle.scope_bind.proofs.Units.{found}

-- ---- by tokens

same_test : (m n : ℕ) → nat_eq m n ≡ (m == n)
same_test m n = refl

pub source_next : (item : ℕ × ℕ) (rest : List (ℕ × ℕ)) (token : ℕ) (new old : Option ℕ) → new ≡ cond (nat_eq item.0 token) (Some item.1) old → old ≡ source_of token rest
    → new ≡ source_of token (item ∷ rest)
source_next item rest token new old put is =
    put ∙ ap (λ o. cond (nat_eq item.0 token) (Some item.1) o) is ∙ ap (λ b. cond b (Some item.1) (source_of token rest)) (same_test item.0 token) ∙ by (item.0 == token)
  where
    by : (b : Bool) → cond b (Some item.1) (source_of token rest) ≡ option_map (λ item. item.1) (cond b (Some item) (find (λ item. item.0 == token) rest))
    by true = refl
    by false = refl

pub opened_at : {X : Type 0} (all : List X) (at : ℕ) (d : X) → 0 < at → at ≤ length all → drop (at - 1) all ≡ get_or all (at - 1) d ∷ drop at all
opened_at all at d some lt = let less : at - 1 < length all = omega (arith, some, lt) in opened_before all at (get_or all (at - 1) d) some lt (get_or_default all (at - 1) d (get_or all (at - 1) d) less)

-- ---- what an item gives

module _ (files : List FileTree) where
  pub given : ℕ → Option ℕ → Option ℕ → List Key
  given file (Some used) (Some source) = entities_of (exports_of (all_exports files) used) (name_at files file source)
  given file _ _ = []

  no_source : (file : ℕ) (used : Option ℕ) → given file used None ≡ []
  unfolding given
  no_source file None = refl
  no_source file (Some used) = refl

  by_number : (file : ℕ) (item : ℕ × ℕ) (used : Option ℕ)
      → option_map_or (λ number. entities_of (exports_of (all_exports files) number) (name_at files file item.1)) used [] ≡ given file used (Some item.1)
  unfolding given
  by_number file item None = refl
  by_number file item (Some used) = refl

  by_tokens : (file : ℕ) (name : Option ℕ) (item : Option (ℕ × ℕ)) → keys_by_tokens files file name item ≡ given file (used_by_token files file name) (option_map (λ item. item.1) item)
  by_tokens file None None = sym (no_source file None)
  by_tokens file None (Some item) = by_number file item None
  by_tokens file (Some name) None = sym (no_source file (module_number files (name_at files file name)))
  by_tokens file (Some name) (Some item) = by_number file item (module_number files (name_at files file name))

  by_layer : (file token : ℕ) (layer : Option FormLayer)
      → item_keys files file layer token ≡ given file (used_by_token files file (option_and_then module_token layer)) (source_of token (items_at layer))
  by_layer file token None = sym (no_source file None)
  by_layer file token (Some form) = by_tokens file (module_token form) (find (λ item. item.0 == token) (item_tokens form))

  gives : (file statement token : ℕ) (used source : Option ℕ) → used ≡ used_by_token files file (module_token_at files file statement) → source ≡ source_of token (items_at (layer_at files file statement))
      → item_keys files file (layer_at files file statement) token ≡ given file used source
  gives file statement token used source one other =
      by_layer file token (layer_at files file statement) ∙ ap (λ u. given file u (source_of token (items_at (layer_at files file statement)))) (sym one) ∙ ap (given file used) (sym other)

  -- an item of a module
  pub some_used : (file statement token used source : ℕ) (exported : List (List Pair)) (pairs : List Pair) → Some used ≡ used_by_token files file (module_token_at files file statement)
      → Some source ≡ source_of token (items_at (layer_at files file statement)) → exported ≡ exported_everywhere files → pairs ≡ unwrap_or (slice_get exported used) []
      → entities_of pairs (name_at files file source) ≡ entities_at files file statement token
  unfolding given
  some_used file statement token used source exported pairs one other is here =
      ap (λ ps. entities_of ps (name_at files file source))
      (here ∙ ap (λ es. unwrap_or (slice_get es used) []) is ∙ ap (λ o. unwrap_or o []) (slice_get-map (all_numbered files) (all_exports files) used) ∙ or_none (slice_get (all_exports files) used))
      ∙ entities_told (number files) (exports_of (all_exports files) used) (name_at files file source)
      ∙ ap (map (number files)) (sym (gives file statement token (Some used) (Some source) one other))
    where
      or_none : (o : Option (List (PairOf Key))) → unwrap_or (option_map (all_numbered files) o) [] ≡ all_numbered files (unwrap_or o [])
      or_none None = refl
      or_none (Some pairs) = refl

  -- ---- the module's number

  rounds_long : (rounds : ℕ) → length (exports_after files rounds) ≡ length (module_numbered files)
  rounds_long zero = length-map (module_numbered files) _
  rounds_long (suc rounds) = length-map (module_numbered files) (exports_from files (exports_after files rounds))

  pub used_less : (file : ℕ) (token : Option ℕ) (used : ℕ) (exported : List (List Pair)) → Some used ≡ used_by_token files file token → exported ≡ exported_everywhere files → used < length exported
  used_less file None used exported is all = absurd (cc is)
  used_less file (Some token) used exported is all =
      let less : used < length (module_numbered files) = (found _ (module_numbered files) used (sym is)).0 in
      subst (λ n. used < n) (sym (ap length all ∙ length-map (all_exports files) (all_numbered files) ∙ rounds_long (length (module_numbered files)))) less

  -- ---- the names of items

  renames_named : (file : ℕ) (renames : List Rename) → Each (IsNameAt files file) (flat_map in_rename renames) → Each (λ (item : ℕ × ℕ). IsSpelled (name_at files file item.1)) (flat_map rename_tokens renames)
  renames_named file [] all = tt
  renames_named file (one ∷ renames) (local, (source, all)) = (source, (source, renames_named file renames all))

  only_named : (file : ℕ) (items : List OnlyItem) → Each (IsNameAt files file) (flat_map in_only_item items) → Each (λ (item : ℕ × ℕ). IsSpelled (name_at files file item.1)) (flat_map only_tokens items)
  only_named file [] all = tt
  only_named file (one ∷ items) all = by one.local all (only_named file items) where
    by : (local : Option ℕ) → Each (IsNameAt files file) ((maybe_named role.Local local ++ mention one.source role.Source ∷ []) ++ flat_map in_only_item items)
        → (Each (IsNameAt files file) (flat_map in_only_item items) → Each (λ (item : ℕ × ℕ). IsSpelled (name_at files file item.1)) (flat_map only_tokens items))
        → Each (λ (item : ℕ × ℕ). IsSpelled (name_at files file item.1)) ((unwrap_or local one.source, one.source) ∷ (one.source, one.source) ∷ flat_map only_tokens items)
    by None (source, all) rest = (source, (source, rest all))
    by (Some local) (first, (source, all)) rest = (source, (source, rest all))

  layer_named : (file : ℕ) (layer : Option FormLayer) → Each (IsNameAt files file) (option_map_or mentioned.mentions_at layer [])
      → Each (λ (item : ℕ × ℕ). IsSpelled (name_at files file item.1)) (items_at layer)
  layer_named file None all = tt
  layer_named file (Some (Form-F.UseAll name renames)) all = renames_named file renames all.1
  layer_named file (Some (Form-F.UseOnly name items)) all = only_named file items all.1
  layer_named file (Some other) all = tt

  items_named : AreTrees files → (file statement : ℕ) → Each (λ (item : ℕ × ℕ). IsSpelled (name_at files file item.1)) (items_at (layer_at files file statement))
  items_named are file statement = layer_named file (layer_at files file statement) (by (form_at files file statement) (mentions_named files are file statement)) where
    by : (form : Option Form) → Each (IsNameAt files file) (option_map_or mentioned.mentions_of form []) → Each (IsNameAt files file) (option_map_or mentioned.mentions_at (option_map out-Form form) [])
    by None all = all
    by (Some form) all = all

  found_named : (file token source : ℕ) (items : List (ℕ × ℕ)) → Each (λ (item : ℕ × ℕ). IsSpelled (name_at files file item.1)) items → Some source ≡ source_of token items
      → IsSpelled (name_at files file source)
  found_named file token source [] all is = absurd (cc is)
  found_named file token source (item ∷ items) all is = here (item.0 == token) is (found_named file token source items all.1) where
    here : (b : Bool) → Some source ≡ option_map (λ item. item.1) (cond b (Some item) (find (λ item. item.0 == token) items))
        → (Some source ≡ source_of token items → IsSpelled (name_at files file source)) → IsSpelled (name_at files file source)
    here true is rest = let same : item.1 ≡ source = cc is in subst (λ s. IsSpelled (name_at files file s)) same all.0
    here false is rest = rest is

  pub source_named : AreTrees files → (file statement token source : ℕ) → Some source ≡ source_of token (items_at (layer_at files file statement)) → IsSpelled (name_at files file source)
  source_named are file statement token source is = found_named file token source (items_at (layer_at files file statement)) (items_named are file statement) is
