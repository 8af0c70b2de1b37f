-- What the code keeps of names in expressions is what is defined.
use Rattle.std.proofs.Common.{◌≡◌, refl, sym, ◌∙◌, ap, ap₂, ℕ, Bool, true, false, List, [], ◌∷◌, map, Option, Some, None}
use Rattle.std.specs.Prelude.{◌&&◌, ◌==◌, not, if◌then◌else◌, slice_get}
use Rattle.std.specs.List.{cons_option, filter_map, flat_map}
use Rattle.std.specs.Option.{option_map, option_map_or, option_and_then}
use Rattle.std.proofs.lemmas.Option.{slice_get-map}
use Rattle.ftn_tree.specs.declared.intrinsic.Intrinsic.{Intrinsic as IntrinsicFunction}
use Rattle.ftn_tree.specs.declared.table.EntityKind.{EntityKind}
use Rattle.ftn_tree.specs.declared.table.EntityKind.TheVariants as kinds
use Rattle.ftn_tree.specs.declared.table.Extent.{Extent}
use Rattle.ftn_tree.specs.declared.unit.FileTree.{FileTree}
use Rattle.ftn_tree.specs.DeclaredEntities.{has_result_at, unit_kind_at}
use Rattle.ftn_tree.specs.Extents.{layer_at, scoping}
use Rattle.ftn_tree.specs.Intrinsics.{function_named}
use Rattle.ftn_tree.specs.KeyKinds.{Kind, kind, datum, datum_of, is_function, is_result_in, key_at, kind_of, kind_of_datum, may_be_defined, rank_of, sort_of}
use Rattle.ftn_tree.specs.Meanings.{Key, unit, own, block, intrinsic_function}
use Rattle.ftn_tree.specs.Procedures as spec
use Rattle.ftn_tree.specs.Procedures.{called_sense, data_sense, function_sense, generic_sense, intrinsic_sense, is_call, own_sense, procedure_sense, sense_at, signature_if, signature_of, specific_keys}
use Rattle.ftn_tree.specs.Projects.{AreTrees}
use Rattle.ftn_tree.specs.Scopes.{scope_name}
use Rattle.ftn_tree.specs.Sorts.{Sort}
use Rattle.ftn_tree.specs.TypeFaults.{rank_of_own}
use Rattle.const_value.specs.steps.Gathered.{IsGathered, entity_index}
use Rattle.const_value.specs.steps.Projects.{sort_seen}
use Rattle.name_types.specs.declared.names.Setting.{Setting}
use Rattle.name_types.specs.declared.names.What.{What}
use Rattle.name_types.specs.declared.names.What.TheVariants as what
use Rattle.name_types.specs.steps.Gathered as kept
use Rattle.name_types.specs.steps.Gathered.{AreNames, Due, HasNaming, due, extent_numbered, own_due, unit_due, unit_in, what_seen}
use Rattle.name_types.specs.steps.Kinds.{signature_seen}
use Rattle.name_types.specs.steps.Senses as senses
use Rattle.name_types.specs.steps.Senses.{IsRight, called_by, called_in, data_by, is_inside, naming_at, rank_by, rank_in, sense_by, sense_in, signature_at, sort_by, specifics_by}
use Rattle.name_types.proofs.HostChains.{inside_is}

-- what has a value where it is named, its result's own name and that of a unit aside
abbrev is_datum : EntityKind → Bool
is_datum kinds.Generic = false
is_datum kinds.Construct = false
is_datum _ = true

-- a function is a scoping unit that there is
abbrev is_whole : Due → Bool
is_whole (kept.Function None answer) = false
is_whole _ = true

abbrev rank_due : ℕ → Due → Option ℕ
rank_due rank (kept.Data definable) = Some rank
rank_due rank _ = None

module _ (files : List FileTree) (are : AreTrees files) (e : Extent) (s : Setting) (file_is : s.file ≡ e.file) (unit_there : slice_get (scoping files) s.scope ≡ Some e)
    (names : AreNames files s.names.now) where
  abbrev g : IsGathered files s.names.now.project.now
  g = names.gathered

  -- ---- signatures

  signature_is : (scope : ℕ) → signature_at s.names.now.signatures.items scope ≡ option_map (signature_of files) (extent_numbered files scope)
  signature_is scope =
      sym (slice_get-map signature_seen s.names.now.signatures.items scope)
      ∙ ap (λ (all : List spec.Signature). slice_get all scope) names.signatures
      ∙ slice_get-map (signature_of files) (scoping files) scope

  specifics_are : (numbers : List ℕ) → specifics_by s.names.now.signatures.items numbers ≡ map (signature_of files) (filter_map (extent_numbered files) numbers)
  specifics_are [] = refl
  specifics_are (n ∷ ns) = ap₂ cons_option (signature_is n) (specifics_are ns) ∙ mapped (extent_numbered files n) where
    mapped : (o : Option Extent) → cons_option (option_map (signature_of files) o) (map (signature_of files) (filter_map (extent_numbered files) ns))
        ≡ map (signature_of files) (cons_option o (filter_map (extent_numbered files) ns))
    mapped None = refl
    mapped (Some x) = refl

  specific_signatures : (keys : List Key) → map (signature_of files) (filter_map unit_in keys) ≡ flat_map (signature_if files) keys
  specific_signatures [] = refl
  specific_signatures (unit x ∷ keys) = ap (λ rest. signature_of files x ∷ rest) (specific_signatures keys)
  specific_signatures (own x name ∷ keys) = specific_signatures keys
  specific_signatures (block name ∷ keys) = specific_signatures keys
  specific_signatures (intrinsic_function name ∷ keys) = specific_signatures keys

  -- ---- what is called

  abbrev called_due : Due → spec.Sense
  called_due (kept.Function scope answer) = option_map_or (λ x. spec.Procedure (signature_of files x)) scope spec.Other
  called_due (kept.Subroutine scope) = option_map_or (λ x. spec.Procedure (signature_of files x)) scope spec.Other
  called_due (kept.Generic units) = spec.Generic (map (signature_of files) units)
  called_due (kept.Intrinsic function) = intrinsic_sense function
  called_due _ = spec.Other

  called_unit : (scope : ℕ) → senses.procedure_by s.names.now.signatures.items scope ≡ option_map_or (λ x. spec.Procedure (signature_of files x)) (extent_numbered files scope) spec.Other
  called_unit scope = ap (λ o. option_map_or spec.Procedure o spec.Other) (signature_is scope) ∙ mapped (extent_numbered files scope) where
    mapped : (o : Option Extent) → option_map_or spec.Procedure (option_map (signature_of files) o) spec.Other ≡ option_map_or (λ x. spec.Procedure (signature_of files x)) o spec.Other
    mapped None = refl
    mapped (Some x) = refl

  called_what : (w : What) → called_in s.names.now.signatures.items w ≡ called_due (what_seen files w)
  called_what (what.Data definable) = refl
  called_what (what.Function scope answer) = called_unit scope
  called_what (what.Subroutine scope) = called_unit scope
  called_what (what.Generic specifics) = ap spec.Generic (specifics_are specifics.items)
  called_what (what.Intrinsic function) = refl
  called_what what.Other = refl

  called_own : (x : Extent) (name : List ℕ) (k : EntityKind) → called_due (own_due files k x name) ≡ generic_sense files k x name
  called_own x name kinds.Generic = ap spec.Generic (specific_signatures (specific_keys files x name))
  called_own x name kinds.Construct = refl
  called_own x name _ = refl

  called_of_unit : (x : Extent) (k : EntityKind) → called_due (unit_due files k x) ≡ procedure_sense files k x
  called_of_unit x kinds.Function = refl
  called_of_unit x kinds.Subroutine = refl
  called_of_unit x _ = refl

  called_key : (key : Key) → called_due (due files key) ≡ called_sense files (Some key)
  called_key (unit x) = called_of_unit x (kind_of files (unit x))
  called_key (own x name) = called_own x name (kind_of files (own x name))
  called_key (block name) = refl
  called_key (intrinsic_function name) = refl

  -- ---- ranks by own names

  rank_what : (rank : ℕ) (w : What) → rank_in rank w ≡ rank_due rank (what_seen files w)
  rank_what rank (what.Data definable) = refl
  rank_what rank (what.Function scope answer) = refl
  rank_what rank (what.Subroutine scope) = refl
  rank_what rank (what.Generic specifics) = refl
  rank_what rank (what.Intrinsic function) = refl
  rank_what rank what.Other = refl

  no_rank : (rank : ℕ) (x : Extent) (k : EntityKind) → rank_due rank (unit_due files k x) ≡ None
  no_rank rank x kinds.Function = refl
  no_rank rank x kinds.Subroutine = refl
  no_rank rank x _ = refl

  own_rank : (rank : ℕ) (x : Extent) (name : List ℕ) (k : EntityKind) → rank_due rank (own_due files k x name) ≡ (if is_datum k then Some rank else None)
  own_rank rank x name kinds.Generic = refl
  own_rank rank x name kinds.Construct = refl
  own_rank rank x name _ = refl

  rank_key : (key : Key) → rank_due (option_map_or (rank_of files) (datum_of files key) 0) (due files key) ≡ rank_of_own files e key
  rank_key (unit x) = no_rank (rank_of files (datum x (scope_name files x))) x (kind_of files (unit x))
  rank_key (own x name) = own_rank (rank_of files (datum x name)) x name (kind_of files (own x name))
  rank_key (block name) = refl
  rank_key (intrinsic_function name) = refl

  -- ---- what stands in an expression

  abbrev result_due : Extent → Option Sort → ℕ → Bool → spec.Sense
  result_due x sort rank has_args = if has_args && option_map_or (λ t. rank == 0) sort true then spec.Itself (signature_of files x) else data_by sort rank true

  abbrev sense_due : Option Sort → ℕ → Due → Bool → spec.Sense
  sense_due sort rank (kept.Data definable) has_args = data_by sort rank definable
  sense_due sort rank (kept.Function (Some x) answer) has_args =
      if not answer && is_result_in files e x then result_due x sort rank has_args else if has_args then spec.Procedure (signature_of files x) else spec.Other
  sense_due sort rank (kept.Function None answer) has_args = spec.Other
  sense_due sort rank (kept.Subroutine scope) has_args = spec.Other
  sense_due sort rank thing has_args = if has_args then called_due thing else spec.Other

  sense_what : (sort : Option Sort) (rank : ℕ) (w : What) (has_args : Bool) → is_whole (what_seen files w) ≡ true
      → sense_in s.names.now s.scope sort rank w has_args ≡ sense_due sort rank (what_seen files w) has_args
  sense_what sort rank (what.Data definable) has_args whole = refl
  sense_what sort rank (what.Function scope answer) has_args whole = by (extent_numbered files scope) refl where
    by : (o : Option Extent) → extent_numbered files scope ≡ o
        → sense_in s.names.now s.scope sort rank (what.Function scope answer) has_args ≡ sense_due sort rank (kept.Function (extent_numbered files scope) answer) has_args
    by None is = let broken : false ≡ true = sym (ap (λ o. is_whole (kept.Function o answer)) is) ∙ whole in absurd (cc broken)
    by (Some x) is =
        let inside : is_inside s.names.now.hosts.items scope s.scope ≡ is_result_in files e x = inside_is files are s.names.now.hosts.items names.hosts scope x is s.scope e unit_there in
        let signature : signature_at s.names.now.signatures.items scope ≡ Some (signature_of files x) = signature_is scope ∙ ap (option_map (signature_of files)) is in
        ap (λ o.
        if not answer && is_inside s.names.now.hosts.items scope s.scope
        then (if has_args && option_map_or (λ t. rank == 0) sort true then option_map_or spec.Itself o spec.Other else data_by sort rank true)
        else if has_args then option_map_or spec.Procedure o spec.Other else spec.Other)
        signature
        ∙ ap (λ b. if not answer && b then result_due x sort rank has_args else if has_args then spec.Procedure (signature_of files x) else spec.Other) inside
        ∙ sym (ap (λ o. sense_due sort rank (kept.Function o answer) has_args) is)
  sense_what sort rank (what.Subroutine scope) has_args whole = refl
  sense_what sort rank (what.Generic specifics) has_args whole = ap (λ x. if has_args then x else spec.Other) (called_what (what.Generic specifics))
  sense_what sort rank (what.Intrinsic function) has_args whole = refl
  sense_what sort rank what.Other has_args whole = refl

  whole_unit : (x : Extent) (k : EntityKind) → is_whole (unit_due files k x) ≡ true
  whole_unit x kinds.Function = refl
  whole_unit x kinds.Subroutine = refl
  whole_unit x _ = refl

  whole_own : (x : Extent) (name : List ℕ) (k : EntityKind) → is_whole (own_due files k x name) ≡ true
  whole_own x name kinds.Generic = refl
  whole_own x name kinds.Construct = refl
  whole_own x name _ = refl

  whole_key : (key : Key) → is_whole (due files key) ≡ true
  whole_key (unit x) = whole_unit x (kind_of files (unit x))
  whole_key (own x name) = whole_own x name (kind_of files (own x name))
  whole_key (block name) = refl
  whole_key (intrinsic_function name) = refl

  -- a function's own name
  itself : (x : Extent) (sort : Option Sort) (rank : ℕ) (has_args : Bool)
      → result_due x sort rank has_args
      ≡ (if has_args && option_map_or (λ (k : Kind). k.rank == 0) (option_map (λ t. kind t rank) sort) true then spec.Itself (signature_of files x)
      else data_sense files (unit x) (option_map (λ t. kind t rank) sort))
  itself x None rank has_args = refl
  itself x (Some t) rank has_args = refl

  own_unit : (x : Extent) (b : Bool)
      → (if b then spec.Itself (signature_of files x) else data_sense files (unit x) (kind_of_datum files (datum x (scope_name files x)))) ≡ own_sense files (unit x) b
  own_unit x true = refl
  own_unit x false = refl

  unit_sense : (x : Extent) (has_args : Bool) (k : EntityKind) → unit_kind_at (layer_at files x.file x.opening) ≡ k
      → sense_due (sort_of files (datum x (scope_name files x))) (rank_of files (datum x (scope_name files x))) (unit_due files k x) has_args
      ≡ (if is_function k && not (has_result_at (layer_at files x.file x.opening)) && is_result_in files e x then own_sense files (unit x) (is_call files (unit x) has_args)
      else if has_args then function_sense (procedure_sense files k x) else spec.Other)
  unit_sense x has_args kinds.Function is =
      ap₂ (λ a b. if not (has_result_at (layer_at files x.file x.opening)) && is_result_in files e x then a else if has_args then b else spec.Other)
      (itself x (sort_of files (datum x (scope_name files x))) (rank_of files (datum x (scope_name files x))) has_args ∙ own_unit x (is_call files (unit x) has_args))
      (sym (ap (λ b. if b then spec.Procedure (signature_of files x) else spec.Other) (ap is_function is)))
  unit_sense x true kinds.Subroutine is = sym (ap (λ b. if b then spec.Procedure (signature_of files x) else spec.Other) (ap is_function is))
  unit_sense x false kinds.Subroutine is = refl
  unit_sense x has_args _ is = refl

  data_is : (x : Extent) (name : List ℕ) (sort : Option Sort) (rank : ℕ)
      → data_by sort rank (may_be_defined files (own x name)) ≡ data_sense files (own x name) (option_map (λ t. kind t rank) sort)
  data_is x name None rank = refl
  data_is x name (Some t) rank = refl

  name_sense : (x : Extent) (name : List ℕ) (has_args : Bool) (k : EntityKind)
      → sense_due (sort_of files (datum x name)) (rank_of files (datum x name)) (own_due files k x name) has_args
      ≡ (if is_datum k then own_sense files (own x name) false else if has_args then function_sense (generic_sense files k x name) else spec.Other)
  name_sense x name has_args kinds.Generic = ap (λ all. if has_args then spec.Generic all else spec.Other) (specific_signatures (specific_keys files x name))
  name_sense x name has_args kinds.Construct = refl
  name_sense x name has_args _ = data_is x name (sort_of files (datum x name)) (rank_of files (datum x name))

  function_alone : (o : Option IntrinsicFunction) → intrinsic_sense o ≡ function_sense (intrinsic_sense o)
  function_alone None = refl
  function_alone (Some function) = refl

  sense_key : (key : Key) (has_args : Bool)
      → sense_due (option_and_then (sort_of files) (datum_of files key)) (option_map_or (rank_of files) (datum_of files key) 0) (due files key) has_args ≡ spec.sense_of files e (Some key) has_args
  sense_key (unit x) has_args = unit_sense x has_args (kind_of files (unit x)) refl
  sense_key (own x name) has_args = name_sense x name has_args (kind_of files (own x name))
  sense_key (block name) has_args = refl
  sense_key (intrinsic_function name) has_args = ap (λ x. if has_args then x else spec.Other) (function_alone (function_named name))

  -- ---- what stands at tokens

  naming_here : (token : ℕ) (key : Key) → key_at files s.file token ≡ Some key → (h : HasNaming files s.names.now key) → naming_at s.names.now s.file token ≡ Some h.naming
  naming_here token key at h = ap (option_and_then (slice_get s.names.now.namings.items)) (g.tokens s.file token ∙ ap (option_map (entity_index files)) at) ∙ h.at

  no_naming : (token : ℕ) → key_at files s.file token ≡ None → naming_at s.names.now s.file token ≡ None
  no_naming token none = ap (option_and_then (slice_get s.names.now.namings.items)) (g.tokens s.file token ∙ ap (option_map (entity_index files)) none)

  called_here : (token : ℕ) (o : Option Key) → key_at files s.file token ≡ o → called_by s token ≡ called_sense files o
  called_here token None none = ap (senses.called_of s.names.now.signatures.items) (no_naming token none)
  called_here token (Some key) at =
      let h = names.namings s.file token key at in
      ap (senses.called_of s.names.now.signatures.items) (naming_here token key at h) ∙ called_what h.naming.what ∙ ap called_due h.right.what ∙ called_key key

  sort_here : (token : ℕ) (o : Option Key) → key_at files s.file token ≡ o → sort_by s token ≡ option_and_then (sort_of files) (option_and_then (datum_of files) o)
  sort_here token None none = ap (option_and_then senses.sort_of) (no_naming token none)
  sort_here token (Some key) at = let h = names.namings s.file token key at in ap (option_and_then senses.sort_of) (naming_here token key at h) ∙ h.right.sort

  rank_here : (token : ℕ) (o : Option Key) → key_at files s.file token ≡ o → rank_by s token ≡ option_and_then (rank_of_own files e) o
  rank_here token None none = ap (option_and_then senses.rank_of) (no_naming token none)
  rank_here token (Some key) at =
      let h = names.namings s.file token key at in
      ap (option_and_then senses.rank_of) (naming_here token key at h)
      ∙ rank_what h.naming.rank h.naming.what
      ∙ ap₂ rank_due h.right.rank h.right.what
      ∙ rank_key key

  sense_here : (token : ℕ) (has_args : Bool) (o : Option Key) → key_at files s.file token ≡ o → sense_by s token has_args ≡ spec.sense_of files e o has_args
  sense_here token has_args None none = ap (λ n. senses.sense_of s.names.now s.scope n has_args) (no_naming token none)
  sense_here token has_args (Some key) at =
      let h = names.namings s.file token key at in
      ap (λ n. senses.sense_of s.names.now s.scope n has_args) (naming_here token key at h)
      ∙ sense_what (option_map sort_seen h.naming.sort) h.naming.rank h.naming.what has_args (ap is_whole h.right.what ∙ whole_key key)
      ∙ ap₂ (λ t r. sense_due t r (what_seen files h.naming.what) has_args) h.right.sort h.right.rank
      ∙ ap (λ w. sense_due (option_and_then (sort_of files) (datum_of files key)) (option_map_or (rank_of files) (datum_of files key) 0) w has_args) h.right.what
      ∙ sense_key key has_args

  pub senses_right : IsRight files e s
  senses_right = record {
    file = file_is;
    sense = λ token has_args. sense_here token has_args (key_at files s.file token) refl ∙ ap (λ f. spec.sense_of files e (key_at files f token) has_args) file_is;
    called = λ token. called_here token (key_at files s.file token) refl ∙ ap (λ f. called_sense files (key_at files f token)) file_is;
    sort = λ token. sort_here token (key_at files s.file token) refl ∙ ap (λ f. option_and_then (sort_of files) (option_and_then (datum_of files) (key_at files f token))) file_is;
    rank = λ token. rank_here token (key_at files s.file token) refl ∙ ap (λ f. option_and_then (rank_of_own files e) (key_at files f token)) file_is;
  }
