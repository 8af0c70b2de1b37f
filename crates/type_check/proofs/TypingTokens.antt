-- Where the type of a name is written, and the name is no result, a mention of a type declaration in the scoping unit's own statements writes it.
use Rattle.std.proofs.Common.{◌≡◌, refl, sym, ◌∙◌, ap, subst, inl, inr, ◌⊎◌, ℕ, zero, suc, ◌+◌, ◌-◌, ◌<◌, ◌≤◌, Bool, true, false, List, [], ◌∷◌, ◌++◌, Option, Some, None, option_map, arith}
use Rattle.std.specs.Prelude.{◌&&◌, ◌||◌, ◌==◌, slice_get}
use Rattle.std.specs.List.{cons_option, filter_map, flat_map, list_any, range_with_len}
use Rattle.std.specs.Option.{option_map_or}
use Rattle.std.specs.Str.{bytes_eq}
use Rattle.std.proofs.lemmas.Bool.Decides.{nat_tests}
use Rattle.ftn_tree.specs.declared.form.Form.{Form, out-Form}
use Rattle.ftn_tree.specs.declared.form.Form.TheOpen.{Form-F}
use Rattle.ftn_tree.specs.declared.mention.Mention.{Mention}
use Rattle.ftn_tree.specs.declared.mention.Role.{Role}
use Rattle.ftn_tree.specs.declared.mention.Role.TheVariants as role
use Rattle.ftn_tree.specs.declared.parts.TypeSpec.{TypeSpec}
use Rattle.ftn_tree.specs.declared.table.Extent.{Extent}
use Rattle.ftn_tree.specs.declared.unit.FileTree.{FileTree}
use Rattle.ftn_tree.specs.Declarations.{Declared, declarations_of, declared_at, if_typed, of_array, of_constant, of_entity, of_group, of_member, shared_bounds, typing_of}
use Rattle.ftn_tree.specs.DeclaredEntities.{is_said}
use Rattle.ftn_tree.specs.Extents.{form_at, is_some_extent, layer_at, scope_of, scoping}
use Rattle.ftn_tree.specs.Layers.{FormLayer}
use Rattle.ftn_tree.specs.Mentions as mentioned
use Rattle.ftn_tree.specs.Mentions.{answer_mentions, function_mention, in_prefix, mentions_of}
use Rattle.ftn_tree.specs.NameFaults.{said_of}
use Rattle.ftn_tree.specs.PartMentions.{all_named, given_by, in_attributes, in_entities, in_entity, in_type, own_roles}
use Rattle.ftn_tree.specs.Projects.{AreTrees}
use Rattle.ftn_tree.specs.Roles.{mention_with, same_role, says}
use Rattle.ftn_tree.specs.Sayings.{Saying, answer, argument, bounded, declares, inside, intent, member, mentions_at, outside, parameter, same_name, saved, saying, tied, typed}
use Rattle.ftn_tree.specs.Scopes.{all_statements, name_at, own_statements}
use Rattle.decl_table.proofs.Arounds.{scope_there}
use Rattle.decl_table.proofs.OwnStatements.{told_apart, within_file}
use Rattle.const_value.proofs.FindingSets.{In, in_flat, in_right, out_of_flat}
use Rattle.const_value.proofs.InLists.{in_at, out_of_filter, out_of_map}
use Rattle.const_value.proofs.Members.{or_left, or_right}
use Rattle.const_value.proofs.NamedPlaces.{same_bytes}
use Rattle.const_value.proofs.OwnSayings.{own_said, said_any}

-- ---- lists

any_in : {A : Type 0} (p : A → Bool) (xs : List A) (x : A) → In x xs → p x ≡ true → list_any p xs ≡ true
any_in p [] x h is = absurd h
any_in p (y ∷ xs) x (inl same) is = or_left (p y) (list_any p xs) (ap p same ∙ is)
any_in p (y ∷ xs) x (inr h) is = or_right (p y) (list_any p xs) (any_in p xs x h is)

out_of_range : (a n k : ℕ) → In k (range_with_len a n) → (a ≤ k) × (k < a + n)
out_of_range a zero k h = absurd h
out_of_range a (suc n) k (inl same) = (omega (arith, same), omega (arith, same))
out_of_range a (suc n) k (inr h) = let (low, high) = out_of_range (a + 1) n k h in (omega (arith, low), omega (arith, high))

-- what declares a type, of some declarations
record Typing (all : List Declared) (ty : TypeSpec) (d : Declared) : Type 0 where
  among : In d all
  typed : d.ty ≡ Some ty

typing_in : (all : List Declared) (ty : TypeSpec) (d : Declared) → In (ty, d) (filter_map if_typed all) → Typing all ty d
typing_in [] ty d h = absurd h
typing_in (x ∷ all) ty d h = by x.ty refl h (typing_in all ty d) where
  later : Typing all ty d → Typing (x ∷ all) ty d
  later t = record { among = inr t.among; typed = t.typed }

  by : (o : Option TypeSpec) → x.ty ≡ o → In (ty, d) (cons_option (option_map_or (λ t. Some (t, x)) o None) (filter_map if_typed all)) → (In (ty, d) (filter_map if_typed all) → Typing all ty d)
      → Typing (x ∷ all) ty d
  by None at h rest = later (rest h)
  by (Some t) at (inl same) rest =
      let one : x ≡ d = ap (λ (pair : TypeSpec × Declared). pair.1) same in
      let of : t ≡ ty = ap (λ (pair : TypeSpec × Declared). pair.0) same in
      record { among = inl one; typed = sym (ap (λ (y : Declared). y.ty) one) ∙ at ∙ ap Some of }
  by (Some t) at (inr h) rest = later (rest h)

-- ---- what a statement says of a name to which it gives a type

itself_typed : (token : ℕ) (m : Mention) → m.role ≡ role.Typed → says role.Typed m ≡ true
unfolding same_role
itself_typed token m is = or_left (same_role m.role role.Typed) _ (ap (λ r. same_role r role.Typed) is)

function_answers : (ty : Option TypeSpec) (token : ℕ) → says role.Answer (function_mention ty token None) ≡ true
unfolding same_role
function_answers ty token = refl

result_answers : (token : ℕ) (also : List Role) → says role.Answer (mention_with token role.Answer also) ≡ true
unfolding same_role
result_answers token also = refl

record Said (layer : FormLayer) (token : ℕ) : Type 0 where
  m : Mention
  among : In m (mentioned.mentions_at layer)
  token_is : m.token ≡ token
  what : (m.role ≡ role.Typed) ⊎ (says role.Answer m ≡ true)

said_in : (layer : FormLayer) (d : Declared) (ty : TypeSpec) → In d (declared_at (Some layer)) → d.ty ≡ Some ty → Said layer d.name
said_in (Form-F.Declare t attributes colons entities) d ty h gives =
    let u = out_of_map (of_entity t (shared_bounds attributes)) entities d h in
    let m = mention_with u.of.name role.Typed (given_by attributes ++ own_roles u.of) in
    record {
      m = m;
      among =
          in_right m (in_type t) (in_attributes attributes ++ in_entities (given_by attributes) entities)
          (in_right m (in_attributes attributes) (in_entities (given_by attributes) entities) (in_flat (in_entity (given_by attributes)) entities u.of m u.among (inl refl)));
      token_is = ap (λ (x : Declared). x.name) u.is;
      what = inl refl;
    }
said_in (Form-F.Function (Some t) name dummies None) d ty (inl same) gives = record {
  m = function_mention (Some t) name None;
  among = in_right (function_mention (Some t) name None) (in_prefix (Some t)) _ (inl refl);
  token_is = ap (λ (x : Declared). x.name) same;
  what = inr (function_answers (Some t) name);
}
said_in (Form-F.Function (Some t) name dummies (Some result)) d ty (inl same) gives =
    let m = mention_with result role.Answer (role.Typed ∷ []) in
    record {
      m = m;
      among =
          in_right m (in_prefix (Some t)) (function_mention (Some t) name (Some result) ∷ (all_named role.Dummy dummies ++ answer_mentions (Some t) (Some result)))
          (inr (in_right m (all_named role.Dummy dummies) (answer_mentions (Some t) (Some result)) (inl refl)));
      token_is = ap (λ (x : Declared). x.name) same;
      what = inr (result_answers result (role.Typed ∷ []));
    }
said_in (Form-F.Function (Some t) name dummies None) d ty (inr h) gives = absurd h
said_in (Form-F.Function (Some t) name dummies (Some result)) d ty (inr h) gives = absurd h
said_in (Form-F.Dimension colons arrays) d ty h gives =
    let u = out_of_map of_array arrays d h in let none : d.ty ≡ None = sym (ap (λ (x : Declared). x.ty) u.is) in absurd (cc (none, gives))
said_in (Form-F.Parameter constants) d ty h gives =
    let u = out_of_map of_constant constants d h in let none : d.ty ≡ None = sym (ap (λ (x : Declared). x.ty) u.is) in absurd (cc (none, gives))
said_in (Form-F.Common groups) d ty h gives =
    let w = out_of_flat of_group groups d h in
    let u = out_of_map of_member w.of.members d w.here in
    let none : d.ty ≡ None = sym (ap (λ (x : Declared). x.ty) u.is) in
    absurd (cc (none, gives))
said_in _ d ty h gives = absurd h

record SaidAt (files : List FileTree) (file statement token : ℕ) : Type 0 where
  m : Mention
  among : In m (mentions_at files file statement)
  token_is : m.token ≡ token
  what : (m.role ≡ role.Typed) ⊎ (says role.Answer m ≡ true)

said_at : (files : List FileTree) (file statement : ℕ) (d : Declared) (ty : TypeSpec) → In d (declared_at (layer_at files file statement)) → d.ty ≡ Some ty → SaidAt files file statement d.name
said_at files file statement d ty h gives = by (form_at files file statement) refl h where
  by : (o : Option Form) → form_at files file statement ≡ o → In d (declared_at (option_map out-Form o)) → SaidAt files file statement d.name
  by None at h = absurd h
  by (Some form) at h =
      let s = said_in (out-Form form) d ty h gives in
      record { m = s.m; among = subst (λ o. In s.m (option_map_or mentions_of o [])) (sym at) s.among; token_is = s.token_is; what = s.what }

-- ---- of a scoping unit

fourth : (a b c d e f g h i j : Bool) → d ≡ true → (a || b || c || d || e || f || g || h || i || j) ≡ true
fourth a b c d e f g h i j is =
    or_left (a || b || c || d || e || f || g || h || i) j
    (or_left (a || b || c || d || e || f || g || h) i
    (or_left (a || b || c || d || e || f || g) h
    (or_left (a || b || c || d || e || f) g (or_left (a || b || c || d || e) f (or_left (a || b || c || d) e (or_right (a || b || c) d is))))))

declares_typed : (s : Saying) → typed s ≡ true → declares s ≡ true
declares_typed s is = fourth (argument s) (inside s) (outside s) (typed s) (bounded s) (parameter s) (saved s) (intent s) (member s) (tied s) is

both_true : (a b : Bool) → a ≡ true → b ≡ true → (a && b) ≡ true
both_true true b one other = other
both_true false b one other = absurd (cc one)

bytes_itself : (files : List FileTree) (file token other : ℕ) (name : List ℕ) → bytes_eq (name_at files file token) name ≡ true → other ≡ token → bytes_eq (name_at files file other) name ≡ true
bytes_itself files file token other name is same = ap (λ t. bytes_eq (name_at files file t) name) same ∙ is

-- the mention that writes the type
pub record TypingMention (files : List FileTree) (e : Extent) (name : List ℕ) (token : ℕ) : Type 0 where
  pub statement : ℕ
  pub m : Mention
  pub among : In m (mentions_at files e.file statement)
  pub scope_is : scope_of files e.file statement ≡ Some e
  pub role_is : m.role ≡ role.Typed
  pub token_is : m.token ≡ token
  pub name_is : name_at files e.file m.token ≡ name
  pub declared : is_said declares (said_of files e name) ≡ true

module _ (files : List FileTree) (are : AreTrees files) (n : ℕ) (e : Extent) (there : slice_get (scoping files) n ≡ Some e) where
  same_number : (j : ℕ) → (j == n) ≡ true → j ≡ n
  same_number j is = grind (arith, nat_tests)

  -- an own statement's scoping unit
  own_scope : (statement : ℕ) → In statement (own_statements files e) → scope_of files e.file statement ≡ Some e
  own_scope statement h =
      let r = out_of_filter (λ statement. is_some_extent e (scope_of files e.file statement)) (all_statements e) statement h in
      let (order, end) = within_file files are n e there in
      let (low, high) = out_of_range e.opening (e.ending + 1 - e.opening) statement r.among in
      by (scope_there files are e.file statement (omega (arith, order, end, low, high))) (scope_of files e.file statement) refl r.passes
    where
      by : ((x : Extent) → scope_of files e.file statement ≡ Some x → (j : ℕ) × (slice_get (scoping files) j ≡ Some x)) → (o : Option Extent) → scope_of files e.file statement ≡ o → is_some_extent e o ≡ true
          → scope_of files e.file statement ≡ Some e
      by found None at passes = absurd (cc passes)
      by found (Some x) at passes =
          let (j, here) = found x at in
          let number : j ≡ n = same_number j (told_apart files are n j e x there here ∙ passes) in
          at ∙ sym here ∙ ap (slice_get (scoping files)) number ∙ there

  -- what an own mention says of its name
  said_here : (what : Saying → Bool) (name : List ℕ) (statement : ℕ) (m : Mention) → In statement (own_statements files e) → In m (mentions_at files e.file statement)
      → bytes_eq (name_at files e.file m.token) name ≡ true → what (saying files e.file m) ≡ true → is_said what (said_of files e name) ≡ true
  said_here what name statement m own h named is =
      said_any files e what name
      (own_said files e (λ s. same_name name s && what s)
      (any_in (λ statement. list_any (λ m. same_name name (saying files e.file m) && what (saying files e.file m)) (mentions_at files e.file statement)) (own_statements files e) statement own
      (any_in (λ m. same_name name (saying files e.file m) && what (saying files e.file m)) (mentions_at files e.file statement) m h
      (both_true (bytes_eq (name_at files e.file m.token) name) (what (saying files e.file m)) named is))))

  pub typing_mention : (name : List ℕ) (ty : TypeSpec) (d : Declared) → typing_of files e name ≡ Some (ty, d) → is_said answer (said_of files e name) ≡ false → TypingMention files e name d.name
  typing_mention name ty d is no_answer =
      let t = typing_in (declarations_of files e name) ty d (in_at (filter_map if_typed (declarations_of files e name)) 0 (ty, d) is) in
      let all = flat_map (λ statement. declared_at (layer_at files e.file statement)) (own_statements files e) in
      let r = out_of_filter (λ (d : Declared). bytes_eq (name_at files e.file d.name) name) all d t.among in
      let w = out_of_flat (λ statement. declared_at (layer_at files e.file statement)) (own_statements files e) d r.among in
      let s = said_at files e.file w.of d ty w.here t.typed in
      of w.of s.m w.among s.among s.token_is (bytes_itself files e.file d.name s.m.token name r.passes s.token_is) s.what
    where
      of : (statement : ℕ) (m : Mention) → In statement (own_statements files e) → In m (mentions_at files e.file statement) → m.token ≡ d.name → bytes_eq (name_at files e.file m.token) name ≡ true
          → (m.role ≡ role.Typed) ⊎ (says role.Answer m ≡ true) → TypingMention files e name d.name
      of statement m own h token named (inl typing) = record {
        statement = statement;
        m = m;
        among = h;
        scope_is = own_scope statement own;
        role_is = typing;
        token_is = token;
        name_is = same_bytes (name_at files e.file m.token) name named;
        declared = said_here declares name statement m own h named (declares_typed (saying files e.file m) (itself_typed m.token m typing));
      }
      of statement m own h token named (inr answers) =
          let said : is_said answer (said_of files e name) ≡ true = said_here answer name statement m own h named answers in absurd (cc (said, no_answer))
