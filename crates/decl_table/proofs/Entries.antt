-- The entries of scoping units, one after the other.
use Rattle.std.proofs.Common.{◌≡◌, ℕ, suc, ◌+◌, ◌<◌, List, [], ◌∷◌, ◌++◌, length, get_or, take, drop, Option, Some, map, fold, refl, sym, ap, ◌∙◌, arith, append_assoc, append-nil, drop-cons}
use Rattle.std.specs.Prelude.{slice_get}
use Rattle.std.specs.List.{flat_map}
use Rattle.ftn_base.specs.ImplicitLetters.{Entry}
use Rattle.ftn_tree.specs.declared.table.Extent.{Extent}
use Rattle.ftn_tree.specs.declared.unit.FileTree.{FileTree}
use Rattle.ftn_tree.specs.Extents.{scoping}
use Rattle.ftn_tree.specs.Scopes.{host_number, own_statements, path_of}
use Rattle.ftn_tree.specs.ScopeLetters.{entries_of}
use Rattle.ftn_tree.specs.Projects.{AreTrees}
use Rattle.decl_table.specs.steps.Rows.{Row, rows_of}
use Rattle.decl_table.specs.steps.Following.{own_by, path_by, entries_by}
use Rattle.decl_table.proofs.Arounds.{split_at}
use Rattle.decl_table.proofs.OwnStatements.{own_are}
use Rattle.decl_table.proofs.Paths.{path_is, entries_are}

next : (i : ℕ) → suc i ≡ i + 1
next i = omega arith

-- one more range
pub fold_next : {A B C : Type 0} (put : B → C → B) (give : A → C) (xs : List A) (i : ℕ) (d : A) (whole map' new : B) → i < length xs
    → whole ≡ fold put map' (map give (drop i xs)) → new ≡ put map' (give (get_or xs i d)) → whole ≡ fold put new (map give (drop (i + 1) xs))
fold_next put give xs i d whole map' new less is made =
    is ∙ ap (λ rest. fold put map' (map give rest)) (parted xs i d less) ∙ ap (λ start. fold put start (map give (drop (i + 1) xs))) (sym made)
  where
    parted : {A : Type 0} (xs : List A) (i : ℕ) (d : A) → i < length xs → drop i xs ≡ get_or xs i d ∷ drop (i + 1) xs
    parted xs i d less = drop-cons xs i d less ∙ ap (λ k. get_or xs i d ∷ drop k xs) (next i)

front : (pre post : List Extent) (e : Extent) → take (length pre) (pre ++ e ∷ post) ≡ pre
front [] post e = refl
front (x ∷ pre) post e = ap (λ (xs : List Extent). x ∷ xs) (front pre post e)

front_more : (pre post : List Extent) (e : Extent) → take (suc (length pre)) (pre ++ e ∷ post) ≡ pre ++ e ∷ []
front_more [] post e = refl
front_more (x ∷ pre) post e = ap (λ (xs : List Extent). x ∷ xs) (front_more pre post e)

map_push : {A : Type 0} (f : Extent → A) (pre : List Extent) (e : Extent) → map f (pre ++ e ∷ []) ≡ map f pre ++ f e ∷ []
map_push f [] e = refl
map_push f (x ∷ pre) e = ap (λ ys. f x ∷ ys) (map_push f pre e)

pub one_more : {A : Type 0} (f : Extent → A) (all : List Extent) (n : ℕ) (e : Extent) → slice_get all n ≡ Some e → map f (take (n + 1) all) ≡ map f (take n all) ++ f e ∷ []
one_more f all n e there =
    let (pre, post, split, long) = split_at all n e there in
    ap (λ es. map f (take (n + 1) es)) split
    ∙ ap (λ k. map f (take k (pre ++ e ∷ post))) (after n (length pre) long)
    ∙ ap (map f) (front_more pre post e)
    ∙ map_push f pre e
    ∙ ap (λ es. map f es ++ f e ∷ []) (sym (front pre post e) ∙ ap (λ k. take k (pre ++ e ∷ post)) long ∙ ap (take n) (sym split))
  where
    after : (n k : ℕ) → k ≡ n → n + 1 ≡ suc k
    after n k long = omega arith

flat_push : {A : Type 0} (f : Extent → List A) (pre : List Extent) (e : Extent) → flat_map f (pre ++ e ∷ []) ≡ flat_map f pre ++ f e
flat_push f [] e = append-nil (f e)
flat_push f (x ∷ pre) e = ap (λ ys. f x ++ ys) (flat_push f pre e) ∙ sym (append_assoc (f x) (flat_map f pre) (f e))

pub flat_more : {A : Type 0} (f : Extent → List A) (all : List Extent) (n : ℕ) (e : Extent) → slice_get all n ≡ Some e → flat_map f (take (n + 1) all) ≡ flat_map f (take n all) ++ f e
flat_more f all n e there =
    let (pre, post, split, long) = split_at all n e there in
    ap (λ es. flat_map f (take (n + 1) es)) split
    ∙ ap (λ k. flat_map f (take k (pre ++ e ∷ post))) (after n (length pre) long)
    ∙ ap (flat_map f) (front_more pre post e)
    ∙ flat_push f pre e
    ∙ ap (λ es. flat_map f es ++ f e) (sym (front pre post e) ∙ ap (λ k. take k (pre ++ e ∷ post)) long ∙ ap (take n) (sym split))
  where
    after : (n k : ℕ) → k ≡ n → n + 1 ≡ suc k
    after n k long = omega arith

taken : (all pre post : List Extent) (e : Extent) (n : ℕ) → all ≡ pre ++ e ∷ post → length pre ≡ n → take n all ≡ pre
taken all pre post e n split long = ap (take n) split ∙ ap (λ k. take k (pre ++ e ∷ post)) (sym long) ∙ front pre post e

pub own_said : (files : List FileTree) → AreTrees files → (n : ℕ) (e : Extent) (rows known : List Row) (own : List ℕ) → slice_get (scoping files) n ≡ Some e
    → rows ≡ known → known ≡ rows_of files (scoping files) → own ≡ own_by n e rows → own ≡ own_statements files e
own_said files are n e rows known own there is one told = told ∙ ap (own_by n e) (is ∙ one) ∙ own_are files are n e there

pub path_said : (files : List FileTree) → AreTrees files → (n : ℕ) (e : Extent) (host : Option ℕ) (paths known : List (List ℕ)) (path : List ℕ) → slice_get (scoping files) n ≡ Some e
    → host ≡ host_number files e → paths ≡ known → known ≡ map (path_of files) (take n (scoping files)) → path ≡ path_by files e host paths → path ≡ path_of files e
path_said files are n e host paths known path there is one all told =
    let (pre, post, split, long) = split_at (scoping files) n e there in
    told ∙ ap (λ host. path_by files e host paths) is
    ∙ ap (path_by files e (host_number files e)) (one ∙ all ∙ ap (map (path_of files)) (taken (scoping files) pre post e n split long))
    ∙ path_is files are pre e post split

pub entries_said : (files : List FileTree) → AreTrees files → (n : ℕ) (e : Extent) (host : Option ℕ) (maps known : List (List Entry)) (entries : List Entry) → slice_get (scoping files) n ≡ Some e
    → host ≡ host_number files e → maps ≡ known → known ≡ map (entries_of files) (take n (scoping files)) → entries ≡ entries_by files e host maps → entries ≡ entries_of files e
entries_said files are n e host maps known entries there is one all told =
    let (pre, post, split, long) = split_at (scoping files) n e there in
    told ∙ ap (λ host. entries_by files e host maps) is
    ∙ ap (entries_by files e (host_number files e)) (one ∙ all ∙ ap (map (entries_of files)) (taken (scoping files) pre post e n split long))
    ∙ entries_are files are pre e post split
