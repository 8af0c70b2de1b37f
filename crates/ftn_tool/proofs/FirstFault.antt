-- The first file that isn't read has the first fault, and where all are read, it is that of the stages after reading.
use Rattle.std.proofs.Common.{◌≡◌, ℕ, ◌+◌, ◌<◌, ◌≤◌, List, [], ◌∷◌, ◌++◌, length, take, drop, get_or, Some, inl, inr, refl, sym, ap, ◌∙◌, subst, arith}
use Rattle.std.specs.Prelude.{Result, Ok, Err, IfErr, IfOk, min}
use Rattle.std.proofs.lemmas.List.{drop_more, length-take, take_all, take_more, take-append-drop}
use Rattle.std.proofs.lemmas.Option.{none-some}
use Rattle.std.specs.List.{All}
use Rattle.std.proofs.lemmas.List.Elements.{All-head, All-tail}
use Rattle.ftn_base.specs.Files.{File}
use Rattle.ftn_base.specs.declared.fault.Fault.{Fault}
use Rattle.ftn_base.specs.declared.fault.FaultKind.{FaultKind}
use Rattle.ftn_base.specs.declared.name.Edition.{Edition}
use Rattle.ftn_base.specs.declared.place.Range.{Range}
use Rattle.ftn_tree.specs.Breaks.{Breach, Among, IsBreak, breaches_of}
use Rattle.ftn_tree.specs.FileFaults.{IsFileTree, IsTreeFault, IsTreeOf}
use Rattle.ftn_tree.specs.ProjectFaults.{HasTree}
use Rattle.ftn_tree.specs.Reading.{tokens_of}
use Rattle.ftn_tree.specs.declared.table.TableFault.{TableFault}
use Rattle.ftn_tree.specs.declared.table.TableFault.TheVariants as table_fault
use Rattle.ftn_tree.specs.declared.token.Tokens.{Tokens}
use Rattle.ftn_tree.specs.declared.unit.FileTree.{FileTree}
use Rattle.unit_parse.specs.Decided.{TextHasOneAnswer}
use Rattle.unit_parse.specs.Parsing.{HasNoTree, IsParseFault}
use Rattle.unit_parse.specs.declared.fault.ParseFault.{ParseFault}
use Rattle.unit_parse.specs.declared.fault.ParseFault.TheVariants as parse_fault
use Rattle.ftn_tool.specs.BuiltFaults.{AreTreesOf, IsProjectFault, IsSound, IsUnreadFault, built_fault}
use Rattle.ftn_tool.specs.steps.Found.{IsTold, IsToldUnread, IsUnread, fault_in, told_in}
use Rattle.ftn_tool.proofs.Trees.{have_trees, push_tree, same_length}

-- ---- one text

-- a text that breaks a rule has no tree
pub breaks_unread : (edition : Edition) (text : List ℕ) (kind : FaultKind) (at : ℕ) → IsBreak edition text at kind → IsUnread edition text (parse_fault.At kind (record { start = at; end = at + 1 }))
breaks_unread edition text kind at is = (inl (at, is, refl), λ tree read. subst (λ (all : List Breach). Among (at, kind) all) read.0 is.among)

pub parsed_tree : (edition : Edition) (text : List ℕ) (tokens : Tokens) (result : Result FileTree ParseFault) → breaches_of edition text ≡ [] → tokens ≡ tokens_of text
    → IfOk result (λ tree. IsFileTree tokens tree) → IfOk result (IsTreeOf edition text)
parsed_tree edition text tokens (Ok tree) none are is = (none, subst (λ (t : Tokens). IsFileTree t tree) are is)
parsed_tree edition text tokens (Err fault) none are is = tt

pub parsed_fault : (edition : Edition) (text : List ℕ) (tokens : Tokens) (result : Result FileTree ParseFault) → breaches_of edition text ≡ [] → tokens ≡ tokens_of text
    → IfErr result (IsParseFault tokens) → IfErr result (HasNoTree tokens) → IfErr result (IsUnread edition text)
parsed_fault edition text tokens (Ok tree) none are is no_tree = tt
parsed_fault edition text tokens (Err (parse_fault.At kind range)) none are is no_tree =
    (inr (none, subst (λ (t : Tokens). IsTreeFault t kind range) are is), λ tree read. no_tree tree (subst (λ (t : Tokens). IsFileTree t tree) (sym are) read.1))
parsed_fault edition text tokens (Err parse_fault.NoMemory) none are is no_tree = tt

-- ---- one file after another

parted : (files : List File) (i : ℕ) (file : File) → i < length files → file ≡ get_or files i file → files ≡ take i files ++ file ∷ drop (i + 1) files
parted files i file inside is =
    sym (take-append-drop i files)
    ∙ ap (λ (rest : List File). take i files ++ rest) (drop_more files i file inside ∙ ap (λ (f : File). f ∷ drop (i + 1) files) (sym is))

pub trees_so_far : (edition : Edition) (files : List File) (i : ℕ) (trees : List FileTree) → i < length files → AreTreesOf edition (take i files) trees → length trees ≡ i
trees_so_far edition files i trees inside are =
    let cut : length (take i files) ≡ min i (length files) = length-take i files in
    omega (arith, same_length edition (take i files) trees are, cut, inside)

pub tells_unread : (edition : Edition) (files : List File) (i : ℕ) (file : File) (trees : List FileTree) (kind : FaultKind) (range : Range) → i < length files → file ≡ get_or files i file
    → AreTreesOf edition (take i files) trees → IsUnread edition file.1 (parse_fault.At kind range) → IsUnreadFault edition files (fault_in (length trees) kind range)
tells_unread edition files i file trees kind range inside is are unread = record {
  name = file.0;
  text = file.1;
  bytes = range;
  first = record { before = take i files; after = drop (i + 1) files; whole = parted files i file inside is; read = have_trees edition (take i files) trees are; unread = λ has. unread.1 has.0 has.1; fault = unread.0 };
  span = ap (λ (n : ℕ). Some (record { file = n; range = range })) (same_length edition (take i files) trees are);
  alone = refl;
}

pub tells_told : (edition : Edition) (files : List File) (i : ℕ) (file : File) (trees : List FileTree) (fault : ParseFault) → i < length files → file ≡ get_or files i file
    → AreTreesOf edition (take i files) trees → IsUnread edition file.1 fault → IsToldUnread edition files (told_in (length trees) fault)
tells_told edition files i file trees (parse_fault.At kind range) inside is are unread = tells_unread edition files i file trees kind range inside is are unread
tells_told edition files i file trees parse_fault.NoMemory inside is are unread = tt

pub tree_more : (edition : Edition) (files : List File) (i : ℕ) (file : File) (trees : List FileTree) (tree : FileTree) → i < length files → file ≡ get_or files i file
    → AreTreesOf edition (take i files) trees → IsTreeOf edition file.1 tree → AreTreesOf edition (take (i + 1) files) (trees ++ tree ∷ [])
tree_more edition files i file trees tree inside is are read =
    subst (λ (fs : List File). AreTreesOf edition fs (trees ++ tree ∷ [])) (sym (take_more files i file inside ∙ ap (λ (f : File). take i files ++ f ∷ []) (sym is)))
    (push_tree edition (take i files) trees file tree are read)

pub trees_whole : (edition : Edition) (files : List File) (i : ℕ) (trees : List FileTree) → length files ≤ i → AreTreesOf edition (take i files) trees → AreTreesOf edition files trees
trees_whole edition files i trees end are = subst (λ (fs : List File). AreTreesOf edition fs trees) (take_all i files end) are

-- ---- the project

pub told_unread : (edition : Edition) (files : List File) (fault : TableFault) → IsToldUnread edition files fault → IsTold edition files fault
told_unread edition files (table_fault.Project fault) is = inl is
told_unread edition files table_fault.NoMemory is = tt

pub told_built : (edition : Edition) (files : List File) (trees : List FileTree) (fault : TableFault) → AreTreesOf edition files trees
    → ((f : Fault) → ◌≡◌ {A = TableFault} fault (table_fault.Project f) → built_fault trees ≡ Some f) → IsTold edition files fault
told_built edition files trees (table_fault.Project fault) are is = inr (trees, are, is fault refl)
told_built edition files trees table_fault.NoMemory are is = tt

middle : (edition : Edition) (before after : List File) (file : File) → All (HasTree edition) (before ++ file ∷ after) → HasTree edition file
middle edition [] after file all = All-head (HasTree edition) file after all
middle edition (one ∷ before) after file all = middle edition before after file (All-tail (HasTree edition) one (before ++ file ∷ after) all)

-- a project with an unread file has no trees
unread_none : (edition : Edition) (files : List File) (fault : Fault) (trees : List FileTree) → IsUnreadFault edition files fault → AreTreesOf edition files trees → ⊥
unread_none edition files fault trees is are =
    is.first.unread (middle edition is.first.before is.first.after (is.name, is.text) (subst (λ (fs : List File). All (HasTree edition) fs) is.first.whole (have_trees edition files trees are)))

-- files have one list of trees
one_list : (edition : Edition) (law : (text : List ℕ) → TextHasOneAnswer edition text) (files : List File) (one other : List FileTree) → AreTreesOf edition files one → AreTreesOf edition files other → one ≡ other
one_list edition law [] [] [] are also = refl
one_list edition law [] (t ∷ one) other are also = absurd are
one_list edition law [] [] (t ∷ other) are also = absurd also
one_list edition law (file ∷ files) [] other are also = absurd are
one_list edition law (file ∷ files) (t ∷ one) [] are also = absurd also
one_list edition law (file ∷ files) (t ∷ one) (u ∷ other) are also =
    ap (λ (x : FileTree). x ∷ one) ((law file.1).one_tree t u are.0 also.0) ∙ ap (λ (xs : List FileTree). u ∷ xs) (one_list edition law files one other are.1 also.1)

-- a project with a fault is not sound
pub fault_unsound : (edition : Edition) (law : (text : List ℕ) → TextHasOneAnswer edition text) (files : List File) (fault : Fault) → IsProjectFault edition files fault → IsSound edition files → ⊥
fault_unsound edition law files fault (inl unread) sound = unread_none edition files fault sound.0 unread sound.1.0
fault_unsound edition law files fault (inr built) sound =
    none-some fault (sym sound.1.1 ∙ ap built_fault (one_list edition law files sound.0 built.0 sound.1.0 built.1) ∙ built.2)
