-- The runs of a text are the runs of its statements, and where the text breaks no rule, none of them does.
use Rattle.std.proofs.Common.{◌≡◌, List, [], ◌∷◌, ◌++◌, map, refl, sym, ap, ◌∙◌, subst}
use Rattle.std.specs.List.{flat_map, onto_first, slice_split}
use Rattle.ftn_base.specs.declared.name.Edition.{Edition}
use Rattle.ftn_tree.specs.Breaks.{piece_breaches}
use Rattle.ftn_tree.specs.Logical.{Glyph, byte, gap, cut, is_cut}
use Rattle.ftn_tree.specs.Reading.{cell_of, is_gap, over_cells}
use Rattle.decl_table.proofs.Order.{Each}

pub append_none : {A : Type 0} (xs ys : List A) → xs ++ ys ≡ [] → (xs ≡ []) × (ys ≡ [])
append_none [] ys is = (refl, is)
append_none (x ∷ xs) ys is = absurd (cc is)

abbrev HasParts : List (List Glyph) → Type 0
HasParts parts = (part : List Glyph) × (more : List (List Glyph)) × (parts ≡ part ∷ more)

some_onto : (g : Glyph) (parts : List (List Glyph)) → HasParts (onto_first g parts)
some_onto g [] = (g ∷ [], [], refl)
some_onto g (part ∷ parts) = (g ∷ part, parts, refl)

some_cuts : (row : List Glyph) → HasParts (slice_split is_cut row)
some_cuts [] = ([], [], refl)
some_cuts (byte b spot ∷ row) = some_onto (byte b spot) (slice_split is_cut row)
some_cuts (gap ∷ row) = some_onto gap (slice_split is_cut row)
some_cuts (cut ∷ row) = ([], slice_split is_cut row, refl)

some_gaps : (row : List Glyph) → HasParts (slice_split is_gap row)
some_gaps [] = ([], [], refl)
some_gaps (byte b spot ∷ row) = some_onto (byte b spot) (slice_split is_gap row)
some_gaps (gap ∷ row) = ([], slice_split is_gap row, refl)
some_gaps (cut ∷ row) = ([], slice_split is_gap row, refl)

onto_front : (g : Glyph) (xs ys : List (List Glyph)) → HasParts xs → onto_first g xs ++ ys ≡ onto_first g (xs ++ ys)
onto_front g [] ys (part, more, is) = absurd (cc is)
onto_front g (x ∷ xs) ys some = refl

byte_onto : (g : Glyph) (parts : List (List Glyph)) → HasParts parts → ((part : List Glyph) → slice_split is_gap (g ∷ part) ≡ onto_first g (slice_split is_gap part))
    → flat_map (slice_split is_gap) (onto_first g parts) ≡ onto_first g (flat_map (slice_split is_gap) parts)
byte_onto g [] (part, more, is) no_gap = absurd (cc is)
byte_onto g (part ∷ parts) some no_gap =
    ap (λ front. front ++ flat_map (slice_split is_gap) parts) (no_gap part)
    ∙ onto_front g (slice_split is_gap part) (flat_map (slice_split is_gap) parts) (some_gaps part)

gap_onto : (parts : List (List Glyph)) → HasParts parts → flat_map (slice_split is_gap) (onto_first gap parts) ≡ [] ∷ flat_map (slice_split is_gap) parts
gap_onto [] (part, more, is) = absurd (cc is)
gap_onto (part ∷ parts) some = refl

runs_alike : (row : List Glyph) → flat_map (slice_split is_gap) (slice_split is_cut row) ≡ slice_split is_gap row
runs_alike [] = refl
runs_alike (byte b spot ∷ row) =
    byte_onto (byte b spot) (slice_split is_cut row) (some_cuts row) (λ part. refl) ∙ ap (onto_first (byte b spot)) (runs_alike row)
runs_alike (gap ∷ row) = gap_onto (slice_split is_cut row) (some_cuts row) ∙ ap (λ runs. [] ∷ runs) (runs_alike row)
runs_alike (cut ∷ row) = ap (λ runs. [] ∷ runs) (runs_alike row)

-- no piece of the run breaks a rule
abbrev pub IsClean : Edition → List Glyph → Type 0
IsClean edition run = over_cells (piece_breaches edition) (flat_map cell_of run) ≡ []

each_clean : (edition : Edition) (runs : List (List Glyph)) → flat_map (over_cells (piece_breaches edition)) (map (flat_map cell_of) runs) ≡ [] → Each (IsClean edition) runs
each_clean edition [] none = tt
each_clean edition (run ∷ runs) none =
    let both : (over_cells (piece_breaches edition) (flat_map cell_of run) ≡ []) × (flat_map (over_cells (piece_breaches edition)) (map (flat_map cell_of) runs) ≡ []) = append_none (over_cells (piece_breaches edition) (flat_map cell_of run)) (flat_map (over_cells (piece_breaches edition)) (map (flat_map cell_of) runs)) none in
    (both.0, each_clean edition runs both.1)

each_split : {A : Type 0} (P : A → Type 0) (xs ys : List A) → Each P (xs ++ ys) → Each P xs × Each P ys
each_split P [] ys each = (tt, each)
each_split P (x ∷ xs) ys (first, each) = let (one, two) = each_split P xs ys each in ((first, one), two)

each_part : {A B : Type 0} (P : B → Type 0) (f : A → List B) (xs : List A) → Each P (flat_map f xs) → Each (λ x. Each P (f x)) xs
each_part P f [] each = tt
each_part P f (x ∷ xs) each = let (one, two) = each_split P (f x) (flat_map f xs) each in (one, each_part P f xs two)

-- no run of a statement breaks a rule
pub statements_clean : (edition : Edition) (row : List Glyph) → flat_map (over_cells (piece_breaches edition)) (map (flat_map cell_of) (slice_split is_gap row)) ≡ []
    → Each (λ part. Each (IsClean edition) (slice_split is_gap part)) (slice_split is_cut row)
statements_clean edition row none =
    each_part (IsClean edition) (slice_split is_gap) (slice_split is_cut row) (subst (Each (IsClean edition)) (sym (runs_alike row)) (each_clean edition (slice_split is_gap row) none))
