-- What belongs to none of the sections stands nowhere among the statements in them.
use Rattle.std.proofs.Common.{◌≡◌, Bool, true, false, ◌&&◌, List, [], ◌∷◌, Option, Some, None, refl, sym, ◌∙◌, true≢false}
use Rattle.ftn_tree.specs.declared.mark.Content.{Content}
use Rattle.ftn_tree.specs.declared.mark.Mark.{Mark}
use Rattle.ftn_tree.specs.declared.mark.Section.{Section}
use Rattle.ftn_tree.specs.declared.mark.Section.TheVariants as section
use Rattle.ftn_tree.specs.Marks.{belongs}
use Rattle.ftn_tree.specs.Regions.{in_order}
use Rattle.unit_parse.proofs.Orders.{after, continues, order_step}

abbrev pub Free : (Mark → Bool) → List Mark → Type 0
Free bad [] = Unit {0}
Free bad (m ∷ marks) = (bad m ≡ false) × Free bad marks

both : (a b : Bool) → a && b ≡ true → (a ≡ true) × (b ≡ true)
both true b e = (refl, e)
both false b e = absurd (true≢false (sym e))

abbrev pub section_fits : (Content → Bool) → Section → Bool
section_fits fits (section.Any p) = fits p
section_fits fits (section.Once p) = fits p
section_fits fits (section.First p) = fits p

abbrev pub all_fit : (Content → Bool) → List Section → Bool
all_fit fits [] = true
all_fit fits (one ∷ sections) = section_fits fits one && all_fit fits sections

module _ (bad : Mark → Bool) (fits : Content → Bool) (apart : (m : Mark) (p : Content) → fits p ≡ true → belongs p m ≡ true → bad m ≡ false) where
  abbrev Goes : Mark → Option (List Section) → Type 0
  Goes m None = Unit {0}
  Goes m (Some sections) = (bad m ≡ false) × (all_fit fits sections ≡ true)

  fit_after : (sections : List Section) (m : Mark) → all_fit fits sections ≡ true → Goes m (after sections m)
  fit_after [] m h = tt
  fit_after (section.Any p ∷ sections) m h = here (belongs p m) refl (fit_after sections m (both (fits p) (all_fit fits sections) h).1)
    where
      here : (b : Bool) → belongs p m ≡ b → Goes m (after sections m) → Goes m (after (section.Any p ∷ sections) m)
      here true e again = rw e (apart m p (both (fits p) (all_fit fits sections) h).0 e, h)
      here false e again = rw e again
  fit_after (section.Once p ∷ sections) m h = here (belongs p m) refl
    where
      here : (b : Bool) → belongs p m ≡ b → Goes m (after (section.Once p ∷ sections) m)
      here true e = rw e (apart m p (both (fits p) (all_fit fits sections) h).0 e, (both (fits p) (all_fit fits sections) h).1)
      here false e = rw e tt
  fit_after (section.First p ∷ sections) m h = here (belongs p m) refl (fit_after sections m (both (fits p) (all_fit fits sections) h).1)
    where
      here : (b : Bool) → belongs p m ≡ b → Goes m (after sections m) → Goes m (after (section.First p ∷ sections) m)
      here true e again = rw e again
      here false e again = rw e tt

  pub free : (marks : List Mark) (sections : List Section) → all_fit fits sections ≡ true → in_order sections marks ≡ true → Free bad marks
  free [] sections h e = tt
  free (m ∷ marks) sections h e = here (after sections m) (fit_after sections m h) (sym (order_step sections m marks) ∙ e) (λ more fit order. free marks more fit order)
    where
      here : (o : Option (List Section)) → Goes m o → continues o marks ≡ true → ((more : List Section) → all_fit fits more ≡ true → in_order more marks ≡ true → Free bad marks) → Free bad (m ∷ marks)
      here None goes holds again = absurd (true≢false (sym holds))
      here (Some more) goes holds again = (goes.0, again more goes.1 holds)
