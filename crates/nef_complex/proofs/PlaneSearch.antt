-- Searching the planes of an index by halving.
use Rattle.nef_complex.proofs.Prelude.{◌≡◌, ℕ, ◌<◌, ℤ, length, arith, refl, sym, subst, inl, inr, ⊎_elim, List, [], ◌∷◌, get_or, ordering_index, IsNonDecreasingBy, IsPartitionPoint, Less, Equal, Greater, cases_lt, by_ranked, ints, searchable_from_sorted, slice_get-get_or, slice_get_within, get_or_from_slice_get, IsAt, IsBelow, form_numbers, form_of, Plane, plane_order, plane_total, plane-ordered, IsPlaneBelow, sorted-from_order, AreInOrder}
use Rattle.nef_geo.proofs.Orders.{below-one_way, never-below}

never : (h : Plane) → IsPlaneBelow h h → ⊥
never h = never-below (form_numbers (form_of h))

later : (g h : Plane) → IsPlaneBelow g h → plane_order h g ≡ Greater
later g h b = by_ranked (IsPlaneBelow h g) (h ≡ g) (IsPlaneBelow g h) (plane_order h g) (plane-ordered h g (plane_order h g) refl)
    (λ e c. absurd (below-one_way (form_numbers (form_of g)) (form_numbers (form_of h)) b c)) (λ e same. absurd (never g (subst (IsPlaneBelow g) same b))) (λ e c. e)

module _ (hs : List Plane) (h : Plane) where
  -- of two planes in order the later is no less as seen from h
  pub planes-rise : AreInOrder hs → IsNonDecreasingBy (λ g. ordering_index (plane_order g h)) hs
  planes-rise ordered = searchable_from_sorted plane_total (λ g. g) hs h (sorted-from_order plane_order IsPlaneBelow later hs ordered)

  -- a plane that is found is h
  pub plane-there : (i : ℕ) → i < length hs → plane_order (get_or hs i h) h ≡ Equal → IsAt hs i h
  plane-there i l e = subst (IsAt hs i) (plane-ordered (get_or hs i h) h Equal (sym e)) (slice_get-get_or hs i h l)

  -- h itself would be neither below nor above
  pub no-plane : (n : ℕ) → IsPartitionPoint (λ g. plane_order g h ≡ Less) (λ g. plane_order g h ≡ Greater) hs n → (i : ℕ) → IsAt hs i h → ⊥
  no-plane n P i a =
      let e = get_or_from_slice_get hs i h h a in
      ⊎_elim
      (λ l. never h (subst (λ (g : Plane). IsPlaneBelow g h) e (plane-ordered (get_or hs i h) h Less (sym (P.0 i h (omega arith) l)))))
      (λ l. never h (subst (λ (g : Plane). IsPlaneBelow h g) e (plane-ordered (get_or hs i h) h Greater (sym (P.1 i h l (slice_get_within hs i h a))))))
      (cases_lt i n)
