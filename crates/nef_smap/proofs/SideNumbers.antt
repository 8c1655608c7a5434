-- Each side of a map has its number, and no other.
use Rattle.nef_smap.proofs.Prelude.{◌≡◌, ℕ, zero, suc, ◌+◌, ◌*◌, ◌⊎◌, inl, inr, ⊎_elim, List, [], ◌∷◌, ◌++◌, length, Option, Some, None, arith, zero-add, length-append, refl, sym, ◌∙◌, ap, subst, Label, IsAt, MapVertex, Item, Map, items, Side, around_svertex, pos_item, neg_item, whole, HasSide, LabelledSide, labelled, svertex_sides, item_sides, sides_of, IsSide, one_if_label, arounds_before, side_number, is-at_none, is-at_first}
use Rattle.nef_smap.proofs.SideLists.{length-item_sides, item-side, whole-labelled}
use Rattle.nef_smap.proofs.Lists.{at-right, InSecond}
use Rattle.nef_space.proofs.Lists.{is-at_left, is-at_parts}

-- ---- where each side stands
svertex-at : (n : ℕ) (vs : List MapVertex) (k : ℕ) (v : MapVertex) (l : Label) → IsAt vs k v → v.around ≡ Some l → IsAt (svertex_sides n vs) (arounds_before vs k) (around_svertex (n + k), l)
svertex-at n [] k v l a e = absurd (is-at_none a)
svertex-at n (w ∷ vs) zero v l a e = by w.around (ap (λ (r : MapVertex). r.around) (is-at_first a) ∙ e)
  where
    by : (f : Option Label) → f ≡ Some l → IsAt (labelled (around_svertex n) f ++ svertex_sides (suc n) vs) 0 (around_svertex (n + zero), l)
    by None e = cc
    by (Some m) e = let g : m ≡ l = cc in let h : n ≡ n + zero = omega arith in ap (λ (r : Label). Some (around_svertex n, r)) g ∙ ap (λ (r : ℕ). Some (around_svertex r, l)) h
svertex-at n (w ∷ vs) (suc k) v l a e = by w.around (let h : suc n + k ≡ n + suc k = omega arith in subst (λ (r : ℕ). IsAt (svertex_sides (suc n) vs) (arounds_before vs k) (around_svertex r, l)) h (svertex-at (suc n) vs k v l a e))
  where
    by : (f : Option Label) → IsAt (svertex_sides (suc n) vs) (arounds_before vs k) (around_svertex (n + suc k), l) → IsAt (labelled (around_svertex n) f ++ svertex_sides (suc n) vs) (one_if_label f + arounds_before vs k) (around_svertex (n + suc k), l)
    by None b = subst (λ (r : ℕ). IsAt (svertex_sides (suc n) vs) r (around_svertex (n + suc k), l)) (sym (zero-add (arounds_before vs k))) b
    by (Some m) b = at-right ((around_svertex n, m) ∷ []) (svertex_sides (suc n) vs) (arounds_before vs k) (1 + arounds_before vs k) (around_svertex (n + suc k), l) (omega arith) b

module _ (M : Map) where
  abbrev around : List LabelledSide
  around = svertex_sides 0 M.svertices

  abbrev of_items : List LabelledSide
  of_items = item_sides 0 (items M)

  of-item : (i s : ℕ) (y : LabelledSide) → s ≡ length around + i → IsAt of_items i y → IsAt (sides_of M) s y
  of-item i s y e a = is-at_left (around ++ of_items) (labelled whole M.ground) s y (at-right around of_items i s y e a)

  pub side-number : (o : Side) (l : Label) → HasSide M o l → IsSide M (side_number M o) o l
  side-number (around_svertex k) l (v, a, e) = (is-at_left (around ++ of_items) (labelled whole M.ground) (arounds_before M.svertices k) (around_svertex k, l) (is-at_left around of_items (arounds_before M.svertices k) (around_svertex k, l)
      (subst (λ (r : ℕ). IsAt around (arounds_before M.svertices k) (around_svertex r, l)) (zero-add k) (svertex-at 0 M.svertices k v l a e))))
  side-number (pos_item k) l (x, a, e) =
      let s = length around + 2 * k in
      (of-item (2 * k) s (pos_item k, l) refl
      (subst (λ (i : ℕ). IsAt of_items (2 * k) (pos_item i, l)) (zero-add k) (subst (λ (r : Label). IsAt of_items (2 * k) (pos_item (0 + k), r)) e (item-side 0 (items M) k x a).0)))
  side-number (neg_item k) l (x, a, e) =
      let s = length around + (2 * k + 1) in
      (of-item (2 * k + 1) s (neg_item k, l) refl
      (subst (λ (i : ℕ). IsAt of_items (2 * k + 1) (neg_item i, l)) (zero-add k) (subst (λ (r : Label). IsAt of_items (2 * k + 1) (neg_item (0 + k), r)) e (item-side 0 (items M) k x a).1)))
  side-number whole l e =
      let s = length around + 2 * length (items M) in
      let h = length-item_sides 0 (items M) in
      let i = length-append around of_items in
      (at-right (around ++ of_items) (labelled whole M.ground) 0 s (whole, l) (omega arith) (whole-labelled M.ground l e))

-- ---- what stands at each number
svertex-number : (n : ℕ) (v : MapVertex) (vs : List MapVertex) (s : ℕ) (o : Side) (l : Label) → IsAt (svertex_sides n (v ∷ vs)) s (o, l)
    → ((s : ℕ) → IsAt (svertex_sides (suc n) vs) s (o, l) → (i : ℕ) × (o ≡ around_svertex (suc n + i)) × (s ≡ arounds_before vs i)) → (i : ℕ) × (o ≡ around_svertex (n + i)) × (s ≡ arounds_before (v ∷ vs) i)
svertex-number n v vs s o l a go = by v.around refl s a
  where
    later : (f : Option Label) → v.around ≡ f → (s : ℕ) → IsAt (svertex_sides (suc n) vs) s (o, l) → (i : ℕ) × (o ≡ around_svertex (n + i)) × (one_if_label f + s ≡ arounds_before (v ∷ vs) i)
    later f e s b =
        let r = go s b in
        let h : suc n + r.0 ≡ n + suc r.0 = omega arith in
        (suc r.0, r.1 ∙ ap around_svertex h, ap (λ t. one_if_label f + t) r.2 ∙ ap (λ t. one_if_label t + arounds_before vs r.0) (sym e))

    by : (f : Option Label) → v.around ≡ f → (s : ℕ) → IsAt (labelled (around_svertex n) f ++ svertex_sides (suc n) vs) s (o, l) → (i : ℕ) × (o ≡ around_svertex (n + i)) × (s ≡ arounds_before (v ∷ vs) i)
    by None e s b = let r = later None e s b in (r.0, r.1, sym (zero-add s) ∙ r.2)
    by (Some m) e zero b = (zero, sym (ap (λ (y : LabelledSide). y.0) (is-at_first b)) ∙ ap around_svertex (let h : n ≡ n + zero = omega arith in h), refl)
    by (Some m) e (suc s) b = let r = later (Some m) e s b in (r.0, r.1, (let h : suc s ≡ 1 + s = omega arith in h) ∙ r.2)

svertices-number : (n : ℕ) (vs : List MapVertex) (s : ℕ) (o : Side) (l : Label) → IsAt (svertex_sides n vs) s (o, l) → (i : ℕ) × (o ≡ around_svertex (n + i)) × (s ≡ arounds_before vs i)
svertices-number n [] s o l a = absurd (is-at_none a)
svertices-number n (v ∷ vs) s o l a = svertex-number n v vs s o l a (λ t b. svertices-number (suc n) vs t o l b)

items-number : (n : ℕ) (xs : List Item) (s : ℕ) (o : Side) (l : Label) → IsAt (item_sides n xs) s (o, l) → (i : ℕ) × (((o ≡ pos_item (n + i)) × (s ≡ 2 * i)) ⊎ ((o ≡ neg_item (n + i)) × (s ≡ 2 * i + 1)))
items-number n [] s o l a = absurd (is-at_none a)
items-number n (x ∷ xs) zero o l a = (zero, inl (sym (ap (λ (y : LabelledSide). y.0) (is-at_first a)) ∙ ap pos_item (let e : n ≡ n + zero = omega arith in e), refl))
items-number n (x ∷ xs) (suc zero) o l a = (zero, inr (sym (ap (λ (y : LabelledSide). y.0) (is-at_first a)) ∙ ap neg_item (let e : n ≡ n + zero = omega arith in e), refl))
items-number n (x ∷ xs) (suc (suc s)) o l a =
    let r = items-number (suc n) xs s o l a in
    let e : suc n + r.0 ≡ n + suc r.0 = omega arith in
    (suc r.0, ⊎_elim (λ q. inl (q.0 ∙ ap pos_item e, (let i = q.1 in let h : suc (suc s) ≡ 2 * suc r.0 = omega arith in h))) (λ q. inr (q.0 ∙ ap neg_item e, (let i = q.1 in let h : suc (suc s) ≡ 2 * suc r.0 + 1 = omega arith in h))) r.1)

pub number-one : (M : Map) (s : ℕ) (o : Side) (l : Label) → IsSide M s o l → s ≡ side_number M o
number-one M s o l g = by (is-at_parts (around M ++ of_items M) (labelled whole M.ground) s (o, l) g)
  where
    is : (p : Side) → o ≡ p → s ≡ side_number M p → s ≡ side_number M o
    is p e q = q ∙ ap (side_number M) (sym e)

    of_item : (j : ℕ) → s ≡ length (around M) + j → (i : ℕ) → ((o ≡ pos_item (0 + i)) × (j ≡ 2 * i)) ⊎ ((o ≡ neg_item (0 + i)) × (j ≡ 2 * i + 1)) → s ≡ side_number M o
    of_item j e i (inl q) = is (pos_item i) (q.0 ∙ ap pos_item (zero-add i)) (e ∙ ap (λ r. length (around M) + r) q.1)
    of_item j e i (inr q) = is (neg_item i) (q.0 ∙ ap neg_item (zero-add i)) (e ∙ ap (λ r. length (around M) + r) q.1)

    part : IsAt (around M) s (o, l) ⊎ InSecond (around M) (of_items M) s (o, l) → s ≡ side_number M o
    part (inl a) = let r = svertices-number 0 M.svertices s o l a in is (around_svertex r.0) (r.1 ∙ ap around_svertex (zero-add r.0)) r.2
    part (inr (j, e, a)) = let r = items-number 0 (items M) j o l a in of_item j e r.0 r.1

    last : (f : Option Label) (j : ℕ) → IsAt (labelled whole f) j (o, l) → (o ≡ whole) × (j ≡ 0)
    last None j a = absurd (is-at_none a)
    last (Some m) zero a = (sym (ap (λ (y : LabelledSide). y.0) (is-at_first a)), refl)
    last (Some m) (suc j) a = absurd (is-at_none a)

    by : IsAt (around M ++ of_items M) s (o, l) ⊎ InSecond (around M ++ of_items M) (labelled whole M.ground) s (o, l) → s ≡ side_number M o
    by (inl a) = part (is-at_parts (around M) (of_items M) s (o, l) a)
    by (inr (j, e, a)) =
        let r = last M.ground j a in
        let h = length-item_sides 0 (items M) in
        let i = length-append (around M) (of_items M) in
        let q = r.1 in
        is whole r.0 (omega arith)
