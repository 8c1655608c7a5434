-- The sides of a map by their numbers: how many there are, where each stands, and that the map has it.
use Rattle.nef_smap.proofs.Prelude.{◌≡◌, ℕ, zero, suc, ◌+◌, ◌*◌, ◌/◌, ◌%◌, ◌⊎◌, inl, inr, ⊎_elim, List, [], ◌∷◌, ◌++◌, length, map, Option, Some, None, cond, is_some, arith, add-zero, zero-add, length-append, refl, sym, ◌∙◌, ap, subst, slice_get, ◌<◌, Bool, true, false, not, filter_map, cons_option, IsAt, Label, MapVertex, Item, Map, items, item_pos, item_neg, Side, around_svertex, pos_item, neg_item, whole, HasSide, SVertex, SphereMap, svertex_of, map_of, LabelledSide, labelled, svertex_sides, item_sides, sides_of, IsSide, is-at_none, is-at_first}
use lib.Dec.{eqb}
use mir.Val.{bool_byte}
pub use Rattle.nef_smap.proofs.Lists.{at-right, InSecond, get-past}
pub use Rattle.nef_space.proofs.Lists.{is-at_left, is-at_some, is-at_either, is-at_parts}

-- ---- how many
pub length-item_sides : (k : ℕ) (xs : List Item) → length (item_sides k xs) ≡ 2 * length xs
length-item_sides k [] = omega arith
length-item_sides k (x ∷ xs) = let e = length-item_sides (suc k) xs in omega arith

pub length-svertex_sides : (k : ℕ) (vs : List SVertex) → length (svertex_sides k (map svertex_of vs)) ≡ length (filter_map (λ v. v.around) vs)
length-svertex_sides k [] = refl
length-svertex_sides k (v ∷ vs) = by v.around (length-svertex_sides (suc k) vs)
  where
    by : (f : Option Label) → length (svertex_sides (suc k) (map svertex_of vs)) ≡ length (filter_map (λ (v : SVertex). v.around) vs)
        → length (labelled (around_svertex k) f ++ svertex_sides (suc k) (map svertex_of vs)) ≡ length (cons_option f (filter_map (λ (v : SVertex). v.around) vs))
    by None e = e
    by (Some l) e = omega arith

pub length-sides : (m : SphereMap) → length (sides_of (map_of m)) ≡ length (filter_map (λ v. v.around) m.svertices) + 2 * length (items (map_of m)) + bool_byte (is_some m.ground)
length-sides m =
    let vs = svertex_sides 0 (map svertex_of m.svertices) in
    let xs = item_sides 0 (items (map_of m)) in
    let e = length-append (vs ++ xs) (labelled whole m.ground) in
    let f = length-append vs xs in
    let g = length-svertex_sides 0 m.svertices in
    let h = length-item_sides 0 (items (map_of m)) in
    let i : length (labelled whole m.ground) ≡ bool_byte (is_some m.ground) = by m.ground in omega arith
  where
    by : (f : Option Label) → length (labelled whole f) ≡ bool_byte (is_some f)
    by None = refl
    by (Some l) = refl

-- ---- which one
pub around-side : (k : ℕ) (vs : List SVertex) (s : ℕ) (l : Label) → slice_get (filter_map (λ v. v.around) vs) s ≡ Some l → (o : Side) × IsAt (svertex_sides k (map svertex_of vs)) s (o, l)
around-side k [] s l e = cc
around-side k (v ∷ vs) s l e = by v.around s e (around-side (suc k) vs)
  where
    by : (f : Option Label) (s : ℕ) → slice_get (cons_option f (filter_map (λ (v : SVertex). v.around) vs)) s ≡ Some l
        → ((s : ℕ) (l : Label) → slice_get (filter_map (λ (v : SVertex). v.around) vs) s ≡ Some l → (o : Side) × IsAt (svertex_sides (suc k) (map svertex_of vs)) s (o, l))
        → (o : Side) × IsAt (labelled (around_svertex k) f ++ svertex_sides (suc k) (map svertex_of vs)) s (o, l)
    by None s e go = go s l e
    by (Some m) zero e go = (around_svertex k, let f : m ≡ l = cc in ap (λ (r : Label). Some (around_svertex k, r)) f)
    by (Some m) (suc s) e go = go s l e

pub item-side : (n : ℕ) (xs : List Item) (k : ℕ) (x : Item) → IsAt xs k x
    → IsAt (item_sides n xs) (2 * k) (pos_item (n + k), item_pos x) × IsAt (item_sides n xs) (2 * k + 1) (neg_item (n + k), item_neg x)
item-side n [] k x a = absurd (is-at_none a)
item-side n (y ∷ xs) zero x a = let e = is-at_first a in rw (add-zero n) (ap (λ (r : Item). Some (pos_item n, item_pos r)) e, ap (λ (r : Item). Some (neg_item n, item_neg r)) e)
item-side n (y ∷ xs) (suc k) x a =
    let r = item-side (suc n) xs k x a in
    let e : suc n + k ≡ n + suc k = omega arith in
    let f : 2 * suc k ≡ suc (suc (2 * k)) = omega arith in
    let g : 2 * suc k + 1 ≡ suc (suc (2 * k + 1)) = omega arith in (
      rw f (subst (λ (i : ℕ). IsAt (item_sides (suc n) xs) (2 * k) (pos_item i, item_pos x)) e r.0),
      rw g (subst (λ (i : ℕ). IsAt (item_sides (suc n) xs) (2 * k + 1) (neg_item i, item_neg x)) e r.1),
    )

-- the one side of a map without svertices and items
pub whole-labelled : (g : Option Label) (l : Label) → g ≡ Some l → IsAt (labelled whole g) 0 (whole, l)
whole-labelled None l e = cc
whole-labelled (Some k) l e = let f : k ≡ l = cc in ap (λ (r : Label). Some (whole, r)) f

-- ---- the sides of the program's maps
module _ (m : SphereMap) where
  abbrev arounds : List LabelledSide
  arounds = svertex_sides 0 (map svertex_of m.svertices)

  abbrev of_items : List LabelledSide
  of_items = item_sides 0 (items (map_of m))

  abbrev arounds_count : ℕ
  arounds_count = length (filter_map (λ (v : SVertex). v.around) m.svertices)

  pub side-around : (s : ℕ) (l : Label) → slice_get (filter_map (λ (v : SVertex). v.around) m.svertices) s ≡ Some l → (o : Side) × IsSide (map_of m) s o l
  side-around s l e =
      let r = around-side 0 m.svertices s l e in
      (r.0, (is-at_left (arounds ++ of_items) (labelled whole m.ground) s (r.0, l) (is-at_left arounds of_items s (r.0, l) r.1)))

  of-items : (s i : ℕ) (y : LabelledSide) → s ≡ arounds_count + i → IsAt of_items i y → IsAt (sides_of (map_of m)) s y
  of-items s i y e a = (is-at_left (arounds ++ of_items) (labelled whole m.ground) s y (at-right arounds of_items i s y (let f = length-svertex_sides 0 m.svertices in omega arith) a))

  pub side-above : (s k : ℕ) (x : Item) → s ≡ arounds_count + 2 * k → IsAt (items (map_of m)) k x → IsSide (map_of m) s (pos_item k) (item_pos x)
  side-above s k x e a = of-items s (2 * k) (pos_item k, item_pos x) e (subst (λ (i : ℕ). IsAt of_items (2 * k) (pos_item i, item_pos x)) (zero-add k) (item-side 0 (items (map_of m)) k x a).0)

  pub side-below : (s k : ℕ) (x : Item) → s ≡ arounds_count + (2 * k + 1) → IsAt (items (map_of m)) k x → IsSide (map_of m) s (neg_item k) (item_neg x)
  side-below s k x e a = of-items s (2 * k + 1) (neg_item k, item_neg x) e (subst (λ (i : ℕ). IsAt of_items (2 * k + 1) (neg_item i, item_neg x)) (zero-add k) (item-side 0 (items (map_of m)) k x a).1)

  pub side-whole : (s : ℕ) (l : Label) → s ≡ arounds_count + 2 * length (items (map_of m)) → m.ground ≡ Some l → IsSide (map_of m) s whole l
  side-whole s l e f =
      let g = length-svertex_sides 0 m.svertices in
      let h = length-item_sides 0 (items (map_of m)) in
      let i = length-append arounds of_items in
      (at-right (arounds ++ of_items) (labelled whole m.ground) 0 s (whole, l) (omega arith) (whole-labelled m.ground l f))

  pub side-item : (s n : ℕ) (x : Item) (l : Label) → s ≡ arounds_count + n → IsAt (items (map_of m)) (n / 2) x → l ≡ cond (eqb (n % 2) 0) (item_pos x) (item_neg x) → (o : Side) × IsSide (map_of m) s o l
  side-item s n x l e a f = by (n % 2) refl f
    where
      by : (r : ℕ) → r ≡ n % 2 → l ≡ cond (eqb r 0) (item_pos x) (item_neg x) → (o : Side) × IsSide (map_of m) s o l
      by zero h g = (pos_item (n / 2), subst (IsSide (map_of m) s (pos_item (n / 2))) (sym g) (side-above s (n / 2) x (omega arith) a))
      by (suc zero) h g = (neg_item (n / 2), subst (IsSide (map_of m) s (neg_item (n / 2))) (sym g) (side-below s (n / 2) x (omega arith) a))
      by (suc (suc r)) h g = absurd (omega arith)

  pub side-of : (s k : ℕ) (above : Bool) → k < length (items (map_of m)) → s ≡ arounds_count + 2 * k + bool_byte (not above)
      → (x : Item) × IsAt (items (map_of m)) k x × IsSide (map_of m) s (cond above (pos_item k) (neg_item k)) (cond above (item_pos x) (item_neg x))
  side-of s k true h e = let r = is-at_some (items (map_of m)) k h in (r.0, r.1, side-above s k r.0 (omega arith) r.1)
  side-of s k false h e = let r = is-at_some (items (map_of m)) k h in (r.0, r.1, side-below s k r.0 (omega arith) r.1)

-- ---- what a numbered side is
labelled-has : (p : Side) (f : Option Label) (s : ℕ) (o : Side) (l : Label) → IsAt (labelled p f) s (o, l) → (o ≡ p) × (f ≡ Some l)
labelled-has p None s o l a = absurd (is-at_none a)
labelled-has p (Some m) zero o l a = let e = is-at_first a in (sym (ap (λ (y : LabelledSide). y.0) e), ap (λ (y : LabelledSide). Some y.1) e)
labelled-has p (Some m) (suc s) o l a = absurd (is-at_none a)

svertex-has : (n : ℕ) (vs : List MapVertex) (s : ℕ) (o : Side) (l : Label) → IsAt (svertex_sides n vs) s (o, l) → (i : ℕ) × (v : MapVertex) × IsAt vs i v × (v.around ≡ Some l) × (o ≡ around_svertex (n + i))
svertex-has n [] s o l a = absurd (is-at_none a)
svertex-has n (v ∷ vs) s o l a = by (λ s' b. svertex-has (suc n) vs s' o l b) (is-at_either (labelled (around_svertex n) v.around) (svertex_sides (suc n) vs) s (o, l) a)
  where
    by : ((s : ℕ) → IsAt (svertex_sides (suc n) vs) s (o, l) → (i : ℕ) × (w : MapVertex) × IsAt vs i w × (w.around ≡ Some l) × (o ≡ around_svertex (suc n + i)))
        → IsAt (labelled (around_svertex n) v.around) s (o, l) ⊎ ((j : ℕ) × IsAt (svertex_sides (suc n) vs) j (o, l))
        → (i : ℕ) × (w : MapVertex) × IsAt (v ∷ vs) i w × (w.around ≡ Some l) × (o ≡ around_svertex (n + i))
    by go (inl b) = let r = labelled-has (around_svertex n) v.around s o l b in (zero, v, refl, r.1, r.0 ∙ ap around_svertex (let e : n ≡ n + zero = omega arith in e))
    by go (inr (j, b)) = let r = go j b in (suc r.0, r.1, r.2, r.3, r.4 ∙ ap around_svertex (let e : suc n + r.0 ≡ n + suc r.0 = omega arith in e))

item-has : (n : ℕ) (xs : List Item) (s : ℕ) (o : Side) (l : Label) → IsAt (item_sides n xs) s (o, l)
    → (i : ℕ) × (x : Item) × IsAt xs i x × (((o ≡ pos_item (n + i)) × (item_pos x ≡ l)) ⊎ ((o ≡ neg_item (n + i)) × (item_neg x ≡ l)))
item-has n [] s o l a = absurd (is-at_none a)
item-has n (x ∷ xs) zero o l a = let f = is-at_first a in (zero, x, refl, inl (sym (ap (λ (y : LabelledSide). y.0) f) ∙ ap pos_item (let e : n ≡ n + zero = omega arith in e), ap (λ (y : LabelledSide). y.1) f))
item-has n (x ∷ xs) (suc zero) o l a = let f = is-at_first a in (zero, x, refl, inr (sym (ap (λ (y : LabelledSide). y.0) f) ∙ ap neg_item (let e : n ≡ n + zero = omega arith in e), ap (λ (y : LabelledSide). y.1) f))
item-has n (x ∷ xs) (suc (suc s)) o l a =
    let r = item-has (suc n) xs s o l a in
    let e : suc n + r.0 ≡ n + suc r.0 = omega arith in
    (suc r.0, r.1, r.2, ⊎_elim (λ q. inl (q.0 ∙ ap pos_item e, q.1)) (λ q. inr (q.0 ∙ ap neg_item e, q.1)) r.3)

-- a map has each of its numbered sides
pub side-has : (M : Map) (s : ℕ) (o : Side) (l : Label) → IsSide M s o l → HasSide M o l
side-has M s o l g = by (is-at_either (svertex_sides 0 M.svertices ++ item_sides 0 (items M)) (labelled whole M.ground) s (o, l) g)
  where
    around : ((i : ℕ) × (v : MapVertex) × IsAt M.svertices i v × (v.around ≡ Some l) × (o ≡ around_svertex (0 + i))) → HasSide M o l
    around (i, v, a, e, f) = subst (λ (p : Side). HasSide M p l) (sym (f ∙ ap around_svertex (zero-add i))) (v, a, e)

    of_item : ((i : ℕ) × (x : Item) × IsAt (items M) i x × (((o ≡ pos_item (0 + i)) × (item_pos x ≡ l)) ⊎ ((o ≡ neg_item (0 + i)) × (item_neg x ≡ l)))) → HasSide M o l
    of_item (i, x, a, inl q) = subst (λ (p : Side). HasSide M p l) (sym (q.0 ∙ ap pos_item (zero-add i))) (x, a, q.1)
    of_item (i, x, a, inr q) = subst (λ (p : Side). HasSide M p l) (sym (q.0 ∙ ap neg_item (zero-add i))) (x, a, q.1)

    part : IsAt (svertex_sides 0 M.svertices) s (o, l) ⊎ ((j : ℕ) × IsAt (item_sides 0 (items M)) j (o, l)) → HasSide M o l
    part (inl a) = around (svertex-has 0 M.svertices s o l a)
    part (inr (j, a)) = of_item (item-has 0 (items M) j o l a)

    by : IsAt (svertex_sides 0 M.svertices ++ item_sides 0 (items M)) s (o, l) ⊎ ((j : ℕ) × IsAt (labelled whole M.ground) j (o, l)) → HasSide M o l
    by (inl a) = part (is-at_either (svertex_sides 0 M.svertices) (item_sides 0 (items M)) s (o, l) a)
    by (inr (j, a)) = let r = labelled-has whole M.ground j o l a in subst (λ (p : Side). HasSide M p l) (sym r.0) r.1
