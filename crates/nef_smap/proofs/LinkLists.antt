-- Lists of links, link by link.
use Rattle.nef_smap.proofs.Prelude.{◌≡◌, ℕ, zero, suc, ◌+◌, ◌<◌, arith, length-append, refl, ap, sym, ◌∙◌, ⊎_elim, List, [], ◌∷◌, ◌++◌, length, subst, Option, Some, None, Bor, IsAt, up, Label, MapVertex, Arc, MapSloop, Map, sloop_item, items, items_then, around_svertex, pos_item, whole, is-at_one, Link, labelled, svertex_sides, item_sides, sides_of, AreLinked, SphereMap, BelowFirsts, BelowFirst, ArcFirst, SloopFirst, met_number, IsJoin, join_below, join_around, join_arc, join_sloop, join_ground, AreJoins, one_if_label, arounds_before, side_number, JoinsBelow, JoinsAround, JoinsArc, JoinsSloop, JoinsGround, HasLink, ComesOf, AreEach, AreArounds, AreSloops, AreGrounds, Either, earlier, last, is-at_pushed, is-at_left, is-at_last, is-at_some, is-at_parts, is-at_right, is-at_none, is-at_first}
use Rattle.nef_smap.proofs.SideLists.{length-item_sides}
use Rattle.nef_space.proofs.Lists.{is-at_within}
use Rattle.law_geometry.proofs.sphere.Builder.{sloops-one}
use Rattle.nef_space.proofs.Elementary.{less-or-last}

-- ---- one link for each
pub each-more : (P : ℕ → Link → Type 0) (n : ℕ) (ls : List Link) (l : Link) → P n l → AreEach P n ls → AreEach P (n + 1) (ls ++ l ∷ [])
each-more P n ls l p E = record { as_many = let a = length-append ls (l ∷ []) in let b = E.as_many in omega arith; each = λ k x a. by k x (is-at_pushed ls k x l a) }
  where
    by : (k : ℕ) (x : Link) → Either ls k x l → P k x
    by k x (earlier a) = E.each k x a
    by k x (last e f) = subst (λ (i : ℕ). P i x) (sym (e ∙ E.as_many)) (subst (P n) (sym f) p)

-- the links of calls, where each call does what is wanted
pub each-joined : (joins : Bor SphereMap → ℕ → Link → Type 0) (P : SphereMap → ℕ → Link → Type 0) (m : SphereMap) (n count : ℕ) (ls : List Link)
    → ((at : Bor SphereMap) (k : ℕ) (l : Link) → joins at k l → P at.now k l) → n ≡ count → AreEach (ComesOf joins m) n ls → AreEach (P m) count ls
each-joined joins P m n count ls f e E = record { as_many = E.as_many ∙ e; each = λ k l a. let q = E.each k l a in subst (λ (x : SphereMap). P x k l) q.1 (f q.0 k l q.2) }

pub each-has : (P : ℕ → Link → Type 0) (n : ℕ) (ls : List Link) → AreEach P n ls → (k : ℕ) → k < n → HasLink ls (P k)
each-has P n ls E k h = let e = E.as_many in let r = is-at_some ls k (omega arith) in (k, r.0, r.1, E.each k r.0 r.1)

-- ---- links for svertices that have a label round them
pub arounds-start : (vs : List MapVertex) → arounds_before vs 0 ≡ 0
arounds-start [] = refl
arounds-start (v ∷ vs) = refl

pub arounds-next : (vs : List MapVertex) (n : ℕ) (v : MapVertex) → IsAt vs n v → arounds_before vs (n + 1) ≡ arounds_before vs n + one_if_label v.around
arounds-next vs n v a = ap (arounds_before vs) (let e : n + 1 ≡ suc n = omega arith in e) ∙ next vs n v a
  where
    next : (vs : List MapVertex) (n : ℕ) (v : MapVertex) → IsAt vs n v → arounds_before vs (suc n) ≡ arounds_before vs n + one_if_label v.around
    next [] n v a = absurd (is-at_none a)
    next (w ∷ vs) zero v a = let e = ap (λ (r : MapVertex). one_if_label r.around) (is-at_first a) in let f = arounds-start vs in omega arith
    next (w ∷ vs) (suc n) v a = let e = next vs n v a in omega arith

pub has-more : (P : Link → Type 0) (ls ms : List Link) → HasLink ls P → HasLink (ls ++ ms) P
has-more P ls ms (i, l, a, p) = (i, l, is-at_left ls ms i l a, p)

pub has-last : (P : Link → Type 0) (ls : List Link) (l : Link) → P l → HasLink (ls ++ l ∷ []) P
has-last P ls l p = (length ls, l, is-at_last ls l, p)

-- what lies over the directions just below a svertex is joined with the side round it
pub around-of_below : (M : Map) (n side : ℕ) (v : MapVertex) (m : Label) (l : Link) → IsAt M.svertices n v → v.around ≡ Some m → side ≡ arounds_before M.svertices n → JoinsBelow M n l → JoinsAround M n (record { first = side; second = l.first })
around-of_below M n side v m l a q e (w, b, (j, f, g)) =
    (w, m, b, ap (λ (u : MapVertex). u.around) (is-at_one M.svertices n w v b a) ∙ q, (record { aside = j.aside; off = j.off; first = j.left; is_first = j.left_first }, e, f))

pub arounds-none : (M : Map) → AreArounds M 0 []
arounds-none M = record { only = λ i l a. cc; each = λ k v m h a q. absurd (omega arith) }

pub arounds-more : (M : Map) (n : ℕ) (ls : List Link) (l : Link) → JoinsAround M n l → AreArounds M n ls → AreArounds M (n + 1) (ls ++ l ∷ [])
arounds-more M n ls l j A = record {
  only = λ i x a. by i x (is-at_pushed ls i x l a);
  each = λ k v m h a q. ⊎_elim (λ g. has-more (JoinsAround M k) ls (l ∷ []) (A.each k v m g a q)) (λ e. has-last (JoinsAround M k) ls l (subst (λ (i : ℕ). JoinsAround M i l) (sym e) j)) (less-or-last k n h);
}
  where
    by : (i : ℕ) (x : Link) → Either ls i x l → (k : ℕ) × JoinsAround M k x
    by i x (earlier a) = A.only i x a
    by i x (last e f) = (n, subst (JoinsAround M n) (sym f) j)

pub arounds-pass : (M : Map) (n : ℕ) (ls : List Link) (v : MapVertex) → IsAt M.svertices n v → v.around ≡ None → AreArounds M n ls → AreArounds M (n + 1) ls
arounds-pass M n ls v b e A = record {
  only = A.only;
  each = λ k w m h a q. ⊎_elim (λ g. A.each k w m g a q) (λ g. absurd (none w m a q g)) (less-or-last k n h);
}
  where
    none : {k : ℕ} (w : MapVertex) (m : Label) → IsAt M.svertices k w → w.around ≡ Some m → k ≡ n → ⊥
    none w m a q g = let r = is-at_one M.svertices n v w b (subst (λ (i : ℕ). IsAt M.svertices i w) g a) in let s = sym e ∙ ap (λ (x : MapVertex). x.around) r ∙ q in absurd cc

only-one : (l : Link) (i : ℕ) (x : Link) → IsAt (l ∷ []) i x → l ≡ x
only-one l zero x b = let e : ◌≡◌ {A = Option Link} (Some l) (Some x) = b in cc
only-one l (suc i) x b = cc

-- ---- links for the sloop
pub sloops-some : (M : Map) (k : ℕ) (l : Link) → JoinsSloop M k l → AreSloops M (l ∷ [])
sloops-some M k l (c, a, j) = record {
  only = λ i x b. (k, subst (JoinsSloop M k) (only-one l i x b) (c, a, j));
  each = λ n d b. (zero, l, refl, subst (λ (i : ℕ). JoinsSloop M i l) (sloops-one M.arcs M.sloop k n c d a b) (c, a, j));
}

sloop-given : (as' : List Arc) (o : Option MapSloop) (k : ℕ) (c : MapSloop) → IsAt (items_then as' o) k (sloop_item c) → o ≡ None → ⊥
sloop-given [] None k c a e = is-at_none a
sloop-given [] (Some l) k c a e = absurd cc
sloop-given (x ∷ as') o zero c a e = absurd cc
sloop-given (x ∷ as') o (suc k) c a e = sloop-given as' o k c a e

pub sloops-none : (M : Map) → M.sloop ≡ None → AreSloops M []
sloops-none M e = record { only = λ i x b. cc; each = λ n d b. absurd (sloop-given M.arcs M.sloop n d b e) }

-- ---- and for the side of a map without items
pub grounds-some : (M : Map) (l : Link) → JoinsGround M l → AreGrounds M (l ∷ [])
grounds-some M l j = record { only = λ i x b. subst (JoinsGround M) (only-one l i x b) j; each = λ m q. (zero, l, refl, j) }

-- ---- all links
has-right : (P : Link → Type 0) (ls ms : List Link) → HasLink ms P → HasLink (ls ++ ms) P
has-right P ls ms (i, l, a, p) = (length ls + i, l, is-at_right ls ms i l a, p)

module _ (M : Map) (below around arcs sloops grounds : List Link) (nv na : ℕ) (hv : nv ≡ length M.svertices) (ha : na ≡ length M.arcs)
    (B : AreEach (JoinsBelow M) nv below) (R : AreArounds M nv around) (A : AreEach (JoinsArc M) na arcs) (L : AreSloops M sloops) (D : AreGrounds M grounds) where
  abbrev all : List Link
  all = below ++ around ++ arcs ++ sloops ++ grounds

  from : (P : Link → Type 0) → HasLink (below ++ around) P → HasLink all P
  from P h = has-more P (below ++ around ++ arcs ++ sloops) grounds (has-more P (below ++ around ++ arcs) sloops (has-more P (below ++ around) arcs h))

  abbrev Linked : ℕ → ℕ → Type 0
  Linked = AreLinked all

  only : (i : ℕ) (l : Link) → IsAt all i l → IsJoin M up l.first l.second
  only i l a = ⊎_elim
      (λ a4. ⊎_elim
      (λ a3. ⊎_elim
      (λ a2. ⊎_elim (λ b. by_below i (B.each i l b)) (λ r. let k = R.only r.0 l r.2 in by_around k.0 k.1) (is-at_parts below around i l a2))
      (λ b. by_arc b.0 (A.each b.0 l b.2)) (is-at_parts (below ++ around) arcs i l a3))
      (λ b. let k = L.only b.0 l b.2 in by_sloop k.0 k.1) (is-at_parts (below ++ around ++ arcs) sloops i l a4))
      (λ b. by_ground (D.only b.0 l b.2)) (is-at_parts (below ++ around ++ arcs ++ sloops) grounds i l a)
    where
      by_below : (k : ℕ) → JoinsBelow M k l → IsJoin M up l.first l.second
      by_below k (v, a, (j, e, f)) = join_below k v a j e f

      by_around : (k : ℕ) → JoinsAround M k l → IsJoin M up l.first l.second
      by_around k (v, m, a, q, (j, e, f)) = join_around k v m a q j e f

      by_arc : (k : ℕ) → JoinsArc M k l → IsJoin M up l.first l.second
      by_arc k (r, a, (j, e, f)) = join_arc k r a j e f

      by_sloop : (k : ℕ) → JoinsSloop M k l → IsJoin M up l.first l.second
      by_sloop k (r, a, (j, e, f)) = join_sloop k r a j e f

      by_ground : JoinsGround M l → IsJoin M up l.first l.second
      by_ground (m, q, e, f) = join_ground m q e f

  pub all-joins : AreJoins M up Linked
  all-joins = record {
    only = λ s t h. linked s t h;
    svertices = λ k v a. by_svertex k v a (each-has (JoinsBelow M) nv below B k (let h = is-at_within M.svertices k v a in omega arith));
    arounds = λ k v m a q. by_around k v m a q (R.each k v m (let h = is-at_within M.svertices k v a in omega arith) a q);
    arcs = λ k r a. by_arc k r a (each-has (JoinsArc M) na arcs A k (let h = is-at_within M.arcs k r a in omega arith));
    sloops = λ k r a. by_sloop k r a (L.each k r a);
    ground = λ m q. by_ground m q (D.each m q);
  }
    where
      linked : (s t : ℕ) → Linked s t → IsJoin M up s t
      linked s t (i, l, a, e, f) = subst (λ (x : ℕ). IsJoin M up x t) e (subst (λ (x : ℕ). IsJoin M up l.first x) f (only i l a))

      by_svertex : (k : ℕ) (v : MapVertex) → IsAt M.svertices k v → HasLink below (JoinsBelow M k) → (j : BelowFirsts M up v.dir) × Linked (met_number M j.left) (met_number M j.right)
      by_svertex k v a h =
          let r = from (JoinsBelow M k) (has-more (JoinsBelow M k) below around h) in
          let p = r.3 in
          subst (λ (w : MapVertex). (j : BelowFirsts M up w.dir) × Linked (met_number M j.left) (met_number M j.right)) (is-at_one M.svertices k p.0 v p.1 a) (let q = p.2 in (q.0, (r.0, r.1, r.2, q.1, q.2)))

      by_around : (k : ℕ) (v : MapVertex) (m : Label) → IsAt M.svertices k v → v.around ≡ Some m → HasLink around (JoinsAround M k) → (j : BelowFirst M up v.dir) × Linked (side_number M (around_svertex k)) (met_number M j.first)
      by_around k v m a q h =
          let r = from (JoinsAround M k) (has-right (JoinsAround M k) below around h) in
          let p = r.3 in
          subst (λ (w : MapVertex). (j : BelowFirst M up w.dir) × Linked (side_number M (around_svertex k)) (met_number M j.first)) (is-at_one M.svertices k p.0 v p.2 a) (let x = p.4 in (x.0, (r.0, r.1, r.2, x.1, x.2)))

      by_arc : (k : ℕ) (r : Arc) → IsAt M.arcs k r → HasLink arcs (JoinsArc M k) → (j : ArcFirst M up r) × Linked (side_number M (pos_item k)) (met_number M j.first)
      by_arc k w a h =
          let r = has-more (JoinsArc M k) (below ++ around ++ arcs ++ sloops) grounds (has-more (JoinsArc M k) (below ++ around ++ arcs) sloops (has-right (JoinsArc M k) (below ++ around) arcs h)) in
          let p = r.3 in
          subst (λ (x : Arc). (j : ArcFirst M up x) × Linked (side_number M (pos_item k)) (met_number M j.first)) (is-at_one M.arcs k p.0 w p.1 a) (let q = p.2 in (q.0, (r.0, r.1, r.2, q.1, q.2)))

      by_sloop : (k : ℕ) (r : MapSloop) → IsAt (items M) k (sloop_item r) → HasLink sloops (JoinsSloop M k) → (j : SloopFirst M up r) × Linked (side_number M (pos_item k)) (met_number M j.first)
      by_sloop k w a h =
          let r = has-more (JoinsSloop M k) (below ++ around ++ arcs ++ sloops) grounds (has-right (JoinsSloop M k) (below ++ around ++ arcs) sloops h) in
          let p = r.3 in
          subst (λ (x : MapSloop). (j : SloopFirst M up x) × Linked (side_number M (pos_item k)) (met_number M j.first)) (one p.0 w (is-at_one (items M) k (sloop_item p.0) (sloop_item w) p.1 a)) (let q = p.2 in (q.0, (r.0, r.1, r.2, q.1, q.2)))
        where
          one : (c d : MapSloop) → sloop_item c ≡ sloop_item d → c ≡ d
          one c d e = cc

      by_ground : (m : Label) → M.ground ≡ Some m → HasLink grounds (JoinsGround M) → Linked (side_number M whole) (length (sides_of M))
      by_ground m q h =
          let r = has-right (JoinsGround M) (below ++ around ++ arcs ++ sloops) grounds h in
          let p = r.3 in
          (r.0, r.1, r.2, p.2, p.3)

-- the last side
pub whole-last : (M : Map) (m : Label) → M.ground ≡ Some m → length (sides_of M) ≡ side_number M whole + 1
whole-last M m q =
    let vs = svertex_sides 0 M.svertices in
    let xs = item_sides 0 (items M) in
    let e = length-append (vs ++ xs) (labelled whole M.ground) in
    let f = length-append vs xs in
    let g = length-item_sides 0 (items M) in
    let h = ap (λ (o : Option Label). length (labelled whole o)) q in
    omega arith
