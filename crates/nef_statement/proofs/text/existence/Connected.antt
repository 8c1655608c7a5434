-- Whether two points of a set are joined is decided, and their components are finitely many: points on the same sides of all carriers are joined, and so are points of which one lies on the sides of the other, or on the carriers
-- between, where both have as many flat directions. Along an even segment nothing else happens.
use Rattle.nef_statement.proofs.text.existence.Prelude.{◌≡◌, ℕ, zero, suc, ◌<◌, false, refl, sym, ap, ◌∙◌, ◌⊎◌, inl, inr, ⊎_elim, ◌↔◌, List, ◌∷◌, length, subst, [], Sign, minus, nought, plus, Lies, IsChain, Chained, SpacePoint, Form, Within, IsBetween, Set, FlatDim, IsEven, IsEvenPath, Joined, sign_at, carriers, SameSigns, of_point, IsOnSegment, FlatDim-one, mixed-of, reach-some, keeps-all, is_nought, Decided, decided-both, decided-to, decided-not, every, joined-turned, joined-both, joined-itself, flat_dim-of, reach_all, dim-cell, joined-cell, joined-even, IsAt, is-at_one, lies-at, at-or, even-by, chain-here, chain-link, chain-trans, chain-turned, HasComponents, is-at_within, JoinedIsDecided, ComponentsAreCounted, eq-decided, is-at_none, is-at_first}
use Rattle.law_geometry.proofs.near.Cells.{KeepsPointSigns}
use Rattle.law_geometry.proofs.near.Crossings.{opposite_signs, joint, sign-mixed}
use Rattle.law_geometry.proofs.near.FlatDecided.{flat_dim-decided}
use Rattle.law_geometry.proofs.near.Points.{settled-segment_points}
use Rattle.law_geometry.proofs.near.Representatives.{representative_points, representative_point}
use Rattle.nef_statement.proofs.text.existence.Classes.{decided-classes}
use Rattle.law_geometry.proofs.complex.links.Ties.{joint-itself}

-- ---- signs
sign-decided : (a b : Sign) → Decided (a ≡ b)
sign-decided minus minus = inl refl
sign-decided minus nought = inr (λ e. cc)
sign-decided minus plus = inr (λ e. cc)
sign-decided nought minus = inr (λ e. cc)
sign-decided nought nought = inl refl
sign-decided nought plus = inr (λ e. cc)
sign-decided plus minus = inr (λ e. cc)
sign-decided plus nought = inr (λ e. cc)
sign-decided plus plus = inl refl

keeps-decided : (hs : List Form) (p q : SpacePoint) → Decided (KeepsPointSigns hs p q)
keeps-decided hs p q = ⊎_elim (λ f. inr (λ k. f.2 (k f.0 f.1))) (λ f. inl f)
    (every hs (λ h. (sign_at h p ≡ nought → ⊥) → sign_at h q ≡ sign_at h p) (λ h. decided-to (decided-not (is_nought (sign_at h p))) (sign-decided (sign_at h q) (sign_at h p))))

module _ (s : Set) where
  abbrev hs : List Form
  hs = carriers s

  abbrev points : List SpacePoint
  points = representative_points (carriers s)

  -- ---- links
  -- both have k flat directions, and q lies on the sides of all carriers that p is off
  abbrev Adjacent : ℕ → SpacePoint → SpacePoint → Type 0
  Adjacent k p q = FlatDim s p k × FlatDim s q k × KeepsPointSigns (carriers s) p q

  -- a point between has the signs of q
  between-signs : (p q r : SpacePoint) → KeepsPointSigns (carriers s) p q → IsBetween p r q → SameSigns (carriers s) q r
  between-signs p q r keep b h l = ⊎_elim
      (λ z.
      let o = subst (λ (t : Sign). (opposite_signs t (sign_at h q) ≡ false) × (joint t (sign_at h q) ≡ sign_at h q)) (sym z) (refl, refl) in
      sym (sign-mixed h (of_point p) (of_point r) (of_point q) (mixed-of p r q b) o.0 ∙ o.1))
      (λ n.
      let e = keep h l n in
      let o = subst (λ (t : Sign). (opposite_signs (sign_at h p) t ≡ false) × (joint (sign_at h p) t ≡ t)) (sym e) (joint-itself (sign_at h p)) in
      sym (sign-mixed h (of_point p) (of_point r) (of_point q) (mixed-of p r q b) o.0 ∙ o.1))
      (is_nought (sign_at h p))

  adjacent-joined : (k : ℕ) (p q : SpacePoint) → Adjacent k p q → Joined s p q
  adjacent-joined k p q (f, g, keep) = joined-even s k p q (even-by s k p q f (λ r b. dim-cell s q r k (between-signs p q r keep b) g) g)

  adjacent-decided : (k : ℕ) (p q : SpacePoint) → Decided (Adjacent k p q)
  adjacent-decided k p q = ⊎_elim (λ x. inl (x.0, x.1.0, x.1.1)) (λ f. inr (λ x. f (x.0, (x.1, x.2)))) (decided-both (flat_dim-decided s p k) (decided-both (flat_dim-decided s q k) (keeps-decided (carriers s) p q)))

  -- ---- numbers of cells
  -- the number of a point's cell, and the point of the list that lies in it
  record Cell (p : SpacePoint) : Type 0 where
    place : SpacePoint
    number : ℕ
    listed : IsAt (representative_points (carriers s)) number place
    same : SameSigns (carriers s) p place

  cell : (p : SpacePoint) → Cell p
  cell p = let r = representative_point (carriers s) p in let k = lies-at (representative_points (carriers s)) r.place r.listed in record { place = r.place; number = k.0; listed = k.1; same = r.same }

  abbrev Link : ℕ → ℕ → ℕ → Type 0
  Link k i j = (p : SpacePoint) × (q : SpacePoint) × IsAt (representative_points (carriers s)) i p × IsAt (representative_points (carriers s)) j q × Adjacent k p q

  link-decided : (k i j : ℕ) → Decided (Link k i j)
  link-decided k i j = by (at-or (representative_points (carriers s)) i) (at-or (representative_points (carriers s)) j)
    where
      by : ((p : SpacePoint) × IsAt (representative_points (carriers s)) i p) ⊎ ((p : SpacePoint) → IsAt (representative_points (carriers s)) i p → ⊥)
          → ((q : SpacePoint) × IsAt (representative_points (carriers s)) j q) ⊎ ((q : SpacePoint) → IsAt (representative_points (carriers s)) j q → ⊥) → Decided (Link k i j)
      by (inl (p, a)) (inl (q, b)) = ⊎_elim (λ x. inl (p, q, a, b, x)) (λ f. inr (λ x. f (subst (λ y. Adjacent k y q) (is-at_one (representative_points (carriers s)) i x.0 p x.2 a) (subst (λ y. Adjacent k x.0 y) (is-at_one (representative_points (carriers s)) j x.1 q x.3 b) x.4)))) (adjacent-decided k p q)
      by (inr f) b = inr (λ x. f x.0 x.2)
      by (inl a) (inr f) = inr (λ x. f x.1 x.3)

  link-within : (k i j : ℕ) → Link k i j → (i < length (representative_points (carriers s))) × (j < length (representative_points (carriers s)))
  link-within k i j x = (is-at_within (representative_points (carriers s)) i x.0 x.2, is-at_within (representative_points (carriers s)) j x.1 x.3)

  chain-joined : (k i j : ℕ) (p q : SpacePoint) → IsAt (representative_points (carriers s)) i p → IsAt (representative_points (carriers s)) j q → Chained (Link k) i j → Joined s p q
  chain-joined k i j p q a b (ns, c) = go i p a ns c
    where
      step : (i j : ℕ) (p q : SpacePoint) → IsAt (representative_points (carriers s)) i p → IsAt (representative_points (carriers s)) j q → Link k i j → Joined s p q
      step i j p q a b x = subst (λ y. Joined s y q) (is-at_one (representative_points (carriers s)) i x.0 p x.2 a) (subst (λ y. Joined s x.0 y) (is-at_one (representative_points (carriers s)) j x.1 q x.3 b) (adjacent-joined k x.0 x.1 x.4))

      go : (i : ℕ) (p : SpacePoint) → IsAt (representative_points (carriers s)) i p → (ns : List ℕ) → IsChain (Link k) i ns j → Joined s p q
      go i p a [] e = subst (λ y. Joined s p y) (is-at_one (representative_points (carriers s)) j p q (subst (λ n. IsAt (representative_points (carriers s)) n p) e a) b) (joined-itself s p)
      go i p a (n ∷ ns) (inl x, c) = joined-both s p x.1 q (step i n p x.1 a x.3 x) (go n x.1 x.3 ns c)
      go i p a (n ∷ ns) (inr x, c) = joined-both s p x.0 q (joined-turned s x.0 p (step n i x.0 p x.2 a x)) (go n x.0 x.2 ns c)

  -- ---- even segments
  cell-link : (k : ℕ) (p q : SpacePoint) → FlatDim s p k → FlatDim s q k → KeepsPointSigns (carriers s) p q → Link k (cell p).number (cell q).number
  cell-link k p q f g keep =
      let a = cell p in let b = cell q in
      (a.place, b.place, a.listed, b.listed, (dim-cell s p a.place k a.same f, dim-cell s q b.place k b.same g, λ h l n. sym (b.same h l) ∙ keep h l (λ z. n (sym (a.same h l) ∙ z)) ∙ a.same h l))

  even-chained : (k : ℕ) (p q : SpacePoint) → IsEven s k p q → Chained (Link k) (cell p).number (cell q).number
  even-chained k p q even = settled-segment_points (carriers s) (λ r. Chained (Link k) (cell p).number (cell r).number) p q cells settled (chain-here (Link k) (cell p).number)
    where
      cells : (r t : SpacePoint) → IsOnSegment p r q → IsOnSegment p t q → ((h : Form) → Lies (carriers s) h → sign_at h r ≡ sign_at h t) → Chained (Link k) (cell p).number (cell r).number → Chained (Link k) (cell p).number (cell t).number
      cells r t a b same c = chain-trans (Link k) (cell p).number (cell r).number (cell t).number c (chain-link (Link k) (cell r).number (cell t).number (cell-link k r t (even r a) (even t b) (λ h l n. sym (same h l))))

      settled : (r : SpacePoint) → IsOnSegment p r q → (n : ℕ) × (0 < n) × ((t : SpacePoint) → IsOnSegment p t q → Within n r t → Chained (Link k) (cell p).number (cell r).number ↔ Chained (Link k) (cell p).number (cell t).number)
      settled r a = (
        reach_all (carriers s) r,
        reach-some (carriers s) r,
        λ t b w.
            let x = chain-link (Link k) (cell r).number (cell t).number (cell-link k r t (even r a) (even t b) (keeps-all (carriers s) r t w)) in (
              λ c. chain-trans (Link k) (cell p).number (cell r).number (cell t).number c x,
              λ c. chain-trans (Link k) (cell p).number (cell t).number (cell r).number c (chain-turned (Link k) (cell r).number (cell t).number x),
            ),
      )

  path-chained : (k : ℕ) (p q : SpacePoint) (rs : List SpacePoint) → IsEvenPath s k p rs q → Chained (Link k) (cell p).number (cell q).number
  path-chained k p q [] e = even-chained k p q e
  path-chained k p q (r ∷ rs) (e, t) = chain-trans (Link k) (cell p).number (cell r).number (cell q).number (even-chained k p r e) (path-chained k r q rs t)

  -- ---- joined points
  cells-joined : (k : ℕ) (p q : SpacePoint) → FlatDim s p k → Joined s p q ↔ Chained (Link k) (cell p).number (cell q).number
  cells-joined k p q f = (
    λ (j, rs, g, path). subst (λ n. Chained (Link n) (cell p).number (cell q).number) (FlatDim-one s p j k g f) (path-chained j p q rs path),
    λ c.
        let a = cell p in let b = cell q in
        joined-both s p a.place q (joined-cell s p a.place a.same) (joined-both s a.place b.place q (chain-joined k a.number b.number a.place b.place a.listed b.listed c) (joined-turned s q b.place (joined-cell s q b.place b.same))),
  )

  -- one number for each class of points with k flat directions
  class-of : (k : ℕ) → (f : ℕ → ℕ) × ((i j : ℕ) → (f i ≡ f j) ↔ Chained (Link k) i j)
  class-of k = decided-classes (length (representative_points (carriers s))) (Link k) (link-decided k) (link-within k)

  -- the number of the class of a point with k flat directions
  pub class-number : ℕ → SpacePoint → ℕ
  class-number k p = (class-of k).0 (cell p).number

  pub class-same : (k : ℕ) (p q : SpacePoint) → FlatDim s p k → (class-number k p ≡ class-number k q) ↔ Joined s p q
  unfolding class-number
  class-same k p q f = let e = (class-of k).1 (cell p).number (cell q).number in let j = cells-joined k p q f in (λ g. j.1 (e.0 g), λ x. e.1 (j.0 x))

  pub joined-decided : (p q : SpacePoint) → Decided (Joined s p q)
  joined-decided p q =
      let k = flat_dim-of s p in
      let f = class-of k.0 in
      let e = f.1 (cell p).number (cell q).number in
      let j = cells-joined k.0 p q k.1 in
      ⊎_elim (λ g. inl (j.1 (e.0 g))) (λ n. inr (λ x. n (e.1 (j.0 x)))) (eq-decided (f.0 (cell p).number) (f.0 (cell q).number))

  -- ---- components
  -- a point for each class among the points of a list
  record Chosen (k : ℕ) (ps : List SpacePoint) : Type 0 where
    list : List SpacePoint
    flat : (i : ℕ) (p : SpacePoint) → IsAt list i p → FlatDim s p k
    apart : (i j : ℕ) (p q : SpacePoint) → IsAt list i p → IsAt list j q → Joined s p q → i ≡ j
    all : (p : SpacePoint) → Lies ps p → FlatDim s p k → (i : ℕ) × (q : SpacePoint) × IsAt list i q × Joined s p q

  search : (p : SpacePoint) (qs : List SpacePoint) → ((i : ℕ) × (q : SpacePoint) × IsAt qs i q × Joined s p q) ⊎ ((i : ℕ) (q : SpacePoint) → IsAt qs i q → Joined s p q → ⊥)
  search p [] = inr (λ i q a j. is-at_none a)
  search p (r ∷ qs) = by (joined-decided p r) (search p qs)
    where
      by : Decided (Joined s p r) → ((i : ℕ) × (q : SpacePoint) × IsAt qs i q × Joined s p q) ⊎ ((i : ℕ) (q : SpacePoint) → IsAt qs i q → Joined s p q → ⊥)
          → ((i : ℕ) × (q : SpacePoint) × IsAt (r ∷ qs) i q × Joined s p q) ⊎ ((i : ℕ) (q : SpacePoint) → IsAt (r ∷ qs) i q → Joined s p q → ⊥)
      by (inl j) o = inl (zero, r, refl, j)
      by (inr f) (inl (i, q, a, j)) = inl (suc i, q, a, j)
      by (inr f) (inr g) = inr none
        where
          none : (i : ℕ) (q : SpacePoint) → IsAt (r ∷ qs) i q → Joined s p q → ⊥
          none zero q e j = f (subst (λ y. Joined s p y) (sym (is-at_first e)) j)
          none (suc i) q a j = g i q a j

  choose : (k : ℕ) (ps : List SpacePoint) → Chosen k ps
  choose k [] = record { list = []; flat = λ i p a. absurd (is-at_none a); apart = λ i j p q a b x. absurd (is-at_none a); all = λ p l f. absurd l }
  choose k (p ∷ ps) = by (flat_dim-decided s p k) (choose k ps)
    where
      by : Decided (FlatDim s p k) → Chosen k ps → Chosen k (p ∷ ps)
      by (inr f) C = record { list = C.list; flat = C.flat; apart = C.apart; all = λ q l g. ⊎_elim (λ e. absurd (f (subst (λ y. FlatDim s y k) (sym e) g))) (λ m. C.all q m g) l }
      by (inl f) C = then (search p C.list)
        where
          then : ((i : ℕ) × (q : SpacePoint) × IsAt C.list i q × Joined s p q) ⊎ ((i : ℕ) (q : SpacePoint) → IsAt C.list i q → Joined s p q → ⊥) → Chosen k (p ∷ ps)
          then (inl x) = record { list = C.list; flat = C.flat; apart = C.apart; all = λ q l g. ⊎_elim (λ e. subst (λ y. (i : ℕ) × (r : SpacePoint) × IsAt C.list i r × Joined s y r) e x) (λ m. C.all q m g) l }
          then (inr none) = record { list = p ∷ C.list; flat = flat; apart = apart; all = λ q l g. ⊎_elim (λ e. (zero, p, refl, subst (λ y. Joined s y p) e (joined-itself s p))) (λ m. let x = C.all q m g in (suc x.0, x.1, x.2, x.3)) l }
            where
              flat : (i : ℕ) (q : SpacePoint) → IsAt (p ∷ C.list) i q → FlatDim s q k
              flat zero q e = subst (λ y. FlatDim s y k) (is-at_first e) f
              flat (suc i) q a = C.flat i q a

              apart : (i j : ℕ) (q r : SpacePoint) → IsAt (p ∷ C.list) i q → IsAt (p ∷ C.list) j r → Joined s q r → i ≡ j
              apart zero zero q r a b x = refl
              apart zero (suc j) q r e b x = absurd (none j r b (subst (λ y. Joined s y r) (sym (is-at_first e)) x))
              apart (suc i) zero q r a e x = absurd (none i q a (subst (λ y. Joined s y q) (sym (is-at_first e)) (joined-turned s q r x)))
              apart (suc i) (suc j) q r a b x = ap suc (C.apart i j q r a b x)

  pub components : (k : ℕ) → (n : ℕ) × HasComponents s k n
  components k =
      let C = choose k (representative_points (carriers s)) in (
        length C.list,
        (
          C.list,
          refl,
          record {
            flat = C.flat;
            apart = C.apart;
            all = λ q f.
                let r = representative_point (carriers s) q in
                let x = C.all r.place r.listed (dim-cell s q r.place k r.same f) in
                (x.0, x.1, x.2, joined-both s q r.place x.1 (joined-cell s q r.place r.same) x.3);
          },
        ),
      )

pub joined-is_decided : JoinedIsDecided
joined-is_decided s p q = joined-decided s p q

pub components-are_counted : ComponentsAreCounted
components-are_counted s k = components s k
