-- The half circles that are collected arc by arc, and what is left of them when they are sorted.
use Rattle.nef_locate.proofs.Prelude.{◌≡◌, ℕ, zero, suc, ◌+◌, ◌*◌, ◌<◌, List, [], ◌∷◌, ◌++◌, length, map, arith, is-at_none, refl, ap, sym, ◌∙◌, ◌⊎◌, inl, inr, ⊎_elim, subst, eq-or-lt_of_le, IsPermutation, Vector, opposite, vector_of, Dir, IsAt, MapVertex, Arc, Valid, InOrder, ArcBelow, ArcRay, ray_left, is-at_one, SArc, SphereMap, arc_of, map_of, map-is_at, is-at_map, is-at_within, IsTwin, AreApart, IsArcBelow, is-at_left, is-at_last, is-at_more, IsHalf, IsHalfEndAt, IsHalfBefore, AreHalves}
use Rattle.nef_spair.proofs.Apart.{was-listed, still-listed}
use Rattle.nef_locate.proofs.EdgeLabels.{one-arc}
use Rattle.nef_locate.proofs.EdgeMaps.{HalfEnds, IsHalfOf, AreHalfArcs}

pub halves-none : (as' : List SArc) (k : ℕ) (hs : List SArc) → hs ≡ [] → AreHalves as' k 0 hs
halves-none as' k hs e = record {
  each = λ i h a. absurd (is-at_none (subst (λ (l : List SArc). IsAt l i h) e a));
  all = λ j s a b. absurd (omega (arith, b.1));
  apart = λ i j x y a. absurd (is-at_none (subst (λ (l : List SArc). IsAt l i x) e a));
}

-- ---- an end of an arc as a ray of the svertex
abbrev left_by : ℕ → SArc → Vector
left_by zero a = opposite (vector_of a.normal)
left_by (suc s) a = vector_of a.normal

left-same : (s : ℕ) (a b : SArc) → vector_of a.normal ≡ vector_of b.normal → left_by s a ≡ left_by s b
left-same zero a b e = ap opposite e
left-same (suc s) a b e = e

module _ (m : SphereMap) (W : Valid (map_of m)) (k : ℕ) (u : MapVertex) (here : IsAt (map_of m).svertices k u) where
  record RayAt (j s : ℕ) (a : SArc) : Type 0 where
    ray : ArcRay (map_of m) k
    number : ray.number ≡ j
    left : ray_left ray ≡ left_by s a

  ray-at : (j s : ℕ) (a : SArc) → IsAt m.arcs j a → IsHalfEndAt k a s → RayAt j s a
  ray-at j zero a h e = record { ray = record { number = j; arc = arc_of a; listed = map-is_at arc_of m.arcs j a h; end = inr e }; number = refl; left = refl }
  ray-at j (suc s) a h e = record { ray = record { number = j; arc = arc_of a; listed = map-is_at arc_of m.arcs j a h; end = inl e }; number = refl; left = refl }

  one-number : (j i s : ℕ) (a b : SArc) → IsAt m.arcs j a → IsAt m.arcs i b → IsHalfEndAt k a s → IsHalfEndAt k b s → vector_of a.normal ≡ vector_of b.normal → j ≡ i
  one-number j i s a b g h d e same =
      let q = ray-at j s a g d in
      let r = ray-at i s b h e in
      sym q.number ∙ one-arc (map_of m) W k u here q.ray r.ray (q.left ∙ left-same s a b same ∙ sym r.left) ∙ r.number

  module _ (n i s : ℕ) (hs : List SArc) (a : SArc) (H : AreHalves m.arcs k n hs) (listed : IsAt m.arcs i a) (number : n ≡ 2 * i + s) (two : s < 2) where
    -- half circle s of arc i is the only one that comes next
    last : (j t : ℕ) → IsHalfBefore j t (n + 1) → IsHalfBefore j t n ⊎ ((j ≡ i) × (t ≡ s))
    last j t b = ⊎_elim (λ z. inr (let y = b.0 in (omega (arith, z, number), omega (arith, z, number)))) (λ z. inl (b.0, z)) (eq-or-lt_of_le {n = 2 * j + t} {m = n} (let q = b.1 in omega arith))

    more : (j t : ℕ) → IsHalfBefore j t n → IsHalfBefore j t (n + 1)
    more j t b = (b.0, let q = b.1 in omega arith)

    same-arc : (j : ℕ) (b : SArc) → j ≡ i → IsAt m.arcs j b → b ≡ a
    same-arc j b e h = is-at_one m.arcs i b a (subst (λ x. IsAt m.arcs x b) e h) listed

    pub halves-past : (IsHalfEndAt k a s → ⊥) → AreHalves m.arcs k (n + 1) hs
    halves-past none = record {
      each = λ x h l. let r = H.each x h l in (r.0, r.1, r.2, more r.0 r.1 r.3, r.4, r.5, r.6);
      all = λ j t b before h e. ⊎_elim (λ o. H.all j t b o h e) (λ o. absurd (none (subst (IsHalfEndAt k a) o.1 (subst (λ (y : SArc). IsHalfEndAt k y t) (same-arc j b o.0 h) e)))) (last j t before);
      apart = H.apart;
    }

    module _ (c : SArc) (end : IsHalfEndAt k a s) (half : IsHalf a s c) where
      twin : (x : ℕ) (h : SArc) → IsAt hs x h → IsTwin h c → ⊥
      twin x h l (e, f) =
          let (j, t, b, before, g, d, I) = H.each x h l in
          let same : t ≡ s = sym I.source_is ∙ f ∙ half.source_is in
          let one : j ≡ i = one-number j i s b a g listed (subst (IsHalfEndAt k b) same d) end (ap vector_of (sym {A = Dir} I.normal ∙ e ∙ half.normal)) in
          let q = before.1 in omega (arith, q, one, same, number)

      old-or-new : (x : ℕ) (h : SArc) → IsAt (hs ++ c ∷ []) x h → IsAt hs x h ⊎ ((x ≡ length hs) × (c ≡ h))
      old-or-new x h l = is-at_more hs c x h l

      apart : AreApart (hs ++ c ∷ [])
      apart x y g h l o z =
          elim (old-or-new x g l) [
            | inl p ↦ elim (old-or-new y h o) [ inl q ↦ H.apart x y g h p q z | inr q ↦ absurd (twin x g p (subst (IsTwin g) (sym q.1) z)) ]
            | inr p ↦ elim (old-or-new y h o) [
              | inl q ↦ absurd (twin y h q (let w = subst (λ (d : SArc). IsTwin d h) (sym p.1) z in (sym w.0, sym w.1)))
              | inr q ↦ p.0 ∙ sym q.0
            ]
          ]

      pub halves-more : AreHalves m.arcs k (n + 1) (hs ++ c ∷ [])
      halves-more = record {
        each = λ x h l.
            elim (old-or-new x h l) [
              | inl p ↦ let r = H.each x h p in (r.0, r.1, r.2, more r.0 r.1 r.3, r.4, r.5, r.6)
              | inr p ↦ (i, s, a, (two, omega (arith, number)), listed, end, subst (IsHalf a s) p.1 half)
            ];
        all = λ j t b before h e.
            elim (last j t before) [
              | inl o ↦ let r = H.all j t b o h e in (r.0, r.1, is-at_left hs (c ∷ []) r.0 r.1 r.2, r.3)
              | inr o ↦ (length hs, c, is-at_last hs c, subst (λ t. IsHalf b t c) (sym o.1) (subst (λ (y : SArc). IsHalf y s c) (sym (same-arc j b o.0 h)) half))
            ];
        apart = apart;
      }

  -- ---- sorted half circles
  module _ (n : ℕ) (hs ys : List SArc) (H : AreHalves m.arcs k n hs) (all : n ≡ 2 * length m.arcs) (moved : IsPermutation hs ys) (ordered : InOrder IsArcBelow ys) where
    half-of : (j s : ℕ) (a h : SArc) → IsHalfBefore j s n → IsAt m.arcs j a → IsHalfEndAt k a s → IsHalf a s h → (q : ArcRay (map_of m) k) × IsHalfOf q (arc_of h)
    half-of j zero a h b l e I = (
      record { number = j; arc = arc_of a; listed = map-is_at arc_of m.arcs j a l; end = inr e },
      record { normal = ap vector_of I.normal; pos = I.pos; mark = I.mark; neg = I.neg; ends = (I.source_is, let t = I.target in omega arith) },
    )
    half-of j (suc zero) a h b l e I = (
      record { number = j; arc = arc_of a; listed = map-is_at arc_of m.arcs j a l; end = inl e },
      record { normal = ap vector_of I.normal; pos = I.pos; mark = I.mark; neg = I.neg; ends = (I.source_is, let t = I.target in omega arith) },
    )
    half-of j (suc (suc s)) a h b l e I = absurd (let q = b.0 in omega arith)

    half-by : {j : ℕ} (arc : Arc) {l : IsAt (map_of m).arcs j arc} {e : (arc.source ≡ k) ⊎ (arc.target ≡ k)} (b h : SArc) (s : ℕ) → arc_of b ≡ arc → IsHalf b s h → HalfEnds e (arc_of h)
        → IsHalfOf {V = map_of m} {k = k} (record { number = j; arc = arc; listed = l; end = e }) (arc_of h)
    half-by arc b h s f I ends = record {
      normal = ap vector_of I.normal ∙ ap (λ (x : Arc). x.normal) f;
      pos = I.pos ∙ ap (λ (x : Arc). x.pos) f;
      mark = I.mark ∙ ap (λ (x : Arc). x.mark) f;
      neg = I.neg ∙ ap (λ (x : Arc). x.neg) f;
      ends = ends;
    }

    abbrev gs : List Arc
    gs = map arc_of ys

    each : (i : ℕ) (h : Arc) → IsAt gs i h → (q : ArcRay (map_of m) k) × IsHalfOf q h
    each i h l =
        let y = is-at_map arc_of ys i h l in
        let x = was-listed hs ys moved i y.0 y.1 in
        let r = H.each x.0 y.0 x.1 in
        subst (λ (z : Arc). (q : ArcRay (map_of m) k) × IsHalfOf q z) y.2 (half-of r.0 r.1 r.2 y.0 r.3 r.4 r.5 r.6)

    of-end : (j : ℕ) (b : SArc) (arc : Arc) (l : IsAt (map_of m).arcs j arc) → IsAt m.arcs j b → arc_of b ≡ arc → (e : (arc.source ≡ k) ⊎ (arc.target ≡ k))
        → (i : ℕ) × (h : Arc) × IsAt gs i h × IsHalfOf {V = map_of m} {k = k} (record { number = j; arc = arc; listed = l; end = e }) h
    of-end j b arc l g f (inl e) =
        let w = is-at_within m.arcs j b g in
        let r = H.all j 1 b (omega arith, omega (arith, w, all)) g (ap (λ (x : Arc). x.source) f ∙ e) in
        let y = still-listed hs ys moved r.0 r.1 r.2 in
        (y.0, arc_of r.1, map-is_at arc_of ys y.0 r.1 y.1, half-by arc b r.1 1 f r.3 (let I = r.3 in (I.source_is, let t = I.target in omega arith)))
    of-end j b arc l g f (inr e) =
        let w = is-at_within m.arcs j b g in
        let r = H.all j 0 b (omega arith, omega (arith, w, all)) g (ap (λ (x : Arc). x.target) f ∙ e) in
        let y = still-listed hs ys moved r.0 r.1 r.2 in
        (y.0, arc_of r.1, map-is_at arc_of ys y.0 r.1 y.1, half-by arc b r.1 0 f r.3 (let I = r.3 in (I.source_is, let t = I.target in omega arith)))

    pub half-arcs : AreHalfArcs (map_of m) k gs
    half-arcs = record {
      each = each;
      all = λ q. let b = is-at_map arc_of m.arcs q.number q.arc q.listed in of-end q.number b.0 q.arc q.listed b.1 b.2 q.end;
      ordered = λ i j x y l a b.
          let g = is-at_map arc_of ys i x a in let h = is-at_map arc_of ys j y b in
          subst (ArcBelow x) h.2 (subst (λ (z : Arc). ArcBelow z (arc_of h.0)) g.2 (ordered i j g.0 h.0 l g.1 h.1));
    }
