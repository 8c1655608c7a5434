-- Facets lie in a carrier and edges in two: the flat directions are decided by the carriers that hold them.
use Rattle.law_geometry.proofs.near.Prelude.{◌≡◌, ℕ, ◌<◌, ℤ, pos, ◌+ℤ◌, ◌*ℤ◌, ◌<ℤ◌, arith, refl, ap, sym, ◌∙◌, ◌⊎◌, inl, inr, ⊎_elim, ◌↔◌, List, ◌∷◌, [], ints, sign_times, Lies, ring, at, num, ◌⊕◌, ◌⊖◌, ◌⊗◌, given, none, follows, nought-is, sign-plus, sign_of_product, nought-or, SpacePoint, Form, slope, normal_of, Vector, vector, blend, dot, cross, triple, IsZero, IsDirection, IsParallel, Set, Flat, FlatDim, sign_at, carriers, slide, IsHeldBy, EdgeSupport, FacetSupport, zero-decided, self-pos, triple-dot, cross-turned, parallel-both, cross-self, dot-comm, square-cross, in-span, level-both, level_cross_second, nought-if}
use Rattle.nef_space.specs.Signs.{nought, sign}
use Rattle.law_geometry.proofs.near.Cells.{is_nought}
use Rattle.law_geometry.proofs.near.Flats.{Flat-from_cone, FlatCone-from_flat, slope-slide}
use Rattle.law_geometry.proofs.near.Decided.{Decided, every, decided-both, decided-not}
use Rattle.law_geometry.proofs.near.NearGerms.{steep, steep-one, sign-large}
use Rattle.law_geometry.proofs.near.FlatOperations.{flat-combination}
use Rattle.law_geometry.proofs.near.FlatDecided.{near-of_flat, near-by_signs}
use Rattle.law_geometry.proofs.near.Even.{span-1, span-2}
use Rattle.law_geometry.proofs.near.Meets.{slope-none}

-- ---- what lies in all carriers that hold a flat direction is flat
pub flat-held : (s : Set) (p : SpacePoint) (d e : Vector) → Flat s p d → IsHeldBy s p d e → Flat s p e
flat-held s p d e f held = Flat-from_cone s p e (λ v b a some l.
    let g = near-of_flat s p d (FlatCone-from_flat s p d f) in
    let there = g v l in
    let back = g (slide b v a e) l in (
      λ h. back.1 (near-by_signs s p d d v (slide b v a e) l (λ k i o. refl) (λ k i o z. sym (same v b a some k i o z)) (there.0 h)),
      λ h. there.1 (near-by_signs s p d d (slide b v a e) v l (λ k i o. refl) (λ k i o z. same v b a some k i o z) (back.0 h)),
    ))
  where
    same : (v : Vector) (b : ℕ) (a : ℤ) → 0 < b → (h : Form) → Lies (carriers s) h → sign_at h p ≡ nought → sign (slope h d) ≡ nought → sign (slope h (slide b v a e)) ≡ sign (slope h v)
    same v b a some h i o z =
        let k = slope-slide h b v a e ∙ ap (λ r. pos b *ℤ slope h v +ℤ a *ℤ r) (held h i o (nought-is (slope h d) z)) ∙ ring (pos b ∷ slope h v ∷ a ∷ []) (at 0 ⊗ at 1 ⊕ at 2 ⊗ num (pos 0)) (at 0 ⊗ at 1) tt in
        ap sign k ∙ sign_of_product (pos b) (slope h v) ∙ ap (λ r. sign_times r (sign (slope h v))) (sign-plus (pos b) (omega (arith, ints)))

-- ---- the flat directions where there is one, and where there are two
pub flat-line : (s : Set) (p : SpacePoint) → FlatDim s p 1 → (d : Vector) × IsDirection d × ((v : Vector) → Flat s p v ↔ IsParallel d v)
flat-line s p ((d, i, f), n) = (
  d,
  i,
  λ v. (
    λ g. ⊎_elim (λ z. z) (λ m. absurd (n (d, v, m, f, g))) (zero-decided (cross d v)),
    λ z. span-1 s p d v i f z,
  ),
)

pub flat-plane : (s : Set) (p : SpacePoint) → FlatDim s p 2 → (n : Vector) × IsDirection n × ((v : Vector) → Flat s p v ↔ (dot n v ≡ pos 0))
flat-plane s p ((d, e, i, f, g), n) = (
  cross d e,
  i,
  λ v. (
    λ h. ⊎_elim (λ z. sym (triple-dot d e v) ∙ z) (λ m. absurd (n (d, e, v, m, f, g, h))) (nought-or (triple d e v)),
    λ z. span-2 s p d e v i f g (triple-dot d e v ∙ z),
  ),
)

-- ---- planes and lines
-- a vector at right angles to d and e is parallel to d x e
in-cross : (c d e : Vector) → dot c d ≡ pos 0 → dot c e ≡ pos 0 → IsParallel (cross d e) c
in-cross c d e i j = cross-turned c (cross d e) (level-both c d e i j)

-- what is at right angles to b is at right angles to what is parallel to b
square-to_parallel : (a b v : Vector) → IsDirection b → IsParallel a b → dot b v ≡ pos 0 → dot a v ≡ pos 0
square-to_parallel a b v some z e = dot-comm a v ∙ in-span v b a some (cross-turned a b z) (dot-comm v b ∙ e)

-- d and n x d are parallel only where n is nought
twice-cross : (n d : Vector) → IsDirection d → dot n d ≡ pos 0 → IsZero (cross d (cross n d)) → IsZero n
twice-cross n d some e z = nought-if d n some (cross-turned n d (nought-if d (cross n d) some z (level_cross_second n d))) (dot-comm d n ∙ e)

-- ---- searching the carriers
-- a form of the list that passes through p, is zero along d and satisfies Q
record Held (hs : List Form) (p : SpacePoint) (d : Vector) (Q : Form → Type 0) : Type 0 where
  pub plane : Form
  pub listed : Lies hs plane
  pub passes : sign_at plane p ≡ nought
  pub holds : slope plane d ≡ pos 0
  pub more : Q plane

find-held : (hs : List Form) (p : SpacePoint) (d : Vector) (Q : Form → Type 0) → ((h : Form) → Decided (Q h))
    → Held hs p d Q ⊎ ((h : Form) → Lies hs h → sign_at h p ≡ nought → slope h d ≡ pos 0 → Q h → ⊥)
find-held hs p d Q D = ⊎_elim (λ c. inl (found c.0 c.1 c.2 (is_nought (sign_at c.0 p)) (nought-or (slope c.0 d)) (D c.0))) (λ clear. inr (λ h l o z q. clear h l (o, (z, q))))
    (every hs (λ h. (sign_at h p ≡ nought) × ((slope h d ≡ pos 0) × Q h) → ⊥) (λ h. decided-not (decided-both (is_nought (sign_at h p)) (decided-both (nought-or (slope h d)) (D h)))))
  where
    found : (h : Form) → Lies hs h → (((sign_at h p ≡ nought) × ((slope h d ≡ pos 0) × Q h) → ⊥) → ⊥) → Decided (sign_at h p ≡ nought) → Decided (slope h d ≡ pos 0) → Decided (Q h) → Held hs p d Q
    found h l n (inl o) (inl z) (inl q) = record { plane = h; listed = l; passes = o; holds = z; more = q }
    found h l n (inr m) z q = absurd (n (λ c. m c.0))
    found h l n (inl o) (inr m) q = absurd (n (λ c. m c.1.0))
    found h l n (inl o) (inl z) (inr m) = absurd (n (λ c. m c.1.1))

has-normal : (h : Form) → Decided (IsDirection (normal_of h))
has-normal h = ⊎_elim (λ z. inr (λ i. i z)) (λ i. inl i) (zero-decided (normal_of h))

-- where no form through p that is zero along d has a normal, all is held
held-without : (s : Set) (p : SpacePoint) (d v : Vector) → ((h : Form) → Lies (carriers s) h → sign_at h p ≡ nought → slope h d ≡ pos 0 → IsDirection (normal_of h) → ⊥) → IsHeldBy s p d v
held-without s p d v clear h l o z = ⊎_elim (λ e. slope-none h v e) (λ i. absurd (clear h l o z i)) (zero-decided (normal_of h))

-- ---- the carrier of a facet
pub facet-support : (s : Set) (p : SpacePoint) → FlatDim s p 2 → FacetSupport s p
facet-support s p ((d, e, i, f, g), few) = by (find-held (carriers s) p (blend (steep (carriers s) e) d 1 e) (λ h. IsDirection (normal_of h)) has-normal)
  where
    -- a direction in the plane that lies in no carrier but those that hold the plane
    flat-w : Flat s p (blend (steep (carriers s) e) d 1 e)
    flat-w = flat-combination s p d e (pos (steep (carriers s) e)) (pos 1) f g

    plane : (v : Vector) → Flat s p v ↔ (dot (cross d e) v ≡ pos 0)
    plane v = (
      λ h. ⊎_elim (λ z. sym (triple-dot d e v) ∙ z) (λ n. absurd (few (d, e, v, n, f, g, h))) (nought-or (triple d e v)),
      λ z. span-2 s p d e v i f g (triple-dot d e v ∙ z),
    )

    both : (h : Form) → Lies (carriers s) h → slope h (blend (steep (carriers s) e) d 1 e) ≡ pos 0 → (slope h d ≡ pos 0) × (slope h e ≡ pos 0)
    both h l z = ⊎_elim
        (λ o. let k = nought-is (slope h d) o in (k, last (slope h d) (slope h e) (pos (steep (carriers s) e)) k (sym (slope-slide h (steep (carriers s) e) d (pos 1) e) ∙ z)))
        (λ n. absurd (n (sym (sign-large (slope h d) (slope h e) (steep (carriers s) e) (steep-one (carriers s) h e l) n) ∙ ap sign (sym (slope-slide h (steep (carriers s) e) d (pos 1) e) ∙ z))))
        (is_nought (sign (slope h d)))
      where
        last : (x y k : ℤ) → x ≡ pos 0 → k *ℤ x +ℤ pos 1 *ℤ y ≡ pos 0 → y ≡ pos 0
        last x y k a b = follows (x ∷ y ∷ k ∷ []) (at 1) (num (pos 0)) (given (num (pos 1)) (at 2 ⊗ at 0 ⊕ num (pos 1) ⊗ at 1) (num (pos 0)) b (given (num (pos 0) ⊖ at 2) (at 0) (num (pos 0)) a none)) tt

    by : Held (carriers s) p (blend (steep (carriers s) e) d 1 e) (λ h. IsDirection (normal_of h)) ⊎ ((h : Form) → Lies (carriers s) h → sign_at h p ≡ nought → slope h (blend (steep (carriers s) e) d 1 e) ≡ pos 0 → IsDirection (normal_of h) → ⊥) → FacetSupport s p
    by (inr clear) =
        let n = cross d e in
        let a = flat-held s p (blend (steep (carriers s) e) d 1 e) n flat-w (held-without s p (blend (steep (carriers s) e) d 1 e) n clear) in
        absurd (square-not (dot n n) (self-pos n i) ((plane n).0 a))
      where
        square-not : (x : ℤ) → pos 0 <ℤ x → x ≡ pos 0 → ⊥
        square-not x h e = omega (arith, ints)
    by (inl h) =
        let z = both h.plane h.listed h.holds in
        let c = in-cross (normal_of h.plane) d e z.0 z.1 in
        record {
          plane = h.plane;
          listed = h.listed;
          passes = h.passes;
          has_normal = h.more;
          flat_in = λ v. (
            λ k. square-to_parallel (normal_of h.plane) (cross d e) v i (cross-turned (cross d e) (normal_of h.plane) c) ((plane v).0 k),
            λ k. (plane v).1 (square-to_parallel (cross d e) (normal_of h.plane) v h.more c k),
          );
        }

-- ---- the carriers of an edge
pub edge-support : (s : Set) (p : SpacePoint) → FlatDim s p 1 → EdgeSupport s p
edge-support s p one = by (flat-line s p one)
  where
    by : (d : Vector) × IsDirection d × ((v : Vector) → Flat s p v ↔ IsParallel d v) → EdgeSupport s p
    by (d, i, line) = first (find-held (carriers s) p d (λ h. IsDirection (normal_of h)) has-normal)
      where
        f : Flat s p d
        f = (line d).1 (cross-self d)

        -- the planes through d
        second : (a : Held (carriers s) p d (λ h. IsDirection (normal_of h))) → Held (carriers s) p d (λ h. IsDirection (cross (normal_of a.plane) (normal_of h)))
            ⊎ ((h : Form) → Lies (carriers s) h → sign_at h p ≡ nought → slope h d ≡ pos 0 → IsDirection (cross (normal_of a.plane) (normal_of h)) → ⊥) → EdgeSupport s p
        second a (inl b) = record {
          first = a.plane;
          second = b.plane;
          first_listed = a.listed;
          second_listed = b.listed;
          first_passes = a.passes;
          second_passes = b.passes;
          independent = b.more;
          flat_in = λ v. (
            λ k. let z = cross-turned d v ((line v).0 k) in (
              dot-comm (normal_of a.plane) v ∙ square-to_parallel v d (normal_of a.plane) i z (dot-comm d (normal_of a.plane) ∙ a.holds),
              dot-comm (normal_of b.plane) v ∙ square-to_parallel v d (normal_of b.plane) i z (dot-comm d (normal_of b.plane) ∙ b.holds),
            ),
            λ k. (line v).1 (parallel-both (cross (normal_of a.plane) (normal_of b.plane)) d v b.more
                (in-cross d (normal_of a.plane) (normal_of b.plane) (dot-comm d (normal_of a.plane) ∙ a.holds) (dot-comm d (normal_of b.plane) ∙ b.holds))
                (in-cross v (normal_of a.plane) (normal_of b.plane) (dot-comm v (normal_of a.plane) ∙ k.0) (dot-comm v (normal_of b.plane) ∙ k.1))),
          );
        }
        second a (inr clear) =
            let n = normal_of a.plane in
            let e = cross n d in
            let held : IsHeldBy s p d e = λ h l o z. ⊎_elim
            (λ c. square-to_parallel (normal_of h) n e a.more (cross-turned n (normal_of h) c) (square-cross n d))
            (λ c. absurd (clear h l o z c)) (zero-decided (cross n (normal_of h))) in
            absurd (a.more (twice-cross n d i a.holds ((line e).0 (flat-held s p d e f held))))

        first : Held (carriers s) p d (λ h. IsDirection (normal_of h)) ⊎ ((h : Form) → Lies (carriers s) h → sign_at h p ≡ nought → slope h d ≡ pos 0 → IsDirection (normal_of h) → ⊥) → EdgeSupport s p
        first (inl a) = second a (find-held (carriers s) p d (λ h. IsDirection (cross (normal_of a.plane) (normal_of h))) (λ h. ⊎_elim (λ z. inr (λ c. c z)) (λ c. inl c) (zero-decided (cross (normal_of a.plane) (normal_of h)))))
        first (inr clear) =
            let all : (v : Vector) → IsParallel d v = λ v. (line v).0 (flat-held s p d v f (held-without s p d v clear)) in
            let z = parallel-both d (vector (pos 1) (pos 0) (pos 0)) (vector (pos 0) (pos 1) (pos 0)) i (all (vector (pos 1) (pos 0) (pos 0))) (all (vector (pos 0) (pos 1) (pos 0))) in
            absurd (not-zero z.2)
          where
            not-zero : pos 1 ≡ pos 0 → ⊥
            not-zero e = omega (arith, ints)
