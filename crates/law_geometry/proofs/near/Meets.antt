-- A vertex is the common point of three carriers with independent normals.
use Rattle.law_geometry.proofs.near.Prelude.{◌≡◌, pos, arith, refl, ◌∙◌, ◌⊎◌, inl, inr, ⊎_elim, List, ◌∷◌, subst, [], ints, nought, nought-or, Lies, IsMeet, sign_at, carriers, SpacePoint, Form, slope, normal_of, Vector, IsDirection, IsZero, cross, triple, Set, IsVertex, zero-decided, cross-none, cross-self, cross-turned, dot-zero, triple-cycle, triple-dot, triple-middle, zero-dot}
use Rattle.law_geometry.proofs.near.Cells.{is_nought}
use Rattle.law_geometry.proofs.near.Flats.{Flat-from_cone, FlatCone-from_carriers}

-- b.(a x c) with a x b nought
slope-first : (h : Form) (n e : Vector) → IsZero (cross n (normal_of h)) → slope h (cross n e) ≡ pos 0
slope-first h n e z = triple-dot (normal_of h) n e ∙ zero-dot (cross (normal_of h) n) e (cross-turned n (normal_of h) z)

slope-second : (h : Form) (n m : Vector) → triple n m (normal_of h) ≡ pos 0 → slope h (cross n m) ≡ pos 0
slope-second h n m e = triple-cycle (normal_of h) n m ∙ e

pub slope-none : (h : Form) (d : Vector) → IsZero (normal_of h) → slope h d ≡ pos 0
slope-none h d z = zero-dot (normal_of h) d z

-- how far the normals of the forms through p reach
data Rank (hs ks : List Form) (p : SpacePoint) : Type 0 where
  rank_0 : ((h : Form) → Lies ks h → sign_at h p ≡ nought → IsZero (normal_of h)) → Rank hs ks p
  rank_1 : (n : Form) → Lies hs n → sign_at n p ≡ nought → IsDirection (normal_of n) → ((h : Form) → Lies ks h → sign_at h p ≡ nought → IsZero (cross (normal_of n) (normal_of h))) → Rank hs ks p
  rank_2 : (n m : Form) → Lies hs n → sign_at n p ≡ nought → Lies hs m → sign_at m p ≡ nought → IsDirection (cross (normal_of n) (normal_of m)) → ((h : Form) → Lies ks h → sign_at h p ≡ nought → triple (normal_of n) (normal_of m) (normal_of h) ≡ pos 0) → Rank hs ks p
  rank_3 : IsMeet hs p → Rank hs ks p

pub triple-same : (n m : Vector) → triple n m m ≡ pos 0
triple-same n m = dot-zero n (cross m m) (cross-self m)

triple-parallel : (n m k : Vector) → IsZero (cross n k) → triple n m k ≡ pos 0
triple-parallel n m k z = triple-middle n m k ∙ zero-dot (cross k n) m (cross-turned n k z)

extend : (k : Form) (ks : List Form) (R : Form → Type 0) → R k → ((h : Form) → Lies ks h → R h) → (h : Form) → Lies (k ∷ ks) h → R h
extend k ks R r f h l = ⊎_elim (λ e. subst R e r) (f h) l

module _ (hs : List Form) (p : SpacePoint) where
  rank_of : (ks : List Form) → ((h : Form) → Lies ks h → Lies hs h) → Rank hs ks p
  rank_of [] sub = rank_0 (λ h l. absurd l)
  rank_of (k ∷ ks) sub = ⊎_elim (λ o. through o (rank_of ks (λ h l. sub h (inr l)))) (λ n. off n (rank_of ks (λ h l. sub h (inr l)))) (is_nought (sign_at k p))
    where
      off : (sign_at k p ≡ nought → ⊥) → Rank hs ks p → Rank hs (k ∷ ks) p
      off n (rank_0 f) = rank_0 (extend k ks (λ h. sign_at h p ≡ nought → IsZero (normal_of h)) (λ o. absurd (n o)) f)
      off n (rank_1 a l o d f) = rank_1 a l o d (extend k ks (λ h. sign_at h p ≡ nought → IsZero (cross (normal_of a) (normal_of h))) (λ o. absurd (n o)) f)
      off n (rank_2 a b l o m q d f) = rank_2 a b l o m q d (extend k ks (λ h. sign_at h p ≡ nought → triple (normal_of a) (normal_of b) (normal_of h) ≡ pos 0) (λ o. absurd (n o)) f)
      off n (rank_3 m) = rank_3 m

      through : sign_at k p ≡ nought → Rank hs ks p → Rank hs (k ∷ ks) p
      through o (rank_0 f) = ⊎_elim
          (λ z. rank_0 (extend k ks (λ h. sign_at h p ≡ nought → IsZero (normal_of h)) (λ q. z) f))
          (λ d. rank_1 k (sub k (inl refl)) o d (extend k ks (λ h. sign_at h p ≡ nought → IsZero (cross (normal_of k) (normal_of h))) (λ q. cross-self (normal_of k)) (λ h l q. cross-none (normal_of k) (normal_of h) (f h l q))))
          (zero-decided (normal_of k))
      through o (rank_1 a l q d f) = ⊎_elim
          (λ z. rank_1 a l q d (extend k ks (λ h. sign_at h p ≡ nought → IsZero (cross (normal_of a) (normal_of h))) (λ q. z) f))
          (λ e. rank_2 a k l q (sub k (inl refl)) o e (extend k ks (λ h. sign_at h p ≡ nought → triple (normal_of a) (normal_of k) (normal_of h) ≡ pos 0) (λ q. triple-same (normal_of a) (normal_of k)) (λ h l q. triple-parallel (normal_of a) (normal_of k) (normal_of h) (f h l q))))
          (zero-decided (cross (normal_of a) (normal_of k)))
      through o (rank_2 a b l q m r d f) = ⊎_elim
          (λ z. rank_2 a b l q m r d (extend k ks (λ h. sign_at h p ≡ nought → triple (normal_of a) (normal_of b) (normal_of h) ≡ pos 0) (λ q. z) f))
          (λ e. rank_3 (record { first = a; second = b; third = k; first_in = l; second_in = m; third_in = sub k (inl refl); first_at = q; second_at = r; third_at = o; independent = e }))
          (nought-or (triple (normal_of a) (normal_of b) (normal_of k)))
      through o (rank_3 m) = rank_3 m

  -- three independent forms through p, or a direction in all forms through p
  pub meet_or_way : IsMeet hs p ⊎ ((d : Vector) × IsDirection d × ((h : Form) → Lies hs h → sign_at h p ≡ nought → slope h d ≡ pos 0))
  meet_or_way = by (rank_of hs (λ h l. l))
    where
      by : Rank hs hs p → IsMeet hs p ⊎ ((d : Vector) × IsDirection d × ((h : Form) → Lies hs h → sign_at h p ≡ nought → slope h d ≡ pos 0))
      by (rank_0 f) = inr (record { x = pos 1; y = pos 0; z = pos 0 }, (λ z. omega (arith, ints, z.0)), λ h l o. slope-none h (record { x = pos 1; y = pos 0; z = pos 0 }) (f h l o))
      by (rank_1 a l o d f) = ⊎_elim
          (λ z. let e : Vector = record { x = pos 0; y = pos 1; z = pos 0 } in
          inr (cross (normal_of a) e, (λ w. d (other (normal_of a) z w)), λ h m q. slope-first h (normal_of a) e (f h m q)))
          (λ n. let e : Vector = record { x = pos 1; y = pos 0; z = pos 0 } in inr (cross (normal_of a) e, n, λ h m q. slope-first h (normal_of a) e (f h m q)))
          (zero-decided (cross (normal_of a) (record { x = pos 1; y = pos 0; z = pos 0 })))
        where
          other : (n : Vector) → IsZero (cross n (record { x = pos 1; y = pos 0; z = pos 0 })) → IsZero (cross n (record { x = pos 0; y = pos 1; z = pos 0 })) → IsZero n
          other n z w = let i = z.1 in let j = z.2 in let k = w.2 in (omega (arith, ints), omega (arith, ints), omega (arith, ints))
      by (rank_2 a b l o m q d f) = inr (cross (normal_of a) (normal_of b), d, λ h i r. slope-second h (normal_of a) (normal_of b) (f h i r))
      by (rank_3 m) = inl m

-- a vertex is a meet of three carriers
pub vertex-meets : (s : Set) (p : SpacePoint) → IsVertex s p → IsMeet (carriers s) p
vertex-meets s p v = ⊎_elim (λ m. m) (λ w. absurd (v.1 (w.0, w.1, Flat-from_cone s p w.0 (FlatCone-from_carriers s p w.0 w.2)))) (meet_or_way (carriers s) p)
