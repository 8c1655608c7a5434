-- A turned set holds at a turned point exactly where the set holds at the point, and looks turned near it.
use Rattle.law_geometry.proofs.turns.Prelude.{◌≡◌, ℕ, zero, suc, ℤ, pos, ◌<ℤ◌, ◌≤ℤ◌, Bool, true, false, sym, subst, ◌↔◌, ◌⊎◌, inl, inr, ⊎_elim, List, [], ◌∷◌, map, Vector, cross, triple, blend, IsDirection, SpacePoint, Form, Ratio, step, Within, SamePoint, InFrame, IsBetween, Set, Interior, Closure, InHalf, HasLabel, SameSet, Germ, Flat, HasFlat, FlatDim, IsEven, IsEvenPath, Joined, Label, Out, Not, In, NearGerm, turned_vector, turned_plane, turned_point, turned_set}
use Rattle.nef_space.specs.Sets.{Holds}
use Rattle.law_geometry.proofs.turns.Vectors.{every-vector, blend-turned, direction-turned, direction_cross-turned, zero_triple-turned}
use Rattle.law_geometry.proofs.turns.Points.{form-turned, every-point, step-turned, between-turned, same_point-turned, frame-turned, within-turned}

module _ (k : ℕ) where
  -- what P says of turned points Q says of the points
  abbrev pub Alike : (SpacePoint → Type 0) → (SpacePoint → Type 0) → Type 0
  Alike P Q = (p : SpacePoint) → P (turned_point k p) ↔ Q p

  half-alike : (h : Form) (c : Bool) → Alike (InHalf (turned_plane k h) c) (InHalf h c)
  half-alike h false p = (subst (λ (i : ℤ). i <ℤ pos 0) (form-turned k h p), subst (λ (i : ℤ). i <ℤ pos 0) (sym (form-turned k h p)))
  half-alike h true p = (subst (λ (i : ℤ). i ≤ℤ pos 0) (form-turned k h p), subst (λ (i : ℤ). i ≤ℤ pos 0) (sym (form-turned k h p)))

  interior-alike : (P Q : SpacePoint → Type 0) → Alike P Q → Alike (Interior P) (Interior Q)
  interior-alike P Q a p = (
    λ (n, some, f). (n, some, λ q i c. (a q).0 (f (turned_point k q) ((frame-turned k q).1 i) ((within-turned k n p q).1 c))),
    λ (n, some, f). (n, some, every-point k (λ q. InFrame q → Within n (turned_point k p) q → P q) (λ q i c. (a q).1 (f q ((frame-turned k q).0 i) ((within-turned k n p q).0 c)))),
  )

  closure-alike : (P Q : SpacePoint → Type 0) → Alike P Q → Alike (Closure P) (Closure Q)
  closure-alike P Q a p = (
    λ f n some.
        let r = f n some in
        every-point k (λ q. InFrame q → Within n (turned_point k p) q → P q → (r : SpacePoint) × InFrame r × Within n p r × Q r)
        (λ q i c h. (q, (frame-turned k q).0 i, (within-turned k n p q).0 c, (a q).0 h)) r.0 r.1 r.2 r.3,
    λ f n some.
        let r = f n some in
        (turned_point k r.0, (frame-turned k r.0).1 r.1, (within-turned k n p r.0).1 r.2, (a r.0).1 r.3),
  )

  not-alike : (P Q : SpacePoint → Type 0) → Alike P Q → Alike (λ p. P p → ⊥) (λ p. Q p → ⊥)
  not-alike P Q a p = (λ h i. h ((a p).1 i), λ h i. h ((a p).0 i))

  both-alike : (P Q R S : SpacePoint → Type 0) → Alike P Q → Alike R S → Alike (λ p. P p × R p) (λ p. Q p × S p)
  both-alike P Q R S a b p = (λ h. ((a p).0 h.0, (b p).0 h.1), λ h. ((a p).1 h.0, (b p).1 h.1))

  either-alike : (P Q R S : SpacePoint → Type 0) → Alike P Q → Alike R S → Alike (λ p. P p ⊎ R p) (λ p. Q p ⊎ S p)
  either-alike P Q R S a b p = (λ h. ⊎_elim (λ i. inl ((a p).0 i)) (λ i. inr ((b p).0 i)) h, λ h. ⊎_elim (λ i. inl ((a p).1 i)) (λ i. inr ((b p).1 i)) h)

  one-alike : (P Q R S : SpacePoint → Type 0) → Alike P Q → Alike R S → Alike (λ p. (P p × (R p → ⊥)) ⊎ ((P p → ⊥) × R p)) (λ p. (Q p × (S p → ⊥)) ⊎ ((Q p → ⊥) × S p))
  one-alike P Q R S a b = either-alike (λ p. P p × (R p → ⊥)) (λ p. Q p × (S p → ⊥)) (λ p. (P p → ⊥) × R p) (λ p. (Q p → ⊥) × S p)
      (both-alike P Q (λ p. R p → ⊥) (λ p. S p → ⊥) a (not-alike R S b))
      (both-alike (λ p. P p → ⊥) (λ p. Q p → ⊥) R S (not-alike P Q a) b)

  pub holds-turned : (s : Set) → Alike (Holds (turned_set k s)) (Holds s)
  unfolding Holds
  holds-turned (Set.half h c) = half-alike h c
  holds-turned Set.empty = λ p. (λ h. h, λ h. h)
  holds-turned Set.full = λ p. (λ h. h, λ h. h)
  holds-turned (Set.both a b) = both-alike (Holds (turned_set k a)) (Holds a) (Holds (turned_set k b)) (Holds b) (holds-turned a) (holds-turned b)
  holds-turned (Set.either a b) = either-alike (Holds (turned_set k a)) (Holds a) (Holds (turned_set k b)) (Holds b) (holds-turned a) (holds-turned b)
  holds-turned (Set.less a b) =
      both-alike (Holds (turned_set k a)) (Holds a) (λ p. Holds (turned_set k b) p → ⊥) (λ p. Holds b p → ⊥) (holds-turned a) (not-alike (Holds (turned_set k b)) (Holds b) (holds-turned b))
  holds-turned (Set.one_of a b) = one-alike (Holds (turned_set k a)) (Holds a) (Holds (turned_set k b)) (Holds b) (holds-turned a) (holds-turned b)
  holds-turned (Set.other a) = not-alike (Holds (turned_set k a)) (Holds a) (holds-turned a)
  holds-turned (Set.inside a) = interior-alike (Holds (turned_set k a)) (Holds a) (holds-turned a)
  holds-turned (Set.closed a) = closure-alike (Holds (turned_set k a)) (Holds a) (holds-turned a)
  holds-turned (Set.border a) = both-alike (Closure (Holds (turned_set k a))) (Closure (Holds a)) (λ p. Interior (Holds (turned_set k a)) p → ⊥) (λ p. Interior (Holds a) p → ⊥)
      (closure-alike (Holds (turned_set k a)) (Holds a) (holds-turned a))
      (not-alike (Interior (Holds (turned_set k a))) (Interior (Holds a)) (interior-alike (Holds (turned_set k a)) (Holds a) (holds-turned a)))
  holds-turned (Set.regular a) = closure-alike (Interior (Holds (turned_set k a))) (Interior (Holds a)) (interior-alike (Holds (turned_set k a)) (Holds a) (holds-turned a))

  -- ---- labels and germs
  pub label-turned : (s : Set) (p : SpacePoint) (l : Label) → HasLabel (turned_set k s) (turned_point k p) l ↔ HasLabel s p l
  label-turned s p Out = (λ h i. h ((frame-turned k p).1 i), λ h i. h ((frame-turned k p).0 i))
  label-turned s p Not = (
    λ h. ((frame-turned k p).0 h.0, λ i. h.1 ((holds-turned s p).1 i)),
    λ h. ((frame-turned k p).1 h.0, λ i. h.1 ((holds-turned s p).0 i)),
  )
  label-turned s p In = (
    λ h. ((frame-turned k p).0 h.0, (holds-turned s p).0 h.1),
    λ h. ((frame-turned k p).1 h.0, (holds-turned s p).1 h.1),
  )

  pub same_set-turned : (s t : Set) → SameSet (turned_set k s) (turned_set k t) ↔ SameSet s t
  same_set-turned s t = (
    λ h p l. let e = h (turned_point k p) l in (λ i. (label-turned t p l).0 (e.0 ((label-turned s p l).1 i)), λ i. (label-turned s p l).0 (e.1 ((label-turned t p l).1 i))),
    λ h. every-point k (λ p. (l : Label) → HasLabel (turned_set k s) p l ↔ HasLabel (turned_set k t) p l)
        (λ p l. let e = h p l in (λ i. (label-turned t p l).1 (e.0 ((label-turned s p l).0 i)), λ i. (label-turned s p l).1 (e.1 ((label-turned t p l).0 i)))),
  )

  -- the label a step away
  step_label-turned : (s : Set) (p : SpacePoint) (t : Ratio) (d : Vector) (l : Label) → HasLabel (turned_set k s) (step (turned_point k p) t (turned_vector k d)) l ↔ HasLabel s (step p t d) l
  step_label-turned s p t d l = (
    λ h. (label-turned s (step p t d) l).0 (subst (λ (q : SpacePoint). HasLabel (turned_set k s) q l) (step-turned k p t d) h),
    λ h. subst (λ (q : SpacePoint). HasLabel (turned_set k s) q l) (sym (step-turned k p t d)) ((label-turned s (step p t d) l).1 h),
  )

  pub germ-turned : (s : Set) (p : SpacePoint) (d : Vector) (l : Label) → Germ (turned_set k s) (turned_point k p) (turned_vector k d) l ↔ Germ s p d l
  germ-turned s p d l = (
    λ (n, some, f). (n, some, λ t short. (step_label-turned s p t d l).0 (f t short)),
    λ (n, some, f). (n, some, λ t short. (step_label-turned s p t d l).1 (f t short)),
  )

  pub near_germ-turned : (s : Set) (p : SpacePoint) (d e : Vector) (l : Label) → NearGerm (turned_set k s) (turned_point k p) (turned_vector k d) (turned_vector k e) l ↔ NearGerm s p d e l
  near_germ-turned s p d e l = (
    λ (n, f). (n, λ i h. (germ-turned s p (blend i d 1 e) l).0 (subst (λ (r : Vector). Germ (turned_set k s) (turned_point k p) r l) (blend-turned k i d 1 e) (f i h))),
    λ (n, f). (n, λ i h. subst (λ (r : Vector). Germ (turned_set k s) (turned_point k p) r l) (sym (blend-turned k i d 1 e)) ((germ-turned s p (blend i d 1 e) l).1 (f i h))),
  )

  -- ---- flat directions
  step_within-turned : (n : ℕ) (p q : SpacePoint) (t : Ratio) (d : Vector) → Within n (turned_point k p) (step (turned_point k q) t (turned_vector k d)) ↔ Within n p (step q t d)
  step_within-turned n p q t d = (
    λ h. (within-turned k n p (step q t d)).0 (subst (λ (r : SpacePoint). Within n (turned_point k p) r) (step-turned k q t d) h),
    λ h. subst (λ (r : SpacePoint). Within n (turned_point k p) r) (sym (step-turned k q t d)) ((within-turned k n p (step q t d)).1 h),
  )

  pub flat-turned : (s : Set) (p : SpacePoint) (d : Vector) → Flat (turned_set k s) (turned_point k p) (turned_vector k d) ↔ Flat s p d
  flat-turned s p d = (
    λ (n, some, f). (
      n,
      some,
      λ q t c e l.
          let g = f (turned_point k q) t ((within-turned k n p q).1 c) ((step_within-turned n p q t d).1 e) l in
          (λ i. (step_label-turned s q t d l).0 (g.0 ((label-turned s q l).1 i)), λ i. (label-turned s q l).0 (g.1 ((step_label-turned s q t d l).1 i))),
    ),
    λ (n, some, f). (
      n,
      some,
      every-point k
          (λ q. (t : Ratio) → Within n (turned_point k p) q → Within n (turned_point k p) (step q t (turned_vector k d)) → (l : Label) → HasLabel (turned_set k s) q l ↔ HasLabel (turned_set k s) (step q t (turned_vector k d)) l)
          (λ q t c e l.
          let g = f q t ((within-turned k n p q).0 c) ((step_within-turned n p q t d).0 e) l in
          (λ i. (step_label-turned s q t d l).1 (g.0 ((label-turned s q l).0 i)), λ i. (label-turned s q l).1 (g.1 ((step_label-turned s q t d l).0 i)))),
    ),
  )

  has_flat-turned : (s : Set) (p : SpacePoint) (j : ℕ) → HasFlat (turned_set k s) (turned_point k p) j ↔ HasFlat s p j
  has_flat-turned s p zero = (λ h. h, λ h. h)
  has_flat-turned s p (suc zero) = (
    λ (d, a, f). every-vector k (λ d. IsDirection d → Flat (turned_set k s) (turned_point k p) d → HasFlat s p 1)
        (λ d a f. (d, (direction-turned k d).0 a, (flat-turned s p d).0 f)) d a f,
    λ (d, a, f). (turned_vector k d, (direction-turned k d).1 a, (flat-turned s p d).1 f),
  )
  has_flat-turned s p (suc (suc zero)) = (
    λ (d, e, a, f, g). every-vector k (λ d. IsDirection (cross d e) → Flat (turned_set k s) (turned_point k p) d → HasFlat s p 2)
        (λ d a f. every-vector k (λ e. IsDirection (cross (turned_vector k d) e) → Flat (turned_set k s) (turned_point k p) e → HasFlat s p 2)
        (λ e a g. (d, e, (direction_cross-turned k d e).0 a, (flat-turned s p d).0 f, (flat-turned s p e).0 g)) e a g) d a f,
    λ (d, e, a, f, g). (turned_vector k d, turned_vector k e, (direction_cross-turned k d e).1 a, (flat-turned s p d).1 f, (flat-turned s p e).1 g),
  )
  has_flat-turned s p (suc (suc (suc zero))) = (
    λ (c, d, e, a, f, g, h). every-vector k (λ c. (triple c d e ≡ pos 0 → ⊥) → Flat (turned_set k s) (turned_point k p) c → HasFlat s p 3)
        (λ c a f. every-vector k (λ d. (triple (turned_vector k c) d e ≡ pos 0 → ⊥) → Flat (turned_set k s) (turned_point k p) d → HasFlat s p 3)
        (λ d a g. every-vector k (λ e. (triple (turned_vector k c) (turned_vector k d) e ≡ pos 0 → ⊥) → Flat (turned_set k s) (turned_point k p) e → HasFlat s p 3)
        (λ e a h. (c, d, e, λ z. a ((zero_triple-turned k c d e).1 z), (flat-turned s p c).0 f, (flat-turned s p d).0 g, (flat-turned s p e).0 h)) e a h) d a g) c a f,
    λ (c, d, e, a, f, g, h). (turned_vector k c, turned_vector k d, turned_vector k e, λ z. a ((zero_triple-turned k c d e).0 z), (flat-turned s p c).1 f, (flat-turned s p d).1 g, (flat-turned s p e).1 h),
  )
  has_flat-turned s p (suc (suc (suc (suc j)))) = (λ h. h, λ h. h)

  pub flat_dim-turned : (s : Set) (p : SpacePoint) (j : ℕ) → FlatDim (turned_set k s) (turned_point k p) j ↔ FlatDim s p j
  flat_dim-turned s p j = (
    λ h. ((has_flat-turned s p j).0 h.0, λ i. h.1 ((has_flat-turned s p (suc j)).1 i)),
    λ h. ((has_flat-turned s p j).1 h.0, λ i. h.1 ((has_flat-turned s p (suc j)).0 i)),
  )

  -- ---- joined points
  on_segment-turned : (p r q : SpacePoint) → (SamePoint (turned_point k r) (turned_point k p) ⊎ IsBetween (turned_point k p) (turned_point k r) (turned_point k q) ⊎ SamePoint (turned_point k r) (turned_point k q)) ↔ (SamePoint r p ⊎ IsBetween p r q ⊎ SamePoint r q)
  on_segment-turned p r q = (
    λ h. ⊎_elim (λ i. inl ((same_point-turned k r p).0 i)) (λ h. ⊎_elim (λ i. inr (inl ((between-turned k p r q).0 i))) (λ i. inr (inr ((same_point-turned k r q).0 i))) h) h,
    λ h. ⊎_elim (λ i. inl ((same_point-turned k r p).1 i)) (λ h. ⊎_elim (λ i. inr (inl ((between-turned k p r q).1 i))) (λ i. inr (inr ((same_point-turned k r q).1 i))) h) h,
  )

  even-turned : (s : Set) (j : ℕ) (p q : SpacePoint) → IsEven (turned_set k s) j (turned_point k p) (turned_point k q) ↔ IsEven s j p q
  even-turned s j p q = (
    λ h r i. (flat_dim-turned s r j).0 (h (turned_point k r) ((on_segment-turned p r q).1 i)),
    λ h. every-point k (λ r. SamePoint r (turned_point k p) ⊎ IsBetween (turned_point k p) r (turned_point k q) ⊎ SamePoint r (turned_point k q) → FlatDim (turned_set k s) r j)
        (λ r i. (flat_dim-turned s r j).1 (h r ((on_segment-turned p r q).0 i))),
  )

  even_path-there : (s : Set) (j : ℕ) (p : SpacePoint) (rs : List SpacePoint) (q : SpacePoint) → IsEvenPath s j p rs q → IsEvenPath (turned_set k s) j (turned_point k p) (map (turned_point k) rs) (turned_point k q)
  even_path-there s j p [] q h = (even-turned s j p q).1 h
  even_path-there s j p (r ∷ rs) q h = ((even-turned s j p r).1 h.0, even_path-there s j r rs q h.1)

  even_path-back : (s : Set) (j : ℕ) (rs : List SpacePoint) (p q : SpacePoint) → IsEvenPath (turned_set k s) j (turned_point k p) rs (turned_point k q) → (ts : List SpacePoint) × IsEvenPath s j p ts q
  even_path-back s j [] p q h = ([], (even-turned s j p q).0 h)
  even_path-back s j (r ∷ rs) p q h = every-point k
      (λ r. IsEven (turned_set k s) j (turned_point k p) r → IsEvenPath (turned_set k s) j r rs (turned_point k q) → (ts : List SpacePoint) × IsEvenPath s j p ts q)
      (λ r a b. let c = even_path-back s j rs r q b in (r ∷ c.0, ((even-turned s j p r).0 a, c.1))) r h.0 h.1

  pub joined-turned : (s : Set) (p q : SpacePoint) → Joined (turned_set k s) (turned_point k p) (turned_point k q) ↔ Joined s p q
  joined-turned s p q = (
    λ (j, rs, d, e). let c = even_path-back s j rs p q e in (j, c.0, (flat_dim-turned s p j).0 d, c.1),
    λ (j, rs, d, e). (j, map (turned_point k) rs, (flat_dim-turned s p j).1 d, even_path-there s j p rs q e),
  )
