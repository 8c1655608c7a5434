-- What has the labels that a map of a set gets is a map of the node over the set.
use Rattle.law_geometry.proofs.sphere.border.Prelude.{◌≡◌, ℕ, ◌+◌, ◌≤◌, arith, ◌⊎◌, inl, inr, ⊎_elim, subst, SpacePoint, InFrame, Vector, IsDirection, blend, Set, HasLabel, Germ, Label, Out, Not, In, NearGerm, label-one, Germ-unique, germ_of, Map, MapLabel, NearLabel, forms, Cone, Full, amount, axes-forms, label-direction, label-unique, far_directed-by, Topology, interior, closure, boundary, complement, set_by, IsInside, IsInBy, ByTopology, TopologyLabel, MarkLabel, TopologyCone, RegularCone}
use Rattle.law_geometry.proofs.near.Decided.{label_of, InFrame-decided}
use Rattle.law_geometry.proofs.near.Frames.{no-germ_out}
use Rattle.law_geometry.proofs.near.Combine.{not-label}
use Rattle.law_geometry.proofs.near.Decisions.{ahead, near-ahead, all-germs}
use Rattle.law_geometry.proofs.near.Topology.{inside-at, closed-at, border-at, regular-label, label-ahead}
use Rattle.law_geometry.proofs.sphere.border.Made.{by-carried}
use Rattle.law_geometry.proofs.sphere.Dimensions.{full-germ, germ-full}

-- ---- at a point
module _ (s : Set) (p : SpacePoint) where
  abbrev Inside : Type 0
  Inside = IsInside (HasLabel s p) (Germ s p)

  in-frame : (HasLabel s p Out → ⊥) → InFrame p
  in-frame n = ⊎_elim (λ i. i) (λ o. absurd (n o)) (InFrame-decided p)

  -- in the frame, a cone that isn't In throughout is Not somewhere
  somewhere-not : InFrame p → (Inside → ⊥) → HasLabel s p Not ⊎ ((d : Vector) × Germ s p d Not)
  somewhere-not i n = by (label_of s p) (all-germs s p In)
    where
      germ : (d : Vector) → (Germ s p d In → ⊥) → (l : Label) × Germ s p d l → Germ s p d Not
      germ d m (Out, g) = absurd (no-germ_out s p d i g)
      germ d m (Not, g) = g
      germ d m (In, g) = absurd (m g)

      by : (l : Label) × HasLabel s p l → ((d : Vector) → Germ s p d In) ⊎ ((d : Vector) × (Germ s p d In → ⊥)) → HasLabel s p Not ⊎ ((d : Vector) × Germ s p d Not)
      by (Out, h) x = absurd (h i)
      by (Not, h) x = inl h
      by (In, h) (inl f) = absurd (n (h, f))
      by (In, h) (inr c) = inr (c.0, germ c.0 c.1 (germ_of s p c.0))

  not-both : HasLabel s p Not ⊎ ((d : Vector) × Germ s p d Not) → Inside → ⊥
  not-both (inl h) i = let e = label-one s p Not In h i.0 in cc
  not-both (inr (d, g)) i = let e = Germ-unique s p d Not In g (i.1 d) in cc

  -- the label at the point, by the label and the germs there
  in-by : (k : Topology) → InFrame p → IsInBy k (HasLabel s p) (Germ s p) → HasLabel (set_by k s) p In
  in-by interior i h = (inside-at s p).1 h
  in-by closure i h = (closed-at s p).1 (i, h)
  in-by boundary i h = (border-at s p).1 (h.0, somewhere-not i h.1, i)
  in-by complement i h = not-label s p Not h

  by-in : (k : Topology) → HasLabel (set_by k s) p In → IsInBy k (HasLabel s p) (Germ s p)
  by-in interior h = (inside-at s p).0 h
  by-in closure h = ((closed-at s p).0 h).1
  by-in boundary h = let x = (border-at s p).0 h in (x.0, not-both x.1)
  by-in complement h = by (label_of s p)
    where
      by : (l : Label) × HasLabel s p l → HasLabel s p Not
      by (Out, a) = absurd (a h.0)
      by (Not, a) = a
      by (In, a) = let e = label-one (Set.other s) p Not In (not-label s p In a) h in cc

  pub label-by : (k : Topology) (l : Label) → ByTopology k (HasLabel s p) (Germ s p) l → HasLabel (set_by k s) p l
  label-by k Out h = h
  label-by k In h = in-by k (in-frame h.0) h.1
  label-by k Not h = by (label_of (set_by k s) p)
    where
      by : (l : Label) × HasLabel (set_by k s) p l → HasLabel (set_by k s) p Not
      by (Out, a) = absurd (h.0 a)
      by (Not, a) = a
      by (In, a) = absurd (h.1 (by-in k a))

-- ---- toward a direction
germ-carried : (k : Topology) (s : Set) (p : SpacePoint) (d : Vector) (l : Label) → ByTopology k (Germ s p d) (NearGerm s p d) l → HasLabel (set_by k s) (ahead s p d) l
germ-carried k s p d l h = label-by s (ahead s p d) k l
    (by-carried (Germ s p d) (NearGerm s p d) (HasLabel s (ahead s p d)) (Germ s (ahead s p d)) (λ m. (label-ahead s p d m).0) (λ m. (label-ahead s p d m).1) (λ e m. (near-ahead s p d e m).1) (λ e m. (near-ahead s p d e m).0) k l h)

pub germ-by : (k : Topology) (s : Set) (p : SpacePoint) (d : Vector) (l : Label) → ByTopology k (Germ s p d) (NearGerm s p d) l → Germ (set_by k s) p d l
germ-by interior s p d l h = (label-ahead (Set.inside s) p d l).1 (germ-carried interior s p d l h)
germ-by closure s p d l h = (label-ahead (Set.closed s) p d l).1 (germ-carried closure s p d l h)
germ-by boundary s p d l h = (label-ahead (Set.border s) p d l).1 (germ-carried boundary s p d l h)
germ-by complement s p d l h = (label-ahead (Set.other s) p d l).1 (germ-carried complement s p d l h)

-- ---- maps
module _ (M : Map) (s : Set) (p : SpacePoint) (C : Cone M s p) where
  map-germ : (d : Vector) (l : Label) → MapLabel M d l → Germ s p d l
  map-germ d l a = let x = C.labels d (label-direction M d l a) in subst (Germ s p d) (label-unique M C.valid d x.0 l x.1 a) x.2

  germ-map : (d : Vector) (l : Label) → IsDirection d → Germ s p d l → MapLabel M d l
  germ-map d l h g = let x = C.labels d h in subst (MapLabel M d) (Germ-unique s p d x.0 l x.2 g) x.1

  near-map_germ : (d e : Vector) (l : Label) → NearLabel M d e l → NearGerm s p d e l
  near-map_germ d e l (n, f) = (n, λ k h. map-germ (blend k d 1 e) l (f k h))

  near-germ_map : (d e : Vector) (l : Label) → IsDirection d → NearGerm s p d e l → NearLabel M d e l
  near-germ_map d e l h (n, f) = (n + amount (forms M) e, λ k i. germ-map (blend k d 1 e) l (far_directed-by (forms M) (axes-forms M) d e k (later n k i) h) (f k (sooner n k i)))
    where
      later : (n k : ℕ) → n + amount (forms M) e ≤ k → amount (forms M) e ≤ k
      later n k i = omega arith

      sooner : (n k : ℕ) → n + amount (forms M) e ≤ k → n ≤ k
      sooner n k i = omega arith

  topology-germ : (k : Topology) (d : Vector) (l : Label) → IsDirection d → TopologyLabel k M d l → Germ (set_by k s) p d l
  topology-germ k d l h x = germ-by k s p d l (by-carried (MapLabel M d) (NearLabel M d) (Germ s p d) (NearGerm s p d) (map-germ d) (λ m. germ-map d m h) (near-map_germ d) (λ e m. near-germ_map d e m h) k l x)

  topology-mark : (k : Topology) (l : Label) → MarkLabel k M l → HasLabel (set_by k s) p l
  topology-mark k l x = label-by s p k l (by-carried (λ m. M.mark ≡ m) (Full M) (HasLabel s p) (Germ s p) (λ m e. subst (HasLabel s p) e C.mark) (λ m h. label-one s p M.mark m C.mark h) (germ-full M s p C) (full-germ M s p C) k l x)

pub topology-cone : TopologyCone
topology-cone k M N s p C V T = record {
  valid = V;
  mark = topology-mark M s p C k N.mark T.mark;
  labels = λ d h. let x = T.labels d h in (x.0, x.1, topology-germ M s p C k d x.0 h x.2);
}

-- ---- the regularisation
pub regular-cone : RegularCone
regular-cone M s p C = record {
  valid = C.valid;
  mark = (regular-label s p M.mark).1 C.mark;
  labels = λ d h. let x = C.labels d h in (x.0, x.1, germ d x.0 x.2);
}
  where
    germ : (d : Vector) (l : Label) → Germ (Set.closed (Set.inside s)) p d l → Germ (Set.regular s) p d l
    germ d l (n, some, f) = (n, some, λ t i. (regular-label s _ l).1 (f t i))
