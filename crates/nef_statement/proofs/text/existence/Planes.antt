-- A set whose carriers are planes of the program has a sorted list of these; its vertices are points of the program.
use Rattle.nef_statement.proofs.text.existence.Prelude.{◌≡◌, ℕ, pos, negsuc, refl, sym, ap, ◌∙◌, ◌⊎◌, inl, inr, ⊎_elim, List, ◌∷◌, map, subst, [], nought-is, each, lies-each, at, num, ◌⊖◌, ◌⊗◌, follows, given, none, nought, Lies, SpacePoint, Form, form_at, normal_of, SamePoint, Set, IsVertex, Vector, cross, triple, IsZero, IsDirection, sign_at, carriers, IsMeet, same-point_sym, all-vertices, IsAt, InOrder, Mapped, map-list, Sorted, sort, chain-order, SamePlane, Carriers, plane-turned, plane-point, same-point_trans, form_of, point_of, Plane, Point, is-at_map, map-is_at, AreCarried, triple-cycle, cross-turned, dot-comm, in-span, lies-at, at-lies}
use Rattle.law_geometry.proofs.near.Meets.{vertex-meets}
use Rattle.nef_geo.proofs.Unique.{plane_equal}
use Rattle.nef_statement.proofs.text.existence.Orders.{form-trans}
use Rattle.nef_statement.proofs.text.existence.Complexes.{AreAllVertices, Complete}
use Rattle.nef_statement.proofs.text.existence.Points.{meet-point}
use Rattle.law_geometry.proofs.near.Same.{IsVertex-same}
use Rattle.law_geometry.proofs.turns.ListsExist.{form-either, FormBelow}

-- what lies in an image is the image of an element
pub lies-image : {A B : Type 0} (f : A → B) (xs : List A) (y : B) → Lies (each f xs) y → (x : A) × Lies xs x × (f x ≡ y)
lies-image f [] y l = absurd l
lies-image f (x ∷ xs) y (inl e) = (x, inl refl, e)
lies-image f (x ∷ xs) y (inr l) = let r = lies-image f xs y l in (r.0, inr r.1, r.2)

pub plane-one : (g h : Plane) → form_of g ≡ form_of h → g ≡ h
plane-one g h e =
    plane_equal g.a g.b g.c g.d (g.a_small, g.b_small, g.c_small, g.d_small, g.lowest, g.normal) h.a h.b h.c h.d (h.a_small, h.b_small, h.c_small, h.d_small, h.lowest, h.normal)
    (ap (λ (f : Form). f.a) e) (ap (λ (f : Form). f.b) e) (ap (λ (f : Form). f.c) e) (ap (λ (f : Form). f.d) e)

-- ---- normals
-- a vector parallel to a direction takes the direction's place where a triple product is nought
parallel-triple : (a b u v : Vector) → IsDirection b → IsZero (cross a b) → triple b u v ≡ pos 0 → triple a u v ≡ pos 0
parallel-triple a b u v i z e = dot-comm a (cross u v) ∙ in-span (cross u v) b a i (cross-turned a b z) (dot-comm (cross u v) b ∙ e)

pub normals-parallel : (g h : Form) → SamePlane g h → IsZero (cross (normal_of h) (normal_of g))
normals-parallel g h S =
    let xs = g.a ∷ g.b ∷ g.c ∷ h.a ∷ h.b ∷ h.c ∷ [] in (
      follows xs (at 4 ⊗ at 2 ⊖ at 5 ⊗ at 1) (num (pos 0)) (given (num (negsuc 0)) (at 1 ⊗ at 5) (at 2 ⊗ at 4) S.bc none) tt,
      follows xs (at 5 ⊗ at 0 ⊖ at 3 ⊗ at 2) (num (pos 0)) (given (num (pos 1)) (at 0 ⊗ at 5) (at 2 ⊗ at 3) S.ac none) tt,
      follows xs (at 3 ⊗ at 1 ⊖ at 4 ⊗ at 0) (num (pos 0)) (given (num (negsuc 0)) (at 0 ⊗ at 4) (at 1 ⊗ at 3) S.ab none) tt,
    )

module _ (s : Set) (hs : List Plane) (C : AreCarried s hs) where
  -- ---- the carriers
  abbrev IsFor : Form → Plane → Type 0
  IsFor f h = Lies hs h × SamePlane (form_of h) f

  carrier-of : (f : Form) → Lies (carriers s) f → (h : Plane) × IsFor f h
  carrier-of f l = let c = C f l in (c.0, (c.1, c.2))

  abbrev PlaneBelow : Plane → Plane → Type 0
  PlaneBelow g h = FormBelow (form_of g) (form_of h)

  planes-either : (g h : Plane) → PlaneBelow g h ⊎ (g ≡ h) ⊎ PlaneBelow h g
  planes-either g h = ⊎_elim (λ b. inl b) (λ o. ⊎_elim (λ e. inr (inl (plane-one g h e))) (λ b. inr (inr b)) o) (form-either (form_of g) (form_of h))

  pub record PlaneList : Type 0 where
    pub list : List Plane
    pub carriers : Carriers s (map form_of list)
    pub among : (g : Plane) → Lies list g → Lies hs g

  pub planes : PlaneList
  planes = by (map-list (carriers s) (λ k f h. IsFor f h) (λ k f a. carrier-of f (at-lies (carriers s) k f a)))
    where
      by : Mapped (carriers s) (λ k f h. IsFor f h) → PlaneList
      by m = then (sort PlaneBelow (λ g h. g ≡ h) (λ f g h. form-trans (form_of f) (form_of g) (form_of h)) (λ g. refl) planes-either m.list)
        where
          then : Sorted PlaneBelow (λ g h. g ≡ h) m.list → PlaneList
          then r = record {
            list = r.list;
            carriers = record { each = each-one; all = all-ones; ordered = ordered };
            among = λ g l. (from g l).2.0;
          }
            where
              from : (g : Plane) → Lies r.list g → (f : Form) × Lies (carriers s) f × IsFor f g
              from g l = let k = lies-at m.list g (r.sound g l) in let f = m.sound k.0 g k.1 in (f.0, at-lies (carriers s) k.0 f.0 f.1, f.2)

              each-one : (k : ℕ) (h : Form) → IsAt (map form_of r.list) k h → (f : Form) × Lies (carriers s) f × SamePlane h f
              each-one k h a =
                  let g = is-at_map form_of r.list k h a in
                  let f = from g.0 (at-lies r.list k g.0 g.1) in
                  (f.0, f.1, subst (λ (x : Form). SamePlane x f.0) g.2 f.2.1)

              all-ones : (f : Form) → Lies (carriers s) f → (k : ℕ) × (h : Form) × IsAt (map form_of r.list) k h × SamePlane h f
              all-ones f l =
                  let i = lies-at (carriers s) f l in
                  let h = m.all i.0 f i.1 in
                  let g = r.all h.0 (at-lies m.list i.0 h.0 h.1) in
                  let k = lies-at r.list g.0 g.1 in
                  (k.0, form_of g.0, map-is_at form_of r.list k.0 g.0 k.1, subst (λ (x : Plane). SamePlane (form_of x) f) g.2 h.2.1)

              ordered : InOrder (λ g h. FormBelow g h) (map form_of r.list)
              ordered i k x y l a b =
                  let g = is-at_map form_of r.list i x a in
                  let h = is-at_map form_of r.list k y b in
                  subst (λ (z : Form). FormBelow z y) g.2 (subst (λ (z : Form). FormBelow (form_of g.0) z) h.2 (chain-order PlaneBelow (λ g h. g ≡ h) r.list r.chain i k g.0 h.0 l g.1 h.1))

  -- ---- the points
  meet-of : (p : SpacePoint) → IsMeet (carriers s) p → (q : Point) × SamePoint p (point_of q)
  meet-of p m = meet-point f.0 g.0 h.0 p (on f.0 m.first f.1.1 m.first_at) (on g.0 m.second g.1.1 m.second_at) (on h.0 m.third h.1.1 m.third_at) independent
    where
      f : (h : Plane) × IsFor m.first h
      f = carrier-of m.first m.first_in

      g : (h : Plane) × IsFor m.second h
      g = carrier-of m.second m.second_in

      h : (h : Plane) × IsFor m.third h
      h = carrier-of m.third m.third_in

      on : (k : Plane) (c : Form) → SamePlane (form_of k) c → sign_at c p ≡ nought → form_at (form_of k) p ≡ pos 0
      on k c S e = plane-point c (form_of k) p (plane-turned (form_of k) c S) (nought-is (form_at c p) e)

      -- one normal after the other is exchanged
      independent : triple (normal_of (form_of f.0)) (normal_of (form_of g.0)) (normal_of (form_of h.0)) ≡ pos 0 → ⊥
      independent e =
          let a = normal_of m.first in let b = normal_of m.second in let c = normal_of m.third in
          let a' = normal_of (form_of f.0) in let b' = normal_of (form_of g.0) in let c' = normal_of (form_of h.0) in
          let x = parallel-triple a a' b' c' f.1.1.is_plane (normals-parallel (form_of f.0) m.first f.1.1) e in
          let y = parallel-triple b b' c' a g.1.1.is_plane (normals-parallel (form_of g.0) m.second g.1.1) (sym (triple-cycle a b' c') ∙ x) in
          let z = parallel-triple c c' a b h.1.1.is_plane (normals-parallel (form_of h.0) m.third h.1.1) (sym (triple-cycle b c' a) ∙ y) in
          m.independent (triple-cycle a b c ∙ triple-cycle b c a ∙ z)

  pub record PointList : Type 0 where
    pub list : List Point
    pub sound : AreAllVertices s (each point_of list)
    pub complete : Complete s (each point_of list)

  pub points : PointList
  points = by (all-vertices s)
    where
      by : ((ps : List SpacePoint) × ((q : SpacePoint) → Lies ps q → IsVertex s q) × ((p : SpacePoint) → IsVertex s p → (q : SpacePoint) × Lies ps q × SamePoint q p)) → PointList
      by (ps, sound, all) = then (map-list ps (λ k p q. IsVertex s p × SamePoint p (point_of q)) (λ k p a. let v = sound p (at-lies ps k p a) in let m = meet-of p (vertex-meets s p v) in (m.0, (v, m.1))))
        where
          then : Mapped ps (λ k p q. IsVertex s p × SamePoint p (point_of q)) → PointList
          then m = record {
            list = m.list;
            sound = λ q l. let x = lies-image point_of m.list q l in let k = lies-at m.list x.0 x.1 in let p = m.sound k.0 x.0 k.1 in subst (IsVertex s) x.2 (IsVertex-same s p.0 (point_of x.0) p.2.1 p.2.0);
            complete = λ p h.
                let f = all p h in
                let k = lies-at ps f.0 f.1 in
                let q = m.all k.0 f.0 k.1 in
                (point_of q.0, lies-each point_of m.list q.0 (at-lies m.list k.0 q.0 q.1), same-point_trans (point_of q.0) f.0 p (same-point_sym f.0 (point_of q.0) q.2.1) f.2);
          }
