-- Links across facets, by what the ray inward in a carrier names.
use Rattle.nef_facets.proofs.Prelude.{◌≡◌, ℕ, pos, List, [], ◌∷◌, ◌++◌, refl, ap, sym, ◌∙◌, subst, Form, form_at, normal_of, toward, Set, Vector, opposite, SameDirection, plane_dir, point-toward, IsAt, Item, items, item_normal, OnItem, on-direction, on-level, is-at_one, Vertex, Complex, IsCorner, Shows, item_plane, RayNames, through-at, through-level, Corner as ProgramCorner, corner_of, Cell, Tie, LinkAcross, one-vertex, one-named, HasNoSvertex, level-of_opposite, through-same, on_item-way, cell_of, corner_at, IsTieAcross, Adds, dot-zero, SameDirection-turned, SameDirection-trans, dir-self, opposite-same, direction-left, direction-right}
use Rattle.law_geometry.specs.complex.Complexes.{Corner}
use Rattle.nef_conn.proofs.WayInward.{names-same, dir-same}
use Rattle.nef_facets.proofs.Adding.{adds-one}
use Rattle.nef_facets.proofs.TiedLinks.{tie-same}
use Rattle.nef_space.proofs.Elementary.{same-itself}

abbrev inward_of : Item → Vector
inward_of x = opposite (plane_dir (item_normal x))

-- ---- the item of a link
module _ (C : Complex) (j : Corner) (v : Vertex) (x : Item) (b : IsCorner C j v x) where
  -- what a link across says of the corner's item
  abbrev Names : Corner → Vertex → Item → Type 0
  Names k u z = OnItem u.map z (inward_of z) × RayNames C (item_plane u z) u.point (inward_of z) k

  pub link-is : (k : Corner) → LinkAcross C j k → Names k v x
  link-is k L =
      let e = is-at_one C.vertices j.vertex L.vertex v L.corner.vertex b.vertex in
      let f = is-at_one (items v.map) j.item L.item x (subst (λ (u : Vertex). IsAt (items u.map) j.item L.item) e L.corner.item) b.item in
      subst (λ (z : Item). Names k v z) f (subst (λ (u : Vertex). Names k u L.item) e (L.inward, L.named))

  -- ---- the way inward in a plane with the item's normal
  module _ (h : Form) (on : form_at h v.point ≡ pos 0) (w : SameDirection (normal_of h) (item_normal x)) (f d : Vector) (dir : SameDirection (plane_dir (normal_of h)) f) (back : d ≡ opposite f) where
    abbrev n : Vector
    n = item_normal x

    pub inward-same : SameDirection d (inward_of x)
    inward-same =
        let a = dir-same (normal_of h) n w in
        let o = opposite-same f (plane_dir n) (SameDirection-trans f (plane_dir (normal_of h)) (plane_dir n) (SameDirection-turned (plane_dir (normal_of h)) f dir) a) in
        subst (λ (r : Vector). SameDirection r (inward_of x)) (sym back) o

    on-plane : form_at (item_plane v x) v.point ≡ pos 0
    on-plane = through-at n v.point v.point ∙ dot-zero n (toward v.point v.point) (point-toward v.point v.point (same-itself v.point))

    to-plane : SameDirection (normal_of h) (normal_of (item_plane v x))
    to-plane = SameDirection-trans (normal_of h) n (normal_of (item_plane v x)) w (through-same n v.point (direction-right (normal_of h) n w))

    pub linked : (k : Corner) → OnItem v.map x d → RayNames C h v.point d k → LinkAcross C j k
    linked k o N = record {
      vertex = v;
      item = x;
      corner = b;
      inward = on_item-way v.map x d (inward_of x) inward-same o;
      named = names-same C h (item_plane v x) v.point on on-plane to-plane d (inward_of x) inward-same k N;
    }

    pub unlinked : (k : Corner) → LinkAcross C j k → OnItem v.map x d × RayNames C h v.point d k
    unlinked k L =
        let N = link-is k L in
        let u = SameDirection-turned d (inward_of x) inward-same in (
          on_item-way v.map x (inward_of x) d u N.0,
          names-same C (item_plane v x) h v.point on-plane on (SameDirection-turned (normal_of h) (normal_of (item_plane v x)) to-plane) (inward_of x) d u k N.1,
        )

module _ (s : Set) (C : Complex) (S : Shows s C) where
  -- a corner is linked across its facet with at most one
  pub link-one : (j k l : Corner) → LinkAcross C j k → LinkAcross C j l → k ≡ l
  link-one j k l L M =
      let v = L.vertex in
      let x = L.item in
      let d = inward_of x in
      let N = link-is C j v x L.corner l M in
      let some = opposite-same d d (dir-self d (on-direction v.map x d L.inward)) in
      let level = (through-level (item_normal x) (opposite d) v.point).0 (level-of_opposite (item_normal x) d (on-level v.map x d L.inward)) in
      one-named s C S (item_plane v x) v.point d (direction-left (opposite d) (opposite d) some) level k l L.named N.1

  -- no svertex of a vertex points along an item
  pub no-svertex : (j : Corner) (v : Vertex) (x : Item) → IsCorner C j v x → (d : Vector) → OnItem v.map x d → HasNoSvertex C v.point d
  no-svertex j v x b d o k i w u a e t q =
      let n = one-vertex s C S k j.vertex w v a b.vertex e in
      let f = is-at_one C.vertices j.vertex w v (subst (λ (r : ℕ). IsAt C.vertices r w) n a) b.vertex in
      let listed = subst (λ (r : Vertex). IsAt r.map.svertices i u) f t in
      (S.cones j.vertex v b.vertex).valid.shaped.no_svertex_on_item i j.item u x listed b.item (on_item-way v.map x d u.dir (SameDirection-turned u.dir d q) o)

-- ---- the tie of a link
abbrev pub tie_to : ℕ → ℕ → ProgramCorner → Tie
tie_to i j k = record { first = record { row = i; column = j }; second = record { row = k.vertex; column = k.item } }

module _ (s : Set) (C : Complex) (S : Shows s C) (i j : ℕ) where
  from-first : (t : Tie) → IsTieAcross C i j t → LinkAcross C (record { vertex = i; item = j }) (corner_at t.second)
  from-first t (e, L) = subst (λ (x : Cell). LinkAcross C (corner_at x) (corner_at t.second)) e L

  pub tie-added : (k : ProgramCorner) → LinkAcross C (record { vertex = i; item = j }) (corner_of k) → (ts : List Tie) → Adds (IsTieAcross C i j) ts (ts ++ tie_to i j k ∷ [])
  tie-added k L ts = adds-one (IsTieAcross C i j) ts (tie_to i j k) (refl, L)
      (λ u p. tie-same (tie_to i j k) u (sym p.0) (ap cell_of (link-one s C S (record { vertex = i; item = j }) (corner_of k) (corner_at u.second) L (from-first u p))))

  pub tie-none : ((k : Corner) → LinkAcross C (record { vertex = i; item = j }) k → ⊥) → (t : Tie) → IsTieAcross C i j t → ⊥
  tie-none f t p = f (corner_at t.second) (from-first t p)
