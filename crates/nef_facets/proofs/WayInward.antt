-- The corner that the way inward from an item names.
use Rattle.nef_facets.proofs.Prelude.{◌≡◌, ℕ, zero, suc, ◌<◌, ◌≤◌, ◌+◌, ◌^◌, ℤ, pos, neg_ℤ, nat_abs, List, [], ◌∷◌, length, map, Option, Some, None, MatchOption, slice_get, arith, refl, sym, subst, ints, SpacePoint, Form, normal_of, slope, Set, Vector, opposite, IsAtMost, SameDirection, plane_dir, form_of, ray_limit, plane_dir_limit, Plane, IsAt, Item, items, item_normal, OnItem, is-at_one, map-is_at, map_of, Vertex, Complex, IsCorner, Shows, PlaneMeet, IsFirstInPlane, IsCornerAt, Corner as ProgramCorner, complex_of, corner_of, vertex_of, ShowsSet, Cell, Tie, LinkAcross, HasNoSvertex, FromVertex, level-of_opposite, IsNamedFrom, IsLinkedFrom, corner_at, IsTieAcross, Any, one-met}
use Rattle.law_geometry.specs.complex.Complexes.{Corner}
use Rattle.nef_complex.specs.declared.complex.Complex.{Complex as ProgramComplex}
use Rattle.nef_complex.specs.declared.complex.Vertex.{Vertex as ProgramVertex}
use Rattle.nef_facets.specs.Carriers.{IsPlaneAt, IsPlaneThrough}
use Rattle.nef_facets.proofs.AcrossLinks.{linked, unlinked, no-svertex}
use Rattle.nef_space.proofs.Lists.{is-at_within}
use Rattle.nef_smap.proofs.Lists.{map-within}

-- ---- the corner at what is first met
module _ (s : Set) (C : Complex) (S : Shows s C) (h : Form) (y : SpacePoint) (d b : Vector) (back : b ≡ opposite d) (m : PlaneMeet) (I : IsFirstInPlane C h y d m) where
  pub named-met : (o : Option ProgramCorner) → MatchOption o ((k : Corner) → IsCornerAt C h b m k → ⊥) (λ k. IsCornerAt C h b m (corner_of k)) → IsNamedFrom C h y d o
  named-met None f = λ k (n, J, c). f k (subst (λ (v : Vector). IsCornerAt C h v m k) (sym back) (one-met s C S h (opposite d) k y d m n I J c))
  named-met (Some k) c = (m, I, subst (λ (v : Vector). IsCornerAt C h v m (corner_of k)) back c)

pub vertex-some : (vs : List ProgramVertex) (k : ℕ) → k < length vs → (v : Vertex) × IsAt (map vertex_of vs) k v
vertex-some [] k l = absurd (omega (arith, l))
vertex-some (v ∷ vs) zero l = (vertex_of v, refl)
vertex-some (v ∷ vs) (suc k) l = vertex-some vs k (omega (arith, l))

-- ---- the item of a corner
module _ (s : Set) (c : ProgramComplex) (S : ShowsSet s c) (k : Corner) (v : Vertex) (x : Item) (corner : IsCorner (complex_of c) k v x) (h : Plane) (P : IsPlaneAt (complex_of c) h k) (f d : Vector)
    (dir : SameDirection (plane_dir (normal_of (form_of h))) f) (level : slope (form_of h) f ≡ pos 0) (back : d ≡ opposite f) where
  abbrev C : Complex
  C = complex_of c

  through : IsPlaneThrough h v.point (item_normal x)
  through = P v x corner

  pub level-inward : slope (form_of h) d ≡ pos 0
  level-inward = subst (λ (m : Vector). slope (form_of h) m ≡ pos 0) (sym back) (level-of_opposite (normal_of (form_of h)) f level)

  pub not-on : (OnItem v.map x d → ⊥) → (l : Corner) → LinkAcross C k l → ⊥
  not-on g l L = g (unlinked C k v x corner (form_of h) through.0 through.1 f d dir back l L).0

  module _ (on : OnItem v.map x d) where
    pub none-along : FromVertex C k.vertex (λ p. HasNoSvertex C p d)
    none-along u a =
        let e = is-at_one C.vertices k.vertex v u corner.vertex a in
        no-svertex s C S.shows k u x (record { vertex = a; item = subst (λ (w : Vertex). IsAt (items w.map) k.item x) e corner.item }) d (subst (λ (w : Vertex). OnItem w.map x d) e on)

    pub linked-from : (r : Option ProgramCorner) → FromVertex C k.vertex (λ p. IsNamedFrom C (form_of h) p d r) → IsLinkedFrom C k r
    linked-from r f' = by r (f' v corner.vertex)
      where
        by : (r : Option ProgramCorner) → IsNamedFrom C (form_of h) v.point d r → IsLinkedFrom C k r
        by None g = λ l L. g l (unlinked C k v x corner (form_of h) through.0 through.1 f d dir back l L).1
        by (Some l) g = linked C k v x corner (form_of h) through.0 through.1 f d dir back (corner_of l) on g

-- ---- sizes
pub small-back : (f d : Vector) → d ≡ opposite f → IsAtMost plane_dir_limit f → IsAtMost ray_limit d
small-back f d e a = subst (IsAtMost ray_limit) (sym e) (record { of_x = less f.x a.of_x; of_y = less f.y a.of_y; of_z = less f.z a.of_z })
  where
    less : (x : ℤ) → nat_abs x ≤ 2 ^ 35 + 2 ^ 11 → nat_abs (neg_ℤ x) ≤ 2 ^ 36
    less x h = omega (arith, ints, h)

-- ---- the numbers of what is linked
pub item-below : (c : ProgramComplex) (i : ℕ) (v : ProgramVertex) → slice_get c.vertices i ≡ Some v → (j : ℕ) (t : Tie) → IsTieAcross (complex_of c) i j t → j < length (items (map_of v.map))
item-below c i v e j t (f, L) =
    let M = subst (λ (x : Cell). LinkAcross (complex_of c) (corner_at x) (corner_at t.second)) f L in
    let listed = map-is_at vertex_of c.vertices i v e in
    is-at_within (items (map_of v.map)) j M.item (subst (λ (u : Vertex). IsAt (items u.map) j M.item) (is-at_one (complex_of c).vertices i M.vertex (vertex_of v) M.corner.vertex listed) M.corner.item)

pub vertex-below : (c : ProgramComplex) (i : ℕ) (t : Tie) → Any (IsTieAcross (complex_of c) i) t → i < length c.vertices
vertex-below c i t (j, (f, L)) =
    let M = subst (λ (x : Cell). LinkAcross (complex_of c) (corner_at x) (corner_at t.second)) f L in
    map-within vertex_of c.vertices i M.vertex M.corner.vertex
