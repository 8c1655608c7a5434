-- Each item lies in a carrier.
use Rattle.nef_complex.proofs.Prelude.{◌≡◌, ℕ, pos, List, map, sym, ◌∙◌, ⊎_elim, subst, sign, nought-is, nought-or, SpacePoint, Form, form_at, normal_of, Set, dot, IsNormal, SameDirection, form_of, point_of, Plane, step-within, reach_all, carriers, keeps-all, ahead, near-ahead, facet-support, by_side, IsAt, Item, item_normal, item_pos, item_mark, item_neg, near-item, item-point, map-is_at, is-at_map, Corner as PlainCorner, IsCorner, Shows, near-germ, in-facet, plane-turned, plane-point, plane-slope, Vertex, vertex_of, ItemsAreHeld, SameDirection-turned}
use Rattle.law_geometry.proofs.near.Germs.{sample, sample-short}
use Rattle.law_geometry.specs.complex.Complexes.{Vertex as PlainVertex, Edge as PlainEdge, Complex as PlainComplex}
use Rattle.law_geometry.proofs.complex.Cones.{FlatAre}
use Rattle.law_geometry.proofs.complex.FacetSides.{flats-one}

-- a carrier that holds the vertex and has the item's normal, where its normal is one in normal form
pub record IsCarried (C : PlainComplex) (v : PlainVertex) (x : Item) : Type 0 where
  pub number : ℕ
  pub plane : Form
  pub listed : IsAt C.carriers number plane
  pub through : form_at plane v.point ≡ pos 0
  pub normal : IsNormal (normal_of plane) → SameDirection (normal_of plane) (item_normal x)

pub carried : (s : Set) (C : PlainComplex) (k : PlainCorner) (v : PlainVertex) (x : Item) → Shows s C → IsCorner C k v x → IsCarried C v x
carried s C k v x S c =
    let K = S.cones k.vertex v c.vertex in
    let o = item-point v.map K.valid.shaped k.item x c.item in
    let q : SpacePoint = ahead s v.point o.0 in
    let F = in-facet s C S k v x c q (λ e.
    let l = by_side (item_pos x) (item_mark x) (item_neg x) (sign (dot (item_normal x) e)) in
    (near-ahead s v.point o.0 e l).1 (near-germ v.map s v.point K o.0 e l (near-item v.map K.valid o.0 k.item x c.item o.1 e))) in
    let H = facet-support s q F.dim in
    let f : Form = H.plane in
    -- a carrier that is off the vertex is off the points close to it
    let close = step-within (reach_all (carriers s) v.point) v.point o.0 (sample s v.point o.0) (sample-short s v.point o.0) in
    let zero : form_at f v.point ≡ pos 0 = ⊎_elim (λ z. z)
    (λ n. absurd (n (nought-is (form_at f v.point) (sym (keeps-all (carriers s) v.point q close f H.listed (λ e. n (nought-is (form_at f v.point) e))) ∙ H.passes)))) (nought-or (form_at f v.point)) in
    let N = S.carriers.all f H.listed in
    let g : Form = N.1 in
    let flat : FlatAre s q (normal_of g) = λ d. (λ h. plane-slope f g d (plane-turned g f N.3) ((H.flat_in d).0 h), λ z. (H.flat_in d).1 (plane-slope g f d N.3 z)) in
    record {
      number = N.0;
      plane = g;
      listed = N.2;
      through = plane-point f g v.point (plane-turned g f N.3) zero;
      normal = λ n. flats-one s q (normal_of g) (item_normal x) n (K.valid.shaped.normals k.item x c.item) flat F.flat;
    }

-- the program's carriers are in normal form, so one of them is the plane of an item
pub items-held : (s : Set) (hs : List Plane) (vs : List Vertex) (es : List PlainEdge) → Shows s (record { carriers = map form_of hs; vertices = map vertex_of vs; edges = es }) → ItemsAreHeld hs vs
items-held s hs vs es S k j v x a b =
    let C : PlainComplex = record { carriers = map form_of hs; vertices = map vertex_of vs; edges = es } in
    let K = carried s C (record { vertex = k; item = j }) (vertex_of v) x S (record { vertex = map-is_at vertex_of vs k v a; item = b }) in
    let g = is-at_map form_of hs K.number K.plane K.listed in
    let zero = subst (λ (f : Form). form_at f (point_of v.point) ≡ pos 0) (sym g.2) K.through in
    let way = subst (λ (f : Form). IsNormal (normal_of f) → SameDirection (normal_of f) (item_normal x)) (sym g.2) K.normal in
    (K.number, g.0, g.1, zero, SameDirection-turned (normal_of (form_of g.0)) (item_normal x) (way g.0.normal))
