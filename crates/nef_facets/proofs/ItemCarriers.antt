-- Each item lies in a carrier, and the items of the program's vertices.
use Rattle.nef_facets.proofs.Prelude.{◌≡◌, ℕ, ◌<◌, arith, ⊎_elim, pos, List, map, length, ap, sym, ◌∙◌, subst, IsAt, SpacePoint, Form, form_at, normal_of, Set, Vector, IsNormal, SameDirection, Item, items, item_normal, Vertex as PlainVertex, IsCorner, is-at_one, vertex_of, complex_of, AreHolders, map-is_at, is-at_map, is-at_within, form_of, point_of, Plane, map_of, Shows}
use Rattle.law_geometry.specs.complex.Complexes.{Corner as PlainCorner}
use Rattle.nef_complex.specs.declared.complex.Vertex.{Vertex}
use Rattle.nef_complex.specs.declared.complex.Complex.{Complex}
use Rattle.nef_complex.proofs.Carried.{carried}
use Rattle.nef_smap.proofs.Prelude.{cases_lt}
use Rattle.nef_smap.proofs.SideLists.{is-at_some}
use Rattle.nef_facets.specs.Carriers.{HasItem, IsPlaneAt}

-- the plane holds the point and has the normal
abbrev pub HoldsWith : Form → SpacePoint → Vector → Type 0
HoldsWith h p n = (form_at h p ≡ pos 0) × SameDirection (normal_of h) n

-- the program's carriers are in normal form, so one of them is the plane of an item
none-carried : (s : Set) (c : Complex) (k : PlainCorner) (u : Vertex) (x : Item) (n : Vector) → Shows s (complex_of c) → HasItem (complex_of c) k → IsAt c.vertices k.vertex u → IsAt (items (map_of u.map)) k.item x → item_normal x ≡ n
    → ((i : ℕ) (f : Form) → IsAt (map form_of c.carriers) i f → HoldsWith f (point_of u.point) n → ⊥) → ⊥
none-carried s c k u x n S h a b e none =
    let K = carried s (complex_of c) k (vertex_of u) x S (record { vertex = map-is_at vertex_of c.vertices k.vertex u a; item = b }) in
    let g = is-at_map form_of c.carriers K.number K.plane K.listed in
    let normal : IsNormal (normal_of K.plane) = subst (λ (f : Form). IsNormal (normal_of f)) g.2 g.0.normal in
    none K.number K.plane K.listed (K.through, subst (λ (m : Vector). SameDirection (normal_of K.plane) m) e (K.normal normal))

-- the carrier with this number holds the point and has the normal
abbrev pub CarriesWith : Complex → SpacePoint → Vector → ℕ → Type 0
CarriesWith c p n k = (h : Plane) × IsAt c.carriers k h × HoldsWith (form_of h) p n

-- where none of the carriers that hold the point has the normal, none of all does
none-held : (c : Complex) (p : SpacePoint) (n : Vector) (ns : List ℕ) → AreHolders c.carriers p p ns → ((j k : ℕ) → IsAt ns j k → CarriesWith c p n k → ⊥)
    → (i : ℕ) (f : Form) → IsAt (map form_of c.carriers) i f → HoldsWith f p n → ⊥
none-held c p n ns H none i f a q =
    let g = is-at_map form_of c.carriers i f a in
    let w = subst (λ (h : Form). HoldsWith h p n) (sym g.2) q in
    let here = g.1 in
    let r = H.all i (g.0, here, (w.0, w.0)) in
    none r.0 i r.1 (g.0, here, w)

-- some listed holder of the point is not yet passed over
pub holder-left : (s : Set) (c : Complex) (k : PlainCorner) (u : Vertex) (x : Item) (n : Vector) (ns : List ℕ) (place : ℕ) → Shows s (complex_of c) → HasItem (complex_of c) k → IsAt c.vertices k.vertex u → IsAt (items (map_of u.map)) k.item x → item_normal x ≡ n
    → AreHolders c.carriers (point_of u.point) (point_of u.point) ns → ((j i : ℕ) → j < place → IsAt ns j i → (w : Vertex) × IsAt c.vertices k.vertex w × CarriesWith c (point_of w.point) n i → ⊥) → place < length ns
holder-left s c k u x n ns place S h a b e H none = ⊎_elim (λ l. l)
    (λ f. absurd (none-carried s c k u x n S h a b e (none-held c (point_of u.point) n ns H (λ j i m w. none j i (let l = is-at_within ns j i m in omega (arith, l, f)) m (u, a, w)))))
    (cases_lt place (length ns))

-- the carrier with the number of a plane that has an item is that plane
pub carrier-plane : (c : Complex) (k : PlainCorner) (n : ℕ) (h : Plane) → (g : Plane) × IsAt c.carriers n g × IsPlaneAt (complex_of c) g k → IsAt c.carriers n h → IsPlaneAt (complex_of c) h k
carrier-plane c k n h (g, a, P) b = subst (λ (f : Plane). IsPlaneAt (complex_of c) f k) (is-at_one c.carriers n g h a b) P

-- ---- the program's vertices and items
module _ (c : Complex) (k : PlainCorner) (h : HasItem (complex_of c) k) where
  pub vertex-within : k.vertex < length c.vertices
  vertex-within = let r = is-at_map vertex_of c.vertices k.vertex h.0 h.2.vertex in is-at_within c.vertices k.vertex r.0 r.1

  module _ (u : Vertex) (a : IsAt c.vertices k.vertex u) where
    plain : IsAt (complex_of c).vertices k.vertex (vertex_of u)
    plain = let r = is-at_map vertex_of c.vertices k.vertex h.0 h.2.vertex in subst (λ (w : PlainVertex). IsAt (complex_of c).vertices k.vertex w) (sym r.2 ∙ ap vertex_of (is-at_one c.vertices k.vertex r.0 u r.1 a)) h.2.vertex

    pub item-within : k.item < length (items (map_of u.map))
    item-within =
        let e = is-at_one (complex_of c).vertices k.vertex h.0 (vertex_of u) h.2.vertex plain in
        is-at_within (items (map_of u.map)) k.item h.1 (subst (λ (w : PlainVertex). IsAt (items w.map) k.item h.1) e h.2.item)

    -- what holds of the item at this corner holds of all items at it
    pub of-item : (P : PlainVertex → Item → Type 0) (x : Item) → IsAt (items (map_of u.map)) k.item x → P (vertex_of u) x → (v : PlainVertex) (y : Item) → IsCorner (complex_of c) k v y → P v y
    of-item P x b p v y j =
        let e = is-at_one (complex_of c).vertices k.vertex (vertex_of u) v plain j.vertex in
        let f = is-at_one (items (map_of u.map)) k.item x y b (subst (λ (w : PlainVertex). IsAt (items w.map) k.item y) (sym e) j.item) in
        subst (λ (w : PlainVertex). P w y) e (subst (λ (r : Item). P (vertex_of u) r) f p)

-- an item of the vertex is one at its corner
pub corner-at : (c : Complex) (k : PlainCorner) (u : Vertex) → IsAt c.vertices k.vertex u → (x : Item) → IsAt (items (map_of u.map)) k.item x → IsCorner (complex_of c) k (vertex_of u) x
corner-at c k u a x b = record { vertex = map-is_at vertex_of c.vertices k.vertex u a; item = b }

-- each number below the count of a vertex's items is that of one
pub has-item : (c : Complex) (i j : ℕ) (u : Vertex) → IsAt c.vertices i u → j < length (items (map_of u.map)) → HasItem (complex_of c) (record { vertex = i; item = j })
has-item c i j u a l = let r = is-at_some (items (map_of u.map)) j l in (vertex_of u, r.0, record { vertex = map-is_at vertex_of c.vertices i u a; item = r.1 })
