-- The maps of a set whose carriers are planes of the program are within the limits: their svertices are crossings of two carriers, and their items lie in one.
use Rattle.nef_statement.proofs.text.existence.Prelude.{◌≡◌, ℕ, ◌*◌, ◌<◌, ◌≤◌, ◌^◌, lit≤, arith, sym, ◌⊎◌, inl, inr, ⊎_elim, List, length, map, subst, mul-le, length-map, pairs, lies-pairs, Lies, normal_limit, svertex_limit, Form, normal_of, Set, Vector, cross, IsZero, IsDirection, SameDirection, IsOpposite, IsNormal, IsPrimitive, IsAt, MapVertex, Item, items, item_normal, Beside, same_way, other_way, beside, normal-direction, direction-decided, lowest-same, Vertex, Edge, Complex, Shows, near_point, near-one, plane-turned, plane-slope, onward, onward-way, form_of, Plane, cross_size, normal_within, is-at_map, is-at_within, carried, AreCarried, cross-turned, parallel-both, SameDirection-turned, SameDirection-trans, dir-self, crossed, opposite-cross, opposite-way, lies-at, cross-direction_turned}
use Rattle.law_geometry.proofs.near.Supports.{edge-support}
use Rattle.law_geometry.proofs.sphere.cones.Lowest.{lowest}
use Rattle.law_geometry.proofs.complex.Edges.{near-flat}
use Rattle.nef_statement.proofs.text.existence.Few.{Once, few, length-pairs}
use Rattle.nef_statement.proofs.text.existence.Lifted.{IsShortMap, IsShortVector}
use Rattle.nef_statement.proofs.text.existence.Planes.{normals-parallel}
use Rattle.nef_statement.proofs.text.existence.Reduced.{lowest-small}

-- ---- crossings of planes
-- the other way round
turned-way : (m n d : Vector) → IsOpposite (cross m n) d → SameDirection (cross n m) d
turned-way m n d w = subst (λ (v : Vector). SameDirection v d) (opposite-cross m n) (opposite-way (cross m n) d w)

abbrev dir-of-svertex : MapVertex → Vector
dir-of-svertex u = u.dir

-- a vector in lowest terms along v, if that is a direction
low : Vector → Vector
low v = ⊎_elim (λ i. let l = lowest v i in l.direction) (λ f. v) (direction-decided v)

low-is : (v d : Vector) → SameDirection v d → IsDirection v → IsPrimitive d → low v ≡ d
unfolding low
low-is v d w i p = by (direction-decided v)
  where
    by : (o : IsDirection v ⊎ (IsDirection v → ⊥)) → ⊎_elim (λ i. let l = lowest v i in l.direction) (λ f. v) o ≡ d
    by (inl j) = let l = lowest v j in lowest-same l.direction d (SameDirection-trans l.direction v d (SameDirection-turned v l.direction l.same) w) l.primitive p
    by (inr f) = absurd (f i)

-- the crossings of the planes in lowest terms
abbrev crossing : Plane → Plane → Vector
crossing g h = low (cross (normal_of (form_of g)) (normal_of (form_of h)))

module _ (s : Set) (hs : List Plane) (A : AreCarried s hs) (gs : List Plane) (vs : List Vertex) (es : List Edge) (S : Shows s (record { carriers = map form_of gs; vertices = vs; edges = es })) where
  abbrev C : Complex
  C = record { carriers = map form_of gs; vertices = vs; edges = es }

  -- two of the planes cross along d
  record IsCrossing (d : Vector) : Type 0 where
    first : Plane
    second : Plane
    first_in : Lies hs first
    second_in : Lies hs second
    direction : IsDirection (cross (normal_of (form_of first)) (normal_of (form_of second)))
    parallel : IsZero (cross (cross (normal_of (form_of first)) (normal_of (form_of second))) d)

  module _ (i : ℕ) (v : Vertex) (a : IsAt vs i v) where
    svertex-crossing : (k : ℕ) (u : MapVertex) → IsAt v.map.svertices k u → IsCrossing u.dir
    svertex-crossing k u b =
        let d = u.dir in
        let hd : IsDirection d = (S.cones i v a).valid.shaped.svertex_dirs k u b in
        let y = onward v.point d in
        let w = onward-way v.point d hd in
        let q = near_point s v.point y in
        let E = edge-support s q (near-one s C S i k v u a b y w) in
        let flat = (E.flat_in d).0 (near-flat s v.point d y w) in
        let g = A E.first E.first_listed in
        let h = A E.second E.second_listed in
        let m = normal_of (form_of g.0) in let n = normal_of (form_of h.0) in
        record {
          first = g.0;
          second = h.0;
          first_in = g.1;
          second_in = h.1;
          direction = λ z.
              let to_second = parallel-both m (normal_of E.first) n g.2.is_plane (cross-turned (normal_of E.first) m (normals-parallel (form_of g.0) E.first g.2)) z in
              let to_first = parallel-both n (normal_of E.first) (normal_of E.second) h.2.is_plane (cross-turned (normal_of E.first) n to_second) (cross-turned (normal_of E.second) n (normals-parallel (form_of h.0) E.second h.2)) in
              E.independent to_first;
          parallel = crossed m n d (plane-slope E.first (form_of g.0) d (plane-turned (form_of g.0) E.first g.2) flat.0) (plane-slope E.second (form_of h.0) d (plane-turned (form_of h.0) E.second h.2) flat.1);
        }

    pub svertex-short : (k : ℕ) (u : MapVertex) → IsAt v.map.svertices k u → IsShortVector svertex_limit u.dir
    svertex-short k u b =
        let X = svertex-crossing k u b in
        let p = (S.maps_ordered i v a).dirs_lowest k u b in
        record {
          small = lowest-small (cross (normal_of (form_of X.first)) (normal_of (form_of X.second))) u.dir X.direction X.parallel p svertex_limit
              (cross_size normal_limit normal_limit (normal_of (form_of X.first)) (normal_of (form_of X.second)) (normal_within X.first) (normal_within X.second));
          direction = (S.cones i v a).valid.shaped.svertex_dirs k u b;
          primitive = p;
        }

    pub item-short : (k : ℕ) (x : Item) → IsAt (items v.map) k x → IsShortVector normal_limit (item_normal x)
    item-short k x b =
        let K = carried s C (record { vertex = i; item = k }) v x S (record { vertex = a; item = b }) in
        let g = is-at_map form_of gs K.number K.plane K.listed in
        let w : SameDirection (normal_of (form_of g.0)) (item_normal x) = subst (λ (f : Form). IsNormal (normal_of f) → SameDirection (normal_of f) (item_normal x)) (sym g.2) K.normal g.0.normal in
        let p = (S.maps_ordered i v a).normals_lowest k x b in
        record {
          small = lowest-small (normal_of (form_of g.0)) (item_normal x) (normal-direction (normal_of (form_of g.0)) g.0.normal) w.parallel p normal_limit (normal_within g.0);
          direction = normal-direction (item_normal x) ((S.cones i v a).valid.shaped.normals k x b);
          primitive = p;
        }

    -- ---- how many svertices there are
    svertex-listed : (k : ℕ) (u : MapVertex) → IsAt v.map.svertices k u → Lies (pairs crossing hs hs) u.dir
    svertex-listed k u b = by (beside c u.dir X.direction hd X.parallel)
      where
        X : IsCrossing u.dir
        X = svertex-crossing k u b

        m : Vector
        m = normal_of (form_of (svertex-crossing k u b).first)

        n : Vector
        n = normal_of (form_of (svertex-crossing k u b).second)

        c : Vector
        c = cross (normal_of (form_of (svertex-crossing k u b).first)) (normal_of (form_of (svertex-crossing k u b).second))

        hd : IsDirection u.dir
        hd = (S.cones i v a).valid.shaped.svertex_dirs k u b

        p : IsPrimitive u.dir
        p = (S.maps_ordered i v a).dirs_lowest k u b

        by : Beside c u.dir → Lies (pairs crossing hs hs) u.dir
        by (same_way w) = subst (Lies (pairs crossing hs hs)) (low-is c u.dir w X.direction p) (lies-pairs crossing hs hs X.first X.second X.first_in X.second_in)
        by (other_way w) = subst (Lies (pairs crossing hs hs)) (low-is (cross n m) u.dir (turned-way m n u.dir w) (cross-direction_turned m n X.direction) p) (lies-pairs crossing hs hs X.second X.first X.second_in X.first_in)

    svertices-once : Once (map dir-of-svertex v.map.svertices)
    svertices-once j k d b c =
        let t = is-at_map dir-of-svertex v.map.svertices j d b in
        let u = is-at_map dir-of-svertex v.map.svertices k d c in
        let hd : IsDirection d = subst IsDirection t.2 ((S.cones i v a).valid.shaped.svertex_dirs j t.0 t.1) in
        (S.cones i v a).valid.shaped.svertices_apart j k t.0 u.0 t.1 u.1 (subst (λ (x : Vector). SameDirection x u.0.dir) (sym t.2) (subst (SameDirection d) (sym u.2) (dir-self d hd)))

    svertices-few : length v.map.svertices ≤ length hs * length hs
    svertices-few =
        let l = few (map dir-of-svertex v.map.svertices) (pairs crossing hs hs) svertices-once
        (λ d m. let k = lies-at (map dir-of-svertex v.map.svertices) d m in let u = is-at_map dir-of-svertex v.map.svertices k.0 d k.1 in subst (Lies (pairs crossing hs hs)) u.2 (svertex-listed k.0 u.0 u.1)) in
        let e = length-pairs crossing hs hs in
        let f = length-map v.map.svertices dir-of-svertex in
        omega (arith, l, e, f)

    pub short-map : length hs ≤ 2 ^ 32 → IsShortMap v.map
    short-map l = record {
      svertices = svertex-short;
      normals = item-short;
      sources = λ k b h. let B = (S.cones i v a).valid.shaped.arcs_between k b h in within b.source B.source B.has_source;
      targets = λ k b h. let B = (S.cones i v a).valid.shaped.arcs_between k b h in within b.target B.target B.has_target;
    }
      where
        within : (k : ℕ) (u : MapVertex) → IsAt v.map.svertices k u → k < 2 ^ 64
        within k u b =
            let m = is-at_within v.map.svertices k u b in
            let f = svertices-few in
            let p : length hs * length hs ≤ 2 ^ 32 * 2 ^ 32 = mul-le (length hs) (length hs) (2 ^ 32) (2 ^ 32) l l in
            let q : 2 ^ 32 * 2 ^ 32 ≤ 2 ^ 64 = lit≤ tt in
            omega (arith, m, f, p, q)
