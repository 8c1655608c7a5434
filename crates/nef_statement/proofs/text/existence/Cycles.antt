-- The cycles of the facets of a complex that shows a set exist: the orbits of its next corners.
use Rattle.nef_statement.proofs.text.existence.Prelude.{◌≡◌, ℕ, zero, suc, ◌+◌, ◌<◌, ◌≤◌, arith, refl, sym, ◌∙◌, inl, inr, ⊎_elim, List, ◌∷◌, ◌++◌, length, Bool, true, false, subst, replicate, set, [], length-set, IsAt, Set, Item, arc_item, sloop_item, items, Arc, arc-at, at-arc, ends-of, Vertex, Edge, Complex, Corner as PlainCorner, IsCorner, Shows, svertex-edge, is-at_one, is-at_some, corner_of, Leads, NextCorner, Cycles, IsFacetOf, FacetNumbers, cycle_corners, Cycle, corners_at, corner_from, HasItem, AreCorners, AreFirsts, AreNext, IsStep, AreOrbits, AreCornersOf, AreNumberedOrbits, IsCycleOf, AreCycleRows, is-at_within, eq-decided}
use Rattle.nef_complex.specs.declared.complex.Corner.{Corner}
use Rattle.nef_facets.proofs.CornerLists.{AreCornersTo, no-corners, corners-next, all-corners}
use Rattle.nef_facets.proofs.CyclesOf.{next-step, are-numbered, facet-cycles}
use Rattle.nef_facets.proofs.EdgeViews.{edge-from}
use Rattle.nef_facets.proofs.FirstCorners.{AreFirstsTo, firsts-none, firsts-same, firsts-new, firsts-all, item-facet}
use Rattle.nef_facets.proofs.Grouping.{grouped-none, grouped-more}
use Rattle.nef_facets.proofs.NextCorners.{next-arc}
use Rattle.nef_facets.proofs.Walks.{unmarked_count, fewer, IsWalk, walk-none, walk-more, walk-back, AreOrbitsTo, orbits-begun, orbits-pass, orbits-more, orbits-all}
use Rattle.nef_statement.proofs.text.existence.Rows.{Made, make-list, make-each}

-- ---- corners
corners-to : (C : Complex) (n : ℕ) → n ≤ length C.vertices → (ks : List Corner) × AreCornersTo C n ks
corners-to C zero l = ([], no-corners C)
corners-to C (suc n) l =
    let (ks, A) = corners-to C n (omega (arith, l)) in
    let v = is-at_some C.vertices n (omega (arith, l)) in
    let e : n + 1 ≡ suc n = omega arith in
    (ks ++ corners_at n (length (items v.0.map)), subst (λ m. AreCornersTo C m (ks ++ corners_at n (length (items v.0.map)))) e (corners-next C n ks A v.0 (length (items v.0.map)) v.1 refl))

pub corners : (C : Complex) → (ks : List Corner) × AreCorners C ks
corners C = let (ks, A) = corners-to C (length C.vertices) (omega arith) in (ks, all-corners C (length C.vertices) ks A (λ k v a. is-at_within C.vertices k v a))

-- ---- the next corner
plain : ℕ → ℕ → PlainCorner
plain i n = record { vertex = i; item = n }

module _ (s : Set) (C : Complex) (S : Shows s C) where
  next-along : (k : PlainCorner) (v : Vertex) (r : Arc) → IsAt C.vertices k.vertex v → IsAt v.map.arcs k.item r → (n : ℕ) (e : Edge) → IsAt C.edges n e → (j b : ℕ) → Leads e k.vertex r.source j b → (l : PlainCorner) × HasItem C l × NextCorner C k l
  next-along k v r a h n e at j b leads =
      let V = edge-from s C S n e at k.vertex r.source j b leads in
      let f = is-at_one C.vertices k.vertex v V.from a V.is_from in
      let A = next-arc s C S k.vertex r.source j b V k.item r (subst (λ (w : Vertex). IsAt w.map.arcs k.item r) f h) refl in (
        record { vertex = j; item = A.number },
        (V.to, arc_item A.arc, record { vertex = V.is_to; item = at-arc V.to.map.arcs V.to.map.sloop A.number A.arc A.listed }),
        inl (record {
          here = v;
          there = V.to;
          this_arc = r;
          that_arc = A.arc;
          is_here = a;
          is_there = V.is_to;
          is_this = h;
          is_that = A.listed;
          number = n;
          edge = e;
          is_edge = at;
          leads = subst (λ (x : ℕ). Leads e k.vertex r.source j x) (sym A.target) leads;
          one_normal = A.one_normal;
        }),
      )

  next-corner : (k : PlainCorner) (v : Vertex) (x : Item) → IsCorner C k v x → (l : PlainCorner) × HasItem C l × NextCorner C k l
  next-corner k v (sloop_item l) c = (k, (v, sloop_item l, c), inr (refl, v, l, c))
  next-corner k v (arc_item r) c =
      let M = (S.cones k.vertex v c.vertex).valid.shaped in
      let b = arc-at v.map.arcs v.map.sloop k.item r c.item in
      let X = ends-of v.map M k.item r b in
      let E = svertex-edge s C S k.vertex r.source v X.source c.vertex X.has_source in
      ⊎_elim (λ o. next-along k v r c.vertex b E.0 E.1 E.2 E.1.high E.1.high_svertex (inl (o.0, o.1, refl, refl))) (λ o. next-along k v r c.vertex b E.0 E.1 E.2 E.1.low E.1.low_svertex (inr (o.0, o.1, refl, refl))) E.3

  pub next-corners : (ks : List Corner) → AreCorners C ks → (ns : List ℕ) × AreNext C ks ns
  next-corners ks K = by (make-each ks After next)
    where
      After : Corner → ℕ → Type 0
      After x j = (y : Corner) × IsAt ks j y × NextCorner C (corner_of x) (corner_of y)

      next : (k : ℕ) (x : Corner) → IsAt ks k x → (j : ℕ) × After x j
      next k x a =
          let (v, y, c) = K.each k x a in
          let (l, h, n) = next-corner (corner_of x) v y c in
          let p = K.all l h in
          (p.0, (corner_from l, p.1, n))

      by : Made (length ks) (λ i j. (x : Corner) × IsAt ks i x × After x j) → (ns : List ℕ) × AreNext C ks ns
      by M = (
        M.list,
        record {
          as_many = M.as_many;
          each = λ i l.
              let (j, a) = is-at_some M.list i (let e = M.as_many in omega (arith, l, e)) in
              let (x, b, f) = M.each i j a in
              (j, x, f.0, b, a, f.1, f.2);
        },
      )

-- ---- orbits
record Walked (ns : List ℕ) (start : ℕ) (old : List Bool) : Type 0 where
  list : List ℕ
  now : ℕ
  marks : List Bool
  walk : IsWalk ns start old list now marks
  stop : IsAt marks now true

module _ (ns : List ℕ) (S : IsStep ns) (start : ℕ) (old : List Bool) (as-many : length old ≡ length ns) where
  walk-on : (fuel : ℕ) (xs : List ℕ) (now : ℕ) (bs : List Bool) → unmarked_count bs ≤ fuel → IsWalk ns start old xs now bs → Walked ns start old
  walk-on zero xs now bs l W = by (is-at_some bs now (let h = W.within in let e = W.as_many in omega (arith, h, e)))
    where
      by : ((b : Bool) × IsAt bs now b) → Walked ns start old
      by (true, a) = record { list = xs; now = now; marks = bs; walk = W; stop = a }
      by (false, a) = absurd (let f = fewer bs now a in omega (arith, f, l))
  walk-on (suc n) xs now bs l W = by (is-at_some bs now (let h = W.within in let e = W.as_many in omega (arith, h, e))) (λ ys m cs k V. walk-on n ys m cs k V)
    where
      by : ((b : Bool) × IsAt bs now b) → ((ys : List ℕ) (m : ℕ) (cs : List Bool) → unmarked_count cs ≤ n → IsWalk ns start old ys m cs → Walked ns start old) → Walked ns start old
      by (true, a) on = record { list = xs; now = now; marks = bs; walk = W; stop = a }
      by (false, a) on =
          let y = is-at_some ns now W.within in
          on (xs ++ now ∷ []) y.0 (set bs now true) (let f = fewer bs now a in omega (arith, f, l)) (walk-more ns S start old as-many xs now bs W a y.0 y.1)

record OrbitsTo (ns : List ℕ) (start : ℕ) : Type 0 where
  list : List (List ℕ)
  marks : List Bool
  are : AreOrbitsTo ns start list marks

module _ (ns : List ℕ) (S : IsStep ns) where
  one-more : (start : ℕ) → start < length ns → OrbitsTo ns start → OrbitsTo ns (start + 1)
  one-more start l O = by (is-at_some O.marks start (let e = O.are.as_many in omega (arith, l, e)))
    where
      by : ((b : Bool) × IsAt O.marks start b) → OrbitsTo ns (start + 1)
      by (true, a) = record { list = O.list; marks = O.marks; are = orbits-pass ns S start O.list O.marks O.are a }
      by (false, a) =
          let e = O.are.as_many in
          let W = walk-on ns S start O.marks e (unmarked_count O.marks) [] start O.marks (omega arith) (walk-none ns start O.marks e a) in
          let B = walk-back ns S start O.marks a O.are.closed W.now W.marks W.stop W.list W.walk in
          let V = W.walk in
          record { list = O.list ++ W.list ∷ []; marks = W.marks; are = orbits-more ns S start O.list O.marks O.are W.list W.marks l B V.marked V.apart V.as_many }

  orbits-to : (start : ℕ) → start ≤ length ns → OrbitsTo ns start
  orbits-to zero l = record { list = []; marks = replicate (length ns) false; are = orbits-begun ns (replicate (length ns) false) refl }
  orbits-to (suc n) l = let e : n + 1 ≡ suc n = omega arith in subst (OrbitsTo ns) e (one-more n (omega (arith, l)) (orbits-to n (omega (arith, l))))

  pub orbits : (xs : List (List ℕ)) × AreOrbits ns xs
  orbits = let O = orbits-to (length ns) (omega arith) in (O.list, orbits-all ns (length ns) O.list O.marks O.are (omega arith))

-- ---- the first corners of facets
module _ (C : Complex) (rows : List (List ℕ)) (N : FacetNumbers C rows) (ks : List Corner) (A : AreCorners C ks) where
  firsts-to : (i : ℕ) → i ≤ length ks → (js : List Corner) × AreFirstsTo rows ks i js
  firsts-to zero l = ([], firsts-none rows ks)
  firsts-to (suc i) l =
      let (js, F) = firsts-to i (omega (arith, l)) in
      let (k, a) = is-at_some ks i (omega (arith, l)) in
      let (m, f) = item-facet C rows N (corner_of k) (A.each i k a) in
      let e : i + 1 ≡ suc i = omega arith in
      ⊎_elim
      (λ d. (js ++ k ∷ [], subst (λ n. AreFirstsTo rows ks n (js ++ k ∷ [])) e (firsts-new C rows N ks A i js F k a m f d)))
      (λ d. (js, subst (λ n. AreFirstsTo rows ks n js) e (firsts-same C rows N ks A i js F k a m f d))) (eq-decided m (length js))

  pub firsts : (js : List Corner) × AreFirsts rows ks js
  firsts = let (js, F) = firsts-to (length ks) (omega arith) in (js, firsts-all rows ks (length ks) js F (omega arith))

-- ---- the cycles of each facet
module _ (rows : List (List ℕ)) (ks : List Corner) (orbits : List (List ℕ)) (count : ℕ) (N : AreNumberedOrbits rows ks orbits count) where
  corners-of : (m : ℕ) (x : List ℕ) → IsAt orbits m x → (xs : List Corner) × AreCornersOf ks x xs
  corners-of m x a =
      let M = make-each x (λ (i : ℕ) (y : Corner). IsAt ks i y) (λ k i b. is-at_some ks i (N.within m k i x a b)) in
      (M.list, record { as_many = M.as_many; each = λ k i y b c. let (j, d, e) = M.each k y c in subst (λ n. IsAt ks n y) (is-at_one x k j i d b) e })

  cycle-of : (m : ℕ) → m < length orbits → (n : ℕ) × (n < count) × (y : Cycle) × IsCycleOf rows ks orbits n m y
  cycle-of m l =
      let (x, a) = is-at_some orbits m l in
      let (xs, A) = corners-of m x a in
      let (i, b) = is-at_some x 0 (N.some m x a) in
      let (k, c) = is-at_some ks i (N.within m 0 i x a b) in
      let (n, f) = N.number i k c in
      (n, N.below i k n c f, record { corners = xs }, record { orbit = x; listed = a; corners = A; first = i; is_first = b; corner = k; is_corner = c; number = f })

  record Grouped (i : ℕ) : Type 0 where
    list : List (List Cycle)
    as_many : length list ≡ count
    are : AreCycleRows rows ks orbits i list

  none : (c : ℕ) → (ys : List (List Cycle)) × (length ys ≡ c) × ((n : ℕ) (row : List Cycle) → IsAt ys n row → row ≡ [])
  none c = let M = make-list c (λ (k : ℕ) (r : List Cycle). r ≡ []) (λ k l. ([], refl)) in (M.list, M.as_many, M.each)

  grouped-to : (i : ℕ) → i ≤ length orbits → Grouped i
  grouped-to zero l = let (ys, e, f) = none count in record { list = ys; as_many = e; are = grouped-none rows ks orbits ys f }
  grouped-to (suc i) l =
      let G = grouped-to i (omega (arith, l)) in
      let (n, h, y, Y) = cycle-of i (omega (arith, l)) in
      let (row, a) = is-at_some G.list n (let e = G.as_many in omega (arith, h, e)) in
      let e : i + 1 ≡ suc i = omega arith in
      subst Grouped e (record { list = set G.list n (row ++ y ∷ []); as_many = length-set G.list n (row ++ y ∷ []) ∙ G.as_many; are = grouped-more rows ks orbits i G.list G.are n row a y Y })

  pub grouped : (ys : List (List Cycle)) × (length ys ≡ count) × AreCycleRows rows ks orbits (length orbits) ys
  grouped = let G = grouped-to (length orbits) (omega arith) in (G.list, G.as_many, G.are)

-- THE CYCLES OF FACETS EXIST
pub cycles-exist : (s : Set) (C : Complex) → Shows s C → (rows : List (List ℕ)) → FacetNumbers C rows → (ks : List Corner) → AreCorners C ks → (js : List Corner) → AreFirsts rows ks js
    → (ys : List (List Cycle)) × (length ys ≡ length js) × ((n : ℕ) (row : List Cycle) → IsAt ys n row → Cycles C (λ k. IsFacetOf rows k n) (cycle_corners row))
cycles-exist s C S rows N ks K js F =
    let (ns, A) = next-corners s C S ks K in
    let (xs, O) = orbits ns (next-step s C ks ns S K A) in
    let (ys, e, G) = grouped rows ks xs (length js) (are-numbered C rows ks ns xs (length js) N K A O (λ i k n a f. F.all i n k a f)) in
    (ys, e, λ n row a. facet-cycles C rows N ks K ns A xs O ys G n row a)
