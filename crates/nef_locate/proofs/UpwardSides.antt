-- The numbers of the sides that see the upward direction, or bound the sector of a svertex in which it lies.
use Rattle.nef_locate.proofs.Prelude.{◌≡◌, ℕ, ◌<◌, ℤ, pos, ◌<ℤ◌, arith, refl, ap, sym, ◌∙◌, length, Bool, true, false, Some, slice_get, subst, ints, length-map, Vector, IsDirection, SameDirection, dot, cross, triple, up, vector_of, sign_of, Sign, Label, IsAt, MapVertex, Arc, Map, Item, arc_item, items, OnItem, IsFree, item_pos, item_neg, Side, around_svertex, pos_item, neg_item, HasSide, dir_of, BoundsSector, at-arc, on-level, is-at_one, dir-at, SArc, SVertex, SphereMap, map_of, svertex_of, arc_of, IsSphereMap, IsSide, side_number, arounds_before, is-at_within, is-at_some, side-number, IsLastArc, IsNoArc, dot-comm, cross-turned}
use Rattle.nef_geo.proofs.InPlane.{up-direction}
use Rattle.nef_smap.proofs.Upward.{map-ahead, map-across}
use Rattle.nef_locate.proofs.Marks.{image-read}
use Rattle.nef_locate.proofs.NearSides.{begin-bounds, end-bounds, lone-bounds, no-arc}

-- ---- the upward direction lies in a face
module _ (m : SphereMap) (S : IsSphereMap m) where
  pub no-svertex : (k : ℕ) (v : MapVertex) → IsAt (map_of m).svertices k v → SameDirection v.dir up → ⊥
  no-svertex k v a w = map-across m S k v a (cross-turned v.dir up w.parallel)

  no-item : (k : ℕ) (x : Item) → IsAt (items (map_of m)) k x → OnItem (map_of m) x up → ⊥
  no-item k x a o = let z = on-level (map_of m) x up o in let p = map-ahead m S k x a in omega (arith, ints)

  pub up-free : IsFree (map_of m) up
  up-free = record { direction = up-direction; off_svertices = no-svertex; off_items = no-item }

-- ---- close to a svertex
pub some-svertex : (m : SphereMap) (k : ℕ) → k < length m.svertices → (v : MapVertex) × IsAt (map_of m).svertices k v
some-svertex m k l = is-at_some (map_of m).svertices k (let e = length-map m.svertices svertex_of in omega (arith, e, l))

module _ (m : SphereMap) (S : IsSphereMap m) (k : ℕ) (v : MapVertex) (a : IsAt (map_of m).svertices k v) where
  abbrev M : Map
  M = map_of m

  abbrev w : Vector
  w = dir_of (map_of m).svertices k

  off : IsDirection (cross v.dir up)
  off z = map-across m S k v a (cross-turned v.dir up z)

  ahead : (j : ℕ) (b : Arc) → IsAt (map_of m).arcs j b → pos 0 <ℤ dot b.normal up
  ahead j b l = map-ahead m S j (arc_item b) (at-arc (map_of m).arcs (map_of m).sloop j b l)

  all : (j : ℕ) (b : Arc) → IsAt (map_of m).arcs j b → j < length m.arcs
  all j b l = let e = length-map m.arcs arc_of in let h = is-at_within (map_of m).arcs j b l in omega (arith, e)

  abbrev pub IsNearSide : ℕ → Type 0
  IsNearSide r = (o : Side) × (l : Label) × IsSide (map_of m) r o l × BoundsSector (map_of m) k up o

  there : (b : Bool) (i : ℕ) → IsLastArc (map_of m) (dir_of (map_of m).svertices k) k b (length m.arcs) i → IsLastArc (map_of m) v.dir k b (length m.arcs) i
  there b i = subst (λ (d : Vector). IsLastArc (map_of m) d k b (length m.arcs) i) (dir-at (map_of m).svertices k v a)

  numbered : (o : Side) (l : Label) → HasSide (map_of m) o l → (r : ℕ) → r ≡ side_number (map_of m) o → IsSide (map_of m) r o l
  numbered o l h r e = subst (λ (n : ℕ). IsSide (map_of m) n o l) (sym e) (side-number (map_of m) o l h)

  pub near-begin : (i : ℕ) → IsLastArc (map_of m) (dir_of (map_of m).svertices k) k true (length m.arcs) i → (r : ℕ) → r ≡ side_number (map_of m) (pos_item i) → IsNearSide r
  near-begin i L r e =
      let x = arc_item L.arc in
      let h = at-arc (map_of m).arcs (map_of m).sloop i L.arc L.listed in
      let V = S.valid in
      (pos_item i, item_pos x, numbered (pos_item i) (item_pos x) (x, h, refl) r e, begin-bounds (map_of m) V.shaped k v a up off ahead (length m.arcs) all i (there true i L))

  pub near-end : (i : ℕ) → IsNoArc (map_of m) k true (length m.arcs) → IsLastArc (map_of m) (dir_of (map_of m).svertices k) k false (length m.arcs) i
      → (r : ℕ) → r ≡ side_number (map_of m) (neg_item i) → IsNearSide r
  near-end i N L r e =
      let x = arc_item L.arc in
      let h = at-arc (map_of m).arcs (map_of m).sloop i L.arc L.listed in
      let V = S.valid in
      (neg_item i, item_neg x, numbered (neg_item i) (item_neg x) (x, h, refl) r e, end-bounds (map_of m) V.shaped k v a up off ahead (length m.arcs) all i N (there false i L))

  pub near-alone : IsNoArc (map_of m) k true (length m.arcs) → IsNoArc (map_of m) k false (length m.arcs) → (r : ℕ) → r ≡ arounds_before (map_of m).svertices k → IsNearSide r
  near-alone N O r e =
      let V = S.valid in
      let none = no-arc (map_of m) V.shaped k v a up off ahead (length m.arcs) all N O in
      let l = V.shaped.around_lone k v a none in
      (around_svertex k, l.0, numbered (around_svertex k) l.0 (v, a, l.1) r e, lone-bounds (map_of m) V.shaped k v a up off ahead none)

-- ---- the turn between two arcs at a svertex, as it is read
module _ (m : SphereMap) where
  -- all arcs lie on one side of the upward direction
  pub arc-upward : IsSphereMap m → (j : ℕ) (b : Arc) → IsAt (map_of m).arcs j b → pos 0 <ℤ dot up b.normal
  arc-upward S j b l = let h = map-ahead m S j (arc_item b) (at-arc (map_of m).arcs (map_of m).sloop j b l) in let e = dot-comm up b.normal in omega (arith, ints)

  -- the sign that is read of the turn from one arc to another is that of the turn
  pub turn-read : (s i : ℕ) (u : SVertex) (b : SArc) (x : Arc) (n : Vector) (r : Sign) → slice_get m.svertices s ≡ Some u → slice_get m.arcs i ≡ Some b → IsAt (map_of m).arcs i x
      → r ≡ sign_of (triple (vector_of u.dir) (vector_of b.normal) n) → r ≡ sign_of (triple (dir_of (map_of m).svertices s) x.normal n)
  turn-read s i u b x n r f g h e =
      let w = dir-at (map_of m).svertices s (svertex_of u) (image-read svertex_of m.svertices s u f) in
      let y = is-at_one (map_of m).arcs i (arc_of b) x (image-read arc_of m.arcs i b g) h in
      e ∙ ap (λ (v : Vector). sign_of (triple v (vector_of b.normal) n)) (sym w) ∙ ap (λ (z : Arc). sign_of (triple (dir_of (map_of m).svertices s) z.normal n)) y
