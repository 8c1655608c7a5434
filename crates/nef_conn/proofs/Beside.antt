-- Vertices of y's line beside which z lies, on an item of the plane; and how one comes from one of them to the next.
use Rattle.nef_conn.proofs.Prelude.{◌≡◌, ℕ, ℤ, pos, ◌<ℤ◌, ◌≤ℤ◌, arith, refl, sym, ◌∙◌, ◌⊎◌, inl, inr, ⊎_elim, subst, ints, FlatDim, SpacePoint, Form, form_at, normal_of, slope, SamePoint, toward, IsBetween, Set, Vector, opposite, dot, cross, triple, IsZero, IsDirection, SameDirection, FlatDim-one, between-turned, between-inner, same-point_sym, between-same, toward-point, point-toward, IsAt, MapVertex, Item, item_normal, OnItem, same-plus, turn-last, turn-same, Vertex, Complex, Corner, IsCorner, Shows, plane-way, between-way, near_point, near-between, plane-ahead, beside-vertex, item-seen, ahead-same, through-level, toward-turned, angle, turn_form, turn-at, angle-turned, angle-self, between-plus, Cut, HalfEdge, plane-between, dot-zero, triple-dot, triple-turned, SameDirection-turned, SameDirection-trans, dir-self, back-triple}
use Rattle.nef_conn.proofs.Sweep.{minus-any, cut-of}
use Rattle.nef_conn.proofs.FacetStrip.{SideWithin}
use Rattle.nef_conn.proofs.Sector.{sector_end, Through, Stops, turned}
use Rattle.nef_conn.proofs.Leads.{LeadsFrom, leads}
use Rattle.nef_conn.proofs.FacetStrip.{Strip, Near_line, Far_line, m-some, turn-k, strip, near-turn, short-of, turn-z, angle-ahead, angle-over, angle-under, On_far_line, at_start, ahead_of, behind_of, on-far_line, fan, not-at, not-behind}
use Rattle.law_geometry.proofs.near.Same.{dim-same}
use Rattle.nef_space.proofs.Elementary.{same-itself}

-- the same turns by the same ways
turn-from : (m a b f : Vector) → IsDirection m → IsDirection f → SameDirection a b → pos 0 <ℤ triple m a f → pos 0 <ℤ triple m b f
turn-from m a b f i j w h = same-plus (triple m a f) (triple m b f) (turn-same m m a b f f (dir-self m i) w (dir-self f j)) h

pub turn-to : (m f a b : Vector) → SameDirection a b → pos 0 <ℤ triple m f a → pos 0 <ℤ triple m f b
turn-to m f a b w h = same-plus (triple m f a) (triple m f b) (turn-last m f a b w) h

no-turn : (m a b : Vector) → SameDirection a b → triple m a b ≡ pos 0
no-turn m a b w = dot-zero m (cross a b) w.parallel

-- a point between z and c lies between them, seen from a
amid-angle : (m : Vector) (a z c t : SpacePoint) → pos 0 <ℤ angle m a z c → IsBetween z t c → (pos 0 <ℤ angle m a z t) × (pos 0 <ℤ angle m a t c)
amid-angle m a z c t h b =
    let F = turn_form m a z in
    let G = turn_form m a c in
    let p = between-plus F c t z (between-turned z c t b) (subst (λ (r : ℤ). pos 0 <ℤ r) (sym (turn-at m a z c)) h) (let e = turn-at m a z z ∙ angle-self m a z in omega (arith, ints)) in
    let e = angle-turned m a c z in
    let q = minus-any G c t z (between-turned z c t b) (let e = turn-at m a c c ∙ angle-self m a c in omega (arith, ints)) (let f = turn-at m a c z in omega (arith, ints)) in (
      let f = turn-at m a z t in omega (arith, ints),
      let f = turn-at m a c t in let r = angle-turned m a t c in omega (arith, ints),
    )

module _ (s : Set) (C : Complex) (S : Shows s C) (h g : Form) (d : Vector) (y z : SpacePoint) (T : Strip s C h g d y z) where
  abbrev n : Vector
  n = normal_of h

  abbrev m : Vector
  m = normal_of g

  abbrev pub near : Form
  near = Near_line s C S h g d y z T

  abbrev pub far : Form
  far = Far_line s C S h g d y z T

  some-m : IsDirection m
  some-m = m-some s C S h g d y z T

  near-level : slope near d ≡ pos 0
  near-level = (through-level (cross d m) d y).0 (sym (turn-k s C S h g d y z T d) ∙ no-turn m d d (dir-self d T.some))

  pub near-onward : (a c : SpacePoint) → SameDirection (toward a c) d → form_at near a ≡ pos 0 → form_at near c ≡ pos 0
  near-onward a c w e = plane-ahead near a c d w near-level e

  -- ---- the edge of a svertex that leads to the right of y's line comes to z's line
  module _ (i a : ℕ) (v : Vertex) (u : MapVertex) (at-i : IsAt C.vertices i v) (at-a : IsAt v.map.svertices a u) (on : form_at h v.point ≡ pos 0) (on-line : form_at near v.point ≡ pos 0) (level : dot n u.dir ≡ pos 0) (right : pos 0 <ℤ triple m u.dir d) where
    pub edge-of : LeadsFrom s C i a v u
    edge-of = leads s C S i a v u at-i at-a

    abbrev L : LeadsFrom s C i a v u
    L = edge-of

    pub on-other : form_at h L.other.point ≡ pos 0
    on-other = plane-ahead h v.point L.other.point u.dir L.onward level on

    near-other : pos 0 <ℤ form_at near L.other.point
    near-other = same-plus (triple m (toward v.point L.other.point) d) (form_at near L.other.point) (sym (near-turn s C S h g d y z T v.point L.other.point on-line))
        (turn-from m u.dir (toward v.point L.other.point) d some-m T.some (SameDirection-turned (toward v.point L.other.point) u.dir L.onward) right)

    pub meets-far : Cut far v.point L.other.point
    meets-far = cut-of far v.point L.other.point (inr (short-of s C S h g d y z T v.point on-line, strip s C S h g d y z T L.there L.other L.is_there on-other near-other))

    abbrev x : SpacePoint
    x = meets-far.place

    pub on-x : form_at h x ≡ pos 0
    on-x = plane-between h v.point x L.other.point meets-far.between on on-other

    pub way-x : SameDirection (toward v.point x) u.dir
    way-x = SameDirection-trans (toward v.point x) (toward v.point L.other.point) u.dir (between-way v.point x L.other.point meets-far.between) L.onward

    edge-until : (r : SpacePoint) → IsBetween v.point r x ⊎ SamePoint r x → FlatDim s r 1
    edge-until r (inl b) = (L.along r (between-inner v.point x L.other.point r meets-far.between b)).0
    edge-until r (inr e) = dim-same s x r 1 (same-point_sym r x e) (L.along x meets-far.between).0

    -- it isn't in the way of a facet point behind
    pub hidden : (b : SpacePoint) → form_at h b ≡ pos 0 → form_at near b ≡ pos 0 → SameDirection (toward b v.point) d → ((r : SpacePoint) → IsBetween b r z → FlatDim s r 2)
        → SameDirection u.dir (toward v.point z) ⊎ (pos 0 <ℤ triple m u.dir (toward v.point z)) → ⊥
    hidden b on-b near-b up clear low = by (on-far_line s C S h g d y z T x on-x meets-far.level)
      where
        by : On_far_line s C S h g d y z T x → ⊥
        by (at_start e) = not-at s C S h g d y z T v.point b x on on-b on-x on-line near-b up meets-far.level clear edge-until e
        by (behind_of w) = not-behind s C S h g d y z T v.point b x on on-b on-x on-line near-b up meets-far.level clear edge-until w
        by (ahead_of w) =
            let over = turn-to m (toward v.point z) (toward v.point x) u.dir way-x (angle-over s C S h g d y z T v.point x on-line w) in
            let r = triple-turned m u.dir (toward v.point z) in
            ⊎_elim (λ q. let e = no-turn m u.dir (toward v.point z) q in omega (arith, ints)) (λ q. omega (arith, ints)) low

    -- where it leads to the left of z it comes to a point ahead of z
    pub ahead-x : pos 0 <ℤ triple m (toward v.point z) u.dir → SameDirection (toward z x) d
    ahead-x up = by (on-far_line s C S h g d y z T x on-x meets-far.level)
      where
        over : pos 0 <ℤ angle m v.point z x
        over = turn-to m (toward v.point z) u.dir (toward v.point x) (SameDirection-turned (toward v.point x) u.dir way-x) up

        by : On_far_line s C S h g d y z T x → SameDirection (toward z x) d
        by (ahead_of w) = w
        by (behind_of w) = absurd (let l = angle-under s C S h g d y z T v.point x on-line w in let o = over in omega (arith, ints))
        by (at_start e) = absurd (
            let some : IsDirection (toward v.point z) = λ q. let o = turn-z s C S h g d y z T v.point on-line in let k = turn-k s C S h g d y z T (toward v.point z) in let f = dot-zero (cross d m) (toward v.point z) q in omega (arith, ints) in
            let w = ahead-same v.point z x (toward v.point z) (same-point_sym z x e) (dir-self (toward v.point z) some) in
            let o = no-turn m (toward v.point z) (toward v.point x) (SameDirection-turned (toward v.point x) (toward v.point z) w) in
            let l = over in omega (arith, ints))

  -- ---- a vertex of y's line at whose corner k z is
  pub record Beside (k : Corner) : Type 0 where
    pub vertex : Vertex
    pub item : Item
    pub corner : IsCorner C k vertex item
    pub same : SameDirection (item_normal item) n
    pub on_plane : form_at h vertex.point ≡ pos 0
    pub on_line : form_at near vertex.point ≡ pos 0
    pub on : OnItem vertex.map item (toward vertex.point z)
    pub all : (r : SpacePoint) → IsBetween vertex.point r z → FlatDim s r 2

  -- a vertex isn't on an edge or in a facet
  pub vertex-not : (j : ℕ) (i : ℕ) (a : SpacePoint) (v : Vertex) → IsAt C.vertices i v → SamePoint a v.point → pos 0 <ℤ pos j → FlatDim s a j → ⊥
  vertex-not j i a v at-i e l f = let k = FlatDim-one s v.point 0 j (S.vertices i v at-i) (dim-same s a v.point j e f) in omega (arith, ints)

  -- ---- from such a vertex the facet reaches from z to c, where the item goes on to c
  module _ (k : Corner) (N : Beside k) where
    abbrev w : SpacePoint
    w = N.vertex.point

    pub off-edges : FlatDim s w 1 → ⊥
    off-edges f = vertex-not 1 k.vertex w N.vertex N.corner.vertex (same-itself w) (omega (arith, ints)) f

    module _ (c : SpacePoint) (on-c : form_at h c ≡ pos 0) (near-c : pos 0 ≤ℤ form_at near c) (far-c : form_at far c ≤ℤ pos 0) (turn : pos 0 <ℤ angle m w z c) (second : SideWithin s w c)
        (holds : (e : Vector) → IsDirection e → dot n e ≡ pos 0 → pos 0 <ℤ triple m (toward w z) e → pos 0 <ℤ triple m e (toward w c) → OnItem N.vertex.map N.item e) where
      no-edge_back : (i : ℕ) (v : Vertex) (t : SpacePoint) → IsAt C.vertices i v → SamePoint w v.point → IsBetween z t c → HalfEdge s t v.point → ⊥
      no-edge_back i v t at-i e b E =
          let a = amid-angle m w z c t turn b in
          let some : IsDirection (toward w t) = λ q. let f = no-turn-zero q in let l = a.0 in omega (arith, ints) in
          let on = holds (toward w t) some (plane-way h w t N.on_plane (plane-between h z t c b T.on_z on-c)) a.0 a.1 in
          let F = beside-vertex s C S k N.vertex N.item N.corner (toward w t) on t (dir-self (toward w t) some) in
          let r = near_point s w t in
          let back = between-same t r w t r v.point (same-itself t) (same-itself r) e (between-turned w t r (near-between s w t some)) in
          let j = FlatDim-one s r 1 2 (E.all r back) F.dim in cc
        where
          no-turn-zero : IsZero (toward w t) → angle m w z t ≡ pos 0
          no-turn-zero q = triple-dot m (toward w z) (toward w t) ∙ dot-zero (cross m (toward w z)) (toward w t) q

      pub fan-beside : (r : SpacePoint) → IsBetween z r c → FlatDim s r 2
      fan-beside = fan s C S h g d y z T w c N.on_plane on-c N.on_line near-c far-c turn N.all second no-edge_back

  -- ---- a vertex ahead, of whose item it is known where it comes from
  -- the item that lies toward z
  module _ (i : ℕ) (v : Vertex) (at-i : IsAt C.vertices i v) (on : form_at h v.point ≡ pos 0) (on-line : form_at near v.point ≡ pos 0) (all : (r : SpacePoint) → IsBetween z r v.point → FlatDim s r 2) where
    some-back : IsDirection (toward v.point z)
    some-back q = let o = turn-z s C S h g d y z T v.point on-line in let e = turn-k s C S h g d y z T (toward v.point z) in let f = dot-zero (cross d m) (toward v.point z) q in omega (arith, ints)

    some-there : IsDirection (toward z v.point)
    some-there q = some-back (point-toward v.point z (same-point_sym z v.point (toward-point z v.point q)))

    pub seen-beside : (k : Corner) × (x : Item) × IsCorner C k v x × SameDirection (item_normal x) n × OnItem v.map x (toward v.point z) × (k.vertex ≡ i)
    seen-beside =
        let X = item-seen s C S h z T.normal T.on_z (toward z v.point) some-there (plane-way h z v.point T.on_z on) T.flat v.point (dir-self (toward z v.point) some-there) all i v at-i (same-itself v.point) in (
          record { vertex = i; item = X.number },
          X.item,
          record { vertex = at-i; item = X.listed },
          X.same,
          subst (λ (e : Vector). OnItem v.map X.item e) (toward-turned z v.point) X.on,
          refl,
        )

  -- from a facet point b behind
  module _ (b : SpacePoint) (on-b : form_at h b ≡ pos 0) (near-b : form_at near b ≡ pos 0) (two : FlatDim s b 2) (clear : (r : SpacePoint) → IsBetween b r z → FlatDim s r 2)
      (k : Corner) (v : Vertex) (x : Item) (K : IsCorner C k v x) (same : SameDirection (item_normal x) n) (on : form_at h v.point ≡ pos 0) (up : SameDirection (toward b v.point) d) (all : (r : SpacePoint) → IsBetween b r v.point → FlatDim s r 2) (back : OnItem v.map x (opposite d)) where
    near-v : form_at near v.point ≡ pos 0
    near-v = near-onward b v.point up near-b

    to-z : pos 0 <ℤ triple m (toward v.point z) d
    to-z = turn-z s C S h g d y z T v.point near-v

    leads-to_z : IsDirection (toward v.point z)
    leads-to_z q = let o = to-z in let e = turn-k s C S h g d y z T (toward v.point z) in let f = dot-zero (cross d m) (toward v.point z) q in omega (arith, ints)

    toward-z : OnItem v.map x (toward v.point z)
    toward-z = ⊎_elim (λ (t : Through v.map x n m (opposite d) (toward v.point z)). t.on) (λ (t : Stops v.map x n m (opposite d) (toward v.point z) T.seen). absurd (stop t))
        (turned n m T.seen some-m v.map (S.cones k.vertex v K.vertex).valid.shaped (opposite d) (toward v.point z) leads-to_z (plane-way h v.point z on T.on_z)
        (let e = back-triple m d (toward v.point z) in let f = triple-turned m d (toward v.point z) in let l = to-z in omega (arith, ints)) k.item x K.item same back)
      where
        stop : Stops v.map x n m (opposite d) (toward v.point z) T.seen → ⊥
        stop t =
            let u = t.svertex.dir in
            hidden k.vertex (sector_end n m T.seen t.arc) v t.svertex K.vertex t.end on near-v t.level (let e = back-triple m d u in let f = triple-turned m d u in let l = t.left in omega (arith, ints)) b on-b near-b up clear t.before

    pub beside-facet : Beside k
    beside-facet = record {
      vertex = v;
      item = x;
      corner = K;
      same = same;
      on_plane = on;
      on_line = near-v;
      on = toward-z;
      all = λ r c. fan s C S h g d y z T b v.point on-b on near-b (let e = near-v in omega (arith, ints)) (let l = short-of s C S h g d y z T v.point near-v in omega (arith, ints)) (angle-ahead s C S h g d y z T b v.point near-b up) clear
          (inl (inl ((λ f. let j = FlatDim-one s b 1 2 f two in cc), all)))
          (λ i w t at-i e _ _. vertex-not 2 i b w at-i e (omega (arith, ints)) two) r (between-turned v.point z r c);
    }
