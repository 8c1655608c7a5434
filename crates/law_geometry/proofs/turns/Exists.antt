-- Each ordered map that is well shaped has a turned image whose lists are in order.
use Rattle.law_geometry.proofs.turns.Prelude.{◌≡◌, ℕ, zero, Bool, true, false, cond, refl, ap, sym, ◌∙◌, subst, inl, inr, ⊎_elim, List, map, Option, Some, None, cases_order, Lies, Vector, SameDirection, IsNormal, Form, normal_of, negated_if, IsPrimitive, VectorBelow, IsAt, MapVertex, Arc, MapSloop, Item, arc_item, sloop_item, Map, items, item_normal, Shaped, InOrder, ArcBelow, Ordered, is-at_one, lies-at, at-lies, arc-at, sloop-at, at-sloop, at-arc, normal-is, below-itself, is-at_map, map-is_at, Mapped, map-list, Sorted, sort, chain-order, signed_form, turned_plane, turned_vector, unturned_vector, differ, is_odd, signed, turned_svertex, IsTurnedArc, IsTurnedOption, HasTurnedLists, dir-self}
use Rattle.law_geometry.proofs.sphere.cones.Lowest.{below-trans, below-either}
use Rattle.law_geometry.proofs.sphere.cones.Rays.{arc-either, arc-trans, SameArc}
use Rattle.law_geometry.proofs.turns.Carriers.{same-form}
use Rattle.law_geometry.proofs.turns.Vectors.{back-vector, direction-turned, signed-turned, signed-twice}
use Rattle.law_geometry.proofs.turns.Numbers.{normal-choice, primitive-turned}
use Rattle.law_geometry.proofs.turns.TurnedLists.{chosen, chosen-has, both-normal}
use Rattle.law_geometry.proofs.turns.ArcEnds.{arcs-begin, arcs-end}
use Rattle.law_geometry.proofs.turns.Coordinates.{sign-twice}
use Rattle.std.proofs.lemmas.Option.{same_Some}

-- ---- the orders of svertices and of arcs
abbrev WayBelow : MapVertex → MapVertex → Type 0
WayBelow u v = VectorBelow u.dir v.dir

abbrev SameWay : MapVertex → MapVertex → Type 0
SameWay u v = u.dir ≡ v.dir

one-svertex : (vs : List MapVertex) → InOrder WayBelow vs → (i j : ℕ) (u v : MapVertex) → IsAt vs i u → IsAt vs j v → u.dir ≡ v.dir → i ≡ j
one-svertex vs o i j u v a b e = elim (cases_order i j) [
  | inl same ↦ same
  | inr apart ↦ ⊎_elim (λ l. absurd (below-itself v.dir (subst (λ (r : Vector). VectorBelow r v.dir) e (o i j u v l a b))))
      (λ l. absurd (below-itself v.dir (subst (λ (r : Vector). VectorBelow v.dir r) e (o j i v u l b a)))) apart
]

module _ (k : ℕ) where
  abbrev f : Vector → Vector
  f = turned_vector k

  pub turned-one : (a b : Vector) → f a ≡ f b → a ≡ b
  turned-one a b e = sym (back-vector k a) ∙ ap (unturned_vector k) e ∙ back-vector k b

  -- normals in normal form whose images are one, up to signs, are one
  pub one-origin : (b c : Bool) (n m : Vector) → IsNormal n → IsNormal m → signed b (f n) ≡ signed c (f m) → (b ≡ c) × (n ≡ m)
  one-origin b c n m hn hm e = by b c (turned-one (signed b n) (signed c m) (sym (signed-turned k b n) ∙ e ∙ signed-turned k c m))
    where
      by : (b c : Bool) → signed b n ≡ signed c m → (b ≡ c) × (n ≡ m)
      by true true h = (refl, sym (signed-twice k true n) ∙ ap (signed true) h ∙ signed-twice k true m)
      by false false h = (refl, h)
      by true false h = absurd (both-normal n (subst IsNormal (sym h) hm) hn)
      by false true h = absurd (both-normal m (subst IsNormal h hn) hm)

  -- and so are planes with such normals
  pub one-plane : (b c : Bool) (g h : Form) → IsNormal (normal_of g) → IsNormal (normal_of h) → signed_form b (turned_plane k g) ≡ signed_form c (turned_plane k h) → g ≡ h
  one-plane b c g h hg hh e =
      let (same, n) = one-origin b c (normal_of g) (normal_of h) hg hh (ap normal_of e) in
      let d = ap (λ (r : Form). r.d) e ∙ ap (λ (r : Bool). negated_if r h.d) (sym same) in
      same-form _ _ _ _ _ _ _ _ (ap (λ (r : Vector). r.x) n) (ap (λ (r : Vector). r.y) n) (ap (λ (r : Vector). r.z) n) (sym (sign-twice b g.d) ∙ ap (negated_if b) d ∙ sign-twice b h.d)

-- an arc's image, where svertices get the numbers that the function gives
abbrev pub IsArcImage : ℕ → (ℕ → ℕ) → Arc → Arc → Type 0
IsArcImage k vertex a b = (flip : Bool) × IsTurnedArc k vertex flip a b × IsNormal b.normal × IsPrimitive b.normal

pub image-number : (k : ℕ) (M : Map) → Shaped M → (i j : ℕ) (v w : MapVertex) → IsAt M.svertices i v → IsAt M.svertices j w → turned_vector k v.dir ≡ turned_vector k w.dir → i ≡ j
image-number k M V i j v w a b e = V.svertices_apart i j v w a b (subst (λ (r : Vector). SameDirection v.dir r) (turned-one k v.dir w.dir e) (dir-self v.dir (V.svertex_dirs i v a)))

module _ (k : ℕ) (M : Map) (V : Shaped M) (us : List MapVertex) (vertex : ℕ → ℕ) (has : (i : ℕ) (v : MapVertex) → IsAt M.svertices i v → IsAt us (vertex i) (turned_svertex k v)) where
  number-one : (i j : ℕ) (v w : MapVertex) → IsAt M.svertices i v → IsAt M.svertices j w → vertex i ≡ vertex j → i ≡ j
  number-one i j v w a b e =
      image-number k M V i j v w a b (ap (λ (r : MapVertex). r.dir) (is-at_one us (vertex j) (turned_svertex k v) (turned_svertex k w) (subst (λ (n : ℕ). IsAt us n (turned_svertex k v)) e (has i v a)) (has j w b)))

  -- images that are one in the order of arcs are of one arc
  pub one-arc : (i j : ℕ) (a c x y : Arc) → IsAt M.arcs i a → IsAt M.arcs j c → IsArcImage k vertex a x → IsArcImage k vertex c y → SameArc x y → i ≡ j
  one-arc i j a c x y at-a at-c (p, s, _, _) (q, t, _, _) (e, d) =
      let (pq, n) = one-origin k p q a.normal c.normal (V.normals i (arc_item a) (at-arc M.arcs M.sloop i a at-a)) (V.normals j (arc_item c) (at-arc M.arcs M.sloop j c at-c)) (sym s.normal ∙ e ∙ t.normal) in
      let t' = subst (λ (r : Bool). IsTurnedArc k vertex r c y) (sym pq) t in
      by (differ (is_odd k) p) n (sym s.source ∙ d ∙ t'.source)
    where
      by : (w : Bool) → a.normal ≡ c.normal → vertex (cond w a.target a.source) ≡ vertex (cond w c.target c.source) → i ≡ j
      by true n h = let b = V.arcs_between i a at-a in let b' = V.arcs_between j c at-c in
          arcs-end M V i j a c at-a at-c n (number-one a.target c.target b.target b'.target b.has_target b'.has_target h)
      by false n h = let b = V.arcs_between i a at-a in let b' = V.arcs_between j c at-c in
          arcs-begin M V i j a c at-a at-c n (number-one a.source c.source b.source b'.source b.has_source b'.has_source h)

module _ (k : ℕ) (M : Map) (V : Shaped M) (O : Ordered M) where
  abbrev images : List MapVertex
  images = map (turned_svertex k) M.svertices

  S : Sorted WayBelow SameWay images
  S = sort WayBelow SameWay (λ u v w. below-trans u.dir v.dir w.dir) (λ u. refl) (λ u v. below-either u.dir v.dir) images

  S-order : InOrder WayBelow S.list
  S-order = chain-order WayBelow SameWay S.list S.chain

  origin : (u : MapVertex) → Lies S.list u → (i : ℕ) × (v : MapVertex) × IsAt M.svertices i v × (u ≡ turned_svertex k v)
  origin u l =
      let (i, a) = lies-at images u (S.sound u l) in
      let (v, b, e) = is-at_map (turned_svertex k) M.svertices i u a in
      (i, v, b, sym e)

  placed : (i : ℕ) (v : MapVertex) → IsAt M.svertices i v → (j : ℕ) × IsAt S.list j (turned_svertex k v)
  placed i v a =
      let (y, l, e) = S.all (turned_svertex k v) (at-lies images i (turned_svertex k v) (map-is_at (turned_svertex k) M.svertices i v a)) in
      let (m, w, b, h) = origin y l in
      let same = image-number k M V i m v w a b (e ∙ ap (λ (r : MapVertex). r.dir) h) in
      let one = is-at_one M.svertices m v w (subst (λ (n : ℕ). IsAt M.svertices n v) same a) b in
      let (j, c) = lies-at S.list y l in
      (j, subst (λ (r : MapVertex). IsAt S.list j r) (h ∙ ap (turned_svertex k) (sym one)) c)

  abbrev vertex : ℕ → ℕ
  vertex = chosen M.svertices zero (λ i v a. (placed i v a).0)

  vertex-has : (i : ℕ) (v : MapVertex) → IsAt M.svertices i v → IsAt S.list (vertex i) (turned_svertex k v)
  vertex-has = chosen-has M.svertices zero (λ i v a. (placed i v a).0) (λ i v j. IsAt S.list j (turned_svertex k v)) (λ i v a. (placed i v a).1)

  vertex-from : (j : ℕ) (u : MapVertex) → IsAt S.list j u → (i : ℕ) × (v : MapVertex) × IsAt M.svertices i v × (vertex i ≡ j)
  vertex-from j u a =
      let (i, v, b, e) = origin u (at-lies S.list j u a) in
      (i, v, b, one-svertex S.list S-order (vertex i) j (turned_svertex k v) u (vertex-has i v b) a (sym (ap (λ (r : MapVertex). r.dir) e)))

  -- ---- arcs
  abbrev IsImage : ℕ → Arc → Arc → Type 0
  IsImage i a b = IsArcImage k vertex a b

  image-arc : (i : ℕ) (a : Arc) → IsAt M.arcs i a → (b : Arc) × IsImage i a b
  image-arc i a l =
      let item = at-arc M.arcs M.sloop i a l in
      let (flip, n) = normal-choice (f k a.normal) ((direction-turned k a.normal).1 (normal-is V i (arc_item a) item)) in
      let w = differ (is_odd k) flip in (
        record {
          normal = signed flip (f k a.normal);
          source = vertex (cond w a.target a.source);
          target = vertex (cond w a.source a.target);
          pos = cond flip a.neg a.pos;
          mark = a.mark;
          neg = cond flip a.pos a.neg;
        },
        (flip, record { normal = refl; source = refl; target = refl; pos = refl; mark = refl; neg = refl }, n, primitive-turned k flip a.normal (O.normals_lowest i (arc_item a) item)),
      )

  A1 : Mapped M.arcs IsImage
  A1 = map-list M.arcs IsImage image-arc

  A : Sorted ArcBelow SameArc A1.list
  A = sort ArcBelow SameArc arc-trans (λ a. (refl, refl)) arc-either A1.list

  arc-origin : (b : Arc) → Lies A.list b → (i : ℕ) × (a : Arc) × IsAt M.arcs i a × IsImage i a b
  arc-origin b l =
      let (i, m) = lies-at A1.list b (A.sound b l) in
      let (a, c, s) = A1.sound i b m in
      (i, a, c, s)

  arcs-there : (i : ℕ) (a : Arc) → IsAt M.arcs i a → (j : ℕ) × (b : Arc) × (flip : Bool) × IsAt A.list j b × IsTurnedArc k vertex flip a b
  arcs-there i a l =
      let (x, m, s) = A1.all i a l in
      let (y, n, e) = A.all x (at-lies A1.list i x m) in
      let (j, c, d, t) = arc-origin y n in
      let same = one-arc k M V S.list vertex vertex-has i j a c x y l d s t e in
      let one = is-at_one M.arcs j c a d (subst (λ (n : ℕ). IsAt M.arcs n a) same l) in
      let (h, o) = lies-at A.list y n in
      (h, y, t.0, o, subst (λ (r : Arc). IsTurnedArc k vertex t.0 r y) one t.1)

  -- ---- the sloop
  abbrev IsSloopImage : Option MapSloop → Option MapSloop → Type 0
  IsSloopImage o q = IsTurnedOption k o q × ((m : MapSloop) → q ≡ Some m → IsNormal m.normal × IsPrimitive m.normal)

  image-sloop : (o : Option MapSloop) → M.sloop ≡ o → (q : Option MapSloop) × IsSloopImage o q
  image-sloop None e = (None, (tt, λ m h. cc))
  image-sloop (Some l) e =
      let (i, a) = at-sloop M.arcs M.sloop l e in
      let (flip, n) = normal-choice (f k l.normal) ((direction-turned k l.normal).1 (normal-is V i (sloop_item l) a)) in
      let p = primitive-turned k flip l.normal (O.normals_lowest i (sloop_item l) a) in
      let made : MapSloop = record { normal = signed flip (f k l.normal); pos = cond flip l.neg l.pos; mark = l.mark; neg = cond flip l.pos l.neg } in
      (Some made, ((flip, record { normal = refl; pos = refl; mark = refl; neg = refl }), λ m h. subst (λ (r : MapSloop). IsNormal r.normal × IsPrimitive r.normal) (same_Some made m h) (n, p)))

  Q : (q : Option MapSloop) × IsSloopImage M.sloop q
  Q = image-sloop M.sloop refl

  pub turned_map : Map
  turned_map = record { mark = M.mark; svertices = S.list; arcs = A.list; sloop = Q.0; ground = M.ground }

  item-normals : (j : ℕ) (y : Item) → IsAt (items turned_map) j y → IsNormal (item_normal y) × IsPrimitive (item_normal y)
  unfolding turned_map
  item-normals j (arc_item b) a = let (i, c, d, s) = arc-origin b (at-lies A.list j b (arc-at A.list Q.0 j b a)) in (s.2, s.3)
  item-normals j (sloop_item m) a = Q.1.1 m (sloop-at A.list Q.0 j m a)

  pub has-lists : HasTurnedLists k M turned_map
  unfolding turned_map
  has-lists = record {
    vertex = vertex;
    svertices = vertex-has;
    svertices_from = vertex-from;
    arcs = arcs-there;
    arcs_from = λ j b a. let (i, c, d, s) = arc-origin b (at-lies A.list j b a) in (i, c, s.0, d, s.1);
    sloop = Q.1.0;
    normals = λ j y a. (item-normals j y a).0;
    arcs_ordered = chain-order ArcBelow SameArc A.list A.chain;
    mark = refl;
    same_ground = refl;
  }

  pub turned-ordered : Ordered turned_map
  unfolding turned_map
  turned-ordered = record {
    dirs_lowest = λ j u a.
        let (i, v, b, e) = origin u (at-lies S.list j u a) in
        subst (λ (r : MapVertex). IsPrimitive r.dir) (sym e) (primitive-turned k false v.dir (O.dirs_lowest i v b));
    normals_lowest = λ j y a. (item-normals j y a).1;
    svertices = S-order;
    arcs = chain-order ArcBelow SameArc A.list A.chain;
  }
