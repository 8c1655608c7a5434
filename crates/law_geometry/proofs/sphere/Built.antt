-- A well shaped map that agrees with a labelling piece by piece is valid, and its labels are those of the labelling.
use Rattle.law_geometry.proofs.sphere.Prelude.{◌≡◌, ◌+◌, ◌*◌, arith, ap, sym, ◌∙◌, inl, inr, List, subst, ints, mul-pos, sign-plus, sign-minus, Vector, IsDirection, cross, dot, IsZero, SameDirection, blend, Label, MapVertex, Map, items, item_normal, item_pos, item_mark, item_neg, IsFree, Side, around_svertex, pos_item, neg_item, whole, HasSide, IsClear, Reaches, Sees, directly, by_way_of, MapLabel, at_svertex, on_item, seen, InOneSface, here, link, Shaped, Valid, by_side, Labelling, Near, Agrees, Decided, dot-comm, zero-decided, cross-turned, SameDirection-turned, SameDirection-trans, dir-signs, direction-right, apart, parallel-trans, blend-turned, left-of, Plain, ℕ, ℤ, pos, ◌<ℤ◌, IsAt, Item, OnItem}
use Rattle.law_geometry.proofs.sphere.Generic.{amount}
use Rattle.law_geometry.proofs.sphere.Forms.{on-level}
use Rattle.law_geometry.proofs.sphere.Direct.{cross-between}
use Rattle.law_geometry.proofs.sphere.Labels.{label-exists}
use Rattle.law_geometry.proofs.sphere.Around.{Beside, same_way, other_way, beside}
use Rattle.law_geometry.proofs.sphere.Lone.{near-same_signs}
use Rattle.law_geometry.proofs.sphere.Walk.{carried, between-direction, cross-direction_turned}
use Rattle.nef_space.proofs.Lists.{is-at_one}
use Rattle.std.proofs.lemmas.Option.{same_Some}

-- a side of a map has one label
pub side-one : (M : Map) (o : Side) (k l : Label) → HasSide M o k → HasSide M o l → k ≡ l
side-one M (around_svertex i) k l (v, a, e) (u, b, f) = same_Some k l (sym e ∙ ap (λ (r : MapVertex). r.around) (is-at_one M.svertices i v u a b) ∙ f)
side-one M (pos_item i) k l (x, a, e) (y, b, f) = sym e ∙ ap item_pos (is-at_one (items M) i x y a b) ∙ f
side-one M (neg_item i) k l (x, a, e) (y, b, f) = sym e ∙ ap item_neg (is-at_one (items M) i x y a b) ∙ f
side-one M whole k l e f = same_Some k l (sym e ∙ f)

module _ (gs : List Vector) (F : Vector → Label → Type 0) (L : Labelling gs F) where
  -- near labels of the same way
  pub near-way : (y v e : Vector) → SameDirection v y → IsDirection (cross y e) → (m : Label) → Near F v e m → Near F y e m
  near-way y v e w f m (n, g) = (
    n + amount gs e,
    λ k h. L.cells (blend k v 1 e) (blend k y 1 e) m
        (between-direction v e k 1 (omega arith) (λ z. f (parallel-trans y v e (direction-right y v (SameDirection-turned v y w)) (cross-turned v y w.parallel) z)))
        (between-direction y e k 1 (omega arith) f) (near-same_signs gs v y e k (omega arith) w) (g k (omega arith)),
  )

  module _ (M : Map) (free : (d : Vector) → IsFree M d → Plain F d) where
    -- labels along a clear way
    pub clear-carried_back : (a b : Vector) → IsClear M a b → IsFree M b → (m : Label) → F b m → F a m
    clear-carried_back a b c G m f =
        let e = L.exists a c.start.direction in
        let g = carried gs F L a b c.start.direction c.direction c.short (free a c.start) (free b G) (λ i j si sj. free (blend i a j b) (c.between i j si sj)) e.0 e.1 in
        subst (λ (r : Label). F a r) (L.one b e.0 m G.direction g f) e.1

    -- what is near y toward a is at a
    pub from_near : (a y : Vector) → IsClear M a y → IsDirection (cross a y) → (m : Label) → Near F y a m → F a m
    from_near a y c f m (n, g) =
        let k = n + 1 in
        let z = blend 1 a k y in
        let G = c.between 1 k (omega arith) (omega arith) in
        let w : IsClear M a z = record {
          start = c.start;
          direction = G.direction;
          short = λ o. off o.parallel;
          between = λ i j si sj. subst (IsFree M) (left-of i j 1 k a y) (c.between (i + j * 1) (j * k) (omega arith) (mul-pos sj (omega arith)));
        } in
        clear-carried_back a z w G m (subst (λ (r : Vector). F r m) (blend-turned k 1 y a) (g k (omega arith)))
      where
        off : IsZero (cross a (blend 1 a (n + 1) y)) → ⊥
        off = cross-between a y 1 (n + 1) (omega arith) f

pub sees-direction : (M : Map) (d : Vector) (o : Side) → Sees M o d → IsDirection d
sees-direction M d o (directly y c r) = c.start.direction
sees-direction M d o (by_way_of e y b c r) = b.start.direction

-- a labelling has, at each place of the map and near it, the labels that its sides are said to have
pub record SidesTell (M : Map) (Says : Side → Label → Type 0) (F : Vector → Label → Type 0) : Type 0 where
  pub free : (d : Vector) → IsFree M d → Plain F d
  pub above : (k : ℕ) (x : Item) (d e : Vector) (m : Label) → IsAt (items M) k x → OnItem M x d → IsDirection (cross d e) → pos 0 <ℤ dot (item_normal x) e → Says (pos_item k) m → Near F d e m
  pub below : (k : ℕ) (x : Item) (d e : Vector) (m : Label) → IsAt (items M) k x → OnItem M x d → IsDirection (cross d e) → dot (item_normal x) e <ℤ pos 0 → Says (neg_item k) m → Near F d e m
  pub lone : (k : ℕ) (v : MapVertex) (e : Vector) (m : Label) → IsAt M.svertices k v → IsDirection (cross v.dir e) → Says (around_svertex k) m → Near F v.dir e m
  pub ground : (d : Vector) (m : Label) → IsFree M d → Says whole m → F d m

module _ (gs : List Vector) (F : Vector → Label → Type 0) (L : Labelling gs F) (M : Map) (Says : Side → Label → Type 0) (A : SidesTell M Says F) where
  reached : (a y : Vector) → IsClear M a y → (o : Side) (m : Label) → Says o m → Reaches M o a y → F a m
  reached a y c (pos_item k) m h (z, b, on, l) =
      let f = apart (item_normal z) a y (λ w. omega (arith, ints)) (on-level M z y on) c.direction in
      from_near gs F L M A.free a y c f m (A.above k z y a m b on (cross-direction_turned a y f) l h)
  reached a y c (neg_item k) m h (z, b, on, l) =
      let f = apart (item_normal z) a y (λ w. omega (arith, ints)) (on-level M z y on) c.direction in
      from_near gs F L M A.free a y c f m (A.below k z y a m b on (cross-direction_turned a y f) l h)
  reached a y c (around_svertex k) m h (u, b, w) = by (zero-decided (cross a y))
    where
      by : Decided (IsZero (cross a y)) → F a m
      by (inl z) = along (beside y a c.direction c.start.direction (cross-turned a y z))
        where
          along : Beside y a → F a m
          along (same_way s) = absurd (c.start.off_svertices k u b (SameDirection-trans u.dir y a w s))
          along (other_way s) = absurd (c.short (record { parallel = z; backward = let p = dot-comm a y in let r = s.backward in omega (arith, ints) }))
      by (inr f) =
          let g = cross-direction_turned a y f in
          let n = A.lone k u a m b (λ z. g (parallel-trans y u.dir a (direction-right y u.dir (SameDirection-turned u.dir y w)) (cross-turned u.dir y w.parallel) z)) h in
          from_near gs F L M A.free a y c f m (near-way gs F L y u.dir a w g m n)
  reached a y c whole m h t = A.ground a m c.start h

  -- a side that sees d has the label of d
  pub side-label : (d : Vector) (o : Side) (m : Label) → Says o m → Sees M o d → F d m
  side-label d o m h (directly y c r) = reached d y c o m h r
  side-label d o m h (by_way_of e y b c r) = clear-carried_back gs F L M A.free d e b c.start m (reached e y c o m h r)

module _ (gs : List Vector) (F : Vector → Label → Type 0) (L : Labelling gs F) (M : Map) (S : Shaped M) (A : Agrees M F) where
  sides-tell : SidesTell M (HasSide M) F
  sides-tell = record {
    free = A.free;
    above = λ k z y a m b on f l h. subst (Near F y a) (ap (by_side (item_pos z) (item_mark z) (item_neg z)) (sign-plus (dot (item_normal z) a) l) ∙ ap item_pos (is-at_one (items M) k z h.0 b h.1) ∙ h.2) (A.beside k z y a b on f);
    below = λ k z y a m b on f l h. subst (Near F y a) (ap (by_side (item_pos z) (item_mark z) (item_neg z)) (sign-minus (dot (item_normal z) a) l) ∙ ap item_neg (is-at_one (items M) k z h.0 b h.1) ∙ h.2) (A.beside k z y a b on f);
    lone = λ k u a m b f h. A.lone k u m a b (sym (ap (λ (r : MapVertex). r.around) (is-at_one M.svertices k h.0 u h.1 b)) ∙ h.2) f;
    ground = λ a m c h. A.ground m a h c.direction;
  }

  sface-label : (o p : Side) (k l : Label) → HasSide M o k → HasSide M p l → InOneSface M o p → k ≡ l
  sface-label o p k l a b (here q) = side-one M q k l a b
  sface-label o p k l a b (link o' q p' m c (d, x, y) r) = L.one d k m (sees-direction M d o x) (side-label gs F L M (HasSide M) sides-tell d o k a x) (side-label gs F L M (HasSide M) sides-tell d q m c y) ∙ sface-label q p m l c b r

  pub agrees-valid : Valid M
  agrees-valid = record { shaped = S; one_label = sface-label }

  pub agrees-label : (d : Vector) (m : Label) → MapLabel M d m → F d m
  agrees-label d m (at_svertex k v a w e) = subst (λ (r : Label). F d r) e (L.cells v.dir d v.mark (S.svertex_dirs k v a) (direction-right v.dir d w) (λ g l. dir-signs v.dir d g (S.svertex_dirs k v a) w) (A.svertices k v a))
  agrees-label d m (on_item k x a o e) = subst (λ (r : Label). F d r) e (A.marks k x d a o)
  agrees-label d m (seen s) = side-label gs F L M (HasSide M) sides-tell d s.side m s.has s.sees

  pub label-agrees : (d : Vector) (m : Label) → IsDirection d → F d m → MapLabel M d m
  label-agrees d m h f =
      let e = label-exists M agrees-valid d h in
      subst (λ (r : Label). MapLabel M d r) (L.one d e.0 m h (agrees-label d e.0 e.1) f) e.1
