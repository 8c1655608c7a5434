-- Two least maps with the same labels have the same svertices, and items in the same places.
use Rattle.law_geometry.proofs.sphere.Prelude.{◌≡◌, ℕ, ℤ, pos, ◌+ℤ◌, ◌-ℤ◌, ◌*ℤ◌, ◌<ℤ◌, arith, refl, ap, sym, ◌∙◌, ⊎_elim, ◌∷◌, subst, [], ints, ring, at, num, ◌⊕◌, ◌⊖◌, ◌⊗◌, Sign, minus, nought, plus, sign, sign-plus, sign-minus, by_order, nought-or, Vector, IsDirection, cross, dot, IsZero, SameDirection, IsOpposite, IsNormal, blend, opposite, Label, combination, IsAt, MapVertex, Map, Item, items, item_normal, item_pos, item_mark, item_neg, OnItem, IsFree, MapLabel, at_svertex, on_item, NearLabel, Valid, by_side, NearPlain, NearStraight, Least, SameLabels, dot-comm, zero-decided, self-pos, SameDirection-trans, scaled-coordinates, cross_of, dot-opposite, dot_of, dot_poly, numbers, vec}
use Rattle.law_geometry.proofs.sphere.Shot.{product-off}
use Rattle.law_geometry.proofs.sphere.Vectors.{normal-is, dot-comb}
use Rattle.nef_space.proofs.Vectors.{normal-direction}
use Rattle.law_geometry.proofs.sphere.Forms.{on-direction, PlaceOf, svertex_place, item_place, free_place, place_of}
use Rattle.law_geometry.proofs.sphere.Labels.{label-direction, label-exists, label-unique, near-unique}
use Rattle.law_geometry.proofs.sphere.Around.{turn-minus, beside, on_item-off_svertices, same-by}
use Rattle.law_geometry.proofs.sphere.NearItems.{near-free, near-item, free-plain, item-straight}

-- ---- vectors
pub normals-not_opposite : (n m : Vector) → IsNormal n → IsNormal m → IsOpposite n m → ⊥
normals-not_opposite n m h k o =
    let e = scaled-coordinates n m o.parallel in
    let s = self-pos n (normal-direction n h) in
    by_order n.x (pos 0) (λ l. let a = h.first in omega (arith, ints))
    (λ x. by_order n.y (pos 0) (λ l. let a = h.second x in omega (arith, ints))
    (λ y. let l = h.third x y in
    let x' = zero-by (dot n n) (dot n m) m.x n.x s e.0 x in
    let y' = zero-by (dot n n) (dot n m) m.y n.y s e.1 y in
    let l' = k.third x' y' in
    let t = turn-minus (dot n n) (dot n m) m.z n.z s e.2 o.backward l in omega (arith, ints))
    (λ l. let x' = zero-by (dot n n) (dot n m) m.x n.x s e.0 x in let l' = k.second x' in let t = turn-minus (dot n n) (dot n m) m.y n.y s e.1 o.backward l in omega (arith, ints)))
    (λ l. let l' = k.first in let t = turn-minus (dot n n) (dot n m) m.x n.x s e.0 o.backward l in omega (arith, ints))
  where
    zero-by : (a b x y : ℤ) → pos 0 <ℤ a → a *ℤ x ≡ b *ℤ y → y ≡ pos 0 → x ≡ pos 0
    zero-by a b x y h e z = ⊎_elim (λ r. r) (λ f. absurd (product-off a x h f (e ∙ ap (λ r. b *ℤ r) z ∙ ring (b ∷ []) (at 0 ⊗ num (pos 0)) (num (pos 0)) tt))) (nought-or x)

-- parallel normals go the same way
pub normals-same : (n m : Vector) → IsNormal n → IsNormal m → IsZero (cross n m) → SameDirection n m
normals-same n m h k z = same-by (beside n m (normal-direction n h) (normal-direction m k) z) (normals-not_opposite n m h k)

-- ---- labels
pub labels-turned : (M N : Map) → Valid M → Valid N → SameLabels M N → SameLabels N M
labels-turned M N V W s d m a =
    let b = label-exists M V d (label-direction N d m a) in
    subst (λ (r : Label). MapLabel M d r) (sym (label-unique N W d m b.0 a (s d b.0 b.1))) b.1

pub near-carried : (M N : Map) → SameLabels M N → (d e : Vector) (m : Label) → NearLabel M d e m → NearLabel N d e m
near-carried M N s d e m (n, f) = (n, λ k l. s (blend k d 1 e) m (f k l))

plain-carried : (M N : Map) → SameLabels M N → (d : Vector) → NearPlain M d → NearPlain N d
plain-carried M N s d p = record { label = p.label; at_d = s d p.label p.at_d; near = λ e f. near-carried M N s d e p.label (p.near e f) }

straight-carried : (M N : Map) → SameLabels M N → (d : Vector) → NearStraight M d → NearStraight N d
straight-carried M N s d p = record { normal = p.normal; direction = p.direction; level = p.level; pos = p.pos; label = p.label; neg = p.neg; at_d = s d p.label p.at_d; near = λ e f. near-carried M N s d e _ (p.near e f) }

-- ---- svertices
pub record Matched (N : Map) (d : Vector) : Type 0 where
  pub number : ℕ
  pub svertex : MapVertex
  pub listed : IsAt N.svertices number svertex
  pub same : SameDirection svertex.dir d

-- a svertex of a least map is one of any map with the same labels
pub svertex-matched : (M N : Map) → Valid M → Valid N → Least M → SameLabels N M → (k : ℕ) (v : MapVertex) → IsAt M.svertices k v → Matched N v.dir
svertex-matched M N V W L s k v a = by (place_of N v.dir (V.shaped.svertex_dirs k v a))
  where
    by : PlaceOf N v.dir → Matched N v.dir
    by (svertex_place l u b w) = record { number = l; svertex = u; listed = b; same = w }
    by (item_place l x b o) = absurd (L.no_straight k v a (straight-carried N M s v.dir (item-straight N W v.dir l x b o)))
    by (free_place F) = absurd (L.no_plain k v a (plain-carried N M s v.dir (free-plain N W v.dir F)))

pub svertex-mark : (M N : Map) → Valid N → SameLabels M N → (k l : ℕ) (v u : MapVertex) → IsAt M.svertices k v → IsAt N.svertices l u → SameDirection u.dir v.dir → SameDirection v.dir v.dir → v.mark ≡ u.mark
svertex-mark M N W s k l v u a b w r = label-unique N W v.dir v.mark u.mark (s v.dir v.mark (at_svertex k v a r refl)) (at_svertex l u b w refl)

-- ---- items
pub record MatchedItem (N : Map) (x : Item) (d : Vector) : Type 0 where
  pub number : ℕ
  pub item : Item
  pub listed : IsAt (items N) number item
  pub on : OnItem N item d
  pub same : SameDirection (item_normal x) (item_normal item)
  pub same_pos : item_pos x ≡ item_pos item
  pub same_mark : item_mark x ≡ item_mark item
  pub same_neg : item_neg x ≡ item_neg item

module _ (M N : Map) (V : Valid M) (W : Valid N) (L : Least M) (K : Least N) (s : SameLabels M N) (i : ℕ) (x : Item) (a : IsAt (items M) i x) (d : Vector) (o : OnItem M x d) where
  abbrev n : Vector
  n = item_normal x

  abbrev sides : Sign → Label
  sides = by_side (item_pos x) (item_mark x) (item_neg x)

  there : (e : Vector) → NearLabel N d e (sides (sign (dot n e)))
  there e = near-carried M N s d e _ (near-item M V d i x a o e)

  at_there : MapLabel N d (item_mark x)
  at_there = s d (item_mark x) (on_item i x a o refl)

  there-pos : (e : Vector) (m : Label) → pos 0 <ℤ dot n e → NearLabel N d e m → item_pos x ≡ m
  there-pos e m h b = ap sides (sym (sign-plus (dot n e) h)) ∙ near-unique N W d e _ m (there e) b

  there-neg : (e : Vector) (m : Label) → dot n e <ℤ pos 0 → NearLabel N d e m → item_neg x ≡ m
  there-neg e m h b = ap sides (sym (sign-minus (dot n e) h)) ∙ near-unique N W d e _ m (there e) b

  abbrev down : Vector
  down = opposite n

  n-up : pos 0 <ℤ dot n n
  n-up = self-pos n (normal-is V.shaped i x a)

  not_free : IsFree N d → ⊥
  not_free F =
      let b = label-exists N W d F.direction in
      let m = label-unique N W d (item_mark x) b.0 at_there b.1 in
      let u = there-pos n b.0 n-up (near-free N W d F b.0 b.1 n) in
      let e = dot-opposite n n in
      let p = n-up in
      let v = there-neg down b.0 (omega (arith, ints)) (near-free N W d F b.0 b.1 down) in
      L.items_differ i x a (u ∙ sym m) (v ∙ sym m)

  module _ (j : ℕ) (y : Item) (b : IsAt (items N) j y) (q : OnItem N y d) where
    abbrev m : Vector
    m = item_normal y

    abbrev m_sides : Sign → Label
    m_sides = by_side (item_pos y) (item_mark y) (item_neg y)

    near_there : (e : Vector) (t : Sign) → sign (dot m e) ≡ t → NearLabel N d e (m_sides t)
    near_there e t h = subst (λ (r : Sign). NearLabel N d e (m_sides r)) h (near-item N W d j y b q e)

    marks : item_mark x ≡ item_mark y
    marks = label-unique N W d (item_mark x) (item_mark y) at_there (on_item j y b q refl)

    -- in the plane of m, above n
    abbrev across : Vector
    across = combination (dot m m) n (pos 0 -ℤ dot n m) m

    abbrev back : Vector
    back = opposite across

    across-level : dot m across ≡ pos 0
    across-level = dot-comb m (dot m m) n (pos 0 -ℤ dot n m) m ∙ ap (λ r. dot m m *ℤ r +ℤ (pos 0 -ℤ dot n m) *ℤ dot m m) (dot-comm m n) ∙ ring (dot m m ∷ dot n m ∷ []) (at 0 ⊗ at 1 ⊕ (num (pos 0) ⊖ at 1) ⊗ at 0) (num (pos 0)) tt

    across-above : IsDirection (cross n m) → pos 0 <ℤ dot n across
    across-above f = subst (λ (r : ℤ). pos 0 <ℤ r) eq (self-pos (cross n m) f)
      where
        eq : dot (cross n m) (cross n m) ≡ dot n across
        eq = let k = cross_of (vec 0) (vec 3) in ring (numbers n m m m) (dot_of k k) (dot_poly 3 3 ⊗ dot_poly 0 0 ⊕ (num (pos 0) ⊖ dot_poly 0 3) ⊗ dot_poly 0 3) tt
            ∙ sym (dot-comb n (dot m m) n (pos 0 -ℤ dot n m) m)

    parallel : IsZero (cross n m)
    parallel = ⊎_elim (λ z. z) (λ f. absurd (
        let h = across-above f in
        let l = across-level in
        let u = there-pos across (item_mark y) h (near_there across nought (ap sign l)) in
        let c = dot-opposite m across in
        let e = dot-opposite n across in
        let z : dot m back ≡ pos 0 = omega (arith, ints) in
        let v = there-neg back (item_mark y) (omega (arith, ints)) (near_there back nought (ap sign z)) in
        L.items_differ i x a (u ∙ sym marks) (v ∙ sym marks))) (zero-decided (cross n m))

    same-way : SameDirection n m
    same-way = normals-same n m (V.shaped.normals i x a) (W.shaped.normals j y b) parallel

    matched-item : MatchedItem N x d
    matched-item =
        let w = same-way in
        let p = n-up in
        let h = w.forward in
        let c = dot-comm m n in
        let e = dot-opposite m n in
        let g = dot-opposite n n in
        record {
          number = j;
          item = y;
          listed = b;
          on = q;
          same = w;
          same_pos = there-pos n (item_pos y) p (near_there n plus (sign-plus (dot m n) (omega (arith, ints))));
          same_mark = marks;
          same_neg = there-neg down (item_neg y) (omega (arith, ints)) (near_there down minus (sign-minus (dot m down) (omega (arith, ints))));
        }

  -- where an item of M lies, there lies one of N, in the same plane and with the same labels
  pub item-matched : MatchedItem N x d
  item-matched = by (place_of N d (on-direction M x d o))
    where
      by : PlaceOf N d → MatchedItem N x d
      by (svertex_place l u b w) =
          let r = svertex-matched N M W V K s l u b in
          absurd (on_item-off_svertices M V.shaped d d (λ g l f. refl) i x a o r.number r.svertex r.listed (SameDirection-trans r.svertex.dir u.dir d r.same w))
      by (item_place j y b q) = matched-item j y b q
      by (free_place F) = absurd (not_free F)
