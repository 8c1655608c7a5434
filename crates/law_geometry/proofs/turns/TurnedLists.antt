-- A map whose lists have another map's turned items, in order, is the turned map.
use Rattle.law_geometry.proofs.turns.Prelude.{◌≡◌, ℕ, zero, suc, pos, neg_ℤ, Bool, true, false, refl, ap, sym, ◌∙◌, subst, arith, inl, inr, ⊎_elim, List, [], ◌∷◌, Option, Some, None, ints, cases_order, Vector, IsNormal, IsAt, MapVertex, Arc, MapSloop, Item, arc_item, sloop_item, Map, items, items_then, InOrder, ArcBelow, arc-at, sloop-at, at-sloop, at-arc, turned_vector, signed, IsTurnedArc, IsTurnedItem, IsTurnedOption, IsTurnedMap, HasTurnedLists, is-at_none, is-at_first}
use Rattle.law_geometry.proofs.sphere.building.BuiltArcs.{arc-below_not}
use Rattle.law_geometry.proofs.sphere.Builder.{sloops-one}

-- ---- what is chosen for each element, by its number
abbrev pub chosen : {A B : Type 0} (xs : List A) → B → ((i : ℕ) (x : A) → IsAt xs i x → B) → ℕ → B
chosen [] b F i = b
chosen (x ∷ xs) b F zero = F zero x refl
chosen (x ∷ xs) b F (suc i) = chosen xs b (λ j y a. F (suc j) y a) i

pub chosen-has : {A B : Type 0} (xs : List A) (b : B) (F : (i : ℕ) (x : A) → IsAt xs i x → B) (Q : ℕ → A → B → Type 0) → ((i : ℕ) (x : A) (a : IsAt xs i x) → Q i x (F i x a))
    → (i : ℕ) (x : A) → IsAt xs i x → Q i x (chosen xs b F i)
chosen-has [] b F Q h i x a = absurd (is-at_none a)
chosen-has {A} (y ∷ ys) b F Q h zero x e = subst (λ (r : A). Q zero r (F zero y refl)) (is-at_first e) (h zero y refl)
chosen-has (y ∷ ys) b F Q h (suc i) x a = chosen-has ys b (λ j z c. F (suc j) z c) (λ j z c. Q (suc j) z c) (λ j z c. h (suc j) z c) i x a

-- ---- one normal form
pub both-normal : (v : Vector) → IsNormal (signed true v) → IsNormal v → ⊥
both-normal v h i =
    let a = h.first in
    let b = i.first in
    let x : v.x ≡ pos 0 = omega (arith, ints, a, b) in
    let c = h.second (ap neg_ℤ x) in
    let d = i.second x in
    let y : v.y ≡ pos 0 = omega (arith, ints, c, d) in
    let e = h.third (ap neg_ℤ x) (ap neg_ℤ y) in
    let f = i.third x y in
    omega (arith, ints, e, f)

pub one-normal : (b c : Bool) (v : Vector) → IsNormal (signed b v) → IsNormal (signed c v) → b ≡ c
one-normal true true v h i = refl
one-normal true false v h i = absurd (both-normal v h i)
one-normal false true v h i = absurd (both-normal v i h)
one-normal false false v h i = refl

-- ---- one place in an order
one-place : (as' : List Arc) → InOrder ArcBelow as' → (i j : ℕ) (a b : Arc) → IsAt as' i a → IsAt as' j b → a.normal ≡ b.normal → a.source ≡ b.source → i ≡ j
one-place as' o i j a b h k e f = elim (cases_order i j) [
  | inl same ↦ same
  | inr apart ↦ ⊎_elim (λ l. absurd (arc-below_not a b e f (o i j a b l h k))) (λ l. absurd (arc-below_not b a (sym e) (sym f) (o j i b a l k h))) apart
]

module _ (k : ℕ) (M N : Map) (T : HasTurnedLists k M N) where
  abbrev Pair : Type 0
  Pair = ℕ × Bool

  abbrev HasImage : ℕ → Item → Pair → Type 0
  HasImage i x p = (y : Item) × IsAt (items N) p.0 y × IsTurnedItem k T.vertex p.1 x y

  abbrev HasOrigin : ℕ → Item → Type 0
  HasOrigin j y = (i : ℕ) × (x : Item) × (flip : Bool) × IsAt (items M) i x × IsTurnedItem k T.vertex flip x y

  image-of : (i : ℕ) (x : Item) → IsAt (items M) i x → (p : Pair) × HasImage i x p
  image-of i (arc_item a) h =
      let (j, b, flip, l, t) = T.arcs i a (arc-at M.arcs M.sloop i a h) in
      ((j, flip), (arc_item b, at-arc N.arcs N.sloop j b l, t))
  image-of i (sloop_item l) h = by N.sloop refl (subst (λ (o : Option MapSloop). IsTurnedOption k o N.sloop) (sloop-at M.arcs M.sloop i l h) T.sloop)
    where
      by : (o : Option MapSloop) → N.sloop ≡ o → IsTurnedOption k (Some l) N.sloop → (p : Pair) × HasImage i (sloop_item l) p
      by None e t = absurd (subst (λ (o : Option MapSloop). IsTurnedOption k (Some l) o) e t)
      by (Some m) e t =
          let (flip, s) = subst (λ (o : Option MapSloop). IsTurnedOption k (Some l) o) e t in
          let (j, b) = at-sloop N.arcs N.sloop m e in
          ((j, flip), (sloop_item m, b, s))

  origin-of : (j : ℕ) (y : Item) → IsAt (items N) j y → HasOrigin j y
  origin-of j (arc_item b) h =
      let (i, a, flip, l, t) = T.arcs_from j b (arc-at N.arcs N.sloop j b h) in
      (i, arc_item a, flip, at-arc M.arcs M.sloop i a l, t)
  origin-of j (sloop_item m) h = by M.sloop refl (subst (λ (o : Option MapSloop). IsTurnedOption k M.sloop o) (sloop-at N.arcs N.sloop j m h) T.sloop)
    where
      by : (o : Option MapSloop) → M.sloop ≡ o → IsTurnedOption k M.sloop (Some m) → HasOrigin j (sloop_item m)
      by None e t = absurd (subst (λ (o : Option MapSloop). IsTurnedOption k o (Some m)) e t)
      by (Some l) e t =
          let (flip, s) = subst (λ (o : Option MapSloop). IsTurnedOption k o (Some m)) e t in
          let (i, a) = at-sloop M.arcs M.sloop l e in
          (i, sloop_item l, flip, a, s)

  abbrev image : ℕ → Pair
  image = chosen (items M) (zero, false) (λ i x a. (image-of i x a).0)

  image-has : (i : ℕ) (x : Item) → IsAt (items M) i x → HasImage i x (image i)
  image-has = chosen-has (items M) (zero, false) (λ i x a. (image-of i x a).0) HasImage (λ i x a. (image-of i x a).1)

  -- two images of one item stand in one place
  one-image : (i j : ℕ) (b c : Bool) (x y z : Item) → IsAt (items N) i y → IsAt (items N) j z → IsTurnedItem k T.vertex b x y → IsTurnedItem k T.vertex c x z → i ≡ j
  one-image i j b c (arc_item a) (arc_item y) (arc_item z) h l s t =
      let same = one-normal b c (turned_vector k a.normal) (subst IsNormal s.normal (T.normals i (arc_item y) h)) (subst IsNormal t.normal (T.normals j (arc_item z) l)) in
      let t' = subst (λ (r : Bool). IsTurnedArc k T.vertex r a z) (sym same) t in
      one-place N.arcs T.arcs_ordered i j y z (arc-at N.arcs N.sloop i y h) (arc-at N.arcs N.sloop j z l) (s.normal ∙ sym t'.normal) (s.source ∙ sym t'.source)
  one-image i j b c (arc_item a) (arc_item y) (sloop_item z) h l s t = absurd t
  one-image i j b c (arc_item a) (sloop_item y) z h l s t = absurd s
  one-image i j b c (sloop_item a) (arc_item y) z h l s t = absurd s
  one-image i j b c (sloop_item a) (sloop_item y) (arc_item z) h l s t = absurd t
  one-image i j b c (sloop_item a) (sloop_item y) (sloop_item z) h l s t = sloops-one N.arcs N.sloop i j y z h l

  abbrev back : ℕ → ℕ
  back = chosen (items N) zero (λ j y a. (origin-of j y a).0)

  abbrev IsOrigin : ℕ → Item → ℕ → Type 0
  IsOrigin j y i = (x : Item) × IsAt (items M) i x × ((image i).0 ≡ j)

  back-has : (j : ℕ) (y : Item) → IsAt (items N) j y → IsOrigin j y (back j)
  back-has = chosen-has (items N) zero (λ j y a. (origin-of j y a).0) IsOrigin
      (λ j y a.
      let (i, x, flip, b, t) = origin-of j y a in
      let (z, c, s) = image-has i x b in
      (x, b, one-image (image i).0 j (image i).1 flip x z y c a s t))

  abbrev vertex_back : ℕ → ℕ
  vertex_back = chosen N.svertices zero (λ j u a. (T.svertices_from j u a).0)

  abbrev IsVertexOrigin : ℕ → MapVertex → ℕ → Type 0
  IsVertexOrigin j u i = (v : MapVertex) × IsAt M.svertices i v × (T.vertex i ≡ j)

  vertex_back-has : (j : ℕ) (u : MapVertex) → IsAt N.svertices j u → IsVertexOrigin j u (vertex_back j)
  vertex_back-has = chosen-has N.svertices zero (λ j u a. (T.svertices_from j u a).0) IsVertexOrigin (λ j u a. let r = T.svertices_from j u a in (r.1, r.2, r.3))

  pub lists-turned : IsTurnedMap k M N
  lists-turned = record {
    vertex = T.vertex;
    vertex_back = vertex_back;
    item = λ i. (image i).0;
    item_back = back;
    flip = λ i. (image i).1;
    svertices = T.svertices;
    svertices_from = vertex_back-has;
    items_there = image-has;
    items_from = back-has;
    normals = T.normals;
    mark = T.mark;
    same_ground = T.same_ground;
  }
