-- Searching the lists of the program's maps, and where a direction lies.
use Rattle.nef_smap.proofs.Prelude.{◌≡◌, ℕ, zero, suc, ◌+◌, ◌<◌, ◌≤◌, arith, refl, ap, sym, ◌∙◌, ⊎_elim, List, [], ◌∷◌, length, map, Option, Some, None, subst, slice_get, get_or, ◌↔◌, slice_get_read, length-map, eq-or-lt_of_le, Vector, SameDirection, Label, vector_of, Dir, same_directions_equal, IsAt, MapVertex, Arc, MapSloop, Map, Item, arc_item, sloop_item, items_then, items, item_mark, OnItem, MapLabel, at_svertex, on_item, seen, Side, whole, Sees, is-at_one, sloop-at, at-arc, arc-at, LabelledSide, sides_of, IsSide, SideSees, IsPlaceOf, svertex_of, arc_of, map_of, SVertex, SphereMap, is-at_within, dir-self}
use Rattle.nef_smap.specs.declared.map.SPlace.TheVariants as place
use Rattle.nef_smap.proofs.Lists.{map-within}
use Rattle.nef_smap.proofs.MapLists.{sloop-listed}
use Rattle.nef_smap.proofs.SideLists.{side-has}
use Rattle.nef_space.proofs.Lists.{map-is_at}

-- ---- searching
module _ {X Y : Type 0} (f : X → Y) (xs : List X) (P : Y → Type 0) where
  pub next-none : (n : ℕ) (x : X) → slice_get xs n ≡ Some x → ((k : ℕ) → k < n → (y : Y) → IsAt (map f xs) k y → P y → ⊥) → (P (f x) → ⊥) → (k : ℕ) → k < n + 1 → (y : Y) → IsAt (map f xs) k y → P y → ⊥
  next-none n x e before here k h y a p = ⊎_elim
      (λ z. here (subst P (is-at_one (map f xs) n y (f x) (subst (λ (r : ℕ). IsAt (map f xs) r y) z a) (map-is_at f xs n x e)) p))
      (λ l. before k l y a p)
      (eq-or-lt_of_le {n = k} {m = n} (omega arith))

  pub all-none : (n : ℕ) → length xs ≤ n → ((k : ℕ) → k < n → (y : Y) → IsAt (map f xs) k y → P y → ⊥) → (k : ℕ) (y : Y) → IsAt (map f xs) k y → P y → ⊥
  all-none n h before k y a p = before k (let w = is-at_within (map f xs) k y a in let e = length-map xs f in omega arith) y a p

-- the element that a loop over a slice is at
pub read : {X : Type 0} (xs ys : List X) (n : ℕ) (x : X) → ys ≡ xs → n < length ys → x ≡ get_or ys n x → slice_get xs n ≡ Some x
read {X} xs ys n x e h q = subst (λ (zs : List X). slice_get zs n ≡ Some x) e (slice_get_read ys (length ys) n x refl h q)

-- directions in normal form are the same where they are equal
pub dir-same : (a b : Dir) → (a ≡ b) ↔ SameDirection (vector_of a) (vector_of b)
dir-same a b = (λ e. subst (λ (x : Dir). SameDirection (vector_of a) (vector_of x)) e (dir-self (vector_of a) a.some), λ s. same_directions_equal a b s)

-- ---- the label of a side that sees
pub side-within : (M : Map) (s : ℕ) (d : Vector) → SideSees M s d → s < length (sides_of M)
side-within M s d (o, l, i, q) = is-at_within (sides_of M) s (o, l) i

option_side : Option LabelledSide → Side
option_side None = whole
option_side (Some y) = y.0

pub label-by_side : (M : Map) (s : ℕ) (d : Vector) (m : Label) → SideSees M s d → ((o : Side) × IsSide M s o m) → MapLabel M d m
unfolding option_side
label-by_side M s d m (o, l, i, q) (p, j) =
    let e : Some (o, l) ≡ Some (p, m) = sym i ∙ j in
    let f : o ≡ p = ap (λ (y : Option LabelledSide). option_side y) e in
    seen (record { side = p; has = side-has M s p m j; sees = subst (λ (r : Side). Sees M r d) f q })

-- ---- the label of what a direction lies on
-- the sloop comes after the arcs
past-arcs : (as' : List Arc) (o : Option MapSloop) (k : ℕ) (l : MapSloop) → IsAt (items_then as' o) k (sloop_item l) → k < length as' → ⊥
past-arcs [] o k l a h = absurd (omega (arith, h))
past-arcs (b ∷ as') o zero l a h = absurd cc
past-arcs (b ∷ as') o (suc k) l a h = past-arcs as' o k l a (omega (arith, h))

module _ (m : SphereMap) (d : Vector) where
  pub svertex-within : (k : ℕ) → IsPlaceOf (map_of m) d (place.SVertex k) → k < length m.svertices
  svertex-within k (v, a, s) = map-within svertex_of m.svertices k v a

  pub label-svertex : (k : ℕ) (w : SVertex) → slice_get m.svertices k ≡ Some w → IsPlaceOf (map_of m) d (place.SVertex k) → MapLabel (map_of m) d w.mark
  label-svertex k w e (v, a, s) = let b = map-is_at svertex_of m.svertices k w e in
      at_svertex k (svertex_of w) b (subst (λ (r : MapVertex). SameDirection r.dir d) (is-at_one (map svertex_of m.svertices) k v (svertex_of w) a b) s) refl

  -- the item at whose place a direction lies
  pub arc-placed : (k : ℕ) → IsPlaceOf (map_of m) d (place.Arc k) → (x : Item) × IsAt (items (map_of m)) k x × OnItem (map_of m) x d
  arc-placed k (a, h, o) = (arc_item a, at-arc (map_of m).arcs (map_of m).sloop k a h, o)

  pub sloop-placed : (k : ℕ) → k ≡ length m.arcs → IsPlaceOf (map_of m) d place.Loop → (x : Item) × IsAt (items (map_of m)) k x × OnItem (map_of m) x d
  sloop-placed k e (l, h, o) = (sloop_item l, subst (λ (n : ℕ). IsAt (items (map_of m)) n (sloop_item l)) (sym e) (sloop-listed m.arcs m.sloop l h), o)

  -- the place of a direction on an item, by the item's number
  pub arc-place : (k : ℕ) → k < length m.arcs → (x : Item) → IsAt (items (map_of m)) k x → OnItem (map_of m) x d → IsPlaceOf (map_of m) d (place.Arc k)
  arc-place k h (arc_item a) b o = (a, arc-at (map_of m).arcs (map_of m).sloop k a b, o)
  arc-place k h (sloop_item l) b o = let e = length-map m.arcs arc_of in absurd (past-arcs (map_of m).arcs (map_of m).sloop k l b (omega (arith, h, e)))

  pub sloop-place : (k : ℕ) → length m.arcs ≤ k → (x : Item) → IsAt (items (map_of m)) k x → OnItem (map_of m) x d → IsPlaceOf (map_of m) d place.Loop
  sloop-place k h (arc_item a) b o = let w = map-within arc_of m.arcs k a (arc-at (map_of m).arcs (map_of m).sloop k a b) in absurd (omega (arith, h, w))
  sloop-place k h (sloop_item l) b o = (l, sloop-at (map_of m).arcs (map_of m).sloop k l b, o)

  pub label-item : (k : ℕ) (y : Item) (t : Label) → IsAt (items (map_of m)) k y → t ≡ item_mark y → ((x : Item) × IsAt (items (map_of m)) k x × OnItem (map_of m) x d) → MapLabel (map_of m) d t
  label-item k y t b e (x, a, o) = on_item k y b (subst (λ (r : Item). OnItem (map_of m) r d) (is-at_one (items (map_of m)) k x y a b) o) (sym e)

-- ---- going over the items of a map
module _ (M : Map) (P : Item → Type 0) where
  pub none-more : (n : ℕ) (y : Item) → IsAt (items M) n y → (P y → ⊥) → ((k : ℕ) → k < n → (x : Item) → IsAt (items M) k x → P x → ⊥) → (k : ℕ) → k < n + 1 → (x : Item) → IsAt (items M) k x → P x → ⊥
  none-more n y b off before k h x a p = ⊎_elim
      (λ e. off (subst P (is-at_one (items M) n x y (subst (λ (i : ℕ). IsAt (items M) i x) e a) b) p))
      (λ l. before k l x a p)
      (eq-or-lt_of_le {n = k} {m = n} (omega arith))

  pub none-of_all : (n : ℕ) → length (items M) ≤ n → ((k : ℕ) → k < n → (x : Item) → IsAt (items M) k x → P x → ⊥) → (k : ℕ) (x : Item) → IsAt (items M) k x → P x → ⊥
  none-of_all n h before k x a p = before k (let i = is-at_within (items M) k x a in omega arith) x a p
