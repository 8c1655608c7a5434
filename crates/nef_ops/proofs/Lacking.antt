-- Labels that a map doesn't have, from what its svertices and its items don't have.
use Rattle.nef_ops.proofs.Prelude.{◌≡◌, ℕ, ◌+◌, ◌<◌, List, get_or, ap, ◌∙◌, subst, Some, SpacePoint, Set, Vector, Label, Not, In, SVertex, SphereMap, svertex_of, map_of, is-at_map, is-at_is, IsAt, Map, MapVertex, Item, items, around_svertex, pos_item, neg_item, whole, HasSide, MapLabel, at_svertex, on_item, seen, Cone, label-one, germ-label, Share, Nothing, Everything, LacksLabel, SvertexLacks, ItemLacks, InShare, HasShare}
use borrow.Author.Count.{below_more}
use Rattle.law_geometry.specs.sphere.Maps.{Side}

-- what holds of the elements so far, and of one more
pub all-more : {A : Type 0} (P : A → Type 0) (xs : List A) (i : ℕ) (x : A) → x ≡ get_or xs i x → P x
    → ((k : ℕ) (y : A) → k < i → IsAt xs k y → P y) → (k : ℕ) (y : A) → k < i + 1 → IsAt xs k y → P y
all-more {A} P xs i x is here before k y l h =
    below_more (λ (n : ℕ). (z : A) → IsAt xs n z → P z) i (λ n m z. before n z m) (λ z a. subst P (is ∙ is-at_is xs i z x a) here) k l y h

-- ---- a map
module _ (l : Label) (m : SphereMap)
    (V : (k : ℕ) (v : SVertex) → IsAt m.svertices k v → SvertexLacks l v)
    (I : (k : ℕ) (x : Item) → IsAt (items (map_of m)) k x → ItemLacks l x) where
  svertex-lacks : (k : ℕ) (v : MapVertex) → IsAt (map_of m).svertices k v → (v.mark ≡ l → ⊥) × (v.around ≡ Some l → ⊥)
  svertex-lacks k v h =
      let u = is-at_map svertex_of m.svertices k v h in
      let L = V k u.0 u.1 in
      (λ e. L.mark (ap (λ (r : MapVertex). r.mark) u.2 ∙ e), λ e. L.around (ap (λ (r : MapVertex). r.around) u.2 ∙ e))

  pub map-lacks : (m.mark ≡ l → ⊥) → (m.ground ≡ Some l → ⊥) → LacksLabel l (map_of m)
  map-lacks own ground = record { mark = own; directions = by }
    where
      side : (o : Side) → HasSide (map_of m) o l → ⊥
      side (around_svertex k) (v, a, e) = (svertex-lacks k v a).1 e
      side (pos_item k) (x, a, e) = (I k x a).pos e
      side (neg_item k) (x, a, e) = (I k x a).neg e
      side whole e = ground e

      by : (d : Vector) → MapLabel (map_of m) d l → ⊥
      by d (at_svertex k v a w e) = (svertex-lacks k v a).0 e
      by d (on_item k x a o e) = (I k x a).mark e
      by d (seen s) = side s.side s.has

-- ---- shares
-- the labels of the map are those close to the point
share-by_map : (f : Share) (M : Map) (s : Set) (p : SpacePoint) → InShare f M.mark → ((d : Vector) (l : Label) → MapLabel M d l → InShare f l) → Cone M s p → HasShare f s p
share-by_map f M s p mark directions K = record {
  mark = λ l h. subst (InShare f) (label-one s p M.mark l K.mark h) mark;
  germs = λ d l i g. directions d l (germ-label M s p K d l i g);
}

pub nothing-share : (M : Map) → LacksLabel In M → (s : Set) (p : SpacePoint) → Cone M s p → HasShare Nothing s p
nothing-share M L s p K = share-by_map Nothing M s p L.mark (λ d l h e. L.directions d (subst (MapLabel M d) e h)) K

pub everything-share : (M : Map) → LacksLabel Not M → (s : Set) (p : SpacePoint) → Cone M s p → HasShare Everything s p
everything-share M L s p K = share-by_map Everything M s p L.mark (λ d l h e. L.directions d (subst (MapLabel M d) e h)) K
