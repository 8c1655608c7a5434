-- Which carriers are planes of items, carrier by carrier.
use Rattle.nef_complex.proofs.Prelude.{◌≡◌, ℕ, ◌<◌, ◌≤◌, pos, List, length, true, false, Option, Some, None, is_some, arith, sym, subst, IsAt, Form, form_at, normal_of, Vector, SameDirection, form_of, point_of, Plane, Map, Item, items, item_normal, map_of, is-at_one, is-at_within, Vertex, HasItemIn, LiesOn, AreNumbersWith, ItemsAreHeld, HasNormal, SameDirection-turned, SameDirection-trans}
use Rattle.std.specs.Option.{MatchOption}
use Rattle.nef_complex.proofs.SamePlanes.{parallel-equal}

-- ---- items
-- the number of the first item with the normal, if there is one
abbrev pub IsWith : Map → Vector → Option ℕ → Type 0
IsWith M n o = MatchOption o ((k : ℕ) (x : Item) → IsAt (items M) k x → SameDirection (item_normal x) n → ⊥) (λ k. (x : Item) × IsAt (items M) k x × SameDirection (item_normal x) n)

pub with-normal : (M : Map) (n : Vector) (o : Option ℕ) → is_some o ≡ true → IsWith M n o → HasNormal M n
with-normal M n None e f = absurd cc
with-normal M n (Some k) e h = (k, h.0, h.1, h.2)

pub without-normal : (M : Map) (n : Vector) (o : Option ℕ) → is_some o ≡ false → IsWith M n o → HasNormal M n → ⊥
without-normal M n None e f h = f h.0 h.1 h.2 h.3
without-normal M n (Some k) e g h = absurd cc

module _ (vs : List Vertex) (h : Form) (n : Vector) (w : SameDirection (normal_of h) n) where
  -- a vertex on the plane has an item with its normal
  pub item-in : (k : ℕ) (v : Vertex) → IsAt vs k v → LiesOn vs h k → HasNormal (map_of v.map) n → HasItemIn vs h
  item-in k v a (u, b, z) (j, x, i, s) =
      (k, v, j, x, a, i, subst (λ (r : Vertex). form_at h (point_of r.point) ≡ pos 0) (is-at_one vs k u v b a) z, SameDirection-trans (item_normal x) n (normal_of h) s (SameDirection-turned (normal_of h) n w))

  -- none of the vertices on the plane has one
  pub no-item : (on : List ℕ) (m : ℕ) → length on ≤ m → AreNumbersWith (LiesOn vs h) on → ((i k : ℕ) (v : Vertex) → i < m → IsAt on i k → IsAt vs k v → HasNormal (map_of v.map) n → ⊥) → HasItemIn vs h → ⊥
  no-item on m le N none (k, v, j, x, a, i, z, s) =
      let o = N.all k (v, a, z) in
      none o.0 k v (let l = is-at_within on o.0 k o.1 in omega arith) o.1 a (j, x, i, SameDirection-trans (item_normal x) (normal_of h) n s w)

-- ---- planes
-- the plane of an item is the carrier that holds the item
pub item-carrier : (hs : List Plane) (vs : List Vertex) → ItemsAreHeld hs vs → (h : Plane) → HasItemIn vs (form_of h) → (k : ℕ) × IsAt hs k h
item-carrier hs vs held h (k, v, j, y, a, b, z, s) =
    let K = held k j v y a b in
    let g : Plane = K.1 in
    let t = SameDirection-trans (normal_of (form_of h)) (item_normal y) (normal_of (form_of g)) (SameDirection-turned (item_normal y) (normal_of (form_of h)) s) K.4 in
    let same : h ≡ g = parallel-equal h g (point_of v.point) t.parallel z K.3 in
    (K.0, subst (λ (r : Plane). IsAt hs K.0 r) (sym same) K.2)
