-- The forms of a map. Its places are decided, and determined by the signs of its forms.
use Rattle.law_geometry.proofs.sphere.Prelude.{◌≡◌, ℕ, pos, refl, sym, ◌⊎◌, inl, inr, List, ◌++◌, Lies, Vector, IsDirection, dot, SameDirection, lies-left, lies-right, IsAt, MapVertex, Map, Item, arc_item, sloop_item, items, item_normal, dir_of, OnItem, IsFree, Decided, same-nought}
use Rattle.law_geometry.proofs.sphere.Lists.{Found, search_list, gather, gather-has}
pub use Rattle.law_geometry.specs.sphere.Forms.{item_forms, forms}
use Rattle.law_geometry.proofs.sphere.Generic.{SameSigns, Keeps}
use Rattle.law_geometry.proofs.sphere.Places.{direction-decided, SameDirection-decided, IsOnCircle-decided, IsStrictlyOn-decided, axes, point_forms, same-keeps, direction-stays, SameDirection-back, IsStrictlyOn-stays, IsOnCircle-stays}

-- ---- the forms
pub axes-forms : (M : Map) (g : Vector) → Lies axes g → Lies (forms M) g
axes-forms M g l = lies-left axes (gather (λ v. point_forms v.dir) M.svertices ++ gather (item_forms M) (items M)) g l

pub svertex-forms : (M : Map) (k : ℕ) (v : MapVertex) (g : Vector) → IsAt M.svertices k v → Lies (point_forms v.dir) g → Lies (forms M) g
svertex-forms M k v g a l = lies-right axes (gather (λ v. point_forms v.dir) M.svertices ++ gather (item_forms M) (items M)) g (lies-left (gather (λ v. point_forms v.dir) M.svertices) (gather (item_forms M) (items M)) g (gather-has (λ v. point_forms v.dir) M.svertices k v g a l))

pub item-forms : (M : Map) (k : ℕ) (x : Item) (g : Vector) → IsAt (items M) k x → Lies (item_forms M x) g → Lies (forms M) g
item-forms M k x g a l = lies-right axes (gather (λ v. point_forms v.dir) M.svertices ++ gather (item_forms M) (items M)) g (lies-right (gather (λ v. point_forms v.dir) M.svertices) (gather (item_forms M) (items M)) g (gather-has (item_forms M) (items M) k x g a l))

pub normal-form : (M : Map) (x : Item) → Lies (item_forms M x) (item_normal x)
normal-form M (arc_item a) = inl refl
normal-form M (sloop_item l) = inl refl

-- ---- items
pub on-direction : (M : Map) (x : Item) (d : Vector) → OnItem M x d → IsDirection d
on-direction M (arc_item a) d o = o.on_circle.direction
on-direction M (sloop_item l) d o = o.direction

pub on-level : (M : Map) (x : Item) (d : Vector) → OnItem M x d → dot (item_normal x) d ≡ pos 0
on-level M (arc_item a) d o = o.on_circle.level
on-level M (sloop_item l) d o = o.level

pub OnItem-decided : (M : Map) (x : Item) (d : Vector) → Decided (OnItem M x d)
OnItem-decided M (arc_item a) d = IsStrictlyOn-decided a.normal (dir_of M.svertices a.source) (dir_of M.svertices a.target) d
OnItem-decided M (sloop_item l) d = IsOnCircle-decided l.normal d

-- in its plane, a direction with the signs of one on the item is on the item
pub OnItem-stays : (M : Map) (x : Item) (d e : Vector) → Keeps (item_forms M x) d e → dot (item_normal x) e ≡ pos 0 → OnItem M x d → OnItem M x e
OnItem-stays M (arc_item a) d e k z o = IsStrictlyOn-stays a.normal (dir_of M.svertices a.source) (dir_of M.svertices a.target) d e k z o
OnItem-stays M (sloop_item l) d e k z o = IsOnCircle-stays l.normal d e k z o

pub OnItem-by_signs : (M : Map) (x : Item) (d e : Vector) → SameSigns (item_forms M x) d e → OnItem M x d → OnItem M x e
OnItem-by_signs M x d e s o = OnItem-stays M x d e (same-keeps (item_forms M x) d e s) (same-nought (dot (item_normal x) d) (dot (item_normal x) e) (s (item_normal x) (normal-form M x)) (on-level M x d o)) o

pub SameDirection-by_signs : (v d e : Vector) → SameSigns (point_forms v) d e → IsDirection e → SameDirection v d → SameDirection v e
SameDirection-by_signs v d e s f w = SameDirection-back v e d (λ g l y. sym (s g l)) f w

-- ---- places by signs
pub same-turned : (gs : List Vector) (d e : Vector) → SameSigns gs d e → SameSigns gs e d
same-turned gs d e s g l = sym (s g l)

module _ (M : Map) (d e : Vector) (s : SameSigns (forms M) d e) where
  pub direction-by_signs : IsDirection d → IsDirection e
  direction-by_signs f = direction-stays d e (λ g l y. s g (axes-forms M g l)) f

  pub at_svertex-by_signs : (k : ℕ) (v : MapVertex) → IsAt M.svertices k v → IsDirection e → SameDirection v.dir d → SameDirection v.dir e
  at_svertex-by_signs k v a f w = SameDirection-by_signs v.dir d e (λ g l. s g (svertex-forms M k v g a l)) f w

  pub on_item-by_signs : (k : ℕ) (x : Item) → IsAt (items M) k x → OnItem M x d → OnItem M x e
  on_item-by_signs k x a o = OnItem-by_signs M x d e (λ g l. s g (item-forms M k x g a l)) o

pub free-by_signs : (M : Map) (d e : Vector) → SameSigns (forms M) d e → IsFree M d → IsFree M e
free-by_signs M d e s f = record {
  direction = direction-by_signs M d e s f.direction;
  off_svertices = λ k v a w. f.off_svertices k v a (at_svertex-by_signs M e d (same-turned (forms M) d e s) k v a f.direction w);
  off_items = λ k x a o. f.off_items k x a (on_item-by_signs M e d (same-turned (forms M) d e s) k x a o);
}

-- where a direction lies
pub data PlaceOf (M : Map) (d : Vector) : Type 0 where
  svertex_place : (k : ℕ) (v : MapVertex) → IsAt M.svertices k v → SameDirection v.dir d → PlaceOf M d
  item_place : (k : ℕ) (x : Item) → IsAt (items M) k x → OnItem M x d → PlaceOf M d
  free_place : IsFree M d → PlaceOf M d

pub place_of : (M : Map) (d : Vector) → IsDirection d → PlaceOf M d
place_of M d f = by (search_list M.svertices (λ k v. SameDirection v.dir d) (λ k v. SameDirection-decided v.dir d)) (search_list (items M) (λ k x. OnItem M x d) (λ k x. OnItem-decided M x d))
  where
    by : Found M.svertices (λ k v. SameDirection v.dir d) ⊎ ((k : ℕ) (v : MapVertex) → IsAt M.svertices k v → SameDirection v.dir d → ⊥)
        → Found (items M) (λ k x. OnItem M x d) ⊎ ((k : ℕ) (x : Item) → IsAt (items M) k x → OnItem M x d → ⊥) → PlaceOf M d
    by (inl r) i = svertex_place r.number r.element r.listed r.holds
    by (inr n) (inl r) = item_place r.number r.element r.listed r.holds
    by (inr n) (inr m) = free_place (record { direction = f; off_svertices = n; off_items = m })

pub IsFree-decided : (M : Map) (d : Vector) → Decided (IsFree M d)
IsFree-decided M d = by (direction-decided d)
  where
    at_place : PlaceOf M d → Decided (IsFree M d)
    at_place (svertex_place k v a w) = inr (λ f. f.off_svertices k v a w)
    at_place (item_place k x a o) = inr (λ f. f.off_items k x a o)
    at_place (free_place f) = inl f

    by : Decided (IsDirection d) → Decided (IsFree M d)
    by (inl f) = at_place (place_of M d f)
    by (inr n) = inr (λ f. n f.direction)
