-- The labels of a map about a plane through a direction that lies on no svertex and on no item of another plane.
use Rattle.law_geometry.proofs.sphere.building.Prelude.{◌≡◌, ℕ, ◌+◌, pos, arith, refl, ap, sym, ◌∙◌, subst, sign, Vector, IsDirection, cross, dot, IsZero, SameDirection, IsNormal, Label, IsOnCircle, IsAt, MapVertex, MapSloop, Map, Item, sloop_item, items, item_normal, item_pos, item_mark, item_neg, OnItem, IsFree, MapLabel, on_item, NearLabel, Shaped, Valid, by_side, Near, StraightAt, ByOp, is-at_one, PlaceOf, svertex_place, item_place, free_place, place_of, label-exists, normals-same, at-sloop, dot-comm, dir-signs, direction-left, even-side, op-side}
use Rattle.std.specs.Prelude.{Some}
use Rattle.law_geometry.proofs.sphere.NearItems.{near-free, near-item}

pub side-same_way : (n m e : Vector) → SameDirection n m → sign (dot m e) ≡ sign (dot n e)
side-same_way n m e w = ap sign (dot-comm m e) ∙ dir-signs n m e (direction-left n m w) w ∙ ap sign (dot-comm e n)

-- the labels of the map at d, and close to d above, in and below the plane of n
pub record SidesAt (M : Map) (n d : Vector) : Type 0 where
  pub pos : Label
  pub label : Label
  pub neg : Label
  pub at_d : MapLabel M d label
  pub near : (e : Vector) → NearLabel M d e (by_side pos label neg (sign (dot n e)))

module _ (M : Map) (V : Valid M) (n d : Vector) where
  pub free-sides : IsFree M d → SidesAt M n d
  free-sides F = let a = label-exists M V d F.direction in record {
    pos = a.0;
    label = a.0;
    neg = a.0;
    at_d = a.1;
    near = λ e. subst (NearLabel M d e) (sym (even-side a.0 (sign (dot n e)))) (near-free M V d F a.0 a.1 e);
  }

  pub item-sides : (i : ℕ) (x : Item) → IsAt (items M) i x → OnItem M x d → SameDirection n (item_normal x) → SidesAt M n d
  item-sides i x a o w = record {
    pos = item_pos x;
    label = item_mark x;
    neg = item_neg x;
    at_d = on_item i x a o refl;
    near = λ e. subst (NearLabel M d e) (ap (by_side (item_pos x) (item_mark x) (item_neg x)) (side-same_way n (item_normal x) e w)) (near-item M V d i x a o e);
  }

  -- off the svertices and off the items of other planes
  pub sides-at : IsDirection d → IsNormal n → ((k : ℕ) (v : MapVertex) → IsAt M.svertices k v → SameDirection v.dir d → ⊥)
      → ((i : ℕ) (x : Item) → IsAt (items M) i x → OnItem M x d → IsZero (cross n (item_normal x))) → SidesAt M n d
  sides-at h hn off flat = by (place_of M d h)
    where
      by : PlaceOf M d → SidesAt M n d
      by (svertex_place k v a w) = absurd (off k v a w)
      by (item_place i x a o) = item-sides i x a o (normals-same n (item_normal x) hn (V.shaped.normals i x a) (flat i x a o))
      by (free_place F) = free-sides F

-- an item that the sloop's circle meets is the sloop
pub own-item : (M : Map) → Shaped M → (l : MapSloop) → M.sloop ≡ Some l → (d : Vector) → IsOnCircle l.normal d → (i : ℕ) (x : Item) → IsAt (items M) i x → OnItem M x d → x ≡ sloop_item l
own-item M V l e d c i x a o =
    let j = at-sloop M.arcs M.sloop l e in
    let q = V.no_items_meet i j.0 x (sloop_item l) d a j.1 o c in
    is-at_one (items M) j.0 x (sloop_item l) (subst (λ (r : ℕ). IsAt (items M) r x) q a) j.1

-- the sides of two maps make those of op
pub joined-sides : (A B : Map) (op : Label → Label → Label) (n d : Vector) → dot n d ≡ pos 0 → (p : SidesAt A n d) (q : SidesAt B n d)
    → StraightAt (ByOp A B op) n (op p.pos q.pos) (op p.label q.label) (op p.neg q.neg) d
joined-sides A B op n d z p q = record {
  level = z;
  at_d = (p.label, q.label, p.at_d, q.at_d, refl);
  near = λ e. subst (Near (ByOp A B op) d e) (op-side op p.pos p.label p.neg q.pos q.label q.neg (sign (dot n e))) (both e (p.near e) (q.near e));
}
  where
    both : (e : Vector) → NearLabel A d e (by_side p.pos p.label p.neg (sign (dot n e))) → NearLabel B d e (by_side q.pos q.label q.neg (sign (dot n e)))
        → Near (ByOp A B op) d e (op (by_side p.pos p.label p.neg (sign (dot n e))) (by_side q.pos q.label q.neg (sign (dot n e))))
    both e (i, f) (j, g) = (i + j, λ k s. (by_side p.pos p.label p.neg (sign (dot n e)), by_side q.pos q.label q.neg (sign (dot n e)), f k (omega arith), g k (omega arith), refl))

-- where both are free there is one label all about
pub free-joined : (A B : Map) (op : Label → Label → Label) (V : Valid A) (W : Valid B) (n d : Vector) → dot n d ≡ pos 0 → IsFree A d → IsFree B d → (c : Label) × StraightAt (ByOp A B op) n c c c d
unfolding free-sides
free-joined A B op V W n d z F G = let s = free-sides A V n d F in let t = free-sides B W n d G in (op s.label t.label, joined-sides A B op n d z s t)
