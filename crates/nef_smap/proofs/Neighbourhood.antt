-- Stars of directions in faces and on items show the map.
use Rattle.nef_smap.proofs.Prelude.{◌≡◌, ℕ, zero, List, [], ◌∷◌, length, map, pos, true, false, Option, Some, None, Result, Ok, Err, IfOk, refl, sym, ap, subst, ◌∙◌, sign, normal_limit, svertex_limit, Vector, dot, cross, IsDirection, SameDirection, IsAtMost, IsNormal, IsAt, Label, vector_of, Dir, same_directions_equal, MapVertex, Map, HasArc, at_svertex, Item, items, item_normal, item_pos, item_mark, item_neg, OnItem, Side, HasSide, SeenAs, MapLabel, on_item, seen, NearLabel, Valid, by_side, StarLabel, on_ray, in_sector, in_only_sector, StarShows, IsStraight, is-at_one, none-at, near-lone, straight_star-label, near-free, near-item, sees-free, Ray, Star, ray_of, star_of, sector_at, IsRay, IsStar, at-ray, sector-at, sectors-fill, each_has_one_label, SVertex, SphereMap, svertex_of, map_of, LabelledSide, sides_of, IsSide, SideSees, IsNeighbourhood, IsStarAlong, dir-self, is-at_first}
use Rattle.law_geometry.specs.sphere.Stars.{Ray as PlainRay}
use Rattle.nef_star.proofs.Straight.{plane-star}
use Rattle.nef_smap.proofs.NeighbourhoodEnds.{ray-is}
use Rattle.nef_smap.proofs.SideLists.{side-has}
use Rattle.nef_smap.proofs.WellFormed.{star-well_formed}
use Rattle.nef_space.proofs.Lists.{map-is_at}

-- what a star says of the map is its neighbourhood
pub neighbourhood-of : (t : Star) → IsStar t → (M : Map) → StarShows (star_of t) M → (d : Dir) → t.axis ≡ d → IsNeighbourhood (star_of t) M (vector_of d)
neighbourhood-of t T M S d e = record {
  star_of = record {
    rays = S.rays;
    axis = ap vector_of e;
    mark = subst (λ (c : Dir). MapLabel M (vector_of c) t.mark) e S.mark;
    labels = subst (λ (c : Dir). (f : Vector) → IsDirection (cross (vector_of c) f) → (l : Label) × StarLabel (star_of t) f l × NearLabel M (vector_of c) f l) e
        (λ f off. let l = each_has_one_label t T.turned f off in (l.0, l.1, S.labels f l.0 off l.1));
  };
  shows = S;
}

-- each ray has a sector after it
pub sector-of : (t : Star) → IsStar t → (k : ℕ) (r : PlainRay) → IsAt (star_of t).rays k r → (l : Label) × IsAt t.sectors.items k l
sector-of t T k r a =
    let h = at-ray t.rays.items k r a in
    (sector_at t.sectors.items k, sector-at t.sectors.items k (sectors-fill t.rays.items (length t.sectors.items) k T.turned.sectors h.0))

-- ---- without rays
pub lone-shows : (t : Star) (M : Map) (m : Label) → IsStar t → t.rays.items ≡ [] → t.sectors.items ≡ m ∷ [] → MapLabel M (vector_of t.axis) t.mark
    → ((e : Vector) → IsDirection (cross (vector_of t.axis) e) → NearLabel M (vector_of t.axis) e m) → StarShows (star_of t) M
lone-shows t M m T empty one mark near = record {
  axis = t.axis.some;
  rays = λ k r a. absurd (none-at (star_of t).rays k r none a);
  sectors = sector-of t T;
  mark = mark;
  labels = λ e l off s. subst (NearLabel M (vector_of t.axis) e) (only e l s) (near e off);
}
  where
    none : (star_of t).rays ≡ []
    none = ap (map ray_of) empty

    only : (e : Vector) (l : Label) → StarLabel (star_of t) e l → m ≡ l
    only e l (on_ray k r a o q) = absurd (none-at (star_of t).rays k r none a)
    only e l (in_sector k q r a n o s) = absurd (none-at (star_of t).rays k q none a)
    only e l (in_only_sector n s) = is-at_first (subst (λ (r : List Label). IsAt r zero l) one s)

-- ---- in a face
-- the label of a side is that of what it sees
pub side-label : (M : Map) (s : ℕ) (d : Vector) (l : Label) → SideSees M s d → ((o : Side) × IsSide M s o l) → SeenAs M d l
side-label M s d l (o, k, is, sees) (o', is') = record {
  side = o;
  has = subst (HasSide M o) (ap (λ (p : LabelledSide). p.1) (is-at_one (sides_of M) s (o, k) (o', l) is is')) (side-has M s o k is);
  sees = sees;
}

pub face-shows : (t : Star) (M : Map) (l : Label) → Valid M → IsStar t → t.rays.items ≡ [] → t.sectors.items ≡ l ∷ [] → t.mark ≡ l → SeenAs M (vector_of t.axis) l → StarShows (star_of t) M
face-shows t M l V T empty one mark S =
    lone-shows t M l T empty one (subst (MapLabel M (vector_of t.axis)) (sym mark) (seen S)) (λ e off. near-free M V (vector_of t.axis) (sees-free M (vector_of t.axis) l S) l (seen S) e)

-- ---- on an item
pub along-shows : (t : Star) (M : Map) → Valid M → IsStar t → (i : ℕ) (x : Item) → IsAt (items M) i x → OnItem M x (vector_of t.axis) → IsStarAlong x (star_of t) → StarShows (star_of t) M
along-shows t M V T i x a o A = record {
  axis = t.axis.some;
  rays = (star-well_formed t T).rays;
  sectors = sector-of t T;
  mark = on_item i x a o (sym A.mark);
  labels = λ e l off s. subst (NearLabel M (vector_of t.axis) e) (label e l s) (near-item M V (vector_of t.axis) i x a o e);
}
  where
    straight : IsStraight (star_of t)
    straight = record {
      first = record { normal = item_normal x; ahead = true; mark = item_mark x };
      second = record { normal = item_normal x; ahead = false; mark = item_mark x };
      two_rays = A.rays;
      pos = item_pos x;
      neg = item_neg x;
      two_sectors = A.sectors;
      one_normal = refl;
      first_ahead = refl;
      second_behind = refl;
      first_mark = sym A.mark;
      second_mark = sym A.mark;
    }

    label : (e : Vector) (l : Label) → StarLabel (star_of t) e l → by_side (item_pos x) (item_mark x) (item_neg x) (sign (dot (item_normal x) e)) ≡ l
    label e l s =
        sym (straight_star-label (star_of t) (star-well_formed t T).rays straight t.axis.some e l s
        ∙ ap (λ (m : Label). by_side (item_pos x) m (item_neg x) (sign (dot (item_normal x) e))) A.mark)

-- ---- where a star was made
pub face-ok : {E : Type 0} (r : Result Star E) (M : Map) (s : ℕ) (d : Dir) (l : Label) → Valid M → SideSees M s (vector_of d) → (o : Side) × IsSide M s o l → IfOk r IsStar → IfOk r (λ t. t.axis ≡ d)
    → IfOk r (λ t. t.rays.items ≡ []) → IfOk r (λ t. t.sectors.items ≡ l ∷ []) → IfOk r (λ t. t.mark ≡ l) → IfOk r (λ t. IsNeighbourhood (star_of t) M (vector_of d))
face-ok (Ok t) M s d l V sees has T axis empty one mark =
    neighbourhood-of t T M (face-shows t M l V T empty one mark (subst (λ (c : Dir). SeenAs M (vector_of c) l) (sym axis) (side-label M s (vector_of d) l sees has))) d axis
face-ok (Err e) M s d l V sees has T axis empty one mark = tt

pub along-here : (t : Star) (M : Map) (i : ℕ) (x : Item) (d : Dir) → Valid M → IsAt (items M) i x → OnItem M x (vector_of d) → IsStar t → t.axis ≡ d → IsStarAlong x (star_of t) → IsNeighbourhood (star_of t) M (vector_of d)
along-here t M i x d V a o T axis A = neighbourhood-of t T M (along-shows t M V T i x a (subst (λ (c : Dir). OnItem M x (vector_of c)) (sym axis) o) A) d axis

-- what lies on an item with this number
pub on-listed : (M : Map) (i : ℕ) (y : Item) (d : Vector) → (x : Item) × IsAt (items M) i x × OnItem M x d → IsAt (items M) i y → OnItem M y d
on-listed M i y d (x, a, o) b = subst (λ (z : Item). OnItem M z d) (is-at_one (items M) i x y a b) o

-- ---- the two rays along an item
module _ (x : Item) (t : Star) (q r : Ray) (n : Dir) (m a b : Label) (rays : t.rays.items ≡ q ∷ r ∷ []) (sectors : t.sectors.items ≡ a ∷ b ∷ []) (mark : t.mark ≡ m)
    (qn : q.normal ≡ n) (qa : q.ahead ≡ true) (qm : q.mark ≡ m) (rn : r.normal ≡ n) (ra : r.ahead ≡ false) (rm : r.mark ≡ m) (along : vector_of n ≡ item_normal x) where
  pub rays-along : m ≡ item_mark x → a ≡ item_pos x → b ≡ item_neg x → IsStarAlong x (star_of t)
  rays-along e f g = record {
    rays = ap (map ray_of) rays ∙ rw (ray-is q n true m qn qa qm, ray-is r n false m rn ra rm, along, e) refl;
    sectors = sectors ∙ rw (f, g) refl;
    mark = mark ∙ e;
  }

  leaves : (s : Ray) → s.normal ≡ n → dot (item_normal x) (vector_of t.axis) ≡ pos 0 → IsNormal (item_normal x) → IsAtMost normal_limit (item_normal x) → IsRay (vector_of t.axis) s
  leaves s e level normal small =
      let f : item_normal x ≡ vector_of s.normal = sym (ap vector_of e ∙ along) in
      record {
        level = subst (λ (y : Vector). dot y (vector_of t.axis) ≡ pos 0) f level;
        small = subst (IsAtMost normal_limit) f small;
        normal = subst IsNormal f normal;
      }

  pub star-along : IsAtMost svertex_limit (vector_of t.axis) → dot (item_normal x) (vector_of t.axis) ≡ pos 0 → IsNormal (item_normal x) → IsAtMost normal_limit (item_normal x) → IsStar t
  star-along few level normal small = plane-star t q r rays (ap length sectors) few (leaves q qn level normal small) (leaves r rn level normal small) (qn ∙ sym rn) qa ra

-- ---- at a svertex
-- the svertex of a direction, with that direction
pub svertex-here : (m : SphereMap) (k : ℕ) (s : SVertex) (d : Dir) → IsAt m.svertices k s → (v : MapVertex) × IsAt (map_of m).svertices k v × SameDirection v.dir (vector_of d)
    → IsAt (map_of m).svertices k (record { dir = vector_of d; mark = s.mark; around = s.around })
svertex-here m k s d h (v, a, w) =
    let b = map-is_at svertex_of m.svertices k s h in
    let e : v ≡ svertex_of s = is-at_one (map_of m).svertices k v (svertex_of s) a b in
    let f : s.dir ≡ d = same_directions_equal s.dir d (subst (λ (x : MapVertex). SameDirection x.dir (vector_of d)) e w) in
    subst (λ (x : Dir). IsAt (map_of m).svertices k (record { dir = vector_of x; mark = s.mark; around = s.around })) f b

pub lone-ok : {E : Type 0} (r : Result Star E) (M : Map) (k : ℕ) (own l : Label) (around : Option Label) (d : Dir) → Valid M → IsAt M.svertices k (record { dir = vector_of d; mark = own; around = around }) → around ≡ Some l
    → IfOk r IsStar → IfOk r (λ t. t.axis ≡ d) → IfOk r (λ t. t.rays.items ≡ []) → IfOk r (λ t. t.sectors.items ≡ l ∷ []) → IfOk r (λ t. t.mark ≡ own) → IfOk r (λ t. IsNeighbourhood (star_of t) M (vector_of d))
lone-ok (Ok t) M k own l around d V a some T axis empty one mark =
    neighbourhood-of t T M (lone-shows t M l T empty one (at_svertex k v here (dir-self v.dir t.axis.some) (sym mark)) (near-lone M V k v here lone l some)) d axis
  where
    v : MapVertex
    v = record { dir = vector_of t.axis; mark = own; around = around }

    here : IsAt M.svertices k v
    here = subst (λ (x : Dir). IsAt M.svertices k (record { dir = vector_of x; mark = own; around = around })) (sym axis) a

    lone : HasArc M k → ⊥
    lone h = let f : Some l ≡ None = sym some ∙ V.shaped.around_not k v here h in cc
lone-ok (Err e) M k own l around d V a some T axis empty one mark = tt
