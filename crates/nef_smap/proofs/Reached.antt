-- Two sides that see one direction have one label, where the labels of the sides agree piece by piece with a labelling.
use Rattle.nef_smap.proofs.Prelude.{◌≡◌, ℕ, ap, sym, ◌∙◌, List, subst, Some, sign, sign-plus, sign-minus, Vector, IsDirection, cross, dot, Label, Out, IsAt, MapVertex, Map, Item, items, item_normal, OnItem, IsFree, Side, around_svertex, pos_item, neg_item, whole, HasSide, Sees, by_side, Labelling, Near, Plain, is-at_one, beside, refl}
use Rattle.law_geometry.proofs.sphere.Built.{SidesTell, sees-direction, side-label}

-- at each place of the map, and near it, the labels are those that G gives the sides
pub record Sided (M : Map) (G : Side → Label) (F : Vector → Label → Type 0) : Type 0 where
  pub free : (d : Vector) → IsFree M d → Plain F d
  pub beside : (k : ℕ) (x : Item) (d e : Vector) → IsAt (items M) k x → OnItem M x d → IsDirection (cross d e) → Near F d e (by_side (G (pos_item k)) Out (G (neg_item k)) (sign (dot (item_normal x) e)))
  pub lone : (k : ℕ) (v : MapVertex) (m : Label) (e : Vector) → IsAt M.svertices k v → v.around ≡ Some m → IsDirection (cross v.dir e) → Near F v.dir e (G (around_svertex k))
  pub ground : (m : Label) (d : Vector) → M.ground ≡ Some m → IsFree M d → F d (G whole)

module _ (gs : List Vector) (F : Vector → Label → Type 0) (L : Labelling gs F) (M : Map) (G : Side → Label) (A : Sided M G F) where
  -- a side of the map has the label of G
  abbrev Says : Side → Label → Type 0
  Says o m = ((l : Label) × HasSide M o l) × (G o ≡ m)

  sides-tell : SidesTell M Says F
  sides-tell = record {
    free = A.free;
    above = λ k z y a m b on f l h. subst (Near F y a) (ap (by_side (G (pos_item k)) Out (G (neg_item k))) (sign-plus (dot (item_normal z) a) l) ∙ h.1) (A.beside k z y a b on f);
    below = λ k z y a m b on f l h. subst (Near F y a) (ap (by_side (G (pos_item k)) Out (G (neg_item k))) (sign-minus (dot (item_normal z) a) l) ∙ h.1) (A.beside k z y a b on f);
    lone = λ k u a m b f h.
        let (v, at, e) = h.0.1 in
        subst (Near F u.dir a) h.1 (A.lone k u h.0.0 a b (sym (ap (λ (r : MapVertex). r.around) (is-at_one M.svertices k v u at b)) ∙ e) f);
    ground = λ a m c h. subst (λ (r : Label). F a r) h.1 (A.ground h.0.0 a h.0.1 c);
  }

  pub sides-agree : (d : Vector) (o p : Side) (k l : Label) → HasSide M o k → HasSide M p l → Sees M o d → Sees M p d → G o ≡ G p
  sides-agree d o p k l a b x y = L.one d (G o) (G p) (sees-direction M d o x) (side-label gs F L M Says sides-tell d o (G o) ((k, a), refl) x) (side-label gs F L M Says sides-tell d p (G p) ((l, b), refl) y)
