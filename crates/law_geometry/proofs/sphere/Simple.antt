-- The maps of one label and of one plane: they are well shaped, and agree with what has their labels.
use Rattle.law_geometry.proofs.sphere.Prelude.{◌≡◌, ℕ, zero, suc, arith, refl, ap, sym, ◌∙◌, inl, ◌∷◌, subst, Some, None, [], sign, Vector, IsDirection, cross, dot, IsNormal, blend, Label, IsAt, MapSloop, Map, Item, sloop_item, items, item_normal, item_pos, item_mark, item_neg, OnItem, IsFree, Shaped, Valid, by_side, Least, Labelling, Near, Plain, Agrees, is-at_none, is-at_first}
use Rattle.law_geometry.proofs.sphere.Generic.{amount, far-keeps, far-level}
use Rattle.law_geometry.proofs.sphere.Walk.{between-direction}
use Rattle.law_geometry.proofs.sphere.Built.{agrees-valid}
use Rattle.std.proofs.lemmas.Option.{same_Some}

-- ---- one label
abbrev pub ground_map : Label → Label → Map
ground_map k g = record { mark = k; svertices = []; arcs = []; sloop = None; ground = Some g }

pub ground-shaped : (k g : Label) → Shaped (ground_map k g)
ground-shaped k g = record {
  svertex_dirs = λ i v a. absurd (is-at_none a);
  svertices_apart = λ i j u v a b w. absurd (is-at_none a);
  normals = λ i x a. absurd (is-at_none a);
  arcs_between = λ i x a. absurd (is-at_none a);
  no_svertex_on_item = λ i j v x a b o. absurd (is-at_none a);
  no_items_meet = λ i j x y d a b o p. absurd (is-at_none a);
  around_lone = λ i v a n. absurd (is-at_none a);
  around_not = λ i v a h. absurd (is-at_none a);
  ground_alone = λ e f. (g, refl);
  ground_not = λ m e. (refl, refl);
}

pub ground-agrees : (k g : Label) (F : Vector → Label → Type 0) → ((d : Vector) → IsDirection d → F d g) → ((d : Vector) (m n : Label) → IsDirection d → F d m → F d n → m ≡ n) → Agrees (ground_map k g) F
ground-agrees k g F all one = record {
  svertices = λ i v a. absurd (is-at_none a);
  marks = λ i x d a o. absurd (is-at_none a);
  beside = λ i x d e a o f. absurd (is-at_none a);
  lone = λ i v m e a q f. absurd (is-at_none a);
  free = λ d G m f e h. (1, λ i l. subst (F (blend i d 1 e)) (one d g m G.direction (all d G.direction) f) (all (blend i d 1 e) (between-direction d e i 1 (omega arith) h)));
  ground = λ m d e h. subst (F d) (same_Some g m e) (all d h);
}

-- ---- one plane
abbrev pub sloop_map : Label → MapSloop → Map
sloop_map k l = record { mark = k; svertices = []; arcs = []; sloop = Some l; ground = None }

module _ (k : Label) (l : MapSloop) where
  only : (i : ℕ) (x : Item) → IsAt (items (sloop_map k l)) i x → (i ≡ zero) × (sloop_item l ≡ x)
  only zero x e = (refl, is-at_first e)
  only (suc i) x e = absurd (is-at_none e)

  pub sloop-shaped : IsNormal l.normal → Shaped (sloop_map k l)
  sloop-shaped h = record {
    svertex_dirs = λ i v a. absurd (is-at_none a);
    svertices_apart = λ i j u v a b w. absurd (is-at_none a);
    normals = λ i x a. subst (λ (y : Item). IsNormal (item_normal y)) (let r = only i x a in r.1) h;
    arcs_between = λ i x a. absurd (is-at_none a);
    no_svertex_on_item = λ i j v x a b o. absurd (is-at_none a);
    no_items_meet = λ i j x y d a b o p. (let r = only i x a in r.0) ∙ sym (let r = only j y b in r.0);
    around_lone = λ i v a n. absurd (is-at_none a);
    around_not = λ i v a h. absurd (is-at_none a);
    ground_alone = λ e f. cc;
    ground_not = λ m e. cc;
  }

  abbrev side : Vector → Label
  side d = by_side l.pos l.mark l.neg (sign (dot l.normal d))

  pub sloop-agrees : (F : Vector → Label → Type 0) → ((d : Vector) → IsDirection d → F d (side d)) → ((d : Vector) (m n : Label) → IsDirection d → F d m → F d n → m ≡ n) → Agrees (sloop_map k l) F
  sloop-agrees F all one = record {
    svertices = λ i v a. absurd (is-at_none a);
    marks = λ i x d a o. mark i x d (only i x a) o;
    beside = λ i x d e a o f. near i x d e (only i x a) o f;
    lone = λ i v m e a q f. absurd (is-at_none a);
    free = free;
    ground = λ m d e h. cc;
  }
    where
      mark : (i : ℕ) (x : Item) (d : Vector) → (i ≡ zero) × (sloop_item l ≡ x) → OnItem (sloop_map k l) x d → F d (item_mark x)
      mark i x d (e, q) o = subst (λ (y : Item). OnItem (sloop_map k l) y d → F d (item_mark y)) q (λ c. subst (F d) (ap (by_side l.pos l.mark l.neg) (ap sign c.level)) (all d c.direction)) o

      near : (i : ℕ) (x : Item) (d e : Vector) → (i ≡ zero) × (sloop_item l ≡ x) → OnItem (sloop_map k l) x d → IsDirection (cross d e) → Near F d e (by_side (item_pos x) (item_mark x) (item_neg x) (sign (dot (item_normal x) e)))
      near i x d e (p, q) o f = subst (λ (y : Item). OnItem (sloop_map k l) y d → Near F d e (by_side (item_pos y) (item_mark y) (item_neg y) (sign (dot (item_normal y) e)))) q
          (λ c. (amount (l.normal ∷ []) e, λ j h. subst (F (blend j d 1 e)) (ap (by_side l.pos l.mark l.neg) (far-level (l.normal ∷ []) d e j h l.normal c.level)) (all (blend j d 1 e) (between-direction d e j 1 (omega arith) f)))) o

      free : (d : Vector) → IsFree (sloop_map k l) d → Plain F d
      free d G m f e h = (
        amount (l.normal ∷ []) e,
        λ j s. subst (F (blend j d 1 e))
            (ap (by_side l.pos l.mark l.neg) (far-keeps (l.normal ∷ []) d e j s l.normal (inl refl) (λ z. G.off_items zero (sloop_item l) refl (record { direction = G.direction; level = z }))) ∙ one d (side d) m G.direction (all d G.direction) f)
            (all (blend j d 1 e) (between-direction d e j 1 (omega arith) h)),
      )

  -- such a map is valid, and least where the loop is needed
  pub sloop-valid : IsNormal l.normal → Valid (sloop_map k l)
  sloop-valid h = agrees-valid (l.normal ∷ []) (λ d m. side d ≡ m) labelling (sloop_map k l) (sloop-shaped h) (sloop-agrees (λ d m. side d ≡ m) (λ d f. refl) (λ d m n f x y. sym x ∙ y))
    where
      labelling : Labelling (l.normal ∷ []) (λ d m. side d ≡ m)
      labelling = record {
        exists = λ d f. (side d, refl);
        one = λ d m n f x y. sym x ∙ y;
        cells = λ d e m f g s x. ap (by_side l.pos l.mark l.neg) (s l.normal (inl refl)) ∙ x;
      }

  pub sloop-least : (l.pos ≡ l.mark → l.neg ≡ l.mark → ⊥) → Least (sloop_map k l)
  sloop-least n = record {
    no_plain = λ i v a p. is-at_none a;
    no_straight = λ i v a p. is-at_none a;
    items_differ = λ i x a. subst (λ (y : Item). item_pos y ≡ item_mark y → item_neg y ≡ item_mark y → ⊥) (let r = only i x a in r.1) n;
  }
