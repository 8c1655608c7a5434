-- The maps of one label and of one plane, as the program's.
use Rattle.nef_smap.proofs.Prelude.{◌≡◌, ℕ, zero, suc, [], ◌∷◌, refl, sym, ap, ◌∙◌, inl, subst, normal_limit, Vector, dot, IsDirection, IsNormal, IsAtMost, Label, vector_of, IsPrimitive, IsAt, MapSloop, Item, sloop_item, items, item_normal, MapLabel, Valid, by_side, Least, Ordered, Labelling, ground_map, ground-shaped, ground-agrees, sloop_map, sloop-shaped, sloop-agrees, SLoop, sloop_of, IsSmall, is-at_none, is-at_first}
use Rattle.nef_space.specs.Signs.{sign}
use Rattle.law_geometry.proofs.sphere.Built.{agrees-valid, label-agrees}
use Rattle.nef_smap.proofs.Primitive.{dir-primitive}

-- ---- one label
module _ (k g : Label) where
  one-labelling : Labelling [] (λ d m. g ≡ m)
  one-labelling = record { exists = λ d f. (g, refl); one = λ d m n f x y. sym x ∙ y; cells = λ d e m f h s x. x }

  pub ground-valid : Valid (ground_map k g)
  ground-valid = agrees-valid [] (λ d m. g ≡ m) one-labelling (ground_map k g) (ground-shaped k g) (ground-agrees k g (λ d m. g ≡ m) (λ d f. refl) (λ d m n f x y. sym x ∙ y))

  pub ground-labels : (d : Vector) → IsDirection d → MapLabel (ground_map k g) d g
  ground-labels d f = label-agrees [] (λ d m. g ≡ m) one-labelling (ground_map k g) (ground-shaped k g) (ground-agrees k g (λ d m. g ≡ m) (λ d f. refl) (λ d m n f x y. sym x ∙ y)) d g f refl

  pub ground-least : Least (ground_map k g)
  ground-least = record { no_plain = λ i v a p. is-at_none a; no_straight = λ i v a p. is-at_none a; items_differ = λ i x a. absurd (is-at_none a) }

  pub ground-ordered : Ordered (ground_map k g)
  ground-ordered = record { dirs_lowest = λ i v a. absurd (is-at_none a); normals_lowest = λ i x a. absurd (is-at_none a); svertices = λ i j u v l a b. absurd (is-at_none a); arcs = λ i j u v l a b. absurd (is-at_none a) }

  pub ground-small : IsSmall (ground_map k g)
  ground-small = record { svertices = λ i v a. absurd (is-at_none a); normals = λ i x a. absurd (is-at_none a) }

-- ---- one plane
module _ (l : SLoop) where
  abbrev p : MapSloop
  p = sloop_of l

  only : (i : ℕ) (x : Item) → IsAt (items (sloop_map l.mark p)) i x → sloop_item p ≡ x
  only zero x e = is-at_first e
  only (suc i) x e = absurd (is-at_none e)

  abbrev side : Vector → Label
  side d = by_side l.pos l.mark l.neg (sign (dot (vector_of l.normal) d))

  side-labelling : Labelling (vector_of l.normal ∷ []) (λ d m. side d ≡ m)
  side-labelling = record { exists = λ d f. (side d, refl); one = λ d m n f x y. sym x ∙ y; cells = λ d e m f g s x. ap (by_side l.pos l.mark l.neg) (s (vector_of l.normal) (inl refl)) ∙ x }

  pub plane-labels : IsNormal (vector_of l.normal) → (d : Vector) → IsDirection d → MapLabel (sloop_map l.mark p) d (side d)
  plane-labels h d f = label-agrees (vector_of l.normal ∷ []) (λ d m. side d ≡ m) side-labelling (sloop_map l.mark p) (sloop-shaped l.mark p h)
      (sloop-agrees l.mark p (λ d m. side d ≡ m) (λ d f. refl) (λ d m n f x y. sym x ∙ y)) d (side d) f refl

  pub plane-ordered : Ordered (sloop_map l.mark p)
  plane-ordered = record {
    dirs_lowest = λ i v a. absurd (is-at_none a);
    normals_lowest = λ i x a. subst (λ (y : Item). IsPrimitive (item_normal y)) (only i x a) (dir-primitive l.normal);
    svertices = λ i j u v l a b. absurd (is-at_none a);
    arcs = λ i j u v l a b. absurd (is-at_none a);
  }

  pub plane-small : IsAtMost normal_limit (vector_of l.normal) → IsSmall (sloop_map l.mark p)
  plane-small h = record { svertices = λ i v a. absurd (is-at_none a); normals = λ i x a. subst (λ (y : Item). IsAtMost normal_limit (item_normal y)) (only i x a) h }
