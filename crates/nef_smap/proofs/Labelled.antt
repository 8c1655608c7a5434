-- The label of a free direction: of what lies over it. It is a labelling, which the signs of finitely many forms determine.
use Rattle.nef_smap.proofs.Prelude.{◌≡◌, ℕ, pos, ◌<ℤ◌, refl, ap, sym, ◌∙◌, inl, inr, List, [], ◌∷◌, ◌++◌, Option, ring, at, ◌⊕◌, ◌⊖◌, ◌⊗◌, sign, lies-left, lies-right, Lies, Vector, cross, dot, Label, Out, Decided, IsAt, Map, Item, items, item_normal, IsFree, Side, Shaped, SameSigns, gather, forms, Labelling, item-forms, normal-form, IsFree-decided, free-by_signs, over_forms, IsFirst, first_sign, Stands, met}
use Rattle.nef_smap.proofs.Rise.{lies-at, form-over, meridian-over}
use Rattle.nef_smap.proofs.Over.{one_side, moved, first-one}
use Rattle.nef_smap.proofs.Lowest.{first-exists}
use Rattle.nef_smap.proofs.Stands.{stand, stands}

-- the product with u x d as a form in d
pub turned-form : (g u d : Vector) → dot g (cross u d) ≡ dot (cross g u) d
turned-form g u d = ring (g.x ∷ g.y ∷ g.z ∷ u.x ∷ u.y ∷ u.z ∷ d.x ∷ d.y ∷ d.z ∷ [])
    (at 0 ⊗ (at 4 ⊗ at 8 ⊖ at 5 ⊗ at 7) ⊕ at 1 ⊗ (at 5 ⊗ at 6 ⊖ at 3 ⊗ at 8) ⊕ at 2 ⊗ (at 3 ⊗ at 7 ⊖ at 4 ⊗ at 6))
    ((at 1 ⊗ at 5 ⊖ at 2 ⊗ at 4) ⊗ at 6 ⊕ (at 2 ⊗ at 3 ⊖ at 0 ⊗ at 5) ⊗ at 7 ⊕ (at 0 ⊗ at 4 ⊖ at 1 ⊗ at 3) ⊗ at 8) tt

module _ (M : Map) (u e : Vector) (G : Side → Label) (top : Label) where
  -- over the directions that are close to d, to one side of its meridian, lies what has the label m
  abbrev pub Aside : Vector → Vector → Type 0
  Aside d z = Stands (over_forms M u) d (cross u d) e z

  pub record LabelAbove (d : Vector) (m : Label) : Type 0 where
    pub free : IsFree M d → (z : Vector) (r : Option ℕ) → Aside d z → IsFirst M u z r → met G top r ≡ m
    pub other : (IsFree M d → ⊥) → m ≡ Out

  abbrev pub above_forms : List Vector
  above_forms = over_forms M u ++ gather (λ (g : Vector). cross g u ∷ []) (over_forms M u)

  pub over-above : (g : Vector) → Lies (over_forms M u) g → Lies above_forms g
  over-above g l = lies-left (over_forms M u) (gather (λ (g : Vector). cross g u ∷ []) (over_forms M u)) g l

  turned-above : (g : Vector) → Lies (over_forms M u) g → Lies above_forms (cross g u)
  turned-above g l = lies-right (over_forms M u) (gather (λ (g : Vector). cross g u ∷ []) (over_forms M u)) (cross g u) (lies-at (λ (g : Vector). cross g u) (over_forms M u) g l)

  aside-same : (d c z : Vector) → SameSigns above_forms d c → Aside c z → Aside d z
  aside-same d c z s a g l =
      a g l ∙ ap (λ t. first_sign t (first_sign (sign (dot g (cross u c))) (sign (dot g e)))) (s g (over-above g l))
      ∙ ap (λ t. first_sign (sign (dot g d)) (first_sign t (sign (dot g e)))) (ap sign (turned-form g u c) ∙ s (cross g u) (turned-above g l) ∙ sym (ap sign (turned-form g u d)))

  module _ (V : Shaped M) (ahead : (k : ℕ) (x : Item) → IsAt (items M) k x → pos 0 <ℤ dot (item_normal x) u) where
    -- directions with the same signs
    pub first-same : (y z : Vector) → SameSigns (over_forms M u) y z → (r : Option ℕ) → IsFirst M u y r → IsFirst M u z r
    first-same y z s r f = moved M u y z (λ m l. s m (meridian-over M u m l))
        (λ k x a. one_side (s (item_normal x) (form-over M u (item_normal x) (item-forms M k x (item_normal x) a (normal-form M x))))) r f

    -- a free direction, by one direction aside
    pub by_one : (d z : Vector) (c : Label) → IsFree M d → Aside d z → ((r : Option ℕ) → IsFirst M u z r → met G top r ≡ c) → LabelAbove d c
    by_one d z c F a f = record { free = λ G y r b x. f r (first-same y z (λ g l. a g l ∙ sym (b g l)) r x); other = λ n. absurd (n F) }

    pub not_free : (d : Vector) → (IsFree M d → ⊥) → LabelAbove d Out
    not_free d n = record { free = λ F. absurd (n F); other = λ n. refl }

    form-above : (g : Vector) → Lies (forms M) g → Lies above_forms g
    form-above g l = over-above g (form-over M u g l)

    pub labelled : Labelling above_forms LabelAbove
    labelled = record {
      exists = λ d h. by d (IsFree-decided M d);
      one = λ d m n h f g. one d m n (IsFree-decided M d) f g;
      cells = λ d c m h i s f. record {
        free = λ F z r a x. f.free (free-by_signs M c d (λ g l. sym (s g (form-above g l))) F) z r (aside-same d c z s a) x;
        other = λ n. f.other (λ F. n (free-by_signs M d c (λ g l. s g (form-above g l)) F));
      };
    }
      where
        by : (d : Vector) → Decided (IsFree M d) → (m : Label) × LabelAbove d m
        by d (inr n) = (Out, not_free d n)
        by d (inl F) =
            let z = stand (over_forms M u) d (cross u d) e in
            let x = first-exists M u ahead z in
            (met G top x.0, by_one d z (met G top x.0) F (stands (over_forms M u) d (cross u d) e) (λ r f. ap (met G top) (first-one M V u ahead z r x.0 f x.1)))

        one : (d : Vector) (m n : Label) → Decided (IsFree M d) → LabelAbove d m → LabelAbove d n → m ≡ n
        one d m n (inr h) f g = f.other h ∙ sym (g.other h)
        one d m n (inl F) f g =
            let z = stand (over_forms M u) d (cross u d) e in
            let x = first-exists M u ahead z in
            let a = stands (over_forms M u) d (cross u d) e in
            sym (f.free F z x.0 a x.1) ∙ g.free F z x.0 a x.1
