-- Turned carriers, sorted, are the turned planes.
use Rattle.nef_turn.proofs.Prelude.{◌≡◌, ℕ, List, map, ap, sym, ◌∙◌, subst, length, IsPermutation, IsSorted, IsBelow, Form, form_numbers, form_of, Plane, plane_order, never-below, IsAt, is-at_map, map-is_at, number-order, AreInOrder, was-listed, still-listed, turned_plane, signed_form, AreTurnedPlanes, one-plane, AreImages, AreApart, IsTurnedCarrier}
use Rattle.nef_turn.proofs.Images.{images-all}
use Rattle.nef_turn.proofs.Orders.{IsOnePlane, planes-in_order}

module _ (k : ℕ) (gs hs ks : List Plane) (ordered : AreInOrder gs) (I : AreImages (IsTurnedCarrier k) (length gs) gs hs) where
  never : (i j : ℕ) (g h : Plane) → IsAt gs i g → IsAt gs j h → form_of g ≡ form_of h → i ≡ j
  never i j g h a b e = number-order i j
      (λ l. absurd (never-below (form_numbers (form_of h)) (subst (λ (f : Form). IsBelow (form_numbers f) (form_numbers (form_of h))) e (ordered i j g h l a b))))
      (λ e. e)
      (λ l. absurd (never-below (form_numbers (form_of h)) (subst (λ (f : Form). IsBelow (form_numbers (form_of h)) (form_numbers f)) e (ordered j i h g l b a))))

  apart : AreApart IsOnePlane hs
  apart i j x y a b e =
      let (g, c, (p, s)) = I.each i x a in
      let (h, d, (q, t)) = I.each j y b in
      never i j g h c d (one-plane k p q (form_of g) (form_of h) g.normal h.normal (sym s ∙ ap form_of e ∙ t))

  pub carriers-turned : IsPermutation hs ks → IsSorted plane_order ks → AreTurnedPlanes k (map form_of gs) (map form_of ks)
  carriers-turned moved sorted = record {
    each = λ j f a.
        let (y, b, e) = is-at_map form_of ks j f a in
        let (i, c) = was-listed hs ks moved j y b in
        let (g, d, (flip, s)) = I.each i y c in
        (i, form_of g, flip, map-is_at form_of gs i g d, sym e ∙ s);
    all = λ i f a.
        let (g, b, e) = is-at_map form_of gs i f a in
        let (y, c, (flip, s)) = images-all (IsTurnedCarrier k) gs hs I i g b in
        let (j, d) = still-listed hs ks moved i y c in
        (j, form_of y, flip, map-is_at form_of ks j y d, s ∙ ap (λ (r : Form). signed_form flip (turned_plane k r)) e);
    ordered = λ i j f r l a b.
        let (x, c, e) = is-at_map form_of ks i f a in
        let (y, d, t) = is-at_map form_of ks j r b in
        subst (λ (u : Form). IsBelow (form_numbers u) (form_numbers r)) e (subst (λ (u : Form). IsBelow (form_numbers (form_of x)) (form_numbers u)) t
        (planes-in_order hs ks moved apart sorted i j x y l c d));
  }
