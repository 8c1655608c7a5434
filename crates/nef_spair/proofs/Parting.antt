-- Circles of straight stars, one star after another, and what they and the kept stars are made of.
use Rattle.nef_spair.proofs.Prelude.{◌≡◌, List, [], ◌∷◌, ◌++◌, length, map, get_or, sym, ap, subst, ◌∙◌, inl, inr, normal_limit, IsAtMost, Label, Out, vector_of, IsPlain, IsStraight, sloop_at, Ray, Star, ray_of, star_of, SLoop, sloop_of, IsDropped, AreAllKept, IsCircleOf, AreCircles, is-at_none}
use Rattle.law_geometry.specs.sphere.Stars.{Ray as PlainRay}
use Rattle.nef_spair.proofs.Places.{all-at}
use Rattle.nef_space.proofs.Lists.{is-at_last, is-at_left, is-at_more, all-of}
use Rattle.law_geometry.proofs.sphere.Equal.{sloop-equal}

-- ---- the circle of a straight star

first-ray : (rays : List Ray) (r : Ray) (p q : PlainRay) → map ray_of rays ≡ p ∷ q ∷ [] → r ≡ get_or rays 0 r → ray_of r ≡ p
first-ray [] r p q e f = absurd (cc)
first-ray (s ∷ rays) r p q e f = let i : ray_of s ∷ map ray_of rays ≡ p ∷ q ∷ [] = e in let j : ray_of s ≡ p = cc in ap ray_of f ∙ j

pub circle-is : (t : Star) (s : IsStraight (star_of t)) (r : Ray) (c : SLoop) → r ≡ get_or t.rays.items 0 r → c.normal ≡ r.normal → c.mark ≡ t.mark
    → c.pos ≡ get_or t.sectors.items 0 Out → c.neg ≡ get_or t.sectors.items 1 Out → sloop_of c ≡ sloop_at (star_of t) s
circle-is t s r c e n m p q =
    sloop-equal (sloop_of c) (sloop_at (star_of t) s) (ap vector_of n ∙ ap (λ (x : PlainRay). x.normal) (first-ray t.rays.items r s.first s.second s.two_rays e)) (p ∙ ap (λ (l : List Label). get_or l 0 Out) s.two_sectors) m
    (q ∙ ap (λ (l : List Label). get_or l 1 Out) s.two_sectors)

pub not-dropped : (t : Star) → (IsPlain (star_of t) → ⊥) → (IsStraight (star_of t) → ⊥) → IsDropped t → ⊥
not-dropped t n m (inl p) = n p
not-dropped t n m (inr s) = m s

-- ---- the circles of stars that are all kept
pub no-circles : (ts : List Star) → AreAllKept ts → AreCircles ts []
no-circles ts n = record {
  from = λ k c h. absurd (is-at_none h);
  all = λ j t h s. absurd (n j t h (inr s));
  small = all-of (λ (c : SLoop). IsAtMost normal_limit (vector_of c.normal)) [] (λ k c h. absurd (is-at_none h));
}

-- ---- the circles of more stars
module _ (ts : List Star) (cs : List SLoop) (t : Star) (w : AreCircles ts cs) where
  pub circles-more : (c : SLoop) → IsCircleOf (star_of t) (sloop_of c) → IsAtMost normal_limit (vector_of c.normal) → AreCircles (ts ++ t ∷ []) (cs ++ c ∷ [])
  circles-more c i small = record {
    from = λ k d h.
        elim (is-at_more cs c k d h) [
          | inl a ↦ let f = w.from k d a in (f.0, f.1, is-at_left ts (t ∷ []) f.0 f.1 f.2, f.3)
          | inr a ↦ (length ts, t, is-at_last ts t, subst (λ (x : SLoop). IsCircleOf (star_of t) (sloop_of x)) a.1 i)
        ];
    all = λ j u h s.
        elim (is-at_more ts t j u h) [
          | inl a ↦ let f = w.all j u a s in (f.0, f.1, is-at_left cs (c ∷ []) f.0 f.1 f.2, f.3)
          | inr a ↦ (length cs, c, is-at_last cs c, subst (λ (x : Star). IsCircleOf (star_of x) (sloop_of c)) a.1 i)
        ];
    small = all-of (λ (x : SLoop). IsAtMost normal_limit (vector_of x.normal)) (cs ++ c ∷ []) (λ k d h.
        elim (is-at_more cs c k d h) [
          | inl a ↦ all-at (λ (x : SLoop). IsAtMost normal_limit (vector_of x.normal)) cs w.small k d a
          | inr a ↦ subst (λ (x : SLoop). IsAtMost normal_limit (vector_of x.normal)) a.1 small
        ]);
  }

  pub circles-same : (IsStraight (star_of t) → ⊥) → AreCircles (ts ++ t ∷ []) cs
  circles-same n = record {
    from = λ k d h. let f = w.from k d h in (f.0, f.1, is-at_left ts (t ∷ []) f.0 f.1 f.2, f.3);
    all = λ j u h s. elim (is-at_more ts t j u h) [ inl a ↦ w.all j u a s | inr a ↦ absurd (n (subst (λ (x : Star). IsStraight (star_of x)) (sym a.1) s)) ];
    small = w.small;
  }
