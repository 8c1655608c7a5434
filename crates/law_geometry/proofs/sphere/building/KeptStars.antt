-- Stars that have kept their labels show the same.
use Rattle.law_geometry.proofs.sphere.building.Prelude.{◌≡◌, ℕ, zero, suc, arith, refl, ap, sym, ◌∙◌, List, ◌∷◌, subst, length, [], Vector, IsDirection, cross, dot, SameDirection, Label, VectorBelow, IsAt, Star, Near, RawMap, Of, ShowsLabels, IsBare, IsRawOf, IsKeptStar, IsKeptRaw, is-at_none}

-- lists of one length have elements at the same places
pub at-other : {A B : Type 0} (xs : List A) (ys : List B) (k : ℕ) (x : A) → length xs ≡ length ys → IsAt xs k x → (y : B) × IsAt ys k y
at-other [] ys k x e a = absurd (is-at_none a)
at-other (x ∷ xs) [] k z e a = absurd (omega arith)
at-other (x ∷ xs) (y ∷ ys) zero z e a = (y, refl)
at-other (x ∷ xs) (y ∷ ys) (suc k) z e a = at-other xs ys k z (omega arith) a

pub none-left : {A B : Type 0} (xs : List A) (ys : List B) → length xs ≡ length ys → xs ≡ [] → ys ≡ []
none-left {A} xs [] e z = refl
none-left {A} xs (y ∷ ys) e z = let l = ap (length {A = A}) z in absurd (omega arith)

-- a kept star shows what its star shows
kept-shows : (t s : Star) (L : Vector → Label) → IsKeptStar t s → ShowsLabels t L → ShowsLabels s L
kept-shows t s L K S = record {
  star = K.star;
  mark = ap L K.axis ∙ S.mark ∙ sym K.mark;
  labels = λ e l f a.
      let g = subst (λ (r : Vector). IsDirection (cross r e)) K.axis f in
      let x = S.star.each e g in
      let q : x.0 ≡ l = K.star.one e x.0 l f (K.labels e x.0 g x.1) a in
      subst (λ (r : Vector). Near (Of L) r e l) (sym K.axis) (subst (Near (Of L) t.axis e) q (S.labels e x.0 g x.1));
}

module _ (R Q : RawMap) (L : Vector → Label) (W : IsRawOf R L) (K : IsKeptRaw R Q) where
  -- the star that was kept, and the one that it became
  was : (k : ℕ) (s : Star) → IsAt Q.stars k s → (t : Star) × IsAt R.stars k t × IsKeptStar t s
  was k s b = let x = at-other Q.stars R.stars k s K.stars.as_many b in (x.0, x.1, K.stars.kept k x.0 s x.1 b)

  became : (k : ℕ) (t : Star) → IsAt R.stars k t → (s : Star) × IsAt Q.stars k s × IsKeptStar t s
  became k t a = let x = at-other R.stars Q.stars k t (sym K.stars.as_many) a in (x.0, x.1, K.stars.kept k t x.0 a x.1)

  bare-before : (n : Vector) → IsBare Q.stars n → IsBare R.stars n
  bare-before n b k t a z = let x = became k t a in b k x.0 x.1 (ap (dot n) x.2.axis ∙ z)

  bare-after : (n : Vector) → IsBare R.stars n → IsBare Q.stars n
  bare-after n b k s a z = let x = was k s a in b k x.0 x.1 (ap (dot n) (sym x.2.axis) ∙ z)

  pub kept-show : IsRawOf Q L
  kept-show = record {
    stars = λ k s a. let x = was k s a in kept-shows x.0 s L x.2 (W.stars k x.0 x.1);
    ordered = λ i k s u l a b. let x = was i s a in let y = was k u b in
        subst (λ (r : Vector). VectorBelow r u.axis) (sym x.2.axis) (subst (VectorBelow x.0.axis) (sym y.2.axis) (W.ordered i k x.0 y.0 l x.1 y.1));
    smooth = λ d h off. W.smooth d h (λ k t a w. let x = became k t a in off k x.0 x.1 (subst (λ (r : Vector). SameDirection r d) (sym x.2.axis) w));
    sloop_normal = λ l e. W.sloop_normal l (sym K.sloop ∙ e);
    sloop_lowest = λ l e. W.sloop_lowest l (sym K.sloop ∙ e);
    sloop_bare = λ l e. bare-after l.normal (W.sloop_bare l (sym K.sloop ∙ e));
    sloop_labels = λ l y e o. W.sloop_labels l y (sym K.sloop ∙ e) o;
    sloop_all = λ n y a m b hn bare o p s. let x = W.sloop_all n y a m b hn (bare-before n bare) o p s in (x.0, K.sloop ∙ x.1, x.2);
    ground_alone = λ n z. let x = W.ground_alone (none-left Q.stars R.stars K.stars.as_many n) (sym K.sloop ∙ z) in (x.0, K.same_ground ∙ x.1);
    ground_not = λ m e. let x = W.ground_not m (sym K.same_ground ∙ e) in (none-left R.stars Q.stars (sym K.stars.as_many) x.0, K.sloop ∙ x.1);
    ground_label = λ m d e h. W.ground_label m d (sym K.same_ground ∙ e) h;
  }
