-- Where there is no svertex and no sloop, all directions have one label.
use Rattle.law_geometry.proofs.sphere.cones.Prelude.{◌≡◌, arith, refl, sym, ◌∙◌, inl, inr, ⊎_elim, List, ◌∷◌, subst, Option, Some, None, [], ints, none-some, same_Some, Vector, IsDirection, IsOpposite, IsNormal, blend, opposite, Label, Decided, decided-both, IsOnCircle, axis_x, Labelling, Near, Plain, StraightAt, IsSmooth, plain, straight, Proper, IsOpposite-decided, circle-point, carried, cross-direction_left, flipped, Axial, dot-comm, in-span, normal-either, none-at}
use Rattle.law_geometry.proofs.sphere.cones.Smooth.{even-side, even-or}
use Rattle.law_geometry.proofs.sphere.cones.SmoothDecided.{smooth-decided}
use Rattle.law_geometry.proofs.sphere.cones.Dirs.{Dirs}
use Rattle.law_geometry.proofs.sphere.cones.Sloops.{SloopThere}

pub empty-or : {A : Type 0} (xs : List A) → Decided (xs ≡ [])
empty-or [] = inl refl
empty-or (y ∷ ys) = inr (λ e. cc)

pub none-or : {A : Type 0} (o : Option A) → Decided (o ≡ None)
none-or None = inl refl
none-or (Some x) = inr (λ e. none-some x (sym e))

module _ (gs : List Vector) (F : Vector → Label → Type 0) (L : Labelling gs F) (axial : Axial gs) where
  module _ (smooth : (d : Vector) → IsDirection d → IsSmooth F d) (never : (n y : Vector) (a m b : Label) → IsNormal n → IsDirection y → Proper a m b → StraightAt F n a m b y → ⊥) where
    plain-all : (d : Vector) → Plain F d
    plain-all d m f e off = by (smooth d hd)
      where
        hd : IsDirection d
        hd = cross-direction_left d e off

        needless : (n : Vector) (a c b : Label) → IsDirection n → StraightAt F n a c b d → Proper a c b → ⊥
        needless n a c b hn p q = ⊎_elim (λ x. never n d a c b x (cross-direction_left d e off) q p) (λ x. never (opposite n) d b c a x (cross-direction_left d e off) (λ u v. q v u) (flipped F n a c b d p)) (normal-either n hn)

        by : IsSmooth F d → Near F d e m
        by (plain l p) = subst (Near F d e) (L.one d l m hd p.at_d f) (p.near e)
        by (straight n a c b hn p) = let q = even-or a c b (needless n a c b hn p) in subst (Near F d e) (even-side a c b _ q.0 q.1 ∙ L.one d c m hd p.at_d f) (p.near e)

    -- from one direction to any other
    pub one-label : (d e : Vector) → IsDirection d → IsDirection e → (m : Label) → F d m → F e m
    one-label d e hd he m f = ⊎_elim (λ o. round o (circle-point d hd)) (λ off. go d e hd he off m f) (IsOpposite-decided d e)
      where
        go : (d e : Vector) → IsDirection d → IsDirection e → (IsOpposite d e → ⊥) → (m : Label) → F d m → F e m
        go d e hd he off m f = carried gs F L d e hd he off (plain-all d) (plain-all e) (λ i j si sj. plain-all (blend i d j e)) m f

        round : IsOpposite d e → ((c : Vector) × IsOnCircle d c) → F e m
        round o (c, q) =
            let x = dot-comm c d in
            let y = in-span c d e hd o.parallel (x ∙ q.level) in
            go c e q.direction he (λ p. let b = p.backward in omega (arith, ints)) m (go d c hd q.direction (λ p. let b = p.backward in let z = q.level in omega (arith, ints)) m f)

  -- ---- the face of a map without items
  module _ (W : Dirs gs F L axial) (S : SloopThere gs F L axial W) where
    pub record Ground : Type 0 where
      pub label : Option Label
      pub alone : W.list ≡ [] → S.sloop ≡ None → (m : Label) × (label ≡ Some m)
      pub only : (m : Label) → label ≡ Some m → (W.list ≡ []) × (S.sloop ≡ None)
      pub everywhere : (m : Label) (d : Vector) → label ≡ Some m → IsDirection d → F d m

    axis-direction : IsDirection axis_x
    axis-direction z = let x = z.0 in omega (arith, ints)

    alike : W.list ≡ [] → S.sloop ≡ None → (d e : Vector) → IsDirection d → IsDirection e → (m : Label) → F d m → F e m
    alike e o = one-label
        (λ d h. ⊎_elim (λ s. s) (λ f. let r = W.all d h f in absurd (none-at W.list r.0 r.1 e r.2)) (smooth-decided gs F L axial d h))
        (λ n y a m b hn hy q p.
        let r = S.all n hn (record { clear = λ k w h z. none-at W.list k w e h; point = y; direction = hy; pos = a; mark = m; neg = b; labels = p; proper = q }) in
        none-some r.0 (sym o ∙ r.1))

    pub ground : Ground
    ground = by (decided-both (empty-or W.list) (none-or S.sloop)) (L.exists axis_x axis-direction)
      where
        by : Decided ((W.list ≡ []) × (S.sloop ≡ None)) → ((m : Label) × F axis_x m) → Ground
        by (inl (e, o)) (m, f) = record {
          label = Some m;
          alone = λ x y. (m, refl);
          only = λ l q. (e, o);
          everywhere = λ l d q h. alike e o axis_x d axis-direction h l (subst (F axis_x) (same_Some m l q) f);
        }
        by (inr n) r = record {
          label = None;
          alone = λ x y. absurd (n (x, y));
          only = λ l q. absurd (none-some l q);
          everywhere = λ l d q h. absurd (none-some l q);
        }
