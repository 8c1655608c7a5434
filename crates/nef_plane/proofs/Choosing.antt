-- What a meeting and a comparison answer.
use Rattle.nef_plane.proofs.Prelude.{◌≡◌, pos, Option, Some, None, List, refl, sym, ◌∙◌, inl, inr, subst, MatchOption, IsNone, IfSome, SpacePoint, form_at, Vector, form_of, far_point, FarHit, Plane, HoldsBoth, Encounter, far_reach_of, IsParallelToAxis, sweep_form, AreOpposite, IsHitThrough, NoneCrosses, IsMetBetween, AllHold, IsNearer, IsNotPast}
use Rattle.nef_plane.proofs.Meeting.{met-some, met-all}
use Rattle.nef_space.proofs.Elementary.{same-itself}

pub met-answers : (o : Option FarHit) (gs : List Plane) (h : Plane) (p : SpacePoint) (d : Vector) → IsParallelToAxis (form_of h) d → form_at (form_of h) p ≡ pos 0 → (a b : SpacePoint) → HoldsBoth (form_of h) a b
    → AreOpposite (sweep_form (form_of h) p) a b → MatchOption o (NoneCrosses gs p d a b) (λ q. IsHitThrough p d a b (far_reach_of q)) → IfSome o (λ q. IsMetBetween (form_of h) p d a b (far_point q))
met-answers None gs h p d A on a b H s m = tt
met-answers (Some q) gs h p d A on a b H s m = met-some h p d A on a b (form_of m.plane) (far_point q) H s m.holds m.crosses

pub none-answers : (o : Option FarHit) (gs : List Plane) (h : Plane) (p : SpacePoint) (d : Vector) → IsParallelToAxis (form_of h) d → form_at (form_of h) p ≡ pos 0 → (a b : SpacePoint)
    → MatchOption o (NoneCrosses gs p d a b) (λ q. IsHitThrough p d a b (far_reach_of q)) → IsNone o → (y : SpacePoint) → IsMetBetween (form_of h) p d a b y → AllHold gs d a b
none-answers None gs h p d A on a b m n y M = met-all h p d A on a b gs y M m
none-answers (Some q) gs h p d A on a b m n y M = cc

pub some-at : {X : Type 0} (P : X → Type 0) (o : Option X) (x : X) → o ≡ Some x → IfSome o P → P x
some-at P o x e i = let f : IfSome (Some x) P = subst (λ r. IfSome r P) e i in f

module _ {X : Type 0} (seen : X → Encounter) (d : Vector) (a b : Option X) where
  itself : (x : X) → IsNotPast d (seen x) (seen x)
  itself x = inl (same-itself (seen x).at.place)

  carried : (x y z : X) → Some x ≡ Some y → IsNotPast d (seen z) (seen x) → IsNotPast d (seen z) (seen y)
  carried x y z e n = let f : x ≡ y = cc in subst (λ (r : X). IsNotPast d (seen z) (seen r)) f n

  pub take-first : (x y : X) → a ≡ Some x → b ≡ Some y → IsNotPast d (seen x) (seen y) → IsNearer seen d a b (Some x)
  take-first x y e f n = record { one = inl (sym e); first = λ z g. (x, refl, carried x z x (sym e ∙ g) (itself x)); second = λ z g. (x, refl, carried y z x (sym f ∙ g) n) }

  pub take-second : (x y : X) → a ≡ Some x → b ≡ Some y → IsNotPast d (seen y) (seen x) → IsNearer seen d a b (Some y)
  take-second x y e f n = record { one = inr (sym f); first = λ z g. (y, refl, carried x z y (sym e ∙ g) n); second = λ z g. (y, refl, carried y z y (sym f ∙ g) (itself y)) }

  pub keep-first : (r : Option X) → r ≡ a → b ≡ None → IsNearer seen d a b r
  keep-first r f e = record { one = inl f; first = λ z g. (z, f ∙ g, itself z); second = λ z g. absurd (let h : None ≡ Some z = sym e ∙ g in cc) }

  pub keep-second : a ≡ None → IsNearer seen d a b b
  keep-second e = record { one = inr refl; first = λ z g. absurd (let f : None ≡ Some z = sym e ∙ g in cc); second = λ z g. (z, g, itself z) }
