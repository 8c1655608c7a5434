-- The carriers of a turned set are the turned carriers.
use Rattle.law_geometry.proofs.turns.Prelude.{◌≡◌, ℕ, zero, suc, ◌/◌, ◌%◌, ℤ, pos, negsuc, ◌*ℤ◌, neg_ℤ, Bool, true, false, refl, ap, sym, ◌∙◌, subst, ◌↔◌, ◌⊎◌, inl, inr, ⊎_elim, List, [], ◌∷◌, ◌++◌, arith, ints, ring, at, neg, ◌⊗◌, Lies, lies-left, lies-right, half_side, Form, form, normal_of, Set, halves, IsDirection, IsZero, cross, Triple, ordered, has_bit, negated_if, turned, side, frame, carriers, SamePlane, Carriers, disordered, unturned, turned_vector, turned_plane, turned_set, is_odd, signed_form, AreTurnedPlanes}
use Rattle.nef_space.proofs.Lists.{lies-append}
use Rattle.law_geometry.proofs.turns.Coordinates.{SignBlind, each-turned, each-back, turned-back}
use Rattle.law_geometry.proofs.turns.Turning.{direction-there, zero_cross-there}
use Rattle.law_geometry.proofs.turns.Vectors.{turning}
use Rattle.law_geometry.proofs.complex.Planes.{same-parallel}

pub same-form : (a b c d a' b' c' d' : ℤ) → a ≡ a' → b ≡ b' → c ≡ c' → d ≡ d' → form a b c d ≡ form a' b' c' d'
same-form a b c d a' b' c' d' p q r s = ap (λ i. form i b c d) p ∙ ap (λ i. form a' i c d) q ∙ ap (λ i. form a' b' i d) r ∙ ap (λ i. form a' b' c' i) s

-- ---- the sides of the frame
abbrev IsNought : ℤ → Type 0
IsNought x = x ≡ pos 0

abbrev IsOne : ℤ → Type 0
IsOne x = (x ≡ pos 1) ⊎ (x ≡ negsuc 0)

-- one of the numbers is 1 or -1, and the others are nought
abbrev IsUnit : Triple → Type 0
IsUnit t = (IsOne t.0 × IsNought t.1 × IsNought t.2) ⊎ (IsNought t.0 × IsOne t.1 × IsNought t.2) ⊎ (IsNought t.0 × IsNought t.1 × IsOne t.2)

nought-sign : (b : Bool) (x : ℤ) → IsNought x → IsNought (negated_if b x)
nought-sign true x e = ap neg_ℤ e
nought-sign false x e = e

one-sign : (b : Bool) (x : ℤ) → IsOne x → IsOne (negated_if b x)
one-sign true x (inl e) = inr (ap neg_ℤ e)
one-sign true x (inr e) = inl (ap neg_ℤ e)
one-sign false x h = h

unit-signs : (b c d : Bool) (x y z : ℤ) → IsUnit (x, y, z) → IsUnit (negated_if b x, negated_if c y, negated_if d z)
unit-signs b c d x y z (inl (e, f, g)) = inl (one-sign b x e, nought-sign c y f, nought-sign d z g)
unit-signs b c d x y z (inr (inl (e, f, g))) = inr (inl (nought-sign b x e, one-sign c y f, nought-sign d z g))
unit-signs b c d x y z (inr (inr (e, f, g))) = inr (inr (nought-sign b x e, nought-sign c y f, one-sign d z g))

unit-ordered : (o : ℕ) (t : Triple) → IsUnit t → IsUnit (ordered o t)
unit-ordered zero t h = h
unit-ordered (suc zero) t (inl (e, f, g)) = inl (e, g, f)
unit-ordered (suc zero) t (inr (inl (e, f, g))) = inr (inr (e, g, f))
unit-ordered (suc zero) t (inr (inr (e, f, g))) = inr (inl (e, g, f))
unit-ordered (suc (suc zero)) t (inl (e, f, g)) = inr (inl (f, e, g))
unit-ordered (suc (suc zero)) t (inr (inl (e, f, g))) = inl (f, e, g)
unit-ordered (suc (suc zero)) t (inr (inr (e, f, g))) = inr (inr (f, e, g))
unit-ordered (suc (suc (suc zero))) t (inl (e, f, g)) = inr (inr (f, g, e))
unit-ordered (suc (suc (suc zero))) t (inr (inl (e, f, g))) = inl (f, g, e)
unit-ordered (suc (suc (suc zero))) t (inr (inr (e, f, g))) = inr (inl (f, g, e))
unit-ordered (suc (suc (suc (suc zero)))) t (inl (e, f, g)) = inr (inl (g, e, f))
unit-ordered (suc (suc (suc (suc zero)))) t (inr (inl (e, f, g))) = inr (inr (g, e, f))
unit-ordered (suc (suc (suc (suc zero)))) t (inr (inr (e, f, g))) = inl (g, e, f)
unit-ordered (suc (suc (suc (suc (suc n))))) t (inl (e, f, g)) = inr (inr (g, f, e))
unit-ordered (suc (suc (suc (suc (suc n))))) t (inr (inl (e, f, g))) = inr (inl (g, f, e))
unit-ordered (suc (suc (suc (suc (suc n))))) t (inr (inr (e, f, g))) = inl (g, f, e)

unit-disordered : (o : ℕ) (t : Triple) → IsUnit t → IsUnit (disordered o t)
unit-disordered zero t h = h
unit-disordered (suc zero) t h = unit-ordered 1 t h
unit-disordered (suc (suc zero)) t h = unit-ordered 2 t h
unit-disordered (suc (suc (suc zero))) t h = unit-ordered 4 t h
unit-disordered (suc (suc (suc (suc zero)))) t h = unit-ordered 3 t h
unit-disordered (suc (suc (suc (suc (suc n))))) t h = unit-ordered 5 t h

unit-turned : (k : ℕ) (t : Triple) → IsUnit t → IsUnit (turned k t)
unit-turned k t h = unit-signs (has_bit 1 (k % 8)) (has_bit 2 (k % 8)) (has_bit 4 (k % 8)) _ _ _ (unit-ordered (k / 8) t h)

unit-unturned : (k : ℕ) (t : Triple) → IsUnit t → IsUnit (unturned k t)
unit-unturned k t h = unit-disordered (k / 8) _ (unit-signs (has_bit 1 (k % 8)) (has_bit 2 (k % 8)) (has_bit 4 (k % 8)) _ _ _ h)

abbrev numbers : Form → Triple
numbers h = (h.a, h.b, h.c)

abbrev outward : ℤ
outward = neg_ℤ (pos half_side)

parts : {h : Form} (a b c : ℤ) → side a b c ≡ h → (h.a ≡ a) × (h.b ≡ b) × (h.c ≡ c) × (h.d ≡ outward)
parts a b c e = (sym (ap (λ (r : Form). r.a) e), sym (ap (λ (r : Form). r.b) e), sym (ap (λ (r : Form). r.c) e), sym (ap (λ (r : Form). r.d) e))

frame-unit : (h : Form) → Lies frame h → IsUnit (numbers h) × (h.d ≡ outward)
frame-unit h (inl e) = let (p, q, r, s) = parts (pos 1) (pos 0) (pos 0) e in (inl (inl p, q, r), s)
frame-unit h (inr (inl e)) = let (p, q, r, s) = parts (negsuc 0) (pos 0) (pos 0) e in (inl (inr p, q, r), s)
frame-unit h (inr (inr (inl e))) = let (p, q, r, s) = parts (pos 0) (pos 1) (pos 0) e in (inr (inl (p, inl q, r)), s)
frame-unit h (inr (inr (inr (inl e)))) = let (p, q, r, s) = parts (pos 0) (negsuc 0) (pos 0) e in (inr (inl (p, inr q, r)), s)
frame-unit h (inr (inr (inr (inr (inl e))))) = let (p, q, r, s) = parts (pos 0) (pos 0) (pos 1) e in (inr (inr (p, q, inl r)), s)
frame-unit h (inr (inr (inr (inr (inr (inl e)))))) = let (p, q, r, s) = parts (pos 0) (pos 0) (negsuc 0) e in (inr (inr (p, q, inr r)), s)
frame-unit h (inr (inr (inr (inr (inr (inr e)))))) = absurd e

unit-frame : (h : Form) → IsUnit (numbers h) → h.d ≡ outward → Lies frame h
unit-frame h (inl (inl p, q, r)) s = inl (same-form _ _ _ _ _ _ _ _ (sym p) (sym q) (sym r) (sym s))
unit-frame h (inl (inr p, q, r)) s = inr (inl (same-form _ _ _ _ _ _ _ _ (sym p) (sym q) (sym r) (sym s)))
unit-frame h (inr (inl (p, inl q, r))) s = inr (inr (inl (same-form _ _ _ _ _ _ _ _ (sym p) (sym q) (sym r) (sym s))))
unit-frame h (inr (inl (p, inr q, r))) s = inr (inr (inr (inl (same-form _ _ _ _ _ _ _ _ (sym p) (sym q) (sym r) (sym s)))))
unit-frame h (inr (inr (p, q, inl r))) s = inr (inr (inr (inr (inl (same-form _ _ _ _ _ _ _ _ (sym p) (sym q) (sym r) (sym s))))))
unit-frame h (inr (inr (p, q, inr r))) s = inr (inr (inr (inr (inr (inl (same-form _ _ _ _ _ _ _ _ (sym p) (sym q) (sym r) (sym s)))))))

-- ---- carriers
abbrev pub unturned_form : ℕ → Form → Form
unturned_form k h = let t = unturned k (h.a, h.b, h.c) in form t.0 t.1 t.2 h.d

pub form-back : (k : ℕ) (h : Form) → turned_plane k (unturned_form k h) ≡ h
form-back k h = ap (λ (t : Triple). form t.0 t.1 t.2 h.d) (turned-back k (numbers h))

abbrev pub IsTurnedOf : ℕ → List Form → Form → Type 0
IsTurnedOf k hs g = (h : Form) × Lies hs h × (g ≡ turned_plane k h)

module _ (k : ℕ) where
  frame-there : (h : Form) → Lies frame h → Lies frame (turned_plane k h)
  frame-there h l = let (u, e) = frame-unit h l in unit-frame (turned_plane k h) (unit-turned k (numbers h) u) e

  frame-from : (g : Form) → Lies frame g → IsTurnedOf k frame g
  frame-from g l = let (u, e) = frame-unit g l in (unturned_form k g, unit-frame (unturned_form k g) (unit-unturned k (numbers g) u) e, sym (form-back k g))

  -- what holds of the halves of two operands
  two-there : (as' bs cs ds : List Form) → ((h : Form) → Lies as' h → Lies cs (turned_plane k h)) → ((h : Form) → Lies bs h → Lies ds (turned_plane k h)) → (h : Form) → Lies (as' ++ bs) h → Lies (cs ++ ds) (turned_plane k h)
  two-there as' bs cs ds f g h l = ⊎_elim (λ m. lies-left cs ds (turned_plane k h) (f h m)) (λ m. lies-right cs ds (turned_plane k h) (g h m)) (lies-append as' bs h l)

  two-from : (as' bs cs ds : List Form) → ((h : Form) → Lies cs h → IsTurnedOf k as' h) → ((h : Form) → Lies ds h → IsTurnedOf k bs h) → (h : Form) → Lies (cs ++ ds) h → IsTurnedOf k (as' ++ bs) h
  two-from as' bs cs ds f g h l = ⊎_elim (λ m. let (r, a, e) = f h m in (r, lies-left as' bs r a, e)) (λ m. let (r, a, e) = g h m in (r, lies-right as' bs r a, e)) (lies-append cs ds h l)

  pub halves-there : (s : Set) (h : Form) → Lies (halves s) h → Lies (halves (turned_set k s)) (turned_plane k h)
  halves-there (Set.half g c) h (inl e) = inl (ap (turned_plane k) e)
  halves-there (Set.half g c) h (inr e) = absurd e
  halves-there Set.empty h l = absurd l
  halves-there Set.full h l = absurd l
  halves-there (Set.both a b) h l = two-there (halves a) (halves b) (halves (turned_set k a)) (halves (turned_set k b)) (halves-there a) (halves-there b) h l
  halves-there (Set.either a b) h l = two-there (halves a) (halves b) (halves (turned_set k a)) (halves (turned_set k b)) (halves-there a) (halves-there b) h l
  halves-there (Set.less a b) h l = two-there (halves a) (halves b) (halves (turned_set k a)) (halves (turned_set k b)) (halves-there a) (halves-there b) h l
  halves-there (Set.one_of a b) h l = two-there (halves a) (halves b) (halves (turned_set k a)) (halves (turned_set k b)) (halves-there a) (halves-there b) h l
  halves-there (Set.other a) h l = halves-there a h l
  halves-there (Set.inside a) h l = halves-there a h l
  halves-there (Set.closed a) h l = halves-there a h l
  halves-there (Set.border a) h l = halves-there a h l
  halves-there (Set.regular a) h l = halves-there a h l

  pub halves-from : (s : Set) (g : Form) → Lies (halves (turned_set k s)) g → IsTurnedOf k (halves s) g
  halves-from (Set.half h c) g (inl e) = (h, inl refl, sym e)
  halves-from (Set.half h c) g (inr e) = absurd e
  halves-from Set.empty g l = absurd l
  halves-from Set.full g l = absurd l
  halves-from (Set.both a b) g l = two-from (halves a) (halves b) (halves (turned_set k a)) (halves (turned_set k b)) (halves-from a) (halves-from b) g l
  halves-from (Set.either a b) g l = two-from (halves a) (halves b) (halves (turned_set k a)) (halves (turned_set k b)) (halves-from a) (halves-from b) g l
  halves-from (Set.less a b) g l = two-from (halves a) (halves b) (halves (turned_set k a)) (halves (turned_set k b)) (halves-from a) (halves-from b) g l
  halves-from (Set.one_of a b) g l = two-from (halves a) (halves b) (halves (turned_set k a)) (halves (turned_set k b)) (halves-from a) (halves-from b) g l
  halves-from (Set.other a) g l = halves-from a g l
  halves-from (Set.inside a) g l = halves-from a g l
  halves-from (Set.closed a) g l = halves-from a g l
  halves-from (Set.border a) g l = halves-from a g l
  halves-from (Set.regular a) g l = halves-from a g l

  pub carrier-there : (s : Set) (h : Form) → Lies (carriers s) h → Lies (carriers (turned_set k s)) (turned_plane k h)
  carrier-there s h l = two-there frame (halves s) frame (halves (turned_set k s)) frame-there (halves-there s) h l

  pub carrier-from : (s : Set) (g : Form) → Lies (carriers (turned_set k s)) g → IsTurnedOf k (carriers s) g
  carrier-from s g l = two-from frame (halves s) frame (halves (turned_set k s)) frame-from (halves-from s) g l

  -- ---- planes
  abbrev SameOffsets : ℤ → ℤ → ℤ → ℤ → Type 0
  SameOffsets d e x y = x *ℤ e ≡ d *ℤ y

  offsets-blind : (d e : ℤ) → SignBlind (SameOffsets d e)
  offsets-blind d e x y h = ring (x ∷ e ∷ []) (neg (at 0) ⊗ at 1) (neg (at 0 ⊗ at 1)) tt ∙ ap neg_ℤ h ∙ ring (d ∷ y ∷ []) (neg (at 0 ⊗ at 1)) (at 0 ⊗ neg (at 1)) tt

  plane-from : (g h : Form) → IsDirection (normal_of g) → IsDirection (normal_of h) → IsZero (cross (normal_of g) (normal_of h))
      → (g.a *ℤ h.d ≡ g.d *ℤ h.a) → (g.b *ℤ h.d ≡ g.d *ℤ h.b) → (g.c *ℤ h.d ≡ g.d *ℤ h.c) → SamePlane g h
  plane-from g h p q z a b c = record {
    is_plane = p;
    is_other_plane = q;
    ab = omega (arith, ints, z.2);
    ac = omega (arith, ints, z.1);
    ad = a;
    bc = omega (arith, ints, z.0);
    bd = b;
    cd = c;
  }

  pub same_plane-turned : (g h : Form) → SamePlane (turned_plane k g) (turned_plane k h) ↔ SamePlane g h
  same_plane-turned g h = (
    λ S.
        let e = each-back (SameOffsets g.d h.d) (offsets-blind g.d h.d) k (numbers g) (numbers h) (S.ad, S.bd, S.cd) in
        plane-from g h ((direction-there (turned_vector k) (is_odd k) (turning k) (normal_of g)).0 S.is_plane) ((direction-there (turned_vector k) (is_odd k) (turning k) (normal_of h)).0 S.is_other_plane)
        ((zero_cross-there (turned_vector k) (is_odd k) (turning k) (normal_of g) (normal_of h)).0 (same-parallel (turned_plane k g) (turned_plane k h) S)) e.0 e.1 e.2,
    λ S.
        let e = each-turned (SameOffsets g.d h.d) (offsets-blind g.d h.d) k (numbers g) (numbers h) (S.ad, S.bd, S.cd) in
        plane-from (turned_plane k g) (turned_plane k h) ((direction-there (turned_vector k) (is_odd k) (turning k) (normal_of g)).1 S.is_plane) ((direction-there (turned_vector k) (is_odd k) (turning k) (normal_of h)).1 S.is_other_plane)
        ((zero_cross-there (turned_vector k) (is_odd k) (turning k) (normal_of g) (normal_of h)).1 (same-parallel g h S)) e.0 e.1 e.2,
  )

  signed-plane : (b : Bool) (g h : Form) → SamePlane g h → SamePlane (signed_form b g) h
  signed-plane true g h S = record {
    is_plane = λ z. S.is_plane (omega (arith, ints, z.0), omega (arith, ints, z.1), omega (arith, ints, z.2));
    is_other_plane = S.is_other_plane;
    ab = minor g.a g.b h.a h.b S.ab;
    ac = minor g.a g.c h.a h.c S.ac;
    ad = minor g.a g.d h.a h.d S.ad;
    bc = minor g.b g.c h.b h.c S.bc;
    bd = minor g.b g.d h.b h.d S.bd;
    cd = minor g.c g.d h.c h.d S.cd;
  }
    where
      minor : (a b c d : ℤ) → a *ℤ d ≡ b *ℤ c → neg_ℤ a *ℤ d ≡ neg_ℤ b *ℤ c
      minor a b c d e = ring (a ∷ d ∷ []) (neg (at 0) ⊗ at 1) (neg (at 0 ⊗ at 1)) tt ∙ ap neg_ℤ e ∙ ring (b ∷ c ∷ []) (neg (at 0 ⊗ at 1)) (neg (at 0) ⊗ at 1) tt
  signed-plane false g h S = S

  turned-plane : (b : Bool) (g h f : Form) → h ≡ signed_form b (turned_plane k g) → SamePlane g f → SamePlane h (turned_plane k f)
  turned-plane b g h f e S = subst (λ (r : Form). SamePlane r (turned_plane k f)) (sym e) (signed-plane b (turned_plane k g) (turned_plane k f) ((same_plane-turned g f).1 S))

  pub carriers-turned : (s : Set) (gs hs : List Form) → Carriers s gs → AreTurnedPlanes k gs hs → Carriers (turned_set k s) hs
  carriers-turned s gs hs C T = record {
    each = λ j h a.
        let (i, g, b, l, e) = T.each j h a in
        let (f, m, S) = C.each i g l in
        (turned_plane k f, carrier-there s f m, turned-plane b g h f e S);
    all = λ f' l.
        let (f, m, e) = carrier-from s f' l in
        let (i, g, a, S) = C.all f m in
        let (j, h, b, c, p) = T.all i g a in
        (j, h, c, subst (λ (r : Form). SamePlane h r) (sym e) (turned-plane b g h f p S));
    ordered = T.ordered;
  }
