-- `==` on what a map holds says whether it is equal.
use Rattle.nef_unique.proofs.Prelude.{◌≡◌, refl, ap, sym, ◌∙◌, Bool, true, false, Option, Some, None, List, Decides, Decides-and, Decides-like, Decides-int_eq, Decides-eqb, vector, Label, Out, Not, In, Dir, Point, SVertex, SArc, SLoop}
use Rattle.std.specs.Option.{option_eq}
use Rattle.std.specs.Cmp.Lexicographic.{pointwise}
use Rattle.std.proofs.lemmas.Slice.Eq.{slice_eq-Decides}
use Rattle.nef_space.specs.contracts.label.LabelPartialEq.TheImpl.{eq-value as label_eq}
use Rattle.nef_geo.specs.contracts.dir.DirPartialEq.TheImpl.{eq-value as dir_eq}
use Rattle.nef_smap.specs.contracts.map.SVertexPartialEq.TheImpl.{eq-value as svertex_eq}
use Rattle.nef_smap.specs.contracts.map.SArcPartialEq.TheImpl.{eq-value as arc_eq}
use Rattle.nef_smap.specs.contracts.map.SLoopPartialEq.TheImpl.{eq-value as sloop_eq}
use Rattle.nef_complex.proofs.SamePoints.{point_test, point-one}
use Rattle.nef_unique.proofs.Injective.{svertex-equal, arc-equal, sloop-equal}
use Rattle.nef_star.proofs.RoundStars.{same-dirs}

-- the test says whether two values are equal
abbrev pub IsTest : (A : Type 0) → (A → A → Bool) → Type 0
IsTest A E = (x y : A) → Decides (E x y) (x ≡ y)

abbrev pub label_test : Label → Label → Bool
label_test = label_eq.it

pub label-decides : IsTest Label label_test
label-decides Out Out = (λ _. refl, λ _. refl)
label-decides Not Not = (λ _. refl, λ _. refl)
label-decides In In = (λ _. refl, λ _. refl)
label-decides Out Not = (λ e. cc, λ e. cc)
label-decides Out In = (λ e. cc, λ e. cc)
label-decides Not Out = (λ e. cc, λ e. cc)
label-decides Not In = (λ e. cc, λ e. cc)
label-decides In Out = (λ e. cc, λ e. cc)
label-decides In Not = (λ e. cc, λ e. cc)

-- the first test comes true, so both do where the second does; or it fails
pub both-decide : {P Q : Type 0} {r t v : Bool} → Decides r P → r ≡ true → Decides t Q → v ≡ t → Decides v (P × Q)
both-decide d e f q = (λ h. (d.0 e, f.0 (sym q ∙ h)), λ h. q ∙ f.1 h.1)

pub first-fails : {P Q : Type 0} {r v : Bool} → Decides r P → r ≡ false → v ≡ r → Decides v (P × Q)
first-fails d e q = (λ h. (let f : true ≡ false = sym h ∙ q ∙ e in cc), λ h. q ∙ d.1 h.0)

pub lists-decide : {A : Type 0} (E : A → A → Bool) → IsTest A E → {r : Bool} {us vs xs ys : List A} → r ≡ pointwise E us vs → us ≡ xs → vs ≡ ys → Decides r (xs ≡ ys)
lists-decide E D {r} {us} {vs} {xs} {ys} e p q = slice_eq-Decides D xs ys r (e ∙ ap (λ r. pointwise E r vs) p ∙ ap (λ r. pointwise E xs r) q)

pub option-decides : {A : Type 0} (E : A → A → Bool) → IsTest A E → IsTest (Option A) (option_eq E)
option-decides E D None None = (λ _. refl, λ _. refl)
option-decides E D None (Some y) = (λ e. cc, λ e. cc)
option-decides E D (Some x) None = (λ e. cc, λ e. cc)
option-decides {A} E D (Some x) (Some y) = Decides-like (E x y) (λ e. ap (λ (r : A). Some r) e) (λ e. cc) (D x y)

-- ---- normal forms
abbrev pub dir_test : Dir → Dir → Bool
dir_test = dir_eq.it

pub dir-decides : IsTest Dir dir_test
dir-decides d e =
    Decides-like (dir_test d e)
    (λ h. same-dirs d e (ap (λ r. vector r d.y d.z) h.0 ∙ ap (λ r. vector e.x r d.z) h.1.0 ∙ ap (λ r. vector e.x e.y r) h.1.1))
    (λ h. (ap (λ (r : Dir). r.x) h, (ap (λ (r : Dir). r.y) h, ap (λ (r : Dir). r.z) h)))
    (Decides-and _ _ (Decides-int_eq d.x e.x) (Decides-and _ _ (Decides-int_eq d.y e.y) (Decides-int_eq d.z e.z)))

pub point-decides : IsTest Point point_test
point-decides p q =
    Decides-like (point_test p q)
    (λ h. point-one p q h.0 h.1.0 h.1.1.0 h.1.1.1)
    (λ h. (ap (λ (r : Point). r.x) h, (ap (λ (r : Point). r.y) h, (ap (λ (r : Point). r.z) h, ap (λ (r : Point). r.w) h))))
    (Decides-and _ _ (Decides-int_eq p.x q.x) (Decides-and _ _ (Decides-int_eq p.y q.y) (Decides-and _ _ (Decides-int_eq p.z q.z) (Decides-int_eq p.w q.w))))

-- ---- what a map holds
abbrev pub svertex_test : SVertex → SVertex → Bool
svertex_test = svertex_eq.it

pub svertex-decides : IsTest SVertex svertex_test
svertex-decides v u =
    Decides-like (svertex_test v u)
    (λ h. svertex-equal v u h.0 h.1.0 h.1.1)
    (λ h. (ap (λ (r : SVertex). r.dir) h, (ap (λ (r : SVertex). r.mark) h, ap (λ (r : SVertex). r.around) h)))
    (Decides-and _ _ (dir-decides v.dir u.dir) (Decides-and _ _ (label-decides v.mark u.mark) (option-decides label_test label-decides v.around u.around)))

abbrev pub arc_test : SArc → SArc → Bool
arc_test = arc_eq.it

pub arc-decides : IsTest SArc arc_test
arc-decides a b =
    Decides-like (arc_test a b)
    (λ h. arc-equal a b h.0 h.1.0 h.1.1.0 h.1.1.1.0 h.1.1.1.1.0 h.1.1.1.1.1)
    (λ h. (ap (λ (r : SArc). r.source) h, (ap (λ (r : SArc). r.target) h, (ap (λ (r : SArc). r.normal) h, (ap (λ (r : SArc). r.mark) h, (ap (λ (r : SArc). r.pos) h, ap (λ (r : SArc). r.neg) h))))))
    (Decides-and _ _ (Decides-eqb a.source b.source) (Decides-and _ _ (Decides-eqb a.target b.target) (Decides-and _ _ (dir-decides a.normal b.normal)
    (Decides-and _ _ (label-decides a.mark b.mark) (Decides-and _ _ (label-decides a.pos b.pos) (label-decides a.neg b.neg))))))

abbrev pub sloop_test : SLoop → SLoop → Bool
sloop_test = sloop_eq.it

pub sloop-decides : IsTest SLoop sloop_test
sloop-decides l k =
    Decides-like (sloop_test l k)
    (λ h. sloop-equal l k h.0 h.1.0 h.1.1.0 h.1.1.1)
    (λ h. (ap (λ (r : SLoop). r.normal) h, (ap (λ (r : SLoop). r.mark) h, (ap (λ (r : SLoop). r.pos) h, ap (λ (r : SLoop). r.neg) h))))
    (Decides-and _ _ (dir-decides l.normal k.normal) (Decides-and _ _ (label-decides l.mark k.mark) (Decides-and _ _ (label-decides l.pos k.pos) (label-decides l.neg k.neg))))
