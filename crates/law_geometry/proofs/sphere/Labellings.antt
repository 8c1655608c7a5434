-- The germs of a set at a point, and an operation on the labels of two maps, are labellings.
use Rattle.law_geometry.proofs.sphere.Prelude.{refl, ap, sym, ◌∙◌, inl, inr, ◌↔◌, List, ◌∷◌, ◌++◌, [], Lies, SpacePoint, Form, normal_of, Vector, IsDirection, Set, Label, HasLabel, Germ, Germ-unique, carriers, germ_of, Germ-by_signs, Map, MapLabel, Shaped, Valid, forms, Cone, Labelling, Agrees, ByOp, lies-left, lies-right}
use Rattle.law_geometry.proofs.sphere.Labels.{label-exists, label-unique, label-by_signs}
use Rattle.law_geometry.proofs.sphere.Built.{agrees-valid, agrees-label, label-agrees}

-- ---- sets
abbrev pub normals_of : List Form → List Vector
normals_of [] = []
normals_of (h ∷ hs) = normal_of h ∷ normals_of hs

normals-has : (hs : List Form) (h : Form) → Lies hs h → Lies (normals_of hs) (normal_of h)
normals-has [] h l = absurd l
normals-has (k ∷ hs) h (inl e) = inl (ap normal_of e)
normals-has (k ∷ hs) h (inr l) = inr (normals-has hs h l)

pub germ-labelling : (s : Set) (p : SpacePoint) → Labelling (normals_of (carriers s)) (Germ s p)
germ-labelling s p = record {
  exists = λ d f. germ_of s p d;
  one = λ d m n f a b. Germ-unique s p d m n a b;
  cells = λ d e m f g q a. Germ-by_signs s p d e (λ h l o. sym (q (normal_of h) (normals-has (carriers s) h l))) m a;
}

-- a map that agrees with a set piece by piece is a map of the set
pub cone-from_agrees : (M : Map) (s : Set) (p : SpacePoint) → Shaped M → HasLabel s p M.mark → Agrees M (Germ s p) → Cone M s p
cone-from_agrees M s p S h A =
    let L = germ-labelling s p in
    let gs = normals_of (carriers s) in
    record {
      valid = agrees-valid gs (Germ s p) L M S A;
      mark = h;
      labels = λ d f. let g = germ_of s p d in (g.0, label-agrees gs (Germ s p) L M S A d g.0 f g.1, g.1);
    }

-- ---- operations
pub op-labelling : (A B : Map) (op : Label → Label → Label) → Valid A → Valid B → Labelling (forms A ++ forms B) (ByOp A B op)
op-labelling A B op V W = record {
  exists = λ d f. let a = label-exists A V d f in let b = label-exists B W d f in (op a.0 b.0, (a.0, b.0, a.1, b.1, refl));
  one = λ d m n f x y. sym x.4 ∙ ap (λ r. op r x.1) (label-unique A V d x.0 y.0 x.2 y.2) ∙ ap (λ r. op y.0 r) (label-unique B W d x.1 y.1 x.3 y.3) ∙ y.4;
  cells = λ d e m f g s x. (x.0, x.1, label-by_signs A V d e (λ h l. s h (lies-left (forms A) (forms B) h l)) x.0 x.2, label-by_signs B W d e (λ h l. s h (lies-right (forms A) (forms B) h l)) x.1 x.3, x.4);
}

-- a map that agrees with op of two maps piece by piece has op of their labels
pub op-built : (A B M : Map) (op : Label → Label → Label) → Valid A → Valid B → Shaped M → Agrees M (ByOp A B op)
    → Valid M × ((d : Vector) (m : Label) → IsDirection d → MapLabel M d m ↔ ByOp A B op d m)
op-built A B M op V W S a =
    let gs = forms A ++ forms B in
    let L = op-labelling A B op V W in
    (agrees-valid gs (ByOp A B op) L M S a, λ d m f. (agrees-label gs (ByOp A B op) L M S a d m, label-agrees gs (ByOp A B op) L M S a d m f))
