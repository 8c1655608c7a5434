-- Answers about points, directions and sets that are the same.
use Rattle.nef_statement.proofs.Prelude.{ℕ, Bool, true, false, List, [], ◌∷◌, inl, inr, ⊎_elim, IsEven, IsEvenPath, Joined, Germ, SameSet, SpacePoint, SamePoint, InFrame, toward, Set, Vector, SameDirection, Label, In, between-same, Joined-same, cones-of_same, same-point_sym, Germ-same, same-point_trans, point_of, IsRayEnd, Changes, IsSameAnswer, IsJoinedAnswer, IsRayAnswer, SameDirection-turned, SameDirection-trans, direction-left}
use Rattle.nef_space.specs.Sets.{Holds}
use Rattle.nef_conn.proofs.Leaves.{toward-same}
use Rattle.nef_unique.proofs.Sets.{label-moved}
use Rattle.law_geometry.proofs.near.SameSets.{same-turned, same-trans}
use Rattle.law_geometry.proofs.near.Same.{dim-same}
use Rattle.nef_space.proofs.Elementary.{same-itself}

full-holds : (p : SpacePoint) → Holds Set.full p
unfolding Holds
full-holds p = tt

frame-moved : (p q : SpacePoint) → SamePoint p q → InFrame p → InFrame q
frame-moved p q e i = (label-moved Set.full p q In e (i, full-holds p)).0

even-moved : (s : Set) (k : ℕ) (p q p' q' : SpacePoint) → SamePoint p p' → SamePoint q q' → IsEven s k p q → IsEven s k p' q'
even-moved s k p q p' q' e f h r on = h r (⊎_elim
    (λ a. inl (same-point_trans r p' p a (same-point_sym p p' e)))
    (λ o. ⊎_elim
    (λ b. inr (inl (between-same p' r q' p r q (same-point_sym p p' e) (same-itself r) (same-point_sym q q' f) b)))
    (λ c. inr (inr (same-point_trans r q' q c (same-point_sym q q' f)))) o)
    on)

path-moved : (s : Set) (k : ℕ) (p : SpacePoint) (rs : List SpacePoint) (q p' q' : SpacePoint) → SamePoint p p' → SamePoint q q' → IsEvenPath s k p rs q → IsEvenPath s k p' rs q'
path-moved s k p [] q p' q' e f h = even-moved s k p q p' q' e f h
path-moved s k p (r ∷ rs) q p' q' e f h = (even-moved s k p r p' r e (same-itself r) h.0, path-moved s k r rs q r q' (same-itself r) f h.1)

joined-moved : (s : Set) (p q p' q' : SpacePoint) → SamePoint p p' → SamePoint q q' → Joined s p q → Joined s p' q'
joined-moved s p q p' q' e f (k, rs, d, path) = (k, rs, dim-same s p p' k e d, path-moved s k p rs q p' q' e f path)

pub joined-answer-moved : (s : Set) (p q p' q' : SpacePoint) (x : List ℕ) → SamePoint p p' → SamePoint q q' → IsJoinedAnswer s p q x → IsJoinedAnswer s p' q' x
joined-answer-moved s p q p' q' x e f (IsJoinedAnswer.outside out g) =
    IsJoinedAnswer.outside (λ i. out (frame-moved p' p (same-point_sym p p' e) i.0, frame-moved q' q (same-point_sym q q' f) i.1)) g
joined-answer-moved s p q p' q' x e f (IsJoinedAnswer.joined P Q j g) = IsJoinedAnswer.joined (frame-moved p p' e P) (frame-moved q q' f Q) (joined-moved s p q p' q' e f j) g
joined-answer-moved s p q p' q' x e f (IsJoinedAnswer.apart P Q j g) =
    IsJoinedAnswer.apart (frame-moved p p' e P) (frame-moved q q' f Q) (λ k. j (joined-moved s p' q' p q (same-point_sym p p' e) (same-point_sym q q' f) k)) g

changes-moved : (s : Set) (q : SpacePoint) (d d' : Vector) (m : Label) (b : Bool) (l : Label) → SameDirection d d' → Changes s q d m b l → Changes s q d' m b l
changes-moved s q d d' m false l g h = h
changes-moved s q d d' m true l g (h, k) = (h, Germ-same s q q d d' l (same-itself q) g k)

end-moved : (s : Set) (p p' : SpacePoint) (d d' : Vector) (q : SpacePoint) (b : Bool) (l : Label) → SamePoint p p' → SameDirection d d' → IsRayEnd s p d q b l → IsRayEnd s p' d' q b l
end-moved s p p' d d' q b l e g h =
    let turned = SameDirection-turned (toward p q) (toward p' q) (toward-same p p' q e (direction-left (toward p q) d h.ahead)) in
    record {
      before = h.before;
      germ = Germ-same s p p' d d' h.before e g h.germ;
      ahead = SameDirection-trans (toward p' q) (toward p q) d' turned (SameDirection-trans (toward p q) d d' h.ahead g);
      same = λ r c. h.same r (between-same p' r q p r q (same-point_sym p p' e) (same-itself r) (same-itself q) c);
      other = h.other;
      changes = changes-moved s q d d' h.before b l g h.changes;
    }

pub ray-answer-moved : (s : Set) (p p' : SpacePoint) (d d' : Vector) (x : List ℕ) → SamePoint p p' → SameDirection d d' → IsRayAnswer s p d x → IsRayAnswer s p' d' x
ray-answer-moved s p p' d d' x e g (IsRayAnswer.outside out f) = IsRayAnswer.outside (λ i. out (frame-moved p' p (same-point_sym p p' e) i)) f
ray-answer-moved s p p' d d' x e g (IsRayAnswer.ends P r h f) = IsRayAnswer.ends (frame-moved p p' e P) r (end-moved s p p' d d' (point_of r.point) r.after r.label e g h) f

-- ---- answers about sets that are the same
pub same-answer : (a b s t : Set) (x : List ℕ) → SameSet a s → SameSet b t → IsSameAnswer s t x → IsSameAnswer a b x
same-answer a b s t x f g h = ⊎_elim
    (λ one. inl (same-trans a t b (same-trans a s t f one.0) (same-turned b t g), one.1))
    (λ differ. inr ((λ k. differ.0 (same-trans s b t (same-trans s a b (same-turned a s f) k) g)), differ.1))
    h

pub joined-answer : (a s : Set) (p q : SpacePoint) (x : List ℕ) → SameSet a s → IsJoinedAnswer s p q x → IsJoinedAnswer a p q x
joined-answer a s p q x f (IsJoinedAnswer.outside out e) = IsJoinedAnswer.outside out e
joined-answer a s p q x f (IsJoinedAnswer.joined P Q j e) = IsJoinedAnswer.joined P Q (Joined-same s a p q (same-turned a s f) j) e
joined-answer a s p q x f (IsJoinedAnswer.apart P Q j e) = IsJoinedAnswer.apart P Q (λ k. j (Joined-same a s p q f k)) e

germ-same : (a s : Set) (p : SpacePoint) (d : Vector) (l : Label) → SameSet a s → Germ s p d l → Germ a p d l
germ-same a s p d l f g = ((cones-of_same a s f p).germs d l).1 g

changes-same : (a s : Set) (q : SpacePoint) (d : Vector) (m : Label) (b : Bool) (l : Label) → SameSet a s → Changes s q d m b l → Changes a q d m b l
changes-same a s q d m false l f h = (f q l).1 h
changes-same a s q d m true l f (h, g) = ((f q m).1 h, germ-same a s q d l f g)

pub ray-answer : (a s : Set) (p : SpacePoint) (d : Vector) (x : List ℕ) → SameSet a s → IsRayAnswer s p d x → IsRayAnswer a p d x
ray-answer a s p d x f (IsRayAnswer.outside out e) = IsRayAnswer.outside out e
ray-answer a s p d x f (IsRayAnswer.ends P r h e) =
    IsRayAnswer.ends P r (record {
      before = h.before;
      germ = germ-same a s p d h.before f h.germ;
      ahead = h.ahead;
      same = λ y b. (f y h.before).1 (h.same y b);
      other = h.other;
      changes = changes-same a s (point_of r.point) d h.before r.after r.label f h.changes;
    }) e
