-- A question has one answer.
use Rattle.nef_statement.proofs.Prelude.{◌≡◌, ℕ, ap, sym, ◌∙◌, List, ◌++◌, inl, inr, if◌then◌else◌, codes, SpacePoint, Set, Vector, point_of, same_points_equal, Point, IsSameAnswer, IsJoinedAnswer, IsRayAnswer, number_and_blank, answer_of}
use Rattle.nef_ray.proofs.OneEnd.{one-end}

pub answered-one : (s t : Set) (x y : List ℕ) → IsSameAnswer s t x → IsSameAnswer s t y → x ≡ y
answered-one s t x y a b = elim a [
  | inl one ↦ elim b [ inl also ↦ one.1 ∙ sym also.1 | inr differ ↦ absurd (differ.0 one.0) ]
  | inr differ ↦ elim b [ inl one ↦ absurd (differ.0 one.0) | inr also ↦ differ.1 ∙ sym also.1 ]
]

pub joined-one : (s : Set) (p q : SpacePoint) (x y : List ℕ) → IsJoinedAnswer s p q x → IsJoinedAnswer s p q y → x ≡ y
joined-one s p q x y (IsJoinedAnswer.outside out e) (IsJoinedAnswer.outside out' f) = e ∙ sym f
joined-one s p q x y (IsJoinedAnswer.outside out e) (IsJoinedAnswer.joined P Q j f) = absurd (out (P, Q))
joined-one s p q x y (IsJoinedAnswer.outside out e) (IsJoinedAnswer.apart P Q j f) = absurd (out (P, Q))
joined-one s p q x y (IsJoinedAnswer.joined P Q j e) (IsJoinedAnswer.outside out f) = absurd (out (P, Q))
joined-one s p q x y (IsJoinedAnswer.joined P Q j e) (IsJoinedAnswer.joined P' Q' j' f) = e ∙ sym f
joined-one s p q x y (IsJoinedAnswer.joined P Q j e) (IsJoinedAnswer.apart P' Q' a f) = absurd (a j)
joined-one s p q x y (IsJoinedAnswer.apart P Q a e) (IsJoinedAnswer.outside out f) = absurd (out (P, Q))
joined-one s p q x y (IsJoinedAnswer.apart P Q a e) (IsJoinedAnswer.joined P' Q' j f) = absurd (a j)
joined-one s p q x y (IsJoinedAnswer.apart P Q a e) (IsJoinedAnswer.apart P' Q' a' f) = e ∙ sym f

-- a ray has one end, whose point has one form
pub ended-one : (s : Set) (p : SpacePoint) (d : Vector) (x y : List ℕ) → IsRayAnswer s p d x → IsRayAnswer s p d y → x ≡ y
ended-one s p d x y (IsRayAnswer.outside out e) (IsRayAnswer.outside out' f) = e ∙ sym f
ended-one s p d x y (IsRayAnswer.outside out e) (IsRayAnswer.ends P a h f) = absurd (out P)
ended-one s p d x y (IsRayAnswer.ends P a h e) (IsRayAnswer.outside out f) = absurd (out P)
ended-one s p d x y (IsRayAnswer.ends P a h e) (IsRayAnswer.ends P' b k f) =
    let one = one-end s p d (point_of a.point) (point_of b.point) a.after b.after a.label b.label h k in
    e ∙ ap (λ z. (if z then codes "after " else codes "at ") ++ number_and_blank a.point.x ++ number_and_blank a.point.y ++ number_and_blank a.point.z ++ number_and_blank a.point.w ++ answer_of a.label) one.1
    ∙ ap (λ (r : Point). (if b.after then codes "after " else codes "at ") ++ number_and_blank r.x ++ number_and_blank r.y ++ number_and_blank r.z ++ number_and_blank r.w ++ answer_of a.label) (same_points_equal a.point b.point one.0)
    ∙ ap (λ l. (if b.after then codes "after " else codes "at ") ++ number_and_blank b.point.x ++ number_and_blank b.point.y ++ number_and_blank b.point.z ++ number_and_blank b.point.w ++ answer_of l) one.2 ∙ sym f
