-- The lines that a run writes.
use Rattle.std.specs.Prelude.{◌≡◌, ◌∷◌, ◌++◌, ◌⊎◌, if◌then◌else◌, ℕ, ℤ, List, [], codes, decimal}
use Rattle.nef_complex.specs.Prelude.{signed_decimal, Joined as AreJoined, SameSet, SpacePoint, InFrame, Vector, Set, Label, Out, Not, In, point_of}
use Rattle.nef_ray.specs.Ends.{IsRayEnd}
use Rattle.nef_ray.specs.declared.ray.RayEnd.{RayEnd}
use Rattle.nef_script.specs.declared.script.ScriptKind.{ScriptKind}
use Rattle.nef_script.specs.Texts.{kind_text}

-- the end of each line: a line feed
abbrev pub line_end : List ℕ
line_end = 10 ∷ []

abbrev pub answer_of : Label → List ℕ
answer_of Out = codes "frame" ++ line_end
answer_of Not = codes "not" ++ line_end
answer_of In = codes "in" ++ line_end

abbrev pub refusal_line : ℕ → ScriptKind → List ℕ
refusal_line line kind = codes "line " ++ decimal line ++ codes ": " ++ kind_text kind ++ line_end

abbrev pub words_line : List ℕ
words_line = codes "words refused" ++ line_end

-- a number with a blank after it
abbrev pub number_and_blank : ℤ → List ℕ
number_and_blank n = signed_decimal n ++ 32 ∷ []

-- the line of a ray's end: whether the label changes at the point or just after it, the point, and the new label
abbrev pub end_line : RayEnd → List ℕ
end_line e = (if e.after then codes "after " else codes "at ") ++ number_and_blank e.point.x ++ number_and_blank e.point.y ++ number_and_blank e.point.z ++ number_and_blank e.point.w ++ answer_of e.label

-- a text between the line that names it and the line that ends it
abbrev pub framed : List ℕ → List ℕ → List ℕ
framed name x = codes "polyhedron " ++ name ++ line_end ++ x ++ codes "end" ++ line_end

-- the answer to whether s and t are one set
abbrev pub IsSameAnswer : Set → Set → List ℕ → Type 0
IsSameAnswer s t piece = (SameSet s t × (piece ≡ codes "same" ++ line_end)) ⊎ ((SameSet s t → ⊥) × (piece ≡ codes "differs" ++ line_end))

-- the answer to whether p and q are joined in s
pub data IsJoinedAnswer (s : Set) (p q : SpacePoint) (piece : List ℕ) : Type 0 where
  outside : (InFrame p × InFrame q → ⊥) → piece ≡ answer_of Out → IsJoinedAnswer s p q piece
  joined : InFrame p → InFrame q → AreJoined s p q → piece ≡ codes "joined" ++ line_end → IsJoinedAnswer s p q piece
  apart : InFrame p → InFrame q → (AreJoined s p q → ⊥) → piece ≡ codes "apart" ++ line_end → IsJoinedAnswer s p q piece

-- the answer to where the label of s first changes along the ray from p toward d
pub data IsRayAnswer (s : Set) (p : SpacePoint) (d : Vector) (piece : List ℕ) : Type 0 where
  outside : (InFrame p → ⊥) → piece ≡ answer_of Out → IsRayAnswer s p d piece
  ends : InFrame p → (e : RayEnd) → IsRayEnd s p d (point_of e.point) e.after e.label → piece ≡ end_line e → IsRayAnswer s p d piece
