-- The views of passes.
use Rattle.std.specs.Prelude.{ℕ, Bool, true, false, ◌+◌, ◌-◌, ◌^◌, ◌||◌, List, [], ◌∷◌, ◌++◌, Option, Some, None}
use Rattle.nef_sched.specs.declared.pass.View.{View}

abbrev pub view_of : ℕ → List ℕ → List ℕ → ℕ → Bool → View
view_of parts known taken due ended = record { parts = parts; known = known; taken = taken; due = due; ended = ended }

-- a pass with all parts that has put these numbers and so many ends, and has taken nothing
abbrev pub whole : List ℕ → ℕ → View
whole numbers due = view_of (2 ^ 32) numbers [] due false

abbrev pub first_view : View
first_view = whole [] 0

-- a pass that puts a number, or an end
abbrev pub put : View → Option ℕ → View
put v (Some x) = view_of v.parts (v.known ++ x ∷ []) v.taken v.due v.ended
put v None = view_of v.parts v.known v.taken (v.due + 1) v.ended

-- a pass that takes a number, and one that takes an end
abbrev pub took : View → ℕ → View
took v x = view_of v.parts v.known (v.taken ++ x ∷ []) v.due v.ended

abbrev pub at_end : View → View
at_end v = view_of v.parts v.known v.taken (v.due - 1) true

-- a pass that makes another one, and the one that is made
abbrev pub cut : View → View
cut v = view_of (v.parts - 1) v.known v.taken (v.due - 1) v.ended

abbrev pub share : View → View
share v = view_of 1 v.known [] 1 false

-- a pass that takes another in, and what is left of that
abbrev pub taken_together : View → View → View
taken_together v w = view_of (v.parts + w.parts) v.known (v.taken ++ w.taken) (v.due + w.due) (v.ended || w.ended)

abbrev pub spent : View
spent = view_of 0 [] [] 0 false

-- f of each view, added up
abbrev pub total : (View → ℕ) → List View → ℕ
total f [] = 0
total f (v ∷ vs) = f v + total f vs
