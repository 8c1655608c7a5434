use Rattle.nef_sover.proofs.Prelude.{◌≡◌, ℕ, ◌<◌, pos, dot, vector_of, Axis, IsAt}
use Rattle.nef_sover.proofs.overlaid.is_bare.Given as goal

abbrev pub invariant-loop-axis : goal.invariant-loop-axis
invariant-loop-axis l = record { off : (k : ℕ) (e : Axis) → k < l.axis-index → IsAt l.axes k e → dot (vector_of l.sloop.normal) (vector_of e.dir) ≡ pos 0 → ⊥ }
