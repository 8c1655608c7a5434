use Rattle.nef_ops.proofs.Prelude.{ℕ, ◌<◌, IsAt, SVertex, SvertexLacks}
use Rattle.nef_ops.proofs.share.svertices_lack.Given as goal

abbrev pub invariant-loop-svertex : goal.invariant-loop-svertex
invariant-loop-svertex l = (k : ℕ) (v : SVertex) → k < l.svertex-index → IsAt l.svertices k v → SvertexLacks l.label v
