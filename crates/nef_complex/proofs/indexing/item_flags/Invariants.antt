use Rattle.std.specs.Prelude.{◌↔◌}
use Rattle.nef_complex.proofs.Prelude.{Bool, IsTrue, form_of, Plane, HasItemIn}
use Rattle.nef_index.proofs.Numbered.{AreValuesTo}
use Rattle.nef_complex.proofs.indexing.item_flags.Given as goal

abbrev pub invariant-loop-number : goal.invariant-loop-number
invariant-loop-number l = AreValuesTo (λ (h : Plane) (b : Bool). IsTrue b ↔ HasItemIn l.vertices (form_of h)) l.carriers l.number l.flags
