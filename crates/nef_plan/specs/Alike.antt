-- Expressions for one set that are made of the same halves.
use Rattle.std.specs.Prelude.{◌↔◌}
use Rattle.nef_space.specs.Prelude.{SameSet, Form, Set, halves, Lies}

-- both are one set, and the halves of either have the same planes
pub record AreAlike (s t : Set) : Type 0 where
  pub same : SameSet s t
  pub planes : (f : Form) → Lies (halves s) f ↔ Lies (halves t) f
