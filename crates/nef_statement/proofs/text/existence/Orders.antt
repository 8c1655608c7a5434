-- Orders of forms and of points: they go on, and of two points one is below the other or they are the same.
use Rattle.nef_statement.proofs.text.existence.Prelude.{Form, form_numbers}
use Rattle.nef_space.proofs.Elementary.{below-trans}
use Rattle.law_geometry.proofs.turns.ListsExist.{FormBelow}

-- ---- forms
pub form-trans : (f g h : Form) → FormBelow f g → FormBelow g h → FormBelow f h
form-trans f g h = below-trans (form_numbers f) (form_numbers g) (form_numbers h)
