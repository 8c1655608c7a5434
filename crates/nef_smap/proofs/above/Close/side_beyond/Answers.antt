use Rattle.nef_smap.proofs.Prelude.{refl, dot, vector_of, Minus, Plus}
use Rattle.nef_space.specs.Signs.{plus, sign}
use Rattle.nef_smap.proofs.CloseSigns.{read-dot, beyond-down, beyond-up, beyond-along, first-minus, first-nought, first-plus}
use Rattle.nef_smap.proofs.above.Close.side_beyond.Goals as goal

pub returns-in-Down : goal.returns-in-Down
returns-in-Down c = record { side = beyond-down (vector_of c.args.normal.now) (vector_of c.args.self.now.aside) c.args.self.now.lean Minus c.requires.ahead c.in-Down.is refl }

pub returns-in-Up : goal.returns-in-Up
returns-in-Up c = record { side = beyond-up (vector_of c.args.normal.now) (vector_of c.args.self.now.aside) c.args.self.now.lean Plus c.requires.ahead c.in-Up.is refl }

pub returns-in-Minus : goal.returns-in-Minus
returns-in-Minus c =
    let n = vector_of c.args.normal.now in
    let a = vector_of c.args.self.now.aside in
    record { side = beyond-along n a c.args.self.now.lean Minus c.requires.ahead c.in-Along.is (first-minus c.dot.result (sign (dot n a)) plus (read-dot c.dot.result (dot n a) c.dot.ensures.dot) c.in-Minus.is) }

pub returns-in-Zero : goal.returns-in-Zero
returns-in-Zero c =
    let n = vector_of c.args.normal.now in
    let a = vector_of c.args.self.now.aside in
    record { side = beyond-along n a c.args.self.now.lean Plus c.requires.ahead c.in-Along.is (first-nought c.dot.result Plus (sign (dot n a)) plus (read-dot c.dot.result (dot n a) c.dot.ensures.dot) c.in-Zero.is refl) }

pub returns-in-Plus : goal.returns-in-Plus
returns-in-Plus c =
    let n = vector_of c.args.normal.now in
    let a = vector_of c.args.self.now.aside in
    record { side = beyond-along n a c.args.self.now.lean Plus c.requires.ahead c.in-Along.is (first-plus c.dot.result (sign (dot n a)) plus (read-dot c.dot.result (dot n a) c.dot.ensures.dot) c.in-Plus.is) }
