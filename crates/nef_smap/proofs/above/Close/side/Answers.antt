use Rattle.nef_space.specs.Signs.{sign}
use Rattle.nef_smap.proofs.Prelude.{dot, vector_of, beyond_sign}
use Rattle.nef_smap.proofs.CloseSigns.{read-dot, first-minus, first-nought, first-plus}
use Rattle.nef_smap.proofs.above.Close.side.Goals as goal

pub returns-in-Minus : goal.returns-in-Minus
returns-in-Minus c =
    let n = vector_of c.args.normal.now in
    let w = c.args.self.now in
    record { side = first-minus c.dot.result (sign (dot n (vector_of w.at))) (beyond_sign n w.lean (vector_of w.aside)) (read-dot c.dot.result (dot n (vector_of w.at)) c.dot.ensures.dot) c.in-Minus.is }

pub returns-in-Zero : goal.returns-in-Zero
returns-in-Zero c =
    let n = vector_of c.args.normal.now in
    let w = c.args.self.now in
    record { side = first-nought c.dot.result c.side_beyond.result (sign (dot n (vector_of w.at))) (beyond_sign n w.lean (vector_of w.aside)) (read-dot c.dot.result (dot n (vector_of w.at)) c.dot.ensures.dot) c.in-Zero.is c.side_beyond.ensures.side }

pub returns-in-Plus : goal.returns-in-Plus
returns-in-Plus c =
    let n = vector_of c.args.normal.now in
    let w = c.args.self.now in
    record { side = first-plus c.dot.result (sign (dot n (vector_of w.at))) (beyond_sign n w.lean (vector_of w.aside)) (read-dot c.dot.result (dot n (vector_of w.at)) c.dot.ensures.dot) c.in-Plus.is }
