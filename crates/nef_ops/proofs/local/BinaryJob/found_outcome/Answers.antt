use Rattle.nef_ops.proofs.Prelude.{refl, subst, IfOk-weaker, point_of, complex_of, op_set, Operand, First, Second, One, movable, IsRightChoice}
use Rattle.nef_ops.proofs.ByShare.{shown-one}
use Rattle.nef_ops.proofs.local.BinaryJob.found_outcome.Goals as goal

pub finding_in-first-requires-clause-named : goal.finding_in-first-requires-clause-named
finding_in-first-requires-clause-named c = (complex_of c.args.self.now.first.complex.now, complex_of c.args.self.now.second.complex.now, refl, c.requires.named)

pub finding_in-second-requires-clause-named : goal.finding_in-second-requires-clause-named
finding_in-second-requires-clause-named c = (complex_of c.args.self.now.first.complex.now, complex_of c.args.self.now.second.complex.now, refl, c.requires.named)

pub returns-in-First : goal.returns-in-First
returns-in-First c =
    let j = c.args.self.now in let p = point_of c.args.candidate.now.point in let b = c.in-One.turned in
    record {
      outcome = IfOk-weaker c.one_outcome.result _ _ (λ o told s t S T.
          let L = c.in-One.ensures.leads s t p S T c.finding_in-first.ensures.found c.finding_in-second.ensures.found in
          told (movable j.first) (movable j.second) (op_set j.op s t) s p refl S c.finding_in-first.ensures.found
          (λ M K. shown-one j.op L.0 L.1 M s t p L.2 L.3 First b K (subst (λ (d : Operand). IsRightChoice (One d b) j.op L.0 L.1) c.in-First.is L.4))) c.one_outcome.ensures.outcome;
    }

pub returns-in-Second : goal.returns-in-Second
returns-in-Second c =
    let j = c.args.self.now in let p = point_of c.args.candidate.now.point in let b = c.in-One.turned in
    record {
      outcome = IfOk-weaker c.one_outcome-in-Second.result _ _ (λ o told s t S T.
          let L = c.in-One.ensures.leads s t p S T c.finding_in-first.ensures.found c.finding_in-second.ensures.found in
          told (movable j.first) (movable j.second) (op_set j.op s t) t p refl T c.finding_in-second.ensures.found
          (λ M K. shown-one j.op L.0 L.1 M s t p L.2 L.3 Second b K (subst (λ (d : Operand). IsRightChoice (One d b) j.op L.0 L.1) c.in-Second.is L.4))) c.one_outcome-in-Second.ensures.outcome;
    }

pub returns-in_ok-both-in-Both : goal.returns-in_ok-both-in-Both
returns-in_ok-both-in-Both c =
    let j = c.args.self.now in let p = point_of c.args.candidate.now.point in
    record {
      outcome = IfOk-weaker c.of.result _ _ (λ o told s t S T.
          told (movable j.first) (movable j.second) (op_set j.op s t) p
          (c.in_ok-both-in-Both.ensures.combined.cone s t p (c.in_ok-map-in-Both.ensures.cone s p S c.finding_in-first.ensures.found) (c.in_ok-other-in-Both.ensures.cone t p T c.finding_in-second.ensures.found)))
          c.of.ensures.outcome;
    }
