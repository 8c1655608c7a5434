use Rattle.nef_shell.proofs.Prelude.{Err, List, ◌≡◌, ◌<◌, ◌+◌, ◌++◌, [], ◌∷◌, ◌∙◌, ℕ, ap, sym, refl, subst, arith, length, inl, inr, get_or, Some, take_all, slice_get_cases, err_from_is_err_and, Step, asked_values, IsOutput}
use Rattle.std.proofs.Common.{slice_get}
use Rattle.nef_shell.proofs.Outputs.{ends-before, output-next, grows-none, front-at}
use Rattle.nef_shell.proofs.Uses.{lean-more, ready-more}
use Rattle.nef_shell.proofs.work.work_steps.Goals as goal
use Rattle.nef_io.proofs.Told.{Grows-trans}

-- the step with this number
step-at : (steps : List Step) (i : ℕ) → i < length steps → (s : Step) × (slice_get steps i ≡ Some s) × (s ≡ get_or steps i s)
step-at steps i within = elim (slice_get_cases steps i).1 [ inl (s, below, at, is) ↦ (s, at, sym is) | inr (past, none) ↦ absurd (omega arith) ]

pub work_ahead-requires-clause-placed : goal.work_ahead-requires-clause-placed
work_ahead-requires-clause-placed g c scopes within = c.loop-now.invariant.stand.placed

pub work_step-requires-clause-stand : goal.work_step-requires-clause-stand
work_step-requires-clause-stand g c scopes within =
    let ahead = c.in_ok-work_ahead.ensures in
    record { placed = ahead.placed; ready = ready-more c.args.steps.now c.loop-now.now _ _ ahead.more c.loop-now.invariant.stand.ready }

pub work_step-requires-clause-lean : goal.work_step-requires-clause-lean
work_step-requires-clause-lean g c scopes within = lean-more c.args.steps.now c.loop-now.now _ _ c.in_ok-work_ahead.ensures.more c.loop-now.invariant.lean

pub returns-in_err-work_ahead-clause-ends : goal.returns-in_err-work_ahead-clause-ends
returns-in_err-work_ahead-clause-ends g c nodes asked =
    let p = err_from_is_err_and c.from_residual.result c.from_residual.ensures.1 in
    let version = c.args.means.now.options.text in
    let steps = c.args.steps.now in
    let now = c.loop-now.now in
    let so_far = c.loop-now.invariant in
    let output = so_far.written nodes asked in
    let (item, at, is) = step-at steps now (omega arith) in
    let none = ends-before version nodes (asked_values (item ∷ [])) (g.K.Sink.written c.loop-now.sink) (g.K.Sink.faults c.loop-now.sink) c.from_residual.result (p.1 ∙ ap (λ z. Err z) p.2) in
    rw (p.1, p.2) (record {
      done = tt;
      quiet = tt;
      stopped = so_far.quiet;
      front = front-at version nodes steps now item _ _ _ output.0 (omega arith) is output.1 output.2 (rw p.1 at none.front);
    })

pub returns-in_err-work_ahead-clause-lean : goal.returns-in_err-work_ahead-clause-lean
returns-in_err-work_ahead-clause-lean g c = let p = err_from_is_err_and c.from_residual.result c.from_residual.ensures.1 in rw p.1 tt

pub returns-in_err-work_step-clause-ends : goal.returns-in_err-work_step-clause-ends
returns-in_err-work_step-clause-ends g c nodes asked =
    let p = err_from_is_err_and c.from_residual-in_err-work_step.result c.from_residual-in_err-work_step.ensures.1 in
    let version = c.args.means.now.options.text in
    let steps = c.args.steps.now in
    let now = c.loop-now.now in
    let so_far = c.loop-now.invariant in
    let output = so_far.written nodes asked in
    let (item, at, is) = step-at steps now (omega arith) in
    let ends = c.in_err-work_step.ensures.ends nodes item asked at in
    rw p.1 (record {
      done = tt;
      quiet = tt;
      stopped = rw p.2 (rw so_far.quiet at ends.stopped);
      front = front-at version nodes steps now item _ _ _ output.0 (omega arith) is output.1 output.2 ends.front;
    })

pub returns-in_err-work_step-clause-lean : goal.returns-in_err-work_step-clause-lean
returns-in_err-work_step-clause-lean g c = let p = err_from_is_err_and c.from_residual-in_err-work_step.result c.from_residual-in_err-work_step.ensures.1 in rw p.1 tt

pub loop-now-preserved : goal.loop-now-preserved
loop-now-preserved g c =
    let version = c.args.means.now.options.text in
    let steps = c.args.steps.now in
    let now = c.loop-now.now in
    let so_far = c.loop-now.invariant in
    let stepped = c.in_ok-work_step.ensures in
    let (item, at, is) = step-at steps now (omega arith) in
    let (some, asked_some) = c.requires.asked in
    record {
      quiet = (stepped.ends some item asked_some at).quiet ∙ so_far.quiet;
      written = λ nodes asked.
          let before = so_far.written nodes asked in
          let done = (stepped.ends nodes item asked at).done in (
            before.0 ++ done.0,
            output-next version nodes steps now item before.0 done.0 (omega arith) is before.1 done.1,
            Grows-trans _ _ _ _ _ before.2 done.2,
          );
      stand = stepped.stand;
      lean = stepped.lean;
    }

pub loop-now-init : goal.loop-now-init
loop-now-init g c = record {
  quiet = refl;
  written = λ nodes asked. ([], refl, grows-none _);
  stand = record { placed = c.requires.placed; ready = λ k low awaited. absurd (omega (arith, low)) };
  lean = c.requires.lean;
}

pub returns-clause-ends : goal.returns-clause-ends
returns-clause-ends g c nodes asked =
    let steps = c.args.steps.now in
    let end = c.loop-now-test.false in
    let written = c.loop-now.invariant.written nodes asked in
    record {
      done = (written.0, subst (λ z. IsOutput c.args.means.now.options.text nodes (asked_values z) written.0) (take_all c.loop-now.now steps (omega (arith, end))) written.1, written.2);
      quiet = c.loop-now.invariant.quiet;
      stopped = tt;
      front = tt;
    }

pub returns-clause-lean : goal.returns-clause-lean
returns-clause-lean g c k there =
    let end = c.loop-now-test.false in
    let (j, s, late, at, looks) = c.loop-now.invariant.lean k there in
    (j, s, omega (arith, late, end), at, looks)
