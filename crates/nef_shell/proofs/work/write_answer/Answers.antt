use Rattle.nef_shell.proofs.Prelude.{◌∙◌, ap, Err, err_from_is_err_and, piece_bytes}
use Rattle.nef_shell.proofs.Outputs.{ends-before, one-output}
use Rattle.nef_shell.proofs.work.write_answer.Goals as goal

pub returns-in_err-piece-clause-ends : goal.returns-in_err-piece-clause-ends
returns-in_err-piece-clause-ends g c nodes first second =
    let p = err_from_is_err_and c.from_residual.result c.from_residual.ensures.1 in
    ends-before _ _ _ _ _ c.from_residual.result (p.1 ∙ ap (λ z. Err z) p.2)

pub returns-in_err-put_all-clause-ends : goal.returns-in_err-put_all-clause-ends
returns-in_err-put_all-clause-ends g c nodes first second =
    let p = err_from_is_err_and c.from_residual-in_err-put_all.result c.from_residual-in_err-put_all.ensures.1 in
    let bytes = piece_bytes c.in_ok-piece.piece in
    rw (p.1, p.2) (record {
      done = tt;
      quiet = tt;
      stopped = c.in_err-put_all.ensures.failed;
      front = (1, bytes, one-output c.args.options.now.text nodes c.args.command.now bytes (c.in_ok-piece.ensures.piece nodes first second), rw (← c.as_bytes.ensures.bytes) c.in_err-put_all.ensures.part);
    })

pub returns-clause-ends : goal.returns-clause-ends
returns-clause-ends g c nodes first second =
    let bytes = piece_bytes c.in_ok-piece.piece in
    record {
      done = (bytes, one-output c.args.options.now.text nodes c.args.command.now bytes (c.in_ok-piece.ensures.piece nodes first second), rw (← c.as_bytes.ensures.bytes) c.in_ok-put_all.ensures.ok);
      quiet = c.in_ok-put_all.ensures.quiet;
      stopped = tt;
      front = tt;
    }
