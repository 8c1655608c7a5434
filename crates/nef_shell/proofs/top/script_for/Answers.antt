use Rattle.nef_shell.proofs.Prelude.{◌≡◌, ◌∙◌, refl, sym, subst, inl, None, Some, err_from_is_err_and, IsAccepted, stairs_text, never_both, IsScriptFor}
use Rattle.nef_shell.proofs.Causes.{none-read, none-accepted}
use Rattle.nef_shell.proofs.top.script_for.Goals as goal
use Rattle.nef_shell.proofs.top.script_for.Goals.{in-None+in_ok-bytes-in-None, in-Some+in_ok-bytes-in-Some}

pub returns-in_err-bytes-in-None-clause-none : goal.returns-in_err-bytes-in-None-clause-none
returns-in_err-bytes-in-None-clause-none g c =
    let gave = err_from_is_err_and c.from_residual.result c.from_residual.ensures.1 in
    rw (gave.1, gave.2) (none-read c.args.boxes _ _ _ _ c.read_all.result _ c.in_err-bytes-in-None.was c.in-None.is c.read_all.ensures.fault c.read_all.ensures.long c.read_all.ensures.quiet_too_long c.read_all.ensures.quiet_memory)

pub returns-in_err-bytes-in-None-clause-unread : goal.returns-in_err-bytes-in-None-clause-unread
returns-in_err-bytes-in-None-clause-unread g c n some = absurd (let f : None ≡ Some n = sym c.in-None.is ∙ some in cc)

pub returns-in_err-bytes-in-Some-clause-none : goal.returns-in_err-bytes-in-Some-clause-none
returns-in_err-bytes-in-Some-clause-none g c =
    let gave = err_from_is_err_and c.from_residual-in_err-bytes-in-Some.result c.from_residual-in_err-bytes-in-Some.ensures.1 in
    rw (gave.1, gave.2) (record { said = refl })

pub returns-in_err-parse-clause-none : goal.returns-in_err-parse-clause-none
returns-in_err-parse-clause-none g c =
    let bytes = c.deref.result.now in
    let gave = err_from_is_err_and c.from_residual-in_err-parse.result c.from_residual-in_err-parse.ensures.1 in
    rw (gave.1, gave.2) (none-accepted c.args.boxes (g.S.Source.rest c.args.source.now) (g.S.Source.rest c.match-boxes.source) (g.S.Source.faults c.args.source.now) (g.S.Source.faults c.match-boxes.source) bytes c.parse.result _ c.in_err-parse.was c.parse.ensures.refused
    (λ line kind first. elim c.match-boxes.branch [
      | in-None+in_ok-bytes-in-None w ↦
          let read = rw (← w.bytes-is, ← c.deref.ensures.value) at w.in_ok-bytes-in-None.ensures.bytes in
          rw w.source-is (w.in-None.is, (read.0, inl read.1))
      | in-Some+in_ok-bytes-in-Some w ↦
          let is : bytes ≡ stairs_text w.in-Some.count = rw (c.deref.ensures.value, w.bytes-is) w.in_ok-bytes-in-Some.ensures.script in
          absurd (never_both bytes line kind first (subst IsAccepted (sym is) w.stairs.ensures.accepted))
    ])
    (elim c.match-boxes.branch [
      | in-None+in_ok-bytes-in-None w ↦ rw w.source-is w.in_ok-bytes-in-None.ensures.quiet
      | in-Some+in_ok-bytes-in-Some w ↦ rw w.source-is refl
    ]))

pub returns-in_err-parse-clause-unread : goal.returns-in_err-parse-clause-unread
returns-in_err-parse-clause-unread g c n some = elim c.match-boxes.branch [
  | in-None+in_ok-bytes-in-None w ↦ absurd (let f : None ≡ Some n = sym w.in-None.is ∙ some in cc)
  | in-Some+in_ok-bytes-in-Some w ↦ rw w.source-is refl
]

pub returns-clause-script : goal.returns-clause-script
returns-clause-script g c =
    let parsed = c.in_ok-parse.ensures.script in
    let whole : IsScriptFor c.args.boxes (g.S.Source.rest c.args.source.now) (g.S.Source.rest c.match-boxes.source) c.deref.result.now = elim c.match-boxes.branch [
      | in-None+in_ok-bytes-in-None w ↦ rw (c.deref.ensures.value, w.bytes-is, w.source-is, w.in-None.is) w.in_ok-bytes-in-None.ensures.bytes
      | in-Some+in_ok-bytes-in-Some w ↦ rw (c.deref.ensures.value, w.bytes-is, w.source-is, w.in-Some.is) (w.in_ok-bytes-in-Some.ensures.script, refl)
    ] in
    (c.deref.result.now, whole, record { accepted = parsed.0; means = parsed.1 })

pub returns-clause-workable : goal.returns-clause-workable
returns-clause-workable g c = let parsed = c.in_ok-parse.ensures in record { within = parsed.in_range; turned = parsed.turned; bound_before = parsed.bound_before }

pub returns-clause-quiet : goal.returns-clause-quiet
returns-clause-quiet g c = elim c.match-boxes.branch [
  | in-None+in_ok-bytes-in-None w ↦ rw w.source-is w.in_ok-bytes-in-None.ensures.quiet
  | in-Some+in_ok-bytes-in-Some w ↦ rw w.source-is refl
]

pub returns-clause-unread : goal.returns-clause-unread
returns-clause-unread g c n some = elim c.match-boxes.branch [
  | in-None+in_ok-bytes-in-None w ↦ absurd (let f : None ≡ Some n = sym w.in-None.is ∙ some in cc)
  | in-Some+in_ok-bytes-in-Some w ↦ rw w.source-is refl
]
