-- What each status says, from what the calls below say.
use Rattle.nef_shell.proofs.Prelude.{◌≡◌, ℕ, refl, ap, ◌∙◌, sym, subst, List, [], Option, Some, None, inl, inr, Rose, Grows, GrowsWithin, lines_of, ScriptKind, FirstRefusal, IsAccepted, Options, options_in, Status, Done, Refused, Words, ReadFault, WriteFault, OutOfMemory, ReadSource, AreBytesRead, Means, refusal_line, words_line, AreSaid, IsMeant, WroteFront, Ended, RunSays, IsText, Traffic, Streams, grows_within-longer, source-read, read-none, read-not_refused, IsScriptFor, HasNoScript, HasOutput, HasFront, HasEnded, RunEnds}
use Rattle.nef_statement.proofs.Stated.{whole-output}
use Rattle.nef_shell.specs.Status.{MatchStatus}
use Rattle.nef_shell.proofs.Pieces.{texts-compared, texts-meant}
use Rattle.nef_shell.proofs.Walk.{output-said, front-said}

-- the statuses of a refused script
pub refused-status : (words : List (List ℕ)) (s : Status) (io : Traffic) (bytes : List ℕ) (line : ℕ) (kind : ScriptKind) → ReadSource words → AreBytesRead io.before.rest io.after.rest bytes → FirstRefusal bytes line kind → io.after.read_faults ≡ io.before.read_faults
    → MatchStatus s ⊥ (λ l k. (l ≡ line) × (k ≡ kind) × Grows io.before.written io.after.written (refusal_line line kind) × (io.after.write_faults ≡ io.before.write_faults)) ⊥ ⊥ (Rose io.before.write_faults io.after.write_faults × GrowsWithin io.before.written io.after.written (refusal_line line kind)) ((io.after.written ≡ io.before.written) × (io.after.write_faults ≡ io.before.write_faults))
    → HasEnded words s io
refused-status words Done io bytes line kind source read refused reads h = absurd h
refused-status words (Refused l k) io bytes line kind source read refused reads (same_line, same_kind, grows, writes) = (
  record {
    source = source;
    bytes = bytes;
    read = read;
    refused = subst (λ z. FirstRefusal bytes z k) (sym same_line) (subst (FirstRefusal bytes line) (sym same_kind) refused);
    written = subst (λ z. Grows io.before.written io.after.written (refusal_line z k)) (sym same_line) (subst (λ z. Grows io.before.written io.after.written (refusal_line line z)) (sym same_kind) grows);
  },
  record { reads = reads; writes = writes },
)
refused-status words Words io bytes line kind source read refused reads h = absurd h
refused-status words ReadFault io bytes line kind source read refused reads h = absurd h
refused-status words WriteFault io bytes line kind source read refused reads (rose, part) = (rose, HasFront.of_refusal bytes line kind source read refused part, reads)
refused-status words OutOfMemory io bytes line kind source read refused reads (same, writes) = (inl same, record { reads = reads; writes = writes })

-- the statuses where there is no script, but one that is refused
pub none-status : (words : List (List ℕ)) (s : Status) (io : Traffic) (o : Options) → options_in words ≡ Some o → ((line : ℕ) (kind : ScriptKind) → s ≡ Refused line kind → ⊥)
    → HasNoScript o.stairs io.before.rest io.after.rest io.before.read_faults io.after.read_faults s → io.after.written ≡ io.before.written → io.after.write_faults ≡ io.before.write_faults → HasEnded words s io
none-status words Done io o is other none same writes = absurd none.said
none-status words (Refused l k) io o is other none same writes = absurd (other l k refl)
none-status words Words io o is other none same writes = absurd none.said
none-status words ReadFault io o is other none same writes = let (out, rose) = none.said in (source-read words o is out, rose, same, writes)
none-status words WriteFault io o is other none same writes = absurd none.said
none-status words OutOfMemory io o is other none same writes = (inl same, record { reads = none.said; writes = writes })

-- the statuses where the work of a script stopped
pub stopped-status : (words : List (List ℕ)) (s : Status) (io : Traffic) → MatchStatus s ⊥ (λ line kind. ⊥) ⊥ ⊥ (Rose io.before.write_faults io.after.write_faults) (io.after.write_faults ≡ io.before.write_faults) → HasFront words io → io.after.read_faults ≡ io.before.read_faults → HasEnded words s io
stopped-status words Done io stopped front reads = absurd stopped
stopped-status words (Refused l k) io stopped front reads = absurd stopped
stopped-status words Words io stopped front reads = absurd stopped
stopped-status words ReadFault io stopped front reads = absurd stopped
stopped-status words WriteFault io stopped front reads = (stopped, front, reads)
stopped-status words OutOfMemory io stopped front reads = (inr front, record { reads = reads; writes = stopped })

-- ---- what the commands write is what the lines say
-- the output of the script that was run is meant
script-meant : (words : List (List ℕ)) (io : Traffic) (o : Options) (bytes output : List ℕ) → options_in words ≡ Some o → IsScriptFor o.stairs io.before.rest io.after.rest bytes → IsAccepted bytes → AreSaid (IsText o.text) [] (lines_of bytes) output → IsMeant IsText words io Done output
script-meant words io o bytes output is script accepted said = by o.stairs refl script
  where
    by : (s : Option ℕ) → o.stairs ≡ s → IsScriptFor s io.before.rest io.after.rest bytes → IsMeant IsText words io Done output
    by None none (taken, end) = (bytes, λ source. (taken, inl end), Means.worked o output is none accepted said)
    by (Some n) boxes (same, unread) = (
      bytes,
      λ source. absurd (let f : None ≡ Some n = sym (read-none words o is source) ∙ boxes in cc),
      Means.generated o n output is boxes (subst (λ z. AreSaid (IsText o.text) [] (lines_of z) output) same said),
    )

output-meant : (words : List (List ℕ)) (io : Traffic) (h : HasOutput words io) → IsMeant IsText words io Done h.output
output-meant words io h = script-meant words io h.options h.bytes h.output h.chosen h.script h.worked.accepted (output-said h.options.text h.bytes h.nodes h.commands h.output h.worked.means h.is_output)

-- what the first commands write is a front of the output
front-meant : (words : List (List ℕ)) (io : Traffic) → HasFront words io → WroteFront IsText words io
front-meant words io (HasFront.of_refusal bytes line kind source read refused part) = (Refused line kind, refusal_line line kind, (bytes, λ again. read, Means.refused line kind source refused), part)
front-meant words io (HasFront.of_output o bytes nodes commands count output is script worked first part) =
    let (m, said) = front-said o.text bytes nodes commands count output worked.means first in
    let (whole, rest, all, longer) = whole-output o.text bytes m output worked.accepted said in (
      Done,
      whole,
      script-meant words io o bytes whole is script worked.accepted all,
      subst (λ z. GrowsWithin io.before.written io.after.written z) (sym longer) (grows_within-longer io.before.written io.after.written output rest part),
    )

-- ---- a run with accepted words
ended-so : (words : List (List ℕ)) (s : Status) (io : Traffic) → HasEnded words s io → Ended IsText words io s
ended-so words Done io (h, quiet) = Ended.by_itself Done h.output (output-meant words io h) h.written
ended-so words (Refused l k) io (h, quiet) = Ended.by_itself (Refused l k) (refusal_line l k) (h.bytes, λ source. h.read, Means.refused l k h.source h.refused) h.written
ended-so words Words io h = absurd h
ended-so words ReadFault io (source, rose, same, writes) = Ended.read_fault source rose same
ended-so words WriteFault io (rose, front, reads) = Ended.write_fault rose (front-meant words io front)
ended-so words OutOfMemory io (inl same, quiet) = Ended.out_of_memory (inl same)
ended-so words OutOfMemory io (inr front, quiet) = Ended.out_of_memory (inr (front-meant words io front))

-- a count of faults rises where the status says so alone
reads-stay : (words : List (List ℕ)) (s : Status) (io : Traffic) → HasEnded words s io → (s ≡ ReadFault → ⊥) → io.after.read_faults ≡ io.before.read_faults
reads-stay words Done io (h, quiet) other = quiet.reads
reads-stay words (Refused l k) io (h, quiet) other = quiet.reads
reads-stay words Words io h other = absurd h
reads-stay words ReadFault io h other = absurd (other refl)
reads-stay words WriteFault io (rose, front, reads) other = reads
reads-stay words OutOfMemory io (h, quiet) other = quiet.reads

writes-stay : (words : List (List ℕ)) (s : Status) (io : Traffic) → HasEnded words s io → (s ≡ WriteFault → ⊥) → io.after.write_faults ≡ io.before.write_faults
writes-stay words Done io (h, quiet) other = quiet.writes
writes-stay words (Refused l k) io (h, quiet) other = quiet.writes
writes-stay words Words io h other = absurd h
writes-stay words ReadFault io (source, rose, same, writes) other = writes
writes-stay words WriteFault io h other = absurd (other refl)
writes-stay words OutOfMemory io (h, quiet) other = quiet.writes

-- words that don't have the source read give `--stairs` a value
stairs-some : (words : List (List ℕ)) (o : Options) → options_in words ≡ Some o → (ReadSource words → ⊥) → (n : ℕ) × (o.stairs ≡ Some n)
stairs-some words o is out = given o.stairs refl
  where
    given : (s : Option ℕ) → o.stairs ≡ s → (n : ℕ) × (o.stairs ≡ Some n)
    given None e = absurd (out (source-read words o is e))
    given (Some n) e = (n, e)

pub accepted-says : (words : List (List ℕ)) (s : Status) (io : Traffic) (o : Options) → options_in words ≡ Some o → HasEnded words s io → ((n : ℕ) → o.stairs ≡ Some n → io.after.rest ≡ io.before.rest) → RunSays IsText words s io
accepted-says words s io o is ended unread = record {
  ended = ended-so words s io ended;
  unread = λ out. (let given = stairs-some words o is out in unread given.0 given.1);
  reads = reads-stay words s io ended;
  writes = writes-stay words s io ended;
}

-- ---- for those who take apart what is printed
pub run-ends : (words : List (List ℕ)) (s : Status) (io : Traffic) → (s ≡ Done → HasOutput words io) → RunEnds words s io
run-ends words s io done = record {
  done = done;
  compared = λ h. texts-compared h.options.text h.nodes h.commands h.output h.is_output;
  meant = λ h. texts-meant h.options.text h.nodes h.commands h.output h.is_output;
}

-- where the run is done it has the output
pub output-had : (words : List (List ℕ)) (s : Status) (io : Traffic) → HasEnded words s io → s ≡ Done → HasOutput words io
output-had words s io ended e = (subst (λ z. HasEnded words z io) e ended).0

-- ---- words that are refused
-- what a write of their line says
abbrev pub WroteLine : Status → Traffic → Type 0
WroteLine s io = MatchStatus s ⊥ (λ l k. ⊥) (Grows io.before.written io.after.written words_line × (io.after.write_faults ≡ io.before.write_faults)) ⊥ (Rose io.before.write_faults io.after.write_faults × GrowsWithin io.before.written io.after.written words_line) ⊥

pub refused-says : (words : List (List ℕ)) (s : Status) (io : Traffic) → options_in words ≡ None → WroteLine s io → io.after.rest ≡ io.before.rest → io.after.read_faults ≡ io.before.read_faults → RunSays IsText words s io
refused-says words Done io out h unread reads = absurd h
refused-says words (Refused l k) io out h unread reads = absurd h
refused-says words Words io out (grown, writes) unread reads = record {
  ended = Ended.by_itself Words words_line ([], λ source. absurd (read-not_refused words out source), Means.refused_words out) grown;
  unread = λ other. unread;
  reads = λ other. reads;
  writes = λ other. writes;
}
refused-says words ReadFault io out h unread reads = absurd h
refused-says words WriteFault io out (rose, part) unread reads = record {
  ended = Ended.write_fault rose (Words, words_line, ([], λ source. absurd (read-not_refused words out source), Means.refused_words out), part);
  unread = λ other. unread;
  reads = λ other. reads;
  writes = λ other. absurd (other refl);
}
refused-says words OutOfMemory io out h unread reads = absurd h

-- a run that is done is none of its ends, nor is want of memory
pub line-ends : (words : List (List ℕ)) (s : Status) (io : Traffic) → WroteLine s io → s ≡ Done → HasOutput words io
line-ends words s io h e = absurd (subst (λ z. WroteLine z io) e h)

pub line-had_memory : (s : Status) (io : Traffic) → WroteLine s io → s ≡ OutOfMemory → ⊥
line-had_memory s io h e = subst (λ z. WroteLine z io) e h

-- ---- want of memory before anything was read or written
pub wanting-says : (words : List (List ℕ)) (io : Traffic) → io.after ≡ io.before → RunSays IsText words OutOfMemory io
wanting-says words io same = record {
  ended = Ended.out_of_memory (inl (ap (λ (z : Streams). z.written) same));
  unread = λ other. ap (λ (z : Streams). z.rest) same;
  reads = λ other. ap (λ (z : Streams). z.read_faults) same;
  writes = λ other. ap (λ (z : Streams). z.write_faults) same;
}
