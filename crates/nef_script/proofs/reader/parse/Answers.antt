use Rattle.nef_script.proofs.Prelude.{◌≡◌, ◌≤◌, ◌*◌, ℕ, Err, List, length, sym, ◌∙◌, ap, subst, err_from_is_err_and, All, Node, AreOrigins, lines_of, FirstRefusal, SpeaksOfFirst, AreBoundBefore, TurnsRight, state, sets_of, HasRead}
use Rattle.nef_script.specs.declared.script.ScriptFault.TheVariants.{Refused}
use Rattle.nef_script.specs.declared.script.ScriptKind.TheVariants.{ScriptTooLong}
use Rattle.nef_script.proofs.LineByLine.{HasRead-next, HasRead-refused, HasRead-end}
use Rattle.nef_script.proofs.reader.parse.Goals as goal

pub returns-then-bytes-gt-SCRIPT_LIMIT-clause-refused : goal.returns-then-bytes-gt-SCRIPT_LIMIT-clause-refused
returns-then-bytes-gt-SCRIPT_LIMIT-clause-refused c = λ line k e.
    let at : 0 ≡ line = cc in
    let is : ScriptTooLong ≡ k = cc in
    subst (λ n. FirstRefusal c.args.bytes.now n k) at (subst (FirstRefusal c.args.bytes.now 0) is (FirstRefusal.too_long c.if-bytes-gt-SCRIPT_LIMIT.true))

pub loop-line-preserved : goal.loop-line-preserved
loop-line-preserved c =
    let before = c.loop-line.reader in
    let left = subst (λ l. HasRead (lines_of c.args.bytes.now) l (state before.names before.bound.items before.sets before.commands)) c.in-Some.ensures.steps c.loop-line.invariant.2 in
    (tt, tt, HasRead-next _ _ _ _ _ _ left c.in_ok-read_line.ensures.adds)

pub returns-in_err-read_line-clause-refused : goal.returns-in_err-read_line-clause-refused
returns-in_err-read_line-clause-refused c = λ line k e.
    let before = c.loop-line.reader in
    let left = subst (λ l. HasRead (lines_of c.args.bytes.now) l (state before.names before.bound.items before.sets before.commands)) c.in-Some.ensures.steps c.loop-line.invariant.2 in
    let gave = err_from_is_err_and c.from_residual.result c.from_residual.ensures.1 in
    let returned = sym gave.1 ∙ e in
    let given : gave.0 ≡ Refused line k = cc in
    let fault : c.read_line.result ≡ Err (Refused line k) = c.in_err-read_line.was ∙ ap Err (sym gave.2 ∙ given) in
    let refused = c.read_line.ensures.refused line k fault in
    subst (λ n. FirstRefusal c.args.bytes.now n k) (sym refused.0) (HasRead-refused c.args.bytes.now _ _ _ _ k c.if-bytes-gt-SCRIPT_LIMIT.false left refused.1)

pub returns : goal.returns
returns c =
    let after = c.loop-line.reader in
    let s = state after.names after.bound.items after.sets after.commands in
    let read = subst (λ l. HasRead (lines_of c.args.bytes.now) l s) c.in-None.ensures.steps.0 c.loop-line.invariant.2 in
    let ends = HasRead-end _ s read in
    let nodes = sym c.into_nodes.ensures.nodes in
    let origins = subst (λ (n : ℕ). AreOrigins after.sets.nodes after.sets.origins n) ends.2 (subst (λ (ns : List Node). AreOrigins ns after.sets.origins after.sets.bases) c.into_nodes.ensures.nodes c.into_nodes.ensures.origins) in
    record {
      script = (record { short = c.if-bytes-gt-SCRIPT_LIMIT.false; passes = ends.0 }, (sets_of s, nodes, c.into_nodes.ensures.ordered, ends.1, origins));
      turned = subst (λ (ns : List Node). All (TurnsRight ns) after.commands) nodes read.turns;
      in_range = subst (λ (ns : List Node). All (SpeaksOfFirst (length ns)) after.commands) nodes read.within;
      bound_before = subst (λ (ns : List Node). AreBoundBefore ns after.commands) nodes read.before;
      few = subst (λ (n : ℕ). length c.into_nodes.result ≤ 48 * n) ends.2 c.into_nodes.ensures.few;
      refused = λ line k e. cc;
    }
