use Rattle.nef_core.proofs.Prelude.{start}
use Rattle.nef_core.proofs.Counting.{claims_accounted, deposits_done, each_claim_accounted, each_deposit_done, once_at_most, held_is_claimed, done_is_claimed}
use Rattle.nef_core.proofs.machine.every_claim_is_accounted_for.Goals as goal

pub returns-clause-claims : goal.returns-clause-claims
returns-clause-claims c jobs w events h = claims_accounted jobs w events h

pub returns-clause-deposits : goal.returns-clause-deposits
returns-clause-deposits c jobs w events h = deposits_done jobs w events h

pub returns-clause-each_claim : goal.returns-clause-each_claim
returns-clause-each_claim c jobs w job events h = each_claim_accounted jobs w job events h

pub returns-clause-each_deposit : goal.returns-clause-each_deposit
returns-clause-each_deposit c jobs w job events h = each_deposit_done jobs w job events h

pub returns-clause-handed_out : goal.returns-clause-handed_out
returns-clause-handed_out c jobs job events h = once_at_most job (start jobs) events h

pub returns-clause-held : goal.returns-clause-held
returns-clause-held c jobs w job events h at = held_is_claimed jobs w job events h at

pub returns-clause-done : goal.returns-clause-done
returns-clause-done c jobs w job events h at = done_is_claimed jobs w job events h at
