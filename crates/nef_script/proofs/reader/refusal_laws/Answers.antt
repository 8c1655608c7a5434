use Rattle.nef_script.proofs.RefusalLaws.{one_refusal, never_both, decided, commands_found}
use Rattle.nef_script.proofs.reader.refusal_laws.Goals as goal

pub returns : goal.returns
returns c = record { one = one_refusal; never_both = never_both; decided = decided; commands = commands_found }
