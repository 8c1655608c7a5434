use Rattle.nef_lex.proofs.LineLaws.{pieces_of_ended, ended_pieces, return_dropped, others_kept}
use Rattle.nef_lex.proofs.word.line_laws.Goals as goal

pub returns : goal.returns
returns c = record {
  pieces_of_ended = pieces_of_ended;
  ended_pieces = ended_pieces;
  return_dropped = return_dropped;
  others_kept = others_kept;
}
