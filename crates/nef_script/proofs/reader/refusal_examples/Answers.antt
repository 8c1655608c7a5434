use Rattle.nef_script.proofs.RefusalExamples.{unknown_command, word_count, bad_name, name_taken, unknown_name, own_name, not_a_number, zero_normal, bad_mode, out_of_range, bad_weight, zero_direction, long_direction, outlying_point, first_line, accepted}
use Rattle.nef_script.proofs.reader.refusal_examples.Goals as goal

pub returns : goal.returns
returns c = record {
  unknown_command = unknown_command;
  word_count = word_count;
  bad_name = bad_name;
  name_taken = name_taken;
  unknown_name = unknown_name;
  own_name = own_name;
  not_a_number = not_a_number;
  zero_normal = zero_normal;
  bad_mode = bad_mode;
  out_of_range = out_of_range;
  bad_weight = bad_weight;
  zero_direction = zero_direction;
  long_direction = long_direction;
  far_point = outlying_point;
  first_line = first_line;
  accepted = accepted;
}
