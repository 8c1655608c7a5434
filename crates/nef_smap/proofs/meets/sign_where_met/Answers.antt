use Rattle.nef_smap.proofs.Prelude.{◌^◌, ap, ◌∙◌, sign_of, wide_vector}
use Rattle.nef_smap.proofs.MeetSigns.{meet-value}
use Rattle.nef_smap.proofs.meets.sign_where_met.Goals as goal

pub sign_at_meet-requires-clause-g_small : goal.sign_at_meet-requires-clause-g_small
sign_at_meet-requires-clause-g_small c = c.form_values.ensures.small (2 ^ 35) c.requires.g_small

pub returns : goal.returns
returns c = record {
  sign = λ m j k h l. c.sign_at_meet.ensures.sign j k l ∙ ap sign_of (meet-value c.args.way.now m (wide_vector c.args.g.now) c.args.n.now c.form_values.result j k h c.form_values.ensures.values);
}
