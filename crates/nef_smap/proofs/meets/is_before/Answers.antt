use Rattle.nef_smap.proofs.Prelude.{◌*ℤ◌, linear_at, turn_value}
use Rattle.nef_smap.proofs.MeetSigns.{turned-less}
use Rattle.nef_smap.proofs.meets.is_before.Goals as goal

pub returns : goal.returns
returns c = record {
  before = λ j k large.
      let n = c.args.n.now in
      let f = c.args.first.now in
      let o = c.is_opposite_to.ensures.product _ _ (c.opposite-turned.ensures.opposite _ (c.sign.ensures.sign j large.first)) (c.sign_at_meet.ensures.sign j k large) in
      let t = turned-less (linear_at f.start j) (linear_at n.start j *ℤ turn_value n f j k) in
      (λ h. t.0 (o.0 h), λ h. o.1 (t.1 h));
}
