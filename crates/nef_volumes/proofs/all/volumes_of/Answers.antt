use Rattle.nef_volumes.proofs.Prelude.{arith, ℕ, subst, sym, ◌∙◌, complex_of, HaveVolumes}
use Rattle.nef_volumes.proofs.ShellRows.{some-rows, rows-named, shells-below}
use Rattle.nef_volumes.proofs.ShellParts.{have-volumes, row-shells}
use Rattle.nef_volumes.proofs.all.volumes_of.Goals as goal

pub gathered-requires : goal.gathered-requires
gathered-requires c =
    let C = complex_of c.args.c.now in
    let R = c.in_ok-rows.ensures.rows in
    record { some = some-rows C c.in_ok-rows.rows R; names = rows-named C c.in_ok-rows.rows R }

pub volume_numbers-requires-clause-below : goal.volume_numbers-requires-clause-below
volume_numbers-requires-clause-below c = λ x n h.
    let l = shells-below (complex_of c.args.c.now) c.in_ok-rows.rows c.in_ok-rows.ensures.rows c.in_ok-sides.sides.items c.in_ok-sides.ensures.gathered x n h in
    let f = c.in_ok-sides.sides.ok in
    omega arith

pub volume_shells-requires : goal.volume_shells-requires
volume_shells-requires c =
    let C = complex_of c.args.c.now in
    record {
      volumes = subst (λ (n : ℕ). HaveVolumes c.in_ok-volume_of.volume_of n c.in_ok-sides.sides.items) (sym c.len-2.ensures.len)
          (have-volumes C c.in_ok-rows.rows c.in_ok-rows.ensures.rows c.in_ok-sides.sides.items c.in_ok-sides.ensures.gathered c.in_ok-volume_of.volume_of c.in_ok-volume_of.ensures.numbers c.in_ok-labels.labels c.in_ok-labels.ensures.labels);
    }

pub returns : goal.returns
returns c = record {
  volumes = record {
    sfaces = c.requires.sfaces;
    numbers = c.in_ok-volume_of.ensures.numbers;
    labels = c.in_ok-labels.ensures.labels;
    as_many = c.in_ok-shells.ensures.as_many ∙ c.len-2.ensures.len;
    shells = row-shells (complex_of c.args.c.now) c.in_ok-rows.rows c.in_ok-rows.ensures.rows c.in_ok-sides.sides.items c.in_ok-sides.ensures.gathered c.in_ok-volume_of.volume_of c.in_ok-volume_of.ensures.numbers
        c.in_ok-shells.shells c.in_ok-shells.ensures.shells;
  };
}
