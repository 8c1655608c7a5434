use Rattle.law_geometry.proofs.turns.Prelude.{unturned_point}
use Rattle.law_geometry.proofs.turns.Points.{form-turned, slope-turned, step-turned, toward-turned, ahead-turned, between-turned, same_point-turned, within-turned, frame-turned, point-back}
use Rattle.law_geometry.proofs.turns.laws.place_laws.Goals as goal

pub returns-clause-forms : goal.returns-clause-forms
returns-clause-forms c = form-turned

pub returns-clause-slopes : goal.returns-clause-slopes
returns-clause-slopes c = slope-turned

pub returns-clause-steps : goal.returns-clause-steps
returns-clause-steps c = step-turned

pub returns-clause-ways : goal.returns-clause-ways
returns-clause-ways c = toward-turned

pub returns-clause-ahead : goal.returns-clause-ahead
returns-clause-ahead c = ahead-turned

pub returns-clause-between : goal.returns-clause-between
returns-clause-between c = between-turned

pub returns-clause-same_places : goal.returns-clause-same_places
returns-clause-same_places c = same_point-turned

pub returns-clause-nearby : goal.returns-clause-nearby
returns-clause-nearby c = within-turned

pub returns-clause-frame : goal.returns-clause-frame
returns-clause-frame c = frame-turned

pub returns-clause-all : goal.returns-clause-all
returns-clause-all c = λ k q. (unturned_point k q, point-back k q)
