use Rattle.law_geometry.proofs.near.Prelude.{nought-is, form_at}
use Rattle.law_geometry.proofs.near.Near.{keeps, keeps-all, form-step, ray-keeps, ray-level, difference, slope-toward}
use Rattle.law_geometry.proofs.near.Far.{far-keeps, far-level}
use Rattle.law_geometry.proofs.near.forms.near_form_laws.Goals as goal

pub returns-clause-stable : goal.returns-clause-stable
returns-clause-stable c = λ h p q f w. keeps h p q w (λ e. f (nought-is (form_at h p) e))

pub returns-clause-stable_list : goal.returns-clause-stable_list
returns-clause-stable_list c = keeps-all

pub returns-clause-stable_far : goal.returns-clause-stable_far
returns-clause-stable_far c = λ hs p e k l. (far-keeps hs p e k l, far-level hs p e k l)

pub returns-clause-ray_form : goal.returns-clause-ray_form
returns-clause-ray_form c = form-step

pub returns-clause-ray_keeps : goal.returns-clause-ray_keeps
returns-clause-ray_keeps c = λ h p t d f s. ray-keeps h p t d s f

pub returns-clause-ray_turns : goal.returns-clause-ray_turns
returns-clause-ray_turns c = λ h p t d z s. ray-level h p t d s z

pub returns-clause-difference_leads : goal.returns-clause-difference_leads
returns-clause-difference_leads c = difference

pub returns-clause-difference_slope : goal.returns-clause-difference_slope
returns-clause-difference_slope c = slope-toward
