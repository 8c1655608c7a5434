use Rattle.nef_smap.proofs.Prelude.{sym, ◌∙◌}
use Rattle.nef_smap.proofs.LargeNumbers.{times-minus, times-zero, times-plus}
use Rattle.nef_smap.proofs.meets.sign_at_meet.Goals as goal

pub returns-in-Zero : goal.returns-in-Zero
returns-in-Zero c = record { sign = λ j k l. times-zero _ _ (sym c.in-Zero.is ∙ c.sign.ensures.sign j l.first) }

pub returns-in-Plus : goal.returns-in-Plus
returns-in-Plus c = record { sign = λ j k l. times-plus _ _ c.turn_sign-turn.result (sym c.in-Plus.is ∙ c.sign.ensures.sign j l.first) (c.turn_sign-turn.ensures.sign j k l) }

pub returns-in-Minus : goal.returns-in-Minus
returns-in-Minus c = record { sign = λ j k l. times-minus _ _ c.turn_sign-turn.result c.opposite.result (sym c.in-Minus.is ∙ c.sign.ensures.sign j l.first) (c.turn_sign-turn.ensures.sign j k l) c.opposite.ensures.opposite }
