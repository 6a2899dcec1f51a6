use Rattle.std.proofs.Common.{refl}
use Rattle.adc_sessions.proofs.Polls.{bell_call, did_on_bell}
use Rattle.adc_sessions.proofs.running.Live.is_held.Goals as goal

pub returns-clause-acts : goal.returns-clause-acts
returns-clause-acts g c = bell_call _ _ _ _ _ _ (did_on_bell _ _ _ _ _ _ c.may_hand-may_hand.ensures refl refl refl refl refl refl refl refl c.unread.ensures)
