use Rattle.std.proofs.Common.{refl}
use Rattle.adc_sessions.proofs.Polls.{bell_call, did_on_bell}
use Rattle.adc_sessions.proofs.running.Live.listen.Goals as goal

pub returns-clause-acts : goal.returns-clause-acts
returns-clause-acts g c = bell_call _ _ _ _ _ _ (did_on_bell _ _ _ _ _ _ c.wait.ensures.heard refl refl refl refl refl refl refl refl (tt {0}))
