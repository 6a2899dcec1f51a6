use Rattle.inf_fields.proofs.Tallies.{Tally}
use Rattle.inf_fields.proofs.fields.Fields.fits.Given as goal

abbrev pub invariant-loop-name : goal.invariant-loop-name
invariant-loop-name l = Tally l.fn.self l.fn.update l.name-iterator l.added l.taken
