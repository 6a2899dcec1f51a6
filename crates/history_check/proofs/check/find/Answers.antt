use Rattle.std.proofs.Common.{◌∙◌, sym}
use Rattle.std.proofs.lemmas.Bool.{false≢true}
use Rattle.history_check.proofs.FoundCallers.{at-place, found-open, none-closed, none-later, none-of-zero}
use Rattle.history_check.proofs.check.find.Goals as goal

pub returns-then-connection-eq0-clause-finds : goal.returns-then-connection-eq0-clause-finds
returns-then-connection-eq0-clause-finds c = λ setup hash h follows. none-of-zero setup hash h c.args.caller c.args.connection c.if-connection-eq0.true

pub returns-then-place-joined-clause-finds : goal.returns-then-place-joined-clause-finds
returns-then-place-joined-clause-finds c = λ setup hash h follows.
    none-later setup hash h c.args.core.now c.args.joined.now c.args.caller c.args.connection follows c.if-connection-eq0.false c.if-place-joined.true

pub returns-then-not-is_open-clause-finds : goal.returns-then-not-is_open-clause-finds
returns-then-not-is_open-clause-finds c = λ setup hash h follows.
    none-closed setup hash h c.args.core.now c.args.caller c.args.connection c.index-joined-place.result follows.stands
    (at-place setup hash h c.args.core.now c.args.joined.now c.args.connection c.index-joined-place.result follows c.if-connection-eq0.false c.if-place-joined.false c.index-joined-place.is)
    (λ here. false≢true (sym c.if-not-is_open.true ∙ c.is_open.ensures.1 here))

pub returns-clause-finds : goal.returns-clause-finds
returns-clause-finds c = λ setup hash h follows.
    found-open setup hash h c.args.core.now c.args.caller c.args.connection c.index-joined-place.result follows.stands
    (at-place setup hash h c.args.core.now c.args.joined.now c.args.connection c.index-joined-place.result follows c.if-connection-eq0.false c.if-place-joined.false c.index-joined-place.is)
    c.if-found-caller.false (c.is_open.ensures.0 c.if-not-is_open.false)
