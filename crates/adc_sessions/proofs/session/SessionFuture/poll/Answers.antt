use Rattle.std.proofs.Common.{◌≡◌, ap, ◌∙◌}
use Rattle.adc_sessions.proofs.Steps.{Gives-append}
use Rattle.adc_sessions.proofs.Polls.{PollEnds-left, finishes_of, moves_of}
use Rattle.adc_sessions.proofs.session.SessionFuture.poll.Goals as goal

pub returns-in-Pending-clause-same : goal.returns-in-Pending-clause-same
returns-in-Pending-clause-same g c = λ out gives.
    let polled = c.in-Pending.ensures.polled in
    rw c.in-Some.is (Gives-append _ _ g.P.Port.leaves 64 _ _ out.0 out.1 out.2 (_, moves_of _ _ _ polled.0 _ _ polled.1, polled.2, polled.3) gives)

pub returns-in-Some-take-clause-value : goal.returns-in-Some-take-clause-value
returns-in-Some-take-clause-value g c =
    let same : c.in-Some-take.live ≡ c.run.new.self = cc in
    let ends = PollEnds-left _ _ _ 64 _ c.in-Ready.end _ _ _ c.in-Some-take.live.port c.in-Ready.ensures.polled (c.leave-stream.ensures.stream ∙ ap (λ live. live.stream) same) (ap (λ live. live.port) same) in
    rw c.in-Some.is (64, c.in-Some-take.live.port, finishes_of _ _ _ 64 _ c.in-Ready.end _ _ ends, c.leave-stream.ensures.left)

pub returns-in-Some-take-clause-ends_in_few : goal.returns-in-Some-take-clause-ends_in_few
returns-in-Some-take-clause-ends_in_few g c =
    let same : c.in-Some-take.live ≡ c.run.new.self = cc in
    let ends = PollEnds-left _ _ _ 64 _ c.in-Ready.end _ _ _ c.in-Some-take.live.port c.in-Ready.ensures.polled (c.leave-stream.ensures.stream ∙ ap (λ live. live.stream) same) (ap (λ live. live.port) same) in
    rw c.in-Some.is (c.in-Some-take.live.port, ends, c.leave-stream.ensures.left)
