use Rattle.std.proofs.Common.{sym, [], ◌∷◌, ◌++◌, None}
use Rattle.std.proofs.lemmas.List.{append-nil}
use Rattle.std.proofs.lemmas.List.Elements.{All-nil}
use Rattle.std.proofs.lemmas.Result.{err_from_is_err_and}
use Rattle.adc_line.specs.Lines.{Reading}
use Rattle.hub_client.specs.Conversations.{HearsAnswer}
use Rattle.hub_client.specs.Entries.{IsAnswer, IsBadStatus, is_quit_line, is_user_line}
use Rattle.hub_client.specs.Talks.{gone_of, unheard, users_of}
use Rattle.hub_client.proofs.Conversations.{all-more, fails-after, kept-more, waits-from, waits-more}
use Rattle.hub_client.proofs.client.Client.ask.Goals as goal

pub lines-init : goal.lines-init
lines-init g c =
    let self = c.args.self.now in (
      [],
      waits-from g.S.Read.remaining g.S.Write.contents self c.say.new.stream c.args.line.now.text c.in_ok-say.ensures.whole,
      All-nil (λ (line : Reading). IsAnswer line None),
      sym (append-nil (users_of self)),
      sym (append-nil (gone_of self)),
    )

pub returns-in_err-status-clause-fails : goal.returns-in_err-status-clause-fails
returns-in_err-status-clause-fails g c =
    let p = err_from_is_err_and c.from_residual-in_err-status.result c.from_residual-in_err-status.ensures.1 in
    let heard = c.lines.invariant in
    rw (p.1, p.2)
    (λ other. fails-after g.S.Read.remaining g.S.Write.contents (λ line. IsAnswer line None) (λ _ last. IsBadStatus last) IsBadStatus c.args.self.now c.lines.self c.next_answer.new.self
    c.args.line.now.text heard.0 _ heard.1 heard.2 (λ line bad. bad) (λ line status bad. bad) (c.in_err-status.ensures.fails other))

pub lines-preserved : goal.lines-preserved
lines-preserved g c =
    let self = c.args.self.now in
    let now = c.lines.self in
    let then = c.next_answer.new.self in
    let heard = c.lines.invariant in
    let next : HearsAnswer g.S.Read.remaining now then None = rw c.in_default.is at c.in_ok-status.ensures.heard in (
      heard.0 ++ next.0 ∷ [],
      waits-more g.S.Read.remaining g.S.Write.contents self c.args.line.now.text heard.0 (next.0 ∷ []) (unheard g.S.Read.remaining now) (unheard g.S.Read.remaining then) heard.1 next.1,
      all-more (λ line. IsAnswer line None) heard.0 next.0 heard.2 next.2,
      kept-more is_user_line (users_of self) (users_of now) (users_of then) heard.0 (next.0 ∷ []) heard.3 next.3,
      kept-more is_quit_line (gone_of self) (gone_of now) (gone_of then) heard.0 (next.0 ∷ []) heard.4 next.4,
    )
