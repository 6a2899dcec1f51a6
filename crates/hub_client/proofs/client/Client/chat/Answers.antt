use Rattle.std.proofs.Common.{◌∙◌, refl, [], ◌∷◌, ◌++◌, None}
use Rattle.std.proofs.lemmas.List.Elements.{All-nil}
use Rattle.std.proofs.lemmas.Result.{err_from_is_err_and}
use Rattle.adc_line.specs.Lines.{Reading}
use Rattle.hub_client.specs.Conversations.{IsEcho}
use Rattle.hub_client.specs.Entries.{IsBadStatus}
use Rattle.hub_client.specs.Talks.{HearsLines, unheard}
use Rattle.hub_client.proofs.Conversations.{all-more, fails-after, waits-from, waits-more}
use Rattle.hub_client.proofs.client.Client.chat.Goals as goal

pub lines-init : goal.lines-init
lines-init g c = (
  [],
  waits-from g.S.Read.remaining g.S.Write.contents c.args.self.now c.say.new.stream c.args.line.now.text c.in_ok-say.ensures.whole,
  All-nil (λ (heard : Reading). IsEcho c.args.line.now.text heard None),
  refl,
  refl,
)

pub returns-in_err-hears_echo-clause-fails : goal.returns-in_err-hears_echo-clause-fails
returns-in_err-hears_echo-clause-fails g c =
    let p = err_from_is_err_and c.from_residual-in_err-hears_echo.result c.from_residual-in_err-hears_echo.ensures.1 in
    let heard = c.lines.invariant in
    rw (p.1, p.2)
    (fails-after g.S.Read.remaining g.S.Write.contents (λ heard. IsEcho c.args.line.now.text heard None) (λ _ last. IsBadStatus last) IsBadStatus c.args.self.now c.lines.self c.hears_echo.new.self
    c.args.line.now.text heard.0 _ heard.1 heard.2 (λ line bad. bad) (λ line status bad. bad) c.in_err-hears_echo.ensures.fails)

pub lines-preserved : goal.lines-preserved
lines-preserved g c =
    let now = c.lines.self in
    let then = c.hears_echo.new.self in
    let text = c.args.line.now.text in
    let heard = c.lines.invariant in
    let next : (line : Reading) × HearsLines (unheard g.S.Read.remaining now) (unheard g.S.Read.remaining then) (line ∷ []) × IsEcho text line None = rw c.if-branch.false at c.in_ok-hears_echo.ensures.heard in (
      heard.0 ++ next.0 ∷ [],
      waits-more g.S.Read.remaining g.S.Write.contents c.args.self.now text heard.0 (next.0 ∷ []) (unheard g.S.Read.remaining now) (unheard g.S.Read.remaining then) heard.1 next.1,
      all-more (λ line. IsEcho text line None) heard.0 next.0 heard.2 next.2,
      c.hears_echo.ensures.users ∙ heard.3,
      c.hears_echo.ensures.gone ∙ heard.4,
    )
