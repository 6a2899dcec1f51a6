use Rattle.std.proofs.Common.{◌∙◌, refl, subst, sym, [], ◌∷◌, ◌++◌, inl, inr, None, List, ℕ}
use Rattle.std.specs.Io.KnownBytes.{Appends}
use Rattle.std.proofs.lemmas.List.Elements.{All-nil}
use Rattle.std.proofs.lemmas.Result.{err_from_is_err_and}
use Rattle.adc_line.specs.Frames.{lf}
use Rattle.adc_line.specs.Lines.{Reading}
use Rattle.hub_client.specs.Conversations.{IsGiven, IsNoWelcome, IsPrelude, IsSid}
use Rattle.hub_client.specs.Entries.{IsBadStatus}
use Rattle.hub_client.specs.Sayings.{support_text}
use Rattle.counted_io.specs.Calls.{inner_of}
use Rattle.hub_client.specs.Talks.{unheard}
use Rattle.hub_client.proofs.Conversations.{all-more, fails-after, given-anew, given-still, waits-from, waits-more}
use Rattle.hub_client.proofs.client.Client.hello.Goals as goal
use Rattle.hub_client.proofs.client.Client.hello.Goals.{then-is_info-2, else-is_info-2}

pub lines-init : goal.lines-init
lines-init g c =
    let said = subst (λ (text : List ℕ). Appends (g.S.Write.contents (inner_of c.args.self.now.stream)) (g.S.Write.contents (inner_of c.say.new.stream)) (text ++ lf ∷ [])) c.in_ok-support_line.ensures.exact c.in_ok-say.ensures.whole in (
      [],
      waits-from g.S.Read.remaining g.S.Write.contents c.args.self.now c.say.new.stream (support_text c.args.pinger) said,
      All-nil IsPrelude,
      inl (refl, All-nil (λ (line : Reading). IsSid line → ⊥)),
      refl,
      refl,
    )

pub returns-in_err-line-clause-fails : goal.returns-in_err-line-clause-fails
returns-in_err-line-clause-fails g c =
    let p = err_from_is_err_and c.from_residual-in_err-line.result c.from_residual-in_err-line.ensures.1 in
    let heard = c.lines.invariant in
    rw (p.1, p.2)
    (fails-after g.S.Read.remaining g.S.Write.contents IsPrelude IsNoWelcome IsBadStatus c.args.self.now c.lines.self c.hear_well.new.self
    (support_text c.args.pinger) heard.0 _ heard.1 heard.2 (λ line bad. inl bad) (λ line status bad. bad) c.in_err-line.ensures.fails)

pub returns-in_default-clause-fails : goal.returns-in_default-clause-fails
returns-in_default-clause-fails g c =
    let heard = c.lines.invariant in
    let given : IsGiven heard.0 None = subst (λ sid. IsGiven heard.0 sid) c.in_default.is heard.3 in
    inr (heard.0, unheard g.S.Read.remaining c.lines.self, c.in_ok-line.line, heard.1, heard.2, c.in_ok-line.ensures.heard, inr (c.if-is_info.ensures.yes refl, given))

pub lines-preserved : goal.lines-preserved
lines-preserved g c =
    let now = c.lines.self in
    let then = c.hear_well.new.self in
    let heard = c.lines.invariant in
    let line = c.in_ok-line.line in
    let waits =
    waits-more g.S.Read.remaining g.S.Write.contents c.args.self.now (support_text c.args.pinger) heard.0 (line ∷ []) (unheard g.S.Read.remaining now) (unheard g.S.Read.remaining then) heard.1
    c.in_ok-line.ensures.heard in
    let all = all-more IsPrelude heard.0 line heard.2 (c.if-is_info.ensures.no refl, c.in_ok-line.ensures.well) in
    let users = c.hear_well.ensures.users ∙ heard.4 in
    let gone = c.hear_well.ensures.gone ∙ heard.5 in
    elim c.if-is_info-2.branch [
      | then-is_info-2 w ↦ (heard.0 ++ line ∷ [], waits, all, given-anew heard.0 line c.if-is_info-2.sid (w.if-is_info-2.ensures.yes refl) (w.sid-is ∙ w.sid_in-sid.ensures), users, gone)
      | else-is_info-2 w ↦ (heard.0 ++ line ∷ [], waits, all, subst (λ sid. IsGiven (heard.0 ++ line ∷ []) sid) (sym w.sid-is) (given-still heard.0 line c.lines.sid heard.3 (w.if-is_info-2.ensures.no refl)), users, gone)
    ]
