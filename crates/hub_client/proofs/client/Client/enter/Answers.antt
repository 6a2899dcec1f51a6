use Rattle.std.proofs.Common.{◌∙◌, refl, sym, [], ◌∷◌, ◌++◌, None}
use Rattle.std.proofs.lemmas.List.{append-nil}
use Rattle.std.proofs.lemmas.List.Elements.{All-nil}
use Rattle.std.proofs.lemmas.Result.{err_from_is_err_and}
use Rattle.adc_line.specs.Lines.{Reading}
use Rattle.hub_client.specs.Conversations.{HearsEntry}
use Rattle.hub_client.specs.Entries.{IsLoginStep, IsLoginRefusal, is_user_line}
use Rattle.hub_client.specs.Talks.{unheard, users_of}
use Rattle.hub_client.proofs.Conversations.{all-more, fails-after, kept-more, waits-from, waits-more}
use Rattle.hub_client.proofs.client.Client.enter.Goals as goal

pub lines-init : goal.lines-init
lines-init g c =
    let self = c.args.self.now in
    record {
      heard = (
        [],
        waits-from g.S.Read.remaining g.S.Write.contents self c.say.new.stream c.args.login.now.text c.in_ok-say.ensures.whole,
        All-nil (λ (line : Reading). IsLoginStep line c.args.sid None),
        sym (append-nil (users_of self)),
      );
      gone = refl;
    }

pub returns-in_err-entry-clause-fails : goal.returns-in_err-entry-clause-fails
returns-in_err-entry-clause-fails g c =
    let p = err_from_is_err_and c.from_residual-in_err-entry.result c.from_residual-in_err-entry.ensures.1 in
    let heard = c.lines.invariant.heard in
    rw (p.1, p.2)
    (fails-after g.S.Read.remaining g.S.Write.contents (λ line. IsLoginStep line c.args.sid None) (λ _ last. IsLoginRefusal last) IsLoginRefusal c.args.self.now c.lines.self c.next_entry.new.self
    c.args.login.now.text heard.0 _ heard.1 heard.2 (λ line bad. bad) (λ line status bad. bad) c.in_err-entry.ensures.fails)

pub lines-preserved : goal.lines-preserved
lines-preserved g c =
    let self = c.args.self.now in
    let heard = c.lines.invariant.heard in
    let next : HearsEntry g.S.Read.remaining c.lines.self c.next_entry.new.self c.args.sid None = rw c.in_default.is at c.in_ok-entry.ensures.heard in
    record {
      heard = (
        heard.0 ++ next.0 ∷ [],
        waits-more g.S.Read.remaining g.S.Write.contents self c.args.login.now.text heard.0 (next.0 ∷ []) (unheard g.S.Read.remaining c.lines.self)
            (unheard g.S.Read.remaining c.next_entry.new.self) heard.1 next.1,
        all-more (λ line. IsLoginStep line c.args.sid None) heard.0 next.0 heard.2 next.2,
        kept-more is_user_line (users_of self) (users_of c.lines.self) (users_of c.next_entry.new.self) heard.0 (next.0 ∷ []) heard.3 next.3,
      );
      gone = c.next_entry.ensures.gone ∙ c.lines.invariant.gone;
    }
