-- A call is made of a connection that was found, and what follows of its reply.
use Rattle.std.proofs.Common.{◌≡◌, ◌∙◌, ap, ap₂, refl, sym, subst, ℕ, List, ◌∷◌}
use Rattle.std.specs.Prelude.{Some}
use Rattle.history_check.specs.declared.check.Demand.TheVariants.{Gives}
use Rattle.history_check.specs.declared.check.Joined.{Joined}
use Rattle.history_check.specs.declared.written.WrittenEntry as written
use Rattle.history_check.specs.declared.written.WrittenReply as written_reply
use Rattle.history_check.specs.Following.{FollowsHistory, FoundAs, IsSaidLine, MadeAs}
use Rattle.history_check.specs.Judged.{Demands}
use Rattle.history_check.specs.Written.{call_of, reply_of}
use Rattle.history_check.proofs.KeptJoins.{follows-on, line-kept, quit-kept, take-kept}
use Rattle.hub_core.specs.CoreState.{CoreState}
use Rattle.hub_core.specs.Moves.{LineMoves, Moves, StandsAt, entry}
use Rattle.hub_rules.specs.declared.history.Call.{Call}
use Rattle.hub_rules.specs.declared.history.Call.TheVariants.{Line, Quit, Take}
use Rattle.hub_rules.specs.declared.history.Entry.{Entry}
use Rattle.hub_rules.specs.declared.history.Reply.{Reply}
use Rattle.hub_rules.specs.declared.history.Reply.TheVariants.{Left, Said}
use Rattle.hub_rules.specs.declared.history.Verdict.{Verdict}
use Rattle.hub_rules.specs.Configured.{Configured}
use Rattle.hub_rules.specs.Facts.{facts}
use Rattle.hub_rules.specs.Legal.{IsOpenFor, Legal, MayCall, reply}
use Rattle.hub_rules.specs.Prepared.{prepared_line}
use Rattle.hub_rules.specs.Views.{PreparedLine}

prepared-bytes : (setup : Configured) (hash : List ℕ → List ℕ) (challenge bytes : List ℕ) → (prepared_line setup hash challenge bytes).bytes ≡ bytes
unfolding prepared_line
prepared-bytes setup hash challenge bytes = refl

pub line-said : (setup : Configured) (hash : List ℕ → List ℕ) (old new : CoreState) (c : ℕ) (line : PreparedLine) (challenge bytes : List ℕ) (now : ℕ) (verdict : Verdict)
    → LineMoves old c line now verdict new → line ≡ prepared_line setup hash challenge bytes → (h : List Entry) (caller : ℕ) → StandsAt setup hash h old
    → MayCall (facts setup hash h) caller (Line c bytes now) → challenge ≡ ((facts setup hash h).about c).sender.challenge
    → StandsAt setup hash (entry caller (Line c bytes now) (Said verdict) ∷ h) new
line-said setup hash old new c line challenge bytes now verdict moves is h caller at may given =
    let same : line.bytes ≡ bytes = ap (λ (l : PreparedLine). l.bytes) is ∙ prepared-bytes setup hash challenge bytes in
    subst (λ b. StandsAt setup hash (entry caller (Line c b now) (Said verdict) ∷ h) new) same
    (moves setup hash h caller at may (is ∙ ap₂ (prepared_line setup hash) given (sym same)))

pub made-line : (setup : Configured) (hash : List ℕ → List ℕ) (h : List Entry) (old new : CoreState) (joined : List Joined) (caller c : ℕ) (bytes : List ℕ) (now : ℕ) (found : Joined) (said : written_reply.WrittenReply)
    → FollowsHistory setup hash h old joined → FoundAs (facts setup hash h) caller c (Some found) → IsSaidLine setup hash found.connection found.challenge bytes now said old new
    → MadeAs setup hash h caller (Line c bytes now) (Some said) new joined
made-line setup hash h old new joined caller c bytes now found said follows at is =
    let stands : StandsAt setup hash (entry caller (Line found.connection bytes now) (reply_of said) ∷ h) new =
    is h caller follows.stands (subst (λ n. IsOpenFor (facts setup hash h) caller n) (sym at.1) at.0)
    (at.2 ∙ ap (λ n. ((facts setup hash h).about n).sender.challenge) (sym at.1)) in (
      at.0,
      follows-on setup hash h old new joined caller (Line c bytes now) (reply_of said) (line-kept setup hash (facts setup hash h) caller c bytes now) follows
          (subst (λ n. StandsAt setup hash (entry caller (Line n bytes now) (reply_of said) ∷ h) new) at.1 stands),
    )

pub made-quit : (setup : Configured) (hash : List ℕ → List ℕ) (h : List Entry) (old new : CoreState) (joined : List Joined) (caller c : ℕ) (found : Joined) (said : written_reply.WrittenReply)
    → FollowsHistory setup hash h old joined → FoundAs (facts setup hash h) caller c (Some found) → reply_of said ≡ Left → Moves old (Quit found.connection) Left new
    → MadeAs setup hash h caller (Quit c) (Some said) new joined
made-quit setup hash h old new joined caller c found said follows at is moves =
    let stands : StandsAt setup hash (entry caller (Quit found.connection) Left ∷ h) new =
    moves setup hash h caller follows.stands (subst (λ n. IsOpenFor (facts setup hash h) caller n) (sym at.1) at.0) in (
      at.0,
      follows-on setup hash h old new joined caller (Quit c) (reply_of said) (quit-kept setup hash (facts setup hash h) caller c) follows
          (subst (λ (r : Reply). StandsAt setup hash (entry caller (Quit c) r ∷ h) new) (sym is)
          (subst (λ n. StandsAt setup hash (entry caller (Quit n) Left ∷ h) new) at.1 stands)),
    )

pub made-take : (setup : Configured) (hash : List ℕ → List ℕ) (h : List Entry) (old new : CoreState) (joined : List Joined) (caller c count : ℕ) (found : Joined) (said : written_reply.WrittenReply)
    → FollowsHistory setup hash h old joined → FoundAs (facts setup hash h) caller c (Some found) → Moves old (Take found.connection count) (reply_of said) new
    → MadeAs setup hash h caller (Take c count) (Some said) new joined
made-take setup hash h old new joined caller c count found said follows at moves =
    let stands : StandsAt setup hash (entry caller (Take found.connection count) (reply_of said) ∷ h) new =
    moves setup hash h caller follows.stands (subst (λ n. IsOpenFor (facts setup hash h) caller n) (sym at.1) at.0) in (
      at.0,
      follows-on setup hash h old new joined caller (Take c count) (reply_of said) (take-kept setup hash (facts setup hash h) caller c count) follows
          (subst (λ n. StandsAt setup hash (entry caller (Take n count) (reply_of said) ∷ h) new) at.1 stands),
    )

-- ---- the reply that the rules demand

legal-reply : (setup : Configured) (hash : List ℕ → List ℕ) (h : List Entry) (caller : ℕ) (call : Call) (r : Reply) → Legal setup hash (entry caller call r ∷ h)
    → r ≡ reply setup hash (facts setup hash h) caller call
unfolding Legal
legal-reply setup hash h caller call r legal = legal.2

pub demands-other : (setup : Configured) (hash : List ℕ → List ℕ) (h : List Entry) (e : written.WrittenEntry) (said : written_reply.WrittenReply) (new : CoreState) (joined : List Joined)
    → MadeAs setup hash h e.caller (call_of e.call) (Some said) new joined → (reply_of e.reply ≡ reply_of said → ⊥) → Demands setup hash h e (Gives said)
demands-other setup hash h e said new joined made other = (made.0, legal-reply setup hash h e.caller (call_of e.call) (reply_of said) made.1.stands.legal, other)
