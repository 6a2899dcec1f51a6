-- A caller's turn: it takes the hub, which stands at a history that it then has seen, and gives it back.
use Rattle.std.proofs.Common.{◌≡◌, ◌∙◌, sym, ap, ap₂, subst, ℕ, true, false, List, ◌∷◌}
use Rattle.std.proofs.Math.Seq.{drop-append_seam}
use Rattle.outboxes.specs.declared.taken.Taken.{Taken}
use Rattle.one_history.specs.Histories.{Begins}
use Rattle.one_history.specs.States.{LockState, SeatState}
use Rattle.hub_core.specs.declared.share.Touched.{Touched}
use Rattle.hub_core.specs.CoreState.{CoreState}
use Rattle.hub_core.specs.Moves.{LineMoves, Moves, StandsAt, entry}
use Rattle.hub_core.specs.Promises.{TakeMoves}
use Rattle.hub_core.specs.State.{IsSeated, Stands, has_seat}
use Rattle.hub_core.specs.TouchedSids.{LineTouches, NamesConcerned, Touches}
use Rattle.hub_core.proofs.OpenSeats.{seated-open}
use Rattle.hub_rules.specs.declared.history.Call.{Call}
use Rattle.hub_rules.specs.declared.history.Call.TheVariants.{Line, Take}
use Rattle.hub_rules.specs.declared.history.Entry.{Entry}
use Rattle.hub_rules.specs.declared.history.Reply.{Reply}
use Rattle.hub_rules.specs.declared.history.Reply.TheVariants.{Said, Took}
use Rattle.hub_rules.specs.declared.history.Verdict.{Verdict}
use Rattle.hub_rules.specs.Configured.{Configured}
use Rattle.hub_rules.specs.Facts.{facts}
use Rattle.hub_rules.specs.Legal.{IsOpenFor, MayCall}
use Rattle.hub_rules.specs.Prepared.{prepared_line}
use Rattle.hub_rules.specs.Views.{PreparedLine}
use Rattle.hub_shared.specs.declared.hub_key.HubKey.{HubKey}
use Rattle.hub_shared.specs.Callers.{HubState, PassState, hub_of, pass_of}
use Rattle.hub_shared.specs.Calls.{behind}
use Rattle.hub_shared.specs.Connections.{challenge_in, entries_of, has_stayed}
use Rattle.hub_shared.proofs.Known.{is-mine}

-- a hub has a seat for each connection that its caller's own calls show open
pub has-seat : (setup : Configured) (hash : List ℕ → List ℕ) (h mine : List Entry) (core : CoreState) (p c : ℕ) → StandsAt setup hash h core → entries_of p h ≡ mine
    → has_stayed c mine ≡ true → IsSeated c core
unfolding Stands
has-seat setup hash h mine core p c at are stays =
    ap (λ (s : CoreState). has_seat c s.seats) at.stands ∙ seated-open c (facts setup hash h).about (facts setup hash h).opened
    ∙ (is-mine setup hash h mine p c at.legal are stays).may.0

-- a line of one's own connection, made ready with the challenge of its join
pub line-stands : (setup : Configured) (hash : List ℕ → List ℕ) (h mine : List Entry) (core new : CoreState) (p c : ℕ) (line : PreparedLine) (now : ℕ) (verdict : Verdict)
    → StandsAt setup hash h core → entries_of p h ≡ mine → has_stayed c mine ≡ true
    → line ≡ prepared_line setup hash (challenge_in c mine) line.bytes → LineMoves core c line now verdict new
    → StandsAt setup hash (entry p (Line c line.bytes now) (Said verdict) ∷ h) new
line-stands setup hash h mine core new p c line now verdict at are stays is_line moves =
    let own = is-mine setup hash h mine p c at.legal are stays in
    moves setup hash h p at own.may (is_line ∙ ap (λ x. prepared_line setup hash x line.bytes) (sym own.challenge))

-- whom it concerned is named
pub line-names : (setup : Configured) (hash : List ℕ → List ℕ) (h mine : List Entry) (core new : CoreState) (p c : ℕ) (line : PreparedLine) (now : ℕ) (reply : Reply)
    → StandsAt setup hash h core → entries_of p h ≡ mine → has_stayed c mine ≡ true
    → line ≡ prepared_line setup hash (challenge_in c mine) line.bytes → LineTouches core c line now new
    → NamesConcerned new.touched setup hash (entry p (Line c line.bytes now) reply ∷ h)
line-names setup hash h mine core new p c line now reply at are stays is_line touches =
    let own = is-mine setup hash h mine p c at.legal are stays in
    touches setup hash h p reply at own.may (is_line ∙ ap (λ x. prepared_line setup hash x line.bytes) (sym own.challenge))

-- another call of one's own connection
pub own-call : (setup : Configured) (hash : List ℕ → List ℕ) (h mine : List Entry) (core new : CoreState) (p c : ℕ) (call : Call) (reply : Reply)
    → StandsAt setup hash h core → entries_of p h ≡ mine → has_stayed c mine ≡ true → (IsOpenFor (facts setup hash h) p c → MayCall (facts setup hash h) p call)
    → Moves core call reply new → StandsAt setup hash (entry p call reply ∷ h) new
own-call setup hash h mine core new p c call reply at are stays named moves = moves setup hash h p at (named (is-mine setup hash h mine p c at.legal are stays).may)

pub own-names : (setup : Configured) (hash : List ℕ → List ℕ) (h mine : List Entry) (core new : CoreState) (p c : ℕ) (call : Call) (reply : Reply)
    → StandsAt setup hash h core → entries_of p h ≡ mine → has_stayed c mine ≡ true → (IsOpenFor (facts setup hash h) p c → MayCall (facts setup hash h) p call)
    → Touches core call new → NamesConcerned new.touched setup hash (entry p call reply ∷ h)
own-names setup hash h mine core new p c call reply at are stays named touches = touches setup hash h p reply at (named (is-mine setup hash h mine p c at.legal are stays).may)

pub take-stands : (setup : Configured) (hash : List ℕ → List ℕ) (h mine : List Entry) (core new : CoreState) (p c count : ℕ) (taken : Taken) (before after was is : List ℕ) → before ≡ was → after ≡ is
    → StandsAt setup hash h core → entries_of p h ≡ mine → has_stayed c mine ≡ true → TakeMoves taken c count was is core new
    → StandsAt setup hash (entry p (Take c count) (Took (behind before after) taken.lines taken.ended) ∷ h) new
take-stands setup hash h mine core new p c count taken before after was is is_before is_after at are stays moves =
    let bytes : moves.0 ≡ behind before after = sym (ap₂ behind is_before (is_after ∙ moves.1) ∙ drop-append_seam was moves.0) in
    subst (λ bytes. StandsAt setup hash (entry p (Take c count) (Took bytes taken.lines taken.ended) ∷ h) new) bytes
    (own-call setup hash h mine core new p c (Take c count) (Took moves.0 taken.lines taken.ended) at are stays (λ may. may) moves.2)

module _ {H : Type 0} where
  -- the seat that took the hub
  pub record Takes (old taken : SeatState Entry (HubKey H)) : Type 0 where
    pub seat : taken ≡ record old { seen = taken.seen; holds = true }
    pub begins : Begins taken.seen old.seen
    pub own : entries_of taken.number taken.seen ≡ old.mine

  -- the seat that gave it back with an entry
  pub record Gives (e : Entry) (taken new : SeatState Entry (HubKey H)) : Type 0 where
    pub seat : new ≡ record taken { seen = e ∷ taken.seen; mine = e ∷ taken.mine; holds = false }
    pub own : entries_of new.number new.seen ≡ new.mine

  pub takes : (old taken : SeatState Entry (HubKey H)) → taken ≡ record old { seen = taken.seen; holds = true } → Begins taken.seen old.seen → entries_of old.number taken.seen ≡ old.mine
      → Takes old taken
  takes old taken seat begins own =
      record { seat = seat; begins = begins; own = ap (λ p. entries_of p taken.seen) (ap (λ (s : SeatState Entry (HubKey H)). s.number) seat) ∙ own }

  taken-mine : (old taken : SeatState Entry (HubKey H)) → Takes old taken → taken.mine ≡ old.mine
  taken-mine old taken t = ap (λ (s : SeatState Entry (HubKey H)). s.mine) t.seat

  pub given-mine : (e : Entry) (old taken new : SeatState Entry (HubKey H)) → Takes old taken → Gives e taken new → new.mine ≡ e ∷ old.mine
  given-mine e old taken new t g = ap (λ (s : SeatState Entry (HubKey H)). s.mine) g.seat ∙ ap (λ (es : List Entry). e ∷ es) (taken-mine old taken t)

  -- whom the entry concerned is named to whoever gave the hub back with it
  pub given-names : (digest_of : H → List ℕ → List ℕ) (lock : LockState (HubKey H)) (hub : HubState H) (e : Entry) (taken new : SeatState Entry (HubKey H)) (told touched : Touched)
      → hub_of lock ≡ hub → new ≡ record taken { seen = e ∷ taken.seen; mine = e ∷ taken.mine; holds = false } → told ≡ touched
      → NamesConcerned touched lock.about.setup.value (digest_of lock.about.hash.value) (e ∷ taken.seen) → NamesConcerned told hub.setup (digest_of hub.hash) new.seen
  given-names digest_of lock hub e taken new told touched is_hub is_new is_told named =
      subst (λ (h : HubState H). NamesConcerned told h.setup (digest_of h.hash) new.seen) is_hub
      (subst (λ (s : SeatState Entry (HubKey H)). NamesConcerned told lock.about.setup.value (digest_of lock.about.hash.value) s.seen) (sym is_new)
      (subst (λ t. NamesConcerned t lock.about.setup.value (digest_of lock.about.hash.value) (e ∷ taken.seen)) (sym is_told) named))

  -- a line that was made ready as the call asks
  pub ready : (digest_of : H → List ℕ → List ℕ) (lock : LockState (HubKey H)) (hub : HubState H) (seat : SeatState Entry (HubKey H)) (c : ℕ) (touched : Touched) (pass : PassState H)
      → hub_of lock ≡ hub → pass_of seat c touched ≡ pass → (line : PreparedLine) → line ≡ prepared_line hub.setup (digest_of hub.hash) pass.challenge line.bytes
      → line ≡ prepared_line lock.about.setup.value (digest_of lock.about.hash.value) (challenge_in c seat.mine) line.bytes
  ready digest_of lock hub seat c touched pass is_hub is_pass line is =
      is ∙ ap₂ (λ (h : HubState H) (p : PassState H). prepared_line h.setup (digest_of h.hash) p.challenge line.bytes) (sym is_hub) (sym is_pass)
