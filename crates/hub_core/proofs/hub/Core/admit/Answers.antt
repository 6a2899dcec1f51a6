use Rattle.std.proofs.Common.{◌≡◌, ◌∙◌, ap, ap₂, refl, List, ◌+◌, length, length-append, map, arith, ◌++◌, ◌∷◌, [], true, false}
use Rattle.std.specs.Arc.{arc_value}
use Rattle.std.specs.List.{Contains}
use Rattle.adc_base32.specs.Turns.{next_free}
use Rattle.outboxes.specs.Backlogs.{Backlog}
use Rattle.std.specs.Result.{is_err}
use Rattle.hub_core.specs.declared.seat.Seat.{Seat}
use Rattle.hub_rules.specs.declared.sender.Sender.{Sender}
use Rattle.hub_rules.specs.Senders.{new_sender}
use Rattle.hub_core.specs.CoreState.{CoreState}
use Rattle.hub_core.specs.Seats.{new_seat}
use Rattle.hub_core.proofs.NextHistory.{full-moves, join-moves, joined_core, sids_in, spent-moves}
use Rattle.std.proofs.Common.{rules, sym, subst}
use Rattle.hub_core.specs.Numbers.{Ordered}
use Rattle.hub_core.specs.Index.{AreIndexedBySid, keys}
use Rattle.hub_core.proofs.Indexed.{indexed-push, is-new}
use Rattle.hub_core.proofs.Numbers.{ordered-push}
use Rattle.hub_core.specs.Backlogs.{AreBeside, backlogs_of, is_here, no_backlog}
use Rattle.hub_core.proofs.Beside.{backlogs-joined, beside-again, beside-joined, err-holds, even, ok-holds, rows-again}
use Rattle.hub_core.proofs.Carried.{same-core}
use Rattle.shared_log.specs.Tables.{Table, new_row}
use Rattle.hub_core.proofs.hub.Core.admit.Goals as goal

pub returns-then-len-max_users : goal.returns-then-len-max_users
returns-then-len-max_users c =
    let setups : arc_value c.self.inside.setup ≡ c.args.self.now.setup = ap (λ (s : CoreState). s.setup) c.self.view_is in
    let seats : c.self.inside.seats.items ≡ c.args.self.now.seats = ap (λ (s : CoreState). s.seats) c.self.view_is in
    (full-moves _ _ _ _ (omega (arith, c.if-len-max_users.true, c.max_users.ensures.exact, ap (λ s. s.plain.max_users) (c.deref.ensures ∙ setups), c.len.ensures, c.self.inside.seats.ok.0, ap length seats)), refl)

pub returns-then-self : goal.returns-then-self
returns-then-self c =
    let setups : arc_value c.self.inside.setup ≡ c.args.self.now.setup = ap (λ (s : CoreState). s.setup) c.self.view_is in
    let seats : c.self.inside.seats.items ≡ c.args.self.now.seats = ap (λ (s : CoreState). s.seats) c.self.view_is in
    let joins : c.self.inside.joins ≡ c.args.self.now.joins = ap (λ (s : CoreState). s.joins) c.self.view_is in (
      spent-moves _ _ _ _
          (omega (arith, c.if-len-max_users.false, c.max_users.ensures.exact, ap (λ s. s.plain.max_users) (c.deref.ensures ∙ setups), c.len.ensures, c.self.inside.seats.ok.0, ap length seats))
          (omega (arith, c.if-self.true, joins)),
      refl,
    )

pub remove-requires : goal.remove-requires
remove-requires c =
    let failed : is_err c.add-2.result ≡ true = sym c.is_err.ensures.value ∙ c.if-is_err.true in
    omega (
      arith,
      c.len-then-is_err.ensures,
      c.add-2.new.seats.ok.0,
      ap length (err-holds c.add-2.result failed c.add-2.ensures.err).0,
      ap (λ (t : Table). length t.rows) c.in_ok-add.ensures.ok,
      length-append c.self.inside.backlogs.rows (new_row c.self.inside.backlogs.cap c.self.inside.backlogs.bytes ∷ []),
      even c.self.inside.backlogs c.self.inside.seats.items c.self.invariant.5,
    )

pub invariant_of-self-then-is_err : goal.invariant_of-self-then-is_err
invariant_of-self-then-is_err c =
    let failed : is_err c.add-2.result ≡ true = sym c.is_err.ensures.value ∙ c.if-is_err.true in
    let kept = err-holds c.add-2.result failed c.add-2.ensures.err in (
      c.self.invariant.0,
      c.self.invariant.1,
      subst (Ordered c.self.inside.joins) (sym kept.0) c.self.invariant.2,
      subst (λ ss. AreIndexedBySid c.add-2.new.index (keys ss)) (sym kept.0) (subst (λ index. AreIndexedBySid index (keys c.self.inside.seats.items)) (sym kept.1) c.self.invariant.3),
      c.self.invariant.4,
      subst (AreBeside c.remove.new.self) (sym kept.0)
          (beside-again c.self.inside.backlogs c.remove.new.self c.self.inside.seats.items
          (rows-again c.add.new.self.settled c.len-then-is_err.result c.self.inside.backlogs c.add.new.self c.remove.new.self c.in_ok-add.ensures.ok c.remove.ensures
          (omega (arith, c.len-then-is_err.ensures, c.add-2.new.seats.ok.0, ap length kept.0, even c.self.inside.backlogs c.self.inside.seats.items c.self.invariant.5))) c.self.invariant.5),
    )

pub returns-then-is_err : goal.returns-then-is_err
returns-then-is_err c =
    let setups : arc_value c.self.inside.setup ≡ c.args.self.now.setup = ap (λ (s : CoreState). s.setup) c.self.view_is in
    let seats : c.self.inside.seats.items ≡ c.args.self.now.seats = ap (λ (s : CoreState). s.seats) c.self.view_is in
    let joins : c.self.inside.joins ≡ c.args.self.now.joins = ap (λ (s : CoreState). s.joins) c.self.view_is in
    let failed : is_err c.add-2.result ≡ true = sym c.is_err.ensures.value ∙ c.if-is_err.true in
    let kept = err-holds c.add-2.result failed c.add-2.ensures.err in (
      (
        omega (arith, c.if-len-max_users.false, c.max_users.ensures.exact, ap (λ s. s.plain.max_users) (c.deref.ensures ∙ setups), c.len.ensures, c.self.inside.seats.ok.0, ap length seats),
        omega (arith, c.if-self.false, c.self.ranges, joins),
      ),
      same-core (arc_value c.self.inside.setup) c.self.inside.joins c.self.inside.last kept.0
          (ap backlogs_of (rows-again c.add.new.self.settled c.len-then-is_err.result c.self.inside.backlogs c.add.new.self c.remove.new.self c.in_ok-add.ensures.ok c.remove.ensures
          (omega (arith, c.len-then-is_err.ensures, c.add-2.new.seats.ok.0, ap length kept.0, even c.self.inside.backlogs c.self.inside.seats.items c.self.invariant.5))).rows)
          refl
          ∙ c.self.view_is,
    )

pub returns : goal.returns
returns c =
    let setups : arc_value c.self.inside.setup ≡ c.args.self.now.setup = ap (λ (s : CoreState). s.setup) c.self.view_is in
    let seats : c.self.inside.seats.items ≡ c.args.self.now.seats = ap (λ (s : CoreState). s.seats) c.self.view_is in
    let joins : c.self.inside.joins ≡ c.args.self.now.joins = ap (λ (s : CoreState). s.joins) c.self.view_is in
    let went : is_err c.add-2.result ≡ false = sym c.is_err.ensures.value ∙ c.if-is_err.false in
    join-moves _ _ _ _ _ c.next_free-sid.result _ (ap (λ n. n + 1) joins)
    (omega (arith, c.if-len-max_users.false, c.max_users.ensures.exact, ap (λ s. s.plain.max_users) (c.deref.ensures ∙ setups), c.len.ensures, c.self.inside.seats.ok.0, ap length seats))
    (omega (arith, c.if-self.false, c.self.ranges, joins))
    (c.next_free-sid.ensures.exact
    ∙ ap₂ next_free (ap (λ (s : CoreState). s.last) c.self.view_is) (c.deref-3.ensures.value ∙ c.in_ok-taken.ensures ∙ ap sids_in (c.deref-2.ensures.value ∙ seats)))
    (ap₂ (λ (ss : List Seat) (os : List Backlog). record { setup = arc_value c.self.inside.setup; joins = c.self.inside.joins + 1; last = c.number-self-inside.result; seats = ss; backlogs = os; users = c.self.inside.commons.present.users; bans = c.self.inside.commons.bans; topic = c.self.inside.commons.topic; touched = c.self.inside.touched })
    (ok-holds c.add-2.result went c.add-2.ensures.seats
    ∙ ap (λ (seat : Seat). c.self.inside.seats.items ++ seat ∷ []) (c.new-seat.ensures ∙ ap (new_seat (c.self.inside.joins + 1)) c.new.ensures))
    (backlogs-joined c.add.new.self.settled c.self.inside.backlogs c.add.new.self c.self.inside.seats.items c.in_ok-add.ensures.ok c.self.invariant.5)
    ∙ ap (λ n. record { setup = arc_value c.self.inside.setup; joins = c.self.inside.joins + 1; last = n; seats = c.self.inside.seats.items ++ new_seat (c.self.inside.joins + 1) (new_sender c.next_free-sid.result c.args.peer c.args.challenge) ∷ []; backlogs = backlogs_of c.self.inside.backlogs.rows ++ no_backlog ∷ []; users = c.self.inside.commons.present.users; bans = c.self.inside.commons.bans; topic = c.self.inside.commons.topic; touched = c.self.inside.touched })
    c.number-self-inside.ensures.exact
    ∙ ap (joined_core c.next_free-sid.result c.args.peer c.args.challenge) c.self.view_is)

pub invariant_of-self-2 : goal.invariant_of-self-2
invariant_of-self-2 c =
    let went : is_err c.add-2.result ≡ false = sym c.is_err.ensures.value ∙ c.if-is_err.false in
    let added : c.add-2.new.seats.items ≡ c.self.inside.seats.items ++ c.new-seat.result ∷ [] = ok-holds c.add-2.result went c.add-2.ensures.seats in
    let is_sid = ap (λ (seat : Seat). seat.sender.sid) c.new-seat.ensures ∙ ap (λ (s : Sender). s.sid) c.new.ensures in
    let is_number = ap (λ (seat : Seat). seat.number) c.new-seat.ensures in
    let taken : c.deref-3.result.now ≡ map (λ (seat : Seat). seat.sender.sid) c.self.inside.seats.items = c.deref-3.ensures.value ∙ c.in_ok-taken.ensures ∙ ap sids_in c.deref-2.ensures.value in (
      c.self.invariant.0,
      search rules,
      subst (Ordered (c.self.inside.joins + 1)) (sym added) (ordered-push c.self.inside.joins c.self.inside.seats.items c.new-seat.result is_number c.self.invariant.2),
      subst (λ ss. AreIndexedBySid c.add-2.new.index (keys ss)) (sym added)
          (indexed-push c.self.inside.index c.add-2.new.index c.self.inside.seats.items c.new-seat.result c.new-seat.result.sender.sid c.new-seat.result.number refl refl
          (ok-holds c.add-2.result went c.add-2.ensures.index)
          (is-new c.new-seat.result.sender.sid c.self.inside.seats.items (λ there. c.next_free-sid.ensures.free (subst (λ ns. Contains ns c.next_free-sid.result) (sym taken) (subst (Contains (sids_in c.self.inside.seats.items)) is_sid there))))
          c.self.invariant.3),
      c.self.invariant.4,
      subst (AreBeside c.add.new.self) (sym added)
          (beside-joined c.add.new.self.settled c.self.inside.backlogs c.add.new.self c.self.inside.seats.items c.new-seat.result c.in_ok-add.ensures.ok
          (ap is_here c.new-seat.ensures) c.self.invariant.5),
    )
