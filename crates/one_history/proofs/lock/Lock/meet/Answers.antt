use Rattle.std.proofs.Common.{rules, arith, ap, ◌∙◌, ◌≡◌}
use Rattle.one_history.specs.Plays.{paired, left_of}
use Rattle.one_history.specs.Rule.{Fair}
use Rattle.one_history.proofs.SeatRules.{parts}
use Rattle.one_history.proofs.Seats.{idle, told_of}
use Rattle.one_history.proofs.Meets.{first_seat, begins_left, begins_right, entries_left, entries_right}
use Rattle.one_history.proofs.lock.Lock.meet.Goals as goal
use Rattle.one_history.proofs.lock.Lock.meet.Given.{Over}

pub split_seat-second-requires : goal.split_seat-second-requires
split_seat-second-requires g c =
    let left = c.into_place-first in
    let pair = c.compare.new.first in
    let free = idle left.result.table_id left.result.me c.args.self.now c.args.left left.ensures.shown left.ensures.seat c.requires.left in (
      search rules,
      omega arith,
      parts g.T.Recorded.by g.T.Recorded.legal g.T.Recorded.stands c.self.inside.table.shared.key pair.id pair.me.0 (ap (λ m. m.0.busy) c.compare.ensures.pair ∙ free.1),
    )

-- the seat that comes back first is one half of the pair's
half : (g : Over) (c : goal.After-split_seat-second g) → c.split_seat-second.new.seat.me.0 ≡ left_of (paired c.into_place-first.result.me.0 c.into_place.result.me.0)
half g c = ap (λ m. m.0) c.split_seat-second.ensures.2 ∙ ap (λ m. left_of m.0) c.compare.ensures.pair

fair : (g : Over) (c : goal.After-split_seat-second g) → Fair g.T.Recorded.by (g.T.Recorded.legal c.args.self.now.about) (paired c.into_place-first.result.me.0 c.into_place.result.me.0)
fair g c =
    let left = c.into_place-first in
    c.compare.ensures.fair c.args.self.now.about (told_of left.result.table_id left.result.me c.args.self.now c.args.left left.ensures.shown c.requires.left.0)

pub invariant_of-result : goal.invariant_of-result
invariant_of-result g c =
    let left = c.into_place-first in
    let right = c.into_place in
    let free = idle left.result.table_id left.result.me c.args.self.now c.args.left left.ensures.shown left.ensures.seat c.requires.left in
    first_seat left.result.me right.result.me c.split_seat-second.new.seat.me left.ensures.seat right.ensures.seat (half g c) free.1
    (ap (λ m. m.1) c.split_seat-second.ensures.2 ∙ ap (λ m. m.1) c.compare.ensures.pair)

pub returns-clause-begins_left : goal.returns-clause-begins_left
returns-clause-begins_left g c =
    let left = c.into_place-first in
    let right = c.into_place in
    begins_left left.result.me right.result.me c.split_seat-second.new.seat.me left.ensures.seat right.ensures.seat (half g c)
    g.T.Recorded.by (g.T.Recorded.legal c.args.self.now.about) (fair g c)
    left.result.table_id right.result.table_id c.args.left c.args.right left.ensures.shown right.ensures.shown

pub returns-clause-begins_right : goal.returns-clause-begins_right
returns-clause-begins_right g c =
    let left = c.into_place-first in
    let right = c.into_place in
    begins_right left.result.me right.result.me c.split_seat-second.new.seat.me left.ensures.seat right.ensures.seat (half g c)
    g.T.Recorded.by (g.T.Recorded.legal c.args.self.now.about) (fair g c)
    left.result.table_id right.result.table_id c.args.left c.args.right left.ensures.shown right.ensures.shown

pub returns-clause-left_entries : goal.returns-clause-left_entries
returns-clause-left_entries g c =
    let left = c.into_place-first in
    let right = c.into_place in
    entries_left left.result.me right.result.me c.split_seat-second.new.seat.me left.ensures.seat right.ensures.seat (half g c)
    g.T.Recorded.by (g.T.Recorded.legal c.args.self.now.about) (fair g c)
    left.result.table_id right.result.table_id c.args.left c.args.right left.ensures.shown right.ensures.shown

pub returns-clause-right_entries : goal.returns-clause-right_entries
returns-clause-right_entries g c =
    let left = c.into_place-first in
    let right = c.into_place in
    entries_right left.result.me right.result.me c.split_seat-second.new.seat.me left.ensures.seat right.ensures.seat (half g c)
    g.T.Recorded.by (g.T.Recorded.legal c.args.self.now.about) (fair g c)
    left.result.table_id right.result.table_id c.args.left c.args.right left.ensures.shown right.ensures.shown
