use Rattle.std.proofs.Common.{◌≡◌, ◌+◌, ◌∙◌, sym, ap, ℕ, arith, length, get_or, ◌<◌}
use Rattle.std.proofs.lemmas.Iterator.{YieldsList-from_chars}
use Rattle.std.proofs.lemmas.Iterator.Consumers.{YieldsList-turn, YieldsList-end}
use Rattle.std.proofs.lemmas.List.{length_push}
use Rattle.std.specs.Str.{chars}
use Rattle.adc_ids.proofs.Points.{Decides-low, Decides-long, Decides-whole, above-more, at-count}
use Rattle.adc_ids.proofs.nick.tells_nick.Goals as goal

pub returns-then-from-le32 : goal.returns-then-from-le32
returns-then-from-le32 c =
    let t = YieldsList-turn (YieldsList-from_chars c.args.text.now c.utf8.text cc) c.points.yielded _ c.points.yielded_by _ _ c.in-Some.point c.in-Some.is c.next.ensures.steps in
    Decides-low (chars c.args.text.now) (length c.points.yielded) c.in-Some.point t.0 t.1 (omega (arith, c.from.ensures, c.if-from-le32.true))

pub returns-then-points-eq64 : goal.returns-then-points-eq64
returns-then-points-eq64 c =
    let t = YieldsList-turn (YieldsList-from_chars c.args.text.now c.utf8.text cc) c.points.yielded _ c.points.yielded_by _ _ c.in-Some.point c.in-Some.is c.next.ensures.steps in
    Decides-long (chars c.args.text.now) (length c.points.yielded) t.0 (sym c.points.invariant.count ∙ c.if-points-eq64.true)

pub points-preserved : goal.points-preserved
points-preserved c =
    let t = YieldsList-turn (YieldsList-from_chars c.args.text.now c.utf8.text cc) c.points.yielded _ c.points.yielded_by _ _ c.in-Some.point c.in-Some.is c.next.ensures.steps in
    let u = at-count (chars c.args.text.now) (length c.points.yielded) c.points.points c.in-Some.point c.points.invariant.count t.0 t.1 in
    record {
      count = omega (arith, c.points.invariant.count, length_push c.points.yielded c.in-Some.point);
      few = omega (arith, c.points.invariant.few, c.if-points-eq64.false);
      above = above-more (chars c.args.text.now) c.points.points c.in-Some.point u.0 u.1 (omega (arith, c.from.ensures, c.if-from-le32.false)) c.points.invariant.above;
    }

pub returns : goal.returns
returns c =
    let t = YieldsList-end (YieldsList-from_chars c.args.text.now c.utf8.text cc) c.points.yielded _ c.points.yielded_by _ _ c.in-None.is c.next.ensures.steps in
    Decides-whole (chars c.args.text.now) c.points.points (sym t.1 ∙ sym c.points.invariant.count) c.points.invariant.few c.points.invariant.above
