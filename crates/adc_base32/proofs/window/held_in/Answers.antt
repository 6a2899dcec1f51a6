use Rattle.std.proofs.Common.{◌∙◌, sym, take, ℕ, false, get_or, length, List, ◌≡◌, ◌+◌, ◌<◌, subst}
use Rattle.std.specs.Bool.{Decides}
use Rattle.std.specs.List.{Contains}
use Rattle.std.proofs.lemmas.List.{take_all}
use Rattle.adc_base32.specs.Turns.{following}
use Rattle.adc_base32.proofs.Vacancies.{Decides-none, Decides-one_more}
use Rattle.adc_base32.proofs.window.held_in.Goals as goal

pub loop-sid-init : goal.loop-sid-init
loop-sid-init c = λ k below. Decides-none 1_025 k (following c.args.last (c.args.base + k)) below

pub loop-sid-preserved : goal.loop-sid-preserved
loop-sid-preserved c = λ k below.
    Decides-one_more c.args.taken.now c.loop-sid.sid-index c.number.result _ (following c.args.last (c.args.base + k)) _ _
    c.loop-sid-test.true (c.number.ensures.exact ∙ c.sid-item.is) (c.mark.ensures k below) (c.loop-sid.invariant k below)

pub returns : goal.returns
returns c = λ k below.
    let all = take_all c.loop-sid.sid-index c.args.taken.now c.loop-sid-test.false in
    subst (λ xs. Decides (get_or c.loop-sid.held k false) (Contains xs (following c.args.last (c.args.base + k)))) all (c.loop-sid.invariant k below)
