use Rattle.std.proofs.Common.{◌≡◌, ◌⊎◌, false, arith}
use Rattle.std.specs.Result.{is_ok}
use Rattle.std.proofs.lemmas.Bool.Decides.{nat_tests}
use Rattle.std.proofs.lemmas.Result.{err_from_is_err_and}
use Rattle.hub_client.specs.declared.fault.ClientFault.TheVariants.{Memory, NotAdc}
use Rattle.adc_line.specs.Lines.{reading}
use Rattle.counted_io.specs.Calls.{inner_of}
use Rattle.hub_client.specs.Talks.{unheard}
use Rattle.hub_client.proofs.Heard.{hears-empty, hears-line, hears-same, junk-long, none-message}
use Rattle.hub_client.proofs.client.Client.hear_some.Goals as goal

pub returns-in-TooLong-clause-none : goal.returns-in-TooLong-clause-none
returns-in-TooLong-clause-none g c =
    let self = c.args.self.now in
    let long = rw c.in-TooLong.is at c.in_ok-next.ensures.ok in
    (unheard g.S.Read.remaining self, hears-same (unheard g.S.Read.remaining self), junk-long self.framer (g.S.Read.remaining (inner_of self.stream)) long.2 long.3)

pub returns-in-Line-clause-heard : goal.returns-in-Line-clause-heard
returns-in-Line-clause-heard g c =
    let self = c.args.self.now in
    let line = rw c.in-Line.is at c.in_ok-next.ensures.ok in
    hears-empty self.framer c.next.new.self c.next.new.out.items (g.S.Read.remaining (inner_of self.stream)) line.0 line.1 (grind (arith, nat_tests))

pub returns-clause-heard : goal.returns-clause-heard
returns-clause-heard g c =
    let self = c.args.self.now in
    let line = rw c.in-Line-2.is at c.in_ok-next.ensures.ok in
    hears-line self.framer c.next.new.self c.next.new.out.items (g.S.Read.remaining (inner_of self.stream)) c.in_ok-message_in-in-Line-2.field-0 line.0 line.1 (grind (arith, nat_tests))
    (rw c.deref.ensures.value at c.in_ok-message_in-in-Line-2.ensures.message)

pub returns-in_err-message_in-in-Line-2-clause-none :
    goal.returns-in_err-message_in-in-Line-2-clause-none
returns-in_err-message_in-in-Line-2-clause-none g c =
    let p = err_from_is_err_and c.from_residual-in_err-message_in-in-Line-2.result c.from_residual-in_err-message_in-in-Line-2.ensures.1 in
    let self = c.args.self.now in
    let line = rw c.in-Line-2.is at c.in_ok-next.ensures.ok in
    let more = g.S.Read.remaining (inner_of self.stream) in
    let fault = c.in_err-message_in-in-Line-2.field-0.0 in
    let none : (fault ≡ Memory) ⊎ ((fault ≡ NotAdc) × (is_ok (reading c.next.new.out.items) ≡ false)) = rw c.deref.ensures.value at c.in_err-message_in-in-Line-2.ensures.none in
    rw (p.1, p.2) (none-message g.S.Read.remaining self (record self { framer = c.next.new.self }) c.next.new.out.items c.next.new.self fault line.0 line.1 none)
