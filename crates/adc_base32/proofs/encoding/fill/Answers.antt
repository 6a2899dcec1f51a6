use Rattle.std.proofs.Common.{arith, ℕ, ◌-◌, ◌+◌, ◌*◌, ◌/◌, ◌%◌, ◌^◌, ◌≡◌, ◌<◌, ◌≤◌, ap, sym, ◌∙◌, subst, length, List, take, refl}
use Rattle.std.proofs.lemmas.List.{take_all, length-take-le, length-set}
use Rattle.adc_base32.specs.Bits.{IsBase32}
use Rattle.adc_base32.proofs.Codes.{Spells, Spells-none, Spells-next, Spells-store, IsBase32-full, IsBase32-stored}
use Rattle.adc_base32.proofs.encoding.fill.Goals as goal

pub bytes-init : goal.bytes-init
bytes-init c = record { spelt = Spells-none; few = omega arith; within = omega arith }

pub whole-init : goal.whole-init
whole-init c = record {
  spelt = Spells-next (take c.bytes.at c.bytes.text) c.args.bytes.now c.bytes.held c.bytes.pending c.bytes.byte-index c.from.result
      c.bytes-test.true c.from.ensures (omega (arith, c.from.ensures, c.type_inv.bytes c.bytes.byte-index)) c.bytes.invariant.few c.bytes.invariant.spelt;
  few = omega (arith, c.bytes.invariant.few);
  within = c.bytes.invariant.within;
}

pub whole-preserved : goal.whole-preserved
whole-preserved c =
    let long = length-take-le (c.bytes.byte-index + 1) c.args.bytes.now (omega (arith, c.bytes-test.true)) in
    let front = length-take-le c.whole.at c.whole.text c.whole.invariant.within in
    let room : c.whole.at < length c.whole.text =
    omega (arith, c.whole.invariant.spelt.2, long, front, c.whole-test.true, c.bytes-test.true, c.requires, c.whole.auto.text, c.bytes.auto.text) in
    record {
      spelt = Spells-store c.whole.text (take (c.bytes.byte-index + 1) c.args.bytes.now) (c.bytes.held % 16 * 256 + c.from.result) (c.whole.pending - 5) c.whole.pending c.whole.at c.character.result
          room (omega (arith, c.whole-test.true)) c.character.ensures.exact c.whole.invariant.spelt;
      few = omega (arith, c.whole.invariant.few);
      within = omega (arith, length-set c.whole.text c.whole.at c.character.result, room);
    }

pub returns-then-pending-eq0 : goal.returns-then-pending-eq0
returns-then-pending-eq0 c =
    IsBase32-full c.bytes.text c.args.bytes.now c.bytes.held c.bytes.at c.bytes.byte-index c.bytes-test.false c.bytes.invariant.within (c.bytes.auto.text ∙ c.requires)
    (subst (λ p. Spells (take c.bytes.at c.bytes.text) (take c.bytes.byte-index c.args.bytes.now) c.bytes.held p) c.if-pending-eq0.true c.bytes.invariant.spelt)

pub returns : goal.returns
returns c =
    (IsBase32-stored c.bytes.text c.args.bytes.now c.bytes.held c.bytes.pending c.bytes.at c.bytes.byte-index c.character-2.result c.bytes-test.false c.bytes.invariant.within
    (c.bytes.auto.text ∙ c.requires) (omega (arith, c.if-pending-eq0.false)) c.bytes.invariant.few c.character-2.ensures.exact c.bytes.invariant.spelt).1
