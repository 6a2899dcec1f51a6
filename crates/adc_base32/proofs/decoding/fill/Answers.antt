use Rattle.std.proofs.Common.{arith, ℕ, ◌-◌, ◌+◌, ◌*◌, ◌%◌, ◌/◌, ◌^◌, ◌<◌, ◌≤◌, ◌≡◌, ap, sym, ◌∙◌, subst, length, List, take, refl}
use Rattle.std.proofs.lemmas.List.{take_all, length-take-le, length-set}
use Rattle.adc_base32.specs.Bits.{text_bits, byte_bits, text_len}
use Rattle.std.specs.List.{All}
use Rattle.adc_base32.proofs.Codes.{Drains, Drains-none, Drains-next, Drains-store, Drains-all}
use Rattle.adc_base32.proofs.decoding.fill.Goals as goal

pub characters-init : goal.characters-init
characters-init c = record { drained = Drains-none; few = omega arith; within = omega arith }

pub whole-init : goal.whole-init
whole-init c = record {
  drained = Drains-next (take c.characters.at c.characters.bytes) c.args.text.now c.characters.held c.characters.pending c.characters.character-index c.from.result
      c.characters-test.true (c.from.ensures ∙ c.value_of.ensures.exact) (omega (arith, c.from.ensures, c.value_of.ensures.below)) c.characters.invariant.few c.characters.invariant.drained;
  few = omega (arith, c.characters.invariant.few);
  within = c.characters.invariant.within;
}

pub whole-preserved : goal.whole-preserved
whole-preserved c =
    let seen = take (c.characters.character-index + 1) c.args.text.now in
    let long = length-take-le (c.characters.character-index + 1) c.args.text.now (omega (arith, c.characters-test.true)) in
    let front = length-take-le c.whole.at c.whole.bytes c.whole.invariant.within in
    let room : c.whole.at < length c.whole.bytes = omega (arith, c.whole.invariant.drained.1, long, front, c.whole-test.true, c.characters-test.true, c.requires, c.whole.auto.bytes, c.characters.auto.bytes) in
    record {
      drained = Drains-store c.whole.bytes seen (c.characters.held % 128 * 32 + c.from.result) (c.whole.pending - 8) c.whole.pending c.whole.at room (omega (arith, c.whole-test.true)) c.whole.invariant.drained;
      few = omega (arith, c.whole.invariant.few);
      within = omega (arith, length-set c.whole.bytes c.whole.at ((c.characters.held % 128 * 32 + c.from.result) / 2 ^ (c.whole.pending - 8) % 256), room);
    }

done : (text bytes : List ℕ) (held pending at index : ℕ) → length text ≤ index → Drains (take at bytes) (take index text) held pending → at ≤ length bytes → pending < 8
    → length text ≡ text_len (length bytes) → (byte_bits bytes ≡ take (8 * length bytes) (text_bits text)) × All (λ b. b < 256) bytes
done text bytes held pending at index over drained within few fits =
    let all : take index text ≡ text = take_all index text over in
    let d = subst (λ xs. Drains (take at bytes) xs held pending) all drained in
    let front = length-take-le at bytes within in
    let full : length bytes ≤ at = omega (arith, d.1, front, fits, few) in
    let whole : take at bytes ≡ bytes = take_all at bytes full in (
      subst (λ xs. byte_bits xs ≡ take (8 * length xs) (text_bits text)) whole (Drains-all (take at bytes) text held pending d),
      subst (λ xs. All (λ b. b < 256) xs) whole d.2,
    )

pub returns : goal.returns
returns c =
    let r = done c.args.text.now c.characters.bytes c.characters.held c.characters.pending c.characters.at c.characters.character-index
    c.characters-test.false c.characters.invariant.drained c.characters.invariant.within c.characters.invariant.few
    (c.requires ∙ ap text_len (sym c.characters.auto.bytes)) in
    record { bits = r.0; small = r.1 }
