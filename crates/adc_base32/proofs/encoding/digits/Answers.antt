use Rattle.std.proofs.Common.{arith, ℕ, ◌-◌, ◌+◌, ◌≡◌, ap, sym, ◌∙◌, subst, length, List, take, refl}
use Rattle.std.specs.String.{string_bytes}
use Rattle.std.proofs.lemmas.List.{take_all}
use Rattle.adc_base32.proofs.Codes.{Spells, Spells-none, Spells-next, Spells-digit, IsBase32-whole, IsBase32-filled}
use Rattle.adc_base32.proofs.encoding.digits.Goals as goal

pub bytes-init : goal.bytes-init
bytes-init c = record { spelt = rw c.in_ok-text.ensures.bytes Spells-none; few = omega arith }

pub whole-init : goal.whole-init
whole-init c = record {
  spelt = Spells-next (string_bytes c.bytes.text) c.args.bytes.now c.bytes.held c.bytes.pending c.bytes.byte-index c.from.result
      c.bytes-test.true c.from.ensures (omega (arith, c.from.ensures, c.type_inv.bytes c.bytes.byte-index)) c.bytes.invariant.few c.bytes.invariant.spelt;
  few = omega (arith, c.bytes.invariant.few);
}

pub whole-preserved : goal.whole-preserved
whole-preserved c = record {
  spelt = rw c.in_ok-push_digit.ensures (Spells-digit _ _ _ (c.whole.pending - 5) c.whole.pending (omega (arith, c.whole-test.true)) c.whole.invariant.spelt);
  few = omega (arith, c.whole.invariant.few);
}

pub returns-then-pending-eq0 : goal.returns-then-pending-eq0
returns-then-pending-eq0 c =
    let all : take c.bytes.byte-index c.args.bytes.now ≡ c.args.bytes.now = take_all c.bytes.byte-index c.args.bytes.now c.bytes-test.false in
    IsBase32-whole (string_bytes c.bytes.text) c.args.bytes.now c.bytes.held
    (subst (λ xs. Spells (string_bytes c.bytes.text) xs c.bytes.held 0) all (subst (λ p. Spells (string_bytes c.bytes.text) (take c.bytes.byte-index c.args.bytes.now) c.bytes.held p) c.if-pending-eq0.true c.bytes.invariant.spelt))

pub returns : goal.returns
returns c =
    let all : take c.bytes.byte-index c.args.bytes.now ≡ c.args.bytes.now = take_all c.bytes.byte-index c.args.bytes.now c.bytes-test.false in
    rw c.in_ok-push_digit-2.ensures
    (IsBase32-filled (string_bytes c.bytes.text) c.args.bytes.now c.bytes.held c.bytes.pending
    (subst (λ xs. Spells (string_bytes c.bytes.text) xs c.bytes.held c.bytes.pending) all c.bytes.invariant.spelt)
    (omega (arith, c.if-pending-eq0.false)) c.bytes.invariant.few)
