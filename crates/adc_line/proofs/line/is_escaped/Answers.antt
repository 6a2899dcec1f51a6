use Rattle.std.proofs.Common.{◌≡◌, ◌-◌, ◌∙◌, List, ℕ, sym, length, take, drop, length-take, length-drop, arith}
use Rattle.std.proofs.lemmas.List.{take_rest}
use Rattle.adc_line.proofs.WordLemmas.{is_escaped-none, is_escaped-plain, is_escaped-yes, is_escaped-no, is_escaped-cut}
use Rattle.adc_line.proofs.line.is_escaped.Goals as goal

-- what a pattern binds behind the first byte
behind : List ℕ → List ℕ
behind xs = take (length xs - 1) (drop 1 xs)

behind-is : (xs : List ℕ) → behind xs ≡ drop 1 xs
unfolding behind
behind-is xs = take_rest xs 1

pub returns-in_default-after : goal.returns-in_default-after
returns-in_default-after c =
    sym (is_escaped-cut c.bytes.rest.now (omega (arith, length-take {A = ℕ}, length-drop {A = ℕ})) c.in-len1-up.len_at_least c.if-byte-eq92.true) ∙ c.bytes.invariant

pub returns-then-not-ends_escape : goal.returns-then-not-ends_escape
unfolding behind
returns-then-not-ends_escape c =
    sym (is_escaped-no c.bytes.rest.now (behind c.bytes.rest.now) (behind-is _) c.in-len1-up.len_at_least c.if-byte-eq92.true c.in-len1-up-after.len_at_least (sym c.ends_escape.ensures ∙ c.if-not-ends_escape.true))
    ∙ c.bytes.invariant

pub bytes-preserved-then-byte-eq92 : goal.bytes-preserved-then-byte-eq92
unfolding behind
bytes-preserved-then-byte-eq92 c =
    rw (take_rest (behind c.bytes.rest.now) 1)
    (sym (is_escaped-yes c.bytes.rest.now (behind c.bytes.rest.now) (behind-is _) c.in-len1-up.len_at_least c.if-byte-eq92.true c.in-len1-up-after.len_at_least (sym c.ends_escape.ensures ∙ c.if-not-ends_escape.false))
    ∙ c.bytes.invariant)

pub bytes-preserved : goal.bytes-preserved
bytes-preserved c = rw take_rest (sym (is_escaped-plain _ c.in-len1-up.len_at_least c.if-byte-eq92.false) ∙ c.bytes.invariant)

pub returns : goal.returns
returns c = sym (is_escaped-none _ c.in_default.len_below) ∙ c.bytes.invariant
