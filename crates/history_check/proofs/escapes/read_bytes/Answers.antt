use Rattle.std.proofs.Common.{◌≡◌, ◌<◌, ◌-◌, ◌∙◌, List, ℕ, sym, length, take, drop}
use Rattle.std.proofs.lemmas.List.{take_rest}
use Rattle.history_check.proofs.Bytes.{all-read, escape-none, escape-step, plain-step, short-none}
use Rattle.history_check.specs.Reading.{read_bytes}
use Rattle.history_check.proofs.escapes.read_bytes.Goals as goal

-- what a pattern binds behind the first byte
behind : List ℕ → List ℕ
behind xs = take (length xs - 1) (drop 1 xs)

behind-is : (xs : List ℕ) → behind xs ≡ drop 1 xs
unfolding behind
behind-is xs = take_rest xs 1

pub bytes-preserved-then-first-ne37 : goal.bytes-preserved-then-first-ne37
unfolding behind
bytes-preserved-then-first-ne37 c =
    plain-step c.bytes.bytes.items c.push.new.self.items c.bytes.rest.now (behind c.bytes.rest.now) (read_bytes c.args.text.now) c.in_ok-push.ensures.items
    (behind-is _) c.in-len1-up.len_at_least c.if-first-ne37.true c.bytes.invariant

pub bytes-preserved : goal.bytes-preserved
unfolding behind
bytes-preserved c =
    escape-step c.bytes.bytes.items c.push-in-len1-up.new.self.items c.bytes.rest.now (behind c.bytes.rest.now) _ c.in-Some.byte (read_bytes c.args.text.now) c.in_ok-push-2.ensures.items
    (behind-is _) (take_rest (behind c.bytes.rest.now) 2) c.in-len1-up.len_at_least c.if-first-ne37.false c.in-len2-up.len_at_least (sym c.byte_of.ensures ∙ c.in-Some.is) c.bytes.invariant

pub returns-in_default-byte_of : goal.returns-in_default-byte_of
unfolding behind
returns-in_default-byte_of c =
    escape-none c.bytes.bytes.items c.bytes.rest.now (behind c.bytes.rest.now) (read_bytes c.args.text.now)
    (behind-is _) c.in-len1-up.len_at_least c.if-first-ne37.false c.in-len2-up.len_at_least (sym c.byte_of.ensures ∙ c.in_default-byte_of.is) c.bytes.invariant

pub returns-in_default-behind : goal.returns-in_default-behind
unfolding behind
returns-in_default-behind c =
    let few : length (behind c.bytes.rest.now) < 2 = c.in_default-behind.len_below in
    short-none c.bytes.bytes.items c.bytes.rest.now (behind c.bytes.rest.now) (read_bytes c.args.text.now)
    (behind-is _) c.in-len1-up.len_at_least c.if-first-ne37.false few c.bytes.invariant

pub returns : goal.returns
returns c = all-read c.bytes.bytes.items c.bytes.rest.now (read_bytes c.args.text.now) c.in_default.len_below c.bytes.invariant
