use Rattle.std.proofs.Common.{◌≡◌, ◌+◌, ◌<◌, ℕ, length, take, drop, [], ◌∷◌, rules, subst, List}
use Rattle.std.specs.List.{All}
use Rattle.std.proofs.lemmas.List.{take_all}
use Rattle.std.proofs.lemmas.List.Elements.{All-append, All-cons, All-nil}
use Rattle.adc_line.specs.Lines.{Reading}
use Rattle.hub_client.specs.declared.fault.ClientFault.TheVariants.{NotAdc}
use Rattle.hub_client.specs.Conversations.{IsNotAway}
use Rattle.hub_client.specs.Entries.{IsSentAway}
use Rattle.hub_client.specs.Talks.{gone_of, users_of}
use Rattle.hub_client.specs.Users.{IsTold, IsUntold}
use Rattle.hub_client.proofs.LastField.{one-more, parted}
use Rattle.hub_client.proofs.client.Client.sent_away.Goals as goal

abbrev Stays : ℕ → Reading → Type 0
Stays operator line = (sid : ℕ) → IsSentAway line sid operator → ⊥

pub returns-in-Some-clause-away : goal.returns-in-Some-clause-away
returns-in-Some-clause-away g c =
    let gone = gone_of c.args.self.now in
    let i = c.loop-line.line-index in
    let within : i < length gone = search rules in
    let is = rw c.deref-line-items.ensures.value at c.line-item.is in
    let told : IsTold (users_of c.args.self.now) c.in-Some.sid c.in_ok-in_lines.field-0 = rw c.deref.ensures.value at c.in_ok-in_lines.ensures.told in
    (take i gone, c.line-item.result, drop (i + 1) gone, c.in-Some.sid, parted gone i c.line-item.result within is, c.loop-line.invariant, c.in-Some.ensures.some, told)

pub loop-line-preserved : goal.loop-line-preserved
loop-line-preserved g c =
    let gone = gone_of c.args.self.now in
    let i = c.loop-line.line-index in
    let within : i < length gone = search rules in
    let is = rw c.deref-line-items.ensures.value at c.line-item.is in
    let P = Stays c.args.operator in
    rw (one-more gone i c.line-item.result within is)
    (All-append P (take i gone) (c.line-item.result ∷ []) c.loop-line.invariant (All-cons P c.line-item.result [] c.in_default.ensures.none (All-nil P)))

pub returns-clause-away : goal.returns-clause-away
returns-clause-away g c =
    let gone = gone_of c.args.self.now in
    let all : take c.loop-line.line-index gone ≡ gone = take_all c.loop-line.line-index gone (search rules) in
    subst (λ (lines : List Reading). All (Stays c.args.operator) lines) all c.loop-line.invariant

pub returns-in_err-in_lines-clause-untold : goal.returns-in_err-in_lines-clause-untold
returns-in_err-in_lines-clause-untold g c =
    let gone = gone_of c.args.self.now in
    let users = users_of c.args.self.now in
    let i = c.loop-line.line-index in
    let within : i < length gone = search rules in
    let is = rw c.deref-line-items.ensures.value at c.line-item.is in
    let untold : c.in_err-in_lines.field-0.0 ≡ NotAdc → IsUntold users c.in-Some.sid = rw c.deref.ensures.value at c.in_err-in_lines.ensures.none in
    let away : c.in_err-in_lines.field-0.0 ≡ NotAdc → IsNotAway gone users c.args.operator =
    λ not. (
      take i gone,
      c.line-item.result,
      drop (i + 1) gone,
      c.in-Some.sid,
      parted gone i c.line-item.result within is,
      c.loop-line.invariant,
      c.in-Some.ensures.some,
      untold not,
    ) in
    search (rules, away)
