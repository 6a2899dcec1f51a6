use Rattle.std.proofs.Common.{◌≡◌, ℕ, List, Some, rules, drop, subst}
use Rattle.std.specs.Prelude.{codes}
use Rattle.adc_base32.specs.Sids.{sid_at}
use Rattle.adc_line.specs.WordsLeft.{words_left}
use Rattle.hub_client.specs.Fields.{IsField}
use Rattle.hub_client.proofs.departures.sender_away.Goals as goal

pub returns-in-Some : goal.returns-in-Some
returns-in-Some c =
    let word = c.in-Some.word.now in
    let rest : words_left c.next.new.self ≡ drop 1 c.args.line.now.params = search rules in
    let given : c.parse.result ≡ sid_at word = search rules in
    (Some word, subst (λ (words : List (List ℕ)). IsField (codes "ID") words (Some word)) rest c.in-Some.ensures, given)
