use Rattle.std.proofs.Common.{◌≡◌, ℕ, List, rules, arith, drop, subst}
use Rattle.std.proofs.lemmas.Grind.{common_steps}
use Rattle.std.specs.Prelude.{codes}
use Rattle.std.specs.String.{string_bytes}
use Rattle.adc_line.specs.WordsLeft.{words_left}
use Rattle.hub_client.specs.Fields.{IsFieldText}
use Rattle.hub_client.specs.Statuses.{IsMisspeltSubject, IsSubject}
use Rattle.hub_client.specs.declared.fault.ClientFault.TheVariants.{NotAdc}
use Rattle.hub_client.proofs.status.Status.read.Goals as goal

pub returns-clause-status : goal.returns-clause-status
returns-clause-status c =
    let rest : words_left c.next-2.new.self ≡ drop 2 c.args.line.now.params = search rules in
    record {
      number = grind (arith, common_steps);
      text = search rules;
      about = subst (λ (words : List (List ℕ)). IsSubject words (string_bytes c.in_ok-about.field-0)) rest c.in_ok-about.ensures.subject;
      seconds = subst (λ (words : List (List ℕ)). IsFieldText (codes "TL") words (string_bytes c.in_ok-field_text_among.field-0)) rest c.in_ok-field_text_among.ensures.text;
    }

pub returns-in_err-about-clause-none : goal.returns-in_err-about-clause-none
returns-in_err-about-clause-none c =
    let rest : words_left c.next-2.new.self ≡ drop 2 c.args.line.now.params = search rules in
    let bad : c.in_err-about.field-0.0 ≡ NotAdc → IsMisspeltSubject (drop 2 c.args.line.now.params) =
    subst (λ (words : List (List ℕ)). c.in_err-about.field-0.0 ≡ NotAdc → IsMisspeltSubject words) rest c.in_err-about.ensures.misspelt in
    search (rules, bad)
