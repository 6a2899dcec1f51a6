use Rattle.std.proofs.Common.{◌≡◌, ◌∙◌, ap, sym, rules, List, ℕ, ◌++◌, ◌∷◌, []}
use Rattle.std.proofs.lemmas.List.{append_assoc}
use Rattle.std.proofs.lemmas.List.Elements.{All-append, All-cons, All-nil}
use Rattle.adc_line.specs.WordsLeft.{words_left}
use Rattle.hub_client.specs.Fields.{Lacks}
use Rattle.hub_client.proofs.fields.field_among.Goals as goal

pub words-preserved : goal.words-preserved
words-preserved c =
    let before = c.words.invariant.behind.0 in
    let word = c.in-Some.word.now in
    let lacks : Lacks c.args.name.now word = c.in_default-strip_prefix.ensures.cases in
    let step : words_left c.words.words ≡ word ∷ words_left c.next.new.self = search rules in
    record {
      next = tt;
      finite = tt;
      behind = (
        before ++ word ∷ [],
        c.words.invariant.behind.1 ∙ ap (λ (ws : List (List ℕ)). before ++ ws) step ∙ sym (append_assoc before (word ∷ []) (words_left c.next.new.self)),
        All-append (Lacks c.args.name.now) before (word ∷ []) c.words.invariant.behind.2 (All-cons (Lacks c.args.name.now) word [] lacks (All-nil (Lacks c.args.name.now))),
      );
    }
