use Rattle.std.proofs.Common.{rules, tests}
use Rattle.std.proofs.lemmas.Iterator.{YieldsList-from_slice}
use Rattle.std.proofs.lemmas.Iterator.Search.{position_from_yields_List}
use Rattle.history_check.proofs.Splits.{Found, behind-found, behind-missing, first-found, first-missing}
use Rattle.history_check.specs.Reading.{is_blank}
use Rattle.history_check.proofs.words.word.Goals as goal

pub returns-in-Some-clause-word : goal.returns-in-Some-clause-word
returns-in-Some-clause-word c =
    let found : Found c.args.text.now c.position.result = position_from_yields_List is_blank _ _ _ c.position.ensures.ran (YieldsList-from_slice c.args.text.now cc) (λ x q k. search (rules, tests)) in
    first-found c.args.text.now c.in-Some.end c.position.result found c.in-Some.is

pub returns-in-Some-clause-behind : goal.returns-in-Some-clause-behind
returns-in-Some-clause-behind c =
    let found : Found c.args.text.now c.position.result = position_from_yields_List is_blank _ _ _ c.position.ensures.ran (YieldsList-from_slice c.args.text.now cc) (λ x q k. search (rules, tests)) in
    behind-found c.args.text.now c.in-Some.end c.position.result found c.in-Some.is

pub returns-in-None-clause-word : goal.returns-in-None-clause-word
returns-in-None-clause-word c =
    let found : Found c.args.text.now c.position.result = position_from_yields_List is_blank _ _ _ c.position.ensures.ran (YieldsList-from_slice c.args.text.now cc) (λ x q k. search (rules, tests)) in
    first-missing c.args.text.now c.position.result found c.in-None.is

pub returns-in-None-clause-behind : goal.returns-in-None-clause-behind
returns-in-None-clause-behind c =
    let found : Found c.args.text.now c.position.result = position_from_yields_List is_blank _ _ _ c.position.ensures.ran (YieldsList-from_slice c.args.text.now cc) (λ x q k. search (rules, tests)) in
    behind-missing c.args.text.now c.position.result found c.in-None.is
