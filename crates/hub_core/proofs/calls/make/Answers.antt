use Rattle.std.proofs.Common.{sym, subst}
use Rattle.hub_core.specs.Runs.{Answers}
use Rattle.hub_core.specs.declared.calls.Ask.{Ask}
use Rattle.hub_core.proofs.calls.make.Goals as goal

pub returns-in-Join-clause-answers : goal.returns-in-Join-clause-answers
returns-in-Join-clause-answers c = subst (λ (ask : Ask). Answers c.args.asked.caller ask c.join.result c.args.core.now c.join.new.core) (sym c.in-Join.is) (c.join.ensures.answers c.args.asked.caller)

pub returns-in-Line-clause-answers : goal.returns-in-Line-clause-answers
returns-in-Line-clause-answers c = subst (λ (ask : Ask). Answers c.args.asked.caller ask c.say.result c.args.core.now c.say.new.core) (sym c.in-Line.is) (c.say.ensures.answers c.args.asked.caller)

pub returns-in-Quit-clause-answers : goal.returns-in-Quit-clause-answers
returns-in-Quit-clause-answers c = subst (λ (ask : Ask). Answers c.args.asked.caller ask c.quit.result c.args.core.now c.quit.new.core) (sym c.in-Quit.is) (c.quit.ensures.answers c.args.asked.caller)

pub returns-in-Take-clause-answers : goal.returns-in-Take-clause-answers
returns-in-Take-clause-answers c = subst (λ (ask : Ask). Answers c.args.asked.caller ask c.take.result c.args.core.now c.take.new.core) (sym c.in-Take.is) (c.take.ensures.answers c.args.asked.caller)
