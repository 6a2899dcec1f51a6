use Rattle.std.proofs.Common.{◌∙◌, ap, sym, List, ℕ, ◌++◌}
use Rattle.std.specs.Prelude.{codes}
use Rattle.history_check.proofs.Reported.{line_text_append}
use Rattle.history_check.specs.declared.check.Demand.{Demand}
use Rattle.history_check.specs.Reported.{demand_text, line_text, reply_text}
use Rattle.history_check.specs.Written.{reply_of}
use Rattle.history_check.proofs.report.tell_demand.Goals as goal

pub returns-in_ok-append_reply-in-Gives : goal.returns-in_ok-append_reply-in-Gives
returns-in_ok-append_reply-in-Gives c =
    c.in_ok-append_reply-in-Gives.ensures
    ∙ ap (λ (text : List ℕ). text ++ reply_text (reply_of c.in-Gives.reply)) c.in_ok-text-in-Gives.ensures
    ∙ line_text_append c.args.number (codes "is to be answered ") (reply_text (reply_of c.in-Gives.reply))
    ∙ ap (λ (demand : Demand). line_text c.args.number (demand_text demand)) (sym c.in-Gives.is)
