use Rattle.settings_report.proofs.Contained.{contained}
use Rattle.settings_report.proofs.menu_texts.has_carriage_return.Goals as goal

pub returns : goal.returns
returns c = contained c.args.text.now c.contains.result c.contains.ensures.cases
