use Rattle.std.specs.Str.{chars}
use Rattle.adc_ids.proofs.Points.{is_nick-is}
use Rattle.adc_ids.proofs.nick.is_nick.Goals as goal

pub returns-clause-tells : goal.returns-clause-tells
returns-clause-tells c = is_nick-is (chars c.args.text.now) c.tells_nick.result c.tells_nick.ensures
