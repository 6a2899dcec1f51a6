use Rattle.std.proofs.Common.{rules, append_assoc}
use Rattle.hub_setup.proofs.texts.ping_fields.Goals as goal

pub returns : goal.returns
returns c = search (append_assoc, rules)
