use Rattle.std.proofs.Common.{sym, ◌∙◌}
use Rattle.login_state.proofs.SignedWords.{mention_at_is}
use Rattle.login_state.proofs.feature.mention_at.Goals as goal

pub returns : goal.returns
returns c = c.read_mention.ensures ∙ sym (mention_at_is _)
