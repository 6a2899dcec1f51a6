use Rattle.login_state.proofs.Mentioned.{features_of-nil}
use Rattle.login_state.proofs.features.Features.new.Goals as goal

pub returns-clause-before_any : goal.returns-clause-before_any
returns-clause-before_any c = search features_of-nil
