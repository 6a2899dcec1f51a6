use Rattle.std.proofs.Common.{◌≡◌, ◌++◌, drop}
use Rattle.login_state.specs.Seen.{is_in, unseen}
use Rattle.login_state.specs.Support.{features_left}
use Rattle.login_state.proofs.features.supported_after.Given as goal

abbrev pub invariant-loop-feature : goal.invariant-loop-feature
invariant-loop-feature l =
    l.names.items ++ unseen (is_in l.seen) (drop l.feature-index l.before) ≡ features_left l.fn.mentions.items ++ unseen (is_in l.seen) l.before
