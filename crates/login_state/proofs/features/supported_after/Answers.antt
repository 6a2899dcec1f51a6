use Rattle.std.proofs.Common.{◌∙◌, sym, ap, ◌++◌, arith}
use Rattle.login_state.specs.Seen.{is_in, unseen}
use Rattle.login_state.specs.Support.{features_left}
use Rattle.login_state.proofs.Mentioned.{supported-parts}
use Rattle.login_state.proofs.Sightings.{names-end, unseen-unmentioned}
use Rattle.login_state.proofs.features.supported_after.Goals as goal

pub returns : goal.returns
returns c =
    names-end (is_in c.last_added.new.seen) c.args.before.now c.loop-feature.names.items
    (features_left c.args.mentions.items ++ unseen (is_in c.last_added.new.seen) c.args.before.now)
    c.loop-feature.feature-index (omega arith) c.loop-feature.invariant
    ∙ ap (λ kept. features_left c.args.mentions.items ++ kept)
    (unseen-unmentioned (is_in c.last_added.new.seen) c.args.mentions.items c.args.before.now c.in_ok-names.ensures.seen)
    ∙ sym (supported-parts c.args.before.now c.args.mentions.items)
