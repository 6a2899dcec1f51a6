use Rattle.std.proofs.Common.{◌∙◌, ap}
use Rattle.std.specs.Prelude.{◌||◌}
use Rattle.std.specs.Str.{bytes_eq}
use Rattle.login_state.specs.Seen.{is_in}
use Rattle.login_state.proofs.Sightings.{seen-more}
use Rattle.login_state.proofs.features.see.Goals as goal

pub returns-clause-seen : goal.returns-clause-seen
returns-clause-seen c = λ other.
    seen-more c.name.result other (is_in c.insert.new.self other) (is_in c.args.seen.now other) (c.in_ok-fresh.ensures.updates.0 other)
    ∙ ap (λ feature. is_in c.args.seen.now other || bytes_eq other feature) c.name.ensures
