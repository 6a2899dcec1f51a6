use Rattle.std.proofs.Common.{ap, rules}
use Rattle.std.specs.Prelude.{◌||◌}
use Rattle.login_state.specs.Seen.{is_in}
use Rattle.login_state.specs.Support.{is_mentioned, features_left}
use Rattle.login_state.proofs.Sightings.{names-step, seen-step, unseen-none, names-whole}
use Rattle.login_state.proofs.features.last_added.Goals as goal

pub mentions-init : goal.mentions-init
mentions-init c = record {
  names = rw c.new-names.ensures.items (unseen-none (is_in c.args.seen.now) c.requires (features_left c.args.mentions.items));
  seen = λ feature. ap (λ b. b || is_mentioned feature c.args.mentions.items) (c.requires feature);
}

pub mentions-preserved : goal.mentions-preserved
mentions-preserved c = record {
  names = names-step (is_in c.mentions.seen) (is_in c.note.new.seen) c.in-Some.mention c.pop.new.self.items c.mentions.left.items
      c.mentions.names.items c.note.new.names.items (features_left c.args.mentions.items)
      c.in_ok-note.ensures.seen c.in-Some.ensures.items c.mentions.invariant.names c.in_ok-note.ensures.names;
  seen = λ feature. seen-step feature (is_in c.mentions.seen feature) (is_in c.note.new.seen feature) (is_mentioned feature c.args.mentions.items)
      c.in-Some.mention c.pop.new.self.items c.mentions.left.items
      (c.in_ok-note.ensures.seen feature) c.in-Some.ensures.items (c.mentions.invariant.seen feature);
}

pub returns-clause-names : goal.returns-clause-names
returns-clause-names c =
    names-whole (is_in c.mentions.seen) c.mentions.left.items c.mentions.names.items (features_left c.args.mentions.items)
    (search (rules, c.in_default.ensures.cases.0)) c.mentions.invariant.names
