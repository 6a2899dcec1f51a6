use Rattle.std.proofs.Common.{◌∙◌, sym, ap₂, refl}
use Rattle.inf_fields.specs.Cleaning.{clean}
use Rattle.inf_fields.specs.Field.{value_of}
use Rattle.hub_rules.proofs.Merges.{nick-clean}
use Rattle.hub_decisions.proofs.KnownUsers.{after-key, user-key}
use Rattle.hub_decisions.proofs.Updates.{key-given, key-renewed}
use Rattle.hub_decisions.proofs.update.key_after.Goals as goal

pub returns-in-Some : goal.returns-in-Some
returns-in-Some c =
    λ own known.
    c.key.ensures
    ∙ key-given own.fields c.args.inf.now (clean c.args.inf.now own.sender.peer) c.in-Some.field-0.now (c.in-Some.ensures ∙ ap₂ value_of c.nick.ensures c.update.ensures) (nick-clean c.args.inf.now own.sender.peer)
    ∙ after-key own c.args.inf.now

pub returns-in-None : goal.returns-in-None
returns-in-None c =
    λ own known.
    c.key-in-None.ensures ∙ user-key own c.args.user.now known
    ∙ key-renewed _ own.fields (clean c.args.inf.now own.sender.peer) refl (nick-clean c.args.inf.now own.sender.peer ∙ sym (c.in-None.ensures ∙ ap₂ value_of c.nick.ensures c.update.ensures))
    ∙ after-key own c.args.inf.now
