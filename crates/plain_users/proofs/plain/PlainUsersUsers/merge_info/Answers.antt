use Rattle.std.proofs.Common.{sym, ap, ◌∙◌, subst}
use Rattle.std.specs.Option.{option_map}
use Rattle.std.specs.String.{string_bytes}
use Rattle.user_table.specs.Changes.{AreDistinct, held_by_other}
use Rattle.user_table.proofs.RenewalLemmas.{distinct-renewed}
use Rattle.plain_users.proofs.plain.PlainUsersUsers.merge_info.Goals as goal

pub invariant_of-self-2 : goal.invariant_of-self-2
invariant_of-self-2 c =
    subst AreDistinct (sym c.in_ok-change.ensures.changed)
    (distinct-renewed c.args.sid c.args.update.now (option_map string_bytes c.in_ok-key.key) c.self.inside.users.items c.self.invariant
    (ap (held_by_other c.args.sid (option_map string_bytes c.in_ok-key.key)) (sym c.deref.ensures.value)
    ∙ sym c.is_held_by_other.ensures ∙ c.if-is_held_by_other.false))
