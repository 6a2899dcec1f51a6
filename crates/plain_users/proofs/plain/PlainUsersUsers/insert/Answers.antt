use Rattle.std.proofs.Common.{sym, ap, ◌∙◌, subst}
use Rattle.user_table.specs.Changes.{AreDistinct, nick_taken, cid_taken}
use Rattle.user_table.specs.Tables.{user_by_sid}
use Rattle.user_table.proofs.TableLemmas.{distinct-either, distinct-entered}
use Rattle.plain_users.proofs.plain.PlainUsersUsers.insert.Goals as goal

pub invariant_of-self : goal.invariant_of-self
invariant_of-self c =
    subst AreDistinct (sym c.push.ensures.items)
    (distinct-either _ c.self.inside.users.items c.args.user c.self.invariant
    (distinct-entered c.args.user c.self.inside.users.items c.self.invariant
    (ap (user_by_sid c.args.user.sid) c.self.view_is ∙ c.requires.absent)
    (ap (nick_taken c.args.user.key) (sym c.deref.ensures.value) ∙ sym c.is_nick_taken.ensures ∙ c.if-is_nick_taken.false)
    (ap (cid_taken c.args.user.cid) (sym c.deref-2.ensures.value) ∙ sym c.is_cid_taken.ensures ∙ c.if-is_cid_taken.false)))
