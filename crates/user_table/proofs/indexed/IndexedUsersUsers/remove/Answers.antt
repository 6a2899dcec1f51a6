use Rattle.std.proofs.Common.{List, sym, ◌∙◌, subst}
use Rattle.user_table.specs.IndexedView.{AreIndexed}
use Rattle.user_table.specs.Listed.{Listed}
use Rattle.user_table.proofs.IndexedLemmas.{gone-as, indexed-left, nobody-left}
use Rattle.user_table.proofs.indexed.IndexedUsersUsers.remove.Goals as goal

pub invariant_of-self : goal.invariant_of-self
invariant_of-self c =
    let same = c.remove.ensures.left ∙ nobody-left c.args.sid c.self.inside.roster (sym c.in_err-user.ensures.removed) in
    subst (λ (users : List Listed). AreIndexed users c.self.inside.nicks c.self.inside.cids) (sym same) c.self.invariant

pub invariant_of-self-2 : goal.invariant_of-self-2
invariant_of-self-2 c =
    let user = c.in_ok-user.user in
    let nicks = c.self.inside.nicks in
    let cids = c.self.inside.cids in
    let no-key = gone-as c.key-key.result.now user.key nicks c.remove-2.new.self c.key-key.ensures c.remove-2.ensures in
    let no-cid = gone-as c.cid.result user.cid cids c.remove-3.new.self c.cid.ensures c.remove-3.ensures in
    subst (λ (users : List Listed). AreIndexed users c.remove-2.new.self c.remove-3.new.self) (sym c.remove.ensures.left)
    (indexed-left c.args.sid user c.self.inside.roster nicks c.remove-2.new.self cids c.remove-3.new.self c.self.invariant (sym c.in_ok-user.ensures.removed) no-key no-cid)
