use Rattle.std.proofs.Common.{None, subst}
use Rattle.user_table.specs.Indexes.{IsSetAt}
use Rattle.user_table.specs.NickView.{key_entries}
use Rattle.user_table.proofs.IndexLemmas.{text-set}
use Rattle.user_table.proofs.nick_index.NickIndex.remove.Goals as goal

pub returns : goal.returns
returns c =
    subst (λ index. IsSetAt c.args.key.now None index (key_entries c.remove.new.self.entries)) c.self.view_is
    (text-set c.args.key.now c.self.inside.sids c.remove.new.self None c.remove.ensures.updates)
