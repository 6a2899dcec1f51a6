use Rattle.std.proofs.Common.{sym, ap, ◌∙◌}
use Rattle.user_table.specs.Indexes.{sid_at}
use Rattle.user_table.proofs.IndexLemmas.{sid_at-keyed}
use Rattle.user_table.proofs.nick_index.NickIndex.get.Goals as goal

pub returns : goal.returns
returns c =
    c.copied.ensures ∙ c.get.ensures.value ∙ sym (sid_at-keyed c.self.inside.sids.entries c.args.key.now) ∙ ap (λ index. sid_at index c.args.key.now) c.self.view_is
