use Rattle.std.proofs.Common.{Some, subst}
use Rattle.std.specs.String.{string_bytes}
use Rattle.user_table.specs.Indexes.{IsSetAt}
use Rattle.user_table.specs.NickView.{key_entries}
use Rattle.user_table.proofs.IndexLemmas.{text-set}
use Rattle.user_table.proofs.nick_index.NickIndex.put.Goals as goal
use Rattle.user_table.proofs.nick_index.NickIndex.put.Goals.{in-Ok, in-Err}

pub returns-clause-put : goal.returns-clause-put
returns-clause-put c =
    elim c.match-insert.branch [
      | in-Ok w ↦
          rw w.result-is
          (subst (λ key. IsSetAt key (Some c.args.sid) c.args.self.now (key_entries c.insert.new.self.entries)) c.in_ok-key.ensures.ok
          (subst (λ index. IsSetAt (string_bytes c.in_ok-key.key) (Some c.args.sid) index (key_entries c.insert.new.self.entries)) c.self.view_is
          (text-set (string_bytes c.in_ok-key.key) c.self.inside.sids c.insert.new.self (Some c.args.sid) w.in-Ok.ensures.updates)))
      | in-Err w ↦ rw w.result-is tt
    ]
