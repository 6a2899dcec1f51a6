use Rattle.std.proofs.Common.{◌≡◌, ◌∙◌, subst, sym, Some, None, length}
use Rattle.outboxes.specs.Backlogs.{Backlog, size_of}
use Rattle.shared_log.specs.Entries.{entry_lines}
use Rattle.shared_log.specs.Tallies.{IsTally, grown}
use Rattle.shared_log.proofs.Tallies.{given-lags, tally-none, tally-some}
use Rattle.shared_log.proofs.tally.Tally.add.Goals as goal

pub returns-then-self : goal.returns-then-self
returns-then-self c =
    λ b h. subst (λ (x : Backlog). IsTally x c.args.self.now) (sym (given-lags b (entry_lines c.args.entry.now) (sym h.lags ∙ c.if-self.true))) h

pub returns-in-Some : goal.returns-in-Some
returns-in-Some c =
    λ b h.
    let is : Some c.in-Some.grown ≡ grown c.args.self.now (length (entry_lines c.args.entry.now)) (size_of (entry_lines c.args.entry.now)) = c.in-Some.ensures in
    tally-some b c.args.self.now (entry_lines c.args.entry.now) h c.if-self.false c.in-Some.grown is

pub returns-in-None : goal.returns-in-None
returns-in-None c =
    λ b h.
    let is : None ≡ grown c.args.self.now (length (entry_lines c.args.entry.now)) (size_of (entry_lines c.args.entry.now)) = c.in-None.ensures in
    tally-none b c.args.self.now (entry_lines c.args.entry.now) h c.if-self.false is
