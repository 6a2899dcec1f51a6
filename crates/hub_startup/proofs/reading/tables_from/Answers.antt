use Rattle.std.proofs.Common.{List, ℕ, sym, subst}
use Rattle.hub_startup.specs.Files.{AreFirstBytes}
use Rattle.hub_startup.proofs.Read.{tables-read}
use Rattle.hub_startup.proofs.reading.tables_from.Goals as goal

pub returns-in-Ok-clause-tables : goal.returns-in-Ok-clause-tables
returns-in-Ok-clause-tables g c =
    let first : AreFirstBytes 8_193 (g.F.Read.remaining c.args.reader) c.deref.result.now =
    subst (λ (xs : List ℕ). AreFirstBytes 8_193 (g.F.Read.remaining c.args.reader) xs) (sym c.deref.ensures.value) c.in-Ok.ensures in
    tables-read c.tables_of.result (g.F.Read.remaining c.args.reader) c.deref.result.now first c.tables_of.ensures.length c.tables_of.ensures.words
