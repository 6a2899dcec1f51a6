use Rattle.std.proofs.Common.{sym, subst, List, ℕ, Option, None}
use Rattle.std.specs.Net.Grammar.{IsSocketV4Text}
use Rattle.hub_settings.specs.Settings.{IsSpelled}
use Rattle.hub_settings.proofs.reading.listen_at.Goals as goal

pub returns-in-Err : goal.returns-in-Err
returns-in-Err c =
    subst (λ (text : Option (List ℕ)). IsSpelled text None) c.in_ok-text.ensures
    (λ address spelled. c.in-Err.ensures address (subst (λ (text : List ℕ). IsSocketV4Text text address) (sym c.as_bytes.ensures.value) spelled))
