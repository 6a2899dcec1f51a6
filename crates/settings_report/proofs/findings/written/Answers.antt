use Rattle.std.proofs.Common.{◌≡◌, ◌++◌, ap, ◌∙◌, IsOk, rules, string_bytes}
use Rattle.std.proofs.lemmas.Fmt.{contents_after_writes}
use Rattle.settings_report.proofs.findings.written.Goals as goal

pub returns-in-Ok : goal.returns-in-Ok
returns-in-Ok c =
    let ok : IsOk c.fmt.result = search rules in
    let (text, wrote, shown) = c.fmt.ensures.text c.new-text.ensures.plain ok in
    let same : string_bytes c.into_inner.result ≡ text =
    ap string_bytes c.into_inner.ensures ∙ contents_after_writes _ string_bytes (λ w l v t. t) _ text _ wrote.wrote
    ∙ ap (λ l. l ++ text) (ap string_bytes c.new-text.ensures.writer ∙ c.new.ensures.bytes) in
    rw same shown
