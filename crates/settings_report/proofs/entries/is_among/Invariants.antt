use Rattle.std.proofs.Common.{◌≡◌, map, drop}
use Rattle.hub_settings.specs.Unknown.{is_among}
use Rattle.settings_report.proofs.entries.is_among.Given as goal

abbrev pub invariant-loop-word : goal.invariant-loop-word
invariant-loop-word l = is_among (map (λ word. word.now) l.known) l.key ≡ is_among (map (λ word. word.now) (drop l.word-index l.known)) l.key
