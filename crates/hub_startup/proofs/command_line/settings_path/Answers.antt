use Rattle.std.specs.Prelude.{codes}
use Rattle.std.specs.String.{string_bytes}
use Rattle.std.proofs.Common.{◌∙◌, ap, sym, [], ◌∷◌}
use Rattle.hub_startup.proofs.Words.{only_two, first_is}
use Rattle.hub_startup.proofs.command_line.settings_path.Goals as goal

pub returns-in-len2-clause-path : goal.returns-in-len2-clause-path
returns-in-len2-clause-path c =
    let two = only_two string_bytes c.args.words.now c.word-item.result c.path-item.result c.in-len2.len_at_least c.in-len2.len_below c.word-item.is c.path-item.is in
    first_is _ (string_bytes c.word-item.result) c.as_str.result.now _ _ c.eq.result two c.as_str.ensures.value c.eq.ensures c.if-eq.true
    ∙ ap (λ path. codes "serve" ∷ path ∷ []) (sym c.as_str-in-len2.ensures.value)
