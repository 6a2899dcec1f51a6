use Rattle.std.specs.String.{string_bytes}
use Rattle.hub_startup.proofs.Words.{only_one, one_is}
use Rattle.hub_startup.proofs.command_line.asks_for_stdin.Goals as goal

pub returns-in-len1 : goal.returns-in-len1
returns-in-len1 c =
    let one = only_one string_bytes c.args.words.now c.word-item.result c.in-len1.len_at_least c.in-len1.len_below c.word-item.is in
    one_is _ (string_bytes c.word-item.result) c.as_str.result.now _ c.eq.result one c.as_str.ensures.value c.eq.ensures
