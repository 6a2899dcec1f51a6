use Rattle.std.proofs.Common.{take}
use Rattle.std.specs.Option.{option_copied}
use Rattle.hub_client.specs.Users.{IsLastField}
use Rattle.hub_client.proofs.user.last_field.Given as goal

-- the last field of the messages so far
abbrev pub invariant-loop-line : goal.invariant-loop-line
invariant-loop-line l = IsLastField l.name l.sid (take l.line-index l.lines) (option_copied l.last)
