use Rattle.std.proofs.Common.{◌∙◌, sym}
use Rattle.hub_startup.proofs.one_connection.stdin_setup.Goals as goal

pub unreachable-requires : goal.unreachable-requires
unreachable-requires c = let h = sym c.stdin_options-options.ensures ∙ (rw c.in-Err-Limit.field-0-is at c.in-Err-Limit.ensures.exact) in cc h

pub unreachable-requires-in-Err-Name : goal.unreachable-requires-in-Err-Name
unreachable-requires-in-Err-Name c = let h = sym c.stdin_options-options.ensures ∙ (rw c.in-Err-Name.field-0-is at c.in-Err-Name.ensures.exact) in cc h

pub unreachable-requires-in-Err-Account : goal.unreachable-requires-in-Err-Account
unreachable-requires-in-Err-Account c = let h = sym c.stdin_options-options.ensures ∙ (rw c.in-Err-Account.field-0-is at c.in-Err-Account.ensures.exact) in cc h

pub unreachable-requires-in-Err-Command : goal.unreachable-requires-in-Err-Command
unreachable-requires-in-Err-Command c = let h = sym c.stdin_options-options.ensures ∙ (rw c.in-Err-Command.field-0-is at c.in-Err-Command.ensures.exact) in cc h
