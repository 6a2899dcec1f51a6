-- A bell that nobody has rung, and at which nobody waits.
use Rattle.std.proofs.Common.{◌≡◌, None, false}
use Rattle.server_tasks.specs.declared.bells.BellState.{BellState}

abbrev pub IsSilent : BellState → Type 0
IsSilent bell = (bell.heard ≡ 0) × (bell.waits ≡ false) × (bell.waker ≡ None)
