-- The tests of a line say what the relations do.
use Rattle.std.proofs.Common.{◌≡◌, refl, true}
use Rattle.adc_line.specs.Lines.{Reading}
use Rattle.hub_client.specs.Entries.{IsUserLine, is_user_line}

pub tells_user : (line : Reading) → IsUserLine line → is_user_line line ≡ true
tells_user line is = rw (is.0, is.1) refl
