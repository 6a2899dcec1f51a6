-- A line as contracts see it.
use Rattle.std.specs.Prelude.{◌≡◌, Ok}
use Rattle.std.specs.String.{string_bytes}
use Rattle.adc_line.specs.declared.line.Line.TheInside.{Inside}
use Rattle.adc_line.specs.Lines.{Reading, reading, message}

abbrev pub line_message : Inside → Reading
line_message l = message (string_bytes l.text) l.header

abbrev pub IsRead : Inside → Type 0
IsRead l = reading (string_bytes l.text) ≡ Ok (line_message l)
