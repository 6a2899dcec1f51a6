-- An answer that is what a definition wants, want of memory apart.
use Rattle.std.specs.Prelude.{◌≡◌, true, Result, Ok, Err}
use Rattle.std.specs.Result.{is_ok}
use Rattle.adc_line.specs.declared.fault.LineFault.{LineFault}
use Rattle.adc_line.specs.declared.fault.LineFault.TheVariants.{Memory, TooLong, NotUtf8, Header, Parameter, Escape}

-- `view` of the answer is what is wanted, or the fault is the one that is wanted; `Memory` stands in place of no fault
abbrev pub Gives : {X Y : Type 0} → (X → Y) → Result X LineFault → Result Y LineFault → Type 0
Gives view (Ok x) wanted = wanted ≡ Ok (view x)
Gives view (Err Memory) wanted = is_ok wanted ≡ true
Gives view (Err TooLong) wanted = wanted ≡ Err TooLong
Gives view (Err NotUtf8) wanted = wanted ≡ Err NotUtf8
Gives view (Err Header) wanted = wanted ≡ Err Header
Gives view (Err Parameter) wanted = wanted ≡ Err Parameter
Gives view (Err Escape) wanted = wanted ≡ Err Escape
