-- The rest of a text as contracts see it.
use Rattle.std.specs.Prelude.{ℕ, List}
use Rattle.operator_acts.specs.declared.free_text.FreeText.TheInside.{Inside}

abbrev pub text_bytes : Inside → List ℕ
text_bytes text = text.text.now
