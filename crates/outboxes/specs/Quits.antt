-- The line by which a hub says that a user has left (ADC 1.0, "QUI").
use Rattle.std.specs.Prelude.{ℕ, List, [], ◌∷◌, ◌++◌, codes}
use Rattle.adc_base32.specs.Sids.{sid_text}

-- with its line feed
abbrev pub quit_line : ℕ → List ℕ
quit_line sid = codes "IQUI " ++ sid_text sid ++ 10 ∷ []
