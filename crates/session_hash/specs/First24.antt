-- A stand-in for a hash, for tests and worked examples.
use Rattle.std.specs.Prelude.{ℕ, ◌-◌, List, ◌++◌, take, length, replicate}

-- the first 24 bytes, filled up with zeros
abbrev pub first_24 : List ℕ → List ℕ
first_24 bytes = take 24 bytes ++ replicate (24 - length bytes) 0
