-- What is said of descriptors when a server begins to listen.
use Rattle.std.specs.Prelude.{ℕ, ◌<◌, ◌+◌, ◌++◌, List, codes, Option, IsSomeAnd}
use Rattle.std.specs.Fmt.{decimal}
use Rattle.hub_warnings.specs.Texts.{moment_text}
use Rattle.hub_listener.specs.declared.start_lines.FewDescriptors.{FewDescriptors}

-- a server for so many users needs more than the system allows
abbrev pub AreFew : ℕ → Option ℕ → Type 0
AreFew users allowed = IsSomeAnd allowed (λ count. count < users + 32)

abbrev pub few_text : FewDescriptors → List ℕ
few_text few =
    moment_text few.moment ++ (codes " " ++ (decimal few.users ++ (codes " users need " ++ (decimal few.needed
    ++ (codes " descriptors, and the system allows " ++ decimal few.allowed)))))
