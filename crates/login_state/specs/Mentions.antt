-- The words of a SUP (ADC 1.0, "SUP"): each adds a feature or removes it.
use Rattle.std.specs.Prelude.{ℕ, not, List, [], ◌∷◌, take, drop, codes, Option, Some, None, if◌then◌else◌}
use Rattle.std.specs.Option.{option_map, option_and_then}
use Rattle.std.specs.Str.{bytes_eq}
use Rattle.adc_line.specs.Header.{is_feature_name}
use Rattle.login_state.specs.declared.feature.Mention.{Mention}
use Rattle.login_state.specs.declared.feature.Mention.TheVariants.{Adds, Removes}

-- the protocol itself
abbrev pub base : List ℕ
base = codes "BASE"

-- the hash of the session
abbrev pub tigr : List ℕ
tigr = codes "TIGR"

-- the hub tells about itself at once
abbrev pub ping : List ℕ
ping = codes "PING"

-- the hub offers commands in menus
abbrev pub ucmd : List ℕ
ucmd = codes "UCMD"

-- the feature of a name, where it is one; BAS0 and UCM0 are early names of BASE and UCMD
unfoldable pub feature_named : List ℕ → Option (List ℕ)
feature_named name =
    if not (is_feature_name name) then None
    else if bytes_eq name (codes "BAS0") then Some base
    else if bytes_eq name (codes "UCM0") then Some ucmd
    else Some name

-- what a word says of a feature: `AD` and its name, or `RM` and its name
unfoldable pub mention_at : List ℕ → Option Mention
mention_at word =
    if bytes_eq (take 2 word) (codes "AD") then option_map (λ (feature : List ℕ). Adds feature) (feature_named (drop 2 word))
    else if bytes_eq (take 2 word) (codes "RM") then option_map (λ (feature : List ℕ). Removes feature) (feature_named (drop 2 word))
    else None

-- what words say of features, where each says something
unfoldable pub mentions_at : List (List ℕ) → Option (List Mention)
mentions_at [] = Some []
mentions_at (word ∷ words) =
    option_and_then (λ (mention : Mention). option_map (λ (mentions : List Mention). mention ∷ mentions) (mentions_at words)) (mention_at word)
