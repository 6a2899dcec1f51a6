-- The logins of the users of worked conversations, and the lines that others hear of them.
use Rattle.std.specs.Prelude.{◌≡◌, ℕ, List, [], ◌∷◌, ◌++◌, codes}
use Rattle.hub_rules.specs.Texts.{with_line_feed}
use Rattle.hub_examples.specs.Conversations.{one, zeros}
use Rattle.hub_examples.specs.PasswordLogins.{secret_digest}

-- the client identifier that 38 times A and Q spell
abbrev pub two : List ℕ
two = 0 ∷ 0 ∷ 0 ∷ 0 ∷ 0 ∷ 0 ∷ 0 ∷ 0 ∷ 0 ∷ 0 ∷ 0 ∷ 0 ∷ 0 ∷ 0 ∷ 0 ∷ 0 ∷ 0 ∷ 0 ∷ 0 ∷ 0 ∷ 0 ∷ 0 ∷ 0 ∷ 2 ∷ []

-- ana asks the hub to fill its address in
abbrev pub ana_text : List ℕ
ana_text = codes "BINF AAAB IDAAAAAAAAAAAAAAAAAAAAAAAAAAAAAAAAAAAAAAA PDAAAAAAAAAAAAAAAAAAAAAAAAAAAAAAAAAAAAAAA NIana SS10 SF2 I40.0.0.0 SUTCP4,SEGA"

abbrev pub ana_told : List ℕ
ana_told = with_line_feed (codes "BINF AAAB IDAAAAAAAAAAAAAAAAAAAAAAAAAAAAAAAAAAAAAAA NIana SS10 SF2 I4127.0.0.1 SUTCP4,SEGA")

abbrev pub bob_text : List ℕ
bob_text = codes "BINF AAAC IDAAAAAAAAAAAAAAAAAAAAAAAAAAAAAAAAAAAAAAI PDAAAAAAAAAAAAAAAAAAAAAAAAAAAAAAAAAAAAAAI NIbob SS5 SF1 SUTCP4"

abbrev pub bob_told : List ℕ
bob_told = with_line_feed (codes "BINF AAAC IDAAAAAAAAAAAAAAAAAAAAAAAAAAAAAAAAAAAAAAI NIbob SS5 SF1 SUTCP4")

abbrev pub cy_text : List ℕ
cy_text = codes "BINF AAAD IDAAAAAAAAAAAAAAAAAAAAAAAAAAAAAAAAAAAAAAQ PDAAAAAAAAAAAAAAAAAAAAAAAAAAAAAAAAAAAAAAQ NIcy"

abbrev pub cy_told : List ℕ
cy_told = with_line_feed (codes "BINF AAAD IDAAAAAAAAAAAAAAAAAAAAAAAAAAAAAAAAAAAAAAQ NIcy")

-- the client identifier that 38 times A and Y spell
abbrev pub three : List ℕ
three = 0 ∷ 0 ∷ 0 ∷ 0 ∷ 0 ∷ 0 ∷ 0 ∷ 0 ∷ 0 ∷ 0 ∷ 0 ∷ 0 ∷ 0 ∷ 0 ∷ 0 ∷ 0 ∷ 0 ∷ 0 ∷ 0 ∷ 0 ∷ 0 ∷ 0 ∷ 0 ∷ 3 ∷ []

abbrev pub dan_text : List ℕ
dan_text = codes "BINF AAAE IDAAAAAAAAAAAAAAAAAAAAAAAAAAAAAAAAAAAAAAY PDAAAAAAAAAAAAAAAAAAAAAAAAAAAAAAAAAAAAAAY NIdan"

abbrev pub dan_told : List ℕ
dan_told = with_line_feed (codes "BINF AAAE IDAAAAAAAAAAAAAAAAAAAAAAAAAAAAAAAAAAAAAAY NIdan")

-- there is a hash that makes of the identifiers and of the password what the examples say
abbrev pub SomeHashIsSo : Type 0
SomeHashIsSo =
    (hash : List ℕ → List ℕ)
    × (hash zeros ≡ zeros)
    × (hash one ≡ one)
    × (hash two ≡ two)
    × (hash three ≡ three)
    × (hash (codes "secret" ++ zeros) ≡ secret_digest)
