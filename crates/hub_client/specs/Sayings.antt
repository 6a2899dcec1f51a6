-- The messages that a client sends, as they are written.
use Rattle.std.specs.Prelude.{◌≡◌, ℕ, Bool, List, length, ◌∷◌, ◌++◌, codes, if◌then◌else◌}
use Rattle.adc_base32.specs.Bits.{AreDigits}
use Rattle.adc_base32.specs.Sids.{sid_text}
use Rattle.adc_base32.specs.Spelled.{spelling}
use Rattle.adc_line.specs.Escapes.{escaped_text}

-- the first message of a client, or of a hub list's pinger
abbrev pub support_text : Bool → List ℕ
support_text is_pinger = if is_pinger then codes "HSUP ADBASE ADTIGR ADPING" else codes "HSUP ADBASE ADTIGR"

-- 24 bytes are spelt with 39 digits
abbrev pub IsSpelt : List ℕ → Type 0
IsSpelt bytes = (length (spelling bytes) ≡ 39) × AreDigits (spelling bytes)

-- the front of a login: the session identifier of a client, its client identifier and its private one
abbrev pub identifiers_text : ℕ → List ℕ → List ℕ → List ℕ
identifiers_text sid cid private = codes "BINF " ++ sid_text sid ++ codes " ID" ++ spelling cid ++ codes " PD" ++ spelling private

-- the login of a client with a nick, that shares nothing
abbrev pub login_text : ℕ → List ℕ → List ℕ → List ℕ → List ℕ
login_text sid cid private nick = identifiers_text sid cid private ++ codes " NI" ++ escaped_text nick ++ codes " SS0 SF0 VEadc-hubctl\\s1.0"

-- the answer to a challenge: the digest of the password with the challenge behind it
abbrev pub password_text : (List ℕ → List ℕ) → List ℕ → List ℕ → List ℕ
password_text hash password challenge = codes "HPAS " ++ spelling (hash (password ++ challenge))

-- a message to all
abbrev pub chat_text : ℕ → List ℕ → List ℕ
chat_text sid text = codes "BMSG " ++ sid_text sid ++ 32 ∷ escaped_text text
