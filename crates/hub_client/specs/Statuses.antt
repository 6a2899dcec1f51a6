-- The status messages of a hub (ADC 1.0, "STA").
use Rattle.std.specs.Prelude.{◌≡◌, ◌≢◌, ◌⊎◌, ℕ, ◌==◌, ◌&&◌, ◌||◌, Bool, List, [], ◌∷◌, ◌++◌, codes, drop, get_or, length, slice_index, Option, None, Some, if◌then◌else◌}
use Rattle.std.specs.String.{string_bytes}
use Rattle.adc_line.specs.Escapes.{unescaped_text}
use Rattle.hub_client.specs.Fields.{IsFieldText, IsFirstField, IsMisspelt, spelt_text}
use Rattle.hub_client.specs.declared.status.LoginRefusal.{LoginRefusal}
use Rattle.hub_client.specs.declared.status.LoginRefusal.TheVariants.{Password, Banned, Other}
use Rattle.hub_client.specs.declared.status.Status.{Status}

-- the text of the first of the fields I4, FB, FM and FC that there is; empty where there is none
abbrev pub IsSubject : List (List ℕ) → List ℕ → Type 0
IsSubject words text =
    (value : Option (List ℕ)) × IsFirstField (codes "I4" ∷ codes "FB" ∷ codes "FM" ∷ codes "FC" ∷ []) words value × (spelt_text value ≡ Some text)

-- that value spells no text
abbrev pub IsMisspeltSubject : List (List ℕ) → Type 0
IsMisspeltSubject words =
    (value : Option (List ℕ)) × IsFirstField (codes "I4" ∷ codes "FB" ∷ codes "FM" ∷ codes "FC" ∷ []) words value × (spelt_text value ≡ None)

-- the parameters are those of this status: its number, its text, its subject, and the seconds that it lasts
pub record IsStatus (params : List (List ℕ)) (status : Status) : Type 0 where
  pub number : get_or params 0 [] ≡ status.number
  pub text : unescaped_text (get_or params 1 []) ≡ Some (string_bytes status.text)
  pub about : IsSubject (drop 2 params) (string_bytes status.about)
  pub seconds : IsFieldText (codes "TL") (drop 2 params) (string_bytes status.seconds)

-- the parameters are those of no status: the number has not three digits, or one of the others spells no text
abbrev pub IsNoStatus : List (List ℕ) → Type 0
IsNoStatus params =
    (length (get_or params 0 []) ≢ 3) ⊎ (unescaped_text (get_or params 1 []) ≡ None) ⊎ IsMisspeltSubject (drop 2 params) ⊎ IsMisspelt (codes "TL") (drop 2 params)

-- the first digit of a status is its severity: 0 is success
abbrev pub is_well : List ℕ → Bool
is_well number = slice_index number 0 == 48

abbrev pub has_code : List ℕ → ℕ → ℕ → Bool
has_code number tens ones = slice_index number 1 == tens && slice_index number 2 == ones

-- the meaning of a refusal by the two digits of its code: 23 is a wrong password, 31 and 32 are bans
abbrev pub refusal_by : List ℕ → LoginRefusal
refusal_by number =
    if has_code number 50 51 then Password
    else if has_code number 51 49 || has_code number 51 50 then Banned
    else Other

-- the subject of a status, in brackets; an empty text is none
abbrev pub subject_text : List ℕ → List ℕ
subject_text [] = []
subject_text (b ∷ bs) = codes " (" ++ (b ∷ bs ++ codes ")")

-- the seconds that it lasts; an empty text is none
abbrev pub seconds_text : List ℕ → List ℕ
seconds_text [] = []
seconds_text (b ∷ bs) = codes " for " ++ (b ∷ bs ++ codes " seconds")

-- a status as it is printed
abbrev pub status_text : Status → List ℕ
status_text status = string_bytes status.text ++ (subject_text (string_bytes status.about) ++ seconds_text (string_bytes status.seconds))
