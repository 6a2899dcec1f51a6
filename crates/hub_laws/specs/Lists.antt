-- One list for all: what a user who is present was told of users, line after line, comes to exactly those who are present, in order of entry, with their fields.
use Rattle.std.specs.Prelude.{◌≡◌, ◌≤◌, ℕ, ◌||◌, Bool, false, not, List, [], ◌∷◌, ◌++◌, codes, filter, fold, map, if◌then◌else◌}
use Rattle.std.specs.List.{list_any, slice_split}
use Rattle.std.specs.Str.{bytes_eq}
use Rattle.adc_base32.specs.Sids.{sid_text}
use Rattle.adc_line.specs.Frames.{is_lf}
use Rattle.adc_line.specs.Words.{is_blank}
use Rattle.inf_fields.specs.Field.{Field, is_called}
use Rattle.inf_fields.specs.FieldNames.{client_type_name}
use Rattle.inf_fields.specs.Merging.{merged_with}
use Rattle.inf_fields.specs.Updates.{field_in, is_named}
use Rattle.login_state.specs.declared.stage.Stage.TheVariants.{Normal}
use Rattle.hub_rules.specs.declared.history.Entry.{Entry}
use Rattle.hub_rules.specs.Configured.{most_users, Configured}
use Rattle.hub_rules.specs.History.{info, lags, lines_owed, present, sid, stage}

-- ---- the list of users that a client keeps

-- a user as a client lists it: its session identifier as it is spelt, and its fields
abbrev pub Listing : Type 0
Listing = List ℕ × List Field

abbrev pub has_user : List ℕ → List Listing → Bool
has_user word users = list_any (λ (user : Listing). bytes_eq user.0 word) users

abbrev pub updated_listing : List ℕ → List Field → Listing → Listing
updated_listing word fields user = if bytes_eq user.0 word then (user.0, merged_with user.1 fields) else user

-- a BINF: a user who is listed has these fields too, another is listed with them
abbrev pub with_user : List ℕ → List Field → List Listing → List Listing
with_user word fields users = if has_user word users then map (updated_listing word fields) users else users ++ (word, fields) ∷ []

-- an IQUI: the user is listed no more
abbrev pub without_user : List ℕ → List Listing → List Listing
without_user word users = filter (λ (user : Listing). not (bytes_eq user.0 word)) users

-- ---- what lines tell it

-- the words of a line: what stands between its blanks, and before its line feed
abbrev pub pieces : List ℕ → List (List ℕ)
pieces line = slice_split (λ b. is_blank b || is_lf b) line

-- the fields that words tell, but what the hub itself says of the client (CT)
abbrev pub fields_told : List (List ℕ) → List Field
fields_told words = filter (λ f. not (is_called client_type_name f)) (map field_in (filter is_named words))

-- what a line makes of the list, by its first two words: `BINF` and `IQUI`, and the session identifier; no other line changes it
abbrev pub heard_words : List (List ℕ) → List Listing → List Listing
heard_words [] users = users
heard_words (first ∷ []) users = users
heard_words (first ∷ word ∷ more) users =
    if bytes_eq first (codes "BINF") then with_user word (fields_told more) users
    else if bytes_eq first (codes "IQUI") then without_user word users
    else users

abbrev pub heard : List Listing → List ℕ → List Listing
heard users line = heard_words (pieces line) users

-- the list after these lines, from the first on
unfoldable pub list_after : List (List ℕ) → List Listing
list_after lines = fold heard [] lines

-- ---- who is present

-- the users who are present, as they are to be listed
abbrev pub users_present : Configured → (List ℕ → List ℕ) → List Entry → List Listing
users_present setup hash h = map (λ c. (sid_text (sid setup hash h c), info setup hash h c)) (present setup hash h)

-- whoever is present and does not lag lists exactly these; so any two of them list the same
abbrev pub AllListTheSame : Type 0
AllListTheSame =
    (setup : Configured) (hash : List ℕ → List ℕ) (h : List Entry) (d : ℕ) → setup.plain.max_users ≤ most_users → stage setup hash h d ≡ Normal → lags setup hash h d ≡ false
    → list_after (lines_owed setup hash h d) ≡ users_present setup hash h
