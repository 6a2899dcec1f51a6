-- The present users after an entry and an update, and when these are refused.
use Rattle.std.specs.Prelude.{◌≡◌, ℕ, ◌++◌, not, eqb, encode_utf8_all, Bool, false, List, [], ◌∷◌, map, Option, Some, None, is_some, Result, Ok, Err, if◌then◌else◌}
use Rattle.std.specs.List.{IsDistinct}
use Rattle.std.specs.Str.{bytes_eq}
use Rattle.unicode_normalization.specs.Forms.{nfc}
use Rattle.inf_fields.specs.Field.{Field}
use Rattle.inf_fields.specs.Merging.{fits}
use Rattle.user_table.specs.declared.refused.TableRefused.{TableRefused}
use Rattle.user_table.specs.declared.refused.TableRefused.TheVariants.{Memory, NickTaken, CidTaken}
use Rattle.user_table.specs.Listed.{Listed}
use Rattle.user_table.specs.Tables.{has_sid, user_by_sid, user_by_cid, user_by_key, with_update}

-- no two users have one session identifier, one nick's key or one client identifier
pub record AreDistinct (users : List Listed) : Type 0 where
  pub sids : IsDistinct eqb (map (λ (user : Listed). user.sid) users)
  pub cids : IsDistinct bytes_eq (map (λ (user : Listed). user.cid) users)
  pub keys : IsDistinct bytes_eq (map (λ (user : Listed). user.key) users)

-- the key of a nick: its code points in Unicode's normal form C, in UTF-8
abbrev pub key_of : List ℕ → List ℕ
key_of points = encode_utf8_all (nfc points)

abbrev pub given_key : Option (List ℕ) → Option (List ℕ)
given_key None = None
given_key (Some points) = Some (key_of points)

abbrev pub nick_taken : List ℕ → List Listed → Bool
nick_taken key users = is_some (user_by_key key users)

abbrev pub cid_taken : List ℕ → List Listed → Bool
cid_taken cid users = is_some (user_by_cid cid users)

-- the users once another has entered: behind all others, where neither nick nor client identifier is taken
abbrev pub users_after_entry : Listed → List Listed → Result (List Listed) TableRefused
users_after_entry user users =
    if nick_taken user.key users
    then Err NickTaken
    else (if cid_taken user.cid users then Err CidTaken else Ok (users ++ user ∷ []))

-- whether somebody else has it
abbrev pub is_other : ℕ → Option Listed → Bool
is_other sid None = false
is_other sid (Some user) = not (has_sid sid user)

-- whether a user other than this one has the key that is given
abbrev pub held_by_other : ℕ → Option (List ℕ) → List Listed → Bool
held_by_other sid None users = false
held_by_other sid (Some key) users = is_other sid (user_by_key key users)

-- the users once one of them is updated, and has the key that is given, where no other user has it
abbrev pub users_after_update : ℕ → List Field → Option (List ℕ) → List Listed → Result (List Listed) TableRefused
users_after_update sid update key users = if held_by_other sid key users then Err NickTaken else Ok (with_update sid update key users)

abbrev pub fits_user : List Field → Option Listed → Bool
fits_user update None = false
fits_user update (Some user) = fits user.fields update

-- whether the user with this session identifier is present, with room for the fields of an update
abbrev pub takes_update : ℕ → List Field → List Listed → Bool
takes_update sid update users = fits_user update (user_by_sid sid users)

-- a refusal is the one that is wanted; `Memory` says nothing
abbrev pub Refuses : TableRefused → Result (List Listed) TableRefused → Type 0
Refuses Memory wanted = Unit {0}
Refuses NickTaken wanted = wanted ≡ Err NickTaken
Refuses CidTaken wanted = wanted ≡ Err CidTaken
