-- The present users after an entry, an exit and an update.
use Rattle.std.proofs.Common.{◌≡◌, ℕ, suc, ◌+◌, ◌<◌, eqb, Bool, true, false, not, List, [], ◌∷◌, ◌++◌, length, take, drop, refl, sym, subst, true≢false, arith, slice_index_or, slice_set}
use Rattle.std.specs.Prelude.{Option, Some, None, Result, Ok, Err, is_some, IsTrue, OnOk, if◌then◌else◌}
use Rattle.std.specs.List.{IsDistinct}
use Rattle.std.specs.Str.{bytes_eq}
use Rattle.std.proofs.lemmas.Bool.Decides.{Decides-eqb}
use Rattle.inf_fields.specs.Field.{Field}
use Rattle.inf_fields.specs.Merging.{fits}
use Rattle.user_table.specs.Changes.{AreDistinct, fits_user, takes_update}
use Rattle.user_table.specs.Listed.{Listed}
use Rattle.user_table.specs.Places.{place_from}
use Rattle.user_table.specs.Tables.{has_sid, has_cid, has_key, user_by_sid, user_by_cid, user_by_key, without_sid, with_update, updated_user, updated_if}
use Rattle.user_table.proofs.PlaceLemmas.{IsFirst, AreApart, place-found, place-none, nobody-first, first-nobody, first-here, first-below, nobody-filter, first-filter, first-map}
use Rattle.user_table.proofs.DistinctLemmas.{apart-by, distinct-append, distinct-filter}

pub no-users : AreDistinct []
unfolding IsDistinct
no-users = record { sids = tt; cids = tt; keys = tt }

first-at : (sid : ℕ) (users : List Listed) (place : ℕ) → place_from (has_sid sid) 0 users ≡ Some place → IsFirst (has_sid sid) users place
first-at sid users place e =
    let found = place-found (has_sid sid) 0 users place e in
    let same : found.0 ≡ place = let k : place ≡ 0 + found.0 = found.1 in omega arith in
    subst (IsFirst (has_sid sid) users) same found.2

pub place-below : (sid : ℕ) (users : List Listed) (place : ℕ) → place_from (has_sid sid) 0 users ≡ Some place → place < length users
place-below sid users place e = first-below (has_sid sid) users place (first-at sid users place e)

pub place-user : (sid : ℕ) (users : List Listed) (place : ℕ) (d : Listed) → place_from (has_sid sid) 0 users ≡ Some place → user_by_sid sid users ≡ Some (slice_index_or users place d)
place-user sid users place d e = first-here (has_sid sid) users place d (first-at sid users place e)

pub sids-apart : (sid : ℕ) (users : List Listed) → AreDistinct users → AreApart (has_sid sid) users
sids-apart sid users d = apart-by eqb Decides-eqb (λ (user : Listed). user.sid) sid users d.sids

pub place-removed : (sid : ℕ) (users : List Listed) (place : ℕ) → AreDistinct users → place_from (has_sid sid) 0 users ≡ Some place
    → take place users ++ drop (suc place) users ≡ without_sid sid users
place-removed sid users place d e = first-filter (has_sid sid) users place (first-at sid users place e) (sids-apart sid users d)

pub place-changed : (sid : ℕ) (update : List Field) (key : Option (List ℕ)) (users : List Listed) (place : ℕ) (d : Listed) → AreDistinct users
    → place_from (has_sid sid) 0 users ≡ Some place
    → slice_set users place (updated_user update key (slice_index_or users place d)) ≡ with_update sid update key users
place-changed sid update key users place d are e =
    first-map (λ b user. updated_if b update key user) (λ _. refl) (has_sid sid) users place d (first-at sid users place e) (sids-apart sid users are)

pub absent-user : (sid : ℕ) (users : List Listed) → place_from (has_sid sid) 0 users ≡ None → user_by_sid sid users ≡ None
absent-user sid users e = nobody-first (has_sid sid) users (place-none (has_sid sid) 0 users e)

pub absent-left : (sid : ℕ) (users : List Listed) → place_from (has_sid sid) 0 users ≡ None → users ≡ without_sid sid users
absent-left sid users e = sym (nobody-filter (has_sid sid) users (place-none (has_sid sid) 0 users e))

pub distinct-without : (sid : ℕ) (users : List Listed) → AreDistinct users → AreDistinct (without_sid sid users)
distinct-without sid users d = record {
  sids = distinct-filter eqb (λ (user : Listed). user.sid) (λ user. not (has_sid sid user)) users d.sids;
  cids = distinct-filter bytes_eq (λ (user : Listed). user.cid) (λ user. not (has_sid sid user)) users d.cids;
  keys = distinct-filter bytes_eq (λ (user : Listed). user.key) (λ user. not (has_sid sid user)) users d.keys;
}

none-is : (o : Option Listed) → is_some o ≡ false → o ≡ None
none-is None e = refl
none-is (Some x) e = absurd (true≢false e)

pub distinct-entered : (user : Listed) (users : List Listed) → AreDistinct users → user_by_sid user.sid users ≡ None
    → is_some (user_by_key user.key users) ≡ false → is_some (user_by_cid user.cid users) ≡ false → AreDistinct (users ++ user ∷ [])
distinct-entered user users d sid key cid = record {
  sids = distinct-append eqb (λ (user : Listed). user.sid) users user d.sids (first-nobody (has_sid user.sid) users sid);
  cids = distinct-append bytes_eq (λ (user : Listed). user.cid) users user d.cids (first-nobody (has_cid user.cid) users (none-is _ cid));
  keys = distinct-append bytes_eq (λ (user : Listed). user.key) users user d.keys (first-nobody (has_key user.key) users (none-is _ key));
}

pub distinct-either : (b : Bool) (users : List Listed) (user : Listed) → AreDistinct users → AreDistinct (users ++ user ∷ []) → AreDistinct (if b then users ++ user ∷ [] else users)
distinct-either true users user before after = after
distinct-either false users user before after = before

pub none-takes : (sid : ℕ) (update : List Field) (users : List Listed) → user_by_sid sid users ≡ None → IsTrue (takes_update sid update users) → ⊥
none-takes sid update users e t = absurd (true≢false (sym (subst (λ o. IsTrue (fits_user update o)) e t)))

pub takes-fits : (sid : ℕ) (update : List Field) (users : List Listed) (user : Listed) → user_by_sid sid users ≡ Some user → IsTrue (takes_update sid update users) → IsTrue (fits user.fields update)
takes-fits sid update users user e t = subst (λ o. IsTrue (fits_user update o)) e t

pub on-ok : {X Y : Type 0} {A B : Type 0} (r : Result X Y) → (A → B) → OnOk r A → OnOk r B
on-ok (Ok x) f a = f a
on-ok (Err e) f a = tt
