-- Users whose keys differ still do when one of them has a key that nobody else has.
use Rattle.std.proofs.Common.{◌≡◌, ℕ, eqb, Bool, true, false, not, ◌&&◌, List, [], ◌∷◌, map, refl, sym, ap, ◌∙◌, subst, inl, inr}
use Rattle.std.specs.Prelude.{Option, Some, None}
use Rattle.std.specs.List.{IsDistinct, AllByRecursion, find}
use Rattle.std.specs.Str.{bytes_eq}
use Rattle.std.proofs.lemmas.Bool.{cases_Bool, cond-true, cond-false}
use Rattle.std.proofs.lemmas.Bool.Decides.{Decides-eqb}
use Rattle.std.proofs.lemmas.Slice.Eq.{bytes_eq-Decides}
use Rattle.inf_fields.specs.Field.{Field}
use Rattle.user_table.specs.Changes.{AreDistinct, held_by_other, is_other}
use Rattle.user_table.specs.Listed.{Listed}
use Rattle.user_table.specs.Tables.{has_sid, has_key, user_by_key, with_update, updated_if}
use Rattle.user_table.proofs.PlaceLemmas.{Nobody, nobody-map}
use Rattle.user_table.proofs.DistinctLemmas.{all-nobody, nobody-all}

abbrev pub is_rival : ℕ → List ℕ → Listed → Bool
is_rival sid key user = not (has_sid sid user) && has_key key user

and-false : (a : Bool) → a && false ≡ false
and-false true = refl
and-false false = refl

no-rivals : (sid : ℕ) (key : List ℕ) (users : List Listed) → Nobody (has_key key) users → Nobody (is_rival sid key) users
no-rivals sid key [] n = tt
no-rivals sid key (user ∷ users) n = (ap (λ b. not (has_sid sid user) && b) n.0 ∙ and-false (not (has_sid sid user)), no-rivals sid key users n.1)

rivals : (sid : ℕ) (key : List ℕ) (users : List Listed) → IsDistinct bytes_eq (map (λ (user : Listed). user.key) users)
    → is_other sid (user_by_key key users) ≡ false → Nobody (is_rival sid key) users
unfolding IsDistinct
rivals sid key [] d e = tt
rivals sid key (user ∷ users) d e =
    elim (cases_Bool (has_key key user)) [
      | inl yes' ↦
          let mine : not (has_sid sid user) ≡ false = sym (ap (is_other sid) (cond-true (has_key key user) (Some user) (find (has_key key) users) yes')) ∙ e in (
            ap (λ b. b && has_key key user) mine,
            no-rivals sid key users (all-nobody bytes_eq bytes_eq-Decides (λ (u : Listed). u.key) user.key key users ((bytes_eq-Decides user.key key).0 yes') d.0),
          )
      | inr no' ↦ (
        ap (λ b. not (has_sid sid user) && b) no' ∙ and-false (not (has_sid sid user)),
        rivals sid key users d.1 (sym (ap (is_other sid) (cond-false (has_key key user) (Some user) (find (has_key key) users) no')) ∙ e),
      )
    ]

not-mine : (sid : ℕ) (key : List ℕ) (users : List Listed) → Nobody (has_sid sid) users → Nobody (is_rival sid key) users → Nobody (has_key key) users
not-mine sid key [] n r = tt
not-mine sid key (user ∷ users) n r = (sym (ap (λ b. not b && has_key key user) n.0) ∙ r.0, not-mine sid key users n.1 r.1)

all-updated : (test : List ℕ → Bool) (sid : ℕ) (update : List Field) (key : List ℕ) (users : List Listed)
    → AllByRecursion (λ z. test z ≡ false) (map (λ (user : Listed). user.key) users) → test key ≡ false
    → AllByRecursion (λ z. test z ≡ false) (map (λ (user : Listed). user.key) (with_update sid update (Some key) users))
all-updated test sid update key [] a e = tt
all-updated test sid update key (user ∷ users) a e = (
  elim (cases_Bool (has_sid sid user)) [
    | inl yes' ↦ ap (λ b. test (updated_if b update (Some key) user).key) yes' ∙ e
    | inr no' ↦ ap (λ b. test (updated_if b update (Some key) user).key) no' ∙ a.0
  ],
  all-updated test sid update key users a.1 e,
)

renamed : (sid : ℕ) (update : List Field) (key : List ℕ) (users : List Listed) → IsDistinct eqb (map (λ (user : Listed). user.sid) users)
    → IsDistinct bytes_eq (map (λ (user : Listed). user.key) users) → Nobody (is_rival sid key) users
    → IsDistinct bytes_eq (map (λ (user : Listed). user.key) (with_update sid update (Some key) users))
unfolding IsDistinct
renamed sid update key [] s d r = tt
renamed sid update key (user ∷ users) s d r = (
  elim (cases_Bool (has_sid sid user)) [
    | inl yes' ↦
        let others : Nobody (has_sid sid) users = all-nobody eqb Decides-eqb (λ (u : Listed). u.sid) user.sid sid users ((Decides-eqb user.sid sid).0 yes') s.0 in
        let same = nobody-map (λ b u. updated_if b update (Some key) u) (λ _. refl) (has_sid sid) users others in
        subst (λ b. AllByRecursion (λ z. bytes_eq (updated_if b update (Some key) user).key z ≡ false) (map (λ (u : Listed). u.key) (with_update sid update (Some key) users))) (sym yes')
        (subst (λ us. AllByRecursion (λ z. bytes_eq key z ≡ false) (map (λ (u : Listed). u.key) us)) (sym same)
        (nobody-all bytes_eq bytes_eq-Decides (λ (u : Listed). u.key) key users (not-mine sid key users others r.1)))
    | inr no' ↦
        let differs : bytes_eq user.key key ≡ false = sym (ap (λ b. not b && has_key key user) no') ∙ r.0 in
        subst (λ b. AllByRecursion (λ z. bytes_eq (updated_if b update (Some key) user).key z ≡ false) (map (λ (u : Listed). u.key) (with_update sid update (Some key) users))) (sym no')
        (all-updated (bytes_eq user.key) sid update key users d.0 differs)
  ],
  renamed sid update key users s.1 d.1 r.1,
)

kept : {K : Type 0} (f : Listed → K) (sid : ℕ) (update : List Field) (key : Option (List ℕ)) (users : List Listed)
    → ((b : Bool) (user : Listed) → f (updated_if b update key user) ≡ f user) → map f (with_update sid update key users) ≡ map f users
kept f sid update key [] same = refl
kept f sid update key (user ∷ users) same =
    ap (λ k. k ∷ map f (with_update sid update key users)) (same (has_sid sid user) user) ∙ ap (λ ks. f user ∷ ks) (kept f sid update key users same)

sid-kept : (update : List Field) (key : Option (List ℕ)) (b : Bool) (user : Listed) → (updated_if b update key user).sid ≡ user.sid
sid-kept update key true user = refl
sid-kept update key false user = refl

cid-kept : (update : List Field) (key : Option (List ℕ)) (b : Bool) (user : Listed) → (updated_if b update key user).cid ≡ user.cid
cid-kept update key true user = refl
cid-kept update key false user = refl

key-kept : (update : List Field) (b : Bool) (user : Listed) → (updated_if b update None user).key ≡ user.key
key-kept update true user = refl
key-kept update false user = refl

keys-renewed : (sid : ℕ) (update : List Field) (key : Option (List ℕ)) (users : List Listed) → AreDistinct users → held_by_other sid key users ≡ false
    → IsDistinct bytes_eq (map (λ (user : Listed). user.key) (with_update sid update key users))
keys-renewed sid update None users d e = subst (IsDistinct bytes_eq) (sym (kept (λ (user : Listed). user.key) sid update None users (key-kept update))) d.keys
keys-renewed sid update (Some key) users d e = renamed sid update key users d.sids d.keys (rivals sid key users d.keys e)

pub distinct-renewed : (sid : ℕ) (update : List Field) (key : Option (List ℕ)) (users : List Listed) → AreDistinct users → held_by_other sid key users ≡ false
    → AreDistinct (with_update sid update key users)
distinct-renewed sid update key users d e = record {
  sids = subst (IsDistinct eqb) (sym (kept (λ (user : Listed). user.sid) sid update key users (sid-kept update key))) d.sids;
  cids = subst (IsDistinct bytes_eq) (sym (kept (λ (user : Listed). user.cid) sid update key users (cid-kept update key))) d.cids;
  keys = keys-renewed sid update key users d e;
}
