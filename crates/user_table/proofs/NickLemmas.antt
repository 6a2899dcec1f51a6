-- An index by nick and the users, after a change of nick.
use Rattle.std.proofs.Common.{◌≡◌, ℕ, eqb, Bool, true, false, cond, List, [], ◌∷◌, map, refl, sym, ap, ap₂, ◌∙◌, subst, inl, inr}
use Rattle.std.specs.Prelude.{Option, Some, None}
use Rattle.std.specs.List.{IsDistinct}
use Rattle.std.specs.Str.{bytes_eq}
use Rattle.std.proofs.lemmas.Bool.{cases_Bool, cond-true, cond-false}
use Rattle.std.proofs.lemmas.Bool.Decides.{Decides-eqb}
use Rattle.std.proofs.lemmas.Option.{none-some}
use Rattle.std.proofs.lemmas.Slice.Eq.{bytes_eq-Decides}
use Rattle.inf_fields.specs.Field.{Field}
use Rattle.inf_fields.specs.Merging.{merged_with}
use Rattle.user_table.specs.Indexes.{sid_of}
use Rattle.user_table.specs.Listed.{Listed}
use Rattle.user_table.specs.Renaming.{with_other_key, renamed_if, with_key}
use Rattle.user_table.specs.Tables.{has_sid, has_key, user_by_sid, user_by_key, with_update, updated_user, updated_if}
use Rattle.user_table.proofs.PlaceLemmas.{Nobody, nobody-first, nobody-map}
use Rattle.user_table.proofs.DistinctLemmas.{differ-flip}
use Rattle.user_table.proofs.SidLemmas.{has_by, sid_by, same-some, first-is, first-later, others-apart, others-differ, head-differs, tail-distinct, no-key, found-again}

abbrev pub own_key : Listed → List ℕ
own_key user = user.key

abbrev pub own_sid : Listed → ℕ
own_sid user = user.sid

rest-kept : (sid : ℕ) (key : List ℕ) (users : List Listed) → Nobody (has_sid sid) users → with_key sid key users ≡ users
rest-kept sid key users n = nobody-map (λ b user. renamed_if b key user) (λ _. refl) (has_sid sid) users n

differs-flip : (x y : List ℕ) → bytes_eq x y ≡ false → bytes_eq y x ≡ false
differs-flip x y e = differ-flip bytes_eq bytes_eq-Decides x y e

-- the user who is renamed stands first
renamed-first : (sid : ℕ) (key : List ℕ) (user : Listed) (users : List Listed) (other : List ℕ) → user.sid ≡ sid → bytes_eq user.key key ≡ false
    → IsDistinct bytes_eq (map own_key (user ∷ users))
    → sid_by own_key (with_other_key key user ∷ users) other ≡ cond (bytes_eq user.key other) None (cond (bytes_eq key other) (Some sid) (sid_by own_key (user ∷ users) other))
renamed-first sid key user users other is free d =
    elim (cases_Bool (bytes_eq key other)) [
      | inl yes' ↦
          let apart : bytes_eq user.key other ≡ false = subst (λ k. bytes_eq user.key k ≡ false) ((bytes_eq-Decides key other).0 yes') free in
          ap sid_of (first-is (has_by own_key other) (with_other_key key user) users yes') ∙ ap Some is ∙ sym (cond-false _ _ _ apart ∙ cond-true _ _ _ yes')
      | inr no' ↦
          ap sid_of (first-later (has_by own_key other) (with_other_key key user) users no')
          ∙ elim (cases_Bool (bytes_eq user.key other)) [
            | inl same ↦ no-key own_key other users (others-differ own_key other user users d same) ∙ sym (cond-true _ _ _ same)
            | inr differs ↦ ap sid_of (sym (first-later (has_by own_key other) user users differs)) ∙ sym (cond-false _ _ _ differs ∙ cond-false _ _ _ no')
          ]
    ]

-- after a change of nick the new key finds the user, the old one nobody, and each other key whom it found
pub sid-renamed : (sid : ℕ) (key : List ℕ) (users : List Listed) (before : Listed) (other : List ℕ) → IsDistinct eqb (map own_sid users)
    → IsDistinct bytes_eq (map own_key users) → user_by_sid sid users ≡ Some before → Nobody (has_key key) users
    → sid_by own_key (with_key sid key users) other ≡ cond (bytes_eq before.key other) None (cond (bytes_eq key other) (Some sid) (sid_by own_key users other))
sid-renamed sid key [] before other s d e n = absurd (none-some before (sym (nobody-first (has_sid sid) [] tt) ∙ e))
sid-renamed sid key (user ∷ users) before other s d e n =
    elim (cases_Bool (has_sid sid user)) [
      | inl yes' ↦
          let is : user ≡ before = same-some user before (sym (first-is (has_sid sid) user users yes') ∙ e) in
          ap₂ (λ b us. sid_by own_key (renamed_if b key user ∷ us) other) yes' (rest-kept sid key users (others-apart sid user users s yes'))
          ∙ renamed-first sid key user users other ((Decides-eqb user.sid sid).0 yes') n.0 d
          ∙ ap (λ (u : Listed). cond (bytes_eq u.key other) None (cond (bytes_eq key other) (Some sid) (sid_by own_key (user ∷ users) other))) is
      | inr no' ↦
          let later : user_by_sid sid users ≡ Some before = sym (first-later (has_sid sid) user users no') ∙ e in
          ap (λ b. sid_by own_key (renamed_if b key user ∷ with_key sid key users) other) no'
          ∙ elim (cases_Bool (bytes_eq user.key other)) [
            | inl same ↦
                let is-other : user.key ≡ other = (bytes_eq-Decides user.key other).0 same in
                let apart-before : bytes_eq before.key other ≡ false =
                subst (λ k. bytes_eq before.key k ≡ false) is-other (differs-flip user.key before.key (head-differs own_key (has_sid sid) user users before d later)) in
                let apart-key : bytes_eq key other ≡ false = subst (λ k. bytes_eq key k ≡ false) is-other (differs-flip user.key key n.0) in
                ap sid_of (first-is (has_by own_key other) user (with_key sid key users) same ∙ sym (first-is (has_by own_key other) user users same))
                ∙ sym (cond-false _ _ _ apart-before ∙ cond-false _ _ _ apart-key)
            | inr differs ↦
                ap sid_of (first-later (has_by own_key other) user (with_key sid key users) differs)
                ∙ sid-renamed sid key users before other (tail-distinct eqb own_sid user users s) (tail-distinct bytes_eq own_key user users d) later n.1
                ∙ ap (λ o. cond (bytes_eq before.key other) None (cond (bytes_eq key other) (Some sid) (sid_of o))) (sym (first-later (has_by own_key other) user users differs))
          ]
    ]

-- an update and then a change of nick are an update with a nick
both-in-turn : (sid : ℕ) (update : List Field) (key : List ℕ) (user : Listed) (b : Bool) → has_sid sid user ≡ b
    → renamed_if (has_sid sid (updated_if b update None user)) key (updated_if b update None user) ≡ updated_if b update (Some key) user
both-in-turn sid update key user true e = ap (λ c. renamed_if c key (updated_user update None user)) e
both-in-turn sid update key user false e = ap (λ c. renamed_if c key user) e

pub updated-renamed : (sid : ℕ) (update : List Field) (key : List ℕ) (users : List Listed) → with_key sid key (with_update sid update None users) ≡ with_update sid update (Some key) users
updated-renamed sid update key [] = refl
updated-renamed sid update key (user ∷ users) = ap₂ (λ (u : Listed) (us : List Listed). u ∷ us) (both-in-turn sid update key user (has_sid sid user) refl) (updated-renamed sid update key users)

same-key : (update : List Field) (key : List ℕ) (user : Listed) (b : Bool) → user.key ≡ key → updated_if b update (Some key) user ≡ updated_if b update None user
same-key update key user true e = ap (λ k. record { sid = user.sid; cid = user.cid; key = k; fields = merged_with user.fields update }) (sym e)
same-key update key user false e = refl

rest-same : (sid : ℕ) (update : List Field) (key : Option (List ℕ)) (users : List Listed) → Nobody (has_sid sid) users → with_update sid update key users ≡ users
rest-same sid update key users n = nobody-map (λ b user. updated_if b update key user) (λ _. refl) (has_sid sid) users n

-- who is given the key that they have keeps it
pub own-key : (sid : ℕ) (update : List Field) (key : List ℕ) (users : List Listed) (holder : Listed) → IsDistinct eqb (map own_sid users)
    → user_by_key key users ≡ Some holder → holder.sid ≡ sid → with_update sid update (Some key) users ≡ with_update sid update None users
own-key sid update key [] holder s e is = refl
own-key sid update key (user ∷ users) holder s e is =
    elim (cases_Bool (has_key key user)) [
      | inl yes' ↦
          let who : user ≡ holder = same-some user holder (sym (first-is (has_key key) user users yes') ∙ e) in
          let nobody = others-apart sid user users s ((Decides-eqb user.sid sid).1 (ap own_sid who ∙ is)) in
          ap₂ (λ (u : Listed) (us : List Listed). u ∷ us) (same-key update key user (has_sid sid user) ((bytes_eq-Decides user.key key).0 yes'))
          (rest-same sid update (Some key) users nobody ∙ sym (rest-same sid update None users nobody))
      | inr no' ↦
          let later : user_by_key key users ≡ Some holder = sym (first-later (has_key key) user users no') ∙ e in
          let found : user_by_sid holder.sid users ≡ Some holder = found-again (has_key key) users holder (tail-distinct eqb own_sid user users s) later in
          let tail = own-key sid update key users holder (tail-distinct eqb own_sid user users s) later is in
          elim (cases_Bool (has_sid sid user)) [
            | inl same ↦ absurd (none-some holder (sym (nobody-first (has_sid sid) users (others-apart sid user users s same)) ∙ ap (λ k. user_by_sid k users) (sym is) ∙ found))
            | inr differs ↦ ap₂ (λ b (us : List Listed). updated_if b update (Some key) user ∷ us) differs tail ∙ sym (ap (λ b. updated_if b update None user ∷ with_update sid update None users) differs)
          ]
    ]
