-- Where keys differ, whether another user has a key is seen from the first who has it.
use Rattle.std.proofs.Common.{◌≡◌, ◌∙◌, sym, ap, ap₂, refl, ℕ, Bool, true, false, not, ◌&&◌, ◌||◌, List, [], ◌∷◌, map, inl, inr, Option, Some}
use Rattle.std.specs.List.{IsDistinct, list_any, find}
use Rattle.std.specs.Str.{bytes_eq}
use Rattle.std.proofs.lemmas.Bool.{cases_Bool, cond-true, cond-false}
use Rattle.std.proofs.lemmas.Slice.Eq.{bytes_eq-Decides}
use Rattle.user_table.specs.Changes.{AreDistinct, is_other}
use Rattle.user_table.specs.Listed.{Listed}
use Rattle.user_table.specs.Tables.{has_key, has_sid, user_by_key}
use Rattle.user_table.proofs.PlaceLemmas.{Nobody}
use Rattle.user_table.proofs.DistinctLemmas.{all-nobody}

abbrev rival : ℕ → List ℕ → Listed → Bool
rival sid key user = has_key key user && not (has_sid sid user)

no-rival : (sid : ℕ) (key : List ℕ) (users : List Listed) → Nobody (has_key key) users → list_any (rival sid key) users ≡ false
no-rival sid key [] none = refl
no-rival sid key (user ∷ users) none = ap₂ ◌||◌ (ap (λ b. b && not (has_sid sid user)) none.0) (no-rival sid key users none.1)

or-false : (b : Bool) → (b || false) ≡ b
or-false true = refl
or-false false = refl

first-rival : (sid : ℕ) (key : List ℕ) (users : List Listed) → IsDistinct bytes_eq (map (λ (user : Listed). user.key) users)
    → is_other sid (user_by_key key users) ≡ list_any (rival sid key) users
unfolding IsDistinct
first-rival sid key [] distinct = refl
first-rival sid key (user ∷ users) distinct =
    elim (cases_Bool (has_key key user)) [
      | inl has' ↦
          ap (is_other sid) (cond-true (has_key key user) (Some user) (find (has_key key) users) has')
          ∙ sym (ap₂ ◌||◌ (ap (λ b. b && not (has_sid sid user)) has')
          (no-rival sid key users (all-nobody bytes_eq bytes_eq-Decides (λ (u : Listed). u.key) user.key key users ((bytes_eq-Decides user.key key).0 has') distinct.0))
          ∙ or-false (not (has_sid sid user)))
      | inr not' ↦
          ap (is_other sid) (cond-false (has_key key user) (Some user) (find (has_key key) users) not')
          ∙ first-rival sid key users distinct.1
          ∙ sym (ap (λ b. (b && not (has_sid sid user)) || list_any (rival sid key) users) not')
    ]

pub another-is : (sid : ℕ) (key : List ℕ) (users : List Listed) (found : Option Listed) → AreDistinct users → found ≡ user_by_key key users
    → is_other sid found ≡ list_any (rival sid key) users
another-is sid key users found distinct is = ap (is_other sid) is ∙ first-rival sid key users distinct.keys
