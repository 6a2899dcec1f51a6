-- An index by a key, after an entry, an exit, an update and a change of nick.
use Rattle.std.proofs.Common.{◌≡◌, ℕ, eqb, Bool, true, false, cond, not, List, [], ◌∷◌, ◌++◌, map, filter, refl, sym, ap, ◌∙◌, subst, inl, inr}
use Rattle.std.specs.Prelude.{Option, Some, None}
use Rattle.std.specs.List.{IsDistinct, AllByRecursion, find}
use Rattle.std.specs.Option.{unwrap_or}
use Rattle.std.specs.Str.{bytes_eq}
use Rattle.std.proofs.lemmas.Bool.{cases_Bool, cond-true, cond-false}
use Rattle.std.proofs.lemmas.Bool.Decides.{Decides-eqb}
use Rattle.std.proofs.lemmas.Option.{none-some}
use Rattle.std.proofs.lemmas.Slice.Eq.{bytes_eq-Decides}
use Rattle.user_table.specs.Indexes.{sid_of}
use Rattle.user_table.specs.Listed.{Listed}
use Rattle.user_table.specs.Tables.{has_sid, user_by_sid, without_sid}
use Rattle.user_table.proofs.PlaceLemmas.{Nobody, nobody-first, first-nobody, nobody-filter}
use Rattle.user_table.proofs.DistinctLemmas.{all-nobody, differ-flip}

-- whether a user has a key by f
abbrev pub has_by : (Listed → List ℕ) → List ℕ → Listed → Bool
has_by f key user = bytes_eq (f user) key

-- the session identifier of the first user who has a key by f
abbrev pub sid_by : (Listed → List ℕ) → List Listed → List ℕ → Option ℕ
sid_by f users key = sid_of (find (has_by f key) users)

pub same-some : (x y : Listed) → Some x ≡ Some y → x ≡ y
same-some x y e = ap (λ o. unwrap_or o x) e

pub no-sid : (o : Option Listed) → None ≡ sid_of o → o ≡ None
no-sid None e = refl
no-sid (Some x) e = absurd (none-some x.sid e)

pub first-is : (test : Listed → Bool) (user : Listed) (users : List Listed) → test user ≡ true → find test (user ∷ users) ≡ Some user
first-is test user users e = cond-true _ _ _ e

pub first-later : (test : Listed → Bool) (user : Listed) (users : List Listed) → test user ≡ false → find test (user ∷ users) ≡ find test users
first-later test user users e = cond-false _ _ _ e

first-last : (test : Listed → Bool) (users : List Listed) (last : Listed) → Nobody test users → find test (users ++ last ∷ []) ≡ find test (last ∷ [])
first-last test [] last n = refl
first-last test (user ∷ users) last n = first-later test user (users ++ last ∷ []) n.0 ∙ first-last test users last n.1

first-before : (test : Listed → Bool) (users : List Listed) (last : Listed) → test last ≡ false → find test (users ++ last ∷ []) ≡ find test users
first-before test [] last e = first-later test last [] e
first-before test (user ∷ users) last e =
    elim (cases_Bool (test user)) [
      | inl yes' ↦ first-is test user (users ++ last ∷ []) yes' ∙ sym (first-is test user users yes')
      | inr no' ↦ first-later test user (users ++ last ∷ []) no' ∙ first-before test users last e ∙ sym (first-later test user users no')
    ]

-- after an entry the new key finds who entered, and each other key whom it found
pub sid-entered : (f : Listed → List ℕ) (users : List Listed) (last : Listed) (key : List ℕ) → find (has_by f (f last)) users ≡ None
    → sid_by f (users ++ last ∷ []) key ≡ cond (bytes_eq (f last) key) (Some last.sid) (sid_by f users key)
sid-entered f users last key none =
    elim (cases_Bool (bytes_eq (f last) key)) [
      | inl yes' ↦
          let nobody = first-nobody (has_by f key) users (subst (λ k. find (has_by f k) users ≡ None) ((bytes_eq-Decides (f last) key).0 yes') none) in
          ap sid_of (first-last (has_by f key) users last nobody ∙ first-is (has_by f key) last [] yes') ∙ sym (cond-true _ _ _ yes')
      | inr no' ↦ ap sid_of (first-before (has_by f key) users last no') ∙ sym (cond-false _ _ _ no')
    ]

-- what is put in where nothing was, and taken out again
pub put-undone : (index : List ℕ → Option ℕ) (key other : List ℕ) (sid : ℕ) → index key ≡ None
    → cond (bytes_eq key other) None (cond (bytes_eq key other) (Some sid) (index other)) ≡ index other
put-undone index key other sid none =
    elim (cases_Bool (bytes_eq key other)) [
      | inl yes' ↦ cond-true _ _ _ yes' ∙ sym none ∙ ap index ((bytes_eq-Decides key other).0 yes')
      | inr no' ↦ cond-false _ _ _ no' ∙ cond-false _ _ _ no'
    ]

-- nobody after a user has the same session identifier
pub others-apart : (sid : ℕ) (user : Listed) (users : List Listed) → IsDistinct eqb (map (λ (u : Listed). u.sid) (user ∷ users)) → has_sid sid user ≡ true → Nobody (has_sid sid) users
unfolding IsDistinct
others-apart sid user users d e = all-nobody eqb Decides-eqb (λ (u : Listed). u.sid) user.sid sid users ((Decides-eqb user.sid sid).0 e) d.0

pub others-differ : (f : Listed → List ℕ) (key : List ℕ) (user : Listed) (users : List Listed) → IsDistinct bytes_eq (map f (user ∷ users)) → has_by f key user ≡ true → Nobody (has_by f key) users
unfolding IsDistinct
others-differ f key user users d e = all-nobody bytes_eq bytes_eq-Decides f (f user) key users ((bytes_eq-Decides (f user) key).0 e) d.0

-- whom a look-up by session identifier finds in the rest has another key than the first
later-differs : (f : Listed → List ℕ) (test : Listed → Bool) (x : List ℕ) (users : List Listed) (found : Listed)
    → AllByRecursion (λ z. bytes_eq x z ≡ false) (map f users) → find test users ≡ Some found → bytes_eq x (f found) ≡ false
later-differs f test x [] found a e = absurd (none-some found e)
later-differs f test x (user ∷ users) found a e =
    elim (cases_Bool (test user)) [
      | inl yes' ↦ subst (λ u. bytes_eq x (f u) ≡ false) (same-some user found (sym (cond-true _ _ _ yes') ∙ e)) a.0
      | inr no' ↦ later-differs f test x users found a.1 (sym (cond-false _ _ _ no') ∙ e)
    ]

pub head-differs : (f : Listed → List ℕ) (test : Listed → Bool) (user : Listed) (users : List Listed) (found : Listed)
    → IsDistinct bytes_eq (map f (user ∷ users)) → find test users ≡ Some found → bytes_eq (f user) (f found) ≡ false
unfolding IsDistinct
head-differs f test user users found d e = later-differs f test (f user) users found d.0 e

pub tail-distinct : {K : Type 0} (same : K → K → Bool) (f : Listed → K) (user : Listed) (users : List Listed) → IsDistinct same (map f (user ∷ users)) → IsDistinct same (map f users)
unfolding IsDistinct
tail-distinct same f user users d = d.1

pub no-key : (f : Listed → List ℕ) (key : List ℕ) (users : List Listed) → Nobody (has_by f key) users → sid_by f users key ≡ None
no-key f key users n = ap sid_of (nobody-first (has_by f key) users n)

abbrev without_by : (Listed → Bool) → List Listed → List Listed
without_by test users = filter (λ user. not (test user)) users

kept-out : (test : Listed → Bool) (user : Listed) (users : List Listed) → test user ≡ true → without_by test (user ∷ users) ≡ without_by test users
kept-out test user users e = cond-false (not (test user)) (user ∷ without_by test users) (without_by test users) (ap not e)

kept-in : (test : Listed → Bool) (user : Listed) (users : List Listed) → test user ≡ false → without_by test (user ∷ users) ≡ user ∷ without_by test users
kept-in test user users e = cond-true (not (test user)) (user ∷ without_by test users) (without_by test users) (ap not e)

-- after an exit the key of who left finds nobody, and each other key whom it found
pub sid-left : (f : Listed → List ℕ) (sid : ℕ) (users : List Listed) (gone : Listed) (key : List ℕ)
    → IsDistinct eqb (map (λ (u : Listed). u.sid) users) → IsDistinct bytes_eq (map f users) → user_by_sid sid users ≡ Some gone
    → sid_by f (without_sid sid users) key ≡ cond (bytes_eq (f gone) key) None (sid_by f users key)
sid-left f sid [] gone key s d e = absurd (none-some gone e)
sid-left f sid (user ∷ users) gone key s d e =
    elim (cases_Bool (has_sid sid user)) [
      | inl yes' ↦
          let is : user ≡ gone = same-some user gone (sym (cond-true _ _ _ yes') ∙ e) in
          let rest : without_sid sid (user ∷ users) ≡ users = kept-out (has_sid sid) user users yes' ∙ nobody-filter (has_sid sid) users (others-apart sid user users s yes') in
          ap (λ us. sid_by f us key) rest
          ∙ elim (cases_Bool (bytes_eq (f user) key)) [
            | inl same ↦ no-key f key users (others-differ f key user users d same) ∙ sym (cond-true _ _ _ same)
            | inr differs ↦ ap sid_of (sym (first-later (has_by f key) user users differs)) ∙ sym (cond-false _ _ _ differs)
          ]
          ∙ ap (λ (u : Listed). cond (bytes_eq (f u) key) None (sid_by f (user ∷ users) key)) is
      | inr no' ↦
          let later : user_by_sid sid users ≡ Some gone = sym (cond-false _ _ _ no') ∙ e in
          ap (λ us. sid_by f us key) (kept-in (has_sid sid) user users no')
          ∙ elim (cases_Bool (bytes_eq (f user) key)) [
            | inl same ↦
                let other : bytes_eq (f gone) key ≡ false =
                subst (λ k. bytes_eq (f gone) k ≡ false) ((bytes_eq-Decides (f user) key).0 same) (differ-flip bytes_eq bytes_eq-Decides (f user) (f gone) (head-differs f (has_sid sid) user users gone d later)) in
                ap sid_of (first-is (has_by f key) user (without_sid sid users) same ∙ sym (first-is (has_by f key) user users same)) ∙ sym (cond-false _ _ _ other)
            | inr differs ↦
                ap sid_of (first-later (has_by f key) user (without_sid sid users) differs)
                ∙ sid-left f sid users gone key (tail-distinct eqb (λ (u : Listed). u.sid) user users s) (tail-distinct bytes_eq f user users d) later
                ∙ ap (λ o. cond (bytes_eq (f gone) key) None (sid_of o)) (sym (first-later (has_by f key) user users differs))
          ]
    ]

-- an update that leaves the keys as they are leaves whom they find
pub sid-kept : (f : Listed → List ℕ) (change : Bool → Listed → Listed) → ((b : Bool) (user : Listed) → f (change b user) ≡ f user) → ((b : Bool) (user : Listed) → (change b user).sid ≡ user.sid)
    → (test : Listed → Bool) (users : List Listed) (key : List ℕ) → sid_by f (map (λ user. change (test user) user) users) key ≡ sid_by f users key
sid-kept f change same-key same-sid test [] key = refl
sid-kept f change same-key same-sid test (user ∷ users) key =
    let after = map (λ user. change (test user) user) users in
    elim (cases_Bool (bytes_eq (f user) key)) [
      | inl yes' ↦
          ap sid_of (first-is (has_by f key) (change (test user) user) after (ap (λ k. bytes_eq k key) (same-key (test user) user) ∙ yes'))
          ∙ ap Some (same-sid (test user) user) ∙ sym (ap sid_of (first-is (has_by f key) user users yes'))
      | inr no' ↦
          ap sid_of (first-later (has_by f key) (change (test user) user) after (ap (λ k. bytes_eq k key) (same-key (test user) user) ∙ no'))
          ∙ sid-kept f change same-key same-sid test users key ∙ sym (ap sid_of (first-later (has_by f key) user users no'))
    ]

-- whom any look-up finds is found by session identifier
pub found-again : (test : Listed → Bool) (users : List Listed) (found : Listed) → IsDistinct eqb (map (λ (u : Listed). u.sid) users)
    → find test users ≡ Some found → user_by_sid found.sid users ≡ Some found
unfolding IsDistinct
found-again test [] found d e = absurd (none-some found e)
found-again test (user ∷ users) found d e =
    elim (cases_Bool (test user)) [
      | inl yes' ↦
          let is : user ≡ found = same-some user found (sym (cond-true _ _ _ yes') ∙ e) in
          cond-true _ _ _ ((Decides-eqb user.sid found.sid).1 (ap (λ (u : Listed). u.sid) is)) ∙ ap Some is
      | inr no' ↦
          let later = found-again test users found d.1 (sym (cond-false _ _ _ no') ∙ e) in
          elim (cases_Bool (has_sid found.sid user)) [
            | inl same ↦ absurd (none-some found (sym (nobody-first (has_sid found.sid) users (others-apart found.sid user users d same)) ∙ later))
            | inr differs ↦ cond-false _ _ _ differs ∙ later
          ]
    ]
