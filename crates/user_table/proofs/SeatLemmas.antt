-- A map of users by session identifier, and the list of its users.
use Rattle.std.proofs.Common.{◌≡◌, ℕ, eqb, Bool, true, false, not, List, [], ◌∷◌, ◌++◌, map, refl, sym, ap, ap₂, ◌∙◌, subst, inl, inr}
use Rattle.std.specs.Prelude.{Some}
use Rattle.std.specs.List.{IsDistinct}
use Rattle.std.specs.Map.{lookup, remove_entry, set_value, values_of}
use Rattle.std.proofs.lemmas.Bool.{cases_Bool, cond-true, cond-false}
use Rattle.std.proofs.lemmas.Bool.Decides.{Decides-eqb}
use Rattle.user_table.specs.Listed.{Listed}
use Rattle.user_table.specs.RosterView.{AreSeated}
use Rattle.user_table.specs.Tables.{has_sid, user_by_sid, without_sid}
use Rattle.user_table.proofs.PlaceLemmas.{changed_by, nobody-filter, nobody-map}
use Rattle.user_table.proofs.DistinctLemmas.{differ-flip}
use Rattle.user_table.proofs.NickLemmas.{own_sid}
use Rattle.user_table.proofs.SidLemmas.{same-some, others-apart, tail-distinct}

module _ (sid : ℕ) (entry : ℕ × Listed) (seated : entry.0 ≡ entry.1.sid) where
  own-yes : eqb sid entry.0 ≡ true → has_sid sid entry.1 ≡ true
  own-yes e = (Decides-eqb entry.1.sid sid).1 (sym seated ∙ sym ((Decides-eqb sid entry.0).0 e))

  own-no : eqb sid entry.0 ≡ false → has_sid sid entry.1 ≡ false
  own-no e = subst (λ k. eqb k sid ≡ false) seated (differ-flip eqb Decides-eqb sid entry.0 e)

pub lookup-seated : (sid : ℕ) (entries : List (ℕ × Listed)) → AreSeated entries → lookup (eqb sid) entries ≡ user_by_sid sid (values_of entries)
lookup-seated sid [] s = refl
lookup-seated sid (entry ∷ entries) s =
    elim (cases_Bool (eqb sid entry.0)) [
      | inl yes' ↦ cond-true _ _ _ yes' ∙ sym (cond-true _ _ _ (own-yes sid entry s.0 yes'))
      | inr no' ↦ cond-false _ _ _ no' ∙ lookup-seated sid entries s.1 ∙ sym (cond-false _ _ _ (own-no sid entry s.0 no'))
    ]

pub seated-removed : (sid : ℕ) (entries : List (ℕ × Listed)) → AreSeated entries → AreSeated (remove_entry (eqb sid) entries)
seated-removed sid [] s = tt
seated-removed sid (entry ∷ entries) s =
    elim (cases_Bool (eqb sid entry.0)) [
      | inl yes' ↦ subst AreSeated (sym (cond-true (eqb sid entry.0) entries (entry ∷ remove_entry (eqb sid) entries) yes')) s.1
      | inr no' ↦ subst AreSeated (sym (cond-false (eqb sid entry.0) entries (entry ∷ remove_entry (eqb sid) entries) no')) (s.0, seated-removed sid entries s.1)
    ]

pub users-removed : (sid : ℕ) (entries : List (ℕ × Listed)) → AreSeated entries → IsDistinct eqb (map own_sid (values_of entries))
    → values_of (remove_entry (eqb sid) entries) ≡ without_sid sid (values_of entries)
users-removed sid [] s d = refl
users-removed sid (entry ∷ entries) s d =
    let rest = values_of entries in
    elim (cases_Bool (eqb sid entry.0)) [
      | inl yes' ↦
          let is = own-yes sid entry s.0 yes' in
          ap values_of (cond-true (eqb sid entry.0) entries (entry ∷ remove_entry (eqb sid) entries) yes')
          ∙ sym (nobody-filter (has_sid sid) rest (others-apart sid entry.1 rest d is))
          ∙ sym (cond-false (not (has_sid sid entry.1)) (entry.1 ∷ without_sid sid rest) (without_sid sid rest) (ap not is))
      | inr no' ↦
          let is = own-no sid entry s.0 no' in
          ap values_of (cond-false (eqb sid entry.0) entries (entry ∷ remove_entry (eqb sid) entries) no')
          ∙ ap (λ (us : List Listed). entry.1 ∷ us) (users-removed sid entries s.1 (tail-distinct eqb own_sid entry.1 rest d))
          ∙ sym (cond-true (not (has_sid sid entry.1)) (entry.1 ∷ without_sid sid rest) (without_sid sid rest) (ap not is))
    ]

pub seated-set : (sid : ℕ) (entries : List (ℕ × Listed)) (before after : Listed) → AreSeated entries → lookup (eqb sid) entries ≡ Some before
    → after.sid ≡ before.sid → AreSeated (set_value (eqb sid) entries after)
seated-set sid [] before after s e same = tt
seated-set sid (entry ∷ entries) before after s e same =
    elim (cases_Bool (eqb sid entry.0)) [
      | inl yes' ↦
          let is : entry.1 ≡ before = same-some entry.1 before (sym (cond-true (eqb sid entry.0) (Some entry.1) (lookup (eqb sid) entries) yes') ∙ e) in
          subst AreSeated (sym (cond-true (eqb sid entry.0) ((entry.0, after) ∷ entries) (entry ∷ set_value (eqb sid) entries after) yes')) (s.0 ∙ ap own_sid is ∙ sym same, s.1)
      | inr no' ↦
          let later = sym (cond-false (eqb sid entry.0) (Some entry.1) (lookup (eqb sid) entries) no') ∙ e in
          subst AreSeated (sym (cond-false (eqb sid entry.0) ((entry.0, after) ∷ entries) (entry ∷ set_value (eqb sid) entries after) no'))
          (s.0, seated-set sid entries before after s.1 later same)
    ]

-- a change of the user whom a look-up finds
pub users-set : (change : Bool → Listed → Listed) → ((u : Listed) → change false u ≡ u) → (sid : ℕ) (entries : List (ℕ × Listed)) (before : Listed)
    → AreSeated entries → IsDistinct eqb (map own_sid (values_of entries)) → lookup (eqb sid) entries ≡ Some before
    → values_of (set_value (eqb sid) entries (change true before)) ≡ map (changed_by change (has_sid sid)) (values_of entries)
users-set change same sid [] before s d e = refl
users-set change same sid (entry ∷ entries) before s d e =
    let rest = values_of entries in
    let after = change true before in
    elim (cases_Bool (eqb sid entry.0)) [
      | inl yes' ↦
          let is = own-yes sid entry s.0 yes' in
          let who : entry.1 ≡ before = same-some entry.1 before (sym (cond-true (eqb sid entry.0) (Some entry.1) (lookup (eqb sid) entries) yes') ∙ e) in
          ap values_of (cond-true (eqb sid entry.0) ((entry.0, after) ∷ entries) (entry ∷ set_value (eqb sid) entries after) yes')
          ∙ ap₂ (λ (u : Listed) (us : List Listed). change true u ∷ us) (sym who) (sym (nobody-map change same (has_sid sid) rest (others-apart sid entry.1 rest d is)))
          ∙ ap (λ b. change b entry.1 ∷ map (changed_by change (has_sid sid)) rest) (sym is)
      | inr no' ↦
          let is = own-no sid entry s.0 no' in
          let later = sym (cond-false (eqb sid entry.0) (Some entry.1) (lookup (eqb sid) entries) no') ∙ e in
          ap values_of (cond-false (eqb sid entry.0) ((entry.0, after) ∷ entries) (entry ∷ set_value (eqb sid) entries after) no')
          ∙ ap₂ (λ (u : Listed) (us : List Listed). u ∷ us) (sym (same entry.1)) (users-set change same sid entries before s.1 (tail-distinct eqb own_sid entry.1 rest d) later)
          ∙ ap (λ b. change b entry.1 ∷ map (changed_by change (has_sid sid)) rest) (sym is)
    ]

pub seated-pushed : (entries : List (ℕ × Listed)) (user : Listed) → AreSeated entries → AreSeated (entries ++ (user.sid, user) ∷ [])
seated-pushed [] user s = (refl, tt)
seated-pushed (entry ∷ entries) user s = (s.0, seated-pushed entries user s.1)

pub users-pushed : (entries : List (ℕ × Listed)) (user : Listed) → values_of (entries ++ (user.sid, user) ∷ []) ≡ values_of entries ++ user ∷ []
users-pushed [] user = refl
users-pushed (entry ∷ entries) user = ap (λ (us : List Listed). entry.1 ∷ us) (users-pushed entries user)
