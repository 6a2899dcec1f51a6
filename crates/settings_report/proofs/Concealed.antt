-- The words for what is concealed show no value.
use Rattle.std.proofs.Common.{◌≡◌, refl, sym, subst, ◌∙◌, ℕ, true, List, [], ◌∷◌, codes, Option, Some, None, unwrap_or, ◌⊎◌, inl, inr}
use Rattle.toml.specs.Data.{Data, string, integer, float, boolean, datetime, array, table}
use Rattle.toml.specs.View.{view}
use Rattle.hub_settings.specs.Unknown.{is_among}
use Rattle.settings_report.proofs.Unknown.{some_same}
use Rattle.settings_report.specs.FaultWords.{IsConcealed, IsFindingText, concealing_words, kind_words}
use Rattle.settings_report.specs.Findings.{FindingHidesPasswords, IsOpenKey, text_of}
use Rattle.settings_report.specs.declared.findings.Finding.{Finding}
use Rattle.settings_report.specs.declared.findings.Found.{Found}
use Rattle.settings_report.specs.declared.findings.Found.TheVariants as found

kind_concealing : (value : Data) → is_among concealing_words (kind_words value) ≡ true
kind_concealing (string []) = refl
kind_concealing (string (b ∷ bs)) = refl
kind_concealing (integer z) = refl
kind_concealing (float x) = refl
kind_concealing (boolean b) = refl
kind_concealing (datetime d) = refl
kind_concealing (array items) = refl
kind_concealing (table _) = refl

concealing : (it : Found) (words : List ℕ) → IsConcealed it → IsFindingText it words → is_among concealing_words words ≡ true
concealing (found.Value value) words hidden said = absurd hidden
concealing (found.Twice value) words hidden said = absurd hidden
concealing (found.Secret value) words hidden said = subst (λ w. is_among concealing_words w ≡ true) (sym said) (kind_concealing (view value.now))
concealing found.Unknown words hidden said = subst (λ w. is_among concealing_words w ≡ true) (sym said) refl
concealing found.Nothing words hidden said = subst (λ w. is_among concealing_words w ≡ true) (sym said) refl
concealing found.Surplus words hidden said = subst (λ w. is_among concealing_words w ≡ true) (sym said) refl

open_inner : (key : Option (List ℕ)) (inner : List ℕ) → inner ≡ unwrap_or key [] → IsOpenKey key → (inner ≡ codes "nick") ⊎ (inner ≡ codes "operator")
open_inner None inner is none = absurd none
open_inner (Some key) inner is (inl nick) = inl (is ∙ nick)
open_inner (Some key) inner is (inr operator) = inr (is ∙ operator)

pub hidden : (finding : Finding) (key inner words : List ℕ) → key ≡ finding.key.now → FindingHidesPasswords finding → inner ≡ unwrap_or (text_of finding.inner) []
    → IsFindingText finding.found words → Some key ≡ Some (codes "account")
    → ((inner ≡ codes "nick") ⊎ (inner ≡ codes "operator")) ⊎ (is_among concealing_words words ≡ true)
hidden finding key inner words same hides is said account =
    elim (hides (sym same ∙ some_same key (codes "account") account)) [
      | inl open_key ↦ inl (open_inner (text_of finding.inner) inner is open_key)
      | inr concealed ↦ inr (concealing finding.found words concealed said)
    ]
