-- A flaw of an entry of a list is a finding in that list.
use Rattle.std.proofs.Common.{◌≡◌, refl, sym, ap, subst, ◌∙◌, ℕ, zero, suc, ◌<◌, List, [], ◌∷◌, length, get_or, Option, Some, None, IsSome, arith}
use Rattle.std.proofs.lemmas.Bool.{false≢true}
use Rattle.std.specs.Option.{option_and_then}
use Rattle.toml.proofs.Views.{get_item_within}
use Rattle.toml.specs.Data.{Data, Items, as_array, get_item}
use Rattle.toml.specs.View.{items_view, view}
use Rattle.toml.specs.declared.value.Value.{Value}
use Rattle.settings_report.specs.Findings.{IsFlawOf, IsFoundAmong, IsFoundAt, IsFoundAtKey, entry_in, entry_of, standing_in}
use Rattle.settings_report.specs.declared.entries.Flaw.{Flaw}
use Rattle.settings_report.specs.declared.findings.Finding.{Finding}

entry_seen : (items : List Value) (item : Value) (entry : ℕ) → entry < length items → item ≡ get_or items entry item
    → entry_of (Some entry) (items_view items) ≡ Some (view item)
entry_seen items item entry within is = sym (get_item_within items entry item within) ∙ ap (λ v. Some (view v)) (sym is)

found_seen : (seen : List Value) (item : Value) (entry : ℕ) (flaw : Flaw) (finding : Finding) → entry < length seen → item ≡ get_or seen entry item
    → finding.entry ≡ Some entry → finding.inner ≡ flaw.inner → finding.found ≡ flaw.found → IsFlawOf (view item) flaw
    → IsFoundAmong (items_view seen) finding
found_seen seen item entry flaw finding within is at inner found stands =
    let seen_there : entry_of finding.entry (items_view seen) ≡ Some (view item) = rw at (entry_seen seen item entry within is) in
    subst (λ (there : Option Data). IsFoundAt there finding) (sym seen_there) (refl, rw (inner, found) stands)

pub found_among : (items seen : List Value) → seen ≡ items → (item : Value) (entry : ℕ) (flaw : Flaw) (finding : Finding) → entry < length seen
    → item ≡ get_or seen entry item → finding.entry ≡ Some entry → finding.inner ≡ flaw.inner → finding.found ≡ flaw.found
    → IsFlawOf (view item) flaw → IsFoundAmong (items_view items) finding
found_among items seen same item entry flaw finding within is at inner found stands =
    subst (λ (list : List Value). IsFoundAmong (items_view list) finding) same (found_seen seen item entry flaw finding within is at inner found stands)

pub has_item : (items : List Value) (entry : ℕ) → entry < length items → IsSome (get_item entry (items_view items))
has_item [] entry within = absurd (omega arith)
has_item (value ∷ items) zero within = refl
has_item (value ∷ items) (suc entry) within = has_item items entry (omega arith)

itself : (item : Option Data) → IsSome item → IsSome (option_and_then (standing_in None) item)
itself None there = absurd (false≢true there)
itself (Some item) there = refl

pub surplus_stands : (items : List Value) (entry : ℕ) → entry < length items → IsSome (option_and_then (standing_in None) (get_item entry (items_view items)))
surplus_stands items entry within = itself _ (has_item items entry within)

no_entry : (items : Option Items) → IsSome (option_and_then (entry_of None) items) → ⊥
no_entry None there = false≢true there
no_entry (Some items) there = false≢true there

-- what is found in the list at a key is found in the document
pub in_document : (value : Option Data) (entry : Option ℕ) (finding : Finding) → IsFoundAt (entry_in entry value) finding → IsFoundAtKey entry value finding
in_document value None finding (there, stands) = absurd (no_entry (option_and_then as_array value) there)
in_document value (Some entry) finding found = found
