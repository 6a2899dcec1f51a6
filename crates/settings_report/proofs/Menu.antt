-- The warnings of entries, one entry more at a time.
use Rattle.std.proofs.Common.{◌≡◌, ◌∙◌, refl, sym, ap, subst, ℕ, suc, ◌+◌, List, [], ◌∷◌, ◌++◌, append_assoc, append-nil, arith, length, rules}
use Rattle.std.specs.Prelude.{codes, ◌<◌, get_or, take, Option, Some}
use Rattle.std.proofs.lemmas.List.{take_more}
use Rattle.toml.specs.Data.{Data, get}
use Rattle.toml.specs.View.{items_view, view}
use Rattle.toml.specs.declared.value.Value.{Value}
use Rattle.settings_report.specs.Places.{after}
use Rattle.settings_report.specs.Warned.{WarnsOf, WarnsOfEntry, WarnsOfItems, text_in}
use Rattle.settings_report.specs.declared.menu_texts.TextFlaw.TheVariants.{Unended, CarriageReturn, NoMessage}
use Rattle.settings_report.specs.declared.warnings.SettingsWarning.{SettingsWarning}

pub warns-more : (before : ℕ) (values : List Value) (value : Value) (warnings own : List SettingsWarning) → WarnsOfItems before (items_view values) warnings
    → WarnsOfEntry (after (before + length values)) (get (codes "text") (view value)) own → WarnsOfItems before (items_view (values ++ value ∷ [])) (warnings ++ own)
warns-more before [] value warnings own none warns =
    (own, [], ap (λ (them : List SettingsWarning). them ++ own) none ∙ sym (append-nil own), subst (λ n. WarnsOfEntry (after n) (get (codes "text") (view value)) own) (omega arith) warns, refl)
warns-more before (first ∷ values) value warnings own (mine, others, are, here, there) warns =
    let rest = warns-more (suc before) values value others own there
    (subst (λ n. WarnsOfEntry (after n) (get (codes "text") (view value)) own) (omega arith) warns) in
    (mine, others ++ own, ap (λ (them : List SettingsWarning). them ++ own) are ∙ append_assoc mine others own, here, rest)

-- the warnings of the entries up to one more
pub warns-next : (values : List Value) (i : ℕ) (value : Value) (old new : List SettingsWarning) → i < length values → value ≡ get_or values i value
    → WarnsOfItems 0 (items_view (take i values)) old
    → ((own : List SettingsWarning) × (new ≡ old ++ own) × WarnsOfEntry (after i) (get (codes "text") (view value)) own)
    → WarnsOfItems 0 (items_view (take (i + 1) values)) new
warns-next values i value old new within is before (own, new-is, warns) =
    let more : take (i + 1) values ≡ take i values ++ value ∷ [] = take_more values i value within ∙ ap (λ v. take i values ++ v ∷ []) (sym is) in
    let long : i ≡ 0 + length (take i values) = search (rules, arith) in
    let here : WarnsOfEntry (after (0 + length (take i values))) (get (codes "text") (view value)) own =
    subst (λ n. WarnsOfEntry (after n) (get (codes "text") (view value)) own) long warns in
    subst (λ (them : List Value). WarnsOfItems 0 (items_view them) new) (sym more)
    (subst (λ (them : List SettingsWarning). WarnsOfItems 0 (items_view (take i values ++ value ∷ [])) them) (sym new-is)
    (warns-more 0 (take i values) value old own before here))

-- the warnings of an entry's three flaws
pub joined : (number : ℕ) (value : Option Data) (told : Data) (old one two three : List SettingsWarning) → value ≡ Some told
    → ((own : List SettingsWarning) × (one ≡ old ++ own) × WarnsOf number (text_in told) Unended own)
    → ((own : List SettingsWarning) × (two ≡ one ++ own) × WarnsOf number (text_in told) CarriageReturn own)
    → ((own : List SettingsWarning) × (three ≡ two ++ own) × WarnsOf number (text_in told) NoMessage own)
    → (own : List SettingsWarning) × (three ≡ old ++ own) × WarnsOfEntry number value own
joined number value told old one two three is (a, one-is, ends) (b, two-is, returns) (c, three-is, others) = (
  (a ++ b) ++ c,
  three-is ∙ ap (λ (them : List SettingsWarning). them ++ c) (two-is ∙ ap (λ (them : List SettingsWarning). them ++ b) one-is ∙ append_assoc old a b) ∙ append_assoc old (a ++ b) c,
  subst (λ (v : Option Data). WarnsOfEntry number v ((a ++ b) ++ c)) (sym is)
      (record { ends = a; returns = b; messages = c; are = refl; unended = ends; returned = returns; other = others }),
)
