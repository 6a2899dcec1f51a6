-- Words with a comma and a blank between each two, one word on.
use Rattle.std.proofs.Common.{◌≡◌, ◌∙◌, refl, sym, ap, ℕ, ◌+◌, ◌<◌, List, [], ◌∷◌, ◌++◌, append_assoc, map, length, take, get_or, arith, add-one}
use Rattle.std.proofs.lemmas.List.{map-append, take_more}
use denote.Ref.{Bor}
use Rattle.hub_settings.specs.declared.kinds.SettingKind.{SettingKind}
use Rattle.hub_settings.specs.Kinds.{Key, key_seen, names}
use Rattle.settings_report.specs.Printed.{with_commas}

-- the names of keys
abbrev pub names_of : List (Bor (List ℕ) × SettingKind) → List (List ℕ)
names_of keys = names (map key_seen keys)

-- what stands before the next word
abbrev pub comma_behind : List (List ℕ) → List ℕ
comma_behind [] = []
comma_behind (word ∷ words) = 44 ∷ 32 ∷ []

pub commas-more : (words : List (List ℕ)) (word : List ℕ) → with_commas (words ++ word ∷ []) ≡ with_commas words ++ (comma_behind words ++ word)
commas-more [] word = refl
commas-more (first ∷ []) word = refl
commas-more (first ∷ next ∷ more) word =
    ap (λ t. first ++ 44 ∷ 32 ∷ t) (commas-more (next ∷ more) word) ∙ sym (append_assoc first (44 ∷ 32 ∷ with_commas (next ∷ more)) (44 ∷ 32 ∷ word))

names-more : (keys : List (Bor (List ℕ) × SettingKind)) (i : ℕ) (key : Bor (List ℕ) × SettingKind) → i < length keys → names_of (take (i + 1) keys) ≡ names_of (take i keys) ++ (key_seen (get_or keys i key)).name ∷ []
names-more keys i key within =
    ap names_of (take_more keys i key within) ∙ ap names (map-append key_seen (take i keys) (get_or keys i key ∷ []))
    ∙ map-append (λ (k : Key). k.name) (map key_seen (take i keys)) (key_seen (get_or keys i key) ∷ [])

-- the text so far, with the next name behind a comma
pub commas-at : (keys : List (Bor (List ℕ) × SettingKind)) (i : ℕ) (comma name : List ℕ) (key : Bor (List ℕ) × SettingKind) → i < length keys → name ≡ (key_seen (get_or keys i key)).name
    → comma ≡ comma_behind (names_of (take i keys)) → with_commas (names_of (take i keys)) ++ (comma ++ name) ≡ with_commas (names_of (take (i + 1) keys))
commas-at keys i comma name key within is behind =
    ap (λ t. with_commas (names_of (take i keys)) ++ (t ++ name)) behind ∙ ap (λ t. with_commas (names_of (take i keys)) ++ (comma_behind (names_of (take i keys)) ++ t)) is
    ∙ sym (ap with_commas (names-more keys i key within) ∙ commas-more (names_of (take i keys)) (key_seen (get_or keys i key)).name)

pub comma_some : (keys : List (Bor (List ℕ) × SettingKind)) (i : ℕ) → i < length keys → 44 ∷ 32 ∷ [] ≡ comma_behind (names_of (take (i + 1) keys))
comma_some [] i within = absurd (omega (arith, within))
comma_some (key ∷ keys) i within = rw add-one refl
