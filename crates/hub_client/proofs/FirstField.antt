-- The first field of some that words have, one name on.
use Rattle.std.proofs.Common.{◌≡◌, ◌∙◌, sym, ap, refl, subst, ℕ, ◌+◌, ◌<◌, ◌≤◌, inl, inr, List, [], ◌∷◌, ◌++◌, length, take, drop, get_or, map, Option, Some, None, add-one}
use Rattle.std.specs.List.{All}
use Rattle.std.proofs.lemmas.List.{map-append, take-append-drop, take_all, take_more}
use Rattle.std.proofs.lemmas.List.Elements.{All-append, All-cons, All-head, All-nil, All-tail}
use Rattle.std.proofs.Math.Seq.{drop-cons}
use denote.Ref.{Bor}
use Rattle.hub_client.specs.Fields.{IsField, IsFirstField}

abbrev pub HasNone : List (List ℕ) → List (List ℕ) → Type 0
HasNone words names = All (λ name. IsField name words None) names

abbrev pub seen : List (Bor (List ℕ)) → List (List ℕ)
seen names = map (λ name. name.now) names

first-behind : (words before behind : List (List ℕ)) (value : Option (List ℕ)) → HasNone words before → IsFirstField behind words value → IsFirstField (before ++ behind) words value
first-behind words [] behind value none first = first
first-behind words (name ∷ before) behind value none first =
    let P : List ℕ → Type 0 = λ n. IsField n words None in
    inr (All-head P name before none, first-behind words before behind value (All-tail P name before none) first)

first-none : (words names : List (List ℕ)) → HasNone words names → IsFirstField names words None
first-none words [] none = refl
first-none words (name ∷ names) none =
    let P : List ℕ → Type 0 = λ n. IsField n words None in
    inr (All-head P name names none, first-none words names (All-tail P name names none))

pub found-at : (names : List (Bor (List ℕ))) (i : ℕ) (name : Bor (List ℕ)) (words : List (List ℕ)) (value : List ℕ) → i < length names → HasNone words (seen (take i names))
    → IsField (get_or names i name).now words (Some value) → IsFirstField (seen names) words (Some value)
found-at names i name words value within none has =
    let parted : names ≡ take i names ++ get_or names i name ∷ drop (i + 1) names =
    sym (take-append-drop i names) ∙ ap (λ t. take i names ++ t) (rw add-one (drop-cons names i name within)) in
    let split = ap seen parted ∙ map-append (λ (n : Bor (List ℕ)). n.now) (take i names) (get_or names i name ∷ drop (i + 1) names) in
    subst (λ (ns : List (List ℕ)). IsFirstField ns words (Some value)) (sym split) (first-behind words (seen (take i names)) _ (Some value) none (inl (has, refl)))

pub none-more : (names : List (Bor (List ℕ))) (i : ℕ) (name : Bor (List ℕ)) (words : List (List ℕ)) → i < length names → HasNone words (seen (take i names))
    → IsField (get_or names i name).now words None → HasNone words (seen (take (i + 1) names))
none-more names i name words within none here =
    let P : List ℕ → Type 0 = λ n. IsField n words None in
    let more = ap seen (take_more names i name within) ∙ map-append (λ (n : Bor (List ℕ)). n.now) (take i names) (get_or names i name ∷ []) in
    subst (λ (ns : List (List ℕ)). HasNone words ns) (sym more)
    (All-append P (seen (take i names)) ((get_or names i name).now ∷ []) none (All-cons P (get_or names i name).now [] here (All-nil P)))

pub none-left : (names : List (Bor (List ℕ))) (i : ℕ) (words : List (List ℕ)) → length names ≤ i → HasNone words (seen (take i names)) → IsFirstField (seen names) words None
none-left names i words past none = first-none words (seen names) (subst (λ ns. HasNone words (seen ns)) (take_all i names past) none)
