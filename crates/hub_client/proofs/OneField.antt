-- A message has one value at most for a field.
use Rattle.std.proofs.Common.{◌≡◌, ◌∙◌, refl, sym, ap, subst, drop, ℕ, List, [], ◌∷◌, ◌++◌, Option, Some, None}
use Rattle.std.specs.List.{All}
use Rattle.std.proofs.lemmas.List.{append_cancel_left}
use Rattle.std.proofs.lemmas.List.Elements.{All-head, All-tail}
use Rattle.std.specs.Prelude.{codes}
use Rattle.std.specs.Option.{option_and_then}
use Rattle.adc_base32.specs.Sids.{sid_at}
use Rattle.adc_line.specs.Lines.{Reading}
use Rattle.hub_client.specs.Entries.{IsSender}
use Rattle.hub_client.specs.Fields.{Lacks, IsField}

first-word : (name v : List ℕ) (ws : List (List ℕ)) (found : Option (List ℕ)) → IsField name ((name ++ v) ∷ ws) found → found ≡ Some v
first-word name v ws None f = absurd (All-head (Lacks name) (name ++ v) ws f v refl)
first-word name v ws (Some u) ([], behind, e, lacks) =
    let same : name ++ u ≡ name ++ v = cc in
    ap Some (append_cancel_left name u v same)
first-word name v ws (Some u) (w ∷ before, behind, e, lacks) =
    let same : w ≡ name ++ v = cc in
    absurd (All-head (Lacks name) w before lacks v same)

later-word : (name w : List ℕ) (ws : List (List ℕ)) (found : Option (List ℕ)) → Lacks name w → IsField name (w ∷ ws) found → IsField name ws found
later-word name w ws None none f = All-tail (Lacks name) w ws f
later-word name w ws (Some u) none ([], behind, e, lacks) =
    let same : w ≡ name ++ u = cc in
    absurd (none u same)
later-word name w ws (Some u) none (x ∷ before, behind, e, lacks) =
    let same : ws ≡ before ++ (name ++ u) ∷ behind = cc in
    (before, behind, same, All-tail (Lacks name) x before lacks)

at-word : (name v : List ℕ) (before behind : List (List ℕ)) (found : Option (List ℕ)) → All (Lacks name) before → IsField name (before ++ (name ++ v) ∷ behind) found → found ≡ Some v
at-word name v [] behind found lacks f = first-word name v behind found f
at-word name v (w ∷ before) behind found lacks f =
    at-word name v before behind found (All-tail (Lacks name) w before lacks)
    (later-word name w (before ++ (name ++ v) ∷ behind) found (All-head (Lacks name) w before lacks) f)

pub one_field : (name v : List ℕ) (words : List (List ℕ)) (found : Option (List ℕ)) → IsField name words (Some v) → IsField name words found → found ≡ Some v
one_field name v words found has f =
    at-word name v has.0 has.1 found has.3 (subst (λ ws. IsField name ws found) has.2 f)

-- two values of one field are one
same-field : (name : List ℕ) (words : List (List ℕ)) (a b : Option (List ℕ)) → IsField name words a → IsField name words b → a ≡ b
same-field name words (Some v) b f g = sym (one_field name v words b f g)
same-field name words None (Some v) f g = one_field name v words None g f
same-field name words None None f g = refl

-- who sent a user away is told once
pub same_sender : (line : Reading) (a b : Option ℕ) → IsSender line a → IsSender line b → a ≡ b
same_sender line a b (w, f, e) (v, g, d) = e ∙ ap (λ word. option_and_then sid_at word) (same-field (codes "ID") (drop 1 line.params) w v f g) ∙ sym d
