-- A word says what its characters say one after another.
use Rattle.std.proofs.Common.{◌≡◌, ◌∙◌, sym, ap, refl, ℕ, ◌+◌, ◌≤◌, Bool, true, false, not, ◌&&◌, ◌==◌, cond, List, [], ◌∷◌, length, drop, Option, Some, None, arith}
use Rattle.std.specs.Option.{option_map, option_and_then}
use Rattle.std.specs.Prelude.{codes, slice_index, take}
use Rattle.std.specs.Str.{bytes_eq}
use Rattle.std.proofs.lemmas.Bool.Decides.{nat_tests}
use Rattle.adc_line.specs.Header.{is_feature_name, is_named}
use Rattle.login_state.specs.declared.feature.Mention.{Mention}
use Rattle.login_state.specs.declared.feature.Mention.TheVariants.{Adds, Removes}
use Rattle.login_state.specs.Mentions.{base, feature_named, mention_at, ucmd}
use Rattle.login_state.specs.Signs.{mention_with_sign, read_mention}

-- a name of another length names no feature
unnamed : (name : List ℕ) → (length name == 4) ≡ false → feature_named name ≡ None
unfolding feature_named is_feature_name
unnamed name long =
    ap (λ t. cond (not (t && is_named (slice_index name 0) (slice_index name 1) (slice_index name 2) (slice_index name 3))) None
    (cond (bytes_eq name (codes "BAS0")) (Some base) (cond (bytes_eq name (codes "UCM0")) (Some ucmd) (Some name)))) long

by-signs : (a b c d : Bool) (found : Option (List ℕ))
    → cond (a && (b && true)) (option_map (λ (feature : List ℕ). Adds feature) found)
    (cond (c && (d && true)) (option_map (λ (feature : List ℕ). Removes feature) found) None)
    ≡ option_and_then (λ (feature : List ℕ). cond (a && b) (Some (Adds feature)) (cond (c && d) (Some (Removes feature)) None)) found
by-signs true true c d None = refl
by-signs true true c d (Some feature) = refl
by-signs true false true true None = refl
by-signs true false true true (Some feature) = refl
by-signs true false true false None = refl
by-signs true false true false (Some feature) = refl
by-signs true false false d None = refl
by-signs true false false d (Some feature) = refl
by-signs false b true true None = refl
by-signs false b true true (Some feature) = refl
by-signs false b true false None = refl
by-signs false b true false (Some feature) = refl
by-signs false b false d None = refl
by-signs false b false d (Some feature) = refl

no-name : (a b : Bool) (name : List ℕ) → (length name == 4) ≡ false
    → cond a (option_map (λ (feature : List ℕ). Adds feature) (feature_named name)) (cond b (option_map (λ (feature : List ℕ). Removes feature) (feature_named name)) None) ≡ None
no-name true b name long = ap (option_map (λ (feature : List ℕ). Adds feature)) (unnamed name long)
no-name false true name long = ap (option_map (λ (feature : List ℕ). Removes feature)) (unnamed name long)
no-name false false name long = refl

pub mention_at_is : (word : List ℕ) → mention_at word ≡ read_mention word
unfolding mention_at mention_with_sign
mention_at_is [] = refl
mention_at_is (p ∷ []) = no-name (bytes_eq (p ∷ []) (codes "AD")) (bytes_eq (p ∷ []) (codes "RM")) [] refl
mention_at_is (p ∷ q ∷ []) = no-name (bytes_eq (p ∷ q ∷ []) (codes "AD")) (bytes_eq (p ∷ q ∷ []) (codes "RM")) [] refl
mention_at_is (p ∷ q ∷ a ∷ []) = no-name (bytes_eq (p ∷ q ∷ []) (codes "AD")) (bytes_eq (p ∷ q ∷ []) (codes "RM")) (a ∷ []) refl
mention_at_is (p ∷ q ∷ a ∷ b ∷ []) = no-name (bytes_eq (p ∷ q ∷ []) (codes "AD")) (bytes_eq (p ∷ q ∷ []) (codes "RM")) (a ∷ b ∷ []) refl
mention_at_is (p ∷ q ∷ a ∷ b ∷ c ∷ []) = no-name (bytes_eq (p ∷ q ∷ []) (codes "AD")) (bytes_eq (p ∷ q ∷ []) (codes "RM")) (a ∷ b ∷ c ∷ []) refl
mention_at_is (p ∷ q ∷ a ∷ b ∷ c ∷ d ∷ []) = by-signs (p == 65) (q == 68) (p == 82) (q == 77) (feature_named (a ∷ b ∷ c ∷ d ∷ []))
mention_at_is (p ∷ q ∷ a ∷ b ∷ c ∷ d ∷ e ∷ more) =
    let long : (length (a ∷ b ∷ c ∷ d ∷ e ∷ more) == 4) ≡ false = grind (arith, nat_tests) in
    let longer : (length (p ∷ q ∷ a ∷ b ∷ c ∷ d ∷ e ∷ more) == 6) ≡ false = grind (arith, nat_tests) in
    no-name (bytes_eq (p ∷ q ∷ []) (codes "AD")) (bytes_eq (p ∷ q ∷ []) (codes "RM")) (a ∷ b ∷ c ∷ d ∷ e ∷ more) long
    ∙ sym (ap (λ t. cond t (option_and_then (λ (feature : List ℕ). mention_with_sign p q feature) (feature_named (a ∷ b ∷ c ∷ d ∷ []))) None) longer)
