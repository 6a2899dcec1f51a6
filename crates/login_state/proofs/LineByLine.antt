-- Features are applied one SUP after another.
use Rattle.std.proofs.Common.{◌≡◌, ◌∙◌, sym, ap, ℕ, List, [], ◌∷◌, ◌++◌, length, true, false, cond, not, nat_lt, Bool}
use Rattle.std.specs.Prelude.{Result, Ok, Err, IfOk}
use Rattle.login_state.specs.declared.fault.SupFault.{SupFault}
use Rattle.login_state.specs.declared.fault.SupFault.TheVariants.{Bad, TooMany}
use Rattle.login_state.specs.Support.{supported_after, mentions_in, features_of}
use Rattle.login_state.specs.SupportAnswers.{most_features, are_mentions, support_after, GivesSupport}
use Rattle.login_state.proofs.Mentioned.{features_of-push}

ok_or : Result (List (List ℕ)) SupFault → List (List ℕ) → List (List ℕ)
ok_or (Ok features) other = features
ok_or (Err fault) other = other

-- an answer that is no fault is what stands where no fault is
only_ok : (a b : Bool) (some features : List (List ℕ)) → cond a (Err Bad) (cond b (Err TooMany) (Ok some)) ≡ Ok features → some ≡ features
unfolding ok_or
only_ok true b some features e = ap (λ answer. ok_or answer some) e
only_ok false true some features e = ap (λ answer. ok_or answer some) e
only_ok false false some features e = ap (λ answer. ok_or answer some) e

pub applied-ok : (before : List (List ℕ)) (words : List (List ℕ)) (features : List (List ℕ)) → support_after before words ≡ Ok features → supported_after before (mentions_in words) ≡ features
unfolding support_after
applied-ok before words features e =
    only_ok (not (are_mentions words)) (nat_lt most_features (length (supported_after before (mentions_in words)))) (supported_after before (mentions_in words)) features e

pub line_by_line : (answer : Result (List (List ℕ)) SupFault) (before words : List (List ℕ)) (lines : List (List (List ℕ)))
    → before ≡ features_of lines → GivesSupport answer (support_after before words) → IfOk answer (λ features. features ≡ features_of (lines ++ words ∷ []))
line_by_line (Err fault) before words lines from given = tt
line_by_line (Ok features) before words lines from given =
    sym (features_of-push lines words ∙ ap (λ earlier. supported_after earlier (mentions_in words)) (sym from) ∙ applied-ok before words features given)
