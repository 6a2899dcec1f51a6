-- The word CT4 stands only in what the hub itself says of a client.
use Rattle.std.proofs.Common.{◌≡◌, ◌∙◌, sym, ap, ap₂, refl, ℕ, Bool, true, false, ◌||◌, List, [], ◌∷◌, ◌++◌, append_assoc}
use Rattle.std.specs.Prelude.{Option, Some, None, codes, if◌then◌else◌}
use Rattle.std.specs.List.{list_any}
use Rattle.adc_base32.specs.Sids.{sid_text}
use Rattle.inf_fields.specs.Field.{printed_fields}
use Rattle.inf_fields.specs.FieldNames.{client_type_name}
use Rattle.hub_rules.specs.Accounts.{operates}
use Rattle.hub_laws.proofs.Words.{ConfiguredAccount, AllByRecursion, Field, bytes_eq, bytes_eq-Decides, client_type, false≢true, user_line}
use Rattle.hub_laws.specs.Lists.{pieces}
use Rattle.hub_laws.specs.Types.{OperatorsHaveAccounts}
use Rattle.hub_laws.proofs.Fields.{told_of_user}
use Rattle.hub_laws.proofs.Pieces.{IsSolid, IsTold, cut, is_gap, sid-solid, word-solid, word_of}

abbrev has_type : List (List ℕ) → Bool
has_type words = list_any (bytes_eq (codes "CT4")) words

not-word : (word other : List ℕ) (b : Bool) → bytes_eq word other ≡ b → (word ≡ other → ⊥) → b ≡ false
not-word word other true is apart = absurd (apart ((bytes_eq-Decides word other).0 is))
not-word word other false is apart = refl

-- no field is a type
name-of : (a b : ℕ) (value : List ℕ) → codes "CT4" ≡ a ∷ b ∷ value → client_type_name ≡ a ∷ b ∷ []
name-of a b value is = cc is

no-type : (f : Field) → IsTold f → bytes_eq (codes "CT4") (word_of f) ≡ false
no-type f told =
    not-word (codes "CT4") (word_of f) _ refl
    (λ is. false≢true (sym told.1 ∙ (bytes_eq-Decides client_type_name f.name).1
    (name-of told.0.first told.0.second f.value (is ∙ ap (λ (name : List ℕ). name ++ f.value) told.0.name) ∙ sym told.0.name)))

-- nor is a session identifier
four-long : (a b c d : ℕ) → codes "CT4" ≡ a ∷ b ∷ c ∷ d ∷ [] → ⊥
four-long a b c d is = false≢true (ap (λ (word : List ℕ). is_three word) is)
  where
    is_three : List ℕ → Bool
    is_three (a ∷ b ∷ c ∷ []) = false
    is_three word = true

types-cut : (word : List ℕ) (fields : List Field) (gap : ℕ) (rest : List ℕ) → IsSolid word → is_gap gap ≡ true → AllByRecursion IsTold fields
    → has_type (pieces (word ++ (printed_fields fields ++ gap ∷ rest))) ≡ (bytes_eq (codes "CT4") word || has_type (pieces rest))
unfolding printed_fields
types-cut word [] gap rest solid is told = ap has_type (cut word gap rest solid is)
types-cut word (f ∷ fields) gap rest solid is told =
    ap (λ (bs : List ℕ). has_type (pieces (word ++ bs))) (append_assoc (32 ∷ word_of f) (printed_fields fields) (gap ∷ rest))
    ∙ ap has_type (cut word 32 (word_of f ++ (printed_fields fields ++ gap ∷ rest)) solid refl)
    ∙ ap (λ b. bytes_eq (codes "CT4") word || b)
    (types-cut (word_of f) fields gap rest (word-solid f told.0.0) is told.1 ∙ ap (λ b. b || has_type (pieces rest)) (no-type f told.0))

-- what the hub says behind the fields
record Behind (text : List ℕ) (operator : Bool) : Type 0 where
  gap : ℕ
  rest : List ℕ
  is : is_gap gap ≡ true
  text_is : text ++ 10 ∷ [] ≡ gap ∷ rest
  shows : has_type (pieces rest) ≡ operator

behind-of : (operator : Bool) → Behind (if operator then codes " CT4" else codes " CT2") operator
behind-of true = record { gap = 32; rest = _; is = refl; text_is = refl; shows = refl }
behind-of false = record { gap = 32; rest = _; is = refl; text_is = refl; shows = refl }

behind : (account : Option ConfiguredAccount) → Behind (client_type account) (operates account)
behind (Some account) = behind-of account.operator
behind None = record { gap = 10; rest = []; is = refl; text_is = refl; shows = refl }

shown : (sid : ℕ) (fields : List Field) (account : Option ConfiguredAccount) → AllByRecursion IsTold fields → has_type (pieces (user_line sid fields account)) ≡ operates account
unfolding user_line
shown sid fields account told =
    let type = behind account in
    ap (λ (bs : List ℕ). has_type (pieces bs)) (append_assoc (codes "BINF ") (sid_text sid ++ (printed_fields fields ++ client_type account)) (10 ∷ [])
    ∙ ap (λ (bs : List ℕ). codes "BINF " ++ bs) (append_assoc (sid_text sid) (printed_fields fields ++ client_type account) (10 ∷ []) ∙ ap (λ (bs : List ℕ). sid_text sid ++ bs)
    (append_assoc (printed_fields fields) (client_type account) (10 ∷ []) ∙ ap (λ (bs : List ℕ). printed_fields fields ++ bs) type.text_is)))
    ∙ ap has_type (cut (codes "BINF") 32 (sid_text sid ++ (printed_fields fields ++ type.gap ∷ type.rest)) (refl, (refl, (refl, (refl, tt)))) refl)
    ∙ types-cut (sid_text sid) fields type.gap type.rest (sid-solid sid) type.is told
    ∙ ap₂ ◌||◌ (not-word (codes "CT4") (sid_text sid) _ refl (four-long _ _ _ _)) type.shows

pub operators_have_accounts : OperatorsHaveAccounts
operators_have_accounts setup hash h c is = sym (shown _ _ _ (told_of_user setup hash h c)) ∙ is
