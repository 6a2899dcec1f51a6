-- The count of fields that an update adds and takes away, entry by entry.
use Rattle.std.proofs.Common.{◌≡◌, ℕ, suc, ◌+◌, ◌≤◌, ◌<◌, ◌^◌, Bool, true, false, List, [], ◌∷◌, length, refl, sym, ap, ◌∙◌, inl, inr, arith}
use Rattle.std.specs.Prelude.{String, ◌==◌, nat_le}
use Rattle.std.specs.String.{string_bytes}
use Rattle.std.proofs.lemmas.Bool.{eqb-true, le-leb, cases_Bool, leb-true, leb-false}
use Rattle.inf_fields.specs.Field.{Field, has_name}
use Rattle.inf_fields.specs.Merging.{merged_with, fits}
use Rattle.inf_fields.specs.Stored.{fields_of}
use Rattle.inf_fields.proofs.ChangeLaws.{gain, loss, gains, losses, length-merged_with}
use Rattle.inf_fields.proofs.Changes.{Apart}

-- the counts so far, and what the rest of the entries adds and takes away, are those of the update
abbrev pub Tally : {A : Type 0} → List Field → List Field → List (List ℕ × String A) → ℕ → ℕ → Type 0
Tally fields update rest added taken =
    (added + gains fields (fields_of rest) ≡ gains fields update) × (taken + losses fields (fields_of rest) ≡ losses fields update) × (added + length rest ≤ length update)
    × (taken + length rest ≤ length update)
    × (length update < 2 ^ 63)

-- one entry more
counted : {A : Type 0} (fields update : List Field) (entries rest : List (List ℕ × String A)) (name : List ℕ) (value : String A) (there : Bool) (added taken gained lost added' taken' : ℕ)
    → Tally fields update entries added taken → entries ≡ (name, value) ∷ rest → has_name name fields ≡ there → gain there (string_bytes value) ≡ gained → loss there (string_bytes value) ≡ lost
    → gained ≤ 1 → lost ≤ 1 → added' ≡ added + gained → taken' ≡ taken + lost → Tally fields update rest added' taken'
counted fields update entries rest name value there added taken gained lost added' taken' h more has gains' loses few few' e e' =
    let grown : gains fields (fields_of entries) ≡ gained + gains fields (fields_of rest) =
    ap (λ es. gains fields (fields_of es)) more ∙ ap (λ b. gain b (string_bytes value) + gains fields (fields_of rest)) has ∙ ap (λ n. n + gains fields (fields_of rest)) gains' in
    let gone : losses fields (fields_of entries) ≡ lost + losses fields (fields_of rest) =
    ap (λ es. losses fields (fields_of es)) more ∙ ap (λ b. loss b (string_bytes value) + losses fields (fields_of rest)) has ∙ ap (λ n. n + losses fields (fields_of rest)) loses in
    let shorter : length entries ≡ suc (length rest) = ap length more in
    (omega (arith, h.0, grown, e), omega (arith, h.1, gone, e'), omega (arith, h.2, shorter, few, e), omega (arith, h.3, shorter, few', e'), h.4)

module _ {A : Type 0} (fields update : List Field) (entries rest : List (List ℕ × String A)) (name : List ℕ) (value : String A) (added taken : ℕ) where
  -- an empty value of a name that is there
  pub tally-taken : Tally fields update entries added taken → entries ≡ (name, value) ∷ rest → has_name name fields ≡ true → (length (string_bytes value) == 0) ≡ true
      → Tally fields update rest added (taken + 1)
  tally-taken h more has empty = counted fields update entries rest name value true added taken 0 1 added (taken + 1) h more has refl (by (string_bytes value) empty) (omega arith) (omega arith) (omega arith) (omega arith)
    where
      by : (v : List ℕ) → (length v == 0) ≡ true → loss true v ≡ 1
      by [] e = refl
      by (b ∷ v) e = let bad : length (b ∷ v) ≡ 0 = eqb-true (length (b ∷ v)) 0 e in absurd (omega arith)

  -- another value of a name that is there
  pub tally-kept : Tally fields update entries added taken → entries ≡ (name, value) ∷ rest → has_name name fields ≡ true → (length (string_bytes value) == 0) ≡ false → Tally fields update rest added taken
  tally-kept h more has filled = counted fields update entries rest name value true added taken 0 0 added taken h more has refl (by (string_bytes value) filled) (omega arith) (omega arith) (omega arith) (omega arith)
    where
      by : (v : List ℕ) → (length v == 0) ≡ false → loss true v ≡ 0
      by [] e = cc
      by (b ∷ v) e = refl

  -- a value of a new name
  pub tally-added : Tally fields update entries added taken → entries ≡ (name, value) ∷ rest → has_name name fields ≡ false → (length (string_bytes value) == 0) ≡ false
      → Tally fields update rest (added + 1) taken
  tally-added h more has filled = counted fields update entries rest name value false added taken 1 0 (added + 1) taken h more has (by (string_bytes value) filled) refl (omega arith) (omega arith) (omega arith) (omega arith)
    where
      by : (v : List ℕ) → (length v == 0) ≡ false → gain false v ≡ 1
      by [] e = cc
      by (b ∷ v) e = refl

  -- an empty value of a new name
  pub tally-absent : Tally fields update entries added taken → entries ≡ (name, value) ∷ rest → has_name name fields ≡ false → (length (string_bytes value) == 0) ≡ true → Tally fields update rest added taken
  tally-absent h more has empty = counted fields update entries rest name value false added taken 0 0 added taken h more has (by (string_bytes value) empty) refl (omega arith) (omega arith) (omega arith) (omega arith)
    where
      by : (v : List ℕ) → (length v == 0) ≡ true → gain false v ≡ 0
      by [] e = refl
      by (b ∷ v) e = let bad : length (b ∷ v) ≡ 0 = eqb-true (length (b ∷ v)) 0 e in absurd (omega arith)

-- the counts of all entries say whether there are not too many fields
pub tally-fits : {A : Type 0} (fields update : List Field) (rest : List (List ℕ × String A)) (added taken : ℕ) → Tally fields update rest added taken → rest ≡ [] → Apart fields → Apart update
    → nat_le (length fields + added) (40 + taken) ≡ fits fields update
tally-fits fields update rest added taken h none apart apart' =
    let all = length-merged_with update fields apart' apart in
    let gained : added + 0 ≡ gains fields update = ap (λ es. added + gains fields (fields_of es)) (sym none) ∙ h.0 in
    let lost : taken + 0 ≡ losses fields update = ap (λ es. taken + losses fields (fields_of es)) (sym none) ∙ h.1 in
    same_test (length fields + added) (40 + taken) (length (merged_with fields update)) 40 (λ le. omega (arith, all, gained, lost, le)) (λ le. omega (arith, all, gained, lost, le))
  where
    too_much : (a b : ℕ) → b < a → a ≤ b → ⊥
    too_much a b more le = omega arith

    same_test : (a b c d : ℕ) → (a ≤ b → c ≤ d) → (c ≤ d → a ≤ b) → nat_le a b ≡ nat_le c d
    same_test a b c d to from =
        elim (cases_Bool (nat_le a b)) [
          | inl yes' ↦ yes' ∙ sym (le-leb c d (to (leb-true a b yes')))
          | inr no' ↦ elim (cases_Bool (nat_le c d)) [
            | inl also ↦ absurd (too_much a b (leb-false a b no') (from (leb-true c d also)))
            | inr neither ↦ no' ∙ sym neither
          ]
        ]
