-- A spelling is read back to its text, and what is read is spelt so.
use Rattle.std.proofs.Common.{◌≡◌, ℕ, Bool, true, false, ◌||◌, List, [], ◌∷◌, ◌++◌, ◌⊎◌, refl, sym, ap, ap₂, ◌∙◌, inl, inr}
use Rattle.std.specs.Prelude.{◌==◌, Option, Some, None}
use Rattle.std.specs.Option.{option_map, option_and_then}
use Rattle.std.proofs.lemmas.Bool.{cases_Bool, cond-true, cond-false, eqb-true}
use Rattle.adc_line.specs.Escapes.{escaped_text, escaped_byte, is_special, backslash, escape_means, unescaped_text}
use Rattle.adc_line.proofs.EscapeLemmas.{escaped-nil, escaped-cons, escaped_byte-plain, unescaped-nil, unescaped-plain_byte}

-- each special byte has an escape, which stands for it
record Escape (b : ℕ) : Type 0 where
  letter : ℕ
  spelt : escaped_byte b ≡ backslash ∷ letter ∷ []
  means : escape_means letter ≡ Some b

escape_of : (b : ℕ) → is_special b ≡ true → Escape b
unfolding escape_means
escape_of b special =
    elim (cases_Bool (b == 32)) [
      | inl yes' ↦ record { letter = 115; spelt = cond-true _ _ _ yes'; means = ap Some (sym (eqb-true b 32 yes')) }
      | inr no' ↦ elim (cases_Bool (b == 10)) [
        | inl yes' ↦ record { letter = 110; spelt = cond-false _ _ _ no' ∙ cond-true _ _ _ yes'; means = ap Some (sym (eqb-true b 10 yes')) }
        | inr also ↦ elim (cases_Bool (b == 92)) [
          | inl yes' ↦ record { letter = 92; spelt = cond-false _ _ _ no' ∙ cond-false _ _ _ also ∙ cond-true _ _ _ yes'; means = ap Some (sym (eqb-true b 92 yes')) }
          | inr last ↦ absurd (no_test (b == 32) (b == 10) (b == 92) no' also last special)
        ]
      ]
    ]
  where
    no_test : (x y z : Bool) → x ≡ false → y ≡ false → z ≡ false → (x || y || z) ≡ true → ⊥
    no_test true y z p q r e = cc
    no_test false true z p q r e = cc
    no_test false false true p q r e = cc
    no_test false false false p q r e = cc

pub unescaped-escaped : (text : List ℕ) → unescaped_text (escaped_text text) ≡ Some text
unfolding unescaped_text
unescaped-escaped [] = ap unescaped_text escaped-nil ∙ unescaped-nil
unescaped-escaped (b ∷ text) =
    let rest = unescaped-escaped text in
    ap unescaped_text (escaped-cons b text)
    ∙ (elim (cases_Bool (is_special b)) [
      | inl special ↦
          let e = escape_of b special in
          ap (λ xs. unescaped_text (xs ++ escaped_text text)) e.spelt ∙ ap (option_and_then (λ (x : ℕ). option_map (λ (more : List ℕ). x ∷ more) (unescaped_text (escaped_text text)))) e.means
          ∙ ap (option_map (λ (more : List ℕ). b ∷ more)) rest
      | inr plain ↦
          ap (λ xs. unescaped_text (xs ++ escaped_text text)) (escaped_byte-plain b plain) ∙ unescaped-plain_byte b (escaped_text text) plain ∙ ap (option_map (λ (more : List ℕ). b ∷ more)) rest
    ])

-- what an escape means is spelt by it
spelt_by : (letter meant : ℕ) → escape_means letter ≡ Some meant → escaped_byte meant ≡ backslash ∷ letter ∷ []
unfolding escape_means
spelt_by letter meant e = by_tests (cases_Bool (letter == 115)) (cases_Bool (letter == 110)) (cases_Bool (letter == 92))
  where
    same : (known : ℕ) → escaped_byte known ≡ backslash ∷ letter ∷ [] → Some known ≡ Some meant → escaped_byte meant ≡ backslash ∷ letter ∷ []
    same known spelt f = let is : known ≡ meant = cc in ap escaped_byte (sym is) ∙ spelt

    by_tests : ((letter == 115) ≡ true) ⊎ ((letter == 115) ≡ false) → ((letter == 110) ≡ true) ⊎ ((letter == 110) ≡ false) → ((letter == 92) ≡ true) ⊎ ((letter == 92) ≡ false)
        → escaped_byte meant ≡ backslash ∷ letter ∷ []
    by_tests (inl x) y z = same 32 (ap (λ l. backslash ∷ l ∷ []) (sym (eqb-true letter 115 x))) (sym (cond-true _ _ _ x) ∙ e)
    by_tests (inr x) (inl y) z = same 10 (ap (λ l. backslash ∷ l ∷ []) (sym (eqb-true letter 110 y))) (sym (cond-false _ _ _ x ∙ cond-true _ _ _ y) ∙ e)
    by_tests (inr x) (inr y) (inl z) = same 92 (ap (λ l. backslash ∷ l ∷ []) (sym (eqb-true letter 92 z))) (sym (cond-false _ _ _ x ∙ cond-false _ _ _ y ∙ cond-true _ _ _ z) ∙ e)
    by_tests (inr x) (inr y) (inr z) = let bad : None ≡ Some meant = sym (cond-false _ _ _ x ∙ cond-false _ _ _ y ∙ cond-false _ _ _ z) ∙ e in cc

-- both parts of what an escape and the rest of a word spell
pub parts_of : (o : Option ℕ) (rest : Option (List ℕ)) (text : List ℕ) → option_and_then (λ (x : ℕ). option_map (λ (more : List ℕ). x ∷ more) rest) o ≡ Some text
    → (meant : ℕ) × (more : List ℕ) × (o ≡ Some meant) × (rest ≡ Some more) × (text ≡ meant ∷ more)
parts_of None rest text e = cc
parts_of (Some meant) None text e = cc
parts_of (Some meant) (Some more) text e = (meant, more, refl, refl, cc)

pub byte_of : (b : ℕ) (rest : Option (List ℕ)) (text : List ℕ) → option_map (λ (more : List ℕ). b ∷ more) rest ≡ Some text → (more : List ℕ) × (rest ≡ Some more) × (text ≡ b ∷ more)
byte_of b None text e = cc
byte_of b (Some more) text e = (more, refl, cc)

pub escaped-unescaped : (word text : List ℕ) → unescaped_text word ≡ Some text → escaped_text text ≡ word
unfolding unescaped_text
escaped-unescaped [] text e = let none : text ≡ [] = cc in ap escaped_text none ∙ escaped-nil
escaped-unescaped (b ∷ []) text e =
    elim (cases_Bool (is_special b)) [
      | inl special ↦ let bad : None ≡ Some text = sym (cond-true _ _ _ special) ∙ e in cc
      | inr plain ↦
          let one : Some (b ∷ []) ≡ Some text = sym (cond-false _ _ _ plain) ∙ e in
          let same : text ≡ b ∷ [] = cc in
          ap escaped_text same ∙ escaped-cons b [] ∙ ap₂ ◌++◌ (escaped_byte-plain b plain) escaped-nil
    ]
escaped-unescaped (b ∷ c ∷ more) text e =
    elim (cases_Bool (b == backslash)) [
      | inl slash ↦
          let parts = parts_of (escape_means c) (unescaped_text more) text (sym (cond-true _ _ _ slash) ∙ e) in
          ap escaped_text parts.4 ∙ escaped-cons parts.0 parts.1 ∙ ap₂ ◌++◌ (spelt_by c parts.0 parts.2) (escaped-unescaped more parts.1 parts.3)
          ∙ ap (λ x. x ∷ c ∷ more) (sym (eqb-true b 92 slash))
      | inr other ↦
          let left = sym (cond-false _ _ _ other) ∙ e in
          elim (cases_Bool (is_special b)) [
            | inl special ↦ let bad : None ≡ Some text = sym (cond-true _ _ _ special) ∙ left in cc
            | inr plain ↦
                let parts = byte_of b (unescaped_text (c ∷ more)) text (sym (cond-false _ _ _ plain) ∙ left) in
                ap escaped_text parts.2 ∙ escaped-cons b parts.0 ∙ ap₂ ◌++◌ (escaped_byte-plain b plain) (escaped-unescaped (c ∷ more) parts.0 parts.1)
          ]
    ]

pub read_back : (word text : List ℕ) → word ≡ escaped_text text → unescaped_text word ≡ Some text
read_back word text h = ap unescaped_text h ∙ unescaped-escaped text

pub one_text : (word text other : List ℕ) → unescaped_text word ≡ Some text → escaped_text other ≡ word → other ≡ text
one_text word text other h spelt =
    let both : Some other ≡ Some text = sym (unescaped-escaped other) ∙ ap unescaped_text spelt ∙ h in
    cc

pub no_text : (word text : List ℕ) → unescaped_text word ≡ None → escaped_text text ≡ word → ⊥
no_text word text h spelt =
    let both : Some text ≡ None = sym (unescaped-escaped text) ∙ ap unescaped_text spelt ∙ h in
    cc
