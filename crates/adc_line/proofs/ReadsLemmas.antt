-- The reading is what the grammar says, and all of it.
use Rattle.std.proofs.Common.{◌≡◌, ◌≢◌, ℕ, ◌+◌, ◌*◌, ◌<◌, ◌≤◌, Bool, true, false, not, ◌&&◌, cond, List, [], ◌∷◌, ◌++◌, length, drop, All, ◌⊎◌, inl, inr, refl, sym, ap, ap₂, subst, ◌∙◌, arith}
use Rattle.std.specs.Prelude.{◌==◌, Option, Some, None, Result, Ok, Err, IfOk, MatchResult, nat_lt, if◌then◌else◌}
use Rattle.std.specs.Option.{option_map, option_and_then}
use Rattle.std.specs.List.{list_all, join_with_byte}
use Rattle.std.specs.Str.{IsUtf8, is_utf8}
use Rattle.std.proofs.lemmas.Bool.{cases_Bool, cond-true, cond-false, ltb-false, eqb-true}
use Rattle.std.proofs.lemmas.Bool.Decides.{nat_tests}
use Rattle.std.proofs.lemmas.Str.{IsUtf8-from_is_utf8}
use Rattle.std.proofs.lemmas.List.Elements.{All-nil, All-cons, All-append, All-drop}
use Rattle.std.proofs.lemmas.List.Splits.{join_with_byte-slice_split}
use Rattle.std.proofs.lemmas.List.Sums.{AllPass-from_list_all, list_all-from_AllPass}
use Rattle.adc_base32.specs.Digits.{value_at}
use Rattle.adc_base32.specs.FourDigits.{four_digits, read_digits}
use Rattle.adc_base32.specs.Sids.{sid_count, sid_text, sid_at}
use Rattle.adc_base32.proofs.Spelling.{digit_of-value_at, sid_at-is, sid_at-sid_text, sid_text-sid_at}
use Rattle.adc_line.specs.declared.fault.LineFault.{LineFault}
use Rattle.adc_line.specs.declared.fault.LineFault.TheVariants as faults
use Rattle.adc_line.specs.declared.header.Head.{Head}
use Rattle.adc_line.specs.declared.header.Header.{Header}
use Rattle.adc_line.specs.declared.header.Kind.{Kind}
use Rattle.adc_line.specs.declared.header.Kind.TheVariants.{Broadcast, Client, Direct, Echo, Feature, Hub, Info, Udp}
use Rattle.adc_line.specs.Frames.{max_line, is_lf}
use Rattle.adc_line.specs.Gives.{Gives}
use Rattle.adc_line.specs.Grammar.{IsCommand, IsFeatureWord, IsParameter, IsAddressed, Reads}
use Rattle.adc_line.specs.Header.{letter, head_at, header, from_own, from_own_to, header_at, header_words, addressed_as, is_cid, is_feature_word}
use Rattle.adc_line.specs.Lines.{Reading, reading, with_header, message, features_of, params_of}
use Rattle.adc_line.specs.Parameters.{is_parameter, params_fault}
use Rattle.adc_line.specs.Escapes.{is_escaped}
use Rattle.adc_line.specs.Words.{blank, is_blank, words, word_at}
use Rattle.adc_line.proofs.BlankLemmas.{HasNoBlank, words-joined, words-HasNoBlank, first_word-no_blank, sid_text-no_blank, cid-no_blank, feature_word-no_blank}
use Rattle.adc_line.proofs.GrammarLemmas.{both, map-some, guard-holds, is_gap, IsParameter-of, parameter_tests, IsCommand-of, head_at-spelt, IsCid-of, is_cid-from, IsFeatureWord-of, is_feature_word-from}
use Rattle.adc_line.proofs.LineLemmas.{text_read, reading-passes, unless_faulty}

-- ---- the five tests, one after another

record Passed (bytes : List ℕ) (line : Reading) : Type 0 where
  short : length bytes ≤ max_line
  utf8 : IsUtf8 bytes
  head : Header
  headed : header_at (words bytes) ≡ Some head
  params : params_fault (params_of head.head.kind (words bytes)) ≡ None
  is : line ≡ message bytes head

passed_checks : (long bad : Bool) (read : Result Reading LineFault) (line : Reading) → cond {A = Result Reading LineFault} long (Err faults.TooLong) (cond bad (Err faults.NotUtf8) read) ≡ Ok line → (long ≡ false) × (bad ≡ false) × (read ≡ Ok line)
passed_checks true bad read line e = cc
passed_checks false true read line e = cc
passed_checks false false read line e = (refl, refl, e)

not_false : (b : Bool) → not b ≡ false → b ≡ true
not_false true e = refl
not_false false e = sym e

passed_header : (text : List ℕ) (found : Option Header) (line : Reading) → with_header text found ≡ Ok line
    → (head : Header) × (found ≡ Some head) × (unless_faulty (message text head) (params_fault (params_of head.head.kind (words text))) ≡ Ok line)
passed_header text None line e = cc
passed_header text (Some head) line e = (head, refl, e)

passed_params : (made line : Reading) (fault : Option LineFault) → unless_faulty made fault ≡ Ok line → (fault ≡ None) × (line ≡ made)
passed_params made line None e = let is : made ≡ line = cc in (refl, sym is)
passed_params made line (Some fault) e = cc

passed : (bytes : List ℕ) (line : Reading) → reading bytes ≡ Ok line → Passed bytes line
unfolding reading
passed bytes line e =
    let found = header_at (words bytes) in
    let checks = passed_checks (nat_lt max_line (length bytes)) (not (is_utf8 bytes)) (with_header bytes found) line e in
    let head = passed_header bytes found line checks.2 in
    let params = passed_params (message bytes head.0) line _ head.2 in
    record {
      short = ltb-false max_line (length bytes) checks.0;
      utf8 = IsUtf8-from_is_utf8 bytes (not_false (is_utf8 bytes) checks.1);
      head = head.0;
      headed = head.1;
      params = params.0;
      is = params.1;
    }

-- ---- what is read is in the grammar

then_parts : {A B : Type 0} (f : A → Option B) (o : Option A) (x : B) → option_and_then f o ≡ Some x → (y : A) × (o ≡ Some y) × (f y ≡ Some x)
then_parts f None x e = cc
then_parts f (Some y) x e = (y, refl, e)

at_0 : (ws : List (List ℕ)) → word_at ws 0 ≢ [] → ws ≡ word_at ws 0 ∷ drop 1 ws
at_0 [] some = absurd (some refl)
at_0 (w ∷ ws) some = refl

at_1 : (ws : List (List ℕ)) → word_at ws 1 ≢ [] → drop 1 ws ≡ word_at ws 1 ∷ drop 2 ws
at_1 [] some = absurd (some refl)
at_1 (w ∷ []) some = absurd (some refl)
at_1 (w ∷ v ∷ ws) some = refl

at_2 : (ws : List (List ℕ)) → word_at ws 2 ≢ [] → drop 2 ws ≡ word_at ws 2 ∷ drop 3 ws
at_2 [] some = absurd (some refl)
at_2 (w ∷ []) some = absurd (some refl)
at_2 (w ∷ v ∷ []) some = absurd (some refl)
at_2 (w ∷ v ∷ u ∷ ws) some = refl

four_below : (a b c d n : ℕ) → four_digits a b c d ≡ Some n → n < sid_count
unfolding four_digits
four_below a b c d n e =
    let first = then_parts _ (value_at a) n e in
    let second = then_parts _ (value_at b) n first.2 in
    let third = then_parts _ (value_at c) n second.2 in
    let fourth = then_parts _ (value_at d) n third.2 in
    let p = (digit_of-value_at a first.0 first.1).1 in
    let q = (digit_of-value_at b second.0 second.1).1 in
    let r = (digit_of-value_at c third.0 third.1).1 in
    let s = (digit_of-value_at d fourth.0 fourth.1).1 in
    let is : ((first.0 * 32 + second.0) * 32 + third.0) * 32 + fourth.0 ≡ n = cc in
    omega arith

read_below : (text : List ℕ) (n : ℕ) → read_digits text ≡ Some n → n < sid_count
read_below [] n e = cc
read_below (a ∷ []) n e = cc
read_below (a ∷ b ∷ []) n e = cc
read_below (a ∷ b ∷ c ∷ []) n e = cc
read_below (a ∷ b ∷ c ∷ d ∷ []) n e = four_below a b c d n e
read_below (a ∷ b ∷ c ∷ d ∷ f ∷ more) n e =
    let text : List ℕ = a ∷ b ∷ c ∷ d ∷ f ∷ more in
    let tests = guard-holds (length text == 4) _ n e in
    let four : length text ≡ 4 = eqb-true (length text) 4 tests.0 in
    omega arith

sid_below : (text : List ℕ) (n : ℕ) → sid_at text ≡ Some n → n < sid_count
sid_below text n e = read_below text n (sym (sid_at-is text) ∙ e)

-- a word that is a session identifier, by the identifier
record IsSid (word : List ℕ) (n : ℕ) : Type 0 where
  below : n < sid_count
  spelt : word ≡ sid_text n
  some : word ≢ []

sid_of : (word : List ℕ) (n : ℕ) → sid_at word ≡ Some n → IsSid word n
sid_of word n e =
    let spelt = sid_text-sid_at word n e in
    record { below = sid_below word n e; spelt = spelt; some = λ is. let bad : [] ≡ sid_text n = sym is ∙ spelt in cc }

record Sound (kind : Kind) (head : Head) (ws : List (List ℕ)) (made : Header) : Type 0 where
  same : made.head ≡ head
  addresses : List (List ℕ)
  addressed : IsAddressed kind addresses made.from made.target (features_of kind ws)
  rest : drop 1 ws ≡ addresses ++ drop (header_words kind) ws

module _ (head : Head) (ws : List (List ℕ)) (made : Header) where
  bare : Some (header head None None) ≡ Some made → (made.head ≡ head) × (made.from ≡ None) × (made.target ≡ None)
  bare e =
      let is : header head None None ≡ made = cc in
      (ap (λ (h : Header). h.head) (sym is), ap (λ (h : Header). h.from) (sym is), ap (λ (h : Header). h.target) (sym is))

  sound_own : from_own head (word_at ws 1) ≡ Some made → Sound Broadcast head ws made
  sound_own e =
      let own = map-some (λ (sid : ℕ). header head (Some sid) None) (sid_at (word_at ws 1)) made e in
      let sid = sid_of (word_at ws 1) own.0 own.1 in
      record {
        same = ap (λ (h : Header). h.head) own.2;
        addresses = sid_text own.0 ∷ [];
        addressed = (own.0, sid.below, refl, ap (λ (h : Header). h.from) own.2, ap (λ (h : Header). h.target) own.2, refl);
        rest = at_1 ws sid.some ∙ ap (λ (w : List ℕ). w ∷ drop 2 ws) sid.spelt;
      }

  sound_own_to : from_own_to head (word_at ws 1) (word_at ws 2) ≡ Some made → Sound Direct head ws made
  sound_own_to e =
      let own = then_parts _ (sid_at (word_at ws 1)) made e in
      let to = map-some (λ (sid : ℕ). header head (Some own.0) (Some sid)) (sid_at (word_at ws 2)) made own.2 in
      let from_sid = sid_of (word_at ws 1) own.0 own.1 in
      let to_sid = sid_of (word_at ws 2) to.0 to.1 in
      record {
        same = ap (λ (h : Header). h.head) to.2;
        addresses = sid_text own.0 ∷ sid_text to.0 ∷ [];
        addressed = (own.0, to.0, from_sid.below, to_sid.below, refl, ap (λ (h : Header). h.from) to.2, ap (λ (h : Header). h.target) to.2, refl);
        rest = at_1 ws from_sid.some ∙ ap₂ (λ (w : List ℕ) (more : List (List ℕ)). w ∷ more) from_sid.spelt (at_2 ws to_sid.some ∙ ap (λ (w : List ℕ). w ∷ drop 3 ws) to_sid.spelt);
      }

  sound_having : (if is_feature_word (word_at ws 2) then from_own head (word_at ws 1) else None) ≡ Some made → Sound Feature head ws made
  sound_having e =
      let tests = guard-holds (is_feature_word (word_at ws 2)) _ made e in
      let own = map-some (λ (sid : ℕ). header head (Some sid) None) (sid_at (word_at ws 1)) made tests.1 in
      let sid = sid_of (word_at ws 1) own.0 own.1 in
      let word = IsFeatureWord-of (word_at ws 2) tests.0 in
      record {
        same = ap (λ (h : Header). h.head) own.2;
        addresses = sid_text own.0 ∷ word_at ws 2 ∷ [];
        addressed = (own.0, word_at ws 2, sid.below, word, refl, ap (λ (h : Header). h.from) own.2, ap (λ (h : Header). h.target) own.2, refl);
        rest = at_1 ws sid.some ∙ ap₂ (λ (w : List ℕ) (more : List (List ℕ)). w ∷ more) sid.spelt (at_2 ws word.0);
      }

  sound_cid : (if is_cid (word_at ws 1) then Some (header head None None) else None) ≡ Some made → Sound Udp head ws made
  sound_cid e =
      let tests = guard-holds (is_cid (word_at ws 1)) _ made e in
      let is = bare tests.1 in
      let cid = IsCid-of (word_at ws 1) tests.0 in
      record { same = is.0; addresses = word_at ws 1 ∷ []; addressed = (word_at ws 1, cid, refl, is.1, is.2, refl); rest = at_1 ws cid.0 }

sound : (kind : Kind) (head : Head) (ws : List (List ℕ)) (made : Header) → addressed_as kind head (word_at ws 1) (word_at ws 2) ≡ Some made → Sound kind head ws made
sound Broadcast head ws made e = sound_own head ws made e
sound Client head ws made e = let is = bare head ws made e in record { same = is.0; addresses = []; addressed = (refl, is.1, is.2, refl); rest = refl }
sound Direct head ws made e = sound_own_to head ws made e
sound Echo head ws made e =
    let direct = sound_own_to head ws made e in
    record { same = direct.same; addresses = direct.addresses; addressed = direct.addressed; rest = direct.rest }
sound Feature head ws made e = sound_having head ws made e
sound Hub head ws made e = let is = bare head ws made e in record { same = is.0; addresses = []; addressed = (refl, is.1, is.2, refl); rest = refl }
sound Info head ws made e = let is = bare head ws made e in record { same = is.0; addresses = []; addressed = (refl, is.1, is.2, refl); rest = refl }
sound Udp head ws made e = sound_cid head ws made e

-- parameters that pass their tests
gap_apart : (b : ℕ) → is_blank b ≡ false → not (is_lf b) ≡ true → is_gap b ≡ false
gap_apart b blank_free lf_free = grind (arith, nat_tests)

sound_param : (word : List ℕ) → HasNoBlank word → is_parameter word ≡ true → is_escaped word ≡ true → IsParameter word
sound_param word blanks test spelt =
    let tests = both (not (length word == 0)) (list_all (λ b. not (is_lf b)) word) test in
    IsParameter-of word tests.0 spelt (λ k d lt. gap_apart _ (blanks k d lt) (AllPass-from_list_all (λ b. not (is_lf b)) word tests.1 k d lt))

sound_params : (params : List (List ℕ)) → All HasNoBlank params → params_fault params ≡ None → All IsParameter params
unfolding params_fault
sound_params params blanks e = by_tests (cases_Bool (list_all is_parameter params)) (cases_Bool (list_all is_escaped params))
  where
    by_tests : (list_all is_parameter params ≡ true) ⊎ (list_all is_parameter params ≡ false) → (list_all is_escaped params ≡ true) ⊎ (list_all is_escaped params ≡ false) → All IsParameter params
    by_tests (inl p) (inl q) = λ k d lt. sound_param _ (blanks k d lt) (AllPass-from_list_all is_parameter params p k d lt) (AllPass-from_list_all is_escaped params q k d lt)
    by_tests (inr p) q = let bad : Some faults.Parameter ≡ None = sym (cond-true _ _ _ (ap not p)) ∙ e in absurd cc
    by_tests (inl p) (inr q) = let bad : Some faults.Escape ≡ None = sym (cond-false _ _ _ (ap not p) ∙ cond-true _ _ _ (ap not q)) ∙ e in absurd cc

record Headed (bytes : List ℕ) (made : Header) : Type 0 where
  first : word_at (words bytes) 0 ≡ letter made.head.kind ∷ made.head.command
  command : IsCommand made.head.command
  sound : Sound made.head.kind made.head (words bytes) made

headed : (bytes : List ℕ) (made : Header) → header_at (words bytes) ≡ Some made → Headed bytes made
unfolding header_at
headed bytes made e =
    let ws = words bytes in
    let head = then_parts (λ (h : Head). addressed_as h.kind h (word_at ws 1) (word_at ws 2)) (head_at (word_at ws 0)) made e in
    let found = sound head.0.kind head.0 ws made head.2 in
    let Both : Head → Type 0 = λ h. (head_at (word_at ws 0) ≡ Some h) × Sound h.kind h ws made in
    let there = subst Both (sym found.same) (head.1, found) in
    let first = IsCommand-of (word_at ws 0) made.head there.0 in
    record { first = first.0; command = first.1; sound = there.1 }

read_message : (bytes : List ℕ) (made : Header) → length bytes ≤ max_line → IsUtf8 bytes → Headed bytes made → params_fault (params_of made.head.kind (words bytes)) ≡ None → Reads bytes (message bytes made)
read_message bytes made short utf8 h params =
    let ws = words bytes in
    let some : word_at ws 0 ≢ [] = λ is. let bad : [] ≡ letter made.head.kind ∷ made.head.command = sym is ∙ h.first in cc in
    let split : ws ≡ (letter made.head.kind ∷ made.head.command) ∷ (h.sound.addresses ++ params_of made.head.kind ws) =
    at_0 ws some ∙ ap₂ (λ (w : List ℕ) (more : List (List ℕ)). w ∷ more) h.first h.sound.rest in
    record {
      text = refl;
      short = short;
      utf8 = utf8;
      command = h.command;
      addresses = h.sound.addresses;
      addressed = h.sound.addressed;
      params = sound_params (params_of made.head.kind ws) (All-drop HasNoBlank (header_words made.head.kind) ws (words-HasNoBlank bytes)) params;
      spelt = sym (join_with_byte-slice_split blank bytes) ∙ ap (join_with_byte blank) split;
    }

-- what is read is in the grammar
pub Reads-of : (bytes : List ℕ) (line : Reading) → reading bytes ≡ Ok line → Reads bytes line
Reads-of bytes line e =
    let p = passed bytes line e in
    subst (Reads bytes) (sym p.is) (read_message bytes p.head p.short p.utf8 (headed bytes p.head p.headed) p.params)

-- ---- what is in the grammar is read

record Complete (kind : Kind) (head : Head) (ws params : List (List ℕ)) (from target : Option ℕ) (features : Option (List ℕ)) : Type 0 where
  made : addressed_as kind head (word_at ws 1) (word_at ws 2) ≡ Some (header head from target)
  shown : features_of kind ws ≡ features
  rest : params_of kind ws ≡ params

module _ (kind : Kind) (head : Head) (first : List ℕ) (params : List (List ℕ)) where
  moved : (addresses a : List (List ℕ)) (from f target t : Option ℕ) (features g : Option (List ℕ)) → addresses ≡ a → from ≡ f → target ≡ t → features ≡ g
      → Complete kind head (first ∷ (a ++ params)) params f t g → Complete kind head (first ∷ (addresses ++ params)) params from target features
  moved addresses a from f target t features g p q r s h = rw (p, q, r, s) h

both_sids : (head : Head) (own to : ℕ) → own < sid_count → to < sid_count → from_own_to head (sid_text own) (sid_text to) ≡ Some (header head (Some own) (Some to))
both_sids head own to p q =
    ap (option_and_then (λ (sid : ℕ). option_map (λ (other : ℕ). header head (Some sid) (Some other)) (sid_at (sid_text to)))) (sid_at-sid_text own p)
    ∙ ap (option_map (λ (other : ℕ). header head (Some own) (Some other))) (sid_at-sid_text to q)

having : (head : Head) (own : ℕ) (word : List ℕ) → own < sid_count → IsFeatureWord word → (if is_feature_word word then from_own head (sid_text own) else None) ≡ Some (header head (Some own) None)
having head own word p h =
    cond-true _ _ _ (is_feature_word-from word h) ∙ ap (option_map (λ (sid : ℕ). header head (Some sid) None)) (sid_at-sid_text own p)

complete : (kind : Kind) (head : Head) (first : List ℕ) (params addresses : List (List ℕ)) (from target : Option ℕ) (features : Option (List ℕ)) → IsAddressed kind addresses from target features
    → Complete kind head (first ∷ (addresses ++ params)) params from target features
complete Broadcast head first params addresses from target features h =
    moved Broadcast head first params addresses (sid_text h.0 ∷ []) from (Some h.0) target None features None h.2 h.3 h.4 h.5
    (record { made = ap (option_map (λ (sid : ℕ). header head (Some sid) None)) (sid_at-sid_text h.0 h.1); shown = refl; rest = refl })
complete Client head first params addresses from target features h =
    moved Client head first params addresses [] from None target None features None h.0 h.1 h.2 h.3 (record { made = refl; shown = refl; rest = refl })
complete Direct head first params addresses from target features h =
    moved Direct head first params addresses (sid_text h.0 ∷ sid_text h.1 ∷ []) from (Some h.0) target (Some h.1) features None h.4 h.5 h.6 h.7
    (record { made = both_sids head h.0 h.1 h.2 h.3; shown = refl; rest = refl })
complete Echo head first params addresses from target features h =
    moved Echo head first params addresses (sid_text h.0 ∷ sid_text h.1 ∷ []) from (Some h.0) target (Some h.1) features None h.4 h.5 h.6 h.7
    (record { made = both_sids head h.0 h.1 h.2 h.3; shown = refl; rest = refl })
complete Feature head first params addresses from target features h =
    moved Feature head first params addresses (sid_text h.0 ∷ h.1 ∷ []) from (Some h.0) target None features (Some h.1) h.4 h.5 h.6 h.7
    (record { made = having head h.0 h.1 h.2 h.3; shown = refl; rest = refl })
complete Hub head first params addresses from target features h =
    moved Hub head first params addresses [] from None target None features None h.0 h.1 h.2 h.3 (record { made = refl; shown = refl; rest = refl })
complete Info head first params addresses from target features h =
    moved Info head first params addresses [] from None target None features None h.0 h.1 h.2 h.3 (record { made = refl; shown = refl; rest = refl })
complete Udp head first params addresses from target features h =
    moved Udp head first params addresses (h.0 ∷ []) from None target None features None h.2 h.3 h.4 h.5
    (record { made = cond-true _ _ _ (is_cid-from h.0 h.1); shown = refl; rest = refl })

-- the words of a header hold no blank
one_word : (word : List ℕ) → HasNoBlank word → All HasNoBlank (word ∷ [])
one_word word h = All-cons HasNoBlank word [] h (All-nil HasNoBlank)

two_words : (word other : List ℕ) → HasNoBlank word → HasNoBlank other → All HasNoBlank (word ∷ other ∷ [])
two_words word other p q = All-cons HasNoBlank word (other ∷ []) p (one_word other q)

addresses-no_blank : (kind : Kind) (ws : List (List ℕ)) (from target : Option ℕ) (features : Option (List ℕ)) → IsAddressed kind ws from target features → All HasNoBlank ws
addresses-no_blank Broadcast ws from target features h = subst (All HasNoBlank) (sym h.2) (one_word (sid_text h.0) (sid_text-no_blank h.0))
addresses-no_blank Client ws from target features h = subst (All HasNoBlank) (sym h.0) (All-nil HasNoBlank)
addresses-no_blank Direct ws from target features h = subst (All HasNoBlank) (sym h.4) (two_words (sid_text h.0) (sid_text h.1) (sid_text-no_blank h.0) (sid_text-no_blank h.1))
addresses-no_blank Echo ws from target features h = subst (All HasNoBlank) (sym h.4) (two_words (sid_text h.0) (sid_text h.1) (sid_text-no_blank h.0) (sid_text-no_blank h.1))
addresses-no_blank Feature ws from target features h = subst (All HasNoBlank) (sym h.4) (two_words (sid_text h.0) h.1 (sid_text-no_blank h.0) (feature_word-no_blank h.1 h.3))
addresses-no_blank Hub ws from target features h = subst (All HasNoBlank) (sym h.0) (All-nil HasNoBlank)
addresses-no_blank Info ws from target features h = subst (All HasNoBlank) (sym h.0) (All-nil HasNoBlank)
addresses-no_blank Udp ws from target features h = subst (All HasNoBlank) (sym h.2) (one_word h.0 (cid-no_blank h.0 h.1))

gap_holds_blank : (b : ℕ) → is_gap b ≡ false → (is_blank b ≡ false) × (not (is_lf b) ≡ true)
gap_holds_blank b h = (grind (arith, nat_tests), grind (arith, nat_tests))

param_passes : (word : List ℕ) → IsParameter word → (is_parameter word ≡ true) × (is_escaped word ≡ true) × HasNoBlank word
param_passes word h =
    let tests = parameter_tests word h in (
      ap₂ ◌&&◌ tests.0 (list_all-from_AllPass (λ b. not (is_lf b)) word (λ k d lt. (gap_holds_blank _ (tests.2 k d lt)).1)),
      tests.1,
      λ k d lt. (gap_holds_blank _ (tests.2 k d lt)).0,
    )

params_pass : (params : List (List ℕ)) → All IsParameter params → params_fault params ≡ None
unfolding params_fault
params_pass params h =
    cond-false _ _ _ (ap not (list_all-from_AllPass is_parameter params (λ k d lt. (param_passes _ (h k d lt)).0)))
    ∙ cond-false _ _ _ (ap not (list_all-from_AllPass is_escaped params (λ k d lt. (param_passes _ (h k d lt)).1)))

spelt_words : (bytes : List ℕ) (line : Reading) → (h : Reads bytes line) → words bytes ≡ (letter line.kind ∷ line.command) ∷ (h.addresses ++ line.params)
spelt_words bytes line h =
    let first = letter line.kind ∷ line.command in
    let blanks : All HasNoBlank (h.addresses ++ line.params) =
    All-append HasNoBlank h.addresses line.params (addresses-no_blank line.kind h.addresses line.from line.target line.features h.addressed) (λ k d lt. (param_passes _ (h.params k d lt)).2) in
    ap words h.spelt ∙ words-joined first (h.addresses ++ line.params) (All-cons HasNoBlank first (h.addresses ++ line.params) (first_word-no_blank line.kind line.command h.command) blanks)

pub reading-of : (bytes : List ℕ) (line : Reading) → Reads bytes line → reading bytes ≡ Ok line
unfolding header_at
reading-of bytes line h =
    let head : Head = record { kind = line.kind; command = line.command } in
    let first = letter line.kind ∷ line.command in
    let split = spelt_words bytes line h in
    let c = complete line.kind head first line.params h.addresses line.from line.target line.features h.addressed in
    let ws = first ∷ (h.addresses ++ line.params) in
    let found : header_at (words bytes) ≡ Some (header head line.from line.target) =
    ap header_at split ∙ ap (option_and_then (λ (x : Head). addressed_as x.kind x (word_at ws 1) (word_at ws 2))) (head_at-spelt line.kind line.command h.command) ∙ c.made in
    let params : params_fault (params_of line.kind (words bytes)) ≡ None = ap (λ xs. params_fault (params_of line.kind xs)) split ∙ ap params_fault c.rest ∙ params_pass line.params h.params in
    let whole = reading-passes bytes bytes bytes (header head line.from line.target) refl (text_read bytes bytes h.short refl h.utf8) found params refl in
    let made : List ℕ → Option (List ℕ) → List (List ℕ) → Reading = λ t f p. record line { text = t; features = f; params = p } in
    whole
    ∙ ap Ok (ap (λ (t : List ℕ). made t (features_of line.kind (words bytes)) (params_of line.kind (words bytes))) (sym h.text)
    ∙ ap (λ (f : Option (List ℕ)). made line.text f (params_of line.kind (words bytes))) (ap (features_of line.kind) split ∙ c.shown)
    ∙ ap (λ (p : List (List ℕ)). made line.text line.features p) (ap (params_of line.kind) split ∙ c.rest))

-- ---- what a parser promises

pub found_from : (bytes : List ℕ) (answer : Result Reading LineFault) → Gives (λ line. line) answer (reading bytes) → IfOk answer (λ line. Reads bytes line)
found_from bytes (Ok line) h = Reads-of bytes line h
found_from bytes (Err fault) h = tt

pub only_from : (bytes : List ℕ) (answer : Result Reading LineFault) → Gives (λ line. line) answer (reading bytes)
    → (line : Reading) → Reads bytes line → MatchResult answer (λ read. read ≡ line) (λ fault. fault ≡ faults.Memory)
only_from bytes (Ok read) h line reads = let same : Ok read ≡ Ok line = sym h ∙ reading-of bytes line reads in cc
only_from bytes (Err faults.Memory) h line reads = refl
only_from bytes (Err faults.TooLong) h line reads = let same : Err faults.TooLong ≡ Ok line = sym h ∙ reading-of bytes line reads in cc
only_from bytes (Err faults.NotUtf8) h line reads = let same : Err faults.NotUtf8 ≡ Ok line = sym h ∙ reading-of bytes line reads in cc
only_from bytes (Err faults.Header) h line reads = let same : Err faults.Header ≡ Ok line = sym h ∙ reading-of bytes line reads in cc
only_from bytes (Err faults.Parameter) h line reads = let same : Err faults.Parameter ≡ Ok line = sym h ∙ reading-of bytes line reads in cc
only_from bytes (Err faults.Escape) h line reads = let same : Err faults.Escape ≡ Ok line = sym h ∙ reading-of bytes line reads in cc
