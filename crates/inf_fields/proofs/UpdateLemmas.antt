-- An update is made word by word: each word puts its field.
use Rattle.std.proofs.Common.{◌≡◌, ℕ, ◌+◌, ◌<◌, ◌≤◌, length, take, get_or, Bool, true, false, ◌&&◌, List, [], ◌∷◌, ◌++◌, cond, refl, sym, ap, ap₂, ◌∙◌, inl, inr}
use Rattle.std.specs.Prelude.{Option, Some, None, Ok, Err}
use Rattle.std.specs.List.{list_all}
use Rattle.std.specs.Option.{unwrap_or}
use Rattle.std.specs.Str.{bytes_eq}
use Rattle.std.proofs.lemmas.Bool.{cases_Bool, cond-true, cond-false, le-leb, lt-leb}
use Rattle.std.proofs.lemmas.List.{take_more}
use Rattle.std.proofs.lemmas.List.Folds.{list_all-append, list_all_at}
use Rattle.inf_fields.specs.Changes.{put}
use Rattle.inf_fields.specs.Field.{Field, field, is_called, value_of, has_name, besides}
use Rattle.inf_fields.specs.Updates.{are_few, before, field_in, is_named, reading, update}
use Rattle.inf_fields.specs.declared.fault.InfFault.TheVariants.{BadName, TooMany}
use Rattle.inf_fields.proofs.Changes.{has-here, has-behind}
use Rattle.inf_fields.proofs.MergingLaws.{besides-has, besides-lacks}
use Rattle.inf_fields.proofs.NameLemmas.{same_bytes, bytes_eq-flip}

value_of-put : (f : Field) (name : List ℕ) (xs : List Field) → value_of name (put f xs) ≡ cond (bytes_eq name f.name) (Some f.value) (value_of name xs)
value_of-put f name [] = refl
value_of-put f name (x ∷ xs) =
    elim (cases_Bool (is_called f.name x)) [
      | inl yes' ↦
          let same = same_bytes f.name x.name yes' in
          ap (value_of name) (cond-true _ (field x.name f.value ∷ xs) (x ∷ put f xs) yes')
          ∙ (elim (cases_Bool (bytes_eq name f.name)) [
            | inl found ↦ cond-true _ _ _ (ap (bytes_eq name) (sym same) ∙ found) ∙ sym (cond-true _ _ _ found)
            | inr differs ↦
                let also = ap (bytes_eq name) (sym same) ∙ differs in
                cond-false _ _ _ also ∙ sym (cond-false _ _ _ differs ∙ cond-false _ _ _ also)
          ])
      | inr no' ↦
          ap (value_of name) (cond-false _ (field x.name f.value ∷ xs) (x ∷ put f xs) no')
          ∙ (elim (cases_Bool (is_called name x)) [
            | inl here ↦
                let same = same_bytes name x.name here in
                let apart = bytes_eq-flip name f.name ∙ ap (bytes_eq f.name) same ∙ no' in
                cond-true _ _ _ here ∙ sym (cond-false _ _ _ apart ∙ cond-true _ _ _ here)
            | inr behind ↦
                cond-false _ _ _ behind ∙ value_of-put f name xs
                ∙ ap (cond (bytes_eq name f.name) (Some f.value)) (sym (cond-false _ (Some x.value) (value_of name xs) behind))
          ])
    ]

-- a field that goes is not seen, and one that stays is put
besides-put_same : (v f : Field) (xs : List Field) → bytes_eq f.name v.name ≡ true → besides (v ∷ []) (put f xs) ≡ besides (v ∷ []) xs
besides-put_same v f [] same = besides-has (v ∷ []) f [] (has-here f.name v [] same)
besides-put_same v f (x ∷ xs) same =
    elim (cases_Bool (is_called f.name x)) [
      | inl yes' ↦
          let there : has_name x.name (v ∷ []) ≡ true = ap (λ n. has_name n (v ∷ [])) (sym (same_bytes f.name x.name yes')) ∙ has-here f.name v [] same in
          ap (besides (v ∷ [])) (cond-true _ (field x.name f.value ∷ xs) (x ∷ put f xs) yes') ∙ besides-has (v ∷ []) (field x.name f.value) xs there ∙ sym (besides-has (v ∷ []) x xs there)
      | inr no' ↦
          ap (besides (v ∷ [])) (cond-false _ (field x.name f.value ∷ xs) (x ∷ put f xs) no')
          ∙ (elim (cases_Bool (has_name x.name (v ∷ []))) [
            | inl has ↦ besides-has (v ∷ []) x (put f xs) has ∙ besides-put_same v f xs same ∙ sym (besides-has (v ∷ []) x xs has)
            | inr lacks ↦
                besides-lacks (v ∷ []) x (put f xs) lacks ∙ ap (λ fs. x ∷ fs) (besides-put_same v f xs same) ∙ sym (besides-lacks (v ∷ []) x xs lacks)
          ])
    ]

besides-put : (v f : Field) (xs : List Field) → bytes_eq f.name v.name ≡ false → besides (v ∷ []) (put f xs) ≡ put f (besides (v ∷ []) xs)
besides-put v f [] apart = besides-lacks (v ∷ []) f [] (has-behind f.name v [] apart)
besides-put v f (x ∷ xs) apart =
    elim (cases_Bool (is_called f.name x)) [
      | inl yes' ↦
          let lacks : has_name x.name (v ∷ []) ≡ false = ap (λ n. has_name n (v ∷ [])) (sym (same_bytes f.name x.name yes')) ∙ has-behind f.name v [] apart in
          ap (besides (v ∷ [])) (cond-true _ (field x.name f.value ∷ xs) (x ∷ put f xs) yes') ∙ besides-lacks (v ∷ []) (field x.name f.value) xs lacks
          ∙ sym (ap (put f) (besides-lacks (v ∷ []) x xs lacks) ∙ cond-true _ _ _ yes')
      | inr no' ↦
          ap (besides (v ∷ [])) (cond-false _ (field x.name f.value ∷ xs) (x ∷ put f xs) no')
          ∙ (elim (cases_Bool (has_name x.name (v ∷ []))) [
            | inl has ↦ besides-has (v ∷ []) x (put f xs) has ∙ besides-put v f xs apart ∙ sym (ap (put f) (besides-has (v ∷ []) x xs has))
            | inr lacks ↦
                besides-lacks (v ∷ []) x (put f xs) lacks ∙ ap (λ fs. x ∷ fs) (besides-put v f xs apart)
                ∙ sym (ap (put f) (besides-lacks (v ∷ []) x xs lacks) ∙ cond-false _ _ _ no')
          ])
    ]

before-put : (v f : Field) (later : List Field) → before v (put f later) ≡ put f (before v later)
before-put v f later =
    let seen = value_of-put f v.name later in
    let flip' = bytes_eq-flip v.name f.name in
    elim (cases_Bool (bytes_eq f.name v.name)) [
      | inl yes' ↦
          ap₂ (λ (o : Option (List ℕ)) fs. field v.name (unwrap_or o v.value) ∷ fs) (seen ∙ cond-true _ _ _ (flip' ∙ yes')) (besides-put_same v f later yes') ∙ sym (cond-true _ _ _ yes')
      | inr no' ↦
          ap₂ (λ (o : Option (List ℕ)) fs. field v.name (unwrap_or o v.value) ∷ fs) (seen ∙ cond-false _ _ _ (flip' ∙ no')) (besides-put v f later no') ∙ sym (cond-false _ _ _ no')
    ]

pub update-more : (words : List (List ℕ)) (word : List ℕ) → update (words ++ word ∷ []) ≡ put (field_in word) (update words)
unfolding update
update-more [] word = refl
update-more (first ∷ words) word = ap (before (field_in first)) (update-more words word) ∙ before-put (field_in first) (field_in word) (update words)

-- ---- reading words from the first on

-- the name and the value of a word are its field, and it has a name
pub named-field : (word : List ℕ) (f : Field) → Some f ≡ cond (is_named word) (Some (field_in word)) None → (is_named word ≡ true) × (f ≡ field_in word)
named-field word f e = by (is_named word) e
  where
    by : (b : Bool) → Some f ≡ cond b (Some (field_in word)) None → (b ≡ true) × (f ≡ field_in word)
    by true e = (refl, cc)
    by false e = cc

pub none-is-unnamed : (word : List ℕ) → None ≡ cond (is_named word) (Some (field_in word)) None → is_named word ≡ false
none-is-unnamed word e = by (is_named word) e
  where
    by : (b : Bool) → None ≡ cond b (Some (field_in word)) None → b ≡ false
    by true e = cc
    by false e = refl

pub read-step : (words : List (List ℕ)) (i : ℕ) (word : List ℕ) (f : Field) (old new : List Field) → i < length words → get_or words i [] ≡ word
    → (old ≡ update (take i words)) × (list_all is_named (take i words) ≡ true) → Some f ≡ cond (is_named word) (Some (field_in word)) None → new ≡ put f old
    → (new ≡ update (take (i + 1) words)) × (list_all is_named (take (i + 1) words) ≡ true)
read-step words i word f old new lt at h names puts =
    let parts = named-field word f names in
    let more = take_more words i [] lt ∙ ap (λ (w : List ℕ). take i words ++ w ∷ []) at in (
      puts ∙ ap₂ put parts.1 h.0 ∙ sym (update-more (take i words) word) ∙ ap update (sym more),
      ap (list_all is_named) more ∙ list_all-append is_named (take i words) (word ∷ []) ∙ ap₂ (λ b c. b && (c && true)) h.1 parts.0,
    )

pub reading-unnamed : (words : List (List ℕ)) (i : ℕ) (word : List ℕ) → i < length words → get_or words i [] ≡ word → None ≡ cond (is_named word) (Some (field_in word)) None → reading words ≡ Err BadName
unfolding reading
reading-unnamed words i word lt at none = cond-false _ _ _ (list_all_at is_named words i [] lt (ap is_named at ∙ none-is-unnamed word none))

pub reading-many : (words : List (List ℕ)) (fields : List Field) → (fields ≡ update words) × (list_all is_named words ≡ true) → 40 < length fields → reading words ≡ Err TooMany
unfolding reading
reading-many words fields h many =
    let over : are_few (update words) ≡ false = ap are_few (sym h.0) ∙ lt-leb (length fields) 40 many in
    cond-true _ _ _ h.1 ∙ cond-false _ (Ok (update words)) (Err TooMany) over

pub reading-few : (words : List (List ℕ)) (fields : List Field) → (fields ≡ update words) × (list_all is_named words ≡ true) → length fields ≤ 40 → reading words ≡ Ok fields
unfolding reading
reading-few words fields h few =
    let under : are_few (update words) ≡ true = ap are_few (sym h.0) ∙ le-leb (length fields) 40 few in
    cond-true _ _ _ h.1 ∙ cond-true _ (Ok (update words)) (Err TooMany) under ∙ ap Ok (sym h.0)
