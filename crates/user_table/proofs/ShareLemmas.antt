-- The amounts that users share together, with one user more, one less and one who shares otherwise; no sum is too large.
use Rattle.std.proofs.Common.{◌≡◌, ℕ, suc, ◌+◌, ◌-◌, ◌*◌, ◌<◌, ◌≤◌, ◌^◌, ◌&&◌, Bool, List, [], ◌∷◌, ◌++◌, length, refl, sym, ap, ◌∙◌, subst, inl, inr, arith}
use Rattle.std.specs.Prelude.{Option, Some, None, nat_lt}
use Rattle.std.specs.List.{sum_by}
use Rattle.std.specs.Map.{lookup, remove_entry, set_value, values_of}
use Rattle.std.specs.Option.{option_and_then, option_map, unwrap_or}
use Rattle.std.specs.Str.Parse.{digits_value}
use Rattle.std.proofs.lemmas.Bool.{cases_Bool, cond-true, cond-false, and_parts, ltb-true}
use Rattle.std.proofs.lemmas.List.{length-append}
use Rattle.std.proofs.lemmas.List.Sums.{sum_by-cons, sum_by_push}
use Rattle.std.proofs.lemmas.Option.{none-some}
use Rattle.std.proofs.lemmas.Map.Entries.{length-values_of, sum_by-remove_entry, sum_by-set_value}
use Rattle.inf_fields.specs.Amounts.{is_short_number, number_at}
use Rattle.inf_fields.specs.Field.{Field, value_of}
use Rattle.inf_fields.specs.FieldNames.{share_size_name, shared_files_name}
use Rattle.user_table.specs.declared.totals.Totals.{Totals}
use Rattle.user_table.specs.declared.totals.SharedTotals.{SharedTotals}
use Rattle.user_table.specs.Listed.{Listed}
use Rattle.user_table.specs.Shares.{shared_by, totals_with, totals_without}
use Rattle.user_table.specs.Tables.{amount, totals_of}

abbrev pub ss_of : Listed → ℕ
ss_of user = amount share_size_name user.fields

abbrev pub sf_of : Listed → ℕ
sf_of user = amount shared_files_name user.fields

number-small : (value : List ℕ) → unwrap_or (number_at value) 0 < 2 ^ 64
unfolding number_at
number-small value =
    let test = is_short_number value && nat_lt (digits_value 10 value) (2 ^ 64) in
    elim (cases_Bool test) [
      | inl yes' ↦
          subst (λ (o : Option ℕ). unwrap_or o 0 < 2 ^ 64) (sym (cond-true test (Some (digits_value 10 value)) None yes'))
          (ltb-true (digits_value 10 value) (2 ^ 64) (and_parts (is_short_number value) (nat_lt (digits_value 10 value) (2 ^ 64)) yes').1)
      | inr no' ↦
          let none : 0 < 2 ^ 64 = omega arith in
          subst (λ (o : Option ℕ). unwrap_or o 0 < 2 ^ 64) (sym (cond-false test (Some (digits_value 10 value)) None no')) none
    ]

found-small : (found : Option (List ℕ)) → unwrap_or (option_and_then number_at found) 0 < 2 ^ 64
found-small None = omega arith
found-small (Some value) = number-small value

-- no user shares more than 2 to the 64th
pub amount-small : (name : List ℕ) (fields : List Field) → amount name fields < 2 ^ 64
amount-small name fields = found-small (value_of name fields)

next-few : (a s n : ℕ) → a < 2 ^ 64 → s ≤ n * 18_446_744_073_709_551_615 → a + s ≤ suc n * 18_446_744_073_709_551_615
next-few a s n small few = omega arith

pub sum-few : (f : Listed → ℕ) → ((u : Listed) → f u < 2 ^ 64) → (users : List Listed) → sum_by f users ≤ length users * 18_446_744_073_709_551_615
sum-few f small [] = omega arith
sum-few f small (user ∷ users) =
    subst (λ s. s ≤ suc (length users) * 18_446_744_073_709_551_615) (sym (sum_by-cons f user users)) (next-few (f user) (sum_by f users) (length users) (small user) (sum-few f small users))

-- one amount more fits, where users are counted by 64 bits
pub one-more-fits : (s n a : ℕ) → s ≤ n * 18_446_744_073_709_551_615 → n < 2 ^ 64 → a < 2 ^ 64 → s + a < 2 ^ 128
one-more-fits s n a few counted small = omega arith

pub ss-fits : (users : List Listed) (a : ℕ) → length users < 2 ^ 64 → a < 2 ^ 64 → sum_by ss_of users + a < 2 ^ 128
ss-fits users a counted small = one-more-fits (sum_by ss_of users) (length users) a (sum-few ss_of (λ u. amount-small share_size_name u.fields) users) counted small

pub sf-fits : (users : List Listed) (a : ℕ) → length users < 2 ^ 64 → a < 2 ^ 64 → sum_by sf_of users + a < 2 ^ 128
sf-fits users a counted small = one-more-fits (sum_by sf_of users) (length users) a (sum-few sf_of (λ u. amount-small shared_files_name u.fields) users) counted small

-- one user more
pub totals-pushed : (users : List Listed) (user : Listed) → totals_of (users ++ user ∷ []) ≡ totals_with (shared_by user) (totals_of users)
totals-pushed users user =
    let count = length-append users (user ∷ []) in
    let ss = sum_by_push ss_of users user in
    let sf = sum_by_push sf_of users user in
    λ j. record { users = count j; ss = ss j; sf = sf j }

-- the sum of what look-ups find is part of the whole
part : (f : Listed → ℕ) (test : ℕ → Bool) (entries : List (ℕ × Listed)) (user : Listed) → lookup test entries ≡ Some user
    → sum_by f (values_of (remove_entry test entries)) + f user ≡ sum_by f (values_of entries)
part f test entries user e =
    sym (ap (λ (o : Option Listed). sum_by f (values_of (remove_entry test entries)) + unwrap_or (option_map f o) 0) e) ∙ sum_by-remove_entry f test entries

pub part-below : (f : Listed → ℕ) (test : ℕ → Bool) (entries : List (ℕ × Listed)) (user : Listed) → lookup test entries ≡ Some user
    → f user ≤ sum_by f (values_of entries)
part-below f test entries user e = let p = part f test entries user e in omega arith

taken-here : (n m : ℕ) → n ≡ m → n + 1 ≡ suc m
taken-here n m e = omega arith

taken-later : (n r m : ℕ) → n ≡ suc r → r + 1 ≡ m → n + 1 ≡ suc m
taken-later n r m e more = omega arith

length-removed : (test : ℕ → Bool) (entries : List (ℕ × Listed)) (user : Listed) → lookup test entries ≡ Some user
    → length (values_of (remove_entry test entries)) + 1 ≡ length (values_of entries)
length-removed test [] user e = absurd (none-some user e)
length-removed test (entry ∷ entries) user e =
    elim (cases_Bool (test entry.0)) [
      | inl yes' ↦ taken-here _ _ (ap (λ (es : List (ℕ × Listed)). length (values_of es)) (cond-true (test entry.0) entries (entry ∷ remove_entry test entries) yes'))
      | inr no' ↦
          let later = sym (cond-false (test entry.0) (Some entry.1) (lookup test entries) no') ∙ e in
          taken-later _ _ _ (ap (λ (es : List (ℕ × Listed)). length (values_of es)) (cond-false (test entry.0) entries (entry ∷ remove_entry test entries) no'))
          (length-removed test entries user later)
    ]

length-set : (test : ℕ → Bool) (entries : List (ℕ × Listed)) (user : Listed) → length (values_of (set_value test entries user)) ≡ length (values_of entries)
length-set test [] user = refl
length-set test (entry ∷ entries) user =
    elim (cases_Bool (test entry.0)) [
      | inl yes' ↦ ap (λ (es : List (ℕ × Listed)). length (values_of es)) (cond-true (test entry.0) ((entry.0, user) ∷ entries) (entry ∷ set_value test entries user) yes')
      | inr no' ↦
          ap (λ (es : List (ℕ × Listed)). length (values_of es)) (cond-false (test entry.0) ((entry.0, user) ∷ entries) (entry ∷ set_value test entries user) no')
          ∙ ap suc (length-set test entries user)
    ]

less : (s t a : ℕ) → s + a ≡ t → s ≡ t - a
less s t a e = omega arith

replaced : (s t a b : ℕ) → s + a ≡ t + b → a ≤ t → s ≡ t - a + b
replaced s t a b e below = omega arith

unchanged : (s t n : ℕ) → s ≡ t → n + 1 ≡ t → s ≡ t - 1 + 1
unchanged s t n e some = omega arith

-- one user less
pub totals-removed : (test : ℕ → Bool) (entries : List (ℕ × Listed)) (user : Listed) → lookup test entries ≡ Some user
    → totals_of (values_of (remove_entry test entries)) ≡ totals_without (shared_by user) (totals_of (values_of entries))
totals-removed test entries user e =
    let count = less _ _ _ (length-removed test entries user e) in
    let ss = less _ _ _ (part ss_of test entries user e) in
    let sf = less _ _ _ (part sf_of test entries user e) in
    λ j. record { users = count j; ss = ss j; sf = sf j }

-- a user who shares otherwise
pub totals-set : (test : ℕ → Bool) (entries : List (ℕ × Listed)) (before after : Listed) → lookup test entries ≡ Some before
    → totals_of (values_of (set_value test entries after)) ≡ totals_with (shared_by after) (totals_without (shared_by before) (totals_of (values_of entries)))
totals-set test entries before after e =
    let count = unchanged _ _ _ (length-set test entries after) (length-removed test entries before e) in
    let ss = replaced _ _ _ _ (sum_by-set_value ss_of test entries before after e) (part-below ss_of test entries before e) in
    let sf = replaced _ _ _ _ (sum_by-set_value sf_of test entries before after e) (part-below sf_of test entries before e) in
    λ j. record { users = count j; ss = ss j; sf = sf j }

less-fits : (s b a : ℕ) → s + a < 2 ^ 128 → s - b + a < 2 ^ 128
less-fits s b a e = omega arith

-- after one is taken away there is room for another
pub ss-fits-again : (users : List Listed) (totals lower : Totals) (b a : SharedTotals) (user : Listed) → totals ≡ totals_of users → lower ≡ totals_without b totals
    → a ≡ shared_by user → totals.users < 2 ^ 64 → lower.ss + a.ss < 2 ^ 128
ss-fits-again users totals lower b a user is low shared counted =
    rw (low, shared, is) (less-fits (sum_by ss_of users) b.ss (ss_of user) (ss-fits users (ss_of user) (subst (λ (t : Totals). t.users < 2 ^ 64) is counted) (amount-small share_size_name user.fields)))

pub sf-fits-again : (users : List Listed) (totals lower : Totals) (b a : SharedTotals) (user : Listed) → totals ≡ totals_of users → lower ≡ totals_without b totals
    → a ≡ shared_by user → totals.users < 2 ^ 64 → lower.sf + a.sf < 2 ^ 128
sf-fits-again users totals lower b a user is low shared counted =
    rw (low, shared, is) (less-fits (sum_by sf_of users) b.sf (sf_of user) (sf-fits users (sf_of user) (subst (λ (t : Totals). t.users < 2 ^ 64) is counted) (amount-small shared_files_name user.fields)))

-- before anything is taken away there is room for one more
pub ss-fits-more : (users : List Listed) (totals : Totals) (a : SharedTotals) (user : Listed) → totals ≡ totals_of users → a ≡ shared_by user → totals.users < 2 ^ 64
    → totals.ss + a.ss < 2 ^ 128
ss-fits-more users totals a user is shared counted =
    rw (shared, is) (ss-fits users (ss_of user) (subst (λ (t : Totals). t.users < 2 ^ 64) is counted) (amount-small share_size_name user.fields))

pub sf-fits-more : (users : List Listed) (totals : Totals) (a : SharedTotals) (user : Listed) → totals ≡ totals_of users → a ≡ shared_by user → totals.users < 2 ^ 64
    → totals.sf + a.sf < 2 ^ 128
sf-fits-more users totals a user is shared counted =
    rw (shared, is) (sf-fits users (sf_of user) (subst (λ (t : Totals). t.users < 2 ^ 64) is counted) (amount-small shared_files_name user.fields))

-- what a user shares is counted
pub ss-counted : (test : ℕ → Bool) (entries : List (ℕ × Listed)) (totals : Totals) (b : SharedTotals) (user : Listed) → totals ≡ totals_of (values_of entries)
    → b ≡ shared_by user → lookup test entries ≡ Some user → b.ss ≤ totals.ss
ss-counted test entries totals b user is shared e = rw (shared, is) (part-below ss_of test entries user e)

pub sf-counted : (test : ℕ → Bool) (entries : List (ℕ × Listed)) (totals : Totals) (b : SharedTotals) (user : Listed) → totals ≡ totals_of (values_of entries)
    → b ≡ shared_by user → lookup test entries ≡ Some user → b.sf ≤ totals.sf
sf-counted test entries totals b user is shared e = rw (shared, is) (part-below sf_of test entries user e)

same-sum : (s t a b : ℕ) → s + a ≡ t + b → b ≡ a → s ≡ t
same-sum s t a b e same = omega arith

-- a user who shares as before
pub totals-kept : (test : ℕ → Bool) (entries : List (ℕ × Listed)) (before after : Listed) → lookup test entries ≡ Some before → after.fields ≡ before.fields
    → totals_of (values_of (set_value test entries after)) ≡ totals_of (values_of entries)
totals-kept test entries before after e same =
    let count = length-set test entries after in
    let ss = same-sum _ _ _ _ (sum_by-set_value ss_of test entries before after e) (ap (amount share_size_name) same) in
    let sf = same-sum _ _ _ _ (sum_by-set_value sf_of test entries before after e) (ap (amount shared_files_name) same) in
    λ j. record { users = count j; ss = ss j; sf = sf j }

few : (v e n : ℕ) → v ≡ e → n ≡ e → n < 2 ^ 63 → v + 1 < 2 ^ 64
few v e n same count small = omega arith

-- users whom a map counts are fewer than 2 to the 63rd
pub few-users : (entries : List (ℕ × Listed)) (totals : Totals) (n : ℕ) → totals ≡ totals_of (values_of entries) → n ≡ length entries → n < 2 ^ 63 → totals.users + 1 < 2 ^ 64
few-users entries totals n is count small = rw is (few (length (values_of entries)) (length entries) n (length-values_of entries) count small)
