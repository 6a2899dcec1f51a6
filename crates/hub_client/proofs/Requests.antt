-- The text that is written for a request asks for what was requested.
use Rattle.std.proofs.Common.{◌≡◌, ◌≢◌, ◌∙◌, sym, ap, refl, ℕ, ◌<◌, ◌≤◌, ◌^◌, ◌&&◌, true, false, not, List, [], ◌∷◌, ◌++◌, length, Some, Bool, append_assoc, arith}
use Rattle.std.specs.Prelude.{chars, codes, drop, slice_index_or, Option, None, cond, IfOk, Result, Ok, Err}
use Rattle.std.specs.Char.{is_ascii_digit}
use Rattle.std.specs.Fmt.{decimal}
use Rattle.std.specs.List.{All, list_all}
use Rattle.std.specs.Str.{all_ascii_digits}
use Rattle.std.specs.Str.Parse.{digits_value}
use Rattle.std.proofs.lemmas.Bool.{false≢true, not-true, and_from, le-leb, lt-ltb}
use Rattle.std.proofs.lemmas.Fmt.{digits_decimal, digits_value-decimal, length-decimal-le, decimal_nonempty}
use Rattle.std.proofs.lemmas.Bool.Decides.{nat_tests}
use Rattle.std.proofs.lemmas.List.{append-nil}
use Rattle.std.proofs.lemmas.List.Elements.{All-cons, All-nil}
use Rattle.std.proofs.lemmas.List.Splits.{slice_split_at, slice_split_none, join_with_byte-slice_split}
use Rattle.std.proofs.lemmas.Str.Parse.{IsNumeralModel, numerals_by_value, tells_all_ascii_digits}
use Rattle.adc_base32.specs.Spelled.{spelled_bytes}
use Rattle.adc_line.specs.declared.fault.LineFault.{LineFault}
use Rattle.adc_line.specs.Lines.{Reading}
use Rattle.adc_ids.specs.Nicks.{is_nick}
use Rattle.operator_acts.specs.Acts.{is_blank, words, rest_of, act_at, act_of, is_seconds, seconds_at}
use Rattle.operator_acts.specs.declared.act.Act.{Act}
use Rattle.operator_acts.specs.declared.act.Act.TheVariants as acts
use Rattle.operator_acts.proofs.Forms.{kick-read, ban-read, unban-read}
use Rattle.hub_client.specs.Requests.{AsksFor, SaysText, SecondsFit, act_asked, behind, request_bytes, nick_bytes, cid_bytes}
use Rattle.hub_client.specs.declared.request.HubRequest.{HubRequest}
use Rattle.hub_client.specs.declared.request.HubRequest.TheVariants.{Kick, Ban, Unban, Topic}

both : (a b : Bool) → (a && b) ≡ true → (a ≡ true) × (b ≡ true)
both true b e = (refl, e)
both false b e = absurd (false≢true e)

blankless : (word : List ℕ) → list_all (λ b. not (is_blank b)) word ≡ true → All (λ b. is_blank b ≡ false) word
blankless [] e = All-nil (λ b. is_blank b ≡ false)
blankless (b ∷ bs) e =
    let tests = both (not (is_blank b)) (list_all (λ c. not (is_blank c)) bs) e in
    All-cons (λ c. is_blank c ≡ false) b bs (not-true _ tests.0) (blankless bs tests.1)

-- the words of what stands behind
words_behind : List ℕ → List (List ℕ)
words_behind [] = []
words_behind (b ∷ bs) = words (b ∷ bs)

words-first : (word rest : List ℕ) → list_all (λ b. not (is_blank b)) word ≡ true → words (word ++ 32 ∷ rest) ≡ word ∷ words rest
words-first word rest e = slice_split_at is_blank word 32 rest (blankless word e) refl

words-last : (word rest : List ℕ) → list_all (λ b. not (is_blank b)) word ≡ true → words (word ++ behind rest) ≡ word ∷ words_behind rest
unfolding words_behind
words-last word [] e = ap words (append-nil word) ∙ slice_split_none is_blank word (blankless word e)
words-last word (b ∷ bs) e = words-first word (b ∷ bs) e

rest-behind : (rest : List ℕ) → rest_of (words_behind rest) ≡ rest
unfolding words_behind
rest-behind [] = refl
rest-behind (b ∷ bs) = join_with_byte-slice_split 32 (b ∷ bs)

own : IsNumeralModel (λ digits. all_ascii_digits digits ≡ true) (digits_value 10)
own = numerals_by_value _ tells_all_ascii_digits

seconds-decimal : (n : ℕ) → n < 4_294_967_296 → seconds_at (decimal n) ≡ Some n
unfolding seconds_at
seconds-decimal n below =
    let small : n < 2 ^ 64 = omega (arith, below) in
    let value : digits_value 10 (decimal n) ≡ n = digits_value-decimal own n small in
    let digits : all_ascii_digits (decimal n) ≡ true = digits_decimal own n small in
    let some : 1 ≤ length (decimal n) = omega (arith, decimal_nonempty n small) in
    let few : length (decimal n) ≤ 10 = length-decimal-le 10 n (omega arith) (omega (arith, below)) small in
    let fits : digits_value 10 (decimal n) < 4_294_967_296 = omega (arith, value, below) in
    let test : is_seconds (decimal n) ≡ true =
    and_from _ _ (and_from _ _ (and_from _ _ (le-leb 1 (length (decimal n)) some) (le-leb (length (decimal n)) 10 few)) digits) (lt-ltb (digits_value 10 (decimal n)) 4_294_967_296 fits) in
    ap (λ b. cond b (Some (digits_value 10 (decimal n))) None) test ∙ ap Some value

digits-blankless : (digits : List ℕ) → all_ascii_digits digits ≡ true → list_all (λ b. not (is_blank b)) digits ≡ true
digits-blankless [] e = refl
digits-blankless (d ∷ ds) e =
    let tests : (is_ascii_digit d ≡ true) × (all_ascii_digits ds ≡ true) = both _ _ e in
    let first : is_ascii_digit d ≡ true = tests.0 in
    let here : not (is_blank d) ≡ true = grind (arith, nat_tests) in
    and_from _ _ here (digits-blankless ds tests.1)

decimal-blankless : (n : ℕ) → n < 4_294_967_296 → list_all (λ b. not (is_blank b)) (decimal n) ≡ true
decimal-blankless n below = digits-blankless (decimal n) (digits_decimal own n (omega (arith, below)))

-- the act that words ask for
abbrev act_for : List (List ℕ) → Option Act
act_for ws = act_of (slice_index_or ws 0 []) (drop 1 ws)

act-kick : (nick reason : List ℕ) → is_nick (chars nick) ≡ true → list_all (λ b. not (is_blank b)) nick ≡ true
    → act_at (codes "!kick" ++ 32 ∷ (nick ++ behind reason)) ≡ Some (acts.Kick (chars nick) reason)
unfolding act_at act_of
act-kick nick reason good word =
    ap act_for (words-first (codes "!kick") (nick ++ behind reason) refl ∙ ap (λ ws. codes "!kick" ∷ ws) (words-last nick reason word))
    ∙ kick-read (nick ∷ words_behind reason) (words_behind reason) nick (chars nick) reason refl refl good (sym (rest-behind reason))

act-ban : (nick reason : List ℕ) (seconds : ℕ) → is_nick (chars nick) ≡ true → list_all (λ b. not (is_blank b)) nick ≡ true → seconds < 4_294_967_296
    → act_at ((codes "!ban" ++ 32 ∷ (nick ++ 32 ∷ decimal seconds)) ++ behind reason) ≡ Some (acts.Ban (chars nick) seconds reason)
unfolding act_at act_of
act-ban nick reason seconds good word below =
    let time = words-last (decimal seconds) reason (decimal-blankless seconds below) in
    ap (λ t. act_at (codes "!ban" ++ 32 ∷ t)) (append_assoc nick (32 ∷ decimal seconds) (behind reason))
    ∙ ap act_for (words-first (codes "!ban") (nick ++ 32 ∷ (decimal seconds ++ behind reason)) refl
    ∙ ap (λ ws. codes "!ban" ∷ ws) (words-first nick (decimal seconds ++ behind reason) word ∙ ap (λ ws. nick ∷ ws) time))
    ∙ ban-read (nick ∷ decimal seconds ∷ words_behind reason) (decimal seconds ∷ words_behind reason) (words_behind reason) nick (decimal seconds) (chars nick) reason seconds
    refl refl (seconds-decimal seconds below) refl good (sym (rest-behind reason))

act-unban : (cid bytes : List ℕ) → spelled_bytes 24 cid ≡ Some bytes → list_all (λ b. not (is_blank b)) cid ≡ true → act_at (codes "!unban" ++ 32 ∷ cid) ≡ Some (acts.Unban bytes)
unfolding act_at act_of
act-unban cid bytes spelt word =
    ap act_for (words-first (codes "!unban") cid refl ∙ ap (λ ws. codes "!unban" ∷ ws) (slice_split_none is_blank cid (blankless cid word)))
    ∙ unban-read (cid ∷ []) cid bytes refl spelt

act-topic : (text : List ℕ) → act_at (codes "!topic" ++ behind text) ≡ Some (acts.Topic text)
unfolding act_at act_of
act-topic text =
    ap act_for (words-last (codes "!topic") text refl) ∙ ap (λ t. Some (acts.Topic t)) (rest-behind text)

pub request_bytes-some : (request : HubRequest) → request_bytes request ≢ []
unfolding request_bytes
request_bytes-some (Kick nick reason) e = cc
request_bytes-some (Ban nick seconds reason) e = cc
request_bytes-some (Unban cid) e = cc
request_bytes-some (Topic text) e = cc

-- what is asked for is what was requested
pub act_at-request_bytes : (request : HubRequest) → SecondsFit request → act_at (request_bytes request) ≡ Some (act_asked request)
unfolding request_bytes
act_at-request_bytes (Kick nick reason) fit = act-kick (nick_bytes nick) reason.now nick.nick nick.word
act_at-request_bytes (Ban nick seconds reason) fit = act-ban (nick_bytes nick) reason.now seconds nick.nick nick.word fit
act_at-request_bytes (Unban cid) fit = act-unban (cid_bytes cid) cid.cid cid.spelt cid.word
act_at-request_bytes (Topic text) fit = act-topic text.now

pub asks-for : (request : HubRequest) (r : Result Reading LineFault) → SecondsFit request → IfOk r (λ line. SaysText line (request_bytes request)) → IfOk r (λ line. AsksFor line (act_asked request))
asks-for request (Ok line) fit says = (request_bytes request, says, act_at-request_bytes request fit)
asks-for request (Err fault) fit says = tt
