-- The forms of acts, word by word.
use Rattle.std.proofs.Common.{◌≡◌, ◌∙◌, sym, ap, refl, subst, ℕ, ◌≤◌, true, false, cond, List, [], ◌∷◌, length, Option, Some, None, Result, Ok, Err, Bor, arith}
use Rattle.std.specs.Prelude.{chars, is_some, IsErrAnd, ok_or, option_and_then, option_copied, option_map}
use Rattle.std.proofs.lemmas.Bool.{false≢true}
use Rattle.adc_base32.specs.Spelled.{spelled_bytes}
use Rattle.adc_ids.specs.declared.nick.NickFault.{NickFault}
use Rattle.adc_ids.specs.declared.nick.NickFault.TheVariants as nicks
use Rattle.adc_ids.specs.Nicks.{is_nick}
use Rattle.operator_acts.specs.declared.act.Act.{Act}
use Rattle.operator_acts.specs.declared.act.Act.TheVariants as acts
use Rattle.operator_acts.specs.declared.fault.ActFault.{ActFault}
use Rattle.operator_acts.specs.Acts.{nick_at, seconds_at, kick_of, ban_of, unban_of, rest_of, words, words_after}
use Rattle.operator_acts.specs.Gives.{GivesAct, fault_of}
use Rattle.operator_acts.proofs.Cuts.{some-word}

-- a nick that is read, and one that is none
pub nick-there : (word nick : List ℕ) → nick ≡ chars word → is_nick nick ≡ true → nick_at word ≡ Some nick
unfolding nick_at
nick-there word nick is good =
    ap (λ n. cond (is_nick n) (Some n) None) (sym is) ∙ ap (λ b. cond b (Some nick) None) good

pub nick-none : (word : List ℕ) → is_nick (chars word) ≡ false → nick_at word ≡ None
unfolding nick_at
nick-none word bad = ap (λ b. cond b (Some (chars word)) None) bad

-- what the words behind a nick make of it
abbrev kicks : List (List ℕ) → Option (List ℕ) → Option Act
kicks more nick = option_map (λ (n : List ℕ). acts.Kick n (rest_of more)) nick

pub kick-read : (ws more : List (List ℕ)) (word nick reason : List ℕ) → ws ≡ word ∷ more → nick ≡ chars word → is_nick nick ≡ true → reason ≡ rest_of more → kick_of ws ≡ Some (acts.Kick nick reason)
kick-read ws more word nick reason are is good rest =
    ap kick_of are ∙ ap (kicks more) (nick-there word nick is good) ∙ ap (λ r. Some (acts.Kick nick r)) (sym rest)

pub kick-refused : (ws more : List (List ℕ)) (word : List ℕ) (fault : NickFault) → ws ≡ word ∷ more → (fault ≡ nicks.Invalid → is_nick (chars word) ≡ false)
    → (fault ≡ nicks.Memory → is_nick (chars word) ≡ true) → GivesAct (Err (fault_of fault)) (kick_of ws)
kick-refused ws more word nicks.Memory are bad good =
    ap is_some (ap kick_of are ∙ ap (kicks more) (nick-there word (chars word) refl (good refl)))
kick-refused ws more word nicks.Invalid are bad good = ap kick_of are ∙ ap (kicks more) (nick-none word (bad refl))

abbrev bans : List (List ℕ) → Option ℕ → Option (List ℕ) → Option Act
bans more seconds nick = option_and_then (λ (n : List ℕ). option_map (λ (s : ℕ). acts.Ban n s (rest_of more)) seconds) nick

pub ban-read : (ws others more : List (List ℕ)) (word time nick reason : List ℕ) (seconds : ℕ) → ws ≡ word ∷ others → others ≡ time ∷ more
    → seconds_at time ≡ Some seconds → nick ≡ chars word → is_nick nick ≡ true → reason ≡ rest_of more → ban_of ws ≡ Some (acts.Ban nick seconds reason)
ban-read ws others more word time nick reason seconds are and-are long is good rest =
    ap ban_of (are ∙ ap (λ xs. word ∷ xs) and-are) ∙ ap (λ s. bans more s (nick_at word)) long
    ∙ ap (bans more (Some seconds)) (nick-there word nick is good) ∙ ap (λ r. Some (acts.Ban nick seconds r)) (sym rest)

pub ban-refused : (ws others more : List (List ℕ)) (word time : List ℕ) (seconds : ℕ) (fault : NickFault) → ws ≡ word ∷ others → others ≡ time ∷ more
    → seconds_at time ≡ Some seconds → (fault ≡ nicks.Invalid → is_nick (chars word) ≡ false)
    → (fault ≡ nicks.Memory → is_nick (chars word) ≡ true) → GivesAct (Err (fault_of fault)) (ban_of ws)
ban-refused ws others more word time seconds nicks.Memory are and-are long bad good =
    ap is_some (ap ban_of (are ∙ ap (λ xs. word ∷ xs) and-are) ∙ ap (λ s. bans more s (nick_at word)) long
    ∙ ap (bans more (Some seconds)) (nick-there word (chars word) refl (good refl)))
ban-refused ws others more word time seconds nicks.Invalid are and-are long bad good =
    ap ban_of (are ∙ ap (λ xs. word ∷ xs) and-are) ∙ ap (bans more (seconds_at time)) (nick-none word (bad refl))

unban-by : (word : List ℕ) (more : List (List ℕ)) → 1 ≤ length more → unban_of (word ∷ more) ≡ None
unban-by word [] some = absurd (omega arith)
unban-by word (x ∷ xs) some = refl

-- nothing may follow the client identifier
pub unban-some : (ws : List (List ℕ)) (word : List ℕ) (more : Option (Bor (List ℕ))) → ws ≡ word ∷ words_after (option_copied more) → is_some more ≡ true → unban_of ws ≡ None
unban-some ws word None are there = absurd (false≢true there)
unban-some ws word (Some text) are there = ap unban_of are ∙ unban-by word (words text.now) (some-word text.now)

pub unban-read : (ws : List (List ℕ)) (word cid : List ℕ) → ws ≡ word ∷ [] → spelled_bytes 24 word ≡ Some cid → unban_of ws ≡ Some (acts.Unban cid)
unban-read ws word cid are spelt = ap unban_of are ∙ ap (λ o. option_map (λ (bytes : List ℕ). acts.Unban bytes) o) spelt

-- a fault passed on by `?`
pub passed-on : (answer : Result Act ActFault) (fault : NickFault) (said : Option Act) → IsErrAnd answer (λ made. made ≡ fault_of fault) → GivesAct (Err (fault_of fault)) said → GivesAct answer said
passed-on (Ok act) fault said made refused = absurd made
passed-on (Err made) fault said is refused = subst (λ (e : ActFault). GivesAct (Err e) said) (sym is) refused

-- an option that was made a result
pub some-there : {X : Type 0} (o : Option X) (fault : ActFault) (x : X) → ok_or o fault ≡ Ok x → o ≡ Some x
some-there None fault x is = cc
some-there (Some y) fault x is = let e : y ≡ x = cc in ap Some e
