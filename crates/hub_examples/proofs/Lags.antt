-- A user does not take what waits for it, computed from the rules: by induction, since so many lines wait.
use Rattle.std.proofs.Common.{◌≡◌, ◌∙◌, ap, ap₂, refl, sym, subst, ℕ, zero, suc, ◌+◌, ◌≤◌, Bool, true, false, not, ◌&&◌, ◌||◌, List, [], ◌∷◌, ◌++◌, length, drop, take, replicate, codes, arith}
use Rattle.std.specs.Prelude.{nat_le, cond}
use Rattle.std.specs.List.{concat}
use Rattle.std.proofs.lemmas.Bool.{le-leb, leb-true}
use Rattle.std.proofs.lemmas.List.{drop-append-le, drop_all, length-replicate, take_all}
use Rattle.std.proofs.lemmas.List.Folds.{sum_by-replicate}
use Rattle.std.proofs.lemmas.List.Sums.{sum_by-append}
use Rattle.feature_route.specs.Audiences.{holds_words}
use Rattle.feature_route.specs.declared.receivers.Audience.TheVariants as audiences
use Rattle.inf_fields.specs.Field.{Field, field}
use Rattle.login_state.specs.declared.stage.Stage.TheVariants as stages
use Rattle.outboxes.specs.Backlogs.{fits, size_of}
use Rattle.hub_rules.specs.declared.effect.Change.TheVariants.{Nothing}
use Rattle.hub_rules.specs.declared.effect.Effect.{Effect}
use Rattle.hub_rules.specs.declared.effect.Hearers.TheVariants.{Those}
use Rattle.hub_rules.specs.declared.history.Call.TheVariants.{Line, Take}
use Rattle.hub_rules.specs.declared.history.Entry.{Entry}
use Rattle.hub_rules.specs.declared.history.Reply.TheVariants.{Took}
use Rattle.hub_rules.specs.declared.history.Verdict.TheVariants.{Kept}
use Rattle.hub_rules.specs.Effects.{is_present}
use Rattle.hub_rules.specs.Facts.{after, newcomer}
use Rattle.hub_rules.specs.Senders.{new_sender}
use Rattle.hub_rules.specs.Legal.{reply, take_reply}
use Rattle.hub_rules.specs.Shares.{ConnState, affected_connection, has_room, lags_with, owed_with, waiting}
use Rattle.hub_examples.specs.Conversations.{bobs_id, nobodys_id, one, peer, plain, zeros}
use Rattle.hub_examples.specs.Lags.{WhoTakesNothingLags, bob_ready, chatter, ho_text, ho_told, once_more, two_told}
use Rattle.hub_examples.specs.Steps.{says, takes}
use Rattle.hub_examples.proofs.Opened.{computing}
use Rattle.hub_examples.proofs.Known.{Known, facts_of, taken-known, with_effect, with_taken}
use Rattle.hub_examples.proofs.Played.{Comes, called, computed, goes-on}

-- what a user was owed that heard it so many times
abbrev heard_so_far : List ℕ → ℕ → List (List ℕ)
heard_so_far sid n = two_told sid ++ replicate n ho_told

replicate-end : (n : ℕ) → replicate n ho_told ++ ho_told ∷ [] ≡ replicate (suc n) ho_told
replicate-end zero = refl
replicate-end (suc n) = ap (λ lines. ho_told ∷ lines) (replicate-end n)

once-longer : (sid : List ℕ) (n : ℕ) → heard_so_far sid n ++ ho_told ∷ [] ≡ heard_so_far sid (suc n)
once-longer sid n = ap (λ lines. two_told sid ++ lines) (replicate-end n)

heard-length : (sid : List ℕ) (n : ℕ) → length (heard_so_far sid n) ≡ n + 5
heard-length sid n = omega (arith, length-replicate n ho_told)

-- ---- there is room for the line

-- a user who is present
abbrev present_about : ℕ → List Field → List (List ℕ) → ConnState
present_about c fields owed =
    record (newcomer c c peer zeros) { sender = record (new_sender c peer zeros) { features = codes "TIGR" ∷ codes "BASE" ∷ [] }; stage = stages.Normal; fields = fields; owed = owed }

abbrev ana_about : List (List ℕ) → ConnState
ana_about owed =
    present_about 1 (field (codes "ID") nobodys_id ∷ field (codes "NI") (codes "ana") ∷ field (codes "SS") (codes "10") ∷ field (codes "SF") (codes "2")
    ∷ field (codes "I4") (codes "127.0.0.1") ∷ field (codes "SU") (codes "TCP4,SEGA") ∷ []) owed

abbrev bob_about : List (List ℕ) → ConnState
bob_about owed =
    present_about 2 (field (codes "ID") bobs_id ∷ field (codes "NI") (codes "bob") ∷ field (codes "SS") (codes "5") ∷ field (codes "SF") (codes "1")
    ∷ field (codes "SU") (codes "TCP4") ∷ []) owed

abbrev ana_by : ℕ → ConnState
ana_by n = ana_about (heard_so_far (codes "AAAB") n)

-- bob took all that it heard so many times
abbrev bob_by : ℕ → ℕ → ConnState
bob_by took n = record (bob_about (heard_so_far (codes "AAAC") n)) { taken = took + 5 }

few-bytes : (n : ℕ) → n ≤ 1_018 → size_of (heard_so_far (codes "AAAB") n) + 13 ≤ 1_048_576
few-bytes n few =
    let before : size_of (two_told (codes "AAAB")) ≤ 1_000 = leb-true (size_of (two_told (codes "AAAB"))) 1_000 refl in
    omega (arith, few, before, sum_by-append length (two_told (codes "AAAB")) (replicate n ho_told), sum_by-replicate length n ho_told)

room-for-ana : (n : ℕ) → n ≤ 1_018 → has_room (ana_by n) (ho_told ∷ []) ≡ true
room-for-ana n few =
    ap₂ (λ a b. a && b) (le-leb (length (heard_so_far (codes "AAAB") n) + 1) 1_024 (omega (arith, few, heard-length (codes "AAAB") n)))
    (le-leb (size_of (heard_so_far (codes "AAAB") n) + 13) 1_048_576 (few-bytes n few))

nothing-waits : (n : ℕ) → waiting (bob_by n n) ≡ []
nothing-waits n = drop_all (n + 5) (heard_so_far (codes "AAAC") n) (omega (arith, heard-length (codes "AAAC") n))

room-for-bob : (n : ℕ) → has_room (bob_by n n) (ho_told ∷ []) ≡ true
room-for-bob n = ap (λ lines. fits (record { lines = lines; lags = false; cap = 1_024; bytes = 1_048_576 }) (ho_told ∷ [])) (nothing-waits n)

line-waits : (n : ℕ) → waiting (bob_by n (suc n)) ≡ ho_told ∷ []
line-waits n =
    ap (λ lines. drop (n + 5) lines) (sym (once-longer (codes "AAAC") n))
    ∙ drop-append-le (n + 5) (heard_so_far (codes "AAAC") n) (ho_told ∷ []) (omega (arith, heard-length (codes "AAAC") n))
    ∙ ap (λ lines. lines ++ ho_told ∷ []) (nothing-waits n)

-- ---- bob speaks

abbrev ho_effect : Effect
ho_effect = record { own = []; others = ho_told ∷ []; hearers = Those audiences.All; change = Nothing }

abbrev crowd : ConnState → ConnState → Known
crowd bob ana = record { last = 2; opened = 1 ∷ 2 ∷ []; present = 1 ∷ 2 ∷ []; bans = []; topic = []; abouts = bob ∷ ana ∷ [] }

-- a connection that heard the line, by whether there was room for it
abbrev by_room : Bool → ConnState → ConnState
by_room room a = record a { owed = cond room (a.owed ++ ho_told ∷ []) a.owed; lags = not room || a.lags }

ana-hears : (n : ℕ) → n ≤ 1_018 → affected_connection false ho_effect (ana_by n) ≡ ana_by (suc n)
unfolding owed_with lags_with holds_words
ana-hears n few = ap (λ b. by_room b (ana_by n)) (room-for-ana n few) ∙ ap ana_about (once-longer (codes "AAAB") n)

bob-hears : (n : ℕ) → affected_connection true ho_effect (bob_by n n) ≡ bob_by n (suc n)
unfolding owed_with lags_with holds_words
bob-hears n =
    ap (λ b. by_room b (bob_by n n)) (room-for-bob n)
    ∙ ap (λ lines. record (bob_about lines) { taken = n + 5 }) (once-longer (codes "AAAC") n)

-- where it is known what the line makes of both, and that they stay
both-hear : (bob ana bob_then ana_then : ConnState) → affected_connection true ho_effect bob ≡ bob_then → affected_connection false ho_effect ana ≡ ana_then
    → is_present bob_then.stage ≡ true → is_present ana_then.stage ≡ true → with_effect 2 ho_effect (crowd bob ana) ≡ crowd bob_then ana_then
both-hear bob ana bob_then ana_then bob_hears ana_hears bob_stays ana_stays = grind arith

-- where it is known what the line makes of ana
bob-says : (hash : List ℕ → List ℕ) (h : List Entry) (n : ℕ) (ana_then : ConnState) → affected_connection false ho_effect (ana_by n) ≡ ana_then
    → is_present ana_then.stage ≡ true → Comes plain hash h (crowd (bob_by n n) (ana_by n)) → Comes plain hash (says 2 ho_text 0 Kept h) (crowd (bob_by n (suc n)) ana_then)
unfolding computing
bob-says hash h n ana_then ana_hears ana_stays before =
    subst (Comes plain hash (says 2 ho_text 0 Kept h)) (both-hear (bob_by n n) (ana_by n) (bob_by n (suc n)) ana_then (bob-hears n) ana_hears refl ana_stays)
    (called plain hash [] tt (record { legal = true; history = h; known = crowd (bob_by n n) (ana_by n) }) 2 (Line 2 ho_text 0) (λ legal. before) refl)

-- ---- and takes what it hears of it

bob-given : (n : ℕ) → Took (concat (ho_told ∷ [])) 1 false ≡ take_reply 1 (bob_by n (suc n))
bob-given n = ap (λ lines. Took (concat (take 1 lines)) (length (take 1 lines)) (nat_le (length lines) 1 && false)) (sym (line-waits n))

one-later : (n : ℕ) → (n + 5) + 1 ≡ suc n + 5
one-later n = omega arith

bob-took : (n : ℕ) → with_taken 2 1 (crowd (bob_by n (suc n)) (ana_by (suc n))) ≡ crowd (bob_by (suc n) (suc n)) (ana_by (suc n))
bob-took n = grind (arith, line-waits, one-later)

bob-takes : (hash : List ℕ → List ℕ) (h : List Entry) (n : ℕ) → Comes plain hash h (crowd (bob_by n (suc n)) (ana_by (suc n)))
    → Comes plain hash (takes 2 1 (ho_told ∷ []) false h) (crowd (bob_by (suc n) (suc n)) (ana_by (suc n)))
unfolding reply after
bob-takes hash h n before =
    let k = crowd (bob_by n (suc n)) (ana_by (suc n)) in
    goes-on plain hash h k (crowd (bob_by (suc n) (suc n)) (ana_by (suc n))) (record { caller = 2; call = Take 2 1; reply = Took (concat (ho_told ∷ [])) 1 false }) before (refl, refl)
    (bob-given n) (taken-known 2 1 k refl ∙ ap facts_of (bob-took n))

bob-is-ready : (hash : List ℕ → List ℕ) → hash zeros ≡ zeros → hash one ≡ one → Comes plain hash bob_ready (crowd (bob_by 0 0) (ana_by 0))
unfolding computing
bob-is-ready hash same same_one = computed plain hash (zeros ∷ one ∷ []) (same, (same_one, tt)) bob_ready (crowd (bob_by 0 0) (ana_by 0)) refl

bob-chatters : (hash : List ℕ → List ℕ) → hash zeros ≡ zeros → hash one ≡ one → (n : ℕ) → n ≤ 1_019 → Comes plain hash (chatter n) (crowd (bob_by n n) (ana_by n))
unfolding chatter
bob-chatters hash same same_one zero few = bob-is-ready hash same same_one
bob-chatters hash same same_one (suc n) few =
    let before = bob-chatters hash same same_one n (omega (arith, few)) in
    bob-takes hash (says 2 ho_text 0 Kept (chatter n)) n
    (bob-says hash (chatter n) n (ana_by (suc n)) (ana-hears n (omega (arith, few))) refl before)

-- ---- the line that does not fit

false-le : (a b : ℕ) → b + 1 ≤ a → nat_le a b ≡ false
false-le a b above = grind arith

no-room-for-ana : (n : ℕ) → 1_019 ≤ n → has_room (ana_by n) (ho_told ∷ []) ≡ false
no-room-for-ana n many =
    ap (λ b. b && nat_le (size_of (heard_so_far (codes "AAAB") n) + 13) 1_048_576)
    (false-le (length (heard_so_far (codes "AAAB") n) + 1) 1_024 (omega (arith, many, heard-length (codes "AAAB") n)))

abbrev ana_lagging : ℕ → ConnState
ana_lagging n = record (ana_by n) { lags = true }

ana-lags : (n : ℕ) → 1_019 ≤ n → affected_connection false ho_effect (ana_by n) ≡ ana_lagging n
unfolding owed_with lags_with holds_words
ana-lags n many = ap (λ b. by_room b (ana_by n)) (no-room-for-ana n many)

ana-given : (n : ℕ) → n ≤ 1_019 → Took (concat (heard_so_far (codes "AAAB") n)) (length (heard_so_far (codes "AAAB") n)) true ≡ take_reply 1_024 (ana_lagging n)
ana-given n few =
    let lines = heard_so_far (codes "AAAB") n in
    let all : length lines ≤ 1_024 = omega (arith, few, heard-length (codes "AAAB") n) in
    ap (λ given. Took (concat given) (length given) true) (sym (take_all 1_024 lines all))
    ∙ ap (λ b. Took (concat (take 1_024 lines)) (length (take 1_024 lines)) (b && true)) (sym (le-leb (length lines) 1_024 all))

ana-takes : (hash : List ℕ → List ℕ) (h : List Entry) (n : ℕ) → n ≤ 1_019 → Comes plain hash h (crowd (bob_by n (suc n)) (ana_lagging n))
    → Comes plain hash (takes 1 1_024 (heard_so_far (codes "AAAB") n) true h) (with_taken 1 1_024 (crowd (bob_by n (suc n)) (ana_lagging n)))
unfolding reply after
ana-takes hash h n few before =
    let k = crowd (bob_by n (suc n)) (ana_lagging n) in
    let lines = heard_so_far (codes "AAAB") n in
    goes-on plain hash h k (with_taken 1 1_024 k) (record { caller = 1; call = Take 1 1_024; reply = Took (concat lines) (length lines) true }) before (refl, refl)
    (ana-given n few) (taken-known 1 1_024 k refl)

pub who-takes-nothing-lags : WhoTakesNothingLags
who-takes-nothing-lags hash same same_one =
    let before = bob-chatters hash same same_one 1_019 (omega arith) in
    let more = bob-says hash (chatter 1_019) 1_019 (ana_lagging 1_019) (ana-lags 1_019 (omega arith)) refl before in
    let taken = ana-takes hash once_more 1_019 (omega arith) more in (
      taken.legal,
      ap (λ f. (f.about 1).lags) before.known,
      ap (λ f. (f.about 1).lags) more.known,
      ap (λ f. (f.about 2).lags) more.known,
      ap (λ f. (f.about 1).owed) more.known,
      ap (λ f. (f.about 2).owed) more.known,
    )
