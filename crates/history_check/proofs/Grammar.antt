-- The readers of a line read its grammar: what is read is written so, and what is written is read so.
use Rattle.std.proofs.Common.{◌≡◌, ◌∙◌, ap, refl, sym, subst, ℕ, Bool, true, false, List, [], ◌∷◌, ◌++◌, inl, inr, Some, None, rules}
use Rattle.std.specs.Prelude.{codes}
use Rattle.std.proofs.lemmas.Option.{none-some, option_and_then_some, same_Some}
use Rattle.std.specs.Option.{option_map}
use Rattle.std.specs.Str.{bytes_eq}
use Rattle.adc_base32.specs.Spelled.{spelled_bytes}
use Rattle.history_check.proofs.Bytes.{bytes-again, bytes-take, nothing}
use Rattle.history_check.proofs.Parts.{address-again, address-no-blank, address-takes, challenge-filled, challenge-no-blank, count-again, count-filled, count-takes, number-again, number-filled, number-no-blank, number-some, number-takes}
use Rattle.history_check.proofs.Splits.{NoBlank, chosen, chosen-of, same-word, some-of, behind-blank, behind-none, cut, cut-filled, first-all, first-blank}
use Rattle.history_check.specs.Reading.{behind_word, first_word, read_address, read_bytes, read_call, read_count, read_end, read_entry, read_join, read_joined, read_line, read_number, read_quit, read_take, read_verdict}
use Rattle.history_check.specs.Text.{EndsWithWord, Writes, WritesCall, WritesJoin, WritesJoinReply, WritesLine, WritesQuit, WritesTake, call_word, end_word, verdict_word, words}
use Rattle.hub_rules.specs.declared.history.Call.{Call}
use Rattle.hub_rules.specs.declared.history.Call.TheVariants.{Join, Line, Quit, Take}
use Rattle.hub_rules.specs.declared.history.Entry.{Entry}
use Rattle.hub_rules.specs.declared.history.Reply.{Reply}
use Rattle.hub_rules.specs.declared.history.Reply.TheVariants.{Joined, Full, JoinsSpent, Said, Left, Took}
use Rattle.hub_rules.specs.declared.history.Verdict.{Verdict}
use Rattle.hub_rules.specs.declared.history.Verdict.TheVariants.{Kept, Ended}

-- ---- bytes behind the last word

pub ends-take : (text bytes : List ℕ) → read_bytes (behind_word text) ≡ Some bytes → EndsWithWord text (first_word text) bytes
ends-take text bytes e = elim (cut text) [
  | inl is ↦ inr (behind_word text, is, bytes-take (behind_word text) bytes e)
  | inr is ↦ inl (is.0, sym (nothing bytes (ap read_bytes (sym is.1) ∙ e)))
]

none-read : read_bytes [] ≡ Some []
unfolding read_bytes
none-read = refl

pub ends-again : (text word bytes : List ℕ) → NoBlank word → EndsWithWord text word bytes → (first_word text ≡ word) × (read_bytes (behind_word text) ≡ Some bytes)
ends-again text word bytes none (inl is) = (
  ap first_word is.0 ∙ first-all word none,
  ap (λ (t : List ℕ). read_bytes (behind_word t)) is.0 ∙ ap read_bytes (behind-none word none) ∙ none-read ∙ ap Some (sym is.1),
)
ends-again text word bytes none (inr (written, is, so)) = (
  ap first_word is ∙ first-blank word written none,
  ap (λ (t : List ℕ). read_bytes (behind_word t)) is ∙ ap read_bytes (behind-blank word written none) ∙ bytes-again written bytes so,
)

-- ---- texts of several words

onto-words : (word text rest : List ℕ) → text ≡ rest → word ++ 32 ∷ text ≡ word ++ 32 ∷ rest
onto-words word text rest is = ap (λ (t : List ℕ). word ++ 32 ∷ t) is

-- ---- the reply to a join

joined-takes : (text : List ℕ) (reply : Reply) → read_joined text ≡ Some reply → WritesJoinReply text reply
unfolding read_joined
joined-takes text reply e =
    chosen (bytes_eq text (codes "full")) Full _ reply e
    (λ is made. subst (WritesJoinReply text) made (same-word text (codes "full") is))
    λ e₁. chosen (bytes_eq text (codes "joins-spent")) JoinsSpent _ reply e₁
    (λ is made. subst (WritesJoinReply text) made (same-word text (codes "joins-spent") is))
    λ e₂. chosen-of (bytes_eq (first_word text) (codes "joined")) (option_map Joined (read_number (behind_word text))) None reply e₂
    (λ is e₃. let (n, read, made) = some-of Joined (read_number (behind_word text)) reply e₃ in
    let shown = cut-filled text (number-some (behind_word text) n read) in
    subst (WritesJoinReply text) made
    (behind_word text, shown ∙ ap (λ (w : List ℕ). w ++ 32 ∷ behind_word text) (same-word (first_word text) (codes "joined") is), number-takes (behind_word text) n read))
    (λ e₄. absurd (none-some reply e₄))

joined-nil : (reply : Reply) → read_joined [] ≡ Some reply → ⊥
unfolding read_joined first_word
joined-nil reply e = none-some reply e

joined-filled : (text : List ℕ) (reply : Reply) → read_joined text ≡ Some reply → text ≡ [] → ⊥
joined-filled text reply e is = joined-nil reply (ap read_joined (sym is) ∙ e)

joined-word : NoBlank (codes "joined")
joined-word = search rules

joined-full : read_joined (codes "full") ≡ Some Full
unfolding read_joined
joined-full = refl

joined-spent : read_joined (codes "joins-spent") ≡ Some JoinsSpent
unfolding read_joined
joined-spent = refl

joined-number : (number : List ℕ) → read_joined (words (codes "joined" ∷ number ∷ [])) ≡ option_map Joined (read_number number)
unfolding read_joined first_word behind_word
joined-number number = refl

joined-again : (text : List ℕ) (reply : Reply) → WritesJoinReply text reply → read_joined text ≡ Some reply
joined-again text (Joined connection) (number, is, so) = ap read_joined is ∙ joined-number number ∙ ap (option_map Joined) (number-again number connection so)
joined-again text Full is = ap read_joined is ∙ joined-full
joined-again text JoinsSpent is = ap read_joined is ∙ joined-spent
joined-again text (Said verdict) is = absurd is
joined-again text Left is = absurd is
joined-again text (Took bytes lines ended) is = absurd is

-- ---- joins

-- a word, and what stands behind it
abbrev Called : List ℕ → List ℕ → Call × Reply → Type 0
Called kind text said = (kind ≡ call_word said.0) × WritesCall text said.0 said.1

join-takes : (text : List ℕ) (said : Call × Reply) → read_join text ≡ Some said → Called (codes "join") text said
unfolding read_join
join-takes text said e =
    let t₁ = behind_word text in
    let t₂ = behind_word t₁ in
    let t₃ = behind_word t₂ in
    option_and_then_some _ (read_address (first_word text)) said e λ peer is-peer e₁.
    option_and_then_some _ (spelled_bytes 24 (first_word t₁)) said e₁ λ challenge is-challenge e₂.
    option_and_then_some _ (read_number (first_word t₂)) said e₂ λ now is-now e₃.
    option_and_then_some _ (read_joined t₃) said e₃ λ reply is-reply e₄.
    let third = cut-filled t₂ (joined-filled t₃ reply is-reply) in
    let second = cut-filled t₁ (number-filled t₂ now is-now) ∙ onto-words (first_word t₁) t₂ _ third in
    let first = cut-filled text (challenge-filled t₁ challenge is-challenge) ∙ onto-words (first_word text) t₁ _ second in
    subst (λ (s : Call × Reply). Called (codes "join") text s) (same_Some _ _ e₄)
    (refl, (first_word text, first_word t₁, first_word t₂, t₃, first, address-takes (first_word text) peer is-peer, is-challenge, number-takes (first_word t₂) now is-now, joined-takes t₃ reply is-reply))

join-again : (text peer challenge : List ℕ) (now : ℕ) (reply : Reply) → WritesJoin text peer challenge now reply → read_join text ≡ Some (Join peer challenge now, reply)
unfolding read_join
join-again text peer challenge now reply (address, spelled, moment, told, is, is-peer, is-challenge, is-now, is-reply) =
    let t₂ = words (moment ∷ told ∷ []) in
    let t₁ = words (spelled ∷ moment ∷ told ∷ []) in
    let none₀ = address-no-blank address peer is-peer in
    let none₁ = challenge-no-blank spelled challenge is-challenge in
    let none₂ = number-no-blank moment now is-now in
    ap read_join is
    ∙ rw (
      behind-blank address t₁ none₀,
      first-blank address t₁ none₀,
      behind-blank spelled t₂ none₁,
      first-blank spelled t₂ none₁,
      behind-blank moment told none₂,
      first-blank moment told none₂,
      address-again address peer is-peer,
      is-challenge,
      number-again moment now is-now,
      joined-again told reply is-reply,
    ) refl

-- ---- lines

verdict-takes : (word : List ℕ) (verdict : Verdict) → read_verdict word ≡ Some verdict → word ≡ verdict_word verdict
unfolding read_verdict
verdict-takes word verdict e =
    chosen (bytes_eq word (codes "kept")) Kept _ verdict e
    (λ is made. subst (λ (v : Verdict). word ≡ verdict_word v) made (same-word word (codes "kept") is))
    λ e₁. chosen (bytes_eq word (codes "ended")) Ended None verdict e₁
    (λ is made. subst (λ (v : Verdict). word ≡ verdict_word v) made (same-word word (codes "ended") is))
    (λ e₂. absurd (none-some verdict e₂))

verdict-again : (verdict : Verdict) → read_verdict (verdict_word verdict) ≡ Some verdict
unfolding read_verdict
verdict-again Kept = refl
verdict-again Ended = refl

verdict-no-blank : (verdict : Verdict) → NoBlank (verdict_word verdict)
verdict-no-blank Kept = search rules
verdict-no-blank Ended = search rules

verdict-nil : (text : List ℕ) (verdict : Verdict) → read_verdict (first_word text) ≡ Some verdict → text ≡ [] → ⊥
unfolding read_verdict first_word
verdict-nil text verdict e is = none-some verdict (ap (λ (t : List ℕ). read_verdict (first_word t)) (sym is) ∙ e)

line-takes : (text : List ℕ) (said : Call × Reply) → read_line text ≡ Some said → Called (codes "line") text said
unfolding read_line
line-takes text said e =
    let t₁ = behind_word text in
    let t₂ = behind_word t₁ in
    option_and_then_some _ (read_number (first_word text)) said e λ connection is-connection e₁.
    option_and_then_some _ (read_number (first_word t₁)) said e₁ λ now is-now e₂.
    option_and_then_some _ (read_verdict (first_word t₂)) said e₂ λ verdict is-verdict e₃.
    option_and_then_some _ (read_bytes (behind_word t₂)) said e₃ λ bytes is-bytes e₄.
    let second = cut-filled t₁ (verdict-nil t₂ verdict is-verdict) in
    let first = cut-filled text (number-filled t₁ now is-now) ∙ onto-words (first_word text) t₁ _ second in
    let ends = subst (λ (word : List ℕ). EndsWithWord t₂ word bytes) (verdict-takes (first_word t₂) verdict is-verdict) (ends-take t₂ bytes is-bytes) in
    subst (λ (s : Call × Reply). Called (codes "line") text s) (same_Some _ _ e₄)
    (refl, (verdict, first_word text, first_word t₁, t₂, first, number-takes (first_word text) connection is-connection, number-takes (first_word t₁) now is-now, ends, refl))

line-again : (text bytes : List ℕ) (c now : ℕ) (reply : Reply) → WritesLine text c bytes now reply → read_line text ≡ Some (Line c bytes now, reply)
unfolding read_line
line-again text bytes c now reply (verdict, connection, moment, told, is, is-connection, is-now, ends, said) =
    let t₁ = words (moment ∷ told ∷ []) in
    let none₀ = number-no-blank connection c is-connection in
    let none₁ = number-no-blank moment now is-now in
    let last = ends-again told (verdict_word verdict) bytes (verdict-no-blank verdict) ends in
    ap read_line is
    ∙ rw (
      behind-blank connection t₁ none₀,
      first-blank connection t₁ none₀,
      behind-blank moment told none₁,
      first-blank moment told none₁,
      number-again connection c is-connection,
      number-again moment now is-now,
      last.0,
      verdict-again verdict,
      last.1,
    )
    (ap (λ (r : Reply). Some (Line c bytes now, r)) (sym said))

-- ---- quits

left-some : codes "left" ≡ [] → ⊥
left-some is = cc

quit-takes : (text : List ℕ) (said : Call × Reply) → read_quit text ≡ Some said → Called (codes "quit") text said
unfolding read_quit
quit-takes text said e =
    option_and_then_some _ (read_number (first_word text)) said e λ connection is-connection e₁.
    chosen (bytes_eq (behind_word text) (codes "left")) (Quit connection, Left) None said e₁
    (λ is made.
    let word = same-word (behind_word text) (codes "left") is in
    let first = cut-filled text (λ none. left-some (sym word ∙ none)) ∙ onto-words (first_word text) (behind_word text) (codes "left") word in
    subst (λ (s : Call × Reply). Called (codes "quit") text s) made (refl, (first_word text, first, number-takes (first_word text) connection is-connection, refl)))
    (λ e₂. absurd (none-some said e₂))

quit-again : (text : List ℕ) (c : ℕ) (reply : Reply) → WritesQuit text c reply → read_quit text ≡ Some (Quit c, reply)
unfolding read_quit
quit-again text c reply (connection, is, is-connection, said) =
    let none₀ = number-no-blank connection c is-connection in
    ap read_quit is
    ∙ rw (behind-blank connection (codes "left") none₀, first-blank connection (codes "left") none₀, number-again connection c is-connection)
    (ap (λ (r : Reply). Some (Quit c, r)) (sym said))

-- ---- takes

end-takes : (word : List ℕ) (ended : Bool) → read_end word ≡ Some ended → word ≡ end_word ended
unfolding read_end
end-takes word ended e =
    chosen (bytes_eq word (codes "more")) false _ ended e
    (λ is made. subst (λ (b : Bool). word ≡ end_word b) made (same-word word (codes "more") is))
    λ e₁. chosen (bytes_eq word (codes "over")) true None ended e₁
    (λ is made. subst (λ (b : Bool). word ≡ end_word b) made (same-word word (codes "over") is))
    (λ e₂. absurd (none-some ended e₂))

end-again : (ended : Bool) → read_end (end_word ended) ≡ Some ended
unfolding read_end
end-again true = refl
end-again false = refl

end-no-blank : (ended : Bool) → NoBlank (end_word ended)
end-no-blank true = search rules
end-no-blank false = search rules

end-nil : (text : List ℕ) (ended : Bool) → read_end (first_word text) ≡ Some ended → text ≡ [] → ⊥
unfolding read_end first_word
end-nil text ended e is = none-some ended (ap (λ (t : List ℕ). read_end (first_word t)) (sym is) ∙ e)

take-takes : (text : List ℕ) (said : Call × Reply) → read_take text ≡ Some said → Called (codes "take") text said
unfolding read_take
take-takes text said e =
    let t₁ = behind_word text in
    let t₂ = behind_word t₁ in
    let t₃ = behind_word t₂ in
    option_and_then_some _ (read_number (first_word text)) said e λ connection is-connection e₁.
    option_and_then_some _ (read_count (first_word t₁)) said e₁ λ count is-count e₂.
    option_and_then_some _ (read_number (first_word t₂)) said e₂ λ lines is-lines e₃.
    option_and_then_some _ (read_end (first_word t₃)) said e₃ λ ended is-ended e₄.
    option_and_then_some _ (read_bytes (behind_word t₃)) said e₄ λ bytes is-bytes e₅.
    let third = cut-filled t₂ (end-nil t₃ ended is-ended) in
    let second = cut-filled t₁ (number-filled t₂ lines is-lines) ∙ onto-words (first_word t₁) t₂ _ third in
    let first = cut-filled text (count-filled t₁ count is-count) ∙ onto-words (first_word text) t₁ _ second in
    let asked = count-takes (first_word t₁) count is-count in
    let ends = subst (λ (word : List ℕ). EndsWithWord t₃ word bytes) (end-takes (first_word t₃) ended is-ended) (ends-take t₃ bytes is-bytes) in
    subst (λ (s : Call × Reply). Called (codes "take") text s) (same_Some _ _ e₅) (
      refl,
      (
        bytes,
        lines,
        ended,
        first_word text,
        first_word t₁,
        first_word t₂,
        t₃,
        first,
        number-takes (first_word text) connection is-connection,
        asked.0,
        asked.1,
        asked.2,
        number-takes (first_word t₂) lines is-lines,
        ends,
        refl,
      ),
    )

take-again : (text : List ℕ) (c count : ℕ) (reply : Reply) → WritesTake text c count reply → read_take text ≡ Some (Take c count, reply)
unfolding read_take
take-again text c count reply (bytes, lines, ended, connection, asked, taken, told, is, is-connection, is-asked, low, high, is-taken, ends, said) =
    let t₂ = words (taken ∷ told ∷ []) in
    let t₁ = words (asked ∷ taken ∷ told ∷ []) in
    let none₀ = number-no-blank connection c is-connection in
    let none₁ = number-no-blank asked count is-asked in
    let none₂ = number-no-blank taken lines is-taken in
    let last = ends-again told (end_word ended) bytes (end-no-blank ended) ends in
    ap read_take is
    ∙ rw (
      behind-blank connection t₁ none₀,
      first-blank connection t₁ none₀,
      behind-blank asked t₂ none₁,
      first-blank asked t₂ none₁,
      behind-blank taken told none₂,
      first-blank taken told none₂,
      number-again connection c is-connection,
      count-again asked count is-asked low high,
      number-again taken lines is-taken,
      last.0,
      end-again ended,
      last.1,
    )
    (ap (λ (r : Reply). Some (Take c count, r)) (sym said))

-- ---- entries

call-takes : (kind text : List ℕ) (said : Call × Reply) → read_call kind text ≡ Some said → Called kind text said
unfolding read_call
call-takes kind text said e =
    chosen-of (bytes_eq kind (codes "join")) (read_join text) _ said e (λ is e₁. subst (λ (k : List ℕ). Called k text said) (sym (same-word kind (codes "join") is)) (join-takes text said e₁))
    λ e₁. chosen-of (bytes_eq kind (codes "line")) (read_line text) _ said e₁ (λ is e₂. subst (λ (k : List ℕ). Called k text said) (sym (same-word kind (codes "line") is)) (line-takes text said e₂))
    λ e₂. chosen-of (bytes_eq kind (codes "quit")) (read_quit text) _ said e₂ (λ is e₃. subst (λ (k : List ℕ). Called k text said) (sym (same-word kind (codes "quit") is)) (quit-takes text said e₃))
    λ e₃. chosen-of (bytes_eq kind (codes "take")) (read_take text) None said e₃ (λ is e₄. subst (λ (k : List ℕ). Called k text said) (sym (same-word kind (codes "take") is)) (take-takes text said e₄))
    (λ e₄. absurd (none-some said e₄))

call-again : (text : List ℕ) (call : Call) (reply : Reply) → WritesCall text call reply → read_call (call_word call) text ≡ Some (call, reply)
unfolding read_call
call-again text (Join peer challenge now) reply is = join-again text peer challenge now reply is
call-again text (Line c bytes now) reply is = line-again text bytes c now reply is
call-again text (Quit c) reply is = quit-again text c reply is
call-again text (Take c count) reply is = take-again text c count reply is

call-no-blank : (call : Call) → NoBlank (call_word call)
call-no-blank (Join peer challenge now) = search rules
call-no-blank (Line c bytes now) = search rules
call-no-blank (Quit c) = search rules
call-no-blank (Take c count) = search rules

filled-by : (a b text : List ℕ) → text ≡ a ++ 32 ∷ b → text ≡ [] → ⊥
filled-by [] b text is none = cc
filled-by (c ∷ a) b text is none = cc

call-filled : (text : List ℕ) (call : Call) (reply : Reply) → WritesCall text call reply → text ≡ [] → ⊥
call-filled text (Join peer challenge now) reply is = filled-by is.0 _ text is.4
call-filled text (Line c bytes now) reply is = filled-by is.1 _ text is.4
call-filled text (Quit c) reply is = filled-by is.0 _ text is.1
call-filled text (Take c count) reply is = filled-by is.3 _ text is.7

kind-filled : (text : List ℕ) (call : Call) → first_word text ≡ call_word call → text ≡ [] → ⊥
unfolding first_word
kind-filled text (Join peer challenge now) is none = let e = sym (ap first_word none) ∙ is in cc
kind-filled text (Line c bytes now) is none = let e = sym (ap first_word none) ∙ is in cc
kind-filled text (Quit c) is none = let e = sym (ap first_word none) ∙ is in cc
kind-filled text (Take c count) is none = let e = sym (ap first_word none) ∙ is in cc

pub entry-takes : (line : List ℕ) (e : Entry) → read_entry line ≡ Some e → Writes line e
unfolding read_entry
entry-takes line e is =
    let t₁ = behind_word line in
    let t₂ = behind_word t₁ in
    option_and_then_some _ (read_number (first_word line)) e is λ caller is-caller e₁.
    option_and_then_some _ (read_call (first_word t₁) t₂) e e₁ λ said is-said e₂.
    let called = call-takes (first_word t₁) t₂ said is-said in
    let second = cut-filled t₁ (call-filled t₂ said.0 said.1 called.1) ∙ ap (λ (w : List ℕ). w ++ 32 ∷ t₂) called.0 in
    let first = cut-filled line (kind-filled t₁ said.0 called.0) ∙ onto-words (first_word line) t₁ _ second in
    subst (Writes line) (same_Some _ _ e₂) (first_word line, t₂, first, number-takes (first_word line) caller is-caller, called.1)

pub entry-again : (line : List ℕ) (e : Entry) → Writes line e → read_entry line ≡ Some e
unfolding read_entry
entry-again line e (caller, text, is, is-caller, so) =
    let kind = call_word e.call in
    let t₁ = words (kind ∷ text ∷ []) in
    let none₀ = number-no-blank caller e.caller is-caller in
    let none₁ = call-no-blank e.call in
    ap read_entry is
    ∙ rw (
      behind-blank caller t₁ none₀,
      first-blank caller t₁ none₀,
      behind-blank kind text none₁,
      first-blank kind text none₁,
      number-again caller e.caller is-caller,
      call-again text e.call e.reply so,
    ) refl

-- ---- a line writes one entry at most

pub one-entry : (line : List ℕ) (e other : Entry) → Writes line e → Writes line other → other ≡ e
one-entry line e other is also = same_Some _ _ (sym (entry-again line other also) ∙ entry-again line e is)

pub no-entry : (line : List ℕ) → read_entry line ≡ None → (e : Entry) → Writes line e → ⊥
no-entry line none e is = none-some e (sym none ∙ entry-again line e is)
