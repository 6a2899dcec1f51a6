-- A conversation, one line on.
use Rattle.std.proofs.Common.{◌≡◌, ◌∙◌, refl, sym, ap, subst, ℕ, inl, inr, Bool, List, [], ◌∷◌, ◌++◌, append_assoc, Option}
use Rattle.std.specs.Io.KnownBytes.{Appends}
use Rattle.std.specs.List.{All, filter}
use Rattle.std.proofs.lemmas.List.{append-nil}
use Rattle.std.proofs.lemmas.List.Elements.{All-append, All-cons, All-nil, filter-append}
use Rattle.std.proofs.Common.{get_or}
use Rattle.adc_base32.specs.Sids.{sid_at}
use Rattle.adc_line.specs.Frames.{lf}
use Rattle.adc_line.specs.Lines.{Reading}
use Rattle.counted_io.specs.Calls.{failures_of, inner_of}
use Rattle.counted_io.specs.declared.counting.Counting.{Counting}
use Rattle.hub_client.specs.Broken.{IsCut}
use Rattle.hub_client.specs.declared.client.Client.{Client}
use Rattle.hub_client.specs.declared.fault.ClientFault.{ClientFault}
use Rattle.hub_client.specs.declared.fault.ClientFault.TheVariants.{Memory, Unsayable, TimedOut, Unanswered, Closed, Broken, NotAdc, Refused}
use Rattle.hub_client.specs.declared.status.Status.{Status}
use Rattle.hub_client.specs.Conversations.{Fails, IsGiven, IsSid, Waits}
use Rattle.hub_client.specs.Talks.{FailsAt, HearsLines, unheard}
use Rattle.hub_client.proofs.Heard.{hears-same, hears-then}

-- a line was said, and none was heard yet
pub waits-from : {S : Type 0} (remaining contents : S → Option (List ℕ)) (client : Client S) (stream : Counting S) (text : List ℕ) → Appends (contents (inner_of client.stream)) (contents (inner_of stream)) (text ++ lf ∷ [])
    → Waits remaining contents client text [] (unheard remaining (record client { stream = stream }))
waits-from remaining contents client stream text said =
    (record client { stream = stream }, (refl, said), hears-same (unheard remaining (record client { stream = stream })))

pub waits-more : {S : Type 0} (remaining contents : S → Option (List ℕ)) (client : Client S) (text : List ℕ) (heard more : List Reading) (left after : Option (List ℕ))
    → Waits remaining contents client text heard left → HearsLines left after more → Waits remaining contents client text (heard ++ more) after
waits-more remaining contents client text heard more left after (sent, sends, hears) then =
    (sent, sends, hears-then (unheard remaining sent) left after heard more hears then)

waits-still : {S : Type 0} (remaining contents : S → Option (List ℕ)) (client : Client S) (text : List ℕ) (heard : List Reading) (left after : Option (List ℕ))
    → Waits remaining contents client text heard left → HearsLines left after [] → Waits remaining contents client text heard after
waits-still remaining contents client text heard left after waits then =
    subst (λ (lines : List Reading). Waits remaining contents client text lines after) (append-nil heard) (waits-more remaining contents client text heard [] left after waits then)

pub all-more : (P : Reading → Type 0) (heard : List Reading) (line : Reading) → All P heard → P line → All P (heard ++ line ∷ [])
all-more P heard line all here = All-append P heard (line ∷ []) all (All-cons P line [] here (All-nil P))

-- what is kept of the lines that were heard, one line on
pub kept-more : (p : Reading → Bool) (first now then heard more : List Reading) → now ≡ first ++ filter p heard → then ≡ now ++ filter p more → then ≡ first ++ filter p (heard ++ more)
kept-more p first now then heard more before after =
    after ∙ ap (λ t. t ++ filter p more) before ∙ append_assoc first (filter p heard) (filter p more) ∙ ap (λ t. first ++ t) (sym (filter-append p heard more))

-- a fault at a line is one of the conversation
pub fails-after : {S : Type 0} (remaining contents : S → Option (List ℕ)) (silent : Reading → Type 0) (faulty : List Reading → Reading → ClientFault → Type 0) (here : Reading → ClientFault → Type 0)
    (before now after : Client S) (text : List ℕ) (heard : List Reading) (fault : ClientFault)
    → Waits remaining contents before text heard (unheard remaining now) → All silent heard
    → ((line : Reading) → here line NotAdc → faulty heard line NotAdc)
    → ((line : Reading) (status : Status) → here line (Refused status) → faulty heard line (Refused status))
    → FailsAt remaining here now after fault → Fails remaining contents silent faulty before after text fault
fails-after remaining contents silent faulty here before now after text heard Memory waits all junk refused fails = tt
fails-after remaining contents silent faulty here before now after text heard TimedOut waits all junk refused fails = fails
fails-after remaining contents silent faulty here before now after text heard Broken waits all junk refused fails = fails
fails-after remaining contents silent faulty here before now after text heard Closed waits all junk refused fails =
    (heard, waits-still remaining contents before text heard (unheard remaining now) (unheard remaining after) waits fails.0, all, fails.1)
fails-after remaining contents silent faulty here before now after text heard NotAdc waits all bad refused (inl (left, hears, junk)) =
    inl (heard, left, waits-still remaining contents before text heard (unheard remaining now) left waits hears, all, junk)
fails-after remaining contents silent faulty here before now after text heard NotAdc waits all bad refused (inr (line, hears, here-bad)) =
    inr (heard, unheard remaining now, line, waits, all, hears, bad line here-bad)
fails-after remaining contents silent faulty here before now after text heard (Refused status) waits all bad refused (line, hears, here-bad) =
    (heard, unheard remaining now, line, waits, all, hears, refused line status here-bad)
fails-after remaining contents silent faulty here before now after text heard Unsayable waits all junk refused fails = fails
fails-after remaining contents silent faulty here before now after text heard Unanswered waits all junk refused fails = fails

-- the session identifier that was given last, one line on
pub given-still : (heard : List Reading) (line : Reading) (sid : Option ℕ) → IsGiven heard sid → (IsSid line → ⊥) → IsGiven (heard ++ line ∷ []) sid
given-still heard line sid (inl (none, all)) other = inl (none, all-more (λ l. IsSid l → ⊥) heard line all other)
given-still heard line sid (inr (front, at, behind, is, here, said, all)) other =
    inr (
      front,
      at,
      behind ++ line ∷ [],
      ap (λ t. t ++ line ∷ []) is ∙ append_assoc front (at ∷ behind) (line ∷ []),
      here,
      said,
      all-more (λ l. IsSid l → ⊥) behind line all other,
    )

pub given-anew : (heard : List Reading) (line : Reading) (sid : Option ℕ) → IsSid line → sid ≡ sid_at (get_or line.params 0 []) → IsGiven (heard ++ line ∷ []) sid
given-anew heard line sid here said = inr (heard, line, [], refl, here, said, All-nil (λ l. IsSid l → ⊥))

-- a line that could not be written
pub fails-cut : {S : Type 0} (remaining contents : S → Option (List ℕ)) (silent : Reading → Type 0) (faulty : List Reading → Reading → ClientFault → Type 0)
    (before after : Client S) (text : List ℕ) (fault : ClientFault) → IsCut (failures_of after.stream) fault → Fails remaining contents silent faulty before after text fault
fails-cut remaining contents silent faulty before after text Memory cut = tt
fails-cut remaining contents silent faulty before after text TimedOut cut = cut
fails-cut remaining contents silent faulty before after text Broken cut = inl cut
fails-cut remaining contents silent faulty before after text Closed cut = absurd cut
fails-cut remaining contents silent faulty before after text NotAdc cut = absurd cut
fails-cut remaining contents silent faulty before after text Unsayable cut = cut
fails-cut remaining contents silent faulty before after text Unanswered cut = cut
fails-cut remaining contents silent faulty before after text (Refused status) cut = absurd cut
