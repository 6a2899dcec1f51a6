-- A piece of the input is heard line by line.
use Rattle.std.proofs.Common.{◌≡◌, ◌∙◌, sym, ap, refl, subst, ℕ, ◌+◌, ◌<◌, ◌≤◌, Bool, false, List, [], ◌∷◌, ◌++◌, length, take, map, append-nil, append_assoc}
use Rattle.std.specs.Prelude.{Option, Result, IfErr}
use Rattle.std.specs.Result.{IsErrAnd}
use Rattle.std.specs.List.{All}
use Rattle.std.proofs.lemmas.Bool.{false≢true}
use Rattle.std.proofs.lemmas.List.Concat.{flat_map-append}
use Rattle.std.proofs.lemmas.List.Elements.{All-nil, All-head, All-tail, All-push}
use Rattle.adc_line.specs.declared.framer.Next.{Next}
use Rattle.adc_line.specs.declared.framer.Next.TheVariants.{Line, TooLong}
use Rattle.adc_line.specs.Frames.{lf, max_line, HasNoLf}
use Rattle.adc_line.specs.NextLine.{IsNext, IsFirstLine}
use Rattle.adc_line.specs.Stream.{lines, joined_lines, IsLine}
use Rattle.adc_line.proofs.FrameLemmas.{lines-line}
use Rattle.hub_core.specs.CoreState.{CoreState}
use Rattle.hub_rules.specs.Configured.{Configured}
use Rattle.hub_stdio.specs.Runs.{join, says}
use Rattle.hub_stdio.specs.Serving.{IsCutOff, run_after, GoesOn, BreaksOff, IsCutInto, StopsHearing, IsInAnswering}
use Rattle.hub_stdio.specs.declared.fault.RunFault.{RunFault}
use Rattle.hub_stdio.specs.declared.fault.RunFault.TheVariants as faults
use Rattle.hub_stdio.proofs.Refusals.{refused_by}
use Rattle.hub_stdio.proofs.Takes.{cut_off}
use Rattle.hub_stdio.proofs.Lines.{cut_before}

-- the lines of bytes that are cut are those that were cut off, and those of the rest
pub lines_of_cut : (sent : List (List ℕ)) (rest : List ℕ) → All IsLine sent → lines (joined_lines sent ++ rest) ≡ sent ++ lines rest
lines_of_cut [] rest are = refl
lines_of_cut (line ∷ sent) rest are =
    let first : IsLine line = All-head IsLine line sent are in
    ap lines (simp append_assoc)
    ∙ lines-line line (joined_lines sent ++ rest) first.0 first.1
    ∙ ap (λ more. line ∷ more) (lines_of_cut sent rest (All-tail IsLine line sent are))

-- one line more is cut off
cut_more : (bytes : List ℕ) (sent : List (List ℕ)) (rest out left : List ℕ) → IsCutInto bytes sent rest → rest ≡ out ++ lf ∷ left → IsLine out → IsCutInto bytes (sent ++ out ∷ []) left
cut_more bytes sent rest out left cut same line = record {
  whole = cut.whole ∙ ap (λ xs. joined_lines sent ++ xs) same ∙ simp (flat_map-append, append_assoc);
  are_lines = All-push IsLine sent out cut.are_lines line;
}

-- the bytes were heard up to the rest
abbrev pub HearsOn : Configured → (List ℕ → List ℕ) → List ℕ → List ℕ → Bool → CoreState → CoreState → Option (List ℕ) → Option (List ℕ) → Type 0
HearsOn setup hash bytes rest ended old new before now =
    (more : List (List ℕ)) × IsCutInto bytes more rest × GoesOn setup hash more ended old new before now

-- nothing was handed over
goes_nowhere : (setup : Configured) (hash : List ℕ → List ℕ) (core : CoreState) (holds : Option (List ℕ)) → GoesOn setup hash [] false core core holds holds
goes_nowhere setup hash core holds run way ready = (
  run.history,
  record { alone = way.alone; calls = way.calls ∙ ap (λ xs. join ∷ map says xs) (sym (append-nil run.sent)); in_turn = way.in_turn; written = way.written },
  ready,
  λ ended. absurd (false≢true ended),
)

pub hears_nothing : (setup : Configured) (hash : List ℕ → List ℕ) (bytes rest : List ℕ) (core : CoreState) (holds : Option (List ℕ)) → rest ≡ bytes → HearsOn setup hash bytes rest false core core holds holds
hears_nothing setup hash bytes rest core holds same = ([], record { whole = sym same; are_lines = All-nil IsLine }, goes_nowhere setup hash core holds)

-- lines, and then more lines
goes_further : (setup : Configured) (hash : List ℕ → List ℕ) (more further : List (List ℕ)) (first second : Bool) (old mid new : CoreState) (before holds now : Option (List ℕ))
    → GoesOn setup hash more first old mid before holds → GoesOn setup hash further second mid new holds now → GoesOn setup hash (more ++ further) second old new before now
goes_further setup hash more further first second old mid new before holds now one two run way ready =
    let a = one run way ready in
    let b = two (run_after run more a.0) a.1 a.2 in
    (b.0, record { alone = b.1.alone; calls = b.1.calls ∙ ap (λ xs. join ∷ map says xs) (append_assoc run.sent more further); in_turn = b.1.in_turn; written = b.1.written }, b.2, b.3)

-- whatever was said of more
kept_on : (setup : Configured) (hash : List ℕ → List ℕ) (more : List (List ℕ)) (ended : Bool) (old new : CoreState) (before now : Option (List ℕ))
    → GoesOn setup hash more ended old new before now → GoesOn setup hash more false old new before now
kept_on setup hash more ended old new before now goes run way ready = let a = goes run way ready in (a.0, a.1, a.2, λ is. absurd (false≢true is))

module _ (setup : Configured) (hash : List ℕ → List ℕ) (bytes rest : List ℕ) (ended : Bool) (old mid : CoreState) (before holds : Option (List ℕ)) (heard : HearsOn setup hash bytes rest ended old mid before holds) where
  -- the lines of the bytes are those that were heard, and those of the rest
  lines_heard : lines bytes ≡ heard.0 ++ lines rest
  lines_heard = ap lines heard.1.whole ∙ lines_of_cut heard.0 rest heard.1.are_lines

  -- and no more was handed over
  pub hears_short : BreaksOff setup hash (lines bytes) old before holds
  hears_short run way ready =
      let a = heard.2 run way ready in (
        a.0,
        subst (λ (due : List (List ℕ)). IsCutOff setup hash run.held due a.0 holds)
            (append_assoc run.sent heard.0 (lines rest) ∙ ap (λ xs. run.sent ++ xs) (sym lines_heard))
            (cut_before setup hash run.held (run.sent ++ heard.0) (lines rest) a.0 holds (cut_off setup hash (run_after run heard.0 a.0) mid holds a.1)),
      )

  -- and then a line
  module _ (held out left : List ℕ) (said : Next) (is : said ≡ Line) (next : IsNext rest held said left out) where
    a_line : (rest ≡ out ++ lf ∷ left) × HasNoLf out × (length out ≤ max_line)
    a_line = subst (λ (s : Next). IsNext rest held s left out) is next

    pub hears_line : (after : Bool) (new : CoreState) (now : Option (List ℕ)) → GoesOn setup hash (out ∷ []) after mid new holds now → HearsOn setup hash bytes left after old new before now
    hears_line after new now goes =
        (heard.0 ++ out ∷ [], cut_more bytes heard.0 rest out left heard.1 a_line.0 (a_line.1, a_line.2), goes_further setup hash heard.0 (out ∷ []) ended after old mid new before holds now heard.2 goes)

    -- in the midst of which it ended
    pub hears_part : (now : Option (List ℕ)) → BreaksOff setup hash (out ∷ []) mid holds now → BreaksOff setup hash (lines bytes) old before now
    hears_part now breaks run way ready =
        let a = heard.2 run way ready in
        let b = breaks (run_after run heard.0 a.0) a.1 a.2 in
        let all : lines bytes ≡ heard.0 ++ out ∷ lines left = lines_heard ∙ ap (λ xs. heard.0 ++ xs) (ap lines a_line.0 ∙ lines-line out left a_line.1 a_line.2) in
        let grouped : ((run.sent ++ heard.0) ++ out ∷ []) ++ lines left ≡ run.sent ++ (heard.0 ++ out ∷ lines left) = simp append_assoc in (
          b.0,
          subst (λ (due : List (List ℕ)). IsCutOff setup hash run.held due b.0 now) (grouped ∙ ap (λ xs. run.sent ++ xs) (sym all))
              (cut_before setup hash run.held ((run.sent ++ heard.0) ++ out ∷ []) (lines left) b.0 now b.1),
        )

  -- and then one that is too long
  module _ (held out left : List ℕ) (said : Next) (is : said ≡ TooLong) (next : IsNext rest held said left out) (first : IsFirstLine rest said left out) where
    too_long : (left ≡ rest) × (out ≡ held) × (max_line < length rest) × HasNoLf (take (max_line + 1) rest)
    too_long = subst (λ (s : Next). IsNext rest held s left out) is next

    no_line : lines rest ≡ []
    no_line = subst (λ (s : Next). IsFirstLine rest s left out) is first

    pub hears_too_long : StopsHearing faults.TooLong setup hash bytes left old mid before holds
    hears_too_long =
        subst (λ (xs : List ℕ). StopsHearing faults.TooLong setup hash bytes xs old mid before holds) (sym too_long.0)
        ((heard.0, heard.1, no_line, kept_on setup hash heard.0 ended old mid before holds heard.2), too_long.2, too_long.3)

-- a refusal in mid-answer
stops_midway : (setup : Configured) (hash : List ℕ → List ℕ) (fault : RunFault) (bytes rest : List ℕ) (old new : CoreState) (before now : Option (List ℕ)) → IsInAnswering fault → BreaksOff setup hash (lines bytes) old before now → StopsHearing fault setup hash bytes rest old new before now
stops_midway setup hash faults.Memory bytes rest old new before now is breaks = breaks
stops_midway setup hash faults.Read bytes rest old new before now is breaks = absurd is
stops_midway setup hash faults.Write bytes rest old new before now is breaks = breaks
stops_midway setup hash faults.TooLong bytes rest old new before now is breaks = absurd is
stops_midway setup hash faults.Turns bytes rest old new before now is breaks = absurd is

pub stops_by : {T : Type 0} (setup : Configured) (hash : List ℕ → List ℕ) (answer : Result T RunFault) (fault : RunFault) (bytes rest : List ℕ) (old new : CoreState) (before now : Option (List ℕ))
    → IsErrAnd answer (λ given. given ≡ fault) → IsInAnswering fault → BreaksOff setup hash (lines bytes) old before now
    → IfErr answer (λ given. StopsHearing given setup hash bytes rest old new before now)
stops_by setup hash answer fault bytes rest old new before now given is breaks =
    refused_by answer fault (λ (f : RunFault). StopsHearing f setup hash bytes rest old new before now) given (stops_midway setup hash fault bytes rest old new before now is breaks)
