-- What a client heard, piece by piece.
use Rattle.std.proofs.Common.{◌≡◌, ◌∙◌, refl, sym, ap, subst, ℕ, ◌+◌, ◌<◌, ◌≤◌, ◌⊎◌, inl, inr, true, false, List, [], ◌∷◌, ◌++◌, length, take, map, Option, Some, None, append_assoc, length-append, arith}
use Rattle.std.specs.Prelude.{Ok}
use Rattle.std.specs.Io.KnownBytes.{Consumes, Keeps, prepend_known}
use Rattle.std.specs.List.{filter}
use Rattle.std.specs.Result.{is_ok}
use Rattle.std.proofs.lemmas.List.{append-nil, map-append, take-append-le}
use Rattle.std.proofs.lemmas.List.Elements.{All-append, All-cons, All-nil, filter-append}
use Rattle.std.proofs.lemmas.List.Concat.{flat_map-append}
use Rattle.adc_line.specs.Frames.{lf, max_line, HasNoLf}
use Rattle.adc_line.specs.Lines.{Reading, reading}
use Rattle.adc_line.specs.Stream.{joined_lines}
use Rattle.counted_io.specs.Calls.{inner_of}
use Rattle.hub_client.specs.declared.client.Client.{Client}
use Rattle.hub_client.specs.declared.fault.ClientFault.{ClientFault}
use Rattle.hub_client.specs.declared.fault.ClientFault.TheVariants.{Memory, Unsayable, TimedOut, Unanswered, Closed, Broken, NotAdc, Refused}
use Rattle.hub_client.specs.Talks.{HearsLines, HearsNone, IsJunk, ReadsNone, has_bytes, unheard}

consumes-then : (a b c : Option (List ℕ)) (x y : List ℕ) → Consumes a b x → Consumes b c y → Consumes a c (x ++ y)
consumes-then None b c x y p q = tt
consumes-then (Some a) None c x y p q = absurd p
consumes-then (Some a) (Some b) None x y p q = absurd q
consumes-then (Some a) (Some b) (Some c) x y p q = p ∙ ap (λ t. x ++ t) q ∙ sym (append_assoc x y c)

consumes-kept : (a b : Option (List ℕ)) → Keeps a b → Consumes a b []
consumes-kept None b p = tt
consumes-kept (Some a) None p = absurd p
consumes-kept (Some a) (Some b) p = sym p

joined-append : (f g : List (List ℕ)) → joined_lines (f ++ g) ≡ joined_lines f ++ joined_lines g
joined-append f g = flat_map-append (λ line. line ++ lf ∷ []) f g

pub hears-nothing : (a b : Option (List ℕ)) → Keeps a b → HearsLines a b []
hears-nothing a b kept = record {
  frames = [];
  whole = All-nil HasNoLf;
  taken = consumes-kept a b kept;
  read = refl;
}

kept-same : (a : Option (List ℕ)) → Keeps a a
kept-same None = tt
kept-same (Some a) = refl

pub hears-same : (a : Option (List ℕ)) → HearsLines a a []
hears-same a = hears-nothing a a (kept-same a)

pub hears-then : (a b c : Option (List ℕ)) (xs ys : List Reading) → HearsLines a b xs → HearsLines b c ys → HearsLines a c (xs ++ ys)
hears-then a b c xs ys first then = record {
  frames = first.frames ++ then.frames;
  whole = All-append HasNoLf first.frames then.frames first.whole then.whole;
  taken = subst (λ t. Consumes a c t) (sym (joined-append first.frames then.frames)) (consumes-then a b c _ _ first.taken then.taken);
  read =
      ap (λ t. map reading t) (filter-append has_bytes first.frames then.frames)
      ∙ map-append reading (filter has_bytes first.frames) (filter has_bytes then.frames)
      ∙ ap (λ t. t ++ map reading (filter has_bytes then.frames)) first.read
      ∙ ap (λ t. map Ok xs ++ t) then.read
      ∙ sym (map-append Ok xs ys);
}

frame-taken : (unread left out : List ℕ) (more : Option (List ℕ)) → unread ≡ out ++ lf ∷ left → Consumes (prepend_known unread more) (prepend_known left more) (joined_lines (out ∷ []))
frame-taken unread left out None is = tt
frame-taken unread left out (Some more) is =
    ap (λ t. t ++ more) is ∙ append_assoc out (lf ∷ left) more
    ∙ sym (ap (λ t. t ++ (left ++ more)) (append-nil (out ++ lf ∷ [])) ∙ append_assoc out (lf ∷ []) (left ++ more))

pub hears-empty : (unread left out : List ℕ) (more : Option (List ℕ)) → unread ≡ out ++ lf ∷ left → HasNoLf out → length out ≡ 0 → HearsLines (prepend_known unread more) (prepend_known left more) []
hears-empty unread left [] more is whole none = record {
  frames = [] ∷ [];
  whole = All-cons HasNoLf [] [] whole (All-nil HasNoLf);
  taken = frame-taken unread left [] more is;
  read = refl;
}
hears-empty unread left (b ∷ bs) more is whole none = absurd (omega (arith, none))

pub hears-line : (unread left out : List ℕ) (more : Option (List ℕ)) (line : Reading) → unread ≡ out ++ lf ∷ left → HasNoLf out → has_bytes out ≡ true → reading out ≡ Ok line
    → HearsLines (prepend_known unread more) (prepend_known left more) (line ∷ [])
hears-line unread left out more line is whole some read = record {
  frames = out ∷ [];
  whole = All-cons HasNoLf out [] whole (All-nil HasNoLf);
  taken = frame-taken unread left out more is;
  read = rw some (ap (λ r. r ∷ []) read);
}

-- bytes that were read and fed are still unheard
pub fed-kept : (unread piece : List ℕ) (before after : Option (List ℕ)) → Consumes before after piece → Keeps (prepend_known unread before) (prepend_known (unread ++ piece) after)
fed-kept unread piece None after taken = tt
fed-kept unread piece (Some before) None taken = absurd taken
fed-kept unread piece (Some before) (Some after) taken = append_assoc unread piece after ∙ sym (ap (λ t. unread ++ t) taken)

-- a line that is too long, or that is no message
pub junk-long : (unread : List ℕ) (more : Option (List ℕ)) → max_line < length unread → HasNoLf (take (max_line + 1) unread) → IsJunk (prepend_known unread more)
junk-long unread None long none = tt
junk-long unread (Some more) long none =
    let within : max_line + 1 ≤ length unread = omega (arith, long) in
    let same : take (max_line + 1) (unread ++ more) ≡ take (max_line + 1) unread = take-append-le (max_line + 1) unread more within in
    inl (omega (arith, long, length-append unread more), subst HasNoLf (sym same) none)

pub junk-frame : (unread out left : List ℕ) (more : Option (List ℕ)) → unread ≡ out ++ lf ∷ left → HasNoLf out → is_ok (reading out) ≡ false → IsJunk (prepend_known unread more)
junk-frame unread out left None is whole none = tt
junk-frame unread out left (Some more) is whole none =
    inr (out, left ++ more, ap (λ t. t ++ more) is ∙ append_assoc out (lf ∷ left) more, whole, none)

-- why no message was heard, after empty lines
pub none-then : {S : Type 0} (remaining : S → Option (List ℕ)) (a b c : Client S) (fault : ClientFault) → HearsLines (unheard remaining a) (unheard remaining b) []
    → HearsNone remaining b c fault → HearsNone remaining a c fault
none-then remaining a b c Memory first then = tt
none-then remaining a b c TimedOut first then = then
none-then remaining a b c Broken first then = then
none-then remaining a b c Closed first then = (hears-then (unheard remaining a) (unheard remaining b) (unheard remaining c) [] [] first then.0, then.1)
none-then remaining a b c NotAdc first then = (then.0, hears-then (unheard remaining a) (unheard remaining b) then.0 [] [] first then.1, then.2)
none-then remaining a b c Unsayable first then = then
none-then remaining a b c Unanswered first then = then
none-then remaining a b c (Refused status) first then = then

-- why no bytes came is why no message was heard, where no line is left
pub none-read : {S : Type 0} (remaining : S → Option (List ℕ)) (a b : Client S) (fault : ClientFault) → HasNoLf a.framer → ReadsNone remaining a b fault → HearsNone remaining a b fault
none-read remaining a b Memory none read = tt
none-read remaining a b TimedOut none read = read
none-read remaining a b Broken none read = inl read
none-read remaining a b Closed none read = (hears-nothing (unheard remaining a) (unheard remaining b) read.0, (read.1, subst HasNoLf (sym read.2) none))
none-read remaining a b NotAdc none read = absurd read
none-read remaining a b Unsayable none read = read
none-read remaining a b Unanswered none read = read
none-read remaining a b (Refused status) none read = read

-- memory ran out, or the line that came is no message
pub none-message : {S : Type 0} (remaining : S → Option (List ℕ)) (a b : Client S) (out left : List ℕ) (fault : ClientFault) → a.framer ≡ out ++ lf ∷ left → HasNoLf out
    → (fault ≡ Memory) ⊎ ((fault ≡ NotAdc) × (is_ok (reading out) ≡ false)) → HearsNone remaining a b fault
none-message remaining a b out left fault is whole (inl memory) = rw memory tt
none-message remaining a b out left fault is whole (inr junk) =
    rw junk.0 (unheard remaining a, hears-same (unheard remaining a), junk-frame a.framer out left (remaining (inner_of a.stream)) is whole junk.1)
