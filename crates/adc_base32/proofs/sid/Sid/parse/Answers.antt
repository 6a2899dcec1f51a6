use Rattle.std.proofs.Common.{◌≡◌, ◌∙◌, sym, ap, ℕ, ◌<◌, List}
use Rattle.std.specs.Prelude.{Option, Some, None, IfSome, IfNone}
use Rattle.adc_base32.specs.Sids.{sid_count, sid_text, sid_at}
use Rattle.adc_base32.proofs.Spelling.{sid_at-is, sid_at-sid_text, sid_text-sid_at}
use Rattle.adc_base32.proofs.sid.Sid.parse.Goals as goal

spelt : (text : List ℕ) (o : Option ℕ) → o ≡ sid_at text → IfSome o (λ n. text ≡ sid_text n)
spelt text (Some n) e = sid_text-sid_at text n (sym e)
spelt text None e = tt

only : (text : List ℕ) (o : Option ℕ) → o ≡ sid_at text → IfNone o ((n : ℕ) → n < sid_count → text ≡ sid_text n → ⊥)
only text (Some n) e = tt
only text None e = λ n below is.
    let read : None ≡ Some n = e ∙ ap sid_at is ∙ sid_at-sid_text n below in cc

pub returns-clause-spelt : goal.returns-clause-spelt
returns-clause-spelt c = spelt _ _ (c.read.ensures ∙ sym (sid_at-is _))

pub returns-clause-only : goal.returns-clause-only
returns-clause-only c = only _ _ (c.read.ensures ∙ sym (sid_at-is _))

pub returns-clause-exact : goal.returns-clause-exact
returns-clause-exact c = c.read.ensures ∙ sym (sid_at-is _)
