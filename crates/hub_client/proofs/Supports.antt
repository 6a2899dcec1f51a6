-- The first message of a client is a message of the grammar.
use Rattle.std.proofs.Common.{◌≡◌, refl, ℕ, List, [], ◌∷◌, None, Bool, true, false, arith}
use Rattle.std.specs.Prelude.{codes}
use Rattle.std.specs.Str.{IsUtf8}
use Rattle.std.proofs.lemmas.List.Elements.{All-cons, All-nil}
use Rattle.adc_line.specs.declared.header.Kind.TheVariants as kinds
use Rattle.adc_line.specs.Escapes.{escaped_text}
use Rattle.adc_line.specs.Grammar.{Reads, IsParameter}
use Rattle.adc_line.specs.Lines.{Reading}
use Rattle.hub_client.specs.Sayings.{support_text}

abbrev pub features : Bool → List (List ℕ)
features true = codes "ADBASE" ∷ codes "ADTIGR" ∷ codes "ADPING" ∷ []
features false = codes "ADBASE" ∷ codes "ADTIGR" ∷ []

abbrev pub support_message : Bool → Reading
support_message pinger = record {
  text = support_text pinger;
  kind = kinds.Hub;
  command = codes "SUP";
  from = None;
  target = None;
  features = None;
  params = features pinger;
}

parameter-ADBASE : IsParameter (codes "ADBASE")
unfolding escaped_text
parameter-ADBASE = (codes "ADBASE", (λ (is : codes "ADBASE" ≡ []). cc), refl)

parameter-ADTIGR : IsParameter (codes "ADTIGR")
unfolding escaped_text
parameter-ADTIGR = (codes "ADTIGR", (λ (is : codes "ADTIGR" ≡ []). cc), refl)

parameter-ADPING : IsParameter (codes "ADPING")
unfolding escaped_text
parameter-ADPING = (codes "ADPING", (λ (is : codes "ADPING" ≡ []). cc), refl)

pub reads-support : (pinger : Bool) → IsUtf8 (support_text pinger) → Reads (support_text pinger) (support_message pinger)
reads-support true utf8 = record {
  text = refl;
  short = omega arith;
  utf8 = utf8;
  command = (83, 85, 80, refl, refl, refl, refl);
  addresses = [];
  addressed = (refl, refl, refl, refl);
  params = All-cons IsParameter (codes "ADBASE") (codes "ADTIGR" ∷ codes "ADPING" ∷ []) parameter-ADBASE
      (All-cons IsParameter (codes "ADTIGR") (codes "ADPING" ∷ []) parameter-ADTIGR (All-cons IsParameter (codes "ADPING") [] parameter-ADPING (All-nil IsParameter)));
  spelt = refl;
}
reads-support false utf8 = record {
  text = refl;
  short = omega arith;
  utf8 = utf8;
  command = (83, 85, 80, refl, refl, refl, refl);
  addresses = [];
  addressed = (refl, refl, refl, refl);
  params = All-cons IsParameter (codes "ADBASE") (codes "ADTIGR" ∷ []) parameter-ADBASE (All-cons IsParameter (codes "ADTIGR") [] parameter-ADTIGR (All-nil IsParameter));
  spelt = refl;
}
