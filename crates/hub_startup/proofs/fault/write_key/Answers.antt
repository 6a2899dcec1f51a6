use Rattle.std.proofs.Common.{◌++◌, ◌∷◌, [], List, ℕ, subst}
use Rattle.std.specs.Prelude.{codes}
use Rattle.counted_io.specs.Parts.{AppendsFront}
use Rattle.std.specs.Io.KnownBytes.{Appends}
use Rattle.hub_startup.proofs.Messages.{front-before, front-behind, front-of}
use Rattle.hub_startup.proofs.fault.write_key.Goals as goal

pub returns-in_err-write_and_flush : goal.returns-in_err-write_and_flush
returns-in_err-write_and_flush g c = front-before _ _ (codes "adc_hub: settings: ") (c.args.key.now ++ 10 ∷ []) c.in_err-write_and_flush.ensures.err

pub returns-in_err-write_and_flush-2 : goal.returns-in_err-write_and_flush-2
returns-in_err-write_and_flush-2 g c =
    let key : AppendsFront (g.E.Write.contents c.write_and_flush.new.writer) (g.E.Write.contents c.write_and_flush-2.new.writer) c.args.key.now =
    subst (λ (xs : List ℕ). AppendsFront (g.E.Write.contents c.write_and_flush.new.writer) (g.E.Write.contents c.write_and_flush-2.new.writer) xs)
    c.as_bytes.ensures.value c.in_err-write_and_flush-2.ensures.err in
    front-behind _ _ _ (codes "adc_hub: settings: ") (c.args.key.now ++ 10 ∷ []) c.in_ok-write_and_flush.ensures.ok
    (front-before _ _ c.args.key.now (10 ∷ []) key)

pub returns : goal.returns
returns g c =
    let key : Appends (g.E.Write.contents c.write_and_flush.new.writer) (g.E.Write.contents c.write_and_flush-2.new.writer) c.args.key.now =
    subst (λ (xs : List ℕ). Appends (g.E.Write.contents c.write_and_flush.new.writer) (g.E.Write.contents c.write_and_flush-2.new.writer) xs)
    c.as_bytes.ensures.value c.in_ok-write_and_flush-2.ensures.ok in
    front-behind _ _ _ (codes "adc_hub: settings: ") (c.args.key.now ++ 10 ∷ []) c.in_ok-write_and_flush.ensures.ok
    (front-behind _ _ _ c.args.key.now (10 ∷ []) key
    (front-of c.write_and_flush-3.result _ _ (10 ∷ []) c.write_and_flush-3.ensures.ok c.write_and_flush-3.ensures.err))
