use Rattle.std.proofs.Common.{◌∙◌, ap, lit<}
use Rattle.std.specs.Prelude.{fold, []}
use Rattle.std.proofs.lemmas.Iterator.Consumers.{YieldsList-end}
use Rattle.std.proofs.lemmas.Iterator.Splits.{YieldsList-from_str_split}
use Rattle.feature_route.proofs.Names.{with_name, feature_set-fold}
use Rattle.feature_route.proofs.feature_set.FeatureSet.read.Goals as goal

pub returns : goal.returns
returns c =
    let t = YieldsList-end (YieldsList-from_str_split 44 c.args.su.now (lit< tt) (cc) (cc) (cc)) c.words.yielded _ c.words.yielded_by _ _ c.in-None.is c.next.ensures.steps in
    c.words.invariant ∙ ap (λ words. fold with_name [] words) t.0 ∙ feature_set-fold c.args.su.now
