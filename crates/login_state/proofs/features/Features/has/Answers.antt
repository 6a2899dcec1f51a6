use Rattle.std.proofs.Common.{◌∙◌, sym, ap, subst}
use Rattle.std.specs.List.{IsDistinct}
use Rattle.std.specs.Str.{bytes_eq}
use Rattle.login_state.specs.Support.{has_feature, all_said}
use Rattle.login_state.proofs.Mentioned.{last-from_has, has-from_last, supported-distinct}
use Rattle.login_state.proofs.features.Features.has.Goals as goal

pub returns-clause-last : goal.returns-clause-last
returns-clause-last c = λ lines from.
    let e = c.is_listed.ensures ∙ ap (has_feature c.args.feature) from in (
      λ h. last-from_has c.args.feature (all_said lines) (sym e ∙ h),
      λ found. e ∙ has-from_last c.args.feature (all_said lines) found,
    )

pub returns-clause-once : goal.returns-clause-once
returns-clause-once c = λ lines from. subst (IsDistinct bytes_eq) (sym from) (supported-distinct (all_said lines))
