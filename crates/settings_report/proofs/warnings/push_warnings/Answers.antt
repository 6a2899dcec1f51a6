use Rattle.std.proofs.Common.{◌≡◌, rules, Some}
use Rattle.std.proofs.lemmas.Result.{on_ok_weaker}
use Rattle.std.specs.Option.{option_map}
use Rattle.toml.specs.View.{view}
use Rattle.settings_report.specs.Places.{after}
use Rattle.settings_report.proofs.Menu.{joined}
use Rattle.settings_report.proofs.warnings.push_warnings.Goals as goal

pub returns : goal.returns
returns c =
    let is : option_map (λ value. view value.now) c.args.value ≡ Some (view c.in-Some.value.now) = search rules in
    on_ok_weaker c.push_warning-3.result
    (λ third. joined (after c.args.before) (option_map (λ value. view value.now) c.args.value) (view c.in-Some.value.now) c.args.found.now.items
    c.push_warning.new.found.items c.push_warning-2.new.found.items c.push_warning-3.new.found.items is
    c.in_ok-push_warning.ensures c.in_ok-push_warning-2.ensures third)
    c.push_warning-3.ensures
