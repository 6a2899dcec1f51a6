use Rattle.std.proofs.Common.{◌≡◌, ◌++◌, List, rules, subst, take}
use Rattle.std.specs.Prelude.{codes, Option}
use Rattle.std.specs.Option.{option_map}
use Rattle.std.proofs.lemmas.List.{take_all}
use Rattle.toml.specs.Data.{Data, get}
use Rattle.toml.specs.View.{items_view, view}
use Rattle.toml.specs.declared.value.Value.{Value}
use Rattle.settings_report.specs.Places.{after}
use Rattle.settings_report.specs.Warned.{WarnsOfEntry, WarnsOfItems}
use Rattle.settings_report.specs.declared.warnings.SettingsWarning.{SettingsWarning}
use Rattle.settings_report.proofs.Menu.{warns-next}
use Rattle.settings_report.proofs.warnings.warnings_of_items.Goals as goal

pub loop-before-preserved : goal.loop-before-preserved
loop-before-preserved c =
    let item = c.index-items-before.result in
    let found : option_map (λ value. view value.now) c.get.result ≡ get (codes "text") (view item) = search rules in
    warns-next c.args.items.now c.loop-before.before item c.loop-before.found.items c.push_warnings.new.found.items c.loop-before-test.true
    c.index-items-before.is c.loop-before.invariant
    (subst (λ (value : Option Data). (own : List SettingsWarning) × (c.push_warnings.new.found.items ≡ c.loop-before.found.items ++ own)
    × WarnsOfEntry (after c.loop-before.before) value own) found c.in_ok-push_warnings.ensures)

pub returns : goal.returns
returns c =
    let all : take c.loop-before.before c.args.items.now ≡ c.args.items.now = take_all c.loop-before.before c.args.items.now (search rules) in
    subst (λ (items : List Value). WarnsOfItems 0 (items_view items) c.loop-before.found.items) all c.loop-before.invariant
