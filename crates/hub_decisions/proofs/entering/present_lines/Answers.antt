use Rattle.std.proofs.Common.{◌≡◌, ◌∙◌, ◌<◌, sym, ap, ap₂, arith, get_or, length, map, take, None, Some, List}
use Rattle.std.specs.List.{slice_get}
use Rattle.std.proofs.lemmas.Option.{slice_get-get_or}
use Rattle.user_table.specs.Listed.{Listed}
use Rattle.user_table.specs.declared.totals.Totals.{Totals}
use Rattle.hub_rules.specs.Configured.{Configured}
use Rattle.hub_rules.specs.Effects.{line_of}
use Rattle.hub_rules.specs.Views.{HubView}
use Rattle.hub_decisions.specs.Present.{line_by}
use Rattle.hub_decisions.proofs.KeptLines.{first-told, nobody}
use Rattle.hub_decisions.proofs.Told.{lines-more}
use Rattle.hub_decisions.proofs.entering.present_lines.Goals as goal

pub loop-place-init : goal.loop-place-init
loop-place-init c =
    let setup : c.hub.inside.setup.now ≡ c.args.hub.now.setup = ap (λ (hub : HubView). hub.setup) c.hub.view_is in
    let users : c.hub.inside.users.now ≡ c.args.hub.now.users = ap (λ (hub : HubView). hub.users) c.hub.view_is in
    record {
      told = c.in_ok-batch.ensures ∙ first-told c.hub.inside.setup.now c.hub.inside.users.now c.hub.inside.lines.now c.hub.invariant
          ∙ ap (λ n. map (line_by c.hub.inside.setup.now) (take n c.hub.inside.users.now)) (sym c.len-place.ensures)
          ∙ ap₂ (λ (s : Configured) (us : List Listed). map (line_by s) (take c.len-place.result us)) setup users;
      counted = ap (λ (t : Totals). t.users) c.totals.ensures ∙ ap (λ (us : List Listed). length us) users;
    }

pub unreachable-requires : goal.unreachable-requires
unreachable-requires c =
    let users : List Listed = c.hub.inside.users.now in
    let within : c.loop-place.place < length users = omega (arith, c.loop-place-test.true, c.loop-place.invariant.counted, ap (λ (hub : HubView). length hub.users) c.hub.view_is) in
    let wrong : None ≡ Some (get_or users c.loop-place.place nobody) = c.in_default.ensures ∙ slice_get-get_or users c.loop-place.place nobody within in
    cc

pub loop-place-preserved : goal.loop-place-preserved
loop-place-preserved c =
    let setup : c.hub.inside.setup.now ≡ c.args.hub.now.setup = ap (λ (hub : HubView). hub.setup) c.hub.view_is in
    record {
      told =
          lines-more (line_of c.args.hub.now) c.args.hub.now.users c.loop-place.place c.in-Some.user.now c.loop-place.batch c.push.new.batch c.in_ok-line_of.field-0
          c.in_ok-push.ensures (c.in_ok-line_of.ensures ∙ ap (λ (s : Configured). line_by s c.in-Some.user.now) setup) c.loop-place.invariant.told
          (sym (c.in-Some.ensures ∙ ap (λ (hub : HubView). slice_get hub.users c.loop-place.place) c.hub.view_is));
      counted = c.loop-place.invariant.counted;
    }
