-- The connection that sent a line, as the rules of the hub have it.
use Rattle.std.specs.Prelude.{[]}
use Rattle.std.specs.Option.{option_copied, unwrap_or}
use Rattle.hub_decisions.specs.declared.sender_facts.SenderFacts.TheInside.{Inside}
use Rattle.hub_rules.specs.Views.{SenderView}

abbrev pub own_view : Inside → SenderView
own_view own = record {
  sender = own.sender.now;
  stage = own.stage;
  fields = unwrap_or (option_copied own.fields) [];
  expected = unwrap_or own.expected [];
}
