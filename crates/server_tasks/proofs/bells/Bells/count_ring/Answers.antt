use Rattle.std.proofs.Common.{◌≡◌, ◌∙◌, arith, length}
use Rattle.server_tasks.proofs.Portions.{counted_are, counted_due, others_rung, own_stays}
use Rattle.server_tasks.specs.Bells.{AreBells}
use Rattle.server_tasks.proofs.bells.Bells.count_ring.Goals as goal

pub invariant_of-self : goal.invariant_of-self
invariant_of-self c =
    let all : c.len-self.result ≡ length c.args.self.now.waiting.items = c.len-self.ensures ∙ c.args.self.now.waiting.ok.0 in
    let are : AreBells c.pass_over.new.bells.items c.args.self.now.waiting.items c.args.rings =
    counted_are c.args.self.now.bells.items c.pass_over.new.bells.items c.args.own c.args.self.now.waiting.items c.args.self.now.rings c.args.rings c.requires.next c.pass_over.ensures c.args.self.now.are_bells in
    record {
      are_bells = are;
      are_due = counted_due c.pass_over.new.bells.items c.args.self.now.waiting.items c.len-self.result c.args.rings all are;
      within = omega (arith, all);
      crier_wakes = λ _. c.requires.crier;
    }

pub returns-clause-rung : goal.returns-clause-rung
returns-clause-rung c =
    others_rung c.args.self.now.bells.items c.pass_over.new.bells.items c.args.own c.args.self.now.waiting.items c.args.self.now.rings c.args.rings c.requires.next c.pass_over.ensures c.args.self.now.are_bells

pub returns-clause-own : goal.returns-clause-own
returns-clause-own c =
    own_stays c.args.self.now.bells.items c.pass_over.new.bells.items c.args.own c.args.self.now.waiting.items c.args.self.now.rings c.args.rings c.requires.next c.pass_over.ensures c.args.self.now.are_bells
