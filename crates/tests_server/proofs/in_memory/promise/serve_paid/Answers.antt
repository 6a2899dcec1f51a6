use Rattle.tests_server.proofs.in_memory.promise.serve_paid.Goals as goal

pub returns : goal.returns
returns g c = record {
  paid = λ zero.
      let served = c.serve_at-status.ensures.served zero in
      (served.0, record { served = served.1; paid = c.written_laws.ensures.written _ _ _ _ _ served.1.all });
}
