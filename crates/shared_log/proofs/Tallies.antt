-- How much waits once lines were given.
use Rattle.std.proofs.Common.{◌≡◌, ◌+◌, ℕ, Bool, true, false, List, ◌++◌, length, refl, ap, subst, sym, ◌∙◌, arith, length-append, Some, None}
use Rattle.std.specs.Prelude.{◌&&◌, nat_le, if◌then◌else◌}
use Rattle.std.proofs.lemmas.List.Sums.{sum_by-append}
use Rattle.outboxes.specs.Backlogs.{Backlog, backlog_after, fits, marked_lagging, size_of, with_lines}
use Rattle.shared_log.specs.declared.tally.Tally.{Tally}
use Rattle.shared_log.specs.Tallies.{IsTally, grown}

pub given-lags : (b : Backlog) (share : List (List ℕ)) → b.lags ≡ true → backlog_after b share ≡ b
unfolding backlog_after
given-lags b share is = rw is

pub given-fits : (b : Backlog) (share : List (List ℕ)) → b.lags ≡ false → fits b share ≡ true → backlog_after b share ≡ with_lines b (b.lines ++ share)
unfolding backlog_after
given-fits b share is fit = rw (is, fit)

pub given-not : (b : Backlog) (share : List (List ℕ)) → b.lags ≡ false → fits b share ≡ false → backlog_after b share ≡ marked_lagging b
unfolding backlog_after
given-not b share is fit = rw (is, fit)

fits-as : (b : Backlog) (t : Tally) (share : List (List ℕ)) → IsTally b t → fits b share ≡ (nat_le (t.lines + length share) t.cap && nat_le (t.bytes + size_of share) t.limit)
fits-as b t share h =
    ap (λ n. nat_le (n + length share) b.cap && nat_le (size_of b.lines + size_of share) b.bytes) (sym h.lines)
    ∙ ap (λ n. nat_le (t.lines + length share) n && nat_le (size_of b.lines + size_of share) b.bytes) (sym h.cap)
    ∙ ap (λ n. nat_le (t.lines + length share) t.cap && nat_le (n + size_of share) b.bytes) (sym h.bytes)
    ∙ ap (λ n. nat_le (t.lines + length share) t.cap && nat_le (t.bytes + size_of share) n) (sym h.limit)

module _ (b : Backlog) (t : Tally) (share : List (List ℕ)) (h : IsTally b t) (open' : t.lags ≡ false) where
  tally-some-at : (f : Bool) → fits b share ≡ f → (u : Tally) → Some u ≡ (if f then Some (record t { lines = t.lines + length share; bytes = t.bytes + size_of share }) else None) → IsTally (backlog_after b share) u
  tally-some-at true fit u is =
      let after = given-fits b share (sym h.lags ∙ open') fit in
      let same : u ≡ record t { lines = t.lines + length share; bytes = t.bytes + size_of share } = cc in
      subst (λ (x : Backlog). IsTally x u) (sym after)
      (subst (λ (v : Tally). IsTally (with_lines b (b.lines ++ share)) v) (sym same)
      (record {
        lines = omega (arith, h.lines, length-append b.lines share);
        bytes = omega (arith, h.bytes, sum_by-append length b.lines share);
        lags = h.lags;
        cap = h.cap;
        limit = h.limit;
      }))
  tally-some-at false fit u is = absurd (cc)

  tally-none-at : (f : Bool) → fits b share ≡ f → None ≡ (if f then Some (record t { lines = t.lines + length share; bytes = t.bytes + size_of share }) else None)
      → IsTally (backlog_after b share) (record t { lags = true })
  tally-none-at true fit is = absurd (cc)
  tally-none-at false fit is =
      subst (λ (x : Backlog). IsTally x (record t { lags = true })) (sym (given-not b share (sym h.lags ∙ open') fit))
      (record { lines = h.lines; bytes = h.bytes; lags = refl; cap = h.cap; limit = h.limit })

  pub tally-some : (u : Tally) → Some u ≡ grown t (length share) (size_of share) → IsTally (backlog_after b share) u
  tally-some u is = tally-some-at (nat_le (t.lines + length share) t.cap && nat_le (t.bytes + size_of share) t.limit) (fits-as b t share h) u is

  pub tally-none : None ≡ grown t (length share) (size_of share) → IsTally (backlog_after b share) (record t { lags = true })
  tally-none is = tally-none-at (nat_le (t.lines + length share) t.cap && nat_le (t.bytes + size_of share) t.limit) (fits-as b t share h) is
