-- How many threads a server has.
use Rattle.std.specs.Prelude.{ℕ}
use Rattle.hub_workers.specs.declared.workers.Threading.{Threading}
use Rattle.hub_workers.specs.declared.workers.Threading.TheVariants.{One, Many}

-- one, or those of the runtime
abbrev pub count_of : Threading → ℕ
count_of (One runtime) = 1
count_of (Many runtime) = runtime.worker_threads
