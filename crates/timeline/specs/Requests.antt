-- Requests of a task: when they fall, what they bring, when one is finished, and when it is late.
use Rattle.std.specs.Prelude.{ℕ, ◌+◌, ◌-◌, ◌*◌, ◌%◌, cond, ◌&&◌, ◌==◌, nat_le}

-- request k (k = 1, 2, ..) of a task with this start and period falls at this tick
abbrev pub request_tick : ℕ → ℕ → ℕ → ℕ
request_tick start period k = start + (k - 1) * period

-- the units that become ready at a tick: the work of a request that falls at it, else none
abbrev pub requested : ℕ → ℕ → ℕ → ℕ → ℕ
requested work period start tick = cond (nat_le start tick && (tick - start) % period == 0) work 0
