-- What one processor does at each tick, from tick 0 without end.
-- It serves levels, 0 the highest priority. Which work becomes ready, and when, is the demand's affair alone.
use Rattle.std.specs.Prelude.{◌≡◌, ℕ, zero, suc, ◌+◌, ◌-◌, Bool, cond, ◌&&◌, ◌==◌, nat_lt}

-- the units of work that become ready, by level and tick
abbrev pub Demands : Type 0
Demands = ℕ → ℕ → ℕ

-- the units of the levels 0 to n - 1, together; at a level, of those above it
abbrev pub sum_below : (ℕ → ℕ) → ℕ → ℕ
sum_below units zero = 0
sum_below units (suc n) = sum_below units n + units n

-- one tick: the highest level that has a unit runs one
abbrev pub served : (ℕ → ℕ) → ℕ → ℕ
served units level = cond (sum_below units level == 0) (units level - 1) (units level)

-- the units that a level has left from before a tick
abbrev pub owing : Demands → ℕ → ℕ → ℕ
owing D zero level = 0
owing D (suc tick) level = served (λ i. owing D tick i + D i tick) level

-- the units that a level has at a tick, those that become ready at it too
abbrev pub ready : Demands → ℕ → ℕ → ℕ
ready D tick level = owing D tick level + D level tick

-- the level that runs in a tick: the highest with a unit
abbrev pub runs : Demands → ℕ → ℕ → Bool
runs D tick level = sum_below (ready D tick) level == 0 && nat_lt 0 (ready D tick level)

-- no level has a unit
abbrev pub Idle : Demands → ℕ → Type 0
Idle D tick = (level : ℕ) → ready D tick level ≡ 0

-- in how many ticks before a tick a level ran
abbrev pub done : Demands → ℕ → ℕ → ℕ
done D level zero = 0
done D level (suc tick) = done D level tick + cond (runs D tick level) 1 0
