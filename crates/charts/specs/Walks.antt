-- A walk gives the entries that lie ahead one after the other.
use Rattle.std.specs.Prelude.{◌≡◌, List, [], ◌∷◌, Some, None, Option}

module _ {W E : Type 0} (Ahead : W → List E → Type 0) where
  -- e lies ahead of w, and then what lies ahead of w'
  pub record Gave (w : W) (e : E) (w' : W) : Type 0 where
    pub ahead : (entries : List E) → Ahead w' entries → Ahead w (e ∷ entries)
    pub only : (entries : List E) → Ahead w entries → (rest : List E) × (entries ≡ e ∷ rest) × Ahead w' rest

  -- the next entry, or none where nothing lies ahead
  abbrev pub Gives : W → Option E → W → Type 0
  Gives w (Some e) w' = Gave w e w'
  Gives w None w' = Ahead w [] × ((entries : List E) → Ahead w entries → entries ≡ [])
