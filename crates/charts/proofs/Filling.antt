-- A list that a walk fills.
use Rattle.std.proofs.Common.{◌≡◌, ◌<◌, List, [], ◌∷◌, ◌++◌, length, None, Some, Option, Result, sym, refl, ap, ◌∙◌, subst, arith, length-append}
use Rattle.std.proofs.lemmas.List.{append-nil}
use Rattle.std.specs.Iterator.{Yields, Drains}
use Rattle.refusals.specs.declared.Refusal.{Refusal}
use Rattle.entries.specs.declared.list.List.{List as EntryList}
use Rattle.charts.specs.Listing.{Lists}
use Rattle.charts.specs.Walks.{Gives}

-- entries that are told of in other words
pub told_as :
    {E : Type 0} (Told Told' : List E → Type 0) → ((entries : List E) → Told entries → Told' entries) →
    (before after : EntryList E) (r : Result (Unit {0}) Refusal) → Lists Told before r after → Lists Told' before r after
told_as Told Told' same before after r (entries, told, listed) = (entries, same entries told, listed)

module _ {W E : Type 0} (Ahead : W → List E → Type 0) (next : W → Option E → W → Type 0) (gives : (w : W) (r : Option E) (w' : W) → next w r w' → Gives Ahead w r w') where
  -- what a walk gave lay ahead of it, before what lies ahead of it now
  gave_ahead : (w w' : W) (given : List E) → Yields next w given w' → (rest : List E) → Ahead w' rest → Ahead w (given ++ rest)
  gave_ahead w w' [] yields rest ahead = subst (λ v. Ahead v rest) (sym yields) ahead
  gave_ahead w w' (e ∷ given) (v, step, yields) rest ahead = (gives w (Some e) v step).ahead _ (gave_ahead v w' given yields rest ahead)

  pub drained_ahead : (w : W) (given : List E) → Drains next w given → Ahead w given
  drained_ahead w given drained =
      let last = drained.1 in
      subst (Ahead w) (append-nil given) (gave_ahead w last.0 given last.1 [] (gives last.0 None drained.0 last.2).0)

  -- what lies ahead begins with what a walk gave
  only_ahead :
      (w w' : W) (given : List E) → Yields next w given w' → (entries : List E) → Ahead w entries →
      (rest : List E) × (entries ≡ given ++ rest) × Ahead w' rest
  only_ahead w w' [] yields entries ahead = (entries, refl, subst (λ v. Ahead v entries) yields ahead)
  only_ahead w w' (e ∷ given) (v, step, yields) entries ahead =
      let first = (gives w (Some e) v step).only entries ahead in
      let others = only_ahead v w' given yields first.0 first.2 in
      (others.0, first.1 ∙ ap (λ rest. e ∷ rest) others.1, others.2)

  -- one entry more is one of those that were counted
  module _ (w v w' : W) (given entries : List E) (yields : Yields next w given v) (ahead : Ahead w entries) where
    pub more_ahead : (e : E) → next v (Some e) w' → length given < length entries
    more_ahead e step =
        let so_far = only_ahead w v given yields entries ahead in
        let one = (gives v (Some e) w' step).only so_far.0 so_far.2 in
        omega (arith, ap length so_far.1, length-append given so_far.0, ap length one.1)

    -- at its end a walk has given all
    pub all_ahead : next v None w' → given ≡ entries
    all_ahead step =
        let so_far = only_ahead w v given yields entries ahead in
        let none = (gives v None w' step).1 so_far.0 so_far.2 in
        sym (so_far.1 ∙ ap (λ rest. given ++ rest) none ∙ append-nil given)
