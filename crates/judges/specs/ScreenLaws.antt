-- Two judges side by side.
use Rattle.std.specs.Prelude.{◌⊎◌}
use Rattle.std.proofs.Common.{⊎_elim}
use Rattle.std.proofs.Math.Logic.{⊎_map}
use Rattle.judges.specs.Meaning.{Meaning, Lawful}

-- a yes of either keeps the laws that both keep
pub either_lawful :
    (M N : Meaning) → Lawful M → Lawful N → Lawful (λ tasks starts judged above. M tasks starts judged above ⊎ N tasks starts judged above)
either_lawful M N m n =
    record {
      placed = λ tasks starts judged above. ⊎_elim (m.placed tasks starts judged above) (n.placed tasks starts judged above);
      others = λ tasks tasks' starts starts' judged above above' fair fair' inside same there back.
          ⊎_map (m.others tasks tasks' starts starts' judged above above' fair fair' inside same there back)
          (n.others tasks tasks' starts starts' judged above above' fair fair' inside same there back);
      fewer = λ tasks starts judged above less fair fewer.
          ⊎_map (m.fewer tasks starts judged above less fair fewer) (n.fewer tasks starts judged above less fair fewer);
      sound = λ tasks starts judged above fair. ⊎_elim (m.sound tasks starts judged above fair) (n.sound tasks starts judged above fair);
      related = λ tasks starts starts' judged above fair rel.
          ⊎_map (m.related tasks starts starts' judged above fair rel) (n.related tasks starts starts' judged above fair rel);
    }
