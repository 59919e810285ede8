-- From the members of a judged place to the answer for that place.
use Rattle.std.proofs.Common.{◌≡◌, ℕ, ◌*◌, ◌≤◌, Bool, false, not, length, is_some, Some, None, MatchBool, Option, MatchOption, ap, ◌∙◌, inr, mul-zero, sym, subst, arith}
use Rattle.std.proofs.lemmas.List.{get_or_past}
use Rattle.tasks.specs.declared.case.Case.{Case}
use Rattle.tasks.specs.declared.judged.Judged.{Judged}
use Rattle.tasks.specs.declared.places.Places.{Places}
use Rattle.tasks.specs.Cases.{tasks_of}
use Rattle.lateness.specs.declared.members.Members.{Members}
use Rattle.lateness.specs.Below.{LateBelow, NeverLateBelow, Responds, RespondsIn}
use Rattle.lateness.specs.Members.{MembersOf}

-- without a task nothing is late
no_task : (case : Case) (judged : ℕ) (above : Places) → length (tasks_of case) ≤ judged → NeverLateBelow case judged above
no_task case judged above past k late =
    let none = ap (λ f. k * f.work) (get_or_past (tasks_of case) judged (record { work = 0; period = 0; deadline = 0 }) past) ∙ mul-zero k in omega arith

-- whether a judged task is ever late
abbrev pub Rules : Judged → Bool → Type 0
Rules judged r =
    MatchBool r (LateBelow judged.case.now judged.place judged.above.now) (NeverLateBelow judged.case.now judged.place judged.above.now)

module _ (judged : Judged) where
  pub responds :
      (m : Members) (response : Option ℕ) → m.judged ≡ judged → RespondsIn m response →
      Responds judged.case.now judged.place judged.above.now response
  responds m response of found = subst (λ j. Responds j.case.now j.place j.above.now response) of (go response found)
    where
      go : (r : Option ℕ) → RespondsIn m r → Responds m.judged.case.now m.judged.place m.judged.above.now r
      go (Some worst) found = (m.held, found.0, found.1)
      go None late = inr late

  pub ruled :
      (members : Option Members) (r : Bool) → MembersOf judged members →
      MatchOption members (r ≡ false) (λ m. (response : Option ℕ) × RespondsIn m response × (r ≡ not (is_some response))) → Rules judged r
  ruled None r past is = subst (Rules judged) (sym is) (no_task judged.case.now judged.place judged.above.now past)
  ruled (Some m) r of (response, found, is) = subst (Rules judged) (sym is) (subst (λ j. Rules j (not (is_some response))) of (go response found))
    where
      go : (o : Option ℕ) → RespondsIn m o → Rules m.judged (not (is_some o))
      go (Some worst) found = found.0
      go None late = late
