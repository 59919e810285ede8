-- What a call answers: its value, unless something refuses it.
use Rattle.std.specs.Prelude.{◌≡◌, Bool, true, false, Some, None, Ok, Err, Option, Result}
use Rattle.refusals.specs.declared.Refusal.{Refusal}

-- the refusal where there is one, else the value
abbrev pub answer : {T : Type 0} → Option Refusal → T → Result T Refusal
answer None value = Ok value
answer (Some refusal) value = Err refusal

-- refused for this reason, or else answered with a value of which P holds
abbrev pub AnswersWith : {T : Type 0} → Option Refusal → (T → Type 0) → Result T Refusal → Type 0
AnswersWith refusal P (Ok value) = (refusal ≡ None) × P value
AnswersWith refusal P (Err reason) = refusal ≡ Some reason

-- this refusal, if the condition holds
abbrev pub refuse_if : Bool → Refusal → Option Refusal
refuse_if true refusal = Some refusal
refuse_if false refusal = None

-- the first refusal where there is one, else the second
abbrev pub or_else : Option Refusal → Option Refusal → Option Refusal
or_else None second = second
or_else (Some refusal) second = Some refusal
