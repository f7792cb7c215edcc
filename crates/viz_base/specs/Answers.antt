-- Which answer of a call stands for which answer of a definition: exactly its value, or exactly the
-- refusal that its fault names. A fault that names none is want of memory, which says nothing.
use Rattle.std.specs.Prelude.{◌≡◌, Result, Ok, Err, Option, Some, None}

abbrev pub FailsWith : {B F : Type 0} → Option F → (Result B F → Type 0) → Type 0
FailsWith (Some refusal) Answer = Answer (Err refusal)
FailsWith None Answer = Unit {0}

-- the definition, which may have several answers, has this one
abbrev pub GivesOneOf : {A B E F : Type 0} → (A → B) → (E → Option F) → Result A E → (Result B F → Type 0) → Type 0
GivesOneOf value refusal (Ok x) Answer = Answer (Ok (value x))
GivesOneOf value refusal (Err fault) Answer = FailsWith (refusal fault) Answer

-- the definition has one answer, and it is this one
abbrev pub Gives : {A B E F : Type 0} → (A → B) → (E → Option F) → Result A E → Result B F → Type 0
Gives value refusal result answer = GivesOneOf value refusal result (λ given. answer ≡ given)
