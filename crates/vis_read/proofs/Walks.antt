-- Runs of steps over judged tokens.
use Rattle.std.proofs.Common.{◌≡◌, List, ◌∷◌, ◌++◌, Some, refl, ◌∙◌}
use Rattle.vis_read.specs.declared.lexemes.Lexeme.{Lexeme}
use Rattle.vis_read.specs.declared.reading.Reading.{Reading}
use Rattle.vis_read.specs.Grammar.{Check, Judged}
use Rattle.vis_read.specs.steps.Machine.{step, ended}

-- from one state to another by these tokens up to those, each with the check that the step gives it
pub data Walk : Reading → List Judged → List Judged → Reading → Type 0 where
  stop : {s : Reading} {js : List Judged} → Walk s js js s
  take : {s next last : Reading} {j : Judged} {js us : List Judged} → step s j.lexeme ≡ Some (next, j.check) → Walk next js us last → Walk s (j ∷ js) us last

pub walk_on : {s m t : Reading} {js us vs : List Judged} → Walk s js us m → Walk m us vs t → Walk s js vs t
walk_on stop w = w
walk_on (take e v) w = take e (walk_on v w)

-- more tokens behind
pub walk_before : {s m : Reading} {js us : List Judged} → Walk s js us m → (more : List Judged) → Walk s (js ++ more) (us ++ more) m
walk_before stop more = stop
walk_before (take e w) more = take e (walk_before w more)

-- one state goes on and ends as another does
pub record Like (m t : Reading) : Type 0 where
  pub steps : (l : Lexeme) (x : Reading × Check) → step t l ≡ Some x → step m l ≡ Some x
  pub ends : ended m ≡ ended t

pub like_same : (s : Reading) → Like s s
like_same s = record { steps = λ l x e. e; ends = refl }

pub like_on : {s m t : Reading} → Like s m → Like m t → Like s t
like_on f g = record { steps = λ l x e. f.steps l x (g.steps l x e); ends = f.ends ∙ g.ends }

-- to a state like this one
pub record Reach (s : Reading) (js us : List Judged) (t : Reading) : Type 0 where
  pub last : Reading
  pub walk : Walk s js us last
  pub like : Like last t

pub here : {s : Reading} {js : List Judged} → Reach s js js s
here {s = s} = record { last = s; walk = stop; like = like_same s }

-- from a state like the first
pub from_like : {s t last : Reading} {js us : List Judged} → Like s t → Walk t js us last → Reach s js us last
from_like {s = s} f stop = record { last = s; walk = stop; like = f }
from_like f (take {next = next} {j = j} e w) = record { last = _; walk = take (f.steps j.lexeme (next, j.check) e) w; like = like_same _ }

pub like_reach : {s t last : Reading} {js us : List Judged} → Like s t → Reach t js us last → Reach s js us last
like_reach f r = let g = from_like f r.walk in record { last = g.last; walk = g.walk; like = like_on g.like r.like }

pub reach_on : {s m t : Reading} {js us vs : List Judged} → Reach s js us m → Reach m us vs t → Reach s js vs t
reach_on r q = let g = from_like r.like q.walk in record { last = g.last; walk = walk_on r.walk g.walk; like = like_on g.like q.like }

-- a step first
pub reach_by : {s next last : Reading} {j : Judged} {js us : List Judged} → step s j.lexeme ≡ Some (next, j.check) → Reach next js us last → Reach s (j ∷ js) us last
reach_by e r = record { last = r.last; walk = take e r.walk; like = r.like }

pub reach_like : {s t last : Reading} {js us : List Judged} → Reach s js us t → Like t last → Reach s js us last
reach_like r f = record { last = r.last; walk = r.walk; like = like_on r.like f }
