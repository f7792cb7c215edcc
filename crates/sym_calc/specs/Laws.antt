-- Laws that tie what a symbolic calc knows to paths of certificates.
use Rattle.std.specs.Prelude.{◌≡◌, ℕ, ◌<◌, ◌^◌, ◌↔◌, ℤ, List, Some, IsTrue}
use Rattle.viz_base.specs.declared.worlds.World.{World}
use Rattle.viz_base.specs.declared.worlds.Rect.{Rect}
use Rattle.viz_base.specs.Jobs.{IsFormed}
use Rattle.viz_calc.specs.World.{Reading}
use Rattle.viz_base.specs.Worlds.{IsInRange}
use Rattle.lin_proof.specs.Form.{Form}
use Rattle.lin_proof.specs.declared.derivation.Answer.{Answer}
use Rattle.lin_proof.specs.Derivations.{first_fault}
use Rattle.cert_semantics.specs.Paths.{Path as Steps, ◌▸◌, form_of, variables, IsOn, AreSound}
use Rattle.cert_semantics.specs.Facts.{facts}
use Rattle.cert_semantics.specs.Derived.{AreEntailed, below_floors, AreFloors, denial, AreRefuted}
use Rattle.sym_calc.specs.declared.floors.Floor.{Floor}
use Rattle.sym_calc.specs.declared.paths.Origin.{Origin}
use Rattle.sym_calc.specs.Floors.{floors_of}
use Rattle.sym_calc.specs.History.{are_fit, are_right, is_wrong}
use Rattle.sym_calc.specs.Knowledge.{is_open, is_kept, AreKnown}

-- where a path of steps begins, in a range that has one height in form 1
abbrev pub origin_of : Rect → Steps → Origin
origin_of range steps = record { form = form_of steps; height = range.hl }

-- the worlds that are kept over a path whose lemmas were derived are those of the range on it
abbrev pub KeptAreThoseOfThePath : Type 0
KeptAreThoseOfThePath = (range : Rect) (steps : Steps) → IsFormed (form_of steps) range → AreSound steps
    → AreEntailed range steps → (world : World)
    → IsTrue (is_kept (origin_of range steps) (facts range steps) (floors_of steps) world) ↔
    (IsInRange range world × IsOn steps world)

-- a reading that is open over a path is of a world of the range on it
abbrev pub OpenAreOnThePath : Type 0
OpenAreOnThePath = (range : Rect) (steps : Steps) → IsFormed (form_of steps) range → AreSound steps → (e : Reading)
    → IsTrue (is_open (origin_of range steps) (facts range steps) e) → IsInRange range e.world × IsOn steps e.world

-- where steps are sound and have less than 2^32 variables, their facts say of their floors what they are
abbrev pub SoundIsKnown : Type 0
SoundIsKnown = (range : Rect) (steps : Steps) → AreSound steps → variables steps < 2 ^ 32
    → AreKnown (form_of steps) (facts range steps) (floors_of steps)

-- answers that are right below floors of a path are refuted where they are denied
abbrev pub RightIsRefuted : Type 0
RightIsRefuted = (range : Rect) (steps : Steps) (own : List Floor) (answers : List Answer)
    → IsTrue (are_fit (form_of steps) (floors_of steps) own)
    → IsTrue (are_right (form_of steps) (facts range steps) (floors_of steps) own 0 answers) → AreRefuted range steps answers

-- below some floors the derivation of an answer is wrong at this line, and at none before it
pub record IsFaultBelow (range : Rect) (steps : Steps) (answer : Answer) (line : ℕ) : Type 0 where
  pub floors : List (Form × ℤ)
  pub are_floors : AreFloors range steps floors
  pub wrong : first_fault (facts range (denial answer.yes answer.row ▸ below_floors steps floors))
      (variables (below_floors steps floors)) answer.why ≡ Some line

-- an answer that is wrong at a line below floors of a path has such a fault
abbrev pub WrongIsFault : Type 0
WrongIsFault = (range : Rect) (steps : Steps) (own : List Floor) (answer : Answer) (line : ℕ)
    → IsTrue (are_fit (form_of steps) (floors_of steps) own)
    → IsTrue (is_wrong (form_of steps) (facts range steps) (floors_of steps) own line answer)
    → IsFaultBelow range steps answer line
