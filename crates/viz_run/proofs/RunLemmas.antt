-- What a load tells of a file.
use Rattle.std.proofs.Common.{◌≡◌, ℕ, ◌+◌, ◌<◌, ◌≤◌, List, Bool, true, false, Option, Some, None, Result, Ok, IfSome, option_map, length, nat_le, replicate, arith, refl, sym, subst, inl, inr}
use Rattle.std.proofs.lemmas.List.{length-replicate}
use Rattle.std.proofs.lemmas.Bool.Decides.{nat_tests}
use Rattle.viz_outside.specs.declared.shelf.Loaded.{Loaded}
use Rattle.viz_outside.specs.declared.shelf.Loaded.TheVariants.{Whole, Longer}
use Rattle.viz_outside.specs.declared.shelf.ShelfFault.{ShelfFault}
use Rattle.viz_outside.specs.Shelf.{loaded_of}
use Rattle.viz_base.specs.Numbers.{Rose}
use Rattle.viz_outside.proofs.FaultLemmas.{rose_within}
use Rattle.viz_base.specs.declared.jobs.Job.{Job}
use Rattle.viz_replies.specs.declared.reply.Answer.{Answer}
use Rattle.viz_replies.specs.declared.reply.Reply.{Reply}
use Rattle.viz_replies.specs.declared.question.Question.{Question}
use Rattle.viz_replies.specs.declared.question.Question.TheVariants as asks
use Rattle.viz_replies.specs.declared.jobs.JobsRead.TheVariants as of_jobs
use Rattle.viz_replies.specs.Certificates.{cert_most}
use Rattle.viz_replies.specs.Jobs.{IsTooLong}
use Rattle.viz_replies.specs.Replies.{IsChecked, SpellNothing}
use Rattle.viz_run.specs.Files.{Files, Shelved, MayHold, IsGiven, LoadsBoth}
use Rattle.viz_run.specs.Run.{IsCheckOfFiles}
use Rattle.viz_run.specs.steps.Loads.{IsJobFile}

-- ---- files that are given whole

is_whole : (cap : ℕ) (held bytes : List ℕ) (b : Bool) → nat_le (length held) cap ≡ b → loaded_of cap held ≡ Whole bytes → held ≡ bytes
is_whole cap held bytes true e h = let same = rw e at h in cc
is_whole cap held bytes false e h = absurd (let same = rw e at h in cc)

whole_of : (cap : ℕ) (o : Option (List ℕ)) (bytes : List ℕ) → option_map (loaded_of cap) o ≡ Some (Whole bytes) → o ≡ Some bytes
whole_of cap None bytes h = absurd (cc)
whole_of cap (Some held) bytes h =
    let given : loaded_of cap held ≡ Whole bytes = cc in
    let same = is_whole cap held bytes (nat_le (length held) cap) refl given in
    cc

-- what was given whole is what the file may hold
whole : (files : Files) (name : List ℕ) (most : ℕ) (bytes : List ℕ)
    → IfSome files (λ held. option_map (loaded_of most) (held name) ≡ Some (Whole bytes)) → MayHold files name bytes
whole None name most bytes h = tt
whole (Some held) name most bytes h = whole_of most (held name) bytes h

whole_within : (cap : ℕ) (bytes : List ℕ) → length bytes ≤ cap → loaded_of cap bytes ≡ Whole bytes
whole_within cap bytes few =
    let fits : nat_le (length bytes) cap ≡ true = grind (arith, nat_tests) in
    rw fits refl

-- a load that gave bytes whole gave them
pub given_whole : {F : Type 0} (files : Files) (loads : F → List ℕ → ℕ → Result Loaded ShelfFault → F → Type 0) (name : List ℕ) (most : ℕ) (from to : F) (bytes : List ℕ)
    → IfSome files (λ held. option_map (loaded_of most) (held name) ≡ Some (Whole bytes)) → length bytes ≤ most
    → loads from name most (Ok (Whole bytes)) to → MayHold files name bytes × loads from name most (Ok (loaded_of most bytes)) to
given_whole files loads name most from to bytes told few loaded =
    let Gave : Loaded → Type 0 = λ gave. loads from name most (Ok gave) to in
    (whole files name most bytes told, subst Gave (sym (whole_within most bytes few)) loaded)

-- ---- files that are longer

a_longer_list : (n : ℕ) → (bytes : List ℕ) × (n < length bytes)
a_longer_list n = (replicate (n + 1) 0, omega (arith, length-replicate {A = ℕ} (n + 1) 0))

is_longer : (cap : ℕ) (bytes : List ℕ) (b : Bool) → nat_le (length bytes) cap ≡ b → loaded_of cap bytes ≡ Longer → cap < length bytes
is_longer cap bytes true e h = absurd (let h' = rw e at h in cc)
is_longer cap bytes false e h = grind (arith, nat_tests)

longer_of : (cap : ℕ) (o : Option (List ℕ)) → option_map (loaded_of cap) o ≡ Some Longer → (bytes : List ℕ) × (o ≡ Some bytes) × (cap < length bytes)
longer_of cap None h = absurd (cc)
longer_of cap (Some bytes) h = let same : loaded_of cap bytes ≡ Longer = cc in (bytes, refl, is_longer cap bytes (nat_le (length bytes) cap) refl same)

-- what was not given whole is longer
longer : (files : Files) (name : List ℕ) (most : ℕ) → IfSome files (λ held. option_map (loaded_of most) (held name) ≡ Some Longer)
    → (bytes : List ℕ) × MayHold files name bytes × (most < length bytes)
longer None name most h = let some = a_longer_list most in (some.0, tt, some.1)
longer (Some held) name most h = longer_of most (held name) h

longer_past : (cap : ℕ) (bytes : List ℕ) → cap < length bytes → loaded_of cap bytes ≡ Longer
longer_past cap bytes more =
    let past : nat_le (length bytes) cap ≡ false = grind (arith, nat_tests) in
    rw past refl

-- a load that gave that there are more bytes found such bytes
pub given_longer : {F : Type 0} (files : Files) (loads : F → List ℕ → ℕ → Result Loaded ShelfFault → F → Type 0) (name : List ℕ) (most : ℕ) (from to : F)
    → IfSome files (λ held. option_map (loaded_of most) (held name) ≡ Some Longer) → loads from name most (Ok Longer) to
    → (bytes : List ℕ) × (MayHold files name bytes × loads from name most (Ok (loaded_of most bytes)) to) × (most < length bytes)
given_longer files loads name most from to told loaded =
    let found = longer files name most told in
    let Gave : Loaded → Type 0 = λ gave. loads from name most (Ok gave) to in
    (found.0, (found.1, subst Gave (sym (longer_past most found.0 found.2)) loaded), found.2)

-- ---- faults

-- what rose in the last of two calls rose over both
pub rose_later : (a b c : ℕ) → a ≤ b → b ≤ c → Rose b c → Rose a c
rose_later a b c first last rose = rose_within a b c c first last rose (omega arith)

-- ---- replies

-- a shelf up to a state on the way
abbrev until : {F : Type 0} → Shelved F → F → Shelved F
until shelf between = record { files = shelf.files; loads = shelf.loads; old = shelf.old; new = between }

pub checked_about : {F : Type 0} (shelf : Shelved F) (name cert : List ℕ) (between : F) (jobs : List Job) (answer : Answer) (output : List ℕ)
    → IsJobFile (until shelf between) name (of_jobs.Read jobs)
    → (bytes : List ℕ) × IsGiven shelf cert cert_most between shelf.new bytes × IsChecked jobs bytes answer output
    → IsCheckOfFiles shelf name cert answer output
checked_about shelf name cert between jobs answer output file (bytes, given, reply) = record {
  bytes = file.bytes;
  between = between;
  given = file.given;
  reply = inr (record { cert_bytes = bytes; given = given; reply = record { jobs = jobs; spelled = file.reads.spelled; reply = reply } });
}

pub check_refused : {F : Type 0} (shelf : Shelved F) (name cert : List ℕ) (reply : Reply) → IsJobFile shelf name (of_jobs.Refused reply)
    → IsCheckOfFiles shelf name cert reply.answer reply.output.items
check_refused shelf name cert reply file = record { bytes = file.bytes; between = shelf.new; given = file.given; reply = inl (refl, file.reads) }

pub loads_both : {F : Type 0} (shelf : Shelved F) (name cert : List ℕ) (between : F) (jobs : List Job) (answer : Result Loaded ShelfFault)
    → IsJobFile (until shelf between) name (of_jobs.Read jobs) → shelf.loads between cert cert_most answer shelf.new → LoadsBoth shelf name cert answer
loads_both shelf name cert between jobs answer file loaded = record {
  first = record { bytes = file.bytes; between = between; given = file.given; jobs = jobs; spelled = file.reads.spelled };
  second = loaded;
}

-- bytes that are too many spell nothing that is asked for
pub long_spells_nothing : (bytes : List ℕ) (question : Question) (output : List ℕ) → IsTooLong bytes output → SpellNothing bytes question output
long_spells_nothing bytes (asks.Lay screen) output long = inl long
long_spells_nothing bytes (asks.Prove turns) output long = inl long
long_spells_nothing bytes (asks.Check cert) output long = inl long
